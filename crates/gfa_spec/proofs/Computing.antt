-- For claims that are computed: to unfold `computing` is to unfold every definition of how a text is read and spelled. Assumes nothing.
use mathlib.Core.Bool.{Bool, true}
use Rattle.gfa_spec.specs.Bytes
use Rattle.gfa_spec.specs.Decimal
use Rattle.gfa_spec.specs.Sums
use Rattle.gfa_spec.specs.Reading
use Rattle.gfa_spec.specs.Records
use Rattle.gfa_spec.specs.Sequences
use Rattle.gfa_spec.specs.Spelling
use Rattle.gfa_spec.specs.Runs
use Rattle.gfa_spec.specs.Calls
use Rattle.gfa_spec.specs.Services
use Rattle.gfa_spec.specs.Conditions

-- every definition of these modules, as one name
unfoldable pub computing : Bool
unfolding Bytes.bytes Bytes.same Bytes.last_place Bytes.last_difference Bytes.star Bytes.is_empty Bytes.one Bytes.nil Bytes.any Bytes.all Bytes.keep Bytes.count Bytes.sum Bytes.join Bytes.join_with Bytes.tabbed Bytes.end_line Bytes.ended Bytes.last_byte Bytes.prepend Bytes.between Bytes.copies Bytes.repeat Bytes.part Bytes.bytes_of Bytes.longer Bytes.split Bytes.nth Bytes.distinct Decimal.digits_to Decimal.decimal Decimal.is_digit Decimal.value_from Decimal.largest64 Decimal.is_numeral Decimal.unsigned Decimal.number_of Sums.stepped Sums.sum_from Sums.name_sum Sums.exact_from Reading.drop_final Reading.drop_return Reading.line_of Reading.lines Reading.fields Reading.nowhere Reading.field Reading.choose Reading.then Reading.map_read Reading.is_orientation Reading.is_step Reading.step_of Reading.parse_items Reading.parse_psteps Reading.is_mark Reading.orientation_of Reading.walk Reading.non_empty Reading.parse_wsteps Reading.parse_orientation Reading.parse_s Reading.parse_l Reading.parse_p Reading.parse_w Reading.parse_fields Reading.starts_comment Reading.parse_line Reading.id_of Reading.after Reading.onward Reading.parse_lines Reading.parse Records.collect Records.leading Records.others Records.segments Records.links Records.paths Records.sequence_of Records.sequence_or_empty Records.has_sequence Records.segment_number Records.is_self_link Records.self_links Sequences.complement Sequences.reverse_complement Sequences.oriented Sequences.sequence_len Sequences.sequence_preview Spelling.behind Spelling.spell_step Spelling.spell Runs.same_node Runs.same_step Runs.extend Runs.runs Runs.is_repeat Runs.bit Runs.pairs Runs.over_paths Runs.same_node_pairs Runs.same_step_pairs Runs.step_count Calls.plainly Calls.on_line Calls.at_place Calls.on_name Calls.bad_byte Calls.of_parsed Calls.of_bytes Calls.input Calls.fitted Services.bad_step Services.nth_path Services.of_spelt Services.of_path Services.spell_entries Services.spell_path Conditions.is_single Conditions.is_none Conditions.is_malformed Conditions.has_empty_step
computing = true
