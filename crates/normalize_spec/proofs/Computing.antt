-- For claims that are computed: to unfold `computing` is to unfold every definition of how a text is read, spelled and normalized.
-- Assumes nothing.
use mathlib.Core.Bool.{Bool, true}
use Rattle.gfa_spec.proofs.Computing as gfa
use Rattle.normalize_spec.specs.Folding
use Rattle.normalize_spec.specs.NewNames
use Rattle.normalize_spec.specs.Links
use Rattle.normalize_spec.specs.Writing
use Rattle.normalize_spec.specs.Counting
use Rattle.normalize_spec.specs.Services
use Rattle.normalize_spec.specs.Guarantees

-- every definition of these modules, as one name
unfoldable pub computing : Bool
unfolding gfa.computing Folding.self_linked Folding.within Folding.is_unit Folding.eligible Folding.repeats_on Folding.is_folded Folding.folded Folding.is_folded_run Folding.largest_id Folding.usable Folding.is_plain Folding.sanitized Folding.base_name Folding.suffixed Folding.free_name Folding.new_id Folding.made_for Folding.taken Folding.new_segment Folding.next_after Folding.make_segment Folding.same_new_node Folding.same_new_step Folding.as_new Folding.onto Folding.fold_run Folding.keep_run Folding.turn Folding.transform_runs Folding.transform_paths Folding.none_made Folding.transform NewNames.suffix NewNames.new_name NewNames.name_tail Links.is_removed Links.kept Links.same_key Links.key_of Links.adjacent Links.missing Links.added Writing.segment_line Writing.link_line Writing.p_token Writing.w_token Writing.step_field Writing.replace Writing.with_steps Writing.path_line Writing.path_lines Writing.rewritten Counting.unchanged Counting.folded_runs Counting.rewritten_stats Services.as_step Services.as_segment Services.same_spelling Services.spells_alike Services.unchanged_spelling Services.fold Services.normalize_entries Services.normal_fitted Services.normalize Guarantees.looser Guarantees.steps_of Guarantees.loss_of Guarantees.loss
computing = true
