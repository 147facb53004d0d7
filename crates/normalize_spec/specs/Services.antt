-- The service that normalizes: the refusals in their order, and the answer. Document 01, "The four services", "Refused calls", and rule 3.
use Rattle.std.specs.Prelude.{ℕ, Bool, true, false, cond, ◌&&◌, List, [], ◌∷◌, ◌++◌, map, ltb, length}
use Rattle.std.specs.Prelude.{Option, None, Some}
use Rattle.gfa_spec.specs.Bytes.{same, is_empty}
use Rattle.gfa_spec.specs.Reading.{Step, Segment, Entry, Path}
use Rattle.gfa_spec.specs.Records.{segments, paths}
use Rattle.gfa_spec.specs.Sequences.{complement}
use Rattle.gfa_spec.specs.Spelling.{Spelt, bad, spelt, spell}
use Rattle.gfa_spec.specs.Calls.{Refusal, plainly, Input, entries, input}
use Rattle.gfa_spec.specs.Services.{bad_step}
use Rattle.normalize_spec.specs.Folding.{New, NewStep, folded, transform}
use Rattle.normalize_spec.specs.Writing.{segment_line, rewritten}
use Rattle.normalize_spec.specs.Counting.{Stats, rewritten_stats, unchanged}

-- a new step, as a reader of the output has it
unfoldable pub as_step : NewStep → Step
as_step s = record { name = record { at = 0; bytes = s.name }; orientation = s.orientation }

-- a new segment, as a reader of the output has it
unfoldable pub as_segment : New → Segment
as_segment n = record { id = n.id; sequence = n.sequence; line = segment_line n }

-- do both spell, and the same bytes?
unfoldable pub same_spelling : Spelt → Spelt → Bool
same_spelling (spelt a) (spelt b) = same a b
same_spelling (spelt a) (bad n name) = false
same_spelling (bad n name) (spelt b) = false
same_spelling (bad n name) (bad m other) = false

-- What a normalization gives: a refusal, or the text and its statistics.
pub data Normal : Type 0 where
  refusal : Refusal → Normal
  normal : List ℕ → Stats → Normal

-- does every new path spell what its path spells?
unfoldable pub spells_alike : List Segment → List Segment → List Path → List (List NewStep) → Bool
spells_alike old new [] ts = true
spells_alike old new (p ∷ ps) [] = true
spells_alike old new (p ∷ ps) (t ∷ ts) = same_spelling (spell complement old p.steps) (spell complement new (map as_step t)) && spells_alike old new ps ts

-- the same of a text under a cap, the new segments standing behind the old
unfoldable pub unchanged_spelling : List Entry → ℕ → Bool
unchanged_spelling es cap =
    let t = transform es cap in
    spells_alike (segments es) (segments es ++ map as_segment t.made.new) (paths es) t.paths

-- 18 and 19; then 20: a path's spelling changed, which never happens (proofs/Service); else the rewritten text
unfoldable pub fold : List Entry → ℕ → Option Refusal → Normal
fold es cap (Some r) = Normal.refusal r
fold es cap None = cond (unchanged_spelling es cap) (normal (rewritten es cap) (rewritten_stats es cap)) (Normal.refusal (plainly 20))

-- rule 3: where none is folded the text returns byte for byte; 18 and 19 are given only where some segment is folded
unfoldable pub normalize_entries : List ℕ → ℕ → Input → Normal
normalize_entries text cap (Input.refusal r) = Normal.refusal r
normalize_entries text cap (entries es) = cond (is_empty (folded es cap)) (normal text (unchanged es)) (fold es cap (bad_step es (paths es)))

-- 22: the output buffer is shorter than the answer
unfoldable pub normal_fitted : ℕ → Normal → Normal
normal_fitted room (Normal.refusal r) = Normal.refusal r
normal_fitted room (normal text st) = cond (ltb room (length text)) (Normal.refusal (plainly 22)) (normal text st)

-- the service: a text, the cap, the length of the output buffer, and of the work area in words
unfoldable pub normalize : List ℕ → ℕ → ℕ → ℕ → Normal
normalize text cap room work = normal_fitted room (normalize_entries text cap (input text work))
