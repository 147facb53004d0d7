-- The tables of an admitted text. Assumes nothing.
use Prim.Native.Nat.{ℕ}
use mathlib.Core.List.{List}
use mathlib.Core.Path.{◌≡◌, refl, sym, ◌∙◌}
use lib.ListN.{length}
use Rattle.gfa_spec.specs.Runs.{step_count}
use Rattle.gfa_spec.proofs.Texts.{parse_distinct}
use Rattle.gfa_spec.proofs.Admission.{input_entries}
use Rattle.tables.specs.declared.tables.Bases.{Bases}
use Rattle.tables.specs.declared.tables.Counts.{Counts}
use Rattle.tables.specs.Segments.{ids_of}
use Rattle.tables.specs.Entries.{entries_at}
use Rattle.reader.specs.Inputs.{InputRead, InputIs}
use Rattle.std.specs.Prelude.{Result, Ok}
use Rattle.refusals.specs.declared.refusal.Refusal.{Refusal}
use Rattle.reader.proofs.Serving.{was_read}
use Rattle.runs.proofs.Totals.{over_entries}
use Rattle.normalize.specs.Loaded.{Loaded}
use Rattle.tables.proofs.Standing.{readable}

-- the tables that were read
read_loaded : {text before w : List ℕ} {b : Bases} {n : Counts} → InputRead text before w b n → Loaded text w b n
unfolding ids_of step_count
read_loaded {text} {before} {w} {b} {n} h =
    let a = input_entries text (length before) (entries_at text w b n.lines) h.read in
    record {
      tied = record { entries = refl; of_segments = sym h.tables.of_segments; of_links = sym h.tables.of_links; of_paths = sym h.tables.of_paths };
      readable = readable h.tables;
      apart = rw h.tables.of_segments at (parse_distinct text (entries_at text w b n.lines) a.reads);
      visits = over_entries h.tables length ∙ h.tables.visits;
    }

pub input_loaded : {text before w : List ℕ} {k : Result (Bases × Counts) Refusal} {b : Bases} {n : Counts} → InputIs text before w k → k ≡ Ok (b, n) → Loaded text w b n
input_loaded h e = read_loaded (was_read h e)
