-- What the reader does with all lines of a text. Document 01, the refusals 5 to 17 in text order.
use Rattle.std.specs.Prelude.{Result, Ok, Err}
use Rattle.refusals.specs.declared.refusal.Refusal.{Refusal}
use Rattle.refusals.specs.Refusals.{stated}
use Rattle.std.specs.Prelude.{ℕ, ◌+◌, ◌*◌, ◌≤◌, ◌<◌, List, ◌≡◌, length}
use Rattle.tables.specs.declared.tables.Bases.{Bases}
use Rattle.tables.specs.declared.tables.Counts.{Counts}
use Rattle.gfa_spec.specs.Reading.{lines, parsed, parse}
use Rattle.gfa_spec.specs.Calls as calls
use Rattle.gfa_spec.specs.Calls.{of_parsed}
use Rattle.tables.specs.Names.{NamesSlotted}
use Rattle.tables.specs.Entries.{entries_at}
use Rattle.lines.specs.Room.{segs_in, links_in, paths_in, spare_in, total}
use Rattle.tables.specs.Tables.{Tables}

-- What the reader asks of a text and a work area: each table but the steps' has room for the tally, and a row more; no segment is in any slot.
pub record Roomy (text work : List ℕ) (b : Bases) : Type 0 where
  pub short : length text ≤ 1048576
  pub apart : b.lines + 3 * length (lines text) + 3 ≤ b.segs
  pub between : b.segs + 7 * total segs_in (lines text) + 7 ≤ b.heads
  pub heads : b.heads < b.links
  pub beyond : b.links + 8 * total links_in (lines text) + 8 ≤ b.paths
  pub behind : b.paths + 5 * total paths_in (lines text) + 5 ≤ b.steps
  pub room : b.steps + total spare_in (lines text) ≤ length work
  pub names : NamesSlotted text work b 0

-- The text is accepted, and its entries are those of the tables.
pub record TextRead (text before work : List ℕ) (b : Bases) (n : Counts) : Type 0 where
  pub read : parse text ≡ parsed (entries_at text work b n.lines)
  pub tables : Tables text before work b n

-- by the cases of the answer
abbrev pub OutcomeSays : List ℕ → List ℕ → List ℕ → Bases → Result Counts Refusal → Type 0
OutcomeSays text before work b (Ok n) = TextRead text before work b n
OutcomeSays text before work b (Err r) = of_parsed (parse text) ≡ calls.Input.refusal (stated r)

-- What the answer to all lines says: the tables, or the first refusal of 5 to 17.
pub record OutcomeIs (text before work : List ℕ) (b : Bases) (r : Result Counts Refusal) : Type 0 where
  pub says : OutcomeSays text before work b r
