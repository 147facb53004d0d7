-- What counts nodes: its tables, which stay the same, and what its graph reads. Assumes nothing.
use Prim.Native.Nat.{ℕ}
use mathlib.Core.Bool.{Bool}
use mathlib.Core.Path.{refl, ◌∙◌}
use Rattle.std.specs.Prelude.{Option}
use Rattle.tables.specs.declared.graph.Graph.{Graph}
use Rattle.tables.specs.declared.rows.LinkWords.{LinkWords}
use Rattle.tables.specs.declared.rows.PathWords.{PathWords}
use Rattle.tables.specs.declared.rows.StepWords.{StepWords}
use Rattle.scan.specs.declared.places.Place.{Place}
use Rattle.tables.specs.ByNumber.{LinkIs, PathIs, StepIs}
use Rattle.runs.specs.Runs.{RunFrom}
use Rattle.nodes.specs.declared.segment.Known.{Known}
use Rattle.nodes.specs.Table.{KnownIs, SearchIs}
use Rattle.tally.specs.declared.counting.Counting.{Counting}
use Rattle.tally.specs.Visits.{GoesOn}
use Rattle.tally.specs.Countings.{CountingGraph, SameCounting}

pub same_none : {c : Counting} → SameCounting c c
same_none = record { text = refl; loan = refl; bases = refl; counts = refl }

pub same_then : {a b c : Counting} → SameCounting a b → SameCounting b c → SameCounting a c
same_then s t = record { text = t.text ∙ s.text; loan = t.loan ∙ s.loan; bases = t.bases ∙ s.bases; counts = t.counts ∙ s.counts }

-- a graph whose nodes are counted reads what the tables have
module _ {c : Counting} {g : Graph} (o : CountingGraph c g) where
  pub link_in : {i : ℕ} {l : LinkWords} → LinkIs g.text.now g.work.now g.b i l → LinkIs c.text.now c.work.now c.b i l
  link_in q = rw (o.text, o.work, o.bases) at q

  pub path_in : {p : ℕ} {r : PathWords} → PathIs g.text.now g.work.now g.b g.n p r → PathIs c.text.now c.work.now c.b c.n p r
  path_in q = rw (o.text, o.work, o.bases, o.counts) at q

  pub step_in : {i : ℕ} {s : StepWords} → StepIs g.text.now g.work.now g.b i s → StepIs c.text.now c.work.now c.b i s
  step_in q = rw (o.text, o.work, o.bases) at q

  pub run_in : {i end r : ℕ} → RunFrom g.text.now g.work.now g.b i end r → RunFrom c.text.now c.work.now c.b i end r
  run_in q = rw (o.text, o.work, o.bases) at q

  pub search_in : {table m : ℕ} {name : Place} {r : Option ℕ} → SearchIs g.text.now g.work.now table m name r → SearchIs c.text.now c.work.now table m name r
  search_in q = rw (o.text, o.work) at q

  pub goes_in : {name : Place} {r end : ℕ} {t : Bool} → GoesOn g.text.now g.work.now g.b name r end t → GoesOn c.text.now c.work.now c.b name r end t
  goes_in q = rw (o.text, o.work, o.bases) at q

  pub known_in : {name : Place} {r : Known} → KnownIs g.text.now g.work.now g.b g.n name r → KnownIs c.text.now c.work.now c.b c.n name r
  known_in q = rw (o.text, o.work, o.bases, o.counts) at q
