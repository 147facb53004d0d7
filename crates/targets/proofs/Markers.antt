-- A marker's tables and the place of its marks, which stay the same. Assumes nothing.
use Prim.Native.Nat.{ℕ}
use Rattle.std.specs.Prelude.{Option}
use Rattle.scan.specs.declared.places.Place.{Place}
use Rattle.tables.specs.declared.entry.SegmentNo.{SegmentNo}
use Rattle.tables.specs.declared.graph.Graph.{Graph}
use Rattle.tables.specs.declared.rows.LinkWords.{LinkWords}
use Rattle.tables.specs.declared.rows.PathWords.{PathWords}
use Rattle.tables.specs.declared.rows.SegmentWords.{SegmentWords}
use Rattle.tables.specs.declared.rows.StepWords.{StepWords}
use Rattle.tables.specs.ByNumber.{LinkIs, SegmentIs, PathIs, StepIs, NamedIs}
use Rattle.runs.specs.Runs.{RunFrom}
use mathlib.Core.Path.{refl, ◌∙◌}
use Rattle.targets.specs.declared.marks.Marker.{Marker}
use Rattle.targets.specs.Markers.{MarkerGraph, SameMarks}

pub same_none : {m : Marker} → SameMarks m m
same_none = record { text = refl; loan = refl; bases = refl; counts = refl; base = refl }

pub same_then : {a b c : Marker} → SameMarks a b → SameMarks b c → SameMarks a c
same_then s t = record { text = t.text ∙ s.text; loan = t.loan ∙ s.loan; bases = t.bases ∙ s.bases; counts = t.counts ∙ s.counts; base = t.base ∙ s.base }

-- a graph whose segments are marked reads what the marker has
module _ {m : Marker} {g : Graph} (o : MarkerGraph m g) where
  pub link_in : {i : ℕ} {l : LinkWords} → LinkIs g.text.now g.work.now g.b i l → LinkIs m.text.now m.work.now m.b i l
  link_in q = rw (o.text, o.work, o.bases) at q

  pub segment_in : {i : ℕ} {s : SegmentWords} → SegmentIs g.text.now g.work.now g.b i s → SegmentIs m.text.now m.work.now m.b i s
  segment_in q = rw (o.text, o.work, o.bases) at q

  pub path_in : {p : ℕ} {r : PathWords} → PathIs g.text.now g.work.now g.b g.n p r → PathIs m.text.now m.work.now m.b m.n p r
  path_in q = rw (o.text, o.work, o.bases, o.counts) at q

  pub step_in : {i : ℕ} {s : StepWords} → StepIs g.text.now g.work.now g.b i s → StepIs m.text.now m.work.now m.b i s
  step_in q = rw (o.text, o.work, o.bases) at q

  pub run_in : {i end r : ℕ} → RunFrom g.text.now g.work.now g.b i end r → RunFrom m.text.now m.work.now m.b i end r
  run_in q = rw (o.text, o.work, o.bases) at q

  pub named_in : {name : Place} {r : Option SegmentNo} → NamedIs g.text.now g.work.now g.b g.n name r → NamedIs m.text.now m.work.now m.b m.n name r
  named_in q = rw (o.text, o.work, o.bases, o.counts) at q
