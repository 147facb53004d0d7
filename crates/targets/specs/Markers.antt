-- What a marker adds. Document 01, "Folding", rules 1 and 2.
use Rattle.std.specs.Prelude.{ℕ, ◌≡◌}
use Rattle.gfa_spec.specs.Bytes.{any}
use Rattle.normalize_spec.specs.Folding.{self_linked, repeats_on}
use Rattle.scan.specs.declared.places.Place.{Place}
use Rattle.tables.specs.declared.graph.Graph.{Graph}
use Rattle.tables.specs.ByNumber.{links_to, paths_to}
use Rattle.targets.specs.declared.marks.Marker.{Marker}
use Rattle.normalize_tables.specs.declared.normalizer.Normalizer.{Normalizer}
use Rattle.normalize_tables.specs.Normalizers.{SameTables}
use Rattle.targets.specs.Marking.{Adds, NameMarked, LinkMarked, UnitsKept, MarkedIs, NextMarked, PathMarked, MarkFoldedIs}

-- The graph whose segments are marked.
pub record MarkerGraph (m : Marker) (g : Graph) : Type 0 where
  pub text : g.text ≡ m.text
  pub work : g.work.now ≡ m.work.now
  pub bases : g.b ≡ m.b
  pub counts : g.n ≡ m.n

-- The tables and the place of the marks are the same.
pub record SameMarks (old new : Marker) : Type 0 where
  pub text : new.text ≡ old.text
  pub loan : new.work.ghost_name ≡ old.work.ghost_name
  pub bases : new.b ≡ old.b
  pub counts : new.n ≡ old.n
  pub base : new.base ≡ old.base

-- The segment that has the name is marked too.
pub record MarksName (old : Marker) (name : Place) (new : Marker) : Type 0 where
  pub same : SameMarks old new
  pub adds : NameMarked old.text.now old.work.now new.work.now old.b old.n old.base name

-- The segment of link i is marked too, where that is a self-link.
pub record MarksLink (old : Marker) (i : ℕ) (new : Marker) : Type 0 where
  pub same : SameMarks old new
  pub adds : LinkMarked old.text.now old.work.now new.work.now old.b old.n old.base i

-- The segments with a self-link are marked too.
pub record MarksSelfLinks (old new : Marker) : Type 0 where
  pub same : SameMarks old new
  pub adds : Adds (λ s. self_linked (links_to old.text.now old.work.now old.b old.n.links) s.id) old.text.now old.work.now new.work.now old.b old.n old.base

-- Of the marked segments those stay marked that may be folded.
pub record KeepsUnits (cap : ℕ) (old new : Marker) : Type 0 where
  pub same : SameMarks old new
  pub kept : UnitsKept cap old.text.now old.work.now new.work.now old.b old.n old.base

-- The steps from i to r are a maximal run; the segment it is on is marked too, where it is of two or more.
pub record MarksNext (old : Marker) (i end r : ℕ) (new : Marker) : Type 0 where
  pub same : SameMarks old new
  pub adds : NextMarked old.text.now old.work.now new.work.now old.b old.n old.base i end r

-- The segments are marked too that the steps have a run of two or more on.
pub record MarksPath (old : Marker) (first end : ℕ) (new : Marker) : Type 0 where
  pub same : SameMarks old new
  pub adds : PathMarked old.text.now old.work.now new.work.now old.b old.n old.base first end

-- The segments are marked too that some path has a run of two or more on.
pub record MarksPaths (old new : Marker) : Type 0 where
  pub same : SameMarks old new
  pub adds : Adds (λ s. any (repeats_on s.id) (paths_to old.text.now old.work.now old.b old.n.paths)) old.text.now old.work.now new.work.now old.b old.n old.base

-- ---- the two rules

-- Rule 1: the eligible segments are marked.
pub record MarksEligible (cap : ℕ) (old new : Normalizer) : Type 0 where
  pub same : SameTables old new
  pub marked : MarkedIs cap old.text.now old.work.now new.work.now old.b old.n old.g

-- Rule 2: the folded segments are marked and counted.
pub record MarksFolded (old : Normalizer) (r : ℕ) (new : Normalizer) : Type 0 where
  pub same : SameTables old new
  pub marked : MarkFoldedIs old.text.now old.work.now new.work.now old.b old.n old.g r
