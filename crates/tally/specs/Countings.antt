-- What counts nodes, and what it counts.
use Rattle.std.specs.Prelude.{ℕ, ◌≡◌}
use Rattle.tables.specs.declared.graph.Graph.{Graph}
use Rattle.tables.specs.declared.rows.LinkWords.{LinkWords}
use Rattle.tally.specs.declared.counting.Counting.{Counting}
use Rattle.tally.specs.Tabled.{NodeAdded, LinkAdded, NodesIs}
use Rattle.tally.specs.Visits.{NextCounted, PathCounted, PathsCounted}

-- The graph whose nodes are counted.
pub record CountingGraph (c : Counting) (g : Graph) : Type 0 where
  pub text : g.text ≡ c.text
  pub work : g.work.now ≡ c.work.now
  pub bases : g.b ≡ c.b
  pub counts : g.n ≡ c.n

-- The text, the loan of the work area and what says where its tables are stay the same.
pub record SameCounting (old new : Counting) : Type 0 where
  pub text : new.text ≡ old.text
  pub loan : new.work.ghost_name ≡ old.work.ghost_name
  pub bases : new.b ≡ old.b
  pub counts : new.n ≡ old.n

-- The row behind the others is that of a new node.
pub record AddsNode (old : Counting) (l : LinkWords) (new : Counting) : Type 0 where
  pub same : SameCounting old new
  pub none : new.m ≡ old.m
  pub adds : NodeAdded old.text.now old.work.now new.work.now old.b old.n old.m l

-- Link i is counted.
pub record AddsLink (old : Counting) (i : ℕ) (new : Counting) : Type 0 where
  pub same : SameCounting old new
  pub adds : LinkAdded old.text.now old.work.now new.work.now old.b old.n i old.m new.m

-- The nodes of all links are found, and no path is counted.
pub record FindsNodes (old new : Counting) : Type 0 where
  pub same : SameCounting old new
  pub finds : NodesIs old.text.now old.work.now new.work.now old.b old.n old.n.links new.m

-- The run from step i up to step r, of those before step `end`, is counted.
pub record CountsNext (old : Counting) (i end path r : ℕ) (new : Counting) : Type 0 where
  pub same : SameCounting old new
  pub none : new.m ≡ old.m
  pub counts : NextCounted old.text.now old.work.now new.work.now old.b old.n old.m i end path r

-- The steps from `first` up to `end` are counted.
pub record CountsPath (old : Counting) (first end path : ℕ) (new : Counting) : Type 0 where
  pub same : SameCounting old new
  pub none : new.m ≡ old.m
  pub counts : PathCounted old.text.now old.work.now new.work.now old.b old.n old.m first end path

-- All paths are counted.
pub record CountsPaths (old new : Counting) : Type 0 where
  pub same : SameCounting old new
  pub none : new.m ≡ old.m
  pub counts : PathsCounted old.text.now old.work.now new.work.now old.b old.n old.m
