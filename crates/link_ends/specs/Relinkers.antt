-- What a relinker settles. Document 01, "Folding", rule 6.
use Rattle.std.specs.Prelude.{ℕ, Bool, ◌≡◌}
use Rattle.normalize_tables.specs.declared.new_graph.NewGraph.{NewGraph}
use Rattle.link_ends.specs.declared.relinker.Relinker.{Relinker}
use Rattle.link_ends.specs.LinkEnds.{EndsSettled, AllEnds}

-- The graph whose links are settled.
pub record RelinkerGraph (l : Relinker) (g : NewGraph) : Type 0 where
  pub text : g.text ≡ l.text
  pub work : g.work.now ≡ l.work.now
  pub area : g.a ≡ l.a

-- The text, the loan of the work area and what says where its tables are stay the same.
pub record SameLinks (old new : Relinker) : Type 0 where
  pub text : new.text ≡ old.text
  pub loan : new.work.ghost_name ≡ old.work.ghost_name
  pub area : new.a ≡ old.a

-- The words of link i are put; the answer is whether it is removed.
pub record SettlesEnds (old : Relinker) (i : ℕ) (r : Bool) (new : Relinker) : Type 0 where
  pub same : SameLinks old new
  pub settled : EndsSettled old.text.now old.work.now new.work.now old.a.b old.a.n old.a.g old.a.m i r

-- The words of all links are put, and the removed ones counted.
pub record SettlesAllEnds (old : Relinker) (r : ℕ) (new : Relinker) : Type 0 where
  pub same : SameLinks old new
  pub all : AllEnds old.text.now old.work.now new.work.now old.a.b old.a.n old.a.g old.a.m r
