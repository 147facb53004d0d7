-- What folds a text: the graph that it reads, and what stays while it writes.
use Rattle.std.specs.Prelude.{◌≡◌}
use Rattle.tables.specs.declared.graph.Graph.{Graph}
use Rattle.normalize_tables.specs.declared.normalizer.Normalizer.{Normalizer}

-- The graph that is folded.
pub record NormalizerGraph (t : Normalizer) (g : Graph) : Type 0 where
  pub text : g.text ≡ t.text
  pub work : g.work.now ≡ t.work.now
  pub bases : g.b ≡ t.b
  pub counts : g.n ≡ t.n

-- The text, the loan of the work area and what says where its tables are stay the same.
pub record SameTables (old new : Normalizer) : Type 0 where
  pub text : new.text ≡ old.text
  pub loan : new.work.ghost_name ≡ old.work.ghost_name
  pub bases : new.b ≡ old.b
  pub counts : new.n ≡ old.n
  pub layout : new.g ≡ old.g
