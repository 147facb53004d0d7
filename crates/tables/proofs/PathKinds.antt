-- The kind of a path by its word. Assumes nothing.
use Rattle.std.proofs.Common.{ℕ, ◌≡◌}
use borrow.Author.Tests.{ne_eqb}
use Rattle.gfa_spec.specs.Reading.{P, W}
use Rattle.tables.specs.Paths.{kind_of}

-- 0 stands for P
pub kind_p : (k : ℕ) → k ≡ 0 → P ≡ kind_of k
unfolding kind_of
kind_p k e = rw e

-- any other word for W
pub kind_w : (k : ℕ) → (k ≡ 0 → ⊥) → W ≡ kind_of k
unfolding kind_of
kind_w k h = rw (ne_eqb k 0 h)
