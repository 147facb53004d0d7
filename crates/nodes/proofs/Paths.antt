-- Numbers of paths that may be missing, and their words. Assumes nothing.
use Prim.Native.Nat.{ℕ, ◌≤◌}
use native.Mathlib.Omega.{arith}
use mathlib.Core.Bool.{Bool, true, false, cond}
use mathlib.Core.Path.{◌≡◌, refl}
use borrow.Author.Tests.{ne_eqb}
use Rattle.std.specs.Prelude.{Option, Some, None}
use Rattle.work.specs.Rows.{word_of}
use Rattle.tables.specs.declared.entry.PathNo.{PathNo}
use Rattle.nodes.specs.Counters.{path_word, is_path, PathBelow}

-- a path of the first n is one of more
pub below_more : (n m : ℕ) (o : Option PathNo) → n ≤ m → PathBelow n o → PathBelow m o
below_more n m None l h = tt
below_more n m (Some k) l h = omega arith

-- and is not the one behind them
pub below_other : (n : ℕ) (o : Option PathNo) → PathBelow n o → is_path o n ≡ false
below_other n None h = refl
below_other n (Some k) h = ne_eqb k.0 n (λ e. omega arith)

-- its word is small
pub below_word : (n : ℕ) (o : Option PathNo) → PathBelow n o → path_word o ≤ n
unfolding word_of
below_word n None h = omega arith
below_word n (Some k) h = omega arith

-- a choice of two is one of them
pub below_either : (n : ℕ) (o p : Option PathNo) (t : Bool) → PathBelow n o → PathBelow n p → PathBelow n (cond t o p)
below_either n o p true h k = h
below_either n o p false h k = k
