-- The runs that an iterator has left, one by one. Assumes nothing.
use Prim.Native.Nat.{ℕ, ◌≤◌}
use mathlib.Core.List.{List}
use mathlib.Core.Path.{◌≡◌}
use Rattle.std.specs.declared.ops.Range.{Range}
use Rattle.tables.specs.declared.tables.Bases.{Bases}
use Rattle.runs.specs.declared.runs.Runs.{Runs}
use Rattle.runs.specs.Runs.{RunFrom}
use Rattle.runs.specs.RunsLeft.{RunsOf, FirstRun, NoRun}

module _ {text work : List ℕ} {b : Bases} {first end : ℕ} {it it' : Runs} (s : RunsOf text work b first end it) where
  -- the run that was given is the first one, and the others are left
  pub given_start : {r : Range ℕ} → FirstRun it r it' → r.start ≡ first
  given_start f = rw (f.start, s.its_first)

  pub given_run : {r : Range ℕ} → FirstRun it r it' → RunFrom text work b first end r.end
  given_run f = rw (s.its_text, s.its_work, s.its_bases, s.its_first, s.its_end) at f.run

  pub given_left : {r : Range ℕ} → FirstRun it r it' → RunsOf text work b r.end end it'
  given_left f = rw (s.its_text, s.its_work, s.its_bases, s.its_end) at f.left

  -- none is left
  pub given_none : NoRun it it' → end ≤ first
  given_none n = rw (s.its_first, s.its_end) at n.none
