use Prim.Native.Nat.{◌+◌, ◌-◌}
use native.Mathlib.Omega.{arith}
use mathlib.Core.Path.{◌≡◌}
use Rattle.relink.proofs.Adders.{same_none, same_then}
use Rattle.relink.proofs.Adding.{pairing_start, pairing_more, pairing_end}
use Rattle.relink.proofs.pairs.add_path.Goals as goal

pub loop-k-init : goal.loop-k-init
loop-k-init c =
    let a = c.args.adder.now in
    let e : c.args.steps.first + 1 - 1 ≡ c.args.steps.first = omega arith in
    (same_none, rw e (pairing_start (a.relinkable, a.rows) (c.args.steps.ordered, c.requires.0, c.requires.1)))

pub loop-k-preserved : goal.loop-k-preserved
loop-k-preserved c =
    let s = c.loop-k.invariant.0 in
    let q = c.add_pair.ensures in
    let e : c.loop-k.k + 1 - 1 ≡ c.loop-k.k - 1 + 1 = omega arith in
    (same_then s q.same, rw e (pairing_more c.loop-k.invariant.1 (omega arith) (rw (s.text, s.area) at q.adds)))

pub returns : goal.returns
returns c = record { same = c.loop-k.invariant.0; adds = pairing_end c.loop-k.invariant.1 (omega arith) }
