use Prim.Native.Nat.{◌+◌}
use native.Mathlib.Omega.{arith}
use mathlib.Core.Path.{ap, ◌∙◌}
use lib.ListN.{take}
use lib.Seq.{sets, take_all}
use Rattle.gfa_spec.proofs.Parts.{length_part, get_or_part}
use Rattle.writers.proofs.Writing.{turn, sets_before}
use Rattle.gfa_spec.specs.Bytes.{part}
use Rattle.sequences.proofs.repeated.copy_on.Goals as goal

pub loop-i-preserved : goal.loop-i-preserved
loop-i-preserved c =
    let l = c.loop-i in
    let a = c.args in
    let old = a.out.now in
    let long = length_part a.from a.n old (omega arith) in
    let byte = get_or_part a.from a.n l.i old (omega arith) in
    let kept = sets_before old a.to (take l.i (part a.from a.n old)) (a.from + l.i) (omega arith) in
    turn _ _ _ _ (omega arith) l.invariant (cc)

pub returns : goal.returns
returns c =
    let l = c.loop-i in
    let a = c.args in
    let long = length_part a.from a.n a.out.now (omega arith) in
    l.invariant ∙ ap (sets a.out.now a.to) (take_all l.i _ (omega arith))
