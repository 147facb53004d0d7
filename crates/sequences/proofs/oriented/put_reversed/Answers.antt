use Rattle.std.proofs.Common.{refl, sym, ◌∙◌, arith}
use Rattle.gfa_spec.specs.Sequences.{complement}
use Rattle.writers.proofs.Writing.{turn, puts_skipped}
use Rattle.sequences.proofs.SequenceLaws.{length_reversed, get_or_reversed}
use Rattle.sequences.proofs.oriented.put_reversed.Goals as goal

pub loop-i-preserved : goal.loop-i-preserved
loop-i-preserved c =
    let s = c.args.s.now in
    let long = length_reversed complement s in
    turn _ _ _ _ (omega arith) c.loop-i.invariant (c.complement.ensures ∙ sym (get_or_reversed s c.loop-i.i (omega arith)))

pub returns : goal.returns
returns c =
    let long = length_reversed complement c.args.s.now in
    puts_skipped {i = c.loop-i.i} refl refl refl c.loop-i.invariant (omega arith) (sym long) c.skip.ensures
