use Rattle.new_names.proofs.Likeness.{alike_no, alike_more, alike_yes}
use Rattle.new_names.proofs.sanitized.same_sanitized.Goals as goal

pub returns-then-plain_byte : goal.returns-then-plain_byte
returns-then-plain_byte c =
    alike_no c.loop-i.invariant c.last_difference.ensures c.in-Some.is c.plain_byte.ensures c.plain_byte-in-Some.ensures c.if-plain_byte.true

pub loop-i-preserved : goal.loop-i-preserved
loop-i-preserved c =
    alike_more c.loop-i.invariant c.last_difference.ensures c.in-Some.is c.plain_byte.ensures c.plain_byte-in-Some.ensures c.if-plain_byte.false

pub returns : goal.returns
returns c = alike_yes c.loop-i.invariant c.last_difference.ensures c.in_default.is
