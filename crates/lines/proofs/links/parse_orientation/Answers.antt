-- `lines::links::parse_orientation` meets its contract. Assumes nothing.
use Rattle.std.proofs.Common.{arith}
use Rattle.std.proofs.lemmas.Grind.{common_steps}
use Rattle.lines.proofs.LineFields.{sign_empty, sign_long, sign_one}
use Rattle.lines.proofs.links.parse_orientation.Goals as goal

pub returns-then-is_empty : goal.returns-then-is_empty
returns-then-is_empty g c = sign_empty c.args.empty c.args.other c.args.s.now (grind (arith, common_steps))

pub returns-then-s-gt1 : goal.returns-then-s-gt1
returns-then-s-gt1 g c = search sign_long

pub returns : goal.returns
returns g c =
    sign_one c.args.empty c.args.other c.args.s.now (grind (arith, common_steps)) c.if-s-gt1.false c.of.ensures c.ok_or.ensures.value
