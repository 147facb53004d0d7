use Rattle.std.proofs.Common.{refl, ◌∙◌, arith, length-take-le}
use Rattle.writers.proofs.Writing.{keeps, stored}
use Rattle.sequences.proofs.Repeating.{length_repeated, fill_start, fill_ahead, fill_more, fill_end}
use Rattle.sequences.proofs.repeated.put_repeated.Goals as goal

pub loop-filled-init : goal.loop-filled-init
loop-filled-init c =
    let whole = length_repeated c.args.times c.args.s.now in
    fill_start c.args.times c.args.s.now _ _ _ _ c.args.w.now.out.now (keeps c.put.ensures.wrote) (rw whole c.product-size.ensures) c.room-room.ensures c.min-filled.ensures

pub copy_on-requires : goal.copy_on-requires
copy_on-requires c =
    let ahead = fill_ahead c.loop-filled.invariant c.loop-filled-test.true c.min-more.ensures in
    (ahead.source, ahead.target)

pub loop-filled-smaller : goal.loop-filled-smaller
loop-filled-smaller c = (fill_ahead c.loop-filled.invariant c.loop-filled-test.true c.min-more.ensures).less

pub loop-filled-preserved : goal.loop-filled-preserved
loop-filled-preserved c = fill_more c.loop-filled.invariant c.loop-filled-test.true c.min-more.ensures c.copy_on.ensures

pub returns : goal.returns
returns c =
    let whole = length_repeated c.args.times c.args.s.now in
    let shown = length-take-le c.min-filled.result c.args.s.now (omega arith) in
    let front = stored (omega (arith, shown)) c.put.ensures.wrote in
    record {
      same = c.skip.ensures.same ∙ c.put.ensures.same;
      limit = c.skip.ensures.limit ∙ c.put.ensures.limit;
      wrote = rw c.skip.ensures.bytes (fill_end c.loop-filled.invariant c.loop-filled-test.false (rw whole c.product-size.ensures) c.room-room.ensures c.min-filled.ensures front (c.skip.ensures.place ∙ rw c.put.ensures.limit refl));
    }
