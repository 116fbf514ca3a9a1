use Rattle.std.proofs.Common.{◌<◌, length, get_or, arith}
use Rattle.lotos_base.proofs.Members.{read_at}
use Rattle.path_order.proofs.Numbers.{next_is_new}
use Rattle.path_order.proofs.listings.with_all.Goals as goal

pub push-requires-clause-new : goal.push-requires-clause-new
push-requires-clause-new c =
    let within : c.loop-op.op-index < length c.args.found.now = omega arith in
    next_is_new c.args.made.order.items c.args.found.now c.loop-op.made.order.items c.loop-op.op-index
    (get_or c.args.found.now c.loop-op.op-index 0) c.loop-op.invariant.0 within
    (read_at c.args.found.now c.loop-op.op-index within) c.requires.once c.requires.new
