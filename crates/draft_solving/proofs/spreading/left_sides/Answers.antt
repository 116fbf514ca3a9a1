use Rattle.std.proofs.Common.{arith}
use Rattle.draft_solving.specs.Spreading.{lefts_from}
use Rattle.event_offers.specs.OfferView.{conditions_of}
use Rattle.draft_solving.proofs.SpreadLemmas.{left_next, left_of, lefts_full, lefts_past}
use Rattle.draft_solving.proofs.spreading.left_sides.Goals as goal

pub loop-i-preserved : goal.loop-i-preserved
loop-i-preserved c = (
  left_next (lefts_from c.args.first c.args.count (conditions_of c.args.spread.now.items)) c.args.count c.loop-i.i
      c.args.spread.now.items c.loop-i.made.items c.push.new.self.items c.index.result.now c.in_ok-copy.field-0
      (omega arith) c.index.ensures (omega arith) c.in_ok-copy.ensures c.in_ok-push.ensures.items c.loop-i.invariant.0,
  λ signature.
      left_of signature c.args.spread.now.items c.loop-i.i c.loop-i.made.items c.push.new.self.items c.index.result.now
      c.in_ok-copy.field-0 (omega arith) c.index.ensures c.in_ok-copy.ensures c.in_ok-push.ensures.items
      (c.loop-i.invariant.1 signature),
)

pub returns-then-len-count-clause-same : goal.returns-then-len-count-clause-same
returns-then-len-count-clause-same c =
    lefts_full (lefts_from c.args.first c.args.count (conditions_of c.args.spread.now.items)) c.args.count c.loop-i.i
    (conditions_of c.args.spread.now.items) c.loop-i.made.items (omega arith) c.loop-i.invariant.0

pub returns-clause-same : goal.returns-clause-same
returns-clause-same c =
    lefts_past (lefts_from c.args.first c.args.count (conditions_of c.args.spread.now.items)) c.args.count c.loop-i.i
    c.args.spread.now.items c.loop-i.made.items (omega arith) c.loop-i.invariant.0
