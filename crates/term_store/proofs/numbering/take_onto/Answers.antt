use Rattle.term_store.proofs.OnTheWayLemmas.{taken_more}
use Rattle.term_store.proofs.numbering.take_onto.Goals as goal

pub loop-index-preserved : goal.loop-index-preserved
loop-index-preserved c =
    taken_more c.loop-index.made.items c.pop.new.self.items c.in-Some.number c.loop-index._index c.loop-index.numbers.items
    c.push.new.self.items c.args.made.now.items c.in-Some.ensures.items c.loop-index.invariant.1 c.in_ok-push.ensures.items
    c.args.numbers.now.items c.loop-index.invariant.0
