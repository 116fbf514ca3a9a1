use Rattle.certificate_verbs.proofs.ComparingLemmas.{agreed, not_agreed, data_differ, data_same}
use Rattle.certificate_verbs.proofs.comparing.both.Goals as goal

pub returns-then-not-same_data : goal.returns-then-not-same_data
returns-then-not-same_data g c = λ first other h k.
    data_differ first other c.args.one.now c.args.second.now
    (g.F.Shelf.state c.args.shelf.now)
    c.args.pairs.now c.plainly_refused.result h k
    (not_agreed c.flat.result.now c.flat-2.result.now c.args.one.now.accepted.book.flat c.args.second.now.accepted.book.flat
    c.same_data.result c.flat.ensures c.flat-2.ensures c.same_data.ensures c.if-not-same_data.true)
    c.plainly_refused.ensures

pub returns : goal.returns
returns g c = λ first other h k.
    data_same first other c.args.one.now c.args.second.now
    (g.F.Shelf.state c.args.shelf.now) (g.F.Shelf.state c.certified.new.shelf)
    c.args.pairs.now c.certified.result h k
    (agreed c.flat.result.now c.flat-2.result.now c.args.one.now.accepted.book.flat c.args.second.now.accepted.book.flat
    c.same_data.result c.flat.ensures c.flat-2.ensures c.same_data.ensures c.if-not-same_data.false)
    (c.certified.ensures first other h k)
