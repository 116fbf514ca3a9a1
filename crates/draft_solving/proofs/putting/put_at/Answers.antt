use Rattle.std.proofs.Common.{sym}
use Rattle.draft_solving.proofs.PutWay.{lacking_changed}
use Rattle.draft_solving.proofs.putting.put_at.Goals as goal

pub returns-then-not-stands_at-clause-put : goal.returns-then-not-stands_at-clause-put
returns-then-not-stands_at-clause-put g c =
    sym (lacking_changed (g.D.Deciding.known_data c.args.decider.now) (g.D.Deciding.canon c.args.decider.now)
    (g.met.D.Deciding.is_canon c.args.decider.now) c.args.found.now c.requires.lacks c.args.work.now.spread.items c.args.place
    (c.stands_at.ensures.lacks c.if-not-stands_at.true) c.requires.ready)
