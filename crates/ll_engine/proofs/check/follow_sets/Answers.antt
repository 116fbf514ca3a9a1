use Rattle.std.proofs.lemmas.Result.{IfOk-weaker}
use Rattle.ll_engine.specs.Computed.{is_marked}
use Rattle.ll_engine.specs.Related.{IsFollowSets, IsClosureOf}
use Rattle.ll_engine.proofs.check.follow_sets.Goals as goal

pub returns : goal.returns
returns c =
    IfOk-weaker c.closed.result (IsClosureOf c.in_ok-followers.followers)
    (IsFollowSets c.args.rows.now c.args.parts c.args.first.now.tokens c.args.start (is_marked c.args.nullable.now) c.args.first.now)
    (λ follow h. record { followers = c.in_ok-followers.followers; followers_are = c.in_ok-followers.ensures; closed = h })
    c.closed.ensures
