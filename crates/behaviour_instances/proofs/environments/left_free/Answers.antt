use Rattle.std.proofs.lemmas.Result.{IfOk-weaker}
use Rattle.behaviour_instances.proofs.UnlistedLemmas.{left_plain, left_profiled}
use Rattle.behaviour_instances.proofs.environments.left_free.Goals as goal

pub returns-clause-profiled : goal.returns-clause-profiled
returns-clause-profiled c =
    IfOk-weaker c.unlisted.result _ _ (λ made e. left_profiled c.args.numbers.now made.items c.args.environment.now.items e)
    c.unlisted.ensures

pub returns-clause-plain : goal.returns-clause-plain
returns-clause-plain c =
    IfOk-weaker c.unlisted.result _ _ (λ made e. left_plain c.args.numbers.now made.items c.args.environment.now.items e)
    c.unlisted.ensures
