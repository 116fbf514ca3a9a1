use Rattle.std.proofs.lemmas.Result.{IfOk-weaker}
use Rattle.induct_parts.proofs.HypothesisSteps.{free_behind, fixed_behind}
use Rattle.induct_parts.proofs.hypotheses.behind.Goals as goal

pub added-requires-clause-known : goal.added-requires-clause-known
added-requires-clause-known c = (c.args.proving.now.free, c.requires.known)

pub changed-requires-clause-known : goal.changed-requires-clause-known
changed-requires-clause-known c = (c.args.proving.now.free, c.requires.known)

pub returns-then-put-proving-clause-behind : goal.returns-then-put-proving-clause-behind
returns-then-put-proving-clause-behind c =
    IfOk-weaker c.added.result _ _
    (λ made h. free_behind c.args.setting.now c.args.point.now c.args.put.now c.requires.put c.args.proving.now _ c.if-put-proving.true h)
    c.added.ensures.added

pub returns-else-put-proving-clause-behind : goal.returns-else-put-proving-clause-behind
returns-else-put-proving-clause-behind c =
    IfOk-weaker c.changed.result _ _
    (λ made h. fixed_behind c.args.setting.now c.args.point.now c.args.put.now c.requires.put c.args.proving.now _ c.if-put-proving.false h)
    c.changed.ensures.changed
