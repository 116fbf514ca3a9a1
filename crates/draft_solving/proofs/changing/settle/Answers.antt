use Rattle.std.proofs.Common.{refl}
use Rattle.draft_solving.proofs.ChangingLemmas.{variable_stays}
use Rattle.draft_solving.proofs.changing.settle.Goals as goal

pub returns-then-is_variable-clause-same : goal.returns-then-is_variable-clause-same
returns-then-is_variable-clause-same g c =
    variable_stays (g.D.Deciding.known_data c.args.decider.now) (g.D.Deciding.canon c.args.decider.now)
    (g.met.D.Deciding.is_canon c.args.decider.now) _ (c.if-is_variable.ensures refl)
