use Rattle.ll_engine.proofs.Values.{closed}
use Rattle.ll_engine.proofs.fold_laws.values_are_kept.Goals as goal

pub returns : goal.returns
returns g c = λ rows. closed (g.A.Actions.value_of c.args.actions.now) g.A.Actions.keeps g.A.Actions.kind rows
