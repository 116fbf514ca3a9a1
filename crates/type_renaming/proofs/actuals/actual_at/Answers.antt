use Rattle.std.proofs.lemmas.List.{get_or_default}
use Rattle.type_renaming.proofs.actuals.actual_at.Goals as goal

pub returns : goal.returns
returns c = get_or_default c.args.actuals.now c.args.number _ _ c.requires
