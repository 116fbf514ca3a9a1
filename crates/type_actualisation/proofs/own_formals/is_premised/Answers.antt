use Rattle.std.proofs.Common.{sym}
use Rattle.type_actualisation.proofs.OwnLemmas.{not_empty}
use Rattle.type_actualisation.proofs.own_formals.is_premised.Goals as goal

pub returns : goal.returns
returns c = not_empty c.args.equation.now.premisses.items _ _ c.args.equation.now.premisses.ok.0 c.is_empty-none.ensures
