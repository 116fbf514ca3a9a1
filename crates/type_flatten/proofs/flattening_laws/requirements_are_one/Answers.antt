use Rattle.type_flatten.proofs.OneRequirements.{requirements_are_one}
use Rattle.type_flatten.proofs.flattening_laws.requirements_are_one.Goals as goal

pub returns : goal.returns
returns c = requirements_are_one
