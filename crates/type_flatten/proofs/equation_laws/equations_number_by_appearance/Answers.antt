use Rattle.type_flatten.proofs.VariableNumbers.{equations_number_by_appearance}
use Rattle.type_flatten.proofs.equation_laws.equations_number_by_appearance.Goals as goal

pub returns : goal.returns
returns c = equations_number_by_appearance
