use Rattle.flat_text.proofs.EquationApart.{equation_names_are_apart}
use Rattle.flat_text.proofs.laws.equation_names_are_apart.Goals as goal

pub returns : goal.returns
returns c = equation_names_are_apart
