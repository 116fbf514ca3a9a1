use Rattle.session_laws.proofs.Numbered.{flattened_equations_are_numbered}
use Rattle.session_laws.proofs.data_laws.flattened_equations_are_numbered.Goals as goal

pub returns : goal.returns
returns c = flattened_equations_are_numbered c.equations_number_by_appearance.ensures
