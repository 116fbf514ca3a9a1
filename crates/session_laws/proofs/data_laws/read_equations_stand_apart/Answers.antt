use Rattle.session_laws.proofs.EquationPlaces.{read_equations_stand_apart}
use Rattle.session_laws.proofs.data_laws.read_equations_stand_apart.Goals as goal

pub returns : goal.returns
returns c = read_equations_stand_apart
