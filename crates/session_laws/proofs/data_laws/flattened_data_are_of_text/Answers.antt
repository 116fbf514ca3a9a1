use Rattle.session_laws.proofs.Small.{flattened_data_are_of_text}
use Rattle.session_laws.proofs.data_laws.flattened_data_are_of_text.Goals as goal

pub returns : goal.returns
returns c = flattened_data_are_of_text c.flattened_equations_are_numbered.ensures
