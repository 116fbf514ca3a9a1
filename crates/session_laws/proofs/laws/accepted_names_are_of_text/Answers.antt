use Rattle.session_laws.proofs.AcceptedNames.{accepted_names_are_of_text}
use Rattle.session_laws.proofs.laws.accepted_names_are_of_text.Goals as goal

pub returns : goal.returns
returns c = accepted_names_are_of_text
