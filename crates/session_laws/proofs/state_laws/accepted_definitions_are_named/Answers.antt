use Rattle.session_laws.proofs.PrintedStates.{accepted_definitions_are_named}
use Rattle.session_laws.proofs.state_laws.accepted_definitions_are_named.Goals as goal

pub returns : goal.returns
returns c = accepted_definitions_are_named
