use Rattle.session_laws.proofs.ExampleLemmas.{constant_data_are_written}
use Rattle.session_laws.proofs.data_examples.constant_data_are_written.Goals as goal

pub returns : goal.returns
returns c = constant_data_are_written
