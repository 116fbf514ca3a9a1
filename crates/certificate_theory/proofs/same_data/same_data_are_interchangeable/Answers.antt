use Rattle.certificate_theory.proofs.InterchangeableData.{interchangeable}
use Rattle.certificate_theory.proofs.same_data.same_data_are_interchangeable.Goals as goal

pub returns : goal.returns
returns c = interchangeable
