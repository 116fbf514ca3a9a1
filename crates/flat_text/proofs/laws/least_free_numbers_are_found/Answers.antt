use Rattle.flat_text.proofs.NumberedNames.{least_is_free}
use Rattle.flat_text.proofs.laws.least_free_numbers_are_found.Goals as goal

pub returns : goal.returns
returns c = least_is_free
