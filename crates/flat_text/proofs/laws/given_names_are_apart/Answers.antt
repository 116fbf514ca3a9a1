use Rattle.flat_text.proofs.GivenApart.{given_names_are_apart}
use Rattle.flat_text.proofs.laws.given_names_are_apart.Goals as goal

pub returns : goal.returns
returns c = given_names_are_apart
