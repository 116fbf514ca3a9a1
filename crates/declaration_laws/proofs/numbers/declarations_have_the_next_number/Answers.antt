use Rattle.declaration_laws.proofs.NumberLemmas.{declarations_have_the_next_number}
use Rattle.declaration_laws.proofs.numbers.declarations_have_the_next_number.Goals as goal

pub returns : goal.returns
returns c = declarations_have_the_next_number
