-- By recursion on the table.
use Rattle.lotos_lexer.proofs.KindLemmas.{words_apart}
use Rattle.lotos_lexer.proofs.laws.reserved_words_are_apart.Goals as goal

pub returns : goal.returns
returns c = words_apart
