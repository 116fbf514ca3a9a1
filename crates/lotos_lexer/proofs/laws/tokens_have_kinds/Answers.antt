-- By recursion on the text.
use Rattle.lotos_lexer.proofs.KindLemmas.{tokens_kinds}
use Rattle.lotos_lexer.proofs.laws.tokens_have_kinds.Goals as goal

pub returns : goal.returns
returns c = tokens_kinds
