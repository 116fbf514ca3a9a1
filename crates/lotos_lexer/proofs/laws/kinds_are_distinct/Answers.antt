-- By computation.
use Rattle.lotos_lexer.proofs.KindLemmas.{kinds_distinct, kinds_below}
use Rattle.lotos_lexer.proofs.laws.kinds_are_distinct.Goals as goal

pub returns-clause-distinct : goal.returns-clause-distinct
returns-clause-distinct c = kinds_distinct

pub returns-clause-below : goal.returns-clause-below
returns-clause-below c = kinds_below
