use Rattle.ll_engine.proofs.Exactness.{exact_unexpected, sentence_is_ok}
use Rattle.ll_engine.proofs.parser.parse.Goals as goal

pub returns-clause-unexpected : goal.returns-clause-unexpected
returns-clause-unexpected c = exact_unexpected c.args.grammar.now c.args.tokens.now c.derivation.result c.derivation.ensures

pub returns-clause-sentence : goal.returns-clause-sentence
returns-clause-sentence c = sentence_is_ok c.args.grammar.now c.args.tokens.now c.derivation.result c.derivation.ensures
