use Rattle.std.proofs.Common.{rules}
use Rattle.lotos_grammar.proofs.TextLemmas.{text_fails}
use Rattle.lotos_grammar.proofs.texts.items_of.Goals as goal

pub returns-in-Err : goal.returns-in-Err
returns-in-Err c = text_fails c.args.number c.args.text.now c.in-Err.fault (search rules) c.in-Err.ensures.answer
