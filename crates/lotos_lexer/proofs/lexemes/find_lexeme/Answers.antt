use Rattle.std.proofs.Common.{◌≡◌, rules}
use Rattle.lotos_lexer.specs.Lexemes.{lexeme_at}
use Rattle.lotos_lexer.proofs.Spans.{lexeme_at_spans}
use Rattle.lotos_lexer.proofs.lexemes.find_lexeme.Goals as goal

pub returns-clause-spans : goal.returns-clause-spans
returns-clause-spans c =
    let exact : c.or-5.result ≡ lexeme_at c.args.open_list c.args.bytes.now = search rules in
    rw exact (lexeme_at_spans c.args.open_list c.args.bytes.now)
