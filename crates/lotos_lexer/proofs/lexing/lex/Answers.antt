use Rattle.std.proofs.Common.{◌≡◌, [], drop, ap, sym, ◌∙◌}
use Rattle.std.proofs.Math.ListN.{drop_of_length-le}
use Rattle.lotos_lexer.specs.Tokens.{cut}
use Rattle.lotos_lexer.specs.Cutting.{with_tokens}
use Rattle.lotos_lexer.proofs.CuttingLemmas.{with_tokens-Tokens}
use Rattle.lotos_lexer.proofs.lexing.lex.Goals as goal

pub returns-clause-exact : goal.returns-clause-exact
returns-clause-exact c =
    let cutting = c.loop-cutting.cutting in
    let done : drop cutting.position.offset c.args.text.now ≡ [] = drop_of_length-le c.args.text.now c.loop-cutting-test.false in
    sym c.loop-cutting.invariant.0
    ∙ (ap (λ rest. with_tokens cutting.tokens.items (cut c.args.number 0 cutting.open_list cutting.position rest)) done
    ∙ with_tokens-Tokens cutting.tokens.items)
