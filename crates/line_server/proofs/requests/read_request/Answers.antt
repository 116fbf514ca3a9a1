use Rattle.std.proofs.Common.{◌≡◌, length, refl, ap, ◌∙◌, arith}
use Rattle.line_server.proofs.RequestLemmas.{asked_here}
use Rattle.line_server.proofs.requests.read_request.Goals as goal

pub returns : goal.returns
returns c =
    c.requested.ensures
    ∙ asked_here c.args.line.now c.without_blanks-line.result.now _ _ c.first_word_length-count.result c.without_blanks-line.ensures
    (λ none. let nothing : length c.without_blanks-line.result.now ≡ 0 = ap length none in grind
    (arith, nothing, c.is_empty.ensures, c.if-is_empty.ensures, c.if-is_empty.false))
    c.first_word_length-count.ensures.counted refl c.without_spaces-rest.ensures
