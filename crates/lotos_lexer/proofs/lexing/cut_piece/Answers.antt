use Rattle.std.proofs.Common.{◌≡◌, ◌+◌, ◌-◌, ◌<◌, ◌≤◌, [], ◌∷◌, ◌++◌, true, not, is_ok, refl, take, drop, length, sym, ◌∙◌, ap, arith}
use Rattle.std.proofs.lemmas.List.{length-drop, length-take-le, take_rest}
use Rattle.lotos_lexer.specs.Tokens.{OpenComment, BadByte, behind_all, token_at, cut}
use Rattle.lotos_lexer.specs.Cutting.{with_tokens}
use Rattle.lotos_lexer.proofs.CuttingLemmas.{with_tokens-added, with_tokens-BadByte, with_tokens-OpenComment, cut-blank, cut-comment, cut-token, cut-unclosed, cut-nothing, step_on}
use Rattle.lotos_lexer.proofs.lexing.cut_piece.Goals as goal
use Rattle.lotos_lexer.proofs.lexing.cut_piece.Goals.{in-Blank, in-Comment, in-Token+else-is_err}

pub returns-in-Unclosed-clause-fault : goal.returns-in-Unclosed-clause-fault
returns-in-Unclosed-clause-fault c =
    let number = c.args.number in
    let text = c.args.text.now in
    let cutting = c.args.cutting.now in
    let offset = cutting.position.offset in
    let piece = rw (take_rest text offset) at c.in-Unclosed.ensures.exact in
    let some : 0 < length (drop offset text) = omega (arith, length-drop offset text, c.requires.more) in
    ap (with_tokens cutting.tokens.items) (cut-unclosed number cutting.open_list cutting.position (drop offset text) some (sym piece))
    ∙ (with_tokens-OpenComment cutting.tokens.items _ ∙ ap (λ place. OpenComment place) (sym c.place.ensures))

pub returns-in-Nothing-clause-fault : goal.returns-in-Nothing-clause-fault
returns-in-Nothing-clause-fault c =
    let number = c.args.number in
    let text = c.args.text.now in
    let cutting = c.args.cutting.now in
    let offset = cutting.position.offset in
    let piece = rw (take_rest text offset) at c.in-Nothing.ensures.exact in
    let some : 0 < length (drop offset text) = omega (arith, length-drop offset text, c.requires.more) in
    ap (with_tokens cutting.tokens.items) (cut-nothing number cutting.open_list cutting.position (drop offset text) some (sym piece))
    ∙ (with_tokens-BadByte cutting.tokens.items _ ∙ ap (λ place. BadByte place) (sym c.place-in-Nothing.ensures))

pub returns-clause-exact : goal.returns-clause-exact
returns-clause-exact c =
    let number = c.args.number in
    let text = c.args.text.now in
    let cutting = c.args.cutting.now in
    let position = cutting.position in
    let made = c.match-find_piece.cutting in
    let count = c.match-find_piece.count in
    let rest = take (length text - position.offset) (drop position.offset text) in
    let whole : rest ≡ drop position.offset text = take_rest text position.offset in
    let exact : with_tokens cutting.tokens.items (cut number 0 cutting.open_list position rest)
    ≡ with_tokens made.tokens.items (cut number 0 made.open_list (behind_all (take count rest) position) (drop count rest)) =
    elim c.match-find_piece.branch [
      | in-Blank w ↦ rw (w.cutting-is, w.count-is)
          (ap (with_tokens cutting.tokens.items) (cut-blank number cutting.open_list position rest w.in-Blank.ensures.spans
          (sym w.in-Blank.ensures.exact)))
      | in-Comment w ↦ rw (w.cutting-is, w.count-is)
          (ap (with_tokens cutting.tokens.items) (cut-comment number w.in-Comment.count cutting.open_list position rest
          w.in-Comment.ensures.spans (sym w.in-Comment.ensures.exact)))
      | in-Token+else-is_err w ↦
          let lexeme = w.in-Token.lexeme in
          let stored : is_ok w.push.result ≡ true = w.is_err.ensures.negation ∙ ap not w.if-is_err.false in
          let added : w.push.new.self.items ≡ cutting.tokens.items ++ token_at number position lexeme ∷ [] =
          w.push.ensures.items ∙ rw (stored, w.make_token-token.ensures) refl in
          rw (w.cutting-is, w.count-is, added, w.is_open_behind-cutting.ensures)
          (ap (with_tokens cutting.tokens.items) (cut-token number lexeme cutting.open_list position rest w.in-Token.ensures.spans
          (sym w.in-Token.ensures.exact))
          ∙ sym (with_tokens-added cutting.tokens.items (token_at number position lexeme) _))
    ] in
    let within : count ≤ length rest =
    elim c.match-find_piece.branch [
      | in-Blank w ↦ rw w.count-is w.in-Blank.ensures.spans.1
      | in-Comment w ↦ rw w.count-is w.in-Comment.ensures.spans.1
      | in-Token+else-is_err w ↦ rw w.count-is w.in-Token.ensures.spans.1
    ] in
    step_on number text rest count cutting.open_list position c.after-cutting.result cutting.tokens.items made.tokens.items made.open_list
    whole
    c.after-cutting.ensures.exact (c.after-cutting.ensures.moved ∙ ap (λ n. position.offset + n) (length-take-le count rest within)) exact
