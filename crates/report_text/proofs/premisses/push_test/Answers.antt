use Rattle.std.proofs.lemmas.Result.{on_ok_weaker}
use Rattle.report_text.proofs.SquareLemmas.{square_text}
use Rattle.report_text.proofs.premisses.push_test.Goals as goal

pub returns : goal.returns
returns c =
    on_ok_weaker c.close_square.result
    (λ h. square_text c.args.into.now.items _ _ _ _ _ c.in_ok-position.ensures.opened c.in_ok-position.ensures.place
    c.in_ok-push_sides.ensures h)
    c.close_square.ensures
