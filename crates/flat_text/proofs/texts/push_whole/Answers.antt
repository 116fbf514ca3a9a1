use Rattle.std.proofs.Common.{◌++◌, List, ℕ, ap, ◌∙◌}
use Rattle.std.proofs.lemmas.Result.{on_ok_weaker}
use Rattle.flat_text.proofs.MorePieces.{four_pieces, five_pieces}
use Rattle.flat_text.proofs.texts.push_whole.Goals as goal

pub returns : goal.returns
returns c =
    on_ok_weaker c.push_text-4.result
    (λ h. five_pieces c.args.into.now.items _ _ _ _ _ _ _ _ _ _
    (four_pieces c.args.into.now.items _ _ _ _ _ _ _ _ c.in_ok-push_text.ensures
    (c.in_ok-push_text-2.ensures ∙ ap (λ (text : List ℕ). c.push_text.new.into.items ++ text) c.spelled.ensures)
    c.in_ok-push_heading.ensures c.in_ok-push_text-3.ensures)
    c.in_ok-push_data.ensures c.in_ok-push_body.ensures c.in_ok-push_where.ensures h)
    c.push_text-4.ensures
