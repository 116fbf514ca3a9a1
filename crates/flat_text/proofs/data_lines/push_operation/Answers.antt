use Rattle.std.proofs.lemmas.Result.{on_ok_weaker}
use Rattle.flat_text.proofs.MorePieces.{six_pieces}
use Rattle.flat_text.proofs.data_lines.push_operation.Goals as goal

pub returns : goal.returns
returns c =
    on_ok_weaker c.push_text-3.result
    (λ h. six_pieces c.args.into.now.items _ _ _ _ _ _ _ _ _ _ _ _ c.in_ok-push_operator.ensures c.in_ok-push_text.ensures
    c.in_ok-push_arguments.ensures c.in_ok-push_text-2.ensures c.in_ok-push_sort.ensures h)
    c.push_text-3.ensures
