use Rattle.std.proofs.Common.{codes}
use Rattle.std.proofs.lemmas.Result.{on_ok_weaker}
use Rattle.lotos_base.proofs.Pieces.{in_three}
use Rattle.value_lists.proofs.refusals.push_no_sort.Goals as goal

pub returns : goal.returns
returns c =
    on_ok_weaker c.push_text-3.result
    (λ h.
    in_three c.args.into.now.items (codes "refused 817 NoSort ") c.args.name.now (codes "\n") c.push_text.new.into.items
    c.push_text-2.new.into.items c.push_text-3.new.into.items c.in_ok-push_text.ensures c.in_ok-push_text-2.ensures h)
    c.push_text-3.ensures
