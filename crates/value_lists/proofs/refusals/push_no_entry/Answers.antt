use Rattle.std.proofs.Common.{codes, decimal}
use Rattle.std.proofs.lemmas.Result.{on_ok_weaker}
use Rattle.value_lists.proofs.TextLemmas.{five_pieces}
use Rattle.value_lists.proofs.refusals.push_no_entry.Goals as goal

pub returns : goal.returns
returns c =
    on_ok_weaker c.push_text-3.result
    (λ h.
    five_pieces c.args.into.now.items c.push_text.new.into.items c.push_number.new.into.items c.push_text-2.new.into.items
    c.push_number-2.new.into.items c.push_text-3.new.into.items (codes "refused 802 NoEntry ") (decimal c.args.number)
    (codes " of ") (decimal c.args.length) (codes "\n") c.in_ok-push_text.ensures c.in_ok-push_number.ensures
    c.in_ok-push_text-2.ensures c.in_ok-push_number-2.ensures h)
    c.push_text-3.ensures
