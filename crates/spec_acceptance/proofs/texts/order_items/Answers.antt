use Rattle.std.proofs.Common.{ap, ℕ, List, option_map, Bor}
use Rattle.spec_acceptance.proofs.DoingLemmas.{err_out}
use Rattle.spec_acceptance.proofs.OrderLemmas.{orders_nothing, order_not_got, order_got}
use Rattle.spec_acceptance.proofs.texts.order_items.Goals as goal

pub returns-in-None : goal.returns-in-None
returns-in-None g c =
    orders_nothing _ _ c.args.known c.new.result (ap (option_map (λ (word : Bor (List ℕ)). word.now)) c.in-None.is) c.new.ensures.items

pub returns-in_err-text-in-Some : goal.returns-in_err-text-in-Some
returns-in_err-text-in-Some g c = λ whole knows.
    err_out c.from_residual.result c.in_err-text-in-Some.field-0.0 _ _ c.from_residual.ensures.1
    (order_not_got _ _ _ c.in-Some.name.now c.args.known c.in_err-text-in-Some.field-0.0
    (ap (option_map (λ (word : Bor (List ℕ)). word.now)) c.in-Some.is) c.in_err-text-in-Some.ensures whole knows)

pub returns-in_ok-text-in-Some : goal.returns-in_ok-text-in-Some
returns-in_ok-text-in-Some g c =
    order_got _ _ _ c.in-Some.name.now c.in_ok-text-in-Some.text.items c.as_slice.result.now c.args.known c.read_items.result
    (ap (option_map (λ (word : Bor (List ℕ)). word.now)) c.in-Some.is) c.in_ok-text-in-Some.ensures c.as_slice.ensures.value
    c.read_items.ensures
