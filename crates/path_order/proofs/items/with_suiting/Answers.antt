use Rattle.std.proofs.Common.{◌≡◌, Vec, Global, ℕ, ap, sym, ◌∙◌, inl, inr, true, false}
use Rattle.lotos_base.specs.WrittenView.{listed_operation_of}
use Rattle.sort_terms.specs.Operations.{operation_of}
use Rattle.sort_terms.specs.SignatureView.{signature_of}
use Rattle.path_order.proofs.ItemLemmas.{operation_at, suitable}
use Rattle.path_order.proofs.items.with_suiting.Goals as goal
use Rattle.path_order.proofs.items.with_suiting.Goals.{then-suits+in_ok-push, else-suits}

pub returns : goal.returns
returns c =
    let at = operation_at c.args.signature.now c.ops.result.now c.args.number c.index-ops-number.result c.ops.ensures c.requires
    c.index-ops-number.is in
    elim c.if-suits.branch [
      | then-suits+in_ok-push w ↦ inl (
        (operation_of c.index-ops-number.result, at, c.suits.ensures.0 w.if-suits.true),
        ap (λ (v : Vec ℕ Global). v.items) w.found-is ∙ w.in_ok-push.ensures.items,
      )
      | else-suits w ↦ inr (
        (λ is.
            let yes_so : c.suits.result ≡ true =
            c.suits.ensures.1 (suitable (signature_of c.args.signature.now) c.args.number (operation_of c.index-ops-number.result)
            (listed_operation_of c.args.item.now) at is) in
            let clash : true ≡ false = sym yes_so ∙ w.if-suits.false in cc),
        ap (λ (v : Vec ℕ Global). v.items) w.found-is,
      )
    ]
