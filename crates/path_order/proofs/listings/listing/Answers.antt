use Rattle.std.proofs.Common.{◌≡◌, ◌≤◌, ℕ, List, [], length, ap, sym, ◌∙◌, subst, arith}
use Rattle.std.specs.Prelude.{Some, slice_get}
use Rattle.std.proofs.lemmas.Result.{err_from_is_err_and}
use Rattle.lotos_base.specs.WrittenView.{listed_operation_of}
use Rattle.sort_terms.specs.SignatureView.{signature_of}
use Rattle.sort_terms.specs.declared.operations.Op.{Op}
use Rattle.path_order.specs.Listed.{AreListedBy}
use Rattle.path_order.specs.Listing.{AreListedByItems, none_listed}
use Rattle.path_order.specs.PrecedenceView.{status_of}
use Rattle.path_order.proofs.StatusLemmas.{no_statuses, statuses_more, statuses_all}
use Rattle.path_order.proofs.ListingLemmas.{listed_below, listed_more, fine_more, first_wrong, fine_all}
use Rattle.path_order.proofs.listings.listing.Goals as goal

pub loop-item-init : goal.loop-item-init
loop-item-init c = record {
  listed =
      subst (λ (ns : List ℕ). AreListedByItems (signature_of c.args.signature.now) [] ns) (sym c.in_ok-made.ensures.nothing) none_listed;
  fine = λ k before. absurd (omega (arith, before));
  room = c.in_ok-made.ensures.room ∙ ap (λ (ops : List Op). length ops) c.ops-2.ensures;
  statuses = no_statuses (signature_of c.args.signature.now) c.args.order.now c.in_ok-made.made.statuses.items c.in_ok-made.ensures.left;
}

pub with_item-requires-clause-below : goal.with_item-requires-clause-below
with_item-requires-clause-below c = λ j f at.
    listed_below c.args.signature.now (listed_operation_of c.item-item.result) c.in_ok-found.found.items
    (length c.loop-item.made.listed.items) j f c.in_ok-found.ensures c.loop-item.invariant.room
    (subst (λ (ns : List ℕ). slice_get ns j ≡ Some f) c.as_slice.ensures.value at)

pub returns-in_err-made-2-clause-listed : goal.returns-in_err-made-2-clause-listed
returns-in_err-made-2-clause-listed c =
    let p = err_from_is_err_and c.from_residual-in_err-made-2.result c.from_residual-in_err-made-2.ensures.1 in
    let by = subst (λ (ns : List ℕ). AreListedBy (signature_of c.args.signature.now) (listed_operation_of c.item-item.result) ns)
    (sym c.as_slice.ensures.value) c.in_ok-found.ensures in
    rw (p.1, p.2) (first_wrong (signature_of c.args.signature.now) c.args.order.now c.loop-item.item-index c.item-item.result
    c.loop-item.made.order.items c.as_slice.result.now _ (omega arith) c.item-item.is c.loop-item.invariant.listed by
    c.loop-item.invariant.fine c.in_err-made-2.ensures)

pub loop-item-preserved : goal.loop-item-preserved
loop-item-preserved c =
    let by = subst (λ (ns : List ℕ). AreListedBy (signature_of c.args.signature.now) (listed_operation_of c.item-item.result) ns)
    (sym c.as_slice.ensures.value) c.in_ok-found.ensures in
    record {
      listed = listed_more (signature_of c.args.signature.now) c.args.order.now c.loop-item.item-index c.item-item.result
          c.loop-item.made.order.items c.as_slice.result.now c.in_ok-made-2.made.order.items (omega arith) c.item-item.is
          c.loop-item.invariant.listed by c.in_ok-made-2.ensures.added;
      fine = fine_more (signature_of c.args.signature.now) c.args.order.now c.loop-item.item-index c.item-item.result
          c.loop-item.made.order.items c.as_slice.result.now (status_of c.in_ok-made-2.ensures.status) (omega arith) c.item-item.is
          c.loop-item.invariant.listed by c.in_ok-made-2.ensures.some c.in_ok-made-2.ensures.apart c.in_ok-made-2.ensures.written
          c.loop-item.invariant.fine;
      room = c.in_ok-made-2.ensures.room ∙ c.loop-item.invariant.room;
      statuses = statuses_more (signature_of c.args.signature.now) c.args.order.now c.loop-item.item-index c.item-item.result
          c.loop-item.made.order.items c.as_slice.result.now c.loop-item.made.statuses.items c.in_ok-made-2.made.statuses.items
          c.in_ok-made-2.ensures.status (omega arith) c.item-item.is c.loop-item.invariant.listed by c.in_ok-made-2.ensures.apart
          (λ j f at.
          listed_below c.args.signature.now (listed_operation_of c.item-item.result) c.as_slice.result.now
          (length c.loop-item.made.statuses.items) j f by (c.loop-item.made.even ∙ c.loop-item.invariant.room) at)
          c.in_ok-made-2.ensures.written c.in_ok-made-2.ensures.given c.loop-item.invariant.statuses;
    }

pub returns-clause-fine : goal.returns-clause-fine
returns-clause-fine c =
    let end : length c.args.order.now ≤ c.loop-item.item-index = omega arith in
    fine_all (signature_of c.args.signature.now) c.args.order.now c.loop-item.item-index end c.loop-item.invariant.fine

pub returns-clause-statuses : goal.returns-clause-statuses
returns-clause-statuses c =
    let end : length c.args.order.now ≤ c.loop-item.item-index = omega arith in
    statuses_all (signature_of c.args.signature.now) c.args.order.now c.loop-item.made.statuses.items c.loop-item.item-index end
    c.loop-item.invariant.statuses
