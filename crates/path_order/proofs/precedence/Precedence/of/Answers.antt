use Rattle.std.proofs.Common.{ℕ, Vec, Global, sym, subst, map}
use Rattle.lotos_base.specs.WrittenView.{listed_operation_of}
use Rattle.sort_terms.specs.SignatureView.{signature_of}
use Rattle.path_order.specs.Listing.{AreRanksBy}
use Rattle.path_order.specs.PrecedenceView.{status_by_number}
use Rattle.path_order.specs.Statuses.{AreStatusesBy}
use Rattle.path_order.specs.declared.status.Status.{Status}
use Rattle.path_order.proofs.precedence.Precedence.of.Goals as goal

-- ranks by the items are the precedence by the items
pub returns : goal.returns
returns c =
    let ranks = subst (λ (v : Vec ℕ Global). AreRanksBy (signature_of c.args.flat.now.signature) (map listed_operation_of c.args.order.now)
    v.items) (sym c.of_ranks.ensures.ranks) c.in_ok-ranks.ensures.ranks in
    let statuses = subst (λ (v : Vec Status Global). AreStatusesBy (signature_of c.args.flat.now.signature)
    (map listed_operation_of c.args.order.now) (status_by_number v.items)) (sym c.of_ranks.ensures.statuses)
    c.in_ok-ranks.ensures.statuses in
    record { listing = ranks.listing; listed = ranks.listed; fine = ranks.fine; over = ranks.above; statuses = statuses }
