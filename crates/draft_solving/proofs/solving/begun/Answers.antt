use Rattle.std.proofs.Common.{◌≡◌, length, sym, ◌∙◌, subst, arith}
use Rattle.std.proofs.lemmas.List.{length-map}
use Rattle.event_offers.specs.OfferView.{plain_draft}
use Rattle.sort_terms.specs.SortedView.{term_in}
use Rattle.draft_solving.specs.Conditions.{AreOpen}
use Rattle.draft_solving.specs.OnTheWay.{IsNamedWay}
use Rattle.draft_solving.proofs.NamedWay.{begun_named}
use Rattle.draft_solving.proofs.UnderWay.{open_spread}
use Rattle.draft_solving.proofs.solving.begun.Goals as goal

pub returns-clause-begun : goal.returns-clause-begun
returns-clause-begun c = λ data_ canon is_canon over settled none_unmet.
    let size : length c.in_ok-names.names.items ≡ length c.args.draft.leaves.items = omega (arith, c.in_ok-names.ensures.size) in
    let room : length c.in_ok-places.places.lists.items ≡ length c.in_ok-names.names.items =
    omega (arith, size, c.in_ok-places.ensures.size) in
    record {
      named = subst (IsNamedWay data_ canon (plain_draft c.args.draft) c.in_ok-names.names.items) (sym c.in_ok-spread.ensures.same)
          (begun_named data_ canon is_canon (plain_draft c.args.draft) over.order settled c.in_ok-names.names.items
          c.in_ok-names.ensures.own (size ∙ sym (length-map c.args.draft.leaves.items term_in)));
      is_of = c.in_ok-spread.ensures.is_of data_.signature over.values over.leaves over.conditions;
      size = size;
      same_room = room;
      noted = c.in_ok-places.ensures.noted;
      open_still = subst AreOpen (sym c.in_ok-spread.ensures.same) (open_spread (plain_draft c.args.draft) none_unmet);
      passed = λ k test lt. absurd (omega (arith, lt));
    }
