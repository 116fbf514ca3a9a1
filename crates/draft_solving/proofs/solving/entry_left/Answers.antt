use Rattle.std.proofs.Common.{refl, ap, ◌∙◌, sym, subst}
use Rattle.behaviour_tree.specs.Over.{AreTermsOf}
use Rattle.event_offers.specs.OfferView.{plain_draft, plain_entry}
use Rattle.event_offers.specs.Offers.{AreConditionsOf}
use Rattle.event_offers.specs.Renaming.{renaming_of}
use Rattle.draft_solving.specs.Variables.{found_sorts, places_by_sorts}
use Rattle.event_offers.specs.declared.renaming.Renaming.TheVariants.{Placed}
use Rattle.draft_solving.proofs.EntryLemmas.{entry_is}
use Rattle.event_offers.proofs.RenamingLemmas.{renamed_terms_of, renamed_pairs_of}
use Rattle.draft_solving.proofs.solving.entry_left.Goals as goal

pub returns-clause-same : goal.returns-clause-same
returns-clause-same c =
    entry_is (plain_draft c.args.draft) (plain_entry (record {
      shape = c.args.draft.shape;
      label = c.in_ok-label.label;
      vars = c.in_ok-vars.vars;
      leaves = c.in_ok-leaves.leaves;
      conditions = c.in_ok-conditions.conditions;
    }))
    c.in_ok-places.field-0.items (renaming_of (Placed c.in_ok-places.field-0)) refl
    (c.in_ok-places.ensures ∙ ap (places_by_sorts 0 0) c.in_ok-sorts.ensures) refl
    (c.in_ok-vars.ensures ∙ ap found_sorts c.in_ok-sorts.ensures)
    c.in_ok-label.ensures.same c.in_ok-leaves.ensures.same c.in_ok-conditions.ensures.same

pub returns-clause-values : goal.returns-clause-values
returns-clause-values c = λ signature h. subst (AreTermsOf signature) (sym c.in_ok-label.ensures.profiles) (renamed_terms_of signature
    (Placed c.in_ok-places.field-0) _ h)

pub returns-clause-leaves : goal.returns-clause-leaves
returns-clause-leaves c = λ signature h. subst (AreTermsOf signature) (sym c.in_ok-leaves.ensures.profiles) (renamed_terms_of signature
    (Placed c.in_ok-places.field-0) _ h)

pub returns-clause-conditions : goal.returns-clause-conditions
returns-clause-conditions c = λ signature h. subst (AreConditionsOf signature) (sym c.in_ok-conditions.ensures.profiles) (renamed_pairs_of
    signature (Placed c.in_ok-places.field-0) _ h)
