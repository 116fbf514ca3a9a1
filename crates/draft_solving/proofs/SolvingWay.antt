-- What solving a draft begins with, and what its outcome is like.
use Rattle.std.proofs.Common.{◌≡◌, ◌≤◌, arith, length, ℕ, zero, suc, List, [], ◌∷◌, map, Option, None, Some, Bool, true, false, ◌&&◌, not, slice_get, refl, ap, sym, ◌∙◌, subst}
use Rattle.std.proofs.lemmas.Bool.{or_parts}
use Rattle.std.specs.Option.{option_map}
use Rattle.std.specs.Prelude.{IfNone}
use Rattle.lotos_base.specs.Equation.{Data}
use Rattle.lotos_base.specs.Term.{Term}
use Rattle.lotos_base.specs.Tests.{is_ground, term_eq}
use Rattle.lotos_base.specs.Canon.{IsCanon}
use Rattle.behaviour_semantics.specs.Behaviour.{Test}
use Rattle.behaviour_semantics.specs.Draft as plain
use Rattle.behaviour_semantics.specs.Solving as solving
use Rattle.behaviour_semantics.specs.Solving.{canonical, differing, entry_of, first_replacement, has_closed, replacement_of, settled, SolvesTo, test_in, tidied, unsolvable}
use Rattle.behaviour_semantics.specs.DraftOrder.{as_draft, IsInOrder, LeavesMeet}
use Rattle.behaviour_semantics.specs.DraftOrderLaws.{IsSolvedFrom, SolvingNamesNoBehaviour}
use Rattle.behaviour_semantics.specs.WellFormed.{Every}
use Rattle.behaviour_semantics.proofs.DraftsInOrder.{tidied_in_order}
use Rattle.behaviour_semantics.proofs.JoinedSides.{after, canonical_same, canonical_twice}
use Rattle.behaviour_semantics.proofs.OptionLemmas.{some_value}
use Rattle.behaviour_semantics.proofs.RenamedSolving.{terms_in_order}
use Rattle.behaviour_semantics.proofs.SolvedForms.{Tidy, tidy_tests}
use Rattle.behaviour_semantics.proofs.SolvingAnyDraft.{solving_any}
use Rattle.behaviour_semantics.proofs.SolvingSteps.{same_tidied}
use Rattle.behaviour_tree.specs.BehaviourTerms.{profiles_of}
use Rattle.behaviour_tree.specs.Over.{AreTermsOf}
use Rattle.event_offers.specs.OfferView.{condition_profiles, label_profiles, plain_draft, plain_entry}
use Rattle.event_offers.specs.Offers.{AreConditionsOf, IsDraftOver, IsEntryOver, IsOrderedEntry}
use Rattle.event_offers.specs.declared.drafts.Draft.{Draft}
use Rattle.event_offers.specs.declared.drafts.Entry.{Entry}
use Rattle.draft_solving.proofs.SpreadWay.{first_nowhere}
use Rattle.draft_solving.specs.Conditions.{AreOpen, GiveNoneBefore, is_unmet}

module _ (data_ : Data) (canon : Term → Term) (is_canon : IsCanon data_ canon) (draft : plain.Draft)
    (order : IsInOrder data_.signature draft)
  where
    tests_settled : (tests : List Test) → Every (Tidy canon) tests → map (test_in canon) tests ≡ tests
    tests_settled [] h = refl
    tests_settled (test ∷ tests) h =
        λ i. record { left = h.0.canonical_left i; right = h.0.canonical_right i } ∷ tests_settled tests h.1 i

    -- What is tidied is in canonical form.
    pub tidied_settled : canonical canon (tidied canon draft) ≡ tidied canon draft
    tidied_settled =
        let whole : canonical canon (canonical canon draft) ≡ canonical canon draft =
        canonical_twice canon canon draft
        ∙ canonical_same (after canon canon) canon draft
        (terms_in_order data_ draft (λ t. canon (canon t) ≡ canon t) (λ t h. is_canon.settled t (h.0, h.1.sorted)) order) in
        let tests : map (test_in canon) (tidied canon draft).conditions ≡ (tidied canon draft).conditions =
        tests_settled (tidied canon draft).conditions (tidy_tests data_ canon is_canon draft.leaves draft.conditions order.conditions) in
        λ i. record (whole i) { conditions = tests i }

    differing_tidy : (tests : List Test) → Every (Tidy canon) tests → differing tests ≡ tests
    differing_tidy [] h = refl
    differing_tidy (test ∷ tests) h =
        let kept : term_eq test.left test.right ≡ false = h.0.differ in
        let rest : differing tests ≡ tests = differing_tidy tests h.1 in
        rw (kept, rest) refl

    tidied_twice : tidied canon (tidied canon draft) ≡ tidied canon draft
    tidied_twice =
        let tests : differing (tidied canon draft).conditions ≡ (tidied canon draft).conditions =
        differing_tidy (tidied canon draft).conditions
        (tidy_tests data_ canon is_canon draft.leaves draft.conditions order.conditions) in
        ap (λ (d : plain.Draft). record d { conditions = differing d.conditions }) tidied_settled
        ∙ (λ i. record (tidied canon draft) { conditions = tests i })

    -- The draft has the outcomes that it has once tidied.
    pub tidied_first : (now : plain.Draft) → now ≡ tidied canon draft → (outcome : Option solving.Entry) → SolvesTo canon now outcome
        → SolvesTo canon draft outcome
    tidied_first now is outcome solves =
        (same_tidied canon draft (tidied canon draft) (sym tidied_twice) outcome).1
        (subst (λ (d : plain.Draft). SolvesTo canon d outcome) is solves)

    pub tidied_nothing : (now : plain.Draft) → now ≡ tidied canon draft → has_closed now.conditions ≡ true → SolvesTo canon draft None
    tidied_nothing now is closed = unsolvable draft (subst (λ (d : plain.Draft). has_closed d.conditions ≡ true) is closed)

    pub tidied_entry : (now : plain.Draft) → now ≡ tidied canon draft → has_closed now.conditions ≡ false
        → first_replacement now.conditions ≡ None → (entry : solving.Entry) → entry ≡ entry_of now → SolvesTo canon draft (Some entry)
    tidied_entry now is not_closed none entry e =
        subst (λ (f : solving.Entry). SolvesTo canon draft (Some f)) (sym (e ∙ ap entry_of is))
        (settled draft (subst (λ (d : plain.Draft). has_closed d.conditions ≡ false) is not_closed)
        (subst (λ (d : plain.Draft). first_replacement d.conditions ≡ None) is none))

-- The draft once tidied is in order over the signature.
pub tidied_over : (data_ : Data) (canon : Term → Term) → IsCanon data_ canon → (draft now : Draft) → IsDraftOver data_.signature draft
    → plain_draft now ≡ tidied canon (plain_draft draft) → AreTermsOf data_.signature (label_profiles now.label)
    → AreTermsOf data_.signature (profiles_of now.leaves.items)
    → AreConditionsOf data_.signature (condition_profiles now.conditions.items) → IsDraftOver data_.signature now
tidied_over data_ canon is_canon draft now over is values leaves conditions = record {
  order = subst (IsInOrder data_.signature) (sym is) (tidied_in_order data_ canon is_canon (plain_draft draft) over.order);
  values = values;
  leaves = leaves;
  conditions = conditions;
}

pub settled_now : (data_ : Data) (canon : Term → Term) → IsCanon data_ canon → (draft now : plain.Draft) → IsInOrder data_.signature draft
    → now ≡ tidied canon draft → canonical canon now ≡ now
settled_now data_ canon is_canon draft now order is =
    ap (canonical canon) is ∙ (tidied_settled data_ canon is_canon draft order ∙ sym is)

-- Where no condition is closed, none is unmet.
pub open_now : (tests : List Test) → has_closed tests ≡ false → AreOpen tests
open_now [] e k test at = absurd (cc at)
open_now (test ∷ tests) e k other at =
    let parts : ((is_ground test.left && is_ground test.right) ≡ false) × (has_closed tests ≡ false) =
    or_parts (is_ground test.left && is_ground test.right) (has_closed tests) e in
    by k at parts.0 (open_now tests parts.1)
  where
    by : (k : ℕ) → slice_get (test ∷ tests) k ≡ Some other → (is_ground test.left && is_ground test.right) ≡ false → AreOpen tests
        → is_unmet other ≡ false
    by zero here apart rest =
        ap is_unmet (sym (some_value here)) ∙ ap (λ (b : Bool). b && not (term_eq test.left test.right)) apart
    by (suc n) here apart rest = rest n other here

pub ordered_entry : (data_ : Data) (canon : Term → Term) → IsCanon data_ canon → (draft : plain.Draft) (entry : solving.Entry)
    → IsInOrder data_.signature draft → SolvesTo canon draft (Some entry)
    → IsOrderedEntry data_.signature entry × IsInOrder data_.signature (as_draft entry)
ordered_entry data_ canon is_canon draft entry order solves =
    let laws : SolvingNamesNoBehaviour = solving_any in
    let s : IsSolvedFrom data_.signature canon draft entry = laws.solved data_ canon draft entry is_canon order solves in (
      record {
        sorts = s.sorts;
        over_values = s.over_values;
        over_leaves = s.over_leaves;
        over_left = s.over_left;
        over_right = s.over_right;
      },
      s.as_draft,
    )

pub nothing_meets : (data_ : Data) (canon : Term → Term) (draft : plain.Draft) → IsCanon data_ canon → IsInOrder data_.signature draft
    → SolvesTo canon draft None → (leaves : List Term) → LeavesMeet data_ draft leaves → ⊥
nothing_meets data_ canon draft is_canon order solves leaves meets =
    let laws : SolvingNamesNoBehaviour = solving_any in
    laws.nothing data_ canon draft leaves is_canon order solves meets

-- Where the outcome is nothing, nothing meets the draft.
pub none_meets : (data_ : Data) (canon : Term → Term) (draft : plain.Draft) → IsCanon data_ canon → IsInOrder data_.signature draft
    → (o : Option Entry) → SolvesTo canon draft (option_map plain_entry o)
    → IfNone o ((leaves : List Term) → LeavesMeet data_ draft leaves → ⊥)
none_meets data_ canon draft is_canon order None solves = nothing_meets data_ canon draft is_canon order solves
none_meets data_ canon draft is_canon order (Some entry) solves = tt

-- Where no condition up to the end gives a replacement, there is none.
pub none_given : (tests : List Test) (place : ℕ) → length tests ≤ place → (GiveNoneBefore 0 tests → GiveNoneBefore place tests)
    → first_replacement tests ≡ None
none_given tests place past passed =
    first_nowhere tests (λ k test lt at. passed (λ j t below there. absurd (omega (arith, below))) k test (omega (arith, lt, past)) at)

-- The entry that is left of a draft of the code is over the signature.
pub over_left : (data_ : Data) (canon : Term → Term) → IsCanon data_ canon → (draft : plain.Draft) → IsInOrder data_.signature draft
    → (entry : Entry) → SolvesTo canon draft (Some (plain_entry entry)) → AreTermsOf data_.signature (label_profiles entry.label)
    → AreTermsOf data_.signature (profiles_of entry.leaves.items)
    → AreConditionsOf data_.signature (condition_profiles entry.conditions.items) → IsEntryOver data_.signature entry
over_left data_ canon is_canon draft order entry solves values leaves conditions =
    let both = ordered_entry data_ canon is_canon draft (plain_entry entry) order solves in
    record {
      entry_of = record { order = both.0; values = values; leaves = leaves; conditions = conditions };
      as_draft = both.1;
    }
