-- Terms changed where they stand, and the conditions that are kept.
use Rattle.std.proofs.Common.{◌≡◌, ◌↔◌, ℕ, List, [], ◌∷◌, Bool, true, false, not, filter, cond, refl, ap, sym, ◌∙◌}
use Rattle.lotos_base.specs.Term.{Term}
use Rattle.lotos_base.specs.Tests.{term_eq}
use Rattle.lotos_base.specs.Signature.{Signature}
use Rattle.lotos_base.proofs.TestLemmas.{Decides-term_eq}
use Rattle.behaviour_semantics.specs.Behaviour.{Test}
use Rattle.term_match.specs.Disagreement.{has_number}
use Rattle.behaviour_semantics.specs.Solving.{test_in, differing}
use Rattle.sort_terms.specs.SortedView.{profiled_in, term_in}
use Rattle.sort_terms.specs.ProfiledTerm.{ProfiledTerm, bare, IsOf}
use Rattle.sort_terms.specs.declared.sorted.Sorted.{Sorted}
use Rattle.lotos_base.specs.Equation.{Data}
use Rattle.lotos_base.specs.Canon.{IsCanon}
use Rattle.draft_solving.specs.Changing.{changed_by, have_other_sides, IsReadyForPut, IsVariable}
use Rattle.draft_solving.proofs.LackLemmas.{lacking_stays}
use Rattle.event_offers.specs.OfferView.{condition_of, conditions_of, condition_profiles, condition_sides}
use Rattle.event_offers.specs.Offers.{IsConditionOf, AreConditionsOf}

-- what a comparison of two terms tells
pub differ_told : (same : Bool) (t u : Term) → ((same ≡ true) ↔ (t ≡ u)) → not same ≡ not (term_eq t u)
differ_told true t u h = sym (ap not ((Decides-term_eq t u).1 (h.0 refl)))
differ_told false t u h = by (term_eq t u) refl
  where
    by : (b : Bool) → term_eq t u ≡ b → true ≡ not b
    by true e = cc (h.1 ((Decides-term_eq t u).0 e))
    by false e = refl

-- a term without the variable, in canonical form, stays
pub lacking_put : (signature : Signature) (canon : Term → Term) (found : ℕ × Sorted) (t : ProfiledTerm)
    → IsReadyForPut signature canon found t → has_number found.0 t ≡ false → bare t ≡ changed_by canon found (bare t)
lacking_put signature canon found t ready lacks = sym ready.canonical ∙ ap canon (sym (lacking_stays found.0 (term_in found.1) t lacks))

-- a variable is its own canonical form
pub variable_stays : (data_ : Data) (canon : Term → Term) → IsCanon data_ canon → (t : Term) → IsVariable t → t ≡ canon t
variable_stays data_ canon is_canon t v = v.is ∙ (sym (is_canon.variables v.number v.sort) ∙ ap canon (sym v.is))

-- ---- What is changed where it stands.
-- The second term is the canonical form of the first, and of the signature, and so with the sides of conditions.
pub record IsSettled (signature : Signature) (canon : Term → Term) (old now : Sorted) : Type 0 where
  pub same : term_in now ≡ canon (term_in old)
  pub is_of : IsOf signature (profiled_in now)

pub record AreSidesSettled (signature : Signature) (canon : Term → Term) (old now : Sorted × Sorted) : Type 0 where
  pub same : condition_of now ≡ test_in canon (condition_of old)
  pub is_of : IsConditionOf signature (condition_sides now)

-- the conditions of those that are kept
pub kept_conditions : (pairs : List (Sorted × Sorted)) → conditions_of (filter have_other_sides pairs) ≡ differing (conditions_of pairs)
kept_conditions [] = refl
kept_conditions (pair ∷ pairs) = by (have_other_sides pair) (kept_conditions pairs)
  where
    by : (b : Bool) → conditions_of (filter have_other_sides pairs) ≡ differing (conditions_of pairs)
        → conditions_of (cond b (pair ∷ filter have_other_sides pairs) (filter have_other_sides pairs))
        ≡ cond b (condition_of pair ∷ differing (conditions_of pairs)) (differing (conditions_of pairs))
    by true e = ap (λ (tests : List Test). condition_of pair ∷ tests) e
    by false e = e

pub kept_of : (signature : Signature) (test : Sorted × Sorted → Bool) (pairs : List (Sorted × Sorted))
    → AreConditionsOf signature (condition_profiles pairs) → AreConditionsOf signature (condition_profiles (filter test pairs))
kept_of signature test [] h = tt
kept_of signature test (pair ∷ pairs) h = by (test pair) (kept_of signature test pairs h.1)
  where
    by : (b : Bool) → AreConditionsOf signature (condition_profiles (filter test pairs))
        → AreConditionsOf signature (condition_profiles (cond b (pair ∷ filter test pairs) (filter test pairs)))
    by true k = (h.0, k)
    by false k = k
