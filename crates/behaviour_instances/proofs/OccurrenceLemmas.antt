-- What occurs in a member of a list occurs in the list.
use Rattle.std.proofs.Common.{◌≡◌, ◌<◌, inl, inr, ℕ, List, [], ◌∷◌, map, length, get_or}
use Rattle.lotos_base.specs.Sorting.{Occurs}
use Rattle.behaviour_semantics.specs.Behaviour.{let_terms}
use Rattle.sort_terms.specs.SortedView.{term_in}
use Rattle.sort_terms.specs.declared.equations.Variable.{Variable}
use Rattle.sort_terms.specs.declared.sorted.Sorted.{Sorted}
use Rattle.behaviour_tree.specs.BehaviourView.{exit_value_of, let_of, offer_of, terms_of}
use Rattle.behaviour_tree.specs.Closed.{OccursInOffers, OccursInOne, OccursInResults}
use Rattle.behaviour_tree.specs.declared.behaviours.Offer.{Offer}
use Rattle.behaviour_tree.specs.declared.behaviours.Offer.TheVariants.{Give, Ask}
use Rattle.behaviour_tree.specs.declared.behaviours.ExitValue.{ExitValue}
use Rattle.behaviour_tree.specs.declared.behaviours.ExitValue.TheVariants as exit_value
use Rattle.behaviour_instances.proofs.TurnLemmas.{at_index}

module _ (n s : ℕ) where
  pub in_terms : (terms : List Sorted) (i : ℕ) (t : Sorted) → i < length terms → t ≡ get_or terms i t → Occurs n s (term_in t)
      → OccursInOne n s (terms_of terms)
  in_terms terms i t within is o =
      at_index (λ (ts : List Sorted). OccursInOne n s (terms_of ts)) first (λ x rest h. inr h) terms i t within is (inl o)
    where
      first : (x : Sorted) (rest : List Sorted) → OccursInOne n s (terms_of (x ∷ [])) → OccursInOne n s (terms_of (x ∷ rest))
      first x rest (inl h) = inl h
      first x rest (inr h) = absurd h

  pub in_bindings : (bindings : List (Variable × Sorted)) (i : ℕ) (b : Variable × Sorted) → i < length bindings → b ≡ get_or bindings i b
      → Occurs n s (term_in b.1) → OccursInOne n s (let_terms (map let_of bindings))
  in_bindings bindings i b within is o =
      at_index (λ (bs : List (Variable × Sorted)). OccursInOne n s (let_terms (map let_of bs))) first (λ x rest h. inr h)
      bindings i b within is (inl o)
    where
      first : (x : Variable × Sorted) (rest : List (Variable × Sorted)) → OccursInOne n s (let_terms (map let_of (x ∷ [])))
          → OccursInOne n s (let_terms (map let_of (x ∷ rest)))
      first x rest (inl h) = inl h
      first x rest (inr h) = absurd h

  pub in_offers : (offers : List Offer) (i : ℕ) (offer : Offer) → i < length offers → offer ≡ get_or offers i offer
      → OccursInOffers n s (offer_of offer ∷ []) → OccursInOffers n s (map offer_of offers)
  in_offers offers i offer within is o =
      at_index (λ (os : List Offer). OccursInOffers n s (map offer_of os)) first later offers i offer within is o
    where
      first : (x : Offer) (rest : List Offer) → OccursInOffers n s (map offer_of (x ∷ [])) → OccursInOffers n s (map offer_of (x ∷ rest))
      first (Give t) rest (inl h) = inl h
      first (Give t) rest (inr h) = absurd h
      first (Ask x) rest h = absurd h

      later : (x : Offer) (rest : List Offer) → OccursInOffers n s (map offer_of rest) → OccursInOffers n s (map offer_of (x ∷ rest))
      later (Give t) rest h = inr h
      later (Ask x) rest h = h

  pub in_results : (values : List ExitValue) (i : ℕ) (value : ExitValue) → i < length values → value ≡ get_or values i value
      → OccursInResults n s (exit_value_of value ∷ []) → OccursInResults n s (map exit_value_of values)
  in_results values i value within is o =
      at_index (λ (vs : List ExitValue). OccursInResults n s (map exit_value_of vs)) first later values i value within is o
    where
      first : (x : ExitValue) (rest : List ExitValue) → OccursInResults n s (map exit_value_of (x ∷ []))
          → OccursInResults n s (map exit_value_of (x ∷ rest))
      first (exit_value.Give t) rest (inl h) = inl h
      first (exit_value.Give t) rest (inr h) = absurd h
      first (exit_value.Any r) rest h = absurd h

      later : (x : ExitValue) (rest : List ExitValue) → OccursInResults n s (map exit_value_of rest)
          → OccursInResults n s (map exit_value_of (x ∷ rest))
      later (exit_value.Give t) rest h = inr h
      later (exit_value.Any r) rest h = h
