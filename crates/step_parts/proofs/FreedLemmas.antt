-- Variables for which a substitution puts themselves stay free in a behaviour.
use Rattle.std.proofs.Common.{◌≡◌, ◌⊎◌, inl, inr, ℕ, List, [], ◌∷◌, map, Bool, false, if◌then◌else◌, Option, None, Some, refl, ap, sym, ◌∙◌, subst}
use Rattle.std.specs.Prelude.{option_map}
use Rattle.lotos_base.specs.Term.{Term, variable}
use Rattle.lotos_base.specs.Sorting.{Occurs}
use Rattle.lotos_base.specs.Equation.{Variable}
use Rattle.lotos_base.specs.Substitution.{Substitution, substituted, is_listed, without}
use Rattle.lotos_base.proofs.SubstitutionLemmas.{occurs_substituted}
use Rattle.behaviour_semantics.specs.Behaviour.{Behaviour, stop, exit_with, action, inner_action, guard, choice, parallel, hide, enable, disable, let_be, choose_value, choose_gate, par_gate, call, relabel, Test, Offer, give, ask, ExitValue, exit_value, any_of, asked_variables, numbers_of, let_variables, let_terms}
use Rattle.behaviour_semantics.specs.Replacement.{exit_value_with, offer_with, test_with, with_values}
use Rattle.behaviour_semantics.proofs.ReplacementLemmas.{asked-with, let_variables-with}
use Rattle.behaviour_tree.specs.Closed.{IsFree, IsLeftFree, OccursInOffers, OccursInOne, OccursInResults, OccursInTest, OccursInTestOption}

module _ (n s : ℕ) where
  -- The substitution puts the variable for itself.
  abbrev pub Leaves : Substitution → Type 0
  Leaves values = values n s ≡ variable n s

  pub without_leaves : (numbers : List ℕ) (values : Substitution) → is_listed numbers n ≡ false → Leaves values
      → Leaves (without numbers values)
  without_leaves numbers values left h = ap (λ (b : Bool). if b then variable n s else values n s) left ∙ h

  stays : (values : Substitution) (t : Term) → Leaves values → Occurs n s t → Occurs n s (substituted values t)
  stays values t h o = occurs_substituted n s n s values t o (subst (λ (u : Term). Occurs n s u) (sym h) (refl, refl))

  stays_in_test : (values : Substitution) (test : Test) → Leaves values → OccursInTest n s test → OccursInTest n s (test_with values test)
  stays_in_test values test h (inl o) = inl (stays values test.left h o)
  stays_in_test values test h (inr o) = inr (stays values test.right h o)

  stays_in_option : (values : Substitution) (test : Option Test) → Leaves values → OccursInTestOption n s test
      → OccursInTestOption n s (option_map (test_with values) test)
  stays_in_option values None h o = absurd o
  stays_in_option values (Some test) h o = stays_in_test values test h o

  stays_in_offers : (values : Substitution) (offers : List Offer) → Leaves values → OccursInOffers n s offers
      → OccursInOffers n s (map (offer_with values) offers)
  stays_in_offers values [] h o = absurd o
  stays_in_offers values (give t ∷ offers) h (inl o) = inl (stays values t h o)
  stays_in_offers values (give t ∷ offers) h (inr o) = inr (stays_in_offers values offers h o)
  stays_in_offers values (ask x ∷ offers) h o = stays_in_offers values offers h o

  stays_in_results : (values : Substitution) (results : List ExitValue) → Leaves values → OccursInResults n s results
      → OccursInResults n s (map (exit_value_with values) results)
  stays_in_results values [] h o = absurd o
  stays_in_results values (exit_value t ∷ results) h (inl o) = inl (stays values t h o)
  stays_in_results values (exit_value t ∷ results) h (inr o) = inr (stays_in_results values results h o)
  stays_in_results values (any_of r ∷ results) h o = stays_in_results values results h o

  stays_in_terms : (values : Substitution) (terms : List Term) → Leaves values → OccursInOne n s terms
      → OccursInOne n s (map (substituted values) terms)
  stays_in_terms values [] h o = absurd o
  stays_in_terms values (t ∷ terms) h (inl o) = inl (stays values t h o)
  stays_in_terms values (t ∷ terms) h (inr o) = inr (stays_in_terms values terms h o)

  stays_in_bindings : (values : Substitution) (bindings : List (Variable × Term)) → Leaves values → OccursInOne n s (let_terms bindings)
      → OccursInOne n s (let_terms (map {B = Variable × Term} (λ (bound : Variable × Term). (bound.0, substituted values bound.1))
      bindings))
  stays_in_bindings values [] h o = absurd o
  stays_in_bindings values (b ∷ bindings) h (inl o) = inl (stays values b.1 h o)
  stays_in_bindings values (b ∷ bindings) h (inr o) = inr (stays_in_bindings values bindings h o)

  -- a binder leaves free what it left free before
  still_left : (variables others : List Variable) → others ≡ variables → IsLeftFree variables n → IsLeftFree others n
  still_left variables others e left = ap (λ (xs : List Variable). is_listed (numbers_of xs) n) e ∙ left

  behind_action : (values : Substitution) (test : Option Test) (b : Behaviour) → Leaves values
      → (IsFree n s b → IsFree n s (with_values values b)) → OccursInTestOption n s test ⊎ IsFree n s b
      → OccursInTestOption n s (option_map (test_with values) test) ⊎ IsFree n s (with_values values b)
  behind_action values test b h below (inl o) = inl (stays_in_option values test h o)
  behind_action values test b h below (inr o) = inr (below o)

  pub stays_free : (values : Substitution) (b : Behaviour) → Leaves values → IsFree n s b → IsFree n s (with_values values b)
  stays_free values stop h o = absurd o
  stays_free values (exit_with results) h o = stays_in_results values results h o
  stays_free values (action g offers test b) h (inl o) = inl (stays_in_offers values offers h o)
  stays_free values (action g offers test b) h (inr o) =
      let inside : Leaves (without (numbers_of (asked_variables offers)) values) =
      without_leaves (numbers_of (asked_variables offers)) values o.0 h in
      inr (
        still_left (asked_variables offers) (asked_variables (map (offer_with values) offers)) (asked-with values offers) o.0,
        behind_action (without (numbers_of (asked_variables offers)) values) test b inside
            (λ free. stays_free (without (numbers_of (asked_variables offers)) values) b inside free) o.1,
      )
  stays_free values (inner_action b) h o = stays_free values b h o
  stays_free values (guard test b) h (inl o) = inl (stays_in_test values test h o)
  stays_free values (guard test b) h (inr o) = inr (stays_free values b h o)
  stays_free values (choice b c) h (inl o) = inl (stays_free values b h o)
  stays_free values (choice b c) h (inr o) = inr (stays_free values c h o)
  stays_free values (parallel meet b c) h (inl o) = inl (stays_free values b h o)
  stays_free values (parallel meet b c) h (inr o) = inr (stays_free values c h o)
  stays_free values (hide gates b) h o = stays_free values b h o
  stays_free values (enable b variables c) h (inl o) = inl (stays_free values b h o)
  stays_free values (enable b variables c) h (inr o) =
      inr (o.0, stays_free (without (numbers_of variables) values) c (without_leaves (numbers_of variables) values o.0 h) o.1)
  stays_free values (disable b c) h (inl o) = inl (stays_free values b h o)
  stays_free values (disable b c) h (inr o) = inr (stays_free values c h o)
  stays_free values (let_be bindings b) h (inl o) = inl (stays_in_bindings values bindings h o)
  stays_free values (let_be bindings b) h (inr o) =
      inr (
        still_left (let_variables bindings)
            (let_variables (map {B = Variable × Term} (λ (bound : Variable × Term). (bound.0, substituted values bound.1)) bindings))
            (let_variables-with values bindings) o.0,
        stays_free (without (numbers_of (let_variables bindings)) values) b
            (without_leaves (numbers_of (let_variables bindings)) values o.0 h) o.1,
      )
  stays_free values (choose_value x b) h o =
      (o.0, stays_free (without (x.number ∷ []) values) b (without_leaves (x.number ∷ []) values o.0 h) o.1)
  stays_free values (choose_gate g gates b) h o = stays_free values b h o
  stays_free values (par_gate g gates meet b) h o = stays_free values b h o
  stays_free values (call number gates arguments) h o = stays_in_terms values arguments h o
  stays_free values (relabel pairs b) h o = stays_free values b h o
