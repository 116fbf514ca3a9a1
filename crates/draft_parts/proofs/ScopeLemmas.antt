-- A behaviour that is well formed once terms are put in is well formed in the scope of the variables that got them.
use Rattle.std.proofs.Common.{◌≡◌, inl, inr, ℕ, List, [], ◌∷◌, ◌++◌, map, Bool, true, false, if◌then◌else◌, Option, None, Some, option_map, refl, ap, sym, ◌∙◌, subst}
use Rattle.lotos_base.specs.Signature.{Signature}
use Rattle.lotos_base.specs.Sorting.{HasSort, HaveSorts, Occurs, OccursAmong}
use Rattle.lotos_base.specs.Term.{Term, variable, node, Terms, no_terms, term_then}
use Rattle.lotos_base.specs.Equation.{Data, Variable}
use Rattle.lotos_base.specs.Substitution.{Substitution, substituted, all_substituted, is_listed, without}
use Rattle.lotos_base.proofs.SortLemmas.{one_sort}
use Rattle.lotos_base.proofs.SubstitutionLemmas.{occurs_substituted}
use Rattle.behaviour_semantics.specs.Behaviour.{Behaviour, stop, exit_with, action, inner_action, guard, choice, parallel, hide, enable, disable, let_be, choose_value, choose_gate, par_gate, call, relabel, Test, Offer, give, ask, ExitValue, exit_value, any_of, Process, asked_variables, numbers_of, let_variables, let_terms}
use Rattle.behaviour_semantics.specs.Replacement.{test_with, offer_with, exit_value_with, with_values}
use Rattle.behaviour_semantics.specs.WellFormed.{Every, sort_in, AreBinders, IsTermIn, IsTestIn, AreTermsIn, IsTestOption, IsOffer, IsExitValue, IsBehaviour}
use Rattle.behaviour_semantics.proofs.RelatedTerms.{sort_in-listed, sort_in-unlisted}
use Rattle.behaviour_semantics.proofs.ReplacementLemmas.{asked-with, let_variables-with}
use Rattle.behaviour_tree.specs.Closed.{OccursInTest, OccursInTestOption, OccursInOne, OccursInOffers, OccursInResults, IsLeftFree, IsFree}
use Rattle.draft_parts.specs.ScopeLaws.{IsGivenIn, PutPartsAreInScope}

-- the terms that `let` binds, with terms put in
pub terms-with : (values : Substitution) (bindings : List (Variable × Term))
    → let_terms (map (λ (bound : Variable × Term). (bound.0, substituted values bound.1)) bindings)
    ≡ map (substituted values) (let_terms bindings)
terms-with values [] = refl
terms-with values (bound ∷ bindings) = ap (λ (ts : List Term). substituted values bound.1 ∷ ts) (terms-with values bindings)

module _ (signature : Signature) where
  abbrev plain_data : Data
  plain_data = record { signature = signature; equations = [] }

  -- ---- Terms.
  module _ (scope other : List Variable) (values : Substitution) where
    abbrev Given : ℕ → ℕ → Type 0
    Given n s = IsGivenIn signature scope other values n s

    variable_back : (n s sort : ℕ) → Given n s → HasSort signature (values n s) sort → HasSort signature (variable n s) sort
    variable_back n s sort (inl (same, keeps)) h = subst (λ (t : Term). HasSort signature t sort) same h
    variable_back n s sort (inr (sorted, is_sort, at)) h = (one_sort signature (values n s) s sort sorted h, is_sort)

    mutual
      sort_back : (t : Term) (sort : ℕ) → ((n s : ℕ) → Occurs n s t → Given n s) → HasSort signature (substituted values t) sort
          → HasSort signature t sort
      sort_back (variable n s) sort given h = variable_back n s sort (given n s (refl, refl)) h
      sort_back (node f ts) sort given h = (h.0, h.1, h.2, sorts_back ts h.0.arguments given h.3)

      sorts_back : (ts : Terms) (sorts : List ℕ) → ((n s : ℕ) → OccursAmong n s ts → Given n s)
          → HaveSorts signature (all_substituted values ts) sorts → HaveSorts signature ts sorts
      sorts_back no_terms [] given h = tt
      sorts_back no_terms (s ∷ sorts) given h = absurd h
      sorts_back (term_then t ts) [] given h = absurd h
      sorts_back (term_then t ts) (s ∷ sorts) given h =
          (sort_back t s (λ n r o. given n r (inl o)) h.0, sorts_back ts sorts (λ n r o. given n r (inr o)) h.1)

    bound_back : (t : Term) (n s : ℕ) → Given n s → Occurs n s t
        → ((m r : ℕ) → Occurs m r (substituted values t) → sort_in other m ≡ Some r) → sort_in scope n ≡ Some s
    bound_back t n s (inl (same, keeps)) o bound =
        keeps s (bound n s (occurs_substituted n s n s values t o (subst (λ (u : Term). Occurs n s u) (sym same) (refl, refl))))
    bound_back t n s (inr (sorted, is_sort, at)) o bound = at

    term_back : (t : Term) (sort : ℕ) → ((n s : ℕ) → Occurs n s t → Given n s) → IsTermIn signature other sort (substituted values t)
        → IsTermIn signature scope sort t
    term_back t sort given h = record {
      sorted = sort_back t sort given h.sorted;
      bound = λ n s o. bound_back t n s (given n s o) o h.bound;
    }

    test_back : (test : Test) → ((n s : ℕ) → OccursInTest n s test → Given n s) → IsTestIn signature other (test_with values test)
        → IsTestIn signature scope test
    test_back test given h = record {
      sort = h.sort;
      left = term_back test.left h.sort (λ n s o. given n s (inl o)) h.left;
      right = term_back test.right h.sort (λ n s o. given n s (inr o)) h.right;
    }

    option_back : (test : Option Test) → ((n s : ℕ) → OccursInTestOption n s test → Given n s)
        → IsTestOption signature other (option_map (test_with values) test) → IsTestOption signature scope test
    option_back None given h = tt
    option_back (Some test) given h = test_back test given h

    offers_back : (offers : List Offer) → ((n s : ℕ) → OccursInOffers n s offers → Given n s)
        → Every (IsOffer signature other) (map (offer_with values) offers) → Every (IsOffer signature scope) offers
    offers_back [] given h = tt
    offers_back (give t ∷ offers) given h =
        ((h.0.0, term_back t h.0.0 (λ n s o. given n s (inl o)) h.0.1), offers_back offers (λ n s o. given n s (inr o)) h.1)
    offers_back (ask x ∷ offers) given h = (h.0, offers_back offers given h.1)

    results_back : (results : List ExitValue) → ((n s : ℕ) → OccursInResults n s results → Given n s)
        → Every (IsExitValue signature other) (map (exit_value_with values) results) → Every (IsExitValue signature scope) results
    results_back [] given h = tt
    results_back (exit_value t ∷ results) given h =
        ((h.0.0, term_back t h.0.0 (λ n s o. given n s (inl o)) h.0.1), results_back results (λ n s o. given n s (inr o)) h.1)
    results_back (any_of s ∷ results) given h = (h.0, results_back results given h.1)

    terms_back : (variables : List Variable) (terms : List Term) → ((n s : ℕ) → OccursInOne n s terms → Given n s)
        → AreTermsIn signature other variables (map (substituted values) terms) → AreTermsIn signature scope variables terms
    terms_back [] [] given h = tt
    terms_back [] (t ∷ terms) given h = absurd h
    terms_back (x ∷ variables) [] given h = absurd h
    terms_back (x ∷ variables) (t ∷ terms) given h =
        (term_back t x.sort (λ n s o. given n s (inl o)) h.0, terms_back variables terms (λ n s o. given n s (inr o)) h.1)

  -- ---- Binders.
  under : (scope other variables : List Variable) (values : Substitution) (n s : ℕ)
      → (IsLeftFree variables n → IsGivenIn signature scope other values n s)
      → IsGivenIn signature (variables ++ scope) (variables ++ other) (without (numbers_of variables) values) n s
  under scope other variables values n s given = by (is_listed (numbers_of variables) n) refl
    where
      outer : is_listed (numbers_of variables) n ≡ false → IsGivenIn signature scope other values n s
          → IsGivenIn signature (variables ++ scope) (variables ++ other) (without (numbers_of variables) values) n s
      outer e (inl (same, keeps)) = inl (
        ap (λ (c : Bool). if c then variable n s else values n s) e ∙ same,
        λ r at. sort_in-unlisted plain_data 0 variables scope n e
            ∙ keeps r (sym (sort_in-unlisted plain_data 0 variables other n e) ∙ at),
      )
      outer e (inr (sorted, is_sort, at)) = inr (
        subst (λ (t : Term). HasSort signature t s) (sym (ap (λ (c : Bool). if c then variable n s else values n s) e)) sorted,
        is_sort,
        sort_in-unlisted plain_data 0 variables scope n e ∙ at,
      )

      by : (c : Bool) → is_listed (numbers_of variables) n ≡ c
          → IsGivenIn signature (variables ++ scope) (variables ++ other) (without (numbers_of variables) values) n s
      by true e = inl (
        ap (λ (c : Bool). if c then variable n s else values n s) e,
        λ r at. sort_in-listed plain_data 0 variables scope n e
            ∙ (sym (sort_in-listed plain_data 0 variables other n e) ∙ at),
      )
      by false e = outer e (given e)

  module _ (names : ℕ) (processes : List Process) where
    back : (scope other : List Variable) (values : Substitution) (b : Behaviour)
        → ((n s : ℕ) → IsFree n s b → IsGivenIn signature scope other values n s)
        → IsBehaviour signature names processes other (with_values values b) → IsBehaviour signature names processes scope b
    back scope other values stop given h = tt
    back scope other values (exit_with results) given h = results_back scope other values results given h
    back scope other values (action g offers test b) given h =
        let variables : List Variable = asked_variables offers in
        let inner : Substitution = without (numbers_of (asked_variables offers)) values in
        let rest : AreBinders signature (asked_variables offers)
        × (IsTestOption signature (asked_variables offers ++ other) (option_map (test_with inner) test)
        × IsBehaviour signature names processes (asked_variables offers ++ other) (with_values inner b)) =
        subst (λ (xs : List Variable). AreBinders signature xs × (IsTestOption signature (xs ++ other) (option_map (test_with inner) test)
        × IsBehaviour signature names processes (xs ++ other) (with_values inner b))) (asked-with values offers) (h.2, (h.3, h.4)) in (
          h.0,
          offers_back scope other values offers (λ n s o. given n s (inl o)) h.1,
          rest.0,
          option_back (asked_variables offers ++ scope) (asked_variables offers ++ other) inner test
              (λ n s o. under scope other (asked_variables offers) values n s (λ left. given n s (inr (left, inl o)))) rest.1.0,
          back (asked_variables offers ++ scope) (asked_variables offers ++ other) inner b
              (λ n s o. under scope other (asked_variables offers) values n s (λ left. given n s (inr (left, inr o)))) rest.1.1,
        )
    back scope other values (inner_action b) given h = back scope other values b given h
    back scope other values (guard test b) given h = (
      test_back scope other values test (λ n s o. given n s (inl o)) h.0,
      back scope other values b (λ n s o. given n s (inr o)) h.1,
    )
    back scope other values (choice b c) given h = (
      back scope other values b (λ n s o. given n s (inl o)) h.0,
      back scope other values c (λ n s o. given n s (inr o)) h.1,
    )
    back scope other values (parallel meet b c) given h = (
      h.0,
      back scope other values b (λ n s o. given n s (inl o)) h.1,
      back scope other values c (λ n s o. given n s (inr o)) h.2,
    )
    back scope other values (hide gates b) given h = (h.0, back scope other values b given h.1)
    back scope other values (enable b variables c) given h = (
      back scope other values b (λ n s o. given n s (inl o)) h.0,
      h.1,
      back (variables ++ scope) (variables ++ other) (without (numbers_of variables) values) c
          (λ n s o. under scope other variables values n s (λ left. given n s (inr (left, o)))) h.2,
    )
    back scope other values (disable b c) given h = (
      back scope other values b (λ n s o. given n s (inl o)) h.0,
      back scope other values c (λ n s o. given n s (inr o)) h.1,
    )
    back scope other values (let_be bindings b) given h =
        let inner : Substitution = without (numbers_of (let_variables bindings)) values in
        let replaced : List (Variable × Term) = map (λ (bound : Variable × Term). (bound.0, substituted values bound.1)) bindings in
        let rest : AreBinders signature (let_variables bindings)
        × (AreTermsIn signature other (let_variables bindings) (let_terms replaced)
        × IsBehaviour signature names processes (let_variables bindings ++ other) (with_values inner b)) =
        subst (λ (xs : List Variable). AreBinders signature xs × (AreTermsIn signature other xs (let_terms replaced)
        × IsBehaviour signature names processes (xs ++ other) (with_values inner b))) (let_variables-with values bindings)
        (h.0, (h.1, h.2)) in (
          rest.0,
          terms_back scope other values (let_variables bindings) (let_terms bindings) (λ n s o. given n s (inl o))
              (subst (AreTermsIn signature other (let_variables bindings)) (terms-with values bindings) rest.1.0),
          back (let_variables bindings ++ scope) (let_variables bindings ++ other) inner b
              (λ n s o. under scope other (let_variables bindings) values n s (λ left. given n s (inr (left, o)))) rest.1.1,
        )
    back scope other values (choose_value x b) given h = (
      h.0,
      back (x ∷ scope) (x ∷ other) (without (x.number ∷ []) values) b
          (λ n s o. under scope other (x ∷ []) values n s (λ left. given n s (left, o))) h.1,
    )
    back scope other values (choose_gate g gates b) given h = (h.0, h.1, back scope other values b given h.2)
    back scope other values (par_gate g gates meet b) given h = (h.0, h.1, h.2, h.3, back scope other values b given h.4)
    back scope other values (call number gates arguments) given h = (
      h.0,
      record {
        process = h.1.process;
        exists = h.1.exists;
        gate_count = h.1.gate_count;
        values = terms_back scope other values h.1.process.parameters arguments given h.1.values;
      },
    )
    back scope other values (relabel pairs b) given h = (h.0, back scope other values b given h.1)

pub put_parts : PutPartsAreInScope
put_parts signature names processes scope other values b given h = back signature names processes scope other values b given h
