-- Ground terms put for the variables of a scope leave a behaviour well formed.
use Rattle.std.proofs.Common.{◌≡◌, ◌⊎◌, inl, inr, ℕ, List, [], ◌∷◌, ◌++◌, map, nat_eq, Bool, true, false, if◌then◌else◌, Option, None, Some, option_map, refl, ap, sym, ◌∙◌, subst}
use Rattle.lotos_base.specs.Signature.{Signature, IsSort}
use Rattle.lotos_base.specs.Term.{Term, variable}
use Rattle.lotos_base.specs.Sorting.{HasSort, IsGroundOf, Occurs}
use Rattle.lotos_base.specs.Equation.{Data, Variable}
use Rattle.lotos_base.specs.Substitution.{Substitution, substituted, is_listed, without}
use Rattle.lotos_base.proofs.SubstitutionLemmas.{ComesFrom, substituted_occurs, substituted_sort, ground_no_variable}
use Rattle.behaviour_semantics.specs.Behaviour.{Behaviour, stop, exit_with, action, inner_action, guard, choice, parallel, hide, enable, disable, let_be, choose_value, choose_gate, par_gate, call, relabel, Test, Offer, give, ask, ExitValue, exit_value, any_of, Process, asked_variables, numbers_of, sorts_of, let_variables, let_terms}
use Rattle.behaviour_semantics.specs.Replacement.{test_with, offer_with, exit_value_with, with_values, binding_of}
use Rattle.behaviour_semantics.specs.Rule.{AreValues}
use Rattle.behaviour_semantics.specs.WellFormed.{sort_in, Every, IsTermIn, IsTestIn, AreTermsIn, AreBinders, IsTestOption, IsOffer, IsExitValue, IsBehaviour}
use Rattle.behaviour_semantics.proofs.OptionLemmas.{some_value}
use Rattle.behaviour_semantics.proofs.RelatedTerms.{occurs_sort, sort_in-listed, sort_in-unlisted}
use Rattle.behaviour_semantics.proofs.ReplacementLemmas.{asked-with}

module _ (signature : Signature) where
  -- A variable of the scope stays a variable of the other scope, or gets a ground term of its sort.
  abbrev pub PutsIn : List Variable → List Variable → Substitution → Type 0
  PutsIn scope other values = (n s : ℕ) → sort_in scope n ≡ Some s
      → ((values n s ≡ variable n s) × (sort_in other n ≡ Some s)) ⊎ IsGroundOf signature s (values n s)

  put_sort : (other : List Variable) (values : Substitution) (n s : ℕ) → IsSort signature s
      → ((values n s ≡ variable n s) × (sort_in other n ≡ Some s)) ⊎ IsGroundOf signature s (values n s) → HasSort signature (values n s) s
  put_sort other values n s is_sort (inl (same, at)) = let var : HasSort signature (variable n s) s =
      (refl, is_sort) in subst (λ (t : Term). HasSort signature t s) (sym same) var
  put_sort other values n s is_sort (inr g) = g.sorted

  put_bound : (other : List Variable) (values : Substitution) (n s m r : ℕ)
      → ((values n s ≡ variable n s) × (sort_in other n ≡ Some s)) ⊎ IsGroundOf signature s (values n s) → Occurs m r (values n s)
      → sort_in other m ≡ Some r
  put_bound other values n s m r (inl (same, at)) o =
      let var : Occurs m r (variable n s) = subst (Occurs m r) same o in
      subst (λ (k : ℕ). sort_in other k ≡ Some r) var.0 (at ∙ ap (λ (k : ℕ). Some k) var.1)
  put_bound other values n s m r (inr g) o = absurd (ground_no_variable (values n s) g.ground m r o)

  module _ (scope other : List Variable) (values : Substitution) (puts : PutsIn scope other values) where
    pub put_term : (sort : ℕ) (t : Term) → IsTermIn signature scope sort t → IsTermIn signature other sort (substituted values t)
    put_term sort t h = record {
      sorted = substituted_sort signature values t sort h.sorted
          (λ n s o. put_sort other values n s (occurs_sort signature t sort n s h.sorted o) (puts n s (h.bound n s o)));
      bound = λ m r o.
          let c : ComesFrom m r values t = substituted_occurs m r values t o in
          put_bound other values c.number c.sort m r (puts c.number c.sort (h.bound c.number c.sort c.occurs)) c.inside;
    }

    put_test : (test : Test) → IsTestIn signature scope test → IsTestIn signature other (test_with values test)
    put_test test h = record { sort = h.sort; left = put_term h.sort test.left h.left; right = put_term h.sort test.right h.right }

    pub put_option : (test : Option Test) → IsTestOption signature scope test
        → IsTestOption signature other (option_map (test_with values) test)
    put_option None h = tt
    put_option (Some test) h = put_test test h

    put_offers : (offers : List Offer) → Every (IsOffer signature scope) offers
        → Every (IsOffer signature other) (map (offer_with values) offers)
    put_offers [] h = tt
    put_offers (give t ∷ offers) h = ((h.0.0, put_term h.0.0 t h.0.1), put_offers offers h.1)
    put_offers (ask x ∷ offers) h = (h.0, put_offers offers h.1)

    put_results : (results : List ExitValue) → Every (IsExitValue signature scope) results
        → Every (IsExitValue signature other) (map (exit_value_with values) results)
    put_results [] h = tt
    put_results (exit_value t ∷ results) h = ((h.0.0, put_term h.0.0 t h.0.1), put_results results h.1)
    put_results (any_of s ∷ results) h = (h.0, put_results results h.1)

    put_terms : (variables : List Variable) (terms : List Term) → AreTermsIn signature scope variables terms
        → AreTermsIn signature other variables (map (substituted values) terms)
    put_terms [] [] h = tt
    put_terms (x ∷ variables) (t ∷ terms) h = (put_term x.sort t h.0, put_terms variables terms h.1)
    put_terms [] (t ∷ terms) h = absurd h
    put_terms (x ∷ variables) [] h = absurd h

  -- Under a binder its own variables stay.
  pub puts_under : (scope other : List Variable) (values : Substitution) (variables : List Variable) → PutsIn scope other values
      → PutsIn (variables ++ scope) (variables ++ other) (without (numbers_of variables) values)
  puts_under scope other values variables puts n s h = by (is_listed (numbers_of variables) n) refl
    where
      data_ : Data
      data_ = record { signature = signature; equations = [] }

      outside : (is_listed (numbers_of variables) n ≡ false)
          → ((values n s ≡ variable n s) × (sort_in other n ≡ Some s)) ⊎ IsGroundOf signature s (values n s)
          → ((without (numbers_of variables) values n s ≡ variable n s) × (sort_in (variables ++ other) n ≡ Some s)) ⊎ IsGroundOf signature
          s (without (numbers_of variables) values n s)
      outside e (inl (same, at)) = inl (
        ap (λ (b : Bool). if b then variable n s else values n s) e ∙ same,
        sort_in-unlisted data_ 0 variables other n e ∙ at,
      )
      outside e (inr g) = inr (subst (IsGroundOf signature s) (sym (ap (λ (b : Bool). if b then variable n s else values n s) e)) g)

      by : (listed : Bool) → is_listed (numbers_of variables) n ≡ listed
          → ((without (numbers_of variables) values n s ≡ variable n s) × (sort_in (variables ++ other) n ≡ Some s)) ⊎ IsGroundOf signature
          s (without (numbers_of variables) values n s)
      by true e = inl (
        ap (λ (b : Bool). if b then variable n s else values n s) e,
        sort_in-listed data_ 0 variables other n e ∙ (sym (sort_in-listed data_ 0 variables scope n e) ∙ h),
      )
      by false e = outside e (puts n s (sym (sort_in-unlisted data_ 0 variables scope n e) ∙ h))

  let-with : (values : Substitution) (bindings : List (Variable × Term))
      → let_variables (map (λ (bound : Variable × Term). (bound.0, substituted values bound.1)) bindings) ≡ let_variables bindings
  let-with values [] = refl
  let-with values (bound ∷ bindings) = ap (λ (xs : List Variable). bound.0 ∷ xs) (let-with values bindings)

  terms-with : (values : Substitution) (bindings : List (Variable × Term))
      → let_terms (map (λ (bound : Variable × Term). (bound.0, substituted values bound.1)) bindings)
      ≡ map (substituted values) (let_terms bindings)
  terms-with values [] = refl
  terms-with values (bound ∷ bindings) = ap (λ (ts : List Term). substituted values bound.1 ∷ ts) (terms-with values bindings)

  module _ (names : ℕ) (processes : List Process) where
    pub put_behaviour : (scope other : List Variable) (values : Substitution) → PutsIn scope other values → (b : Behaviour)
        → IsBehaviour signature names processes scope b → IsBehaviour signature names processes other (with_values values b)
    put_behaviour scope other values puts stop h = tt
    put_behaviour scope other values puts (exit_with results) h = put_results scope other values puts results h
    put_behaviour scope other values puts (action g offers test b) h =
        let variables : List Variable = asked_variables offers in
        let inner : Substitution = without (numbers_of variables) values in
        let under_ : PutsIn (variables ++ scope) (variables ++ other) inner = puts_under scope other values variables puts in
        let rest : AreBinders signature (asked_variables (map (offer_with values) offers))
        × (IsTestOption signature (asked_variables (map (offer_with values) offers) ++ other) (option_map (test_with inner) test)
        × IsBehaviour signature names processes (asked_variables (map (offer_with values) offers) ++ other) (with_values inner b)) =
        subst (λ (xs : List Variable). AreBinders signature xs
        × (IsTestOption signature (xs ++ other) (option_map (test_with inner) test)
        × IsBehaviour signature names processes (xs ++ other) (with_values inner b))) (sym (asked-with values offers)) (
          h.2,
          (
            put_option (variables ++ scope) (variables ++ other) inner under_ test h.3,
            put_behaviour (variables ++ scope) (variables ++ other) inner under_ b h.4,
          ),
        ) in
        (h.0, put_offers scope other values puts offers h.1, rest.0, rest.1.0, rest.1.1)
    put_behaviour scope other values puts (inner_action b) h = put_behaviour scope other values puts b h
    put_behaviour scope other values puts (guard test b) h =
        (put_test scope other values puts test h.0, put_behaviour scope other values puts b h.1)
    put_behaviour scope other values puts (choice b c) h =
        (put_behaviour scope other values puts b h.0, put_behaviour scope other values puts c h.1)
    put_behaviour scope other values puts (parallel meet b c) h =
        (h.0, put_behaviour scope other values puts b h.1, put_behaviour scope other values puts c h.2)
    put_behaviour scope other values puts (hide gates b) h = (h.0, put_behaviour scope other values puts b h.1)
    put_behaviour scope other values puts (enable b variables c) h = (
      put_behaviour scope other values puts b h.0,
      h.1,
      put_behaviour (variables ++ scope) (variables ++ other)
          (without (numbers_of variables) values) (puts_under scope other values variables puts) c h.2,
    )
    put_behaviour scope other values puts (disable b c) h =
        (put_behaviour scope other values puts b h.0, put_behaviour scope other values puts c h.1)
    put_behaviour scope other values puts (let_be bindings b) h =
        let variables : List Variable = let_variables bindings in
        let inner : Substitution = without (numbers_of variables) values in
        let replaced : List (Variable × Term) = map (λ (bound : Variable × Term). (bound.0, substituted values bound.1)) bindings in
        let terms : AreTermsIn signature other variables (let_terms replaced) =
        subst (AreTermsIn signature other variables) (sym (terms-with values bindings))
        (put_terms scope other values puts variables (let_terms bindings) h.1) in
        let rest : AreBinders signature (let_variables replaced)
        × (AreTermsIn signature other (let_variables replaced) (let_terms replaced)
        × IsBehaviour signature names processes (let_variables replaced ++ other) (with_values inner b)) =
        subst (λ (xs : List Variable). AreBinders signature xs
        × (AreTermsIn signature other xs (let_terms replaced)
        × IsBehaviour signature names processes (xs ++ other) (with_values inner b))) (sym (let-with values bindings)) (
          h.0,
          (
            terms,
            put_behaviour (variables ++ scope) (variables ++ other) inner (puts_under scope other values variables puts) b
                h.2,
          ),
        ) in
        (rest.0, rest.1.0, rest.1.1)
    put_behaviour scope other values puts (choose_value x b) h =
        (h.0, put_behaviour (x ∷ scope) (x ∷ other) (without (x.number ∷ []) values) (puts_under scope other values (x ∷ []) puts) b h.1)
    put_behaviour scope other values puts (choose_gate g gates b) h = (h.0, h.1, put_behaviour scope other values puts b h.2)
    put_behaviour scope other values puts (par_gate g gates meet b) h = (h.0, h.1, h.2, h.3, put_behaviour scope other values puts b h.4)
    put_behaviour scope other values puts (call number gates arguments) h = (
      h.0,
      record {
        process = h.1.process;
        exists = h.1.exists;
        gate_count = h.1.gate_count;
        values = put_terms scope other values puts h.1.process.parameters arguments h.1.values;
      },
    )
    put_behaviour scope other values puts (relabel pairs b) h = (h.0, put_behaviour scope other values puts b h.1)

  -- Values for all variables of a scope close what is in the scope.
  pub bound_puts : (variables : List Variable) (terms : List Term) → AreValues signature (sorts_of variables) terms
      → PutsIn variables [] (binding_of variables terms)
  bound_puts [] [] h n s at = absurd (cc at)
  bound_puts [] (t ∷ terms) h n s at = absurd h
  bound_puts (x ∷ variables) [] h n s at = absurd h
  bound_puts (x ∷ variables) (t ∷ terms) h n s at = by (nat_eq x.number n) refl (bound_puts variables terms h.1 n s) at
    where
      by : (same : Bool) → nat_eq x.number n ≡ same
          → (sort_in variables n ≡ Some s → ((binding_of variables terms n s ≡ variable n s) × (sort_in [] n ≡ Some s)) ⊎ IsGroundOf
          signature s (binding_of variables terms n s))
          → (if same then Some x.sort else sort_in variables n) ≡ Some s
          → ((binding_of (x ∷ variables) (t ∷ terms) n s ≡ variable n s) × (sort_in [] n ≡ Some s)) ⊎ IsGroundOf signature s
          (binding_of (x ∷ variables) (t ∷ terms) n s)
      by true e rest found =
          inr (subst (IsGroundOf signature s) (sym (ap (λ (b : Bool). if b then t else binding_of variables terms n s) e))
          (subst (λ (r : ℕ). IsGroundOf signature r t) (some_value found) h.0))
      by false e rest found =
          subst (λ (u : Term). ((u ≡ variable n s) × (sort_in [] n ≡ Some s)) ⊎ IsGroundOf signature s u)
          (sym (ap (λ (b : Bool). if b then t else binding_of variables terms n s) e)) (rest found)

  -- Values for the inner variables of a scope leave the outer ones.
  pub inner_puts : (variables scope : List Variable) (terms : List Term) → AreValues signature (sorts_of variables) terms
      → PutsIn (variables ++ scope) scope (binding_of variables terms)
  inner_puts [] scope [] h n s at = inl (refl, at)
  inner_puts [] scope (t ∷ terms) h n s at = absurd h
  inner_puts (x ∷ variables) scope [] h n s at = absurd h
  inner_puts (x ∷ variables) scope (t ∷ terms) h n s at = by (nat_eq x.number n) (inner_puts variables scope terms h.1 n s) at
    where
      by : (same : Bool)
          → (sort_in (variables ++ scope) n ≡ Some s → ((binding_of variables terms n s ≡ variable n s) × (sort_in scope n ≡ Some s))
          ⊎ IsGroundOf signature s (binding_of variables terms n s))
          → (if same then Some x.sort else sort_in (variables ++ scope) n) ≡ Some s
          → (((if same then t else binding_of variables terms n s) ≡ variable n s) × (sort_in scope n ≡ Some s))
          ⊎ IsGroundOf signature s (if same then t else binding_of variables terms n s)
      by true rest found = inr (subst (λ (r : ℕ). IsGroundOf signature r t) (some_value found) h.0)
      by false rest found = rest found

  pub closed_by : (names : ℕ) (processes : List Process) (variables : List Variable) (terms : List Term) (b : Behaviour)
      → AreValues signature (sorts_of variables) terms → IsBehaviour signature names processes variables b
      → IsBehaviour signature names processes [] (with_values (binding_of variables terms) b)
  closed_by names processes variables terms b values h = put_behaviour names processes variables [] (binding_of variables terms)
      (bound_puts variables terms values) b h
