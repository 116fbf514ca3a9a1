-- A well-formed behaviour stands beside itself, and sides can be turned.
use Rattle.std.proofs.Common.{◌≡◌, ◌<◌, ◌≤◌, inl, ℕ, List, [], ◌∷◌, ◌++◌, Option, None, Some, Bool, true, false, nat_eq, refl, sym, ◌∙◌, arith, eqb-true}
use Rattle.lotos_base.specs.Signature.{IsSort}
use Rattle.lotos_base.specs.Term.{Term}
use Rattle.lotos_base.specs.Equation.{Data, Variable}
use Rattle.lotos_base.proofs.SubstitutionLemmas.{substituted_agree}
use Rattle.lotos_base.proofs.EqualityLemmas.{equal_same}
use Rattle.behaviour_semantics.specs.Behaviour.{Behaviour, stop, exit_with, action, inner_action, guard, choice, parallel, hide, enable, disable, let_be, choose_value, choose_gate, par_gate, call, relabel, Test, Offer, give, ask, ExitValue, exit_value, any_of, Process, asked_variables, open_sorts, sorts_of, let_variables, let_terms}
use Rattle.behaviour_semantics.specs.WellFormed.{sort_in, Every, IsTermIn, IsTestIn, AreTermsIn, IsTestOption, IsOffer, IsExitValue, IsBehaviour}
use Rattle.behaviour_semantics.specs.Draft.{above_variables, above}
use Rattle.behaviour_semantics.proofs.RelatedTerms.{Side, with_leaves, with_leaves-bound, Related, turned, Binders, RelatedTerms, none_related, one_related}
use Rattle.behaviour_semantics.proofs.RelatedBehaviours.{RelatedTests, RelatedOptions, no_tests, some_tests, RelatedOffers, no_offers, both_give, both_ask, RelatedResults, no_results, both_values, both_any, Beside, both_stop, both_exit_with, both_action, both_inner, both_guard, both_choice, both_parallel, both_hide, both_enable, both_disable, both_let, both_choose_value, both_choose_gate, both_par_gate, both_call, both_relabel}

module _ (data_ : Data) (base : ℕ) where
  -- Turning.
  turned_tests : {x y : Side} {scope : List Variable} {test other : Test} → RelatedTests data_ base x y scope test other
      → RelatedTests data_ base y x scope other test
  turned_tests r = record { sort = r.sort; left = turned r.left; right = turned r.right }

  turned_options : {x y : Side} {scope : List Variable} {test other : Option Test} → RelatedOptions data_ base x y scope test other
      → RelatedOptions data_ base y x scope other test
  turned_options no_tests = no_tests
  turned_options (some_tests r) = some_tests (turned_tests r)

  turned_offers : {x y : Side} {scope variables : List Variable} {offers others : List Offer}
      → RelatedOffers data_ base x y scope variables offers others → RelatedOffers data_ base y x scope variables others offers
  turned_offers no_offers = no_offers
  turned_offers (both_give r rest) = both_give (turned r) (turned_offers rest)
  turned_offers (both_ask z rest) = both_ask z (turned_offers rest)

  turned_results : {x y : Side} {scope : List Variable} {sorts : List ℕ} {results others : List ExitValue}
      → RelatedResults data_ base x y scope sorts results others → RelatedResults data_ base y x scope sorts others results
  turned_results no_results = no_results
  turned_results (both_values r rest) = both_values (turned r) (turned_results rest)
  turned_results (both_any s is_sort rest) = both_any s is_sort (turned_results rest)

  pub turned_terms : {x y : Side} {scope : List Variable} {sorts : List ℕ} {ts us : List Term}
      → RelatedTerms data_ base x y scope sorts ts us → RelatedTerms data_ base y x scope sorts us ts
  turned_terms none_related = none_related
  turned_terms (one_related r rest) = one_related (turned r) (turned_terms rest)

  pub turned_beside : {processes : List Process} {x y : Side} {scope : List Variable} {b c : Behaviour}
      → Beside data_ base processes x y scope b c → Beside data_ base processes y x scope c b
  turned_beside both_stop = both_stop
  turned_beside (both_exit_with r) = both_exit_with (turned_results r)
  turned_beside (both_action r binders tests rest) = both_action (turned_offers r) binders (turned_options tests) (turned_beside rest)
  turned_beside (both_inner r) = both_inner (turned_beside r)
  turned_beside (both_guard r q) = both_guard (turned_tests r) (turned_beside q)
  turned_beside (both_choice r q) = both_choice (turned_beside r) (turned_beside q)
  turned_beside (both_parallel r q) = both_parallel (turned_beside r) (turned_beside q)
  turned_beside (both_hide r) = both_hide (turned_beside r)
  turned_beside (both_enable r binders q) = both_enable (turned_beside r) binders (turned_beside q)
  turned_beside (both_disable r q) = both_disable (turned_beside r) (turned_beside q)
  turned_beside (both_let variables e e' binders terms r) = both_let variables e' e binders (turned_terms terms) (turned_beside r)
  turned_beside (both_choose_value binders r) = both_choose_value binders (turned_beside r)
  turned_beside (both_choose_gate r) = both_choose_gate (turned_beside r)
  turned_beside (both_par_gate r) = both_par_gate (turned_beside r)
  turned_beside (both_call process at terms) = both_call process at (turned_terms terms)
  turned_beside (both_relabel r) = both_relabel (turned_beside r)

  -- The numbers of a scope are below `base`.
  abbrev pub Low : List Variable → Type 0
  Low scope = (n r : ℕ) → sort_in scope n ≡ Some r → n < base

  pub low_nothing : Low []
  low_nothing n r e = absurd (cc e)

  pub low_more : (variables scope : List Variable) → Binders data_ base variables → Low scope → Low (variables ++ scope)
  low_more [] scope binders low n r e = low n r e
  low_more (z ∷ variables) scope binders low n r e = by (low_more variables scope binders.1 low n r) (nat_eq z.number n) refl
    where
      by : (sort_in (variables ++ scope) n ≡ Some r → n < base) → (same : Bool) → nat_eq z.number n ≡ same → n < base
      by rest true h = let k : z.number ≡ n = eqb-true z.number n h in omega (arith, binders.0.0)
      by rest false h = let below : sort_in (variables ++ scope) n ≡ Some r = rw h at e in rest below

  pub binders_of : (variables : List Variable) → above_variables variables ≤ base
      → Every (λ (z : Variable). IsSort data_.signature z.sort) variables → Binders data_ base variables
  binders_of [] h sorts = tt
  binders_of (z ∷ variables) h sorts = (
    (let lt : z.number < base = omega arith in lt, sorts.0),
    binders_of variables (let le : above_variables variables ≤ base = omega arith in le) sorts.1,
  )

  module _ (x y : Side) where
    same_term_related : (scope : List Variable) (s : ℕ) (t : Term) → Low scope → IsTermIn data_.signature scope s t
        → Related data_ base x y scope s t t
    same_term_related scope s t low h = record {
      left_sorted = h.sorted;
      right_sorted = h.sorted;
      left_free = λ n r o. inl (low n r (h.bound n r o), h.bound n r o);
      right_free = λ n r o. inl (low n r (h.bound n r o), h.bound n r o);
      equal = λ left right others grounds. equal_same data_ _ _ (substituted_agree (with_leaves base x others) (with_leaves base y others) t
          (λ n r o. with_leaves-bound base x others n r (low n r (h.bound n r o))
          ∙ sym (with_leaves-bound base y others n r (low n r (h.bound n r o)))));
    }

    same_terms_related : (scope variables : List Variable) (ts : List Term) → Low scope → AreTermsIn data_.signature scope variables ts
        → RelatedTerms data_ base x y scope (sorts_of variables) ts ts
    same_terms_related scope [] [] low h = none_related
    same_terms_related scope (z ∷ variables) (t ∷ ts) low h =
        one_related (same_term_related scope z.sort t low h.0) (same_terms_related scope variables ts low h.1)
    same_terms_related scope [] (t ∷ ts) low h = absurd h
    same_terms_related scope (z ∷ variables) [] low h = absurd h

    same_tests : (scope : List Variable) (test : Test) → Low scope → IsTestIn data_.signature scope test
        → RelatedTests data_ base x y scope test test
    same_tests scope test low h = record {
      sort = h.sort;
      left = same_term_related scope h.sort test.left low h.left;
      right = same_term_related scope h.sort test.right low h.right;
    }

    same_options : (scope : List Variable) (test : Option Test) → Low scope → IsTestOption data_.signature scope test
        → RelatedOptions data_ base x y scope test test
    same_options scope None low h = no_tests
    same_options scope (Some test) low h = some_tests (same_tests scope test low h)

    same_offers : (scope : List Variable) (offers : List Offer) → Low scope → Every (IsOffer data_.signature scope) offers
        → RelatedOffers data_ base x y scope (asked_variables offers) offers offers
    same_offers scope [] low h = no_offers
    same_offers scope (give t ∷ offers) low h = both_give (same_term_related scope h.0.0 t low h.0.1) (same_offers scope offers low h.1)
    same_offers scope (ask z ∷ offers) low h = both_ask z (same_offers scope offers low h.1)

    same_results : (scope : List Variable) (results : List ExitValue) → Low scope → Every (IsExitValue data_.signature scope) results
        → RelatedResults data_ base x y scope (open_sorts results) results results
    same_results scope [] low h = no_results
    same_results scope (exit_value t ∷ results) low h = both_values (same_term_related scope h.0.0 t low h.0.1)
        (same_results scope results low h.1)
    same_results scope (any_of s ∷ results) low h = both_any s h.0 (same_results scope results low h.1)

    pub same_beside : (names : ℕ) (processes : List Process) (scope : List Variable) (b : Behaviour) → Low scope → above b ≤ base
        → IsBehaviour data_.signature names processes scope b → Beside data_ base processes x y scope b b
    same_beside names processes scope stop low le h = both_stop
    same_beside names processes scope (exit_with results) low le h = both_exit_with (same_results scope results low h)
    same_beside names processes scope (action g offers test b) low le h =
        let binders : Binders data_ base (asked_variables offers) = binders_of (asked_variables offers) (omega arith) h.2.1 in
        let inside : Low (asked_variables offers ++ scope) = low_more (asked_variables offers) scope binders low in
        both_action (same_offers scope offers low h.1) binders (same_options (asked_variables offers ++ scope) test inside h.3)
        (same_beside names processes (asked_variables offers ++ scope) b inside (omega arith) h.4)
    same_beside names processes scope (inner_action b) low le h = both_inner (same_beside names processes scope b low le h)
    same_beside names processes scope (guard test b) low le h =
        both_guard (same_tests scope test low h.0) (same_beside names processes scope b low le h.1)
    same_beside names processes scope (choice b c) low le h =
        both_choice (same_beside names processes scope b low (omega arith) h.0) (same_beside names processes scope c low (omega arith) h.1)
    same_beside names processes scope (parallel meet b c) low le h =
        both_parallel (same_beside names processes scope b low (omega arith) h.1)
        (same_beside names processes scope c low (omega arith) h.2)
    same_beside names processes scope (hide gates b) low le h = both_hide (same_beside names processes scope b low le h.1)
    same_beside names processes scope (enable b variables c) low le h =
        let binders : Binders data_ base variables = binders_of variables (omega arith) h.1.1 in
        both_enable (same_beside names processes scope b low (omega arith) h.0) binders
        (same_beside names processes (variables ++ scope) c (low_more variables scope binders low) (omega arith) h.2)
    same_beside names processes scope (disable b c) low le h =
        both_disable (same_beside names processes scope b low (omega arith) h.0) (same_beside names processes scope c low (omega arith) h.1)
    same_beside names processes scope (let_be bindings b) low le h =
        let binders : Binders data_ base (let_variables bindings) = binders_of (let_variables bindings) (omega arith) h.0.1 in
        both_let (let_variables bindings) refl refl binders (same_terms_related scope (let_variables bindings) (let_terms bindings) low h.1)
        (same_beside names processes (let_variables bindings ++ scope) b (low_more (let_variables bindings) scope binders low) (omega arith)
        h.2)
    same_beside names processes scope (choose_value z b) low le h =
        let binders : Binders data_ base (z ∷ []) = ((let lt : z.number < base = omega arith in lt, h.0), tt) in
        both_choose_value binders (same_beside names processes (z ∷ scope) b (low_more (z ∷ []) scope binders low) (omega arith) h.1)
    same_beside names processes scope (choose_gate g gates b) low le h = both_choose_gate (same_beside names processes scope b low le h.2)
    same_beside names processes scope (par_gate g gates meet b) low le h = both_par_gate (same_beside names processes scope b low le h.4)
    same_beside names processes scope (call number gates arguments) low le h =
        both_call h.1.process h.1.exists (same_terms_related scope h.1.process.parameters arguments low h.1.values)
    same_beside names processes scope (relabel pairs b) low le h = both_relabel (same_beside names processes scope b low le h.1)
