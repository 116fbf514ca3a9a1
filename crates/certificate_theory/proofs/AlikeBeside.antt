-- Well-formed behaviours that are alike, with terms of one sort at the same places, stand beside one another; and what stands
-- so has such sorts.
use Rattle.std.proofs.Common.{◌≡◌, ◌≤◌, inl, inr, ℕ, List, [], ◌∷◌, ◌++◌, slice_get, Option, None, Some, refl, ap, sym, ◌∙◌, arith, subst}
use Rattle.lotos_base.specs.Term.{Term}
use Rattle.lotos_base.specs.Sorting.{HasSort}
use Rattle.lotos_base.specs.Equation.{Data, Variable}
use Rattle.lotos_base.proofs.SubstitutionLemmas.{substituted_agree}
use Rattle.lotos_base.proofs.EqualityLemmas.{equal_then, equal_same}
use Rattle.lotos_base.proofs.SortLemmas.{one_sort}
use Rattle.behaviour_semantics.specs.Behaviour.{Behaviour, stop, exit_with, action, inner_action, guard, choice, parallel, hide, enable, disable, let_be, choose_value, choose_gate, par_gate, call, relabel, Test, Offer, give, ask, ExitValue, exit_value, any_of, SynchronisationSet, Process, Relabelling, asked_variables, open_sorts, sorts_of, let_variables, let_terms}
use Rattle.behaviour_semantics.specs.WellFormed.{Every, IsTermIn, IsTestIn, AreTermsIn, IsTestOption, IsOffer, IsExitValue, IsBehaviour}
use Rattle.behaviour_semantics.specs.Draft.{above}
use Rattle.behaviour_semantics.specs.Alike.{AlikeTerms, AllAlike, AlikeTests, AlikeOptions, AlikeOffers, AlikeResults, Alike}
use Rattle.behaviour_semantics.proofs.OptionLemmas.{some_value}
use Rattle.behaviour_semantics.proofs.RelatedTerms.{Side, with_leaves, with_leaves-bound, Related, Binders, RelatedTerms, none_related, one_related}
use Rattle.behaviour_semantics.proofs.RelatedBehaviours.{RelatedTests, RelatedOptions, no_tests, some_tests, RelatedOffers, no_offers, both_give, both_ask, RelatedResults, no_results, both_values, both_any, Beside, both_stop, both_exit_with, both_action, both_inner, both_guard, both_choice, both_parallel, both_hide, both_enable, both_disable, both_let, both_choose_value, both_choose_gate, both_par_gate, both_call, both_relabel, asked-right}
use Rattle.behaviour_semantics.proofs.SameBehaviours.{Low, low_more, binders_of}
use Rattle.certificate_theory.specs.SameSorts.{SameSortsOfTests, SameSortsOfOptions, SameSortsOfOffers, SameSortsOfResults, SameSorts}

module _ (data_ : Data) (base : ℕ) (x y : Side) where
  -- ---- What is alike stands beside.

  alike_term : (scope : List Variable) (q s r : ℕ) (t u : Term) → Low data_ base scope → HasSort data_.signature t q
      → HasSort data_.signature u q → IsTermIn data_.signature scope s t → IsTermIn data_.signature scope r u → AlikeTerms data_ t u
      → Related data_ base x y scope q t u
  alike_term scope q s r t u low left_sorted right_sorted f g alike = record {
    left_sorted = left_sorted;
    right_sorted = right_sorted;
    left_free = λ n p o. inl (low n p (f.bound n p o), f.bound n p o);
    right_free = λ n p o. inl (low n p (g.bound n p o), g.bound n p o);
    equal = λ left right others grounds.
        equal_then (equal_same data_ _ _ (substituted_agree (with_leaves base x others) others t
        (λ n p o. with_leaves-bound base x others n p (low n p (f.bound n p o)))))
        (equal_then (alike others (λ n p o. grounds n p (low n p (f.bound n p o)) (inl o))
        (λ n p o. grounds n p (low n p (g.bound n p o)) (inr o)))
        (equal_same data_ _ _ (sym (substituted_agree (with_leaves base y others) others u
        (λ n p o. with_leaves-bound base y others n p (low n p (g.bound n p o)))))));
  }

  alike_terms : (scope variables : List Variable) (ts us : List Term) → Low data_ base scope
      → AreTermsIn data_.signature scope variables ts → AreTermsIn data_.signature scope variables us → AllAlike data_ ts us
      → RelatedTerms data_ base x y scope (sorts_of variables) ts us
  alike_terms scope [] [] [] low f g alike = none_related
  alike_terms scope (z ∷ variables) (t ∷ ts) (u ∷ us) low f g alike =
      one_related (alike_term scope z.sort z.sort z.sort t u low f.0.sorted g.0.sorted f.0 g.0 alike.0)
      (alike_terms scope variables ts us low f.1 g.1 alike.1)
  alike_terms scope [] [] (u ∷ us) low f g alike = absurd g
  alike_terms scope [] (t ∷ ts) us low f g alike = absurd f
  alike_terms scope (z ∷ variables) [] us low f g alike = absurd f
  alike_terms scope (z ∷ variables) (t ∷ ts) [] low f g alike = absurd g

  alike_tests : (scope : List Variable) (test other : Test) → Low data_ base scope → IsTestIn data_.signature scope test
      → IsTestIn data_.signature scope other → AlikeTests data_ test other → SameSortsOfTests data_.signature test other
      → RelatedTests data_ base x y scope test other
  alike_tests scope test other low f g alike same =
      let left : same.0.sort ≡ f.sort = one_sort data_.signature test.left same.0.sort f.sort same.0.left f.left.sorted in
      let right : same.1.sort ≡ f.sort = one_sort data_.signature test.right same.1.sort f.sort same.1.left f.right.sorted in
      record {
        sort = f.sort;
        left = alike_term scope f.sort f.sort g.sort test.left other.left low f.left.sorted
            (subst (HasSort data_.signature other.left) left same.0.right) f.left g.left alike.0;
        right = alike_term scope f.sort f.sort g.sort test.right other.right low f.right.sorted
            (subst (HasSort data_.signature other.right) right same.1.right) f.right g.right alike.1;
      }

  alike_options : (scope : List Variable) (test other : Option Test) → Low data_ base scope → IsTestOption data_.signature scope test
      → IsTestOption data_.signature scope other → AlikeOptions data_ test other → SameSortsOfOptions data_.signature test other
      → RelatedOptions data_ base x y scope test other
  alike_options scope None None low f g alike same = no_tests
  alike_options scope (Some test) (Some other) low f g alike same = some_tests (alike_tests scope test other low f g alike same)
  alike_options scope None (Some other) low f g alike same = absurd alike
  alike_options scope (Some test) None low f g alike same = absurd alike

  alike_offers : (scope : List Variable) (offers others : List Offer) → Low data_ base scope
      → Every (IsOffer data_.signature scope) offers → Every (IsOffer data_.signature scope) others → AlikeOffers data_ offers others
      → SameSortsOfOffers data_.signature offers others → RelatedOffers data_ base x y scope (asked_variables offers) offers others
  alike_offers scope [] [] low f g alike same = no_offers
  alike_offers scope (give t ∷ offers) (give u ∷ others) low f g alike same =
      both_give (alike_term scope same.0.sort f.0.0 g.0.0 t u low same.0.left same.0.right f.0.1 g.0.1 alike.0)
      (alike_offers scope offers others low f.1 g.1 alike.1 same.1)
  alike_offers scope (ask z ∷ offers) (ask w ∷ others) low f g alike same =
      subst (λ (v : Variable). RelatedOffers data_ base x y scope (z ∷ asked_variables offers) (ask z ∷ offers) (ask v ∷ others)) alike.0
      (both_ask z (alike_offers scope offers others low f.1 g.1 alike.1 same))
  alike_offers scope [] (o ∷ others) low f g alike same = absurd alike
  alike_offers scope (give t ∷ offers) [] low f g alike same = absurd alike
  alike_offers scope (ask z ∷ offers) [] low f g alike same = absurd alike
  alike_offers scope (give t ∷ offers) (ask w ∷ others) low f g alike same = absurd alike
  alike_offers scope (ask z ∷ offers) (give u ∷ others) low f g alike same = absurd alike

  alike_results : (scope : List Variable) (results others : List ExitValue) → Low data_ base scope
      → Every (IsExitValue data_.signature scope) results → Every (IsExitValue data_.signature scope) others
      → AlikeResults data_ results others → SameSortsOfResults data_.signature results others
      → RelatedResults data_ base x y scope (open_sorts results) results others
  alike_results scope [] [] low f g alike same = no_results
  alike_results scope (exit_value t ∷ results) (exit_value u ∷ others) low f g alike same =
      both_values (alike_term scope same.0.sort f.0.0 g.0.0 t u low same.0.left same.0.right f.0.1 g.0.1 alike.0)
      (alike_results scope results others low f.1 g.1 alike.1 same.1)
  alike_results scope (any_of s ∷ results) (any_of r ∷ others) low f g alike same =
      subst (λ (q : ℕ). RelatedResults data_ base x y scope (s ∷ open_sorts results) (any_of s ∷ results) (any_of q ∷ others)) alike.0
      (both_any s f.0 (alike_results scope results others low f.1 g.1 alike.1 same))
  alike_results scope [] (o ∷ others) low f g alike same = absurd alike
  alike_results scope (exit_value t ∷ results) [] low f g alike same = absurd alike
  alike_results scope (any_of s ∷ results) [] low f g alike same = absurd alike
  alike_results scope (exit_value t ∷ results) (any_of r ∷ others) low f g alike same = absurd alike
  alike_results scope (any_of s ∷ results) (exit_value u ∷ others) low f g alike same = absurd alike

  module _ (names : ℕ) (processes : List Process) where
    abbrev Fine : List Variable → Behaviour → Type 0
    Fine scope b = IsBehaviour data_.signature names processes scope b

    abbrev Stands : List Variable → Behaviour → Behaviour → Type 0
    Stands scope b c = Beside data_ base processes x y scope b c

    pub alike_beside : (scope : List Variable) (b c : Behaviour) → Low data_ base scope → above b ≤ base
        → IsBehaviour data_.signature names processes scope b → IsBehaviour data_.signature names processes scope c
        → Alike data_ b c → SameSorts data_.signature b c → Beside data_ base processes x y scope b c
    alike_beside scope stop stop low le f g alike same = both_stop
    alike_beside scope (exit_with results) (exit_with others) low le f g alike same =
        both_exit_with (alike_results scope results others low f g alike same)
    alike_beside scope (action a offers test b) (action a' others test' c) low le f g alike same =
        let asked : List Variable = asked_variables offers in
        let binders : Binders data_ base asked = binders_of data_ base asked (omega arith) f.2.1 in
        let inside : Low data_ base (asked ++ scope) = low_more data_ base asked scope binders low in
        let related : RelatedOffers data_ base x y scope asked offers others =
        alike_offers scope offers others low f.1 g.1 alike.1 same.0 in
        let they_ask : asked_variables others ≡ asked = asked-right data_ base related in
        let other_test : IsTestOption data_.signature (asked ++ scope) test' =
        subst (λ (vs : List Variable). IsTestOption data_.signature (vs ++ scope) test') they_ask g.3 in
        let other_fine : Fine (asked ++ scope) c = subst (λ (vs : List Variable). Fine (vs ++ scope) c) they_ask g.4 in
        subst (λ (n : ℕ). Stands scope (action a offers test b) (action n others test' c)) alike.0
        (both_action related binders (alike_options (asked ++ scope) test test' inside f.3 other_test alike.2 same.1)
        (alike_beside (asked ++ scope) b c inside (omega arith) f.4 other_fine alike.3 same.2))
    alike_beside scope (inner_action b) (inner_action c) low le f g alike same =
        both_inner (alike_beside scope b c low le f g alike same)
    alike_beside scope (guard test b) (guard test' c) low le f g alike same =
        both_guard (alike_tests scope test test' low f.0 g.0 alike.0 same.0) (alike_beside scope b c low le f.1 g.1 alike.1 same.1)
    alike_beside scope (choice b d) (choice b' d') low le f g alike same =
        both_choice (alike_beside scope b b' low (omega arith) f.0 g.0 alike.0 same.0)
        (alike_beside scope d d' low (omega arith) f.1 g.1 alike.1 same.1)
    alike_beside scope (parallel meet b d) (parallel meet' b' d') low le f g alike same =
        subst (λ (m : SynchronisationSet). Stands scope (parallel meet b d) (parallel m b' d')) alike.0
        (both_parallel (alike_beside scope b b' low (omega arith) f.1 g.1 alike.1 same.0)
        (alike_beside scope d d' low (omega arith) f.2 g.2 alike.2 same.1))
    alike_beside scope (hide gates b) (hide gates' c) low le f g alike same =
        subst (λ (gs : List ℕ). Stands scope (hide gates b) (hide gs c)) alike.0
        (both_hide (alike_beside scope b c low le f.1 g.1 alike.1 same))
    alike_beside scope (enable b variables d) (enable b' variables' d') low le f g alike same =
        let binders : Binders data_ base variables = binders_of data_ base variables (omega arith) f.1.1 in
        let inside : Low data_ base (variables ++ scope) = low_more data_ base variables scope binders low in
        let other_fine : Fine (variables ++ scope) d' = subst (λ (vs : List Variable). Fine (vs ++ scope) d') (sym alike.1) g.2 in
        subst (λ (vs : List Variable). Stands scope (enable b variables d) (enable b' vs d')) alike.1
        (both_enable (alike_beside scope b b' low (omega arith) f.0 g.0 alike.0 same.0) binders
        (alike_beside (variables ++ scope) d d' inside (omega arith) f.2 other_fine alike.2 same.1))
    alike_beside scope (disable b d) (disable b' d') low le f g alike same =
        both_disable (alike_beside scope b b' low (omega arith) f.0 g.0 alike.0 same.0)
        (alike_beside scope d d' low (omega arith) f.1 g.1 alike.1 same.1)
    alike_beside scope (let_be bindings b) (let_be others c) low le f g alike same =
        let variables : List Variable = let_variables bindings in
        let binders : Binders data_ base variables = binders_of data_ base variables (omega arith) f.0.1 in
        let inside : Low data_ base (variables ++ scope) = low_more data_ base variables scope binders low in
        let other_terms : AreTermsIn data_.signature scope variables (let_terms others) =
        subst (λ (vs : List Variable). AreTermsIn data_.signature scope vs (let_terms others)) (sym alike.0) g.1 in
        let other_fine : Fine (variables ++ scope) c = subst (λ (vs : List Variable). Fine (vs ++ scope) c) (sym alike.0) g.2 in
        both_let variables refl (sym alike.0) binders
        (alike_terms scope variables (let_terms bindings) (let_terms others) low f.1 other_terms alike.1)
        (alike_beside (variables ++ scope) b c inside (omega arith) f.2 other_fine alike.2 same)
    alike_beside scope (choose_value z b) (choose_value w c) low le f g alike same =
        let binders : Binders data_ base (z ∷ []) = binders_of data_ base (z ∷ []) (omega arith) (f.0, tt) in
        let inside : Low data_ base (z ∷ scope) = low_more data_ base (z ∷ []) scope binders low in
        let other_fine : Fine (z ∷ scope) c = subst (λ (v : Variable). Fine (v ∷ scope) c) (sym alike.0) g.1 in
        subst (λ (v : Variable). Stands scope (choose_value z b) (choose_value v c)) alike.0
        (both_choose_value binders (alike_beside (z ∷ scope) b c inside (omega arith) f.1 other_fine alike.1 same))
    alike_beside scope (choose_gate a gates b) (choose_gate a' gates' c) low le f g alike same =
        subst (λ (n : ℕ). Stands scope (choose_gate a gates b) (choose_gate n gates' c)) alike.0
        (subst (λ (gs : List ℕ). Stands scope (choose_gate a gates b) (choose_gate a gs c)) alike.1
        (both_choose_gate (alike_beside scope b c low le f.2 g.2 alike.2 same)))
    alike_beside scope (par_gate a gates meet b) (par_gate a' gates' meet' c) low le f g alike same =
        subst (λ (n : ℕ). Stands scope (par_gate a gates meet b) (par_gate n gates' meet' c)) alike.0
        (subst (λ (gs : List ℕ). Stands scope (par_gate a gates meet b) (par_gate a gs meet' c)) alike.1
        (subst (λ (m : SynchronisationSet). Stands scope (par_gate a gates meet b) (par_gate a gates m c)) alike.2
        (both_par_gate (alike_beside scope b c low le f.4 g.4 alike.3 same))))
    alike_beside scope (call number gates arguments) (call number' gates' arguments') low le f g alike same =
        let process : g.1.process ≡ f.1.process = some_value (sym g.1.exists ∙ ap (slice_get processes) (sym alike.0) ∙ f.1.exists) in
        let values : AreTermsIn data_.signature scope f.1.process.parameters arguments' =
        subst (λ (p : Process). AreTermsIn data_.signature scope p.parameters arguments') process g.1.values in
        subst (λ (n : ℕ). Stands scope (call number gates arguments) (call n gates' arguments')) alike.0
        (subst (λ (gs : List ℕ). Stands scope (call number gates arguments) (call number gs arguments')) alike.1
        (both_call f.1.process f.1.exists
        (alike_terms scope f.1.process.parameters arguments arguments' low f.1.values values alike.2)))
    alike_beside scope (relabel pairs b) (relabel pairs' c) low le f g alike same =
        subst (λ (ps : Relabelling). Stands scope (relabel pairs b) (relabel ps c)) alike.0
        (both_relabel (alike_beside scope b c low le f.1 g.1 alike.1 same))
    alike_beside scope _ _ low le f g alike same = absurd alike

  -- ---- What stands beside has one sort at each place.

  tests_sorted : {scope : List Variable} {test other : Test} → RelatedTests data_ base x y scope test other
      → SameSortsOfTests data_.signature test other
  tests_sorted r = (
    record { sort = r.sort; left = r.left.left_sorted; right = r.left.right_sorted },
    record { sort = r.sort; left = r.right.left_sorted; right = r.right.right_sorted },
  )

  options_sorted : {scope : List Variable} {test other : Option Test} → RelatedOptions data_ base x y scope test other
      → SameSortsOfOptions data_.signature test other
  options_sorted no_tests = tt
  options_sorted (some_tests r) = tests_sorted r

  offers_sorted : {scope variables : List Variable} {offers others : List Offer}
      → RelatedOffers data_ base x y scope variables offers others → SameSortsOfOffers data_.signature offers others
  offers_sorted no_offers = tt
  offers_sorted (both_give {s = s} r rest) = (record { sort = s; left = r.left_sorted; right = r.right_sorted }, offers_sorted rest)
  offers_sorted (both_ask z rest) = offers_sorted rest

  results_sorted : {scope : List Variable} {sorts : List ℕ} {results others : List ExitValue}
      → RelatedResults data_ base x y scope sorts results others → SameSortsOfResults data_.signature results others
  results_sorted no_results = tt
  results_sorted (both_values {s = s} r rest) = (record { sort = s; left = r.left_sorted; right = r.right_sorted }, results_sorted rest)
  results_sorted (both_any s is_sort rest) = results_sorted rest

  pub beside_sorted : {processes : List Process} {scope : List Variable} {b c : Behaviour}
      → Beside data_ base processes x y scope b c → SameSorts data_.signature b c
  beside_sorted both_stop = tt
  beside_sorted (both_exit_with r) = results_sorted r
  beside_sorted (both_action r binders tests rest) = (offers_sorted r, options_sorted tests, beside_sorted rest)
  beside_sorted (both_inner r) = beside_sorted r
  beside_sorted (both_guard r q) = (tests_sorted r, beside_sorted q)
  beside_sorted (both_choice r q) = (beside_sorted r, beside_sorted q)
  beside_sorted (both_parallel r q) = (beside_sorted r, beside_sorted q)
  beside_sorted (both_hide r) = beside_sorted r
  beside_sorted (both_enable r binders q) = (beside_sorted r, beside_sorted q)
  beside_sorted (both_disable r q) = (beside_sorted r, beside_sorted q)
  beside_sorted (both_let variables e e' binders terms r) = beside_sorted r
  beside_sorted (both_choose_value binders r) = beside_sorted r
  beside_sorted (both_choose_gate r) = beside_sorted r
  beside_sorted (both_par_gate r) = beside_sorted r
  beside_sorted (both_call process at terms) = tt
  beside_sorted (both_relabel r) = beside_sorted r
