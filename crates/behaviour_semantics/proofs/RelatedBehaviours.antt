-- Behaviours of one form with related terms at the same places.
use Rattle.std.proofs.Common.{◌≡◌, ℕ, List, [], ◌∷◌, ◌++◌, map, slice_get, Option, None, Some, refl, ap, ◌∙◌}
use Rattle.std.specs.Prelude.{option_map}
use Rattle.lotos_base.specs.Signature.{IsSort}
use Rattle.lotos_base.specs.Term.{Term}
use Rattle.lotos_base.specs.Equation.{Data, Variable}
use Rattle.lotos_base.specs.Substitution.{Substitution, substituted, without}
use Rattle.behaviour_semantics.specs.Behaviour.{Behaviour, stop, exit_with, action, inner_action, guard, choice, parallel, hide, enable, disable, let_be, choose_value, choose_gate, par_gate, call, relabel, Test, Offer, give, ask, ExitValue, exit_value, any_of, SynchronisationSet, Process, Relabelling, asked_variables, open_sorts, numbers_of, sorts_of, let_variables, let_terms}
use Rattle.behaviour_semantics.specs.Label.{under}
use Rattle.behaviour_semantics.specs.Replacement.{test_with, offer_with, exit_value_with, with_values}
use Rattle.behaviour_semantics.specs.Rule.{copies}
use Rattle.behaviour_semantics.specs.Move.{opened}
use Rattle.behaviour_semantics.proofs.RelatedTerms.{Side, Related, Puts, put_related, under_binder, Binders, RelatedTerms, none_related, one_related}

module _ (data_ : Data) (base : ℕ) where
  pub record RelatedTests (x y : Side) (scope : List Variable) (test other : Test) : Type 0 where
    pub sort : ℕ
    pub left : Related data_ base x y scope sort test.left other.left
    pub right : Related data_ base x y scope sort test.right other.right

  pub data RelatedOptions (x y : Side) (scope : List Variable) : Option Test → Option Test → Type 0 where
    no_tests : RelatedOptions x y scope None None
    some_tests : {test other : Test} → RelatedTests x y scope test other → RelatedOptions x y scope (Some test) (Some other)

  -- Offers, with the variables that both ask for.
  pub data RelatedOffers (x y : Side) (scope : List Variable) : List Variable → List Offer → List Offer → Type 0 where
    no_offers : RelatedOffers x y scope [] [] []
    both_give : {s : ℕ} {t u : Term} {variables : List Variable} {offers others : List Offer} → Related data_ base x y scope s t u
        → RelatedOffers x y scope variables offers others → RelatedOffers x y scope variables (give t ∷ offers) (give u ∷ others)
    both_ask : (z : Variable) {variables : List Variable} {offers others : List Offer} → RelatedOffers x y scope variables offers others
        → RelatedOffers x y scope (z ∷ variables) (ask z ∷ offers) (ask z ∷ others)

  -- Values of `exit`, with the sorts that both leave open.
  pub data RelatedResults (x y : Side) (scope : List Variable) : List ℕ → List ExitValue → List ExitValue → Type 0 where
    no_results : RelatedResults x y scope [] [] []
    both_values : {s : ℕ} {t u : Term} {sorts : List ℕ} {results others : List ExitValue} → Related data_ base x y scope s t u
        → RelatedResults x y scope sorts results others → RelatedResults x y scope sorts (exit_value t ∷ results) (exit_value u ∷ others)
    both_any : (s : ℕ) {sorts : List ℕ} {results others : List ExitValue} → IsSort data_.signature s
        → RelatedResults x y scope sorts results others → RelatedResults x y scope (s ∷ sorts) (any_of s ∷ results) (any_of s ∷ others)

  pub data Beside (processes : List Process) (x y : Side) : List Variable → Behaviour → Behaviour → Type 0 where
    both_stop : {scope : List Variable} → Beside processes x y scope stop stop
    both_exit_with : {scope : List Variable} {sorts : List ℕ} {results others : List ExitValue}
        → RelatedResults x y scope sorts results others → Beside processes x y scope (exit_with results) (exit_with others)
    both_action : {scope variables : List Variable} {g : ℕ} {offers others : List Offer} {test other : Option Test} {b c : Behaviour}
        → RelatedOffers x y scope variables offers others → Binders data_ base variables
        → RelatedOptions x y (variables ++ scope) test other → Beside processes x y (variables ++ scope) b c
        → Beside processes x y scope (action g offers test b) (action g others other c)
    both_inner : {scope : List Variable} {b c : Behaviour} → Beside processes x y scope b c
        → Beside processes x y scope (inner_action b) (inner_action c)
    both_guard : {scope : List Variable} {test other : Test} {b c : Behaviour} → RelatedTests x y scope test other
        → Beside processes x y scope b c → Beside processes x y scope (guard test b) (guard other c)
    both_choice : {scope : List Variable} {b c d e : Behaviour} → Beside processes x y scope b c → Beside processes x y scope d e
        → Beside processes x y scope (choice b d) (choice c e)
    both_parallel : {scope : List Variable} {meet : SynchronisationSet} {b c d e : Behaviour} → Beside processes x y scope b c
        → Beside processes x y scope d e → Beside processes x y scope (parallel meet b d) (parallel meet c e)
    both_hide : {scope : List Variable} {gates : List ℕ} {b c : Behaviour} → Beside processes x y scope b c
        → Beside processes x y scope (hide gates b) (hide gates c)
    both_enable : {scope : List Variable} {variables : List Variable} {b c d e : Behaviour} → Beside processes x y scope b c
        → Binders data_ base variables → Beside processes x y (variables ++ scope) d e
        → Beside processes x y scope (enable b variables d) (enable c variables e)
    both_disable : {scope : List Variable} {b c d e : Behaviour} → Beside processes x y scope b c → Beside processes x y scope d e
        → Beside processes x y scope (disable b d) (disable c e)
    both_let : {scope : List Variable} (variables : List Variable) {bindings others : List (Variable × Term)} {b c : Behaviour}
        → let_variables bindings ≡ variables → let_variables others ≡ variables → Binders data_ base variables
        → RelatedTerms data_ base x y scope (sorts_of variables) (let_terms bindings) (let_terms others)
        → Beside processes x y (variables ++ scope) b c → Beside processes x y scope (let_be bindings b) (let_be others c)
    both_choose_value : {scope : List Variable} {z : Variable} {b c : Behaviour} → Binders data_ base (z ∷ [])
        → Beside processes x y (z ∷ scope) b c → Beside processes x y scope (choose_value z b) (choose_value z c)
    both_choose_gate : {scope : List Variable} {g : ℕ} {gates : List ℕ} {b c : Behaviour} → Beside processes x y scope b c
        → Beside processes x y scope (choose_gate g gates b) (choose_gate g gates c)
    both_par_gate : {scope : List Variable} {g : ℕ} {gates : List ℕ} {meet : SynchronisationSet} {b c : Behaviour}
        → Beside processes x y scope b c → Beside processes x y scope (par_gate g gates meet b) (par_gate g gates meet c)
    both_call : {scope : List Variable} {number : ℕ} {gates : List ℕ} {arguments others : List Term} (process : Process)
        → slice_get processes number ≡ Some process → RelatedTerms data_ base x y scope (sorts_of process.parameters) arguments others
        → Beside processes x y scope (call number gates arguments) (call number gates others)
    both_relabel : {scope : List Variable} {pairs : Relabelling} {b c : Behaviour} → Beside processes x y scope b c
        → Beside processes x y scope (relabel pairs b) (relabel pairs c)

  -- Putting terms in.

  pub put_tests : {x y : Side} {scope other : List Variable} {v w : Substitution} {test another : Test}
      → Puts data_ base x y scope other v w → RelatedTests x y scope test another
      → RelatedTests x y other (test_with v test) (test_with w another)
  put_tests p r = record { sort = r.sort; left = put_related data_ base p r.left; right = put_related data_ base p r.right }

  put_options : {x y : Side} {scope other : List Variable} {v w : Substitution} {test another : Option Test}
      → Puts data_ base x y scope other v w → RelatedOptions x y scope test another
      → RelatedOptions x y other (option_map (test_with v) test) (option_map (test_with w) another)
  put_options p no_tests = no_tests
  put_options p (some_tests r) = some_tests (put_tests p r)

  put_offers : {x y : Side} {scope other variables : List Variable} {v w : Substitution} {offers others : List Offer}
      → Puts data_ base x y scope other v w → RelatedOffers x y scope variables offers others
      → RelatedOffers x y other variables (map (offer_with v) offers) (map (offer_with w) others)
  put_offers p no_offers = no_offers
  put_offers p (both_give r rest) = both_give (put_related data_ base p r) (put_offers p rest)
  put_offers p (both_ask z rest) = both_ask z (put_offers p rest)

  put_results : {x y : Side} {scope other : List Variable} {sorts : List ℕ} {v w : Substitution} {results others : List ExitValue}
      → Puts data_ base x y scope other v w → RelatedResults x y scope sorts results others
      → RelatedResults x y other sorts (map (exit_value_with v) results) (map (exit_value_with w) others)
  put_results p no_results = no_results
  put_results p (both_values r rest) = both_values (put_related data_ base p r) (put_results p rest)
  put_results p (both_any s is_sort rest) = both_any s is_sort (put_results p rest)

  pub put_terms : {x y : Side} {scope other : List Variable} {sorts : List ℕ} {v w : Substitution} {ts us : List Term}
      → Puts data_ base x y scope other v w → RelatedTerms data_ base x y scope sorts ts us
      → RelatedTerms data_ base x y other sorts (map (substituted v) ts) (map (substituted w) us)
  put_terms p none_related = none_related
  put_terms p (one_related r rest) = one_related (put_related data_ base p r) (put_terms p rest)

  -- Both sides of related offers ask for these variables.
  pub asked-left : {x y : Side} {scope variables : List Variable} {offers others : List Offer}
      → RelatedOffers x y scope variables offers others → asked_variables offers ≡ variables
  asked-left no_offers = refl
  asked-left (both_give r rest) = asked-left rest
  asked-left (both_ask z rest) = ap (λ zs. z ∷ zs) (asked-left rest)

  pub asked-right : {x y : Side} {scope variables : List Variable} {offers others : List Offer}
      → RelatedOffers x y scope variables offers others → asked_variables others ≡ variables
  asked-right no_offers = refl
  asked-right (both_give r rest) = asked-right rest
  asked-right (both_ask z rest) = ap (λ zs. z ∷ zs) (asked-right rest)

  pub open-left : {x y : Side} {scope : List Variable} {sorts : List ℕ} {results others : List ExitValue}
      → RelatedResults x y scope sorts results others → open_sorts results ≡ sorts
  open-left no_results = refl
  open-left (both_values r rest) = open-left rest
  open-left (both_any s is_sort rest) = ap (λ ss. s ∷ ss) (open-left rest)

  pub open-right : {x y : Side} {scope : List Variable} {sorts : List ℕ} {results others : List ExitValue}
      → RelatedResults x y scope sorts results others → open_sorts others ≡ sorts
  open-right no_results = refl
  open-right (both_values r rest) = open-right rest
  open-right (both_any s is_sort rest) = ap (λ ss. s ∷ ss) (open-right rest)

  -- The variables and the terms of a `let` with terms put in.
  let_variables-put : (v : Substitution) (bindings : List (Variable × Term))
      → let_variables (map (λ (bound : Variable × Term). (bound.0, substituted v bound.1)) bindings) ≡ let_variables bindings
  let_variables-put v [] = refl
  let_variables-put v (bound ∷ bindings) = ap (λ zs. bound.0 ∷ zs) (let_variables-put v bindings)

  let_terms-put : (v : Substitution) (bindings : List (Variable × Term))
      → let_terms (map (λ (bound : Variable × Term). (bound.0, substituted v bound.1)) bindings) ≡ map (substituted v) (let_terms bindings)
  let_terms-put v [] = refl
  let_terms-put v (bound ∷ bindings) = ap (λ ts. substituted v bound.1 ∷ ts) (let_terms-put v bindings)

  module _ (processes : List Process) where
    pub put_beside : {x y : Side} {scope other : List Variable} {v w : Substitution} {b c : Behaviour} → Puts data_ base x y scope other v w
        → Beside processes x y scope b c → Beside processes x y other (with_values v b) (with_values w c)
    put_beside p both_stop = both_stop
    put_beside p (both_exit_with r) = both_exit_with (put_results p r)
    put_beside {x = x} {y = y} {other = other} {v = v} {w = w} p
        (both_action {variables = variables} {g = g} {offers = offers} {others = others} {test = test} {other = another} {b = b} {c = c} r
        binders tests rest) =
        let inside : Puts data_ base x y _ _ (without (numbers_of variables) v) (without (numbers_of variables) w) =
        under_binder data_ base variables p in
        let tests' : RelatedOptions x y (variables ++ other) (option_map (test_with (without (numbers_of (asked_variables offers)) v)) test)
        (option_map (test_with (without (numbers_of (asked_variables others)) w)) another) =
        rw (asked-left r, asked-right r) (put_options inside tests) in
        let rest' : Beside processes x y (variables ++ other) (with_values (without (numbers_of (asked_variables offers)) v) b)
        (with_values (without (numbers_of (asked_variables others)) w) c) =
        rw (asked-left r, asked-right r) (put_beside inside rest) in
        both_action (put_offers p r) binders tests' rest'
    put_beside p (both_inner rest) = both_inner (put_beside p rest)
    put_beside p (both_guard r rest) = both_guard (put_tests p r) (put_beside p rest)
    put_beside p (both_choice r q) = both_choice (put_beside p r) (put_beside p q)
    put_beside p (both_parallel r q) = both_parallel (put_beside p r) (put_beside p q)
    put_beside p (both_hide r) = both_hide (put_beside p r)
    put_beside p (both_enable {variables = variables} r binders q) =
        both_enable (put_beside p r) binders (put_beside (under_binder data_ base variables p) q)
    put_beside p (both_disable r q) = both_disable (put_beside p r) (put_beside p q)
    put_beside {x = x} {y = y} {other = other} {v = v} {w = w} p
        (both_let variables {bindings = bindings} {others = others} {b = b} {c = c} e e' binders terms rest) =
        both_let variables (let_variables-put v bindings ∙ e) (let_variables-put w others ∙ e') binders
        (rw (let_terms-put v bindings, let_terms-put w others) (put_terms p terms))
        (rw (e, e') (put_beside (under_binder data_ base variables p) rest))
    put_beside p (both_choose_value {z = z} binders rest) = both_choose_value binders (put_beside (under_binder data_ base (z ∷ []) p) rest)
    put_beside p (both_choose_gate r) = both_choose_gate (put_beside p r)
    put_beside p (both_par_gate r) = both_par_gate (put_beside p r)
    put_beside p (both_call process at terms) = both_call process at (put_terms p terms)
    put_beside p (both_relabel r) = both_relabel (put_beside p r)

    -- Relabelling and opening.
    pub under_beside : {x y : Side} {scope : List Variable} {b c : Behaviour} (pairs : Relabelling) → Beside processes x y scope b c
        → Beside processes x y scope (under b pairs) (under c pairs)
    under_beside pairs both_stop = both_stop
    under_beside pairs (both_exit_with r) = both_relabel (both_exit_with r)
    under_beside pairs (both_action r binders tests rest) = both_relabel (both_action r binders tests rest)
    under_beside pairs (both_inner r) = both_relabel (both_inner r)
    under_beside pairs (both_guard r q) = both_relabel (both_guard r q)
    under_beside pairs (both_choice r q) = both_relabel (both_choice r q)
    under_beside pairs (both_parallel r q) = both_relabel (both_parallel r q)
    under_beside pairs (both_hide r) = both_relabel (both_hide r)
    under_beside pairs (both_enable r binders q) = both_relabel (both_enable r binders q)
    under_beside pairs (both_disable r q) = both_relabel (both_disable r q)
    under_beside pairs (both_let variables e e' binders terms r) = both_relabel (both_let variables e e' binders terms r)
    under_beside pairs (both_choose_value binders r) = both_relabel (both_choose_value binders r)
    under_beside pairs (both_choose_gate r) = both_relabel (both_choose_gate r)
    under_beside pairs (both_par_gate r) = both_relabel (both_par_gate r)
    under_beside pairs (both_call process at terms) = both_call process at terms
    under_beside pairs (both_relabel r) = both_relabel r

    copies_beside : {x y : Side} {scope : List Variable} {b c : Behaviour} (g : ℕ) (gates : List ℕ) (meet : SynchronisationSet)
        → Beside processes x y scope b c → Beside processes x y scope (copies g gates meet b) (copies g gates meet c)
    copies_beside g [] meet r = both_stop
    copies_beside g (a ∷ []) meet r = under_beside ((g, a) ∷ []) r
    copies_beside g (a ∷ a' ∷ gates) meet r = both_parallel (under_beside ((g, a) ∷ []) r) (copies_beside g (a' ∷ gates) meet r)

    pub opened_beside : {x y : Side} {scope : List Variable} {b c : Behaviour} → Beside processes x y scope b c
        → Beside processes x y scope (opened b) (opened c)
    opened_beside both_stop = both_stop
    opened_beside (both_exit_with r) = both_exit_with r
    opened_beside (both_action r binders tests rest) = both_action r binders tests rest
    opened_beside (both_inner r) = both_inner r
    opened_beside (both_guard r q) = both_guard r q
    opened_beside (both_choice r q) = both_choice r q
    opened_beside (both_parallel r q) = both_parallel r q
    opened_beside (both_hide r) = both_hide r
    opened_beside (both_enable r binders q) = both_enable r binders q
    opened_beside (both_disable r q) = both_disable r q
    opened_beside (both_let variables e e' binders terms r) = both_let variables e e' binders terms r
    opened_beside (both_choose_value binders r) = both_choose_value binders r
    opened_beside (both_choose_gate r) = both_choose_gate r
    opened_beside (both_par_gate {g = g} {gates = gates} {meet = meet} r) = copies_beside g gates meet r
    opened_beside (both_call process at terms) = both_call process at terms
    opened_beside (both_relabel r) = both_relabel r
