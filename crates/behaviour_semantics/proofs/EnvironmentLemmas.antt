-- Environments put in one after another, and substitutions that agree in a scope.
use Rattle.std.proofs.Common.{◌≡◌, ◌≤◌, ◌⊎◌, inl, inr, ℕ, List, [], ◌∷◌, ◌++◌, map, nat_eq, Bool, true, false, if◌then◌else◌, Option, None, Some, refl, ap, sym, ◌∙◌, arith}
use Rattle.std.proofs.Math.Path.{fun_ext}
use Rattle.std.specs.Prelude.{option_map}
use Rattle.lotos_base.specs.Signature.{Signature}
use Rattle.lotos_base.specs.Term.{Term, variable}
use Rattle.lotos_base.specs.Sorting.{IsGroundOf, Occurs}
use Rattle.lotos_base.specs.Equation.{Data, Variable}
use Rattle.lotos_base.specs.Substitution.{Substitution, substituted, followed_by, binding, is_listed, without}
use Rattle.lotos_base.proofs.SubstitutionLemmas.{substituted_agree, ground_no_variable, substituted_ground}
use Rattle.behaviour_semantics.specs.Behaviour.{Behaviour, stop, exit_with, action, inner_action, guard, choice, parallel, hide, enable, disable, let_be, choose_value, choose_gate, par_gate, call, relabel, Test, Offer, give, ask, ExitValue, exit_value, any_of, Process, asked_variables, numbers_of, sorts_of, let_variables, let_terms}
use Rattle.behaviour_semantics.specs.Replacement.{test_with, offer_with, exit_value_with, with_values, binding_of}
use Rattle.behaviour_semantics.specs.Rule.{AreValues}
use Rattle.behaviour_semantics.specs.Draft.{above}
use Rattle.behaviour_semantics.specs.ReplacementLaws.{IsApart}
use Rattle.behaviour_semantics.specs.WellFormed.{sort_in, Every, IsTermIn, IsTestIn, AreTermsIn, IsTestOption, IsOffer, IsExitValue, IsBehaviour}
use Rattle.behaviour_semantics.specs.ClosingLaws.{Closes, AreGroundPairs, AgreeIn}
use Rattle.behaviour_semantics.proofs.RelatedTerms.{sort_in-unlisted}
use Rattle.behaviour_semantics.proofs.PutTerms.{PutsIn, put_behaviour, bound_puts, inner_puts}
use Rattle.behaviour_semantics.proofs.ReplacementLemmas.{twice, unchanged}

-- The terms of an environment are ground, and a variable without one stays.
ground_pairs_apart : (base : ℕ) (pairs : List (ℕ × Term)) → AreGroundPairs pairs → IsApart base (binding pairs)
ground_pairs_apart base [] h n s = inl refl
ground_pairs_apart base (pair ∷ pairs) h n s = by (nat_eq pair.0 n) (ground_pairs_apart base pairs h.1 n s)
  where
    by : (same : Bool) → (binding pairs n s ≡ variable n s) ⊎ ((m r : ℕ) → Occurs m r (binding pairs n s) → base ≤ m)
        → ((if same then pair.1 else binding pairs n s) ≡ variable n s)
        ⊎ ((m r : ℕ) → Occurs m r (if same then pair.1 else binding pairs n s) → base ≤ m)
    by true rest = inr (λ m r o. absurd (ground_no_variable pair.1 h.0 m r o))
    by false rest = rest

binding_then : (first second : List (ℕ × Term)) → AreGroundPairs first → (n s : ℕ)
    → followed_by (binding first) (binding second) n s ≡ binding (first ++ second) n s
binding_then [] second h n s = refl
binding_then (pair ∷ first) second h n s = by (nat_eq pair.0 n) (binding_then first second h.1 n s)
  where
    by : (same : Bool) → substituted (binding second) (binding first n s) ≡ binding (first ++ second) n s
        → substituted (binding second) (if same then pair.1 else binding first n s) ≡ (if same then pair.1 else
        binding (first ++ second) n s)
    by true rest = substituted_ground (binding second) pair.1 h.0
    by false rest = rest

pub environments_in_turn : (first second : List (ℕ × Term)) (b : Behaviour) → AreGroundPairs first
    → with_values (binding second) (with_values (binding first) b) ≡ with_values (binding (first ++ second)) b
environments_in_turn first second b h =
    twice (above b) (binding first) (binding second) b (omega arith) (ground_pairs_apart (above b) first h)
    ∙ ap (λ (v : Substitution). with_values v b) (fun_ext (λ n. fun_ext (λ s. binding_then first second h n s)))

module _ (signature : Signature) where
  -- Ground terms for a scope.
  pub closing_puts : (scope : List Variable) (values : Substitution) → Closes signature scope values → PutsIn signature scope [] values
  closing_puts scope values closes n s at = inr (closes n s at)

  pub listed_closes : (variables : List Variable) (terms : List Term) → AreValues signature (sorts_of variables) terms
      → Closes signature variables (binding_of variables terms)
  listed_closes variables terms h n s at = by (bound_puts signature variables terms h n s at)
    where
      by : ((binding_of variables terms n s ≡ variable n s) × (sort_in [] n ≡ Some s))
          ⊎ IsGroundOf signature s (binding_of variables terms n s) → IsGroundOf signature s (binding_of variables terms n s)
      by (inl none) = absurd (cc none.1)
      by (inr g) = g

  -- Substitutions that agree in a scope.
  module _ (scope : List Variable) (first second : Substitution) (agree : AgreeIn scope first second) where
    term_agrees : (sort : ℕ) (t : Term) → IsTermIn signature scope sort t → substituted first t ≡ substituted second t
    term_agrees sort t h = substituted_agree first second t (λ n s o. agree n s (h.bound n s o))

    test_agrees : (test : Test) → IsTestIn signature scope test → test_with first test ≡ test_with second test
    test_agrees test h = let left : _ ≡ _ = term_agrees h.sort test.left h.left in let right : _ ≡ _ =
        term_agrees h.sort test.right h.right in cc (left, right)

    option_agrees : (test : Option Test) → IsTestOption signature scope test
        → option_map (test_with first) test ≡ option_map (test_with second) test
    option_agrees None h = refl
    option_agrees (Some test) h = ap (λ (t : Test). Some t) (test_agrees test h)

    offers_agree : (offers : List Offer) → Every (IsOffer signature scope) offers
        → map (offer_with first) offers ≡ map (offer_with second) offers
    offers_agree [] h = refl
    offers_agree (give t ∷ offers) h = let head : _ ≡ _ = term_agrees h.0.0 t h.0.1 in let tail : _ ≡ _ = offers_agree offers h.1 in
        cc (head, tail)
    offers_agree (ask x ∷ offers) h = ap (λ (os : List Offer). ask x ∷ os) (offers_agree offers h.1)

    results_agree : (results : List ExitValue) → Every (IsExitValue signature scope) results
        → map (exit_value_with first) results ≡ map (exit_value_with second) results
    results_agree [] h = refl
    results_agree (exit_value t ∷ results) h = let head : _ ≡ _ = term_agrees h.0.0 t h.0.1 in let tail : _ ≡ _ =
        results_agree results h.1 in cc (head, tail)
    results_agree (any_of s ∷ results) h = ap (λ (rs : List ExitValue). any_of s ∷ rs) (results_agree results h.1)

    terms_agree : (variables : List Variable) (terms : List Term) → AreTermsIn signature scope variables terms
        → map (substituted first) terms ≡ map (substituted second) terms
    terms_agree [] [] h = refl
    terms_agree (x ∷ variables) (t ∷ terms) h = let head : _ ≡ _ = term_agrees x.sort t h.0 in let tail : _ ≡ _ =
        terms_agree variables terms h.1 in cc (head, tail)
    terms_agree [] (t ∷ terms) h = absurd h
    terms_agree (x ∷ variables) [] h = absurd h

    bindings_agree : (bindings : List (Variable × Term)) → AreTermsIn signature scope (let_variables bindings) (let_terms bindings)
        → map {B = Variable × Term} (λ (bound : Variable × Term). (bound.0, substituted first bound.1)) bindings ≡ map {B = Variable
        × Term} (λ (bound : Variable × Term). (bound.0, substituted second bound.1)) bindings
    bindings_agree [] h = refl
    bindings_agree (bound ∷ bindings) h =
        ap (λ (t : Term). (bound.0, t) ∷ map {B = Variable × Term} (λ (b : Variable × Term). (b.0, substituted first b.1)) bindings)
        (term_agrees bound.0.sort bound.1 h.0)
        ∙ ap (λ (rest : List (Variable × Term)). (bound.0, substituted second bound.1) ∷ rest) (bindings_agree bindings h.1)

  agree_under : (scope : List Variable) (first second : Substitution) (variables : List Variable) → AgreeIn scope first second
      → AgreeIn (variables ++ scope) (without (numbers_of variables) first) (without (numbers_of variables) second)
  agree_under scope first second variables agree n s at = by (is_listed (numbers_of variables) n) refl
    where
      data_ : Data
      data_ = record { signature = signature; equations = [] }

      by : (listed : Bool) → is_listed (numbers_of variables) n ≡ listed
          → (if is_listed (numbers_of variables) n then variable n s else first n s) ≡ (if is_listed (numbers_of variables) n then
          variable n s else second n s)
      by true e = rw e refl
      by false e = rw e (agree n s (sym (sort_in-unlisted data_ 0 variables scope n e) ∙ at))

  module _ (names : ℕ) (processes : List Process) where
    pub behaviour_agrees : (scope : List Variable) (first second : Substitution) → AgreeIn scope first second → (b : Behaviour)
        → IsBehaviour signature names processes scope b → with_values first b ≡ with_values second b
    behaviour_agrees scope first second agree stop h = refl
    behaviour_agrees scope first second agree (exit_with results) h = ap exit_with (results_agree scope first second agree results h)
    behaviour_agrees scope first second agree (action g offers test b) h =
        let variables : List Variable = asked_variables offers in
        let inside : AgreeIn (variables ++ scope) (without (numbers_of variables) first) (without (numbers_of variables) second) =
        agree_under scope first second variables agree in
        let given : _ ≡ _ = offers_agree scope first second agree offers h.1 in
        let asked : _ ≡ _ = option_agrees (variables ++ scope) (without (numbers_of variables) first)
        (without (numbers_of variables) second) inside test h.3 in
        let below : _ ≡ _ = behaviour_agrees (variables ++ scope) (without (numbers_of variables) first)
        (without (numbers_of variables) second) inside b h.4 in
        cc (given, asked, below)
    behaviour_agrees scope first second agree (inner_action b) h = ap inner_action (behaviour_agrees scope first second agree b h)
    behaviour_agrees scope first second agree (guard test b) h =
        let asked : _ ≡ _ = test_agrees scope first second agree test h.0 in
        let below : _ ≡ _ = behaviour_agrees scope first second agree b h.1 in
        cc (asked, below)
    behaviour_agrees scope first second agree (choice b c) h =
        let left : _ ≡ _ = behaviour_agrees scope first second agree b h.0 in
        let right : _ ≡ _ = behaviour_agrees scope first second agree c h.1 in
        cc (left, right)
    behaviour_agrees scope first second agree (parallel meet b c) h =
        let left : _ ≡ _ = behaviour_agrees scope first second agree b h.1 in
        let right : _ ≡ _ = behaviour_agrees scope first second agree c h.2 in
        cc (left, right)
    behaviour_agrees scope first second agree (hide gates b) h = ap (hide gates) (behaviour_agrees scope first second agree b h.1)
    behaviour_agrees scope first second agree (enable b variables c) h =
        let left : _ ≡ _ = behaviour_agrees scope first second agree b h.0 in
        let right : _ ≡ _ = behaviour_agrees (variables ++ scope) (without (numbers_of variables) first)
        (without (numbers_of variables) second) (agree_under scope first second variables agree) c h.2 in
        cc (left, right)
    behaviour_agrees scope first second agree (disable b c) h =
        let left : _ ≡ _ = behaviour_agrees scope first second agree b h.0 in
        let right : _ ≡ _ = behaviour_agrees scope first second agree c h.1 in
        cc (left, right)
    behaviour_agrees scope first second agree (let_be bindings b) h =
        let variables : List Variable = let_variables bindings in
        let bound : _ ≡ _ = bindings_agree scope first second agree bindings h.1 in
        let below : _ ≡ _ = behaviour_agrees (variables ++ scope) (without (numbers_of variables) first)
        (without (numbers_of variables) second) (agree_under scope first second variables agree) b h.2 in
        ap (λ (bs : List (Variable × Term)). let_be bs (with_values (without (numbers_of variables) first) b)) bound
        ∙ ap (let_be (map {B = Variable × Term} (λ (b : Variable × Term). (b.0, substituted second b.1)) bindings)) below
    behaviour_agrees scope first second agree (choose_value x b) h =
        ap (choose_value x) (behaviour_agrees (x ∷ scope) (without (x.number ∷ []) first) (without (x.number ∷ []) second)
        (agree_under scope first second (x ∷ []) agree) b h.1)
    behaviour_agrees scope first second agree (choose_gate g gates b) h =
        ap (choose_gate g gates) (behaviour_agrees scope first second agree b h.2)
    behaviour_agrees scope first second agree (par_gate g gates meet b) h =
        ap (par_gate g gates meet) (behaviour_agrees scope first second agree b h.4)
    behaviour_agrees scope first second agree (call number gates arguments) h =
        ap (call number gates) (terms_agree scope first second agree h.1.process.parameters arguments h.1.values)
    behaviour_agrees scope first second agree (relabel pairs b) h = ap (relabel pairs) (behaviour_agrees scope first second agree b h.1)

    pub closed_stays : (values : Substitution) (b : Behaviour) → IsBehaviour signature names processes [] b → with_values values b ≡ b
    closed_stays values b h = behaviour_agrees [] values variable (λ n s at. absurd (cc at)) b h ∙ unchanged b

    pub closes : (scope : List Variable) (values : Substitution) (b : Behaviour) → IsBehaviour signature names processes scope b
        → Closes signature scope values → IsBehaviour signature names processes [] (with_values values b)
    closes scope values b h k = put_behaviour signature names processes scope [] values (closing_puts scope values k) b h

    pub inner_closes : (variables scope : List Variable) (terms : List Term) (b : Behaviour)
        → AreValues signature (sorts_of variables) terms → IsBehaviour signature names processes (variables ++ scope) b
        → IsBehaviour signature names processes scope (with_values (binding_of variables terms) b)
    inner_closes variables scope terms b values h = put_behaviour signature names processes (variables ++ scope) scope
        (binding_of variables terms) (inner_puts signature variables scope terms values) b h
