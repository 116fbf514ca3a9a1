-- A behaviour that a text stands for is nested as deep as what is written.
use Rattle.std.proofs.Common.{◌≡◌, ℕ, suc, ◌+◌, ◌≤◌, List, [], ◌∷◌, ◌++◌, length, flat_map, sym, ◌∙◌, ap, subst, arith}
use Rattle.std.specs.Prelude.{Option, None, Some}
use Rattle.lotos_base.specs.Equation.{Variable}
use Rattle.lotos_base.specs.Signature.{Signature}
use Rattle.lotos_base.specs.Term.{Term}
use Rattle.lotos_base.specs.WrittenTerm.{PlacedName, WrittenTerm, written}
use Rattle.syntax_trees.specs.Depth.{TreeNode, node_at, nodes_of_term, nodes_of_terms, nodes_of_maybe_term, nodes_of_premiss, nodes_of_maybe_premiss, nodes_of_offer, nodes_of_exit_value, variable_nodes, gate_nodes, behaviour_nodes}
use Rattle.syntax_trees.specs.WrittenVariable.{WrittenVariable}
use Rattle.syntax_trees.specs.WrittenEquation.{WrittenPremiss}
use Rattle.syntax_trees.specs.WrittenBehaviour as written_forms
use Rattle.syntax_trees.specs.WrittenBehaviour.{WrittenBehaviour, WrittenSign, choice_sign, interleaving, full_synchronisation, synchronising, disabling, enabling, WrittenGateChoice, WrittenExitValue, exit_term, exit_any, WrittenOffer, offer_value, offer_variable}
use Rattle.sort_terms.specs.ReadingOutcome.{unknown_in, SortedTerm, IsReading, IsPairReading}
use Rattle.behaviour_semantics.specs.Behaviour.{Behaviour, stop, exit_with, action, inner_action, guard, choice, parallel, hide, enable, disable, let_be, choose_value, choose_gate, par_gate, call, relabel, Test, Offer, give, ask, ExitValue, exit_value, any_of, SynchronisationSet}
use Rattle.behaviour_semantics.specs.WellFormed.{Every}
use Rattle.sort_terms.proofs.OutcomeLemmas.{is_reading}
use Rattle.scope_parts.specs.Resolution.{Resolution, resolved, beside, InFront}
use Rattle.scope_parts.specs.Scope.{Binding, Scope, gates_at, bind, first_double}
use Rattle.scope_parts.specs.Numbering.{Numbers, past, asked_for}
use Rattle.scope_parts.specs.Sorts.{Truth, truth_in, placed_variables}
use Rattle.scope_parts.specs.Terms.{SortedTermIs, TermIs, PairIs, TrueTermIs, PremissIs, TestIs, TestOptionIs, ExitValueIs, ExitValuesAre, ValuesAre, BindingsAre, let_names, OfferIs, past_offer, OffersFollow}
use Rattle.scope_parts.specs.Choices.{GateChoice, choices_follow, choices_at, sign_at, signs_follow, with_signs, placed_choices, under_gates, under_par, under_values}
use Rattle.scope_parts.specs.Behaviours.{SignIs, BehaviourIs}
use Rattle.scope_parts.proofs.FormedLists.{same_resolved, never_faulty, made_of, front_of, beside_of}
use Rattle.session_laws.specs.TermDepth.{term_depth}
use Rattle.session_laws.proofs.DepthLemmas.{IsShallow}
use Rattle.session_laws.proofs.TermReadDepths.{shallow_parts, shallow_head, term_within}
use Rattle.session_laws.proofs.PartsMeant.{declared_counted}

-- ---- What is nested no deeper than the limit

module _ (limit : ℕ) where
  abbrev pub TermFits : Term → Type 0
  TermFits t = term_depth t ≤ limit

  pub record TestFits (test : Test) : Type 0 where
    pub left : TermFits test.left
    pub right : TermFits test.right

  abbrev pub PredicateFits : Option Test → Type 0
  PredicateFits None = Unit {0}
  PredicateFits (Some test) = TestFits test

  abbrev pub OfferFits : Offer → Type 0
  OfferFits (give t) = TermFits t
  OfferFits (ask x) = Unit {0}

  abbrev pub ExitFits : ExitValue → Type 0
  ExitFits (exit_value t) = TermFits t
  ExitFits (any_of s) = Unit {0}

  abbrev pub BindingFits : Variable × Term → Type 0
  BindingFits bound = TermFits bound.1

  -- a behaviour whose root stands at the depth
  abbrev pub BehaviourFits : ℕ → Behaviour → Type 0
  BehaviourFits depth stop = depth ≤ limit
  BehaviourFits depth (exit_with values) = (depth ≤ limit) × Every ExitFits values
  BehaviourFits depth (action gate offers test b) =
      (depth ≤ limit) × Every OfferFits offers × PredicateFits test × BehaviourFits (depth + 1) b
  BehaviourFits depth (inner_action b) = (depth ≤ limit) × BehaviourFits (depth + 1) b
  BehaviourFits depth (guard test b) = (depth ≤ limit) × TestFits test × BehaviourFits (depth + 1) b
  BehaviourFits depth (choice b c) = (depth ≤ limit) × BehaviourFits (depth + 1) b × BehaviourFits (depth + 1) c
  BehaviourFits depth (parallel meet b c) = (depth ≤ limit) × BehaviourFits (depth + 1) b × BehaviourFits (depth + 1) c
  BehaviourFits depth (hide gates b) = (depth ≤ limit) × BehaviourFits (depth + 1) b
  BehaviourFits depth (enable b variables c) = (depth ≤ limit) × BehaviourFits (depth + 1) b × BehaviourFits (depth + 1) c
  BehaviourFits depth (disable b c) = (depth ≤ limit) × BehaviourFits (depth + 1) b × BehaviourFits (depth + 1) c
  BehaviourFits depth (let_be bindings b) = (depth ≤ limit) × Every BindingFits bindings × BehaviourFits (depth + 1) b
  BehaviourFits depth (choose_value x b) = (depth ≤ limit) × BehaviourFits (depth + 1) b
  BehaviourFits depth (choose_gate gate among b) = (depth ≤ limit) × BehaviourFits (depth + 1) b
  BehaviourFits depth (par_gate gate among meet b) = (depth ≤ limit) × BehaviourFits (depth + 1) b
  BehaviourFits depth (call number gates terms) = (depth ≤ limit) × Every TermFits terms
  BehaviourFits depth (relabel pairs b) = ⊥

  -- ---- Terms

  from_one : (depth : ℕ) → 1 + depth ≤ suc limit → depth ≤ limit
  from_one depth h = omega (arith, h)

  sorted_fits : (signature : Signature) (scope : List Variable) (w : WrittenTerm) (expected : Option ℕ) (reading : SortedTerm)
      → SortedTermIs signature scope w expected (resolved reading) → IsShallow limit (nodes_of_term w) → TermFits reading.term
  sorted_fits signature scope (written head ws) expected reading is shallow =
      let reads : IsReading signature scope (written head ws) expected reading =
      is_reading (unknown_in signature scope (written head ws)) head.place (IsReading signature scope (written head ws) expected) reading
      is in
      from_one (term_depth reading.term) (term_within signature scope limit 1 (written head ws) reading.term reading.sort reads.0 shallow)

  term_fits : (signature : Signature) (scope : List Variable) (w : WrittenTerm) (expected : Option ℕ) (t : Term)
      → TermIs signature scope w expected (resolved t) → IsShallow limit (nodes_of_term w) → TermFits t
  term_fits signature scope w expected t is shallow =
      subst TermFits (sym is.2) (sorted_fits signature scope w expected is.0 is.1 shallow)

  pair_fits : (signature : Signature) (scope : List Variable) (left right : WrittenTerm) (test : Test)
      → PairIs signature scope left right (resolved test) → IsShallow limit (nodes_of_term left)
      → IsShallow limit (nodes_of_term right) → TestFits test
  pair_fits signature scope (written head ws) right test is first second =
      let reads : IsPairReading signature scope (written head ws) right is.0 =
      is_reading (unknown_in signature scope (written head ws) ++ unknown_in signature scope right) head.place
      (IsPairReading signature scope (written head ws) right) is.0 is.1 in
      subst TestFits (sym is.2) (record {
        left =
            from_one (term_depth is.0.left)
            (term_within signature scope limit 1 (written head ws) is.0.left is.0.sort reads.0 first);
        right = from_one (term_depth is.0.right) (term_within signature scope limit 1 right is.0.right is.0.sort reads.1 second);
      })

  true_fits : (signature : Signature) (scope : List Variable) (premiss : WrittenPremiss) (truth : Option Truth) (test : Test)
      → 1 ≤ limit → TrueTermIs signature scope premiss truth (resolved test) → IsShallow limit (nodes_of_term premiss.left)
      → TestFits test
  true_fits signature scope premiss None test some is shallow = never_faulty test _ is
  true_fits signature scope premiss (Some truth) test some is shallow =
      subst TestFits (sym is.2)
      (record { left = term_fits signature scope premiss.left (Some truth.sort) is.0 is.1 shallow; right = some })

  test_fits : (signature : Signature) (scope : List Variable) (premiss : WrittenPremiss) (test : Test) → 1 ≤ limit
      → TestIs signature scope premiss (resolved test) → IsShallow limit (nodes_of_premiss premiss) → TestFits test
  test_fits signature scope premiss test some is shallow = go premiss.right is shallow
    where
      go : (right : Option WrittenTerm) → PremissIs signature scope premiss right (resolved test) → IsShallow limit (nodes_of_term premiss.left ++ nodes_of_maybe_term right)
          → TestFits test
      go None is shallow =
          true_fits signature scope premiss (truth_in signature) test some is
          (shallow_parts limit (nodes_of_term premiss.left) [] shallow).0
      go (Some right) is shallow =
          let parts = shallow_parts limit (nodes_of_term premiss.left) (nodes_of_term right) shallow in
          pair_fits signature scope premiss.left right test is parts.0 parts.1

  predicate_fits : (signature : Signature) (scope : List Variable) (premiss : Option WrittenPremiss) (test : Option Test) → 1 ≤ limit
      → TestOptionIs signature scope premiss (resolved test) → IsShallow limit (nodes_of_maybe_premiss premiss) → PredicateFits test
  predicate_fits signature scope None test some is shallow = subst PredicateFits (sym (same_resolved test None is)) tt
  predicate_fits signature scope (Some premiss) test some is shallow =
      subst PredicateFits (sym is.2) (test_fits signature scope premiss is.0 some is.1 shallow)

  -- ---- Lists of terms

  -- the first of a list that is put together
  front_fits : {A : Type 0} (P : A → Type 0) (Others : Resolution (List A) → Type 0) (x : A) (xs : List A)
      → InFront x Others (resolved xs) → P x → ((ys : List A) → Others (resolved ys) → Every P ys) → Every P xs
  front_fits P Others x [] is here more = absurd is
  front_fits P Others x (y ∷ ys) is here more = (subst P (sym is.0) here, more ys is.1)

  exit_value_fits : (signature : Signature) (scope : List Variable) (w : WrittenExitValue) (value : ExitValue)
      → ExitValueIs signature scope w (resolved value) → IsShallow limit (nodes_of_exit_value w) → ExitFits value
  exit_value_fits signature scope (exit_term term) value is shallow =
      subst ExitFits (sym is.2) (term_fits signature scope term None is.0 is.1 shallow)
  exit_value_fits signature scope (exit_any sort) value is shallow = subst ExitFits (sym is.2) tt

  exit_values_fit : (signature : Signature) (scope : List Variable) (ws : List WrittenExitValue) (values : List ExitValue)
      → ExitValuesAre signature scope ws (resolved values) → IsShallow limit (flat_map nodes_of_exit_value ws) → Every ExitFits values
  exit_values_fit signature scope [] values is shallow = subst (Every ExitFits) (sym (same_resolved values [] is)) tt
  exit_values_fit signature scope (w ∷ ws) values is shallow =
      let parts = shallow_parts limit (nodes_of_exit_value w) (flat_map nodes_of_exit_value ws) shallow in
      front_fits ExitFits (ExitValuesAre signature scope ws) is.0 values is.2
      (exit_value_fits signature scope w is.0 is.1 parts.0)
      (λ others more. exit_values_fit signature scope ws others more parts.1)

  values_fit : (signature : Signature) (scope : List Variable) (sorts : List (Option ℕ)) (ws : List WrittenTerm) (terms : List Term)
      → ValuesAre signature scope sorts ws (resolved terms) → IsShallow limit (nodes_of_terms ws) → Every TermFits terms
  values_fit signature scope [] ws terms is shallow = subst (Every TermFits) (sym (same_resolved terms [] is)) tt
  values_fit signature scope (sort ∷ sorts) [] terms is shallow = subst (Every TermFits) (sym (same_resolved terms [] is)) tt
  values_fit signature scope (None ∷ sorts) (w ∷ ws) terms is shallow =
      values_fit signature scope sorts ws terms is (shallow_parts limit (nodes_of_term w) (nodes_of_terms ws) shallow).1
  values_fit signature scope (Some sort ∷ sorts) (w ∷ ws) terms is shallow =
      let parts = shallow_parts limit (nodes_of_term w) (nodes_of_terms ws) shallow in
      front_fits TermFits (ValuesAre signature scope sorts ws) is.0 terms is.2
      (term_fits signature scope w (Some sort) is.0 is.1 parts.0)
      (λ others more. values_fit signature scope sorts ws others more parts.1)

  abbrev pub binding_nodes : List (WrittenVariable × WrittenTerm) → List TreeNode
  binding_nodes bindings = flat_map (λ pair. nodes_of_term pair.1) bindings

  bindings_fit : (signature : Signature) (scope : List Variable) (next : ℕ) (ws : List (WrittenVariable × WrittenTerm))
      (bindings : List (Variable × Term)) → BindingsAre signature scope next ws (resolved bindings)
      → IsShallow limit (binding_nodes ws) → Every BindingFits bindings
  bindings_fit signature scope next [] bindings is shallow = subst (Every BindingFits) (sym (same_resolved bindings [] is)) tt
  bindings_fit signature scope next (w ∷ ws) bindings is shallow =
      let parts = shallow_parts limit (nodes_of_term w.1) (binding_nodes ws) shallow in
      front_fits BindingFits (BindingsAre signature scope (suc next) ws) is.0 bindings is.2
      (subst BindingFits (sym is.1.2.2) (term_fits signature scope w.1 (Some is.1.0.sort) is.1.2.0 is.1.2.1 parts.0))
      (λ others more. bindings_fit signature scope (suc next) ws others more parts.1)

  offer_fits : (signature : Signature) (scope : List Variable) (number : ℕ) (w : WrittenOffer) (offer : Offer)
      → OfferIs signature scope number w (resolved offer) → IsShallow limit (nodes_of_offer w) → OfferFits offer
  offer_fits signature scope number (offer_value term) offer is shallow =
      subst OfferFits (sym is.2) (term_fits signature scope term None is.0 is.1 shallow)
  offer_fits signature scope number (offer_variable variable) offer is shallow = subst OfferFits (sym is.2) tt

  offers_fit : (signature : Signature) (scope : List Variable) (next : ℕ) (ws : List WrittenOffer) (offers : List Offer)
      → OffersFollow signature scope next ws (resolved offers) → IsShallow limit (flat_map nodes_of_offer ws) → Every OfferFits offers
  offers_fit signature scope next [] offers is shallow = subst (Every OfferFits) (sym (same_resolved offers [] is)) tt
  offers_fit signature scope next (w ∷ ws) offers is shallow =
      let parts = shallow_parts limit (nodes_of_offer w) (flat_map nodes_of_offer ws) shallow in
      front_fits OfferFits (OffersFollow signature scope (past_offer w next) ws) is.0 offers is.2
      (offer_fits signature scope next w is.0 is.1 parts.0)
      (λ others more. offers_fit signature scope (past_offer w next) ws others more parts.1)

  -- what stands beside a double name
  beside_there : {A : Type 0} (double : Option PlacedName) (Others : Resolution A → Type 0) (x : A)
      → (others : Resolution A) × Others others × (resolved x ≡ beside double others)
      → Others (resolved x)
  beside_there double Others x is = subst Others (sym (beside_of double is.0 x is.2)) is.1

  -- ---- Declared names

  values_under : (depth : ℕ) (ws : List WrittenVariable) (xs : List Variable) (b : Behaviour) → length xs ≡ length ws
      → IsShallow limit (variable_nodes depth ws) → BehaviourFits (depth + length ws) b → BehaviourFits depth (under_values xs b)
  values_under depth [] [] b counted shallow fits =
      let none : depth + 0 ≡ depth = omega arith in subst (λ (d : ℕ). BehaviourFits d b) none fits
  values_under depth [] (x ∷ xs) b counted shallow fits = absurd (omega (arith, counted))
  values_under depth (w ∷ ws) [] b counted shallow fits = absurd (omega (arith, counted))
  values_under depth (w ∷ ws) (x ∷ xs) b counted shallow fits =
      let head = shallow_head limit depth w.place (variable_nodes (depth + 1) ws) shallow in
      let one : depth + suc (length ws) ≡ (depth + 1) + length ws = omega arith in
      let rest : length xs ≡ length ws = omega (arith, counted) in
      (head.0, values_under (depth + 1) ws xs b rest head.1 (subst (λ (d : ℕ). BehaviourFits d b) one fits))

  no_gate : (depth : ℕ) (b : Behaviour) → BehaviourFits (depth + 0) b → BehaviourFits depth b
  no_gate depth b fits = let none : depth + 0 ≡ depth = omega arith in subst (λ (d : ℕ). BehaviourFits d b) none fits

  one_gate : (depth count : ℕ) (b : Behaviour) → BehaviourFits (depth + suc count) b → BehaviourFits ((depth + 1) + count) b
  one_gate depth count b fits =
      let one : depth + suc count ≡ (depth + 1) + count = omega arith in subst (λ (d : ℕ). BehaviourFits d b) one fits

  gates_under : (depth : ℕ) (ds : List WrittenGateChoice) (cs : List GateChoice) (visible : List Binding) (next : ℕ) (b : Behaviour)
      → resolved cs ≡ choices_follow visible next ds → IsShallow limit (gate_nodes depth ds) → BehaviourFits (depth + length ds) b
      → BehaviourFits depth (under_gates cs b)
  gates_under depth [] cs visible next b is shallow fits =
      subst (λ (all : List GateChoice). BehaviourFits depth (under_gates all b)) (sym (same_resolved cs [] is)) (no_gate depth b fits)
  gates_under depth (d ∷ ds) cs visible next b is shallow fits =
      let first = made_of (gates_at visible d.among) _ cs is in
      let one : GateChoice = record { gate = next; among = first.0 } in
      let rest = front_of one (choices_follow (bind d.name next visible) (suc next) ds) cs first.2 in
      let head = shallow_head limit depth d.place (gate_nodes (depth + 1) ds) shallow in
      subst (λ (all : List GateChoice). BehaviourFits depth (under_gates all b)) (sym rest.2) (
        head.0,
        gates_under (depth + 1) ds rest.0 (bind d.name next visible) (suc next) b rest.1 head.1 (one_gate depth (length ds) b fits),
      )

  pars_under : (depth : ℕ) (sign : WrittenSign) (ds : List WrittenGateChoice) (cs : List GateChoice) (ms : List SynchronisationSet)
      (visible : List Binding) (next : ℕ) (b : Behaviour) → resolved cs ≡ choices_follow visible next ds
      → resolved ms ≡ signs_follow visible next sign ds → IsShallow limit (gate_nodes depth ds) → BehaviourFits (depth + length ds) b
      → BehaviourFits depth (under_par (with_signs cs ms) b)
  pars_under depth sign [] cs ms visible next b is signs shallow fits =
      subst (λ (all : List GateChoice). BehaviourFits depth (under_par (with_signs all ms) b)) (sym (same_resolved cs [] is))
      (no_gate depth b fits)
  pars_under depth sign (d ∷ ds) cs ms visible next b is signs shallow fits =
      let first = made_of (gates_at visible d.among) _ cs is in
      let one : GateChoice = record { gate = next; among = first.0 } in
      let rest = front_of one (choices_follow (bind d.name next visible) (suc next) ds) cs first.2 in
      let meet = made_of (sign_at visible sign) _ ms signs in
      let meets = front_of meet.0 (signs_follow (bind d.name next visible) (suc next) sign ds) ms meet.2 in
      let head = shallow_head limit depth d.place (gate_nodes (depth + 1) ds) shallow in
      subst (λ (all : List GateChoice). BehaviourFits depth (under_par (with_signs all ms) b)) (sym rest.2)
      (subst (λ (all : List SynchronisationSet). BehaviourFits depth (under_par (with_signs (one ∷ rest.0) all) b)) (sym meets.2) (
        head.0,
        pars_under (depth + 1) sign ds rest.0 meets.0 (bind d.name next visible) (suc next) b rest.1 meets.1 head.1
            (one_gate depth (length ds) b fits),
      ))

  -- ---- Behaviours

  module _ (signature : Signature) where
    sign_fits : (depth : ℕ) (sign : WrittenSign) (scope : Scope) (numbers : Numbers) (left b : Behaviour)
        (Right : Scope → Numbers → Resolution Behaviour → Type 0)
        → ((inside : Scope) (behind : Numbers) (right : Behaviour) → Right inside behind (resolved right)
        → BehaviourFits (depth + 1) right)
        → depth ≤ limit → BehaviourFits (depth + 1) left → SignIs signature scope numbers sign left Right (resolved b)
        → BehaviourFits depth b
    sign_fits depth choice_sign scope numbers left b Right more here first is =
        subst (BehaviourFits depth) (sym is.2) (here, first, more scope numbers is.0 is.1)
    sign_fits depth interleaving scope numbers left b Right more here first is =
        subst (BehaviourFits depth) (sym is.2) (here, first, more scope numbers is.0 is.1)
    sign_fits depth full_synchronisation scope numbers left b Right more here first is =
        subst (BehaviourFits depth) (sym is.2) (here, first, more scope numbers is.0 is.1)
    sign_fits depth (synchronising names) scope numbers left b Right more here first is =
        subst (BehaviourFits depth) (sym is.2.2) (here, first, more scope numbers is.2.0 is.2.1)
    sign_fits depth disabling scope numbers left b Right more here first is =
        subst (BehaviourFits depth) (sym is.2) (here, first, more scope numbers is.0 is.1)
    sign_fits depth (enabling accepted) scope numbers left b Right more here first is =
        subst (BehaviourFits depth) (sym is.2.2) (here, first, more _ _ is.2.0 is.2.1)

    pub behaviour_fits : (w : WrittenBehaviour) (scope : Scope) (numbers : Numbers) (depth : ℕ) (b : Behaviour) → 1 ≤ depth
        → BehaviourIs signature scope numbers w (resolved b) → IsShallow limit (behaviour_nodes depth w) → BehaviourFits depth b
    behaviour_fits (written_forms.stop place) scope numbers depth b some is shallow =
        subst (BehaviourFits depth) (sym (same_resolved b stop is)) (shallow_head limit depth place [] shallow).0
    behaviour_fits (written_forms.exit place values) scope numbers depth b some is shallow =
        let head = shallow_head limit depth place (flat_map nodes_of_exit_value values) shallow in
        subst (BehaviourFits depth) (sym is.2) (head.0, exit_values_fit signature scope.variables values is.0 is.1 head.1)
    behaviour_fits (written_forms.call place name gates values) scope numbers depth b some is shallow =
        let head = shallow_head limit depth place (nodes_of_terms values) shallow in
        subst (BehaviourFits depth) (sym is.2.2.2)
        (head.0, values_fit signature scope.variables is.0.sorts values is.2.2.0 is.2.2.1 head.1)
    behaviour_fits (written_forms.action place gate offers premiss next) scope numbers depth b some is shallow =
        let head = shallow_head limit depth place _ shallow in
        let first = shallow_parts limit (flat_map nodes_of_offer offers) (nodes_of_maybe_premiss premiss ++ behaviour_nodes (depth + 1) next)
        head.1 in
        let second = shallow_parts limit (nodes_of_maybe_premiss premiss) (behaviour_nodes (depth + 1) next) first.1 in
        let here : depth ≤ limit = head.0 in
        let offered : OffersFollow signature scope.variables numbers.variable offers (resolved is.2.0) =
        beside_there (first_double (placed_variables (asked_for offers))) (OffersFollow signature scope.variables numbers.variable offers)
        is.2.0 is.2.1 in
        subst (BehaviourFits depth) (sym is.2.2.2.2) (
          here,
          offers_fit signature scope.variables numbers.variable offers is.2.0 offered first.0,
          predicate_fits signature _ premiss is.2.2.0 (omega (arith, some, here)) is.2.2.1 second.0,
          behaviour_fits next _ _ (depth + 1) is.2.2.2.0 (omega arith) is.2.2.2.1 second.1,
        )
    behaviour_fits (written_forms.inner_action place next) scope numbers depth b some is shallow =
        let head = shallow_head limit depth place (behaviour_nodes (depth + 1) next) shallow in
        subst (BehaviourFits depth) (sym is.2) (head.0, behaviour_fits next scope numbers (depth + 1) is.0 (omega arith) is.1 head.1)
    behaviour_fits (written_forms.guard place premiss next) scope numbers depth b some is shallow =
        let head = shallow_head limit depth place _ shallow in
        let parts = shallow_parts limit (nodes_of_premiss premiss) (behaviour_nodes (depth + 1) next) head.1 in
        let here : depth ≤ limit = head.0 in
        subst (BehaviourFits depth) (sym is.2.2) (
          here,
          test_fits signature scope.variables premiss is.0 (omega (arith, some, here)) is.1 parts.0,
          behaviour_fits next scope numbers (depth + 1) is.2.0 (omega arith) is.2.1 parts.1,
        )
    behaviour_fits (written_forms.hide place gates inside) scope numbers depth b some is shallow =
        let head = shallow_head limit depth place (behaviour_nodes (depth + 1) inside) shallow in
        subst (BehaviourFits depth) (sym is.2) (head.0, behaviour_fits inside _ _ (depth + 1) is.0 (omega arith) is.1 head.1)
    behaviour_fits (written_forms.let_be place values inside) scope numbers depth b some is shallow =
        let head = shallow_head limit depth place _ shallow in
        let parts = shallow_parts limit (binding_nodes values) (behaviour_nodes (depth + 1) inside) head.1 in
        let bound : BindingsAre signature scope.variables numbers.variable values (resolved is.0) =
        beside_there (first_double (placed_variables (let_names values))) (BindingsAre signature scope.variables numbers.variable values)
        is.0 is.1 in
        subst (BehaviourFits depth) (sym is.2.2) (
          head.0,
          bindings_fit signature scope.variables numbers.variable values is.0 bound parts.0,
          behaviour_fits inside _ _ (depth + 1) is.2.0 (omega arith) is.2.1 parts.1,
        )
    behaviour_fits (written_forms.choose_value place variables inside) scope numbers depth b some is shallow =
        let parts = shallow_parts limit (variable_nodes depth variables) (behaviour_nodes (depth + length variables) inside) shallow in
        subst (BehaviourFits depth) (sym is.2.2)
        (values_under depth variables is.0 is.2.0 (declared_counted signature numbers.variable variables is.0 is.1) parts.0
        (behaviour_fits inside _ _ (depth + length variables) is.2.0 (omega (arith, some)) is.2.1 parts.1))
    behaviour_fits (written_forms.choose_gate place gates inside) scope numbers depth b some is shallow =
        let parts = shallow_parts limit (gate_nodes depth gates) (behaviour_nodes (depth + length gates) inside) shallow in
        let follow : resolved is.0 ≡ choices_follow scope.gates numbers.gate gates =
        beside_of (first_double (placed_choices gates)) (choices_follow scope.gates numbers.gate gates) is.0 is.1 in
        subst (BehaviourFits depth) (sym is.2.2)
        (gates_under depth gates is.0 scope.gates numbers.gate is.2.0 follow parts.0
        (behaviour_fits inside _ _ (depth + length gates) is.2.0 (omega (arith, some)) is.2.1 parts.1))
    behaviour_fits (written_forms.par_gate place gates sign inside) scope numbers depth b some is shallow =
        let parts = shallow_parts limit (gate_nodes depth gates) (behaviour_nodes (depth + length gates) inside) shallow in
        let choices = made_of (choices_at scope.gates numbers.gate gates) _ is.0 is.1 in
        let meets = made_of (signs_follow scope.gates numbers.gate sign gates) _ is.0 choices.2 in
        let follow : resolved choices.0 ≡ choices_follow scope.gates numbers.gate gates =
        beside_of (first_double (placed_choices gates)) (choices_follow scope.gates numbers.gate gates) choices.0 choices.1 in
        let pars = same_resolved is.0 (with_signs choices.0 meets.0) meets.2 in
        subst (BehaviourFits depth) (sym (is.2.2 ∙ ap (λ ps. under_par ps is.2.0) pars))
        (pars_under depth sign gates choices.0 meets.0 scope.gates numbers.gate is.2.0 follow meets.1 parts.0
        (behaviour_fits inside _ _ (depth + length gates) is.2.0 (omega (arith, some)) is.2.1 parts.1))
    behaviour_fits (written_forms.binary place sign left right) scope numbers depth b some is shallow =
        let parts = shallow_parts limit (behaviour_nodes (depth + 1) left) (node_at place depth ∷ behaviour_nodes (depth + 1) right)
        shallow in
        let head = shallow_head limit depth place (behaviour_nodes (depth + 1) right) parts.1 in
        sign_fits depth sign scope (past left numbers) is.0 b (λ inside behind. BehaviourIs signature inside behind right)
        (λ inside behind c right_is. behaviour_fits right inside behind (depth + 1) c (omega arith) right_is head.1) head.0
        (behaviour_fits left scope numbers (depth + 1) is.0 (omega arith) is.1 parts.0) is.2
