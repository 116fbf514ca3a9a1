-- What a text stands for binds gates and variables in the order of the text, each with the next number.
use Rattle.std.proofs.Common.{◌≡◌, ℕ, ◌+◌, List, [], ◌∷◌, ◌++◌, length, slice_get, Option, Some, refl, ap, sym, ◌∙◌, subst, arith, append_assoc, length-append}
use Rattle.lotos_base.specs.Signature.{Signature}
use Rattle.lotos_base.specs.Equation.{Place, Variable}
use Rattle.syntax_trees.specs.WrittenVariable.{WrittenVariable}
use Rattle.syntax_trees.specs.WrittenBehaviour as written
use Rattle.syntax_trees.specs.WrittenBehaviour.{WrittenBehaviour, WrittenSign, WrittenGateChoice, WrittenOffer, offer_value, offer_variable, choice_sign, interleaving, full_synchronisation, synchronising, disabling, enabling}
use Rattle.syntax_trees.specs.WrittenDefinition.{WrittenHeading, WrittenInner, WrittenInners, inner_item, process, no_inner, inner_then, inners_of, WrittenSpecification}
use Rattle.behaviour_semantics.specs.Behaviour.{Behaviour, stop, Process, Specification, asked_variables, let_variables}
use Rattle.scope_parts.specs.Resolution.{Resolution, resolved, faulty, and_then}
use Rattle.scope_parts.specs.Scope.{Binding, Callable, Scope, first_double}
use Rattle.scope_parts.specs.Numbering.{Numbers, spelled_names, each_once, asked_for, accepted, choice_names, gates_in, variable_count, past, own_gates, inner_gates, inners_gates, past_own, past_inner, past_inners}
use Rattle.scope_parts.specs.Sorts.{variables_at, functionality_at}
use Rattle.scope_parts.specs.Terms.{let_names}
use Rattle.scope_parts.specs.Choices.{choices_follow, placed_choices}
use Rattle.scope_parts.specs.Behaviours.{numbers_from, SignIs, BehaviourIs}
use Rattle.scope_parts.specs.Definitions.{Heading, heading_at, formal_gates, DefinitionIs, InnerIs, InnersAre, past_name, first_numbers, declared_gates, specification_with}
use Rattle.scope_parts.proofs.FormedLists.{same_resolved, beside_of}
use Rattle.declaration_laws.specs.DeclarationOrder.{declared_variables_in, inner_variables, inners_variables, declared_variables, gates_bound, variables_bound, process_gates, process_variables, all_gates_of, all_variables_of, HasGateNumber, HasVariableNumber, IsInOrderOfText, DeclarationsHaveTheNextNumber}
use Rattle.declaration_laws.proofs.FollowLemmas.{Gates, Variables, chosen, signed_gates, more_gates, more_variables, names_follow, spelled_follow, spelled_long, listed_variables, let_made, let_long, listed_offers, choices_made, pars_made, names_long, gates_under, variables_under, gates_under_par, variables_under_par, gates_under_values, variables_under_values, follow_at}

-- ---- How many variables a behaviour declares

pub count_is : (w : WrittenBehaviour) → variable_count w ≡ length (declared_variables_in w)
count_is (written.stop place) = refl
count_is (written.exit place values) = refl
count_is (written.call place name gates values) = refl
count_is (written.action place gate offers test next) =
    ap (λ (n : ℕ). length (asked_for offers) + n) (count_is next) ∙ sym (length-append (asked_for offers) (declared_variables_in next))
count_is (written.inner_action place next) = count_is next
count_is (written.guard place test next) = count_is next
count_is (written.hide place gates inside) = count_is inside
count_is (written.let_be place values inside) =
    let long = let_long values in
    let more = count_is inside in
    let all = length-append (let_names values) (declared_variables_in inside) in
    omega (arith, long, more, all)
count_is (written.choose_value place variables inside) =
    ap (λ (n : ℕ). length variables + n) (count_is inside) ∙ sym (length-append variables (declared_variables_in inside))
count_is (written.choose_gate place gates inside) = count_is inside
count_is (written.par_gate place gates sign inside) = count_is inside
count_is (written.binary place sign left right) =
    let first = count_is left in
    let second = count_is right in
    let all = length-append (declared_variables_in left) (accepted sign ++ declared_variables_in right) in
    let behind = length-append (accepted sign) (declared_variables_in right) in
    omega (arith, first, second, all, behind)

-- ---- Behaviours

pub record IsMade (numbers : Numbers) (w : WrittenBehaviour) (b : Behaviour) : Type 0 where
  pub gates : Gates numbers.gate (gates_in w) (gates_bound b)
  pub variables : Variables numbers.variable (declared_variables_in w) (variables_bound b)

module _ (signature : Signature) where
  -- two behaviours, one behind the other
  two_made : (numbers : Numbers) (left right : WrittenBehaviour) (b c : Behaviour) → IsMade numbers left b
      → IsMade (past left numbers) right c
      → Gates numbers.gate (gates_in left ++ gates_in right) (gates_bound b ++ gates_bound c)
      × Variables numbers.variable (declared_variables_in left ++ declared_variables_in right) (variables_bound b ++ variables_bound c)
  two_made numbers left right b c first second = (
    more_gates numbers.gate (past left numbers).gate (gates_in left) (gates_in right) (gates_bound b) (gates_bound c) refl first.gates
        second.gates,
    more_variables numbers.variable (past left numbers).variable (declared_variables_in left) (declared_variables_in right)
        (variables_bound b)
        (variables_bound c) (ap (λ (n : ℕ). numbers.variable + n) (count_is left)) first.variables second.variables,
  )

  sign_made : (scope : Scope) (numbers : Numbers) (place : Place) (sign : WrittenSign) (left right : WrittenBehaviour) (first b : Behaviour)
      → ((inside : Scope) (behind : Numbers) (c : Behaviour) → BehaviourIs signature inside behind right (resolved c)
      → IsMade behind right c)
      → IsMade numbers left first
      → SignIs signature scope (past left numbers) sign first (λ inside behind. BehaviourIs signature inside behind right) (resolved b)
      → IsMade numbers (written.binary place sign left right) b
  sign_made scope numbers place choice_sign left right first b rights made is =
      let both = two_made numbers left right first is.0 made (rights scope (past left numbers) is.0 is.1) in
      subst (IsMade numbers (written.binary place choice_sign left right)) (sym is.2) (record { gates = both.0; variables = both.1 })
  sign_made scope numbers place interleaving left right first b rights made is =
      let both = two_made numbers left right first is.0 made (rights scope (past left numbers) is.0 is.1) in
      subst (IsMade numbers (written.binary place interleaving left right)) (sym is.2) (record { gates = both.0; variables = both.1 })
  sign_made scope numbers place full_synchronisation left right first b rights made is =
      let both = two_made numbers left right first is.0 made (rights scope (past left numbers) is.0 is.1) in
      subst (IsMade numbers (written.binary place full_synchronisation left right)) (sym is.2)
      (record { gates = both.0; variables = both.1 })
  sign_made scope numbers place (synchronising given) left right first b rights made is =
      let both = two_made numbers left right first is.2.0 made (rights scope (past left numbers) is.2.0 is.2.1) in
      subst (IsMade numbers (written.binary place (synchronising given) left right)) (sym is.2.2)
      (record { gates = both.0; variables = both.1 })
  sign_made scope numbers place disabling left right first b rights made is =
      let both = two_made numbers left right first is.0 made (rights scope (past left numbers) is.0 is.1) in
      subst (IsMade numbers (written.binary place disabling left right)) (sym is.2) (record { gates = both.0; variables = both.1 })
  sign_made scope numbers place (enabling given) left right first b rights made is =
      let second = rights _ _ is.2.0 is.2.1 in
      subst (IsMade numbers (written.binary place (enabling given) left right)) (sym is.2.2) (record {
        gates =
            more_gates numbers.gate (past left numbers).gate (gates_in left) (gates_in right) (gates_bound first)
            (gates_bound is.2.0) refl made.gates second.gates;
        variables =
            more_variables numbers.variable (past left numbers).variable (declared_variables_in left) (given ++ declared_variables_in right)
            (variables_bound first) (is.0 ++ variables_bound is.2.0) (ap (λ (n : ℕ). numbers.variable + n) (count_is left))
            made.variables
            (more_variables (past left numbers).variable ((past left numbers).variable + length given) given
            (declared_variables_in right) is.0
            (variables_bound is.2.0) refl (listed_variables signature (past left numbers).variable given is.0 is.1) second.variables);
      })

  pub behaviour_made : (w : WrittenBehaviour) (scope : Scope) (numbers : Numbers) (b : Behaviour)
      → BehaviourIs signature scope numbers w (resolved b) → IsMade numbers w b
  behaviour_made (written.stop place) scope numbers b is =
      subst (IsMade numbers (written.stop place)) (sym (same_resolved b stop is)) (record { gates = tt; variables = tt })
  behaviour_made (written.exit place values) scope numbers b is =
      subst (IsMade numbers (written.exit place values)) (sym is.2) (record { gates = tt; variables = tt })
  behaviour_made (written.call place name gates values) scope numbers b is =
      subst (IsMade numbers (written.call place name gates values)) (sym is.2.2.2) (record { gates = tt; variables = tt })
  behaviour_made (written.action place gate offers test next) scope numbers b is =
      let inner = behaviour_made next _ _ is.2.2.2.0 is.2.2.2.1 in
      subst (IsMade numbers (written.action place gate offers test next)) (sym is.2.2.2.2) (record {
        gates = inner.gates;
        variables =
            more_variables numbers.variable (numbers.variable + length (asked_for offers)) (asked_for offers) (declared_variables_in next)
            (asked_variables is.2.0) (variables_bound is.2.2.2.0) refl
            (listed_offers signature scope.variables numbers.variable offers is.2.0 is.2.1) inner.variables;
      })
  behaviour_made (written.inner_action place next) scope numbers b is =
      let inner = behaviour_made next scope numbers is.0 is.1 in
      subst (IsMade numbers (written.inner_action place next)) (sym is.2) (record { gates = inner.gates; variables = inner.variables })
  behaviour_made (written.guard place test next) scope numbers b is =
      let inner = behaviour_made next scope numbers is.2.0 is.2.1 in
      subst (IsMade numbers (written.guard place test next)) (sym is.2.2) (record { gates = inner.gates; variables = inner.variables })
  behaviour_made (written.hide place gates inside) scope numbers b is =
      let inner = behaviour_made inside _ _ is.0 is.1 in
      let names : List (List ℕ) = each_once (spelled_names gates) in
      subst (IsMade numbers (written.hide place gates inside)) (sym is.2) (record {
        gates =
            more_gates numbers.gate (numbers.gate + length names) names (gates_in inside) (numbers_from numbers.gate names)
            (gates_bound is.0) refl (names_follow numbers.gate names) inner.gates;
        variables = inner.variables;
      })
  behaviour_made (written.let_be place values inside) scope numbers b is =
      let inner = behaviour_made inside _ _ is.2.0 is.2.1 in
      subst (IsMade numbers (written.let_be place values inside)) (sym is.2.2) (record {
        gates = inner.gates;
        variables =
            more_variables numbers.variable (numbers.variable + length values) (let_names values) (declared_variables_in inside)
            (let_variables is.0) (variables_bound is.2.0) (ap (λ (n : ℕ). numbers.variable + n) (let_long values))
            (let_made signature scope.variables numbers.variable values is.0 is.1) inner.variables;
      })
  behaviour_made (written.choose_value place given inside) scope numbers b is =
      let inner = behaviour_made inside _ _ is.2.0 is.2.1 in
      subst (IsMade numbers (written.choose_value place given inside)) (sym is.2.2) (record {
        gates = subst (Gates numbers.gate (gates_in inside)) (sym (gates_under_values is.0 is.2.0)) inner.gates;
        variables = subst (Variables numbers.variable (given ++ declared_variables_in inside)) (sym (variables_under_values is.0 is.2.0))
            (more_variables numbers.variable (numbers.variable + length given) given (declared_variables_in inside) is.0
            (variables_bound is.2.0) refl (listed_variables signature numbers.variable given is.0 is.1) inner.variables);
      })
  behaviour_made (written.choose_gate place gates inside) scope numbers b is =
      let inner = behaviour_made inside _ _ is.2.0 is.2.1 in
      let follow =
      beside_of (first_double (placed_choices gates)) (choices_follow scope.gates numbers.gate gates) is.0 is.1 in
      subst (IsMade numbers (written.choose_gate place gates inside)) (sym is.2.2) (record {
        gates = subst (Gates numbers.gate (choice_names gates ++ gates_in inside)) (sym (gates_under is.0 is.2.0))
            (more_gates numbers.gate (numbers.gate + length gates) (choice_names gates) (gates_in inside) (chosen is.0)
            (gates_bound is.2.0) (ap (λ (n : ℕ). numbers.gate + n) (names_long gates))
            (choices_made gates scope.gates numbers.gate is.0 follow) inner.gates);
        variables = subst (Variables numbers.variable (declared_variables_in inside)) (sym (variables_under is.0 is.2.0)) inner.variables;
      })
  behaviour_made (written.par_gate place gates sign inside) scope numbers b is =
      let inner = behaviour_made inside _ _ is.2.0 is.2.1 in
      subst (IsMade numbers (written.par_gate place gates sign inside)) (sym is.2.2) (record {
        gates = subst (Gates numbers.gate (choice_names gates ++ gates_in inside)) (sym (gates_under_par is.0 is.2.0))
            (more_gates numbers.gate (numbers.gate + length gates) (choice_names gates) (gates_in inside) (signed_gates is.0)
            (gates_bound is.2.0) (ap (λ (n : ℕ). numbers.gate + n) (names_long gates))
            (pars_made scope.gates numbers.gate sign gates is.0 is.1) inner.gates);
        variables =
            subst (Variables numbers.variable (declared_variables_in inside)) (sym (variables_under_par is.0 is.2.0)) inner.variables;
      })
  behaviour_made (written.binary place sign left right) scope numbers b is =
      sign_made scope numbers place sign left right is.0 b (λ inside behind c there. behaviour_made right inside behind c there)
      (behaviour_made left scope numbers is.0 is.1) is.2

  -- ---- Definitions

  record IsHeadingMade (numbers : Numbers) (heading : WrittenHeading) (found : Heading) : Type 0 where
    pub gates : Gates numbers.gate (spelled_names heading.gates) found.gates
    pub variables : Variables numbers.variable heading.parameters found.parameters

  heading_made : (numbers : Numbers) (heading : WrittenHeading) (found : Heading) → resolved found ≡ heading_at signature numbers heading
      → IsHeadingMade numbers heading found
  heading_made numbers heading found is =
      by (formal_gates numbers.gate heading.gates) refl (variables_at signature numbers.variable heading.parameters) refl
      (functionality_at signature heading.functionality) is
    where
      by : (gates : Resolution (List ℕ)) → formal_gates numbers.gate heading.gates ≡ gates → (variables : Resolution (List Variable))
          → variables_at signature numbers.variable heading.parameters ≡ variables → (exit : Resolution (Option (List ℕ)))
          → resolved found
          ≡ and_then gates (λ gates. and_then variables (λ parameters. and_then exit
          (λ exit. resolved (record { gates = gates; parameters = parameters; exit = exit }))))
          → IsHeadingMade numbers heading found
      by (resolved gates) first (resolved variables) second (resolved exit) is =
          let same = same_resolved found (record { gates = gates; parameters = variables; exit = exit }) is in
          let counted : gates ≡ numbers_from numbers.gate heading.gates =
          same_resolved gates (numbers_from numbers.gate heading.gates)
          (beside_of (first_double heading.gates) (resolved (numbers_from numbers.gate heading.gates)) gates (sym first)) in
          subst (IsHeadingMade numbers heading) (sym same) (record {
            gates = subst (Gates numbers.gate (spelled_names heading.gates)) (sym counted) (spelled_follow numbers.gate heading.gates);
            variables = listed_variables signature numbers.variable heading.parameters variables (sym second);
          })
      by (resolved gates) first (resolved variables) second (faulty fault) is = absurd (cc is)
      by (resolved gates) first (faulty fault) second exit is = absurd (cc is)
      by (faulty fault) first variables second exit is = absurd (cc is)

  -- a definition beside its own `where`
  pub record IsDefinitionMade (numbers : Numbers) (heading : WrittenHeading) (body : WrittenBehaviour) (made : Heading × Behaviour)
      : Type 0 where
    pub gates : Gates numbers.gate (own_gates heading body) (made.0.gates ++ gates_bound made.1)
    pub variables : Variables numbers.variable (heading.parameters ++ declared_variables_in body)
        (made.0.parameters ++ variables_bound made.1)

  pub definition_made : (processes : List Callable) (numbers : Numbers) (heading : WrittenHeading) (body : WrittenBehaviour)
      (made : Heading × Behaviour) → DefinitionIs signature processes numbers heading body (resolved made)
      → IsDefinitionMade numbers heading body made
  definition_made processes numbers heading body made is =
      let front = heading_made numbers heading is.0 is.1 in
      let inner = behaviour_made body _ _ is.2.0 is.2.1 in
      subst (IsDefinitionMade numbers heading body) (sym is.2.2) (record {
        gates =
            more_gates numbers.gate (numbers.gate + length heading.gates) (spelled_names heading.gates) (gates_in body) is.0.gates
            (gates_bound is.2.0) (ap (λ (n : ℕ). numbers.gate + n) (spelled_long heading.gates)) front.gates inner.gates;
        variables =
            more_variables numbers.variable (numbers.variable + length heading.parameters) heading.parameters (declared_variables_in body)
            is.0.parameters (variables_bound is.2.0) refl front.variables inner.variables;
      })

  -- the numbers behind it
  pub own_gate : (numbers : Numbers) (heading : WrittenHeading) (body : WrittenBehaviour)
      → (past_own heading body numbers).gate ≡ numbers.gate + length (own_gates heading body)
  own_gate numbers heading body =
      let long = spelled_long heading.gates in
      let all = length-append (spelled_names heading.gates) (gates_in body) in
      omega (arith, long, all)

  pub own_variable : (numbers : Numbers) (heading : WrittenHeading) (body : WrittenBehaviour)
      → (past_own heading body numbers).variable ≡ numbers.variable + length (heading.parameters ++ declared_variables_in body)
  own_variable numbers heading body =
      let count = count_is body in
      let all = length-append heading.parameters (declared_variables_in body) in
      omega (arith, count, all)

  mutual
    pub inner_gate : (w : WrittenInner) (numbers : Numbers) → (past_inner w numbers).gate ≡ numbers.gate + length (inner_gates w)
    inner_gate (inner_item item) numbers = omega arith
    inner_gate (process heading body inner) numbers =
        let own = own_gate (past_name numbers) heading body in
        let more = inners_gate inner (past_own heading body (past_name numbers)) in
        let all = length-append (own_gates heading body) (inners_gates inner) in
        omega (arith, own, more, all)

    pub inners_gate : (ws : WrittenInners) (numbers : Numbers) → (past_inners ws numbers).gate ≡ numbers.gate + length (inners_gates ws)
    inners_gate no_inner numbers = omega arith
    inners_gate (inner_then inner others) numbers =
        let first = inner_gate inner numbers in
        let more = inners_gate others (past_inner inner numbers) in
        let all = length-append (inner_gates inner) (inners_gates others) in
        omega (arith, first, more, all)

  mutual
    pub inner_variable : (w : WrittenInner) (numbers : Numbers)
        → (past_inner w numbers).variable ≡ numbers.variable + length (inner_variables w)
    inner_variable (inner_item item) numbers = omega arith
    inner_variable (process heading body inner) numbers =
        let own = own_variable (past_name numbers) heading body in
        let more = inners_variable inner (past_own heading body (past_name numbers)) in
        let all = length-append (heading.parameters ++ declared_variables_in body) (inners_variables inner) in
        omega (arith, own, more, all)

    pub inners_variable : (ws : WrittenInners) (numbers : Numbers)
        → (past_inners ws numbers).variable ≡ numbers.variable + length (inners_variables ws)
    inners_variable no_inner numbers = omega arith
    inners_variable (inner_then inner others) numbers =
        let first = inner_variable inner numbers in
        let more = inners_variable others (past_inner inner numbers) in
        let all = length-append (inner_variables inner) (inners_variables others) in
        omega (arith, first, more, all)

  gates_joined : (ps qs : List Process) → process_gates (ps ++ qs) ≡ process_gates ps ++ process_gates qs
  gates_joined [] qs = refl
  gates_joined (p ∷ ps) qs =
      ap (λ (gs : List ℕ). (p.gates ++ gates_bound p.body) ++ gs) (gates_joined ps qs)
      ∙ sym (append_assoc (p.gates ++ gates_bound p.body) (process_gates ps) (process_gates qs))

  variables_joined : (ps qs : List Process) → process_variables (ps ++ qs) ≡ process_variables ps ++ process_variables qs
  variables_joined [] qs = refl
  variables_joined (p ∷ ps) qs =
      ap (λ (vs : List Variable). (p.parameters ++ variables_bound p.body) ++ vs) (variables_joined ps qs)
      ∙ sym (append_assoc (p.parameters ++ variables_bound p.body) (process_variables ps) (process_variables qs))

  -- processes of a `where`
  pub record AreMade (numbers : Numbers) (gates : List (List ℕ)) (variables : List WrittenVariable) (ps : List Process) : Type 0 where
    pub gates_are : Gates numbers.gate gates (process_gates ps)
    pub variables_are : Variables numbers.variable variables (process_variables ps)

  mutual
    pub inner_made : (w : WrittenInner) (visible : List Callable) (before : List Binding) (numbers : Numbers) (ps : List Process)
        → InnerIs signature visible before numbers w (resolved ps) → AreMade numbers (inner_gates w) (inner_variables w) ps
    inner_made (inner_item item) visible before numbers ps is =
        subst (AreMade numbers [] []) (sym (same_resolved ps [] is)) (record { gates_are = tt; variables_are = tt })
    inner_made (process heading body inner) visible before numbers ps is =
        let own = definition_made _ (past_name numbers) heading body is.2.0 is.2.1 in
        let more = inners_made inner _ _ (past_own heading body (past_name numbers)) is.2.2.0 is.2.2.1 in
        subst (AreMade numbers (inner_gates (process heading body inner)) (inner_variables (process heading body inner))) (sym is.2.2.2)
        (record {
          gates_are =
              more_gates numbers.gate (past_own heading body (past_name numbers)).gate (own_gates heading body) (inners_gates inner)
              (is.2.0.0.gates ++ gates_bound is.2.0.1) (process_gates is.2.2.0) (own_gate (past_name numbers) heading body) own.gates
              more.gates_are;
          variables_are =
              more_variables numbers.variable (past_own heading body (past_name numbers)).variable
              (heading.parameters ++ declared_variables_in body) (inners_variables inner) (is.2.0.0.parameters ++ variables_bound is.2.0.1)
              (process_variables is.2.2.0) (own_variable (past_name numbers) heading body) own.variables more.variables_are;
        })

    pub inners_made : (ws : WrittenInners) (visible : List Callable) (before : List Binding) (numbers : Numbers) (ps : List Process)
        → InnersAre signature visible before numbers ws (resolved ps) → AreMade numbers (inners_gates ws) (inners_variables ws) ps
    inners_made no_inner visible before numbers ps is =
        subst (AreMade numbers [] []) (sym (same_resolved ps [] is)) (record { gates_are = tt; variables_are = tt })
    inners_made (inner_then inner others) visible before numbers ps is =
        let first = inner_made inner visible before numbers is.0 is.1 in
        let more = inners_made others visible _ (past_inner inner numbers) is.2.0 is.2.1 in
        subst (AreMade numbers (inner_gates inner ++ inners_gates others) (inner_variables inner ++ inners_variables others))
        (sym is.2.2) (record {
          gates_are = subst (Gates numbers.gate (inner_gates inner ++ inners_gates others)) (sym (gates_joined is.0 is.2.0))
              (more_gates numbers.gate (past_inner inner numbers).gate (inner_gates inner) (inners_gates others) (process_gates is.0)
              (process_gates is.2.0) (inner_gate inner numbers) first.gates_are more.gates_are);
          variables_are = subst (Variables numbers.variable (inner_variables inner ++ inners_variables others))
              (sym (variables_joined is.0 is.2.0))
              (more_variables numbers.variable (past_inner inner numbers).variable (inner_variables inner) (inners_variables others)
              (process_variables is.0) (process_variables is.2.0) (inner_variable inner numbers) first.variables_are more.variables_are);
        })

-- ---- The specification

gates_apart : (names : List (List ℕ)) (gates : List ℕ) → Gates 0 names gates → (i j n : ℕ) → slice_get gates i ≡ Some n
    → slice_get gates j ≡ Some n → i ≡ j
gates_apart names gates are i j n one other =
    let here = follow_at (List ℕ) ℕ HasGateNumber 0 names gates i n are one in
    let there = follow_at (List ℕ) ℕ HasGateNumber 0 names gates j n are other in
    omega (arith, here.1, there.1)

variables_apart : (ws : List WrittenVariable) (xs : List Variable) → Variables 0 ws xs → (i j : ℕ) (v w : Variable)
    → slice_get xs i ≡ Some v → slice_get xs j ≡ Some w → v.number ≡ w.number → i ≡ j
variables_apart ws xs are i j v w one other same =
    let here = follow_at WrittenVariable Variable HasVariableNumber 0 ws xs i v are one in
    let there = follow_at WrittenVariable Variable HasVariableNumber 0 ws xs j w are other in
    omega (arith, here.1.0, there.1.0, same)

ordered : (text : WrittenSpecification) (specification : Specification) → specification.gate_names ≡ declared_gates text
    → Gates 0 (declared_gates text) (all_gates_of specification)
    → Variables 0 (declared_variables text) (all_variables_of specification) → IsInOrderOfText text specification
ordered text specification names gates variables = record {
  gate_names = names;
  gates = gates;
  variables = variables;
  gates_differ = gates_apart (declared_gates text) (all_gates_of specification) gates;
  variables_differ = variables_apart (declared_variables text) (all_variables_of specification) variables;
}

pub declarations_have_the_next_number : DeclarationsHaveTheNextNumber
declarations_have_the_next_number signature text specification is =
    let own = definition_made signature _ first_numbers text.heading text.body is.0 is.1 in
    let behind : Numbers = past_own text.heading text.body first_numbers in
    let more = inners_made signature (inners_of text.inner) _ _ behind is.2.0 is.2.1 in
    subst (IsInOrderOfText text) (sym is.2.2) (ordered text (specification_with text is.0 is.2.0) refl
    (more_gates 0 behind.gate (own_gates text.heading text.body) (inners_gates (inners_of text.inner))
    (is.0.0.gates ++ gates_bound is.0.1) (process_gates is.2.0) (own_gate signature first_numbers text.heading text.body) own.gates
    more.gates_are)
    (more_variables 0 behind.variable (text.heading.parameters ++ declared_variables_in text.body) (inners_variables (inners_of text.inner))
    (is.0.0.parameters ++ variables_bound is.0.1) (process_variables is.2.0)
    (own_variable signature first_numbers text.heading text.body) own.variables more.variables_are))
