-- Where the faults of behaviours and of definitions stand.
use Rattle.std.proofs.Common.{ℕ, suc, List, [], ◌∷◌, ◌++◌, length, inl, inr, ap}
use Rattle.std.specs.Prelude.{◌⊎◌, Option, None, Some}
use Rattle.lotos_base.specs.Equation.{Place, Variable}
use Rattle.lotos_base.specs.Signature.{Signature}
use Rattle.lotos_base.specs.WrittenTerm.{PlacedName, WrittenTerm}
use Rattle.syntax_trees.specs.WrittenVariable.{WrittenVariable}
use Rattle.syntax_trees.specs.WrittenEquation.{WrittenPremiss}
use Rattle.syntax_trees.specs.WrittenBehaviour as written
use Rattle.syntax_trees.specs.WrittenBehaviour.{WrittenBehaviour, WrittenOffer, WrittenSign, choice_sign, interleaving, full_synchronisation, synchronising, disabling, enabling}
use Rattle.syntax_trees.specs.WrittenDefinition.{WrittenHeading, WrittenInner, WrittenInners, inner_item, process, no_inner, inner_then}
use Rattle.behaviour_semantics.specs.Behaviour.{Offer, asked_variables, let_variables}
use Rattle.scope_parts.specs.ScopeFault.{ScopeFault, fault_place}
use Rattle.scope_parts.specs.Resolution.{Resolution, faulty}
use Rattle.scope_parts.specs.Terms.{TestOptionIs}
use Rattle.lotos_base.specs.Term.{Term}
use Rattle.scope_parts.specs.Scope.{Scope, Callable, Binding, callable_named}
use Rattle.scope_parts.specs.Numbering.{Numbers, spelled_names, each_once, asked_for, choice_names, past_gates, past_variables, past, past_heading, past_own, past_inner}
use Rattle.scope_parts.specs.Behaviours.{with_gates, with_variables}
use Rattle.scope_parts.specs.Definitions.{callables, with_name, past_name}
use Rattle.scope_parts.specs.Order.{joined_places}
use Rattle.scope_parts.specs.TermPlaces.{name_places, premiss_places}
use Rattle.scope_parts.specs.PartPlaces.{variable_places, value_places, let_places, offers_places, choice_places, sign_places}
use Rattle.scope_parts.specs.PartFaults.{Seeing}
use Rattle.scope_parts.specs.BehaviourFaults.{CalledHas, ArgumentsHave, CallHas, BehindSign, HasFault}
use Rattle.scope_parts.specs.BehaviourPlaces.{test_places, behaviour_places}
use Rattle.scope_parts.specs.TextFaults.{FunctionalityHas, HeadingHas, body_scope, DefinitionHas, InnerHas, InnersHave}
use Rattle.scope_parts.specs.TextOrder.{functionality_places, heading_places, definition_places, inner_places, inners_places}
use Rattle.scope_parts.proofs.OrderLemmas.{in_left, in_right}
use Rattle.scope_parts.proofs.TellsLemmas.{Within}
use Rattle.scope_parts.proofs.DoubledLemmas.{doubled_within}
use Rattle.scope_parts.proofs.TermsWithin.{test_within, test_option_within}
use Rattle.scope_parts.proofs.PartsWithin.{gate_place, gates_within, sorts_within, variables_within, exit_values_within, values_within, let_within, offers_within, choices_within, signs_within}

-- one list and then another
pub both_within : {One Other : ScopeFault → Type 0} (ps qs : List Place) → Within One ps → Within Other qs
    → Within (λ f. One f ⊎ Other f) (ps ++ qs)
both_within ps qs one other f (inl h) = in_left (fault_place f) ps qs (one f h)
both_within ps qs one other f (inr h) = in_right (fault_place f) ps qs (other f h)

-- what sees an answer
pub seeing_within : {A : Type 0} (Question : Resolution A → Type 0) (Has : A → ScopeFault → Type 0) (ps : List Place)
    → ((x : A) → Within (Has x) ps) → Within (Seeing Question Has) ps
seeing_within Question Has ps within f k = within k.0 f k.2

pub called_within : (place : Place) (name : List ℕ) (gates values : ℕ) (found : Option Callable)
    → Within (CalledHas place name gates values found) (place ∷ [])
called_within place name gates values None f h = inl (ap fault_place h)
called_within place name gates values (Some called) f (inl h) = inl (ap fault_place h.1)
called_within place name gates values (Some called) f (inr h) = inl (ap fault_place h.1)

pub arguments_within : (signature : Signature) (scope : List Variable) (found : Option Callable) (values : List WrittenTerm)
    → Within (ArgumentsHave signature scope found values) (joined_places (value_places values))
arguments_within signature scope None values f h = absurd h
arguments_within signature scope (Some called) values f h = values_within signature scope called.sorts values f h

call_within : (signature : Signature) (scope : Scope) (place : Place) (name : List ℕ) (gates : List PlacedName) (values : List WrittenTerm)
    → Within (CallHas signature scope place name gates values) (place ∷ (name_places gates ++ joined_places (value_places values)))
call_within signature scope place name gates values =
    both_within (place ∷ []) (name_places gates ++ joined_places (value_places values))
    (called_within place name (length gates) (length values) (callable_named scope.processes name))
    (both_within (name_places gates) (joined_places (value_places values)) (gates_within scope.gates gates)
    (arguments_within signature scope.variables (callable_named scope.processes name) values))

pub sign_behind_within : (signature : Signature) (scope : Scope) (numbers : Numbers) (sign : WrittenSign)
    (Right : Scope → Numbers → ScopeFault → Type 0) (ps : List Place) → ((s : Scope) (n : Numbers) → Within (Right s n) ps)
    → Within (BehindSign signature scope numbers sign Right) (sign_places sign ++ ps)
sign_behind_within signature scope numbers choice_sign Right ps right f h = right scope numbers f h
sign_behind_within signature scope numbers interleaving Right ps right f h = right scope numbers f h
sign_behind_within signature scope numbers full_synchronisation Right ps right f h = right scope numbers f h
sign_behind_within signature scope numbers (synchronising names) Right ps right f h =
    both_within (name_places names) ps (gates_within scope.gates names) (right scope numbers) f h
sign_behind_within signature scope numbers disabling Right ps right f h = right scope numbers f h
sign_behind_within signature scope numbers (enabling accepted) Right ps right f (inl h) =
    in_left (fault_place f) (variable_places accepted) ps (variables_within signature numbers.variable accepted f h)
sign_behind_within signature scope numbers (enabling accepted) Right ps right f (inr h) =
    in_right (fault_place f) (variable_places accepted) ps
    (right (with_variables h.0 scope) (past_variables (length accepted) numbers) f h.2)

pub behaviour_within : (signature : Signature) (scope : Scope) (numbers : Numbers) (b : WrittenBehaviour)
    → Within (HasFault signature scope numbers b) (behaviour_places b)
behaviour_within signature scope numbers (written.stop place) f h = absurd h
behaviour_within signature scope numbers (written.exit place values) f h = exit_values_within signature scope.variables values f h
behaviour_within signature scope numbers (written.call place name gates values) f h =
    call_within signature scope place name gates values f h
behaviour_within signature scope numbers (written.action place gate offers test next) f (inl h) =
    inl (gate_place scope.gates (record { place = place; name = gate }) f h)
behaviour_within signature scope numbers (written.action place gate offers test next) f (inr (inl h)) =
    inr (in_left (fault_place f) (offers_places offers) (test_places test ++ behaviour_places next)
    (offers_within signature scope.variables numbers.variable offers f h))
behaviour_within signature scope numbers (written.action place gate offers test next) f (inr (inr h)) =
    inr (in_right (fault_place f) (offers_places offers) (test_places test ++ behaviour_places next)
    (both_within (test_places test) (behaviour_places next)
    (test_option_within signature (with_variables (asked_variables h.0) scope).variables test)
    (behaviour_within signature (with_variables (asked_variables h.0) scope) (past_variables (length (asked_for offers)) numbers) next)
    f h.2))
behaviour_within signature scope numbers (written.inner_action place next) f h = behaviour_within signature scope numbers next f h
behaviour_within signature scope numbers (written.guard place test next) f h =
    both_within (premiss_places test) (behaviour_places next) (test_within signature scope.variables test)
    (behaviour_within signature scope numbers next) f h
behaviour_within signature scope numbers (written.hide place gates inside) f h =
    behaviour_within signature (with_gates (each_once (spelled_names gates)) numbers.gate scope)
    (past_gates (length (each_once (spelled_names gates))) numbers) inside f h
behaviour_within signature scope numbers (written.let_be place values inside) f (inl h) =
    in_left (fault_place f) (let_places values) (behaviour_places inside) (let_within signature scope.variables numbers.variable values f h)
behaviour_within signature scope numbers (written.let_be place values inside) f (inr h) =
    in_right (fault_place f) (let_places values) (behaviour_places inside)
    (behaviour_within signature (with_variables (let_variables h.0) scope) (past_variables (length values) numbers) inside f h.2)
behaviour_within signature scope numbers (written.choose_value place variables inside) f (inl h) =
    in_left (fault_place f) (variable_places variables) (behaviour_places inside)
    (variables_within signature numbers.variable variables f h)
behaviour_within signature scope numbers (written.choose_value place variables inside) f (inr h) =
    in_right (fault_place f) (variable_places variables) (behaviour_places inside)
    (behaviour_within signature (with_variables h.0 scope) (past_variables (length variables) numbers) inside f h.2)
behaviour_within signature scope numbers (written.choose_gate place gates inside) f h =
    both_within (choice_places gates) (behaviour_places inside) (choices_within scope.gates numbers.gate gates)
    (behaviour_within signature (with_gates (choice_names gates) numbers.gate scope) (past_gates (length gates) numbers) inside) f h
behaviour_within signature scope numbers (written.par_gate place gates sign inside) f h =
    both_within (choice_places gates ++ sign_places sign) (behaviour_places inside)
    (both_within (choice_places gates) (sign_places sign) (choices_within scope.gates numbers.gate gates)
    (signs_within scope.gates numbers.gate sign gates))
    (behaviour_within signature (with_gates (choice_names gates) numbers.gate scope) (past_gates (length gates) numbers) inside) f h
behaviour_within signature scope numbers (written.binary place sign left right) f h =
    both_within (behaviour_places left) (sign_places sign ++ behaviour_places right) (behaviour_within signature scope numbers left)
    (sign_behind_within signature scope (past left numbers) sign (λ inside behind. HasFault signature inside behind right)
    (behaviour_places right) (λ s n. behaviour_within signature s n right)) f h

-- the parts that see declarations
abbrev pub BehindOffers : Signature → Scope → Numbers → List WrittenOffer → Option WrittenPremiss → WrittenBehaviour → List Offer
    → ScopeFault → Type 0
BehindOffers signature scope numbers offers test next given f =
    TestOptionIs signature (with_variables (asked_variables given) scope).variables test (faulty f)
    ⊎ HasFault signature (with_variables (asked_variables given) scope) (past_variables (length (asked_for offers)) numbers) next f

pub behind_offers_within : (signature : Signature) (scope : Scope) (numbers : Numbers) (offers : List WrittenOffer)
    (test : Option WrittenPremiss) (next : WrittenBehaviour) (given : List Offer)
    → Within (BehindOffers signature scope numbers offers test next given) (test_places test ++ behaviour_places next)
behind_offers_within signature scope numbers offers test next given =
    both_within (test_places test) (behaviour_places next)
    (test_option_within signature (with_variables (asked_variables given) scope).variables test)
    (behaviour_within signature (with_variables (asked_variables given) scope) (past_variables (length (asked_for offers)) numbers) next)

abbrev pub BehindLet : Signature → Scope → Numbers → List (WrittenVariable × WrittenTerm) → WrittenBehaviour → List (Variable × Term)
    → ScopeFault → Type 0
BehindLet signature scope numbers values inside bindings =
    HasFault signature (with_variables (let_variables bindings) scope) (past_variables (length values) numbers) inside

abbrev pub BehindVariables : Signature → Scope → Numbers → List WrittenVariable → WrittenBehaviour → List Variable → ScopeFault → Type 0
BehindVariables signature scope numbers variables inside chosen =
    HasFault signature (with_variables chosen scope) (past_variables (length variables) numbers) inside

-- ---- Definitions

abbrev pub BehindHeading : Signature → List Callable → Numbers → WrittenHeading → WrittenBehaviour → List Variable → ScopeFault → Type 0
BehindHeading signature processes numbers heading body parameters =
    HasFault signature (body_scope processes numbers heading parameters) (past_heading heading numbers) body

pub functionality_within : (signature : Signature) (sorts : Option (List PlacedName))
    → Within (FunctionalityHas signature sorts) (functionality_places sorts)
functionality_within signature None f h = absurd h
functionality_within signature (Some sorts) f h = sorts_within signature sorts f h

pub heading_within : (signature : Signature) (numbers : Numbers) (heading : WrittenHeading)
    → Within (HeadingHas signature numbers heading) (heading_places heading)
heading_within signature numbers heading =
    both_within (name_places heading.gates) (variable_places heading.parameters ++ functionality_places heading.functionality)
    (doubled_within [] heading.gates)
    (both_within (variable_places heading.parameters) (functionality_places heading.functionality)
    (variables_within signature numbers.variable heading.parameters) (functionality_within signature heading.functionality))

pub definition_within : (signature : Signature) (processes : List Callable) (numbers : Numbers) (heading : WrittenHeading)
    (body : WrittenBehaviour) → Within (DefinitionHas signature processes numbers heading body) (definition_places heading body)
definition_within signature processes numbers heading body f (inl h) =
    in_left (fault_place f) (heading_places heading) (behaviour_places body) (heading_within signature numbers heading f h)
definition_within signature processes numbers heading body f (inr h) =
    in_right (fault_place f) (heading_places heading) (behaviour_places body)
    (behaviour_within signature (body_scope processes numbers heading h.0) (past_heading heading numbers) body f h.2)

mutual
  pub inner_within : (signature : Signature) (visible : List Callable) (before : List Binding) (numbers : Numbers) (inner : WrittenInner)
      → Within (InnerHas signature visible before numbers inner) (inner_places inner)
  inner_within signature visible before numbers (inner_item item) f h = absurd h
  inner_within signature visible before numbers (process heading body inner) f (inl h) = inl (ap fault_place h.1)
  inner_within signature visible before numbers (process heading body inner) f (inr h) =
      inr (both_within (definition_places heading body) (inners_places inner)
      (definition_within signature (callables signature (suc numbers.process) inner ++ visible) (past_name numbers) heading body)
      (inners_within signature (callables signature (suc numbers.process) inner ++ visible) [] (past_own heading body (past_name numbers))
      inner) f h)

  pub inners_within : (signature : Signature) (visible : List Callable) (before : List Binding) (numbers : Numbers)
      (inners : WrittenInners) → Within (InnersHave signature visible before numbers inners) (inners_places inners)
  inners_within signature visible before numbers no_inner f h = absurd h
  inners_within signature visible before numbers (inner_then inner others) f h =
      both_within (inner_places inner) (inners_places others) (inner_within signature visible before numbers inner)
      (inners_within signature visible (with_name inner before) (past_inner inner numbers) others) f h
