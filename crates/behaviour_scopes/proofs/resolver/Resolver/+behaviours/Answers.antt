use Rattle.std.proofs.Common.{◌≡◌, ◌+◌, ◌++◌, List, ap, sym, ◌∙◌, subst, length, map}
use Rattle.std.specs.Prelude.{option_map}
use Rattle.scope_parts.proofs.FormedBehaviours.{declared_of}
use Rattle.behaviour_semantics.specs.Behaviour.{Behaviour, action, guard, hide, let_be, choice, parallel, enable, disable, no_gates, all_gates, at_gates, asked_variables, let_variables}
use Rattle.behaviour_tree.specs.BehaviourTerms.{joined, let_profile, offer_profiles, option_profiles, profiles_in}
use Rattle.behaviour_tree.specs.Over.{AreTermsOf}
use Rattle.behaviour_tree.specs.BehaviourView.{behaviour_of, offer_of, let_of, test_of}
use Rattle.behaviour_tree.specs.declared.behaviours.Beh.{Beh}
use Rattle.behaviour_tree.proofs.ClosedLemmas.{terms_both}
use Rattle.lotos_base.specs.Name.{spelling}
use Rattle.lotos_base.specs.WrittenView.{text_place_of}
use Rattle.sort_terms.specs.EquationView.{variable_of}
use Rattle.syntax_trees.specs.TreeViews.{written_behaviour_at, written_behaviour_of as written_behaviour, gate_choices_of, lets_of, written_offer_of as written_offer, placed_names_of, premiss_of, sign_of, written_variables_of}
use Rattle.syntax_trees.specs.WrittenBehaviour as written
use Rattle.syntax_trees.specs.WrittenBehaviour.{WrittenSign, choice_sign, interleaving, full_synchronisation, synchronising, disabling, enabling}
use Rattle.syntax_trees.specs.declared.behaviours.BehForm.{BehForm}
use Rattle.syntax_trees.specs.declared.behaviours.BehText.{BehText}
use Rattle.syntax_trees.specs.declared.behaviours.Sign.{Sign}
use Rattle.lotos_base.specs.Equation.{Variable}
use Rattle.scope_parts.specs.Choices.{under_gates, under_par, under_values}
use Rattle.scope_parts.specs.FaultView.{Answers}
use Rattle.scope_parts.specs.GatesView.{choice_in, gates_in, pars_in}
use Rattle.scope_parts.specs.Numbering.{accepted, asked_for, choice_names, each_once, gates_in as gates_of, spelled_names, variable_count}
use Rattle.scope_parts.specs.Resolution.{Resolution, resolved}
use Rattle.scope_parts.proofs.AnswerLemmas.{err_is, means_map}
use Rattle.scope_parts.proofs.FormedLists.{HaveSorts}
use Rattle.behaviour_scopes.specs.ResolverState.{BehaviourStandsFor, behind_in_state, passed, seeing}
use Rattle.behaviour_scopes.specs.ResolverView.{state_in}
use Rattle.behaviour_scopes.proofs.ResolverLemmas.{knowing, terms_seen, behind_nothing, declares, gates_fit, gates_forgotten, variables_fit, variables_forgotten, let_declared, offers_declare}
use Rattle.behaviour_scopes.proofs.StandingLemmas.{on_ok, sign_value, sign_fault, made_stands, synchronising_stands, enabling_stands, form_value, form_fault, test_fails, action_stands, guard_stands, hide_stands, let_stands, choose_value_stands, choose_gate_stands, par_gate_stands, guard_fault, choose_gate_fault, par_gate_fault, let_fault, choose_value_fault, gate_fault, offers_fault, names_fault, accept_fault, nothing_accepted, binary_answer}
use Rattle.behaviour_scopes.proofs.resolver.Resolver.+behaviours.Goals as goal

pub hide-forget_gates-requires : goal.hide-forget_gates-requires
hide-forget_gates-requires t c =
    let s = state_in c.args.self.now in let inside = written_behaviour c.args.inside.now in let gates = gates_in c.hide_all.new.self in
    let names = each_once (spelled_names (placed_names_of c.args.gates.now.items)) in
    gates_fit s (knowing gates s) (state_in c.behaviour.new.self) names inside c.size-size.result c.size-size.ensures (declares s names
    gates c.in_ok-hidden.ensures.declared) c.in_ok-behaviour.ensures.passed

pub hide-returns-clause-passed : goal.hide-returns-clause-passed
hide-returns-clause-passed t c =
    let s = state_in c.args.self.now in let inside = written_behaviour c.args.inside.now in let gates = gates_in c.hide_all.new.self in
    let names = each_once (spelled_names (placed_names_of c.args.gates.now.items)) in
    gates_forgotten s (knowing gates s) (state_in c.behaviour.new.self) (state_in c.forget_gates.new.self) names inside
    c.size-size.result c.size-size.ensures (declares s names gates c.in_ok-hidden.ensures.declared) c.in_ok-behaviour.ensures.passed
    c.forget_gates.ensures

pub hide-returns-clause-read : goal.hide-returns-clause-read
hide-returns-clause-read t c =
    let s = state_in c.args.self.now in let inside = written_behaviour c.args.inside.now in let gates = gates_in c.hide_all.new.self in
    let names = each_once (spelled_names (placed_names_of c.args.gates.now.items)) in
    form_value s (knowing gates s) (written.hide (text_place_of c.args.place) (placed_names_of c.args.gates.now.items) inside) inside
    (hide c.in_ok-hidden.hidden.items) (λ (o : Resolution Behaviour). hide_stands s (knowing gates s) (text_place_of c.args.place)
    (placed_names_of c.args.gates.now.items) inside c.in_ok-hidden.hidden.items o c.in_ok-hidden.ensures.numbers (declares s names gates
    c.in_ok-hidden.ensures.declared)) (behaviour_of c.in_ok-behaviour.field-0) (hide c.in_ok-hidden.hidden.items (behaviour_of
    c.in_ok-within.within.value)) (ap (λ (x : Beh). hide c.in_ok-hidden.hidden.items (behaviour_of x)) c.in_ok-within.ensures)
    c.in_ok-behaviour.ensures.read

pub hide-returns-in_err-behaviour-clause-read : goal.hide-returns-in_err-behaviour-clause-read
hide-returns-in_err-behaviour-clause-read t c =
    let s = state_in c.args.self.now in let inside = written_behaviour c.args.inside.now in let gates = gates_in c.hide_all.new.self in
    let names = each_once (spelled_names (placed_names_of c.args.gates.now.items)) in
    form_fault s (knowing gates s) (written.hide (text_place_of c.args.place) (placed_names_of c.args.gates.now.items) inside) inside
    (hide c.in_ok-hidden.hidden.items) (λ (o : Resolution Behaviour). hide_stands s (knowing gates s) (text_place_of c.args.place)
    (placed_names_of c.args.gates.now.items) inside c.in_ok-hidden.hidden.items o c.in_ok-hidden.ensures.numbers (declares s names gates
    c.in_ok-hidden.ensures.declared)) c.from_residual-in_err-behaviour.result c.in_err-behaviour.field-0.0
    c.from_residual-in_err-behaviour.ensures.1 c.in_err-behaviour.ensures.read

pub choose_gate-forget_gates-requires : goal.choose_gate-forget_gates-requires
choose_gate-forget_gates-requires t c =
    let s = state_in c.args.self.now in let inside = written_behaviour c.args.inside.now in let gates = gates_in c.choices.new.self in
    let names = choice_names (gate_choices_of c.args.gates.now.items) in
    gates_fit s (knowing gates s) (state_in c.behaviour.new.self) names inside c.size-size.result c.size-size.ensures (declares s names
    gates c.in_ok-choices.ensures.declared) c.in_ok-within.ensures.passed

pub choose_gate-returns-clause-passed : goal.choose_gate-returns-clause-passed
choose_gate-returns-clause-passed t c =
    let s = state_in c.args.self.now in let inside = written_behaviour c.args.inside.now in let gates = gates_in c.choices.new.self in
    let names = choice_names (gate_choices_of c.args.gates.now.items) in
    gates_forgotten s (knowing gates s) (state_in c.behaviour.new.self) (state_in c.forget_gates.new.self) names inside
    c.size-size.result c.size-size.ensures (declares s names gates c.in_ok-choices.ensures.declared) c.in_ok-within.ensures.passed
    c.forget_gates.ensures

pub choose_gate-returns-clause-read : goal.choose_gate-returns-clause-read
choose_gate-returns-clause-read t c =
    let s = state_in c.args.self.now in let inside = written_behaviour c.args.inside.now in let gates = gates_in c.choices.new.self in
    let names = choice_names (gate_choices_of c.args.gates.now.items) in
    form_value s (knowing gates s) (written.choose_gate (text_place_of c.args.place) (gate_choices_of c.args.gates.now.items) inside)
    inside (under_gates (map choice_in c.in_ok-choices.choices.items)) (λ (o : Resolution Behaviour). choose_gate_stands s (knowing gates
    s) (text_place_of c.args.place) (gate_choices_of c.args.gates.now.items) inside (map choice_in c.in_ok-choices.choices.items) o
    c.in_ok-choices.ensures.read (declares s names gates c.in_ok-choices.ensures.declared)) (behaviour_of c.in_ok-within.within)
    (behaviour_of c.in_ok-under_gates.field-0) c.in_ok-under_gates.ensures.nested c.in_ok-within.ensures.read

pub choose_gate-returns-in_err-within-clause-read : goal.choose_gate-returns-in_err-within-clause-read
choose_gate-returns-in_err-within-clause-read t c =
    let s = state_in c.args.self.now in let inside = written_behaviour c.args.inside.now in let gates = gates_in c.choices.new.self in
    let names = choice_names (gate_choices_of c.args.gates.now.items) in
    form_fault s (knowing gates s) (written.choose_gate (text_place_of c.args.place) (gate_choices_of c.args.gates.now.items) inside)
    inside (under_gates (map choice_in c.in_ok-choices.choices.items)) (λ (o : Resolution Behaviour). choose_gate_stands s (knowing gates
    s) (text_place_of c.args.place) (gate_choices_of c.args.gates.now.items) inside (map choice_in c.in_ok-choices.choices.items) o
    c.in_ok-choices.ensures.read (declares s names gates c.in_ok-choices.ensures.declared)) c.from_residual-in_err-within.result
    c.in_err-within.field-0.0 c.from_residual-in_err-within.ensures.1 c.in_err-within.ensures.read

pub par_gate-forget_gates-requires : goal.par_gate-forget_gates-requires
par_gate-forget_gates-requires t c =
    let s = state_in c.args.self.now in let inside = written_behaviour c.args.inside.now in let gates = gates_in c.pars.new.self in
    let names = choice_names (gate_choices_of c.args.gates.now.items) in
    gates_fit s (knowing gates s) (state_in c.behaviour.new.self) names inside c.size-size.result c.size-size.ensures (declares s names
    gates c.in_ok-pars.ensures.declared) c.in_ok-within.ensures.passed

pub par_gate-returns-clause-passed : goal.par_gate-returns-clause-passed
par_gate-returns-clause-passed t c =
    let s = state_in c.args.self.now in let inside = written_behaviour c.args.inside.now in let gates = gates_in c.pars.new.self in
    let names = choice_names (gate_choices_of c.args.gates.now.items) in
    gates_forgotten s (knowing gates s) (state_in c.behaviour.new.self) (state_in c.forget_gates.new.self) names inside
    c.size-size.result c.size-size.ensures (declares s names gates c.in_ok-pars.ensures.declared) c.in_ok-within.ensures.passed
    c.forget_gates.ensures

pub par_gate-returns-clause-read : goal.par_gate-returns-clause-read
par_gate-returns-clause-read t c =
    let s = state_in c.args.self.now in let inside = written_behaviour c.args.inside.now in let gates = gates_in c.pars.new.self in
    let names = choice_names (gate_choices_of c.args.gates.now.items) in
    form_value s (knowing gates s) (written.par_gate (text_place_of c.args.place) (gate_choices_of c.args.gates.now.items) (sign_of
    c.args.sign.now) inside) inside (under_par (pars_in c.in_ok-pars.pars)) (λ (o : Resolution Behaviour). par_gate_stands s (knowing
    gates s) (text_place_of c.args.place) (gate_choices_of c.args.gates.now.items) (sign_of c.args.sign.now) inside (pars_in
    c.in_ok-pars.pars) o c.in_ok-pars.ensures.read (declares s names gates c.in_ok-pars.ensures.declared)) (behaviour_of
    c.in_ok-within.within) (behaviour_of c.in_ok-under_par.field-0) c.in_ok-under_par.ensures.nested c.in_ok-within.ensures.read

pub par_gate-returns-in_err-within-clause-read : goal.par_gate-returns-in_err-within-clause-read
par_gate-returns-in_err-within-clause-read t c =
    let s = state_in c.args.self.now in let inside = written_behaviour c.args.inside.now in let gates = gates_in c.pars.new.self in
    let names = choice_names (gate_choices_of c.args.gates.now.items) in
    form_fault s (knowing gates s) (written.par_gate (text_place_of c.args.place) (gate_choices_of c.args.gates.now.items) (sign_of
    c.args.sign.now) inside) inside (under_par (pars_in c.in_ok-pars.pars)) (λ (o : Resolution Behaviour). par_gate_stands s (knowing
    gates s) (text_place_of c.args.place) (gate_choices_of c.args.gates.now.items) (sign_of c.args.sign.now) inside (pars_in
    c.in_ok-pars.pars) o c.in_ok-pars.ensures.read (declares s names gates c.in_ok-pars.ensures.declared))
    c.from_residual-in_err-within.result c.in_err-within.field-0.0 c.from_residual-in_err-within.ensures.1 c.in_err-within.ensures.read

pub let_be-see-requires : goal.let_be-see-requires
let_be-see-requires t c =
    let s = state_in c.args.self.now in
    subst (λ (xs : List Variable). HaveSorts s.signature xs) (sym c.in_ok-seen.ensures) (let_declared s.signature s.scope.variables
    s.variable (lets_of c.args.values.now.items) (map let_of c.in_ok-bindings.bindings.items) c.in_ok-bindings.ensures.read).sorted

pub let_be-forget_variables-requires : goal.let_be-forget_variables-requires
let_be-forget_variables-requires t c =
    let s = state_in c.args.self.now in let inside = written_behaviour c.args.inside.now in let between = state_in c.see.new.self in
    let vs = let_variables (map let_of c.in_ok-bindings.bindings.items) in
    let first : between ≡ seeing vs s = c.in_ok-see.ensures ∙ ap (λ (xs : List Variable). seeing xs s) c.in_ok-seen.ensures in
    variables_fit s between (state_in c.behaviour.new.self) vs inside c.size-size.result c.size-size.ensures first
    c.in_ok-behaviour.ensures.passed

pub let_be-returns-clause-passed : goal.let_be-returns-clause-passed
let_be-returns-clause-passed t c =
    let s = state_in c.args.self.now in let inside = written_behaviour c.args.inside.now in let between = state_in c.see.new.self in
    let vs = let_variables (map let_of c.in_ok-bindings.bindings.items) in
    let first : between ≡ seeing vs s = c.in_ok-see.ensures ∙ ap (λ (xs : List Variable). seeing xs s) c.in_ok-seen.ensures in
    variables_forgotten s between (state_in c.behaviour.new.self) (state_in c.forget_variables.new.self) vs inside c.size-size.result
    (length (lets_of c.args.values.now.items)) c.size-size.ensures (let_declared s.signature s.scope.variables s.variable (lets_of
    c.args.values.now.items) (map let_of c.in_ok-bindings.bindings.items) c.in_ok-bindings.ensures.read).counted first
    c.in_ok-behaviour.ensures.passed c.forget_variables.ensures

pub let_be-returns-clause-read : goal.let_be-returns-clause-read
let_be-returns-clause-read t c =
    let s = state_in c.args.self.now in let inside = written_behaviour c.args.inside.now in let between = state_in c.see.new.self in
    let vs = let_variables (map let_of c.in_ok-bindings.bindings.items) in
    let first : between ≡ seeing vs s = c.in_ok-see.ensures ∙ ap (λ (xs : List Variable). seeing xs s) c.in_ok-seen.ensures in
    form_value s between (written.let_be (text_place_of c.args.place) (lets_of c.args.values.now.items) inside) inside (let_be (map
    let_of c.in_ok-bindings.bindings.items)) (λ (o : Resolution Behaviour). let_stands s between (text_place_of c.args.place) (lets_of
    c.args.values.now.items) inside (map let_of c.in_ok-bindings.bindings.items) o c.in_ok-bindings.ensures.read first) (behaviour_of
    c.in_ok-behaviour.field-0) (let_be (map let_of c.in_ok-bindings.bindings.items) (behaviour_of c.in_ok-within.within.value)) (ap (λ (x
    : Beh). let_be (map let_of c.in_ok-bindings.bindings.items) (behaviour_of x)) c.in_ok-within.ensures) c.in_ok-behaviour.ensures.read

pub let_be-returns-in_err-behaviour-clause-read : goal.let_be-returns-in_err-behaviour-clause-read
let_be-returns-in_err-behaviour-clause-read t c =
    let s = state_in c.args.self.now in let inside = written_behaviour c.args.inside.now in let between = state_in c.see.new.self in
    let vs = let_variables (map let_of c.in_ok-bindings.bindings.items) in
    let first : between ≡ seeing vs s = c.in_ok-see.ensures ∙ ap (λ (xs : List Variable). seeing xs s) c.in_ok-seen.ensures in
    form_fault s between (written.let_be (text_place_of c.args.place) (lets_of c.args.values.now.items) inside) inside (let_be (map
    let_of c.in_ok-bindings.bindings.items)) (λ (o : Resolution Behaviour). let_stands s between (text_place_of c.args.place) (lets_of
    c.args.values.now.items) inside (map let_of c.in_ok-bindings.bindings.items) o c.in_ok-bindings.ensures.read first)
    c.from_residual-in_err-behaviour.result c.in_err-behaviour.field-0.0 c.from_residual-in_err-behaviour.ensures.1
    c.in_err-behaviour.ensures.read

pub choose_value-see-requires : goal.choose_value-see-requires
choose_value-see-requires t c =
    let s = state_in c.args.self.now in
    (declared_of s.signature s.variable (written_variables_of c.args.variables.now.items) (map variable_of c.in_ok-chosen.chosen.items)
    c.in_ok-chosen.ensures).sorted

pub choose_value-forget_variables-requires : goal.choose_value-forget_variables-requires
choose_value-forget_variables-requires t c =
    let s = state_in c.args.self.now in let inside = written_behaviour c.args.inside.now in let between = state_in c.see.new.self in
    let vs = map variable_of c.in_ok-chosen.chosen.items in
    let first : between ≡ seeing vs s = c.in_ok-see.ensures in
    variables_fit s between (state_in c.behaviour.new.self) vs inside c.size-size.result c.size-size.ensures first
    c.in_ok-within.ensures.passed

pub choose_value-returns-clause-passed : goal.choose_value-returns-clause-passed
choose_value-returns-clause-passed t c =
    let s = state_in c.args.self.now in let inside = written_behaviour c.args.inside.now in let between = state_in c.see.new.self in
    let vs = map variable_of c.in_ok-chosen.chosen.items in
    let first : between ≡ seeing vs s = c.in_ok-see.ensures in
    variables_forgotten s between (state_in c.behaviour.new.self) (state_in c.forget_variables.new.self) vs inside c.size-size.result
    (length (written_variables_of c.args.variables.now.items)) c.size-size.ensures (declared_of s.signature s.variable (written_variables_of
    c.args.variables.now.items) (map variable_of c.in_ok-chosen.chosen.items) c.in_ok-chosen.ensures).counted first
    c.in_ok-within.ensures.passed c.forget_variables.ensures

pub choose_value-returns-clause-read : goal.choose_value-returns-clause-read
choose_value-returns-clause-read t c =
    let s = state_in c.args.self.now in let inside = written_behaviour c.args.inside.now in let between = state_in c.see.new.self in
    let vs = map variable_of c.in_ok-chosen.chosen.items in
    let first : between ≡ seeing vs s = c.in_ok-see.ensures in
    form_value s between (written.choose_value (text_place_of c.args.place) (written_variables_of c.args.variables.now.items) inside) inside
    (under_values (map variable_of c.in_ok-chosen.chosen.items)) (λ (o : Resolution Behaviour). choose_value_stands s between
    (text_place_of c.args.place) (written_variables_of c.args.variables.now.items) inside (map variable_of c.in_ok-chosen.chosen.items) o
    c.in_ok-chosen.ensures first) (behaviour_of c.in_ok-within.within) (behaviour_of c.in_ok-under_values.field-0)
    c.in_ok-under_values.ensures.nested c.in_ok-within.ensures.read

pub choose_value-returns-in_err-within-clause-read : goal.choose_value-returns-in_err-within-clause-read
choose_value-returns-in_err-within-clause-read t c =
    let s = state_in c.args.self.now in let inside = written_behaviour c.args.inside.now in let between = state_in c.see.new.self in
    let vs = map variable_of c.in_ok-chosen.chosen.items in
    let first : between ≡ seeing vs s = c.in_ok-see.ensures in
    form_fault s between (written.choose_value (text_place_of c.args.place) (written_variables_of c.args.variables.now.items) inside) inside
    (under_values (map variable_of c.in_ok-chosen.chosen.items)) (λ (o : Resolution Behaviour). choose_value_stands s between
    (text_place_of c.args.place) (written_variables_of c.args.variables.now.items) inside (map variable_of c.in_ok-chosen.chosen.items) o
    c.in_ok-chosen.ensures first) c.from_residual-in_err-within.result c.in_err-within.field-0.0 c.from_residual-in_err-within.ensures.1
    c.in_err-within.ensures.read

pub action-see-requires : goal.action-see-requires
action-see-requires t c =
    let s = state_in c.args.self.now in
    subst (λ (xs : List Variable). HaveSorts s.signature xs) (sym c.in_ok-seen.ensures) (offers_declare s.signature s.scope.variables
    s.variable (map written_offer c.args.offers.now.items) (map offer_of c.in_ok-given.given.items) c.in_ok-given.ensures.read).sorted

pub action-forget_variables-requires : goal.action-forget_variables-requires
action-forget_variables-requires t c =
    let s = state_in c.args.self.now in let inside = written_behaviour c.args.next.now in let between = state_in c.see.new.self in
    let vs = asked_variables (map offer_of c.in_ok-given.given.items) in
    let first : between ≡ seeing vs s = c.in_ok-see.ensures ∙ ap (λ (xs : List Variable). seeing xs s) c.in_ok-seen.ensures in
    variables_fit s between (state_in c.behaviour.new.self) vs inside c.size-size.result c.size-size.ensures first
    c.in_ok-behaviour.ensures.passed

pub action-returns-clause-passed : goal.action-returns-clause-passed
action-returns-clause-passed t c =
    let s = state_in c.args.self.now in let inside = written_behaviour c.args.next.now in let between = state_in c.see.new.self in
    let vs = asked_variables (map offer_of c.in_ok-given.given.items) in
    let first : between ≡ seeing vs s = c.in_ok-see.ensures ∙ ap (λ (xs : List Variable). seeing xs s) c.in_ok-seen.ensures in
    variables_forgotten s between (state_in c.behaviour.new.self) (state_in c.forget_variables.new.self) vs inside c.size-size.result
    (length (asked_for (map written_offer c.args.offers.now.items))) c.size-size.ensures (offers_declare s.signature s.scope.variables
    s.variable (map written_offer c.args.offers.now.items) (map offer_of c.in_ok-given.given.items) c.in_ok-given.ensures.read).counted
    first c.in_ok-behaviour.ensures.passed c.forget_variables.ensures

pub action-returns-clause-read : goal.action-returns-clause-read
action-returns-clause-read t c =
    let s = state_in c.args.self.now in let inside = written_behaviour c.args.next.now in let between = state_in c.see.new.self in
    let vs = asked_variables (map offer_of c.in_ok-given.given.items) in
    let first : between ≡ seeing vs s = c.in_ok-see.ensures ∙ ap (λ (xs : List Variable). seeing xs s) c.in_ok-seen.ensures in
    form_value s between (written.action (text_place_of c.args.place) (spelling c.args.gate.now) (map written_offer
    c.args.offers.now.items) (option_map premiss_of c.args.test.now) inside) inside (action c.in_ok-number.number (map offer_of
    c.in_ok-given.given.items) (option_map test_of c.in_ok-predicate.predicate)) (λ (o : Resolution Behaviour). action_stands s between
    (text_place_of c.args.place) (spelling c.args.gate.now) (map written_offer c.args.offers.now.items) (option_map premiss_of
    c.args.test.now) inside c.in_ok-number.number (map offer_of c.in_ok-given.given.items) (option_map test_of
    c.in_ok-predicate.predicate) o c.in_ok-number.ensures c.in_ok-given.ensures.read first c.in_ok-predicate.ensures.read) (behaviour_of
    c.in_ok-behaviour.field-0) (action c.in_ok-number.number (map offer_of c.in_ok-given.given.items) (option_map test_of
    c.in_ok-predicate.predicate) (behaviour_of c.in_ok-behind.behind.value)) (ap (λ (x : Beh). action c.in_ok-number.number (map offer_of
    c.in_ok-given.given.items) (option_map test_of c.in_ok-predicate.predicate) (behaviour_of x)) c.in_ok-behind.ensures)
    c.in_ok-behaviour.ensures.read

pub action-returns-in_err-behaviour-clause-read : goal.action-returns-in_err-behaviour-clause-read
action-returns-in_err-behaviour-clause-read t c =
    let s = state_in c.args.self.now in let inside = written_behaviour c.args.next.now in let between = state_in c.see.new.self in
    let vs = asked_variables (map offer_of c.in_ok-given.given.items) in
    let first : between ≡ seeing vs s = c.in_ok-see.ensures ∙ ap (λ (xs : List Variable). seeing xs s) c.in_ok-seen.ensures in
    form_fault s between (written.action (text_place_of c.args.place) (spelling c.args.gate.now) (map written_offer
    c.args.offers.now.items) (option_map premiss_of c.args.test.now) inside) inside (action c.in_ok-number.number (map offer_of
    c.in_ok-given.given.items) (option_map test_of c.in_ok-predicate.predicate)) (λ (o : Resolution Behaviour). action_stands s between
    (text_place_of c.args.place) (spelling c.args.gate.now) (map written_offer c.args.offers.now.items) (option_map premiss_of
    c.args.test.now) inside c.in_ok-number.number (map offer_of c.in_ok-given.given.items) (option_map test_of
    c.in_ok-predicate.predicate) o c.in_ok-number.ensures c.in_ok-given.ensures.read first c.in_ok-predicate.ensures.read)
    c.from_residual-in_err-behaviour.result c.in_err-behaviour.field-0.0 c.from_residual-in_err-behaviour.ensures.1
    c.in_err-behaviour.ensures.read

pub action-returns-in_err-predicate-clause-read : goal.action-returns-in_err-predicate-clause-read
action-returns-in_err-predicate-clause-read t c =
    let s = state_in c.args.self.now in let between = state_in c.see.new.self in
    let first : between ≡ seeing (asked_variables (map offer_of c.in_ok-given.given.items)) s = c.in_ok-see.ensures ∙ ap (λ (xs : List
    Variable). seeing xs s) c.in_ok-seen.ensures in
    err_is behaviour_of c.from_residual-in_err-predicate.result c.in_err-predicate.field-0.0 _ c.from_residual-in_err-predicate.ensures.1
    (means_map c.in_err-predicate.field-0.0 _ _ (λ f fails. test_fails s between (text_place_of c.args.place) (spelling c.args.gate.now)
    (map written_offer c.args.offers.now.items) (option_map premiss_of c.args.test.now) (written_behaviour c.args.next.now)
    c.in_ok-number.number (map offer_of c.in_ok-given.given.items) f c.in_ok-number.ensures c.in_ok-given.ensures.read first fails)
    c.in_err-predicate.ensures.read)

pub guard-returns-clause-read : goal.guard-returns-clause-read
guard-returns-clause-read t c =
    let s = state_in c.args.self.now in let premiss = test_of c.in_ok-premiss.premiss in
    let whole = written.guard (text_place_of c.args.place) (premiss_of c.args.test.now) (written_behaviour c.args.next.now) in
    form_value s s whole (written_behaviour c.args.next.now) (guard premiss) (λ (o : Resolution Behaviour). guard_stands s (text_place_of
    c.args.place) (premiss_of c.args.test.now) (written_behaviour c.args.next.now) premiss o c.in_ok-premiss.ensures.read) (behaviour_of
    c.in_ok-behaviour.field-0) (guard premiss (behaviour_of c.in_ok-behind.behind.value)) (ap (λ (x : Beh). guard premiss (behaviour_of
    x)) c.in_ok-behind.ensures) c.in_ok-behaviour.ensures.read

pub guard-returns-in_err-behaviour-clause-read : goal.guard-returns-in_err-behaviour-clause-read
guard-returns-in_err-behaviour-clause-read t c =
    let s = state_in c.args.self.now in let premiss = test_of c.in_ok-premiss.premiss in
    let whole = written.guard (text_place_of c.args.place) (premiss_of c.args.test.now) (written_behaviour c.args.next.now) in
    form_fault s s whole (written_behaviour c.args.next.now) (guard premiss) (λ (o : Resolution Behaviour). guard_stands s (text_place_of
    c.args.place) (premiss_of c.args.test.now) (written_behaviour c.args.next.now) premiss o c.in_ok-premiss.ensures.read)
    c.from_residual-in_err-behaviour.result c.in_err-behaviour.field-0.0 c.from_residual-in_err-behaviour.ensures.1
    c.in_err-behaviour.ensures.read

pub action-returns-clause-profiles : goal.action-returns-clause-profiles
action-returns-clause-profiles t c =
    let s = state_in c.args.self.now in let between = state_in c.see.new.self in
    let first : between ≡ seeing (asked_variables (map offer_of c.in_ok-given.given.items)) s = c.in_ok-see.ensures ∙ ap (λ (xs : List
    Variable). seeing xs s) c.in_ok-seen.ensures in
    let vs = asked_variables (map offer_of c.in_ok-given.given.items) in
    let kept : AreTermsOf s.signature (profiles_in c.in_ok-behind.behind.value) = subst (λ (x : Beh). AreTermsOf s.signature (profiles_in
    x)) (sym c.in_ok-behind.ensures) (terms_seen s between vs (profiles_in c.in_ok-behaviour.field-0) first
    c.in_ok-behaviour.ensures.profiles) in
    let offered = joined (map offer_profiles c.in_ok-given.given.items) in let tested = option_profiles c.in_ok-predicate.predicate in
    terms_both s.signature (offered ++ tested) (profiles_in c.in_ok-behind.behind.value) (terms_both s.signature offered tested
    c.in_ok-given.ensures.profiles (terms_seen s between vs tested first c.in_ok-predicate.ensures.profiles)) kept

pub let_be-returns-clause-profiles : goal.let_be-returns-clause-profiles
let_be-returns-clause-profiles t c =
    let s = state_in c.args.self.now in let between = state_in c.see.new.self in
    let first : between ≡ seeing (let_variables (map let_of c.in_ok-bindings.bindings.items)) s = c.in_ok-see.ensures ∙ ap (λ (xs : List
    Variable). seeing xs s) c.in_ok-seen.ensures in
    terms_both s.signature (map let_profile c.in_ok-bindings.bindings.items) (profiles_in c.in_ok-within.within.value)
    c.in_ok-bindings.ensures.profiles (subst (λ (x : Beh). AreTermsOf s.signature (profiles_in x)) (sym c.in_ok-within.ensures)
    (terms_seen s between (let_variables (map let_of c.in_ok-bindings.bindings.items)) (profiles_in c.in_ok-behaviour.field-0) first
    c.in_ok-behaviour.ensures.profiles))

pub choose_value-returns-clause-profiles : goal.choose_value-returns-clause-profiles
choose_value-returns-clause-profiles t c =
    let s = state_in c.args.self.now in
    subst (AreTermsOf s.signature) (sym c.in_ok-under_values.ensures.profiles) (terms_seen s (state_in c.see.new.self) (map variable_of
    c.in_ok-chosen.chosen.items) (profiles_in c.in_ok-within.within) c.in_ok-see.ensures c.in_ok-within.ensures.profiles)

pub choose_gate-returns-in_err-choices-clause-read : goal.choose_gate-returns-in_err-choices-clause-read
choose_gate-returns-in_err-choices-clause-read t c =
    choose_gate_fault (state_in c.args.self.now) (text_place_of c.args.place) (gate_choices_of c.args.gates.now.items) (written_behaviour
    c.args.inside.now) c.from_residual.result c.in_err-choices.field-0.0 c.from_residual.ensures.1 c.in_err-choices.ensures.read

pub par_gate-returns-in_err-pars-clause-read : goal.par_gate-returns-in_err-pars-clause-read
par_gate-returns-in_err-pars-clause-read t c =
    par_gate_fault (state_in c.args.self.now) (text_place_of c.args.place) (gate_choices_of c.args.gates.now.items) (sign_of
    c.args.sign.now) (written_behaviour c.args.inside.now) c.from_residual.result c.in_err-pars.field-0.0 c.from_residual.ensures.1
    c.in_err-pars.ensures.read

pub let_be-returns-in_err-bindings-clause-read : goal.let_be-returns-in_err-bindings-clause-read
let_be-returns-in_err-bindings-clause-read t c =
    let_fault (state_in c.args.self.now) (text_place_of c.args.place) (lets_of c.args.values.now.items) (written_behaviour
    c.args.inside.now) c.from_residual.result c.in_err-bindings.field-0.0 c.from_residual.ensures.1 c.in_err-bindings.ensures.read

pub choose_value-returns-in_err-chosen-clause-read : goal.choose_value-returns-in_err-chosen-clause-read
choose_value-returns-in_err-chosen-clause-read t c =
    choose_value_fault (state_in c.args.self.now) (text_place_of c.args.place) (written_variables_of c.args.variables.now.items)
    (written_behaviour c.args.inside.now) c.from_residual.result c.in_err-chosen.field-0.0 c.from_residual.ensures.1
    c.in_err-chosen.ensures

pub action-returns-in_err-number-clause-read : goal.action-returns-in_err-number-clause-read
action-returns-in_err-number-clause-read t c =
    gate_fault (state_in c.args.self.now) (text_place_of c.args.place) (spelling c.args.gate.now) (map written_offer
    c.args.offers.now.items) (option_map premiss_of c.args.test.now) (written_behaviour c.args.next.now) c.from_residual.result
    c.in_err-number.field-0.0 c.from_residual.ensures.1 c.in_err-number.ensures

pub action-returns-in_err-given-clause-read : goal.action-returns-in_err-given-clause-read
action-returns-in_err-given-clause-read t c =
    offers_fault (state_in c.args.self.now) (text_place_of c.args.place) (spelling c.args.gate.now) (map written_offer
    c.args.offers.now.items) (option_map premiss_of c.args.test.now) (written_behaviour c.args.next.now) c.in_ok-number.number
    c.from_residual-in_err-given.result c.in_err-given.field-0.0 c.in_ok-number.ensures c.from_residual-in_err-given.ensures.1
    c.in_err-given.ensures.read

pub guard-returns-in_err-premiss-clause-read : goal.guard-returns-in_err-premiss-clause-read
guard-returns-in_err-premiss-clause-read t c =
    guard_fault (state_in c.args.self.now) (text_place_of c.args.place) (premiss_of c.args.test.now) (written_behaviour c.args.next.now)
    c.from_residual.result c.in_err-premiss.field-0.0 c.from_residual.ensures.1 c.in_err-premiss.ensures.read

pub signed-returns-in_ok-right-in-Choice-clause-read : goal.signed-returns-in_ok-right-in-Choice-clause-read
signed-returns-in_ok-right-in-Choice-clause-read t c =
    let s = state_in c.args.self.now in let right = written_behaviour c.args.right.now in let left = behaviour_of c.args.left.value in
    sign_value s s (sign_of c.args.sign.now) choice_sign left right (choice left) (λ (o : Resolution Behaviour). made_stands s right
    (choice left) o) (ap sign_of c.in-Choice.is) (behaviour_of c.in_ok-behaviour-in-Choice.field-0) (choice left (behaviour_of
    c.in_ok-right-in-Choice.right.value)) (ap (λ (x : Beh). choice left (behaviour_of x)) c.in_ok-right-in-Choice.ensures)
    c.in_ok-behaviour-in-Choice.ensures.read

pub signed-returns-in_err-behaviour-in-Choice-clause-read : goal.signed-returns-in_err-behaviour-in-Choice-clause-read
signed-returns-in_err-behaviour-in-Choice-clause-read t c =
    let s = state_in c.args.self.now in let right = written_behaviour c.args.right.now in let left = behaviour_of c.args.left.value in
    sign_fault s s (sign_of c.args.sign.now) choice_sign left right (choice left) (λ (o : Resolution Behaviour). made_stands s right
    (choice left) o) (ap sign_of c.in-Choice.is) c.from_residual.result c.in_err-behaviour-in-Choice.field-0.0 c.from_residual.ensures.1
    c.in_err-behaviour-in-Choice.ensures.read

pub signed-returns-in_ok-right-in-Choice-clause-passed : goal.signed-returns-in_ok-right-in-Choice-clause-passed
signed-returns-in_ok-right-in-Choice-clause-passed t c =
    nothing_accepted (state_in c.args.self.now) _ (sign_of c.args.sign.now) (written_behaviour c.args.right.now) (ap (λ (x : Sign).
    length (accepted (sign_of x))) c.in-Choice.is) c.in_ok-behaviour-in-Choice.ensures.passed

pub signed-returns-in_ok-right-in-Interleave-clause-read : goal.signed-returns-in_ok-right-in-Interleave-clause-read
signed-returns-in_ok-right-in-Interleave-clause-read t c =
    let s = state_in c.args.self.now in let right = written_behaviour c.args.right.now in let left = behaviour_of c.args.left.value in
    sign_value s s (sign_of c.args.sign.now) interleaving left right (parallel no_gates left) (λ (o : Resolution Behaviour). made_stands
    s right (parallel no_gates left) o) (ap sign_of c.in-Interleave.is) (behaviour_of c.in_ok-behaviour-in-Interleave.field-0) (parallel
    no_gates left (behaviour_of c.in_ok-right-in-Interleave.right.value)) (ap (λ (x : Beh). parallel no_gates left (behaviour_of x))
    c.in_ok-right-in-Interleave.ensures) c.in_ok-behaviour-in-Interleave.ensures.read

pub signed-returns-in_err-behaviour-in-Interleave-clause-read : goal.signed-returns-in_err-behaviour-in-Interleave-clause-read
signed-returns-in_err-behaviour-in-Interleave-clause-read t c =
    let s = state_in c.args.self.now in let right = written_behaviour c.args.right.now in let left = behaviour_of c.args.left.value in
    sign_fault s s (sign_of c.args.sign.now) interleaving left right (parallel no_gates left) (λ (o : Resolution Behaviour). made_stands
    s right (parallel no_gates left) o) (ap sign_of c.in-Interleave.is) c.from_residual-in_err-behaviour-in-Interleave.result
    c.in_err-behaviour-in-Interleave.field-0.0 c.from_residual-in_err-behaviour-in-Interleave.ensures.1
    c.in_err-behaviour-in-Interleave.ensures.read

pub signed-returns-in_ok-right-in-Interleave-clause-passed : goal.signed-returns-in_ok-right-in-Interleave-clause-passed
signed-returns-in_ok-right-in-Interleave-clause-passed t c =
    nothing_accepted (state_in c.args.self.now) _ (sign_of c.args.sign.now) (written_behaviour c.args.right.now) (ap (λ (x : Sign).
    length (accepted (sign_of x))) c.in-Interleave.is) c.in_ok-behaviour-in-Interleave.ensures.passed

pub signed-returns-in_ok-right-in-Full-clause-read : goal.signed-returns-in_ok-right-in-Full-clause-read
signed-returns-in_ok-right-in-Full-clause-read t c =
    let s = state_in c.args.self.now in let right = written_behaviour c.args.right.now in let left = behaviour_of c.args.left.value in
    sign_value s s (sign_of c.args.sign.now) full_synchronisation left right (parallel all_gates left) (λ (o : Resolution Behaviour).
    made_stands s right (parallel all_gates left) o) (ap sign_of c.in-Full.is) (behaviour_of c.in_ok-behaviour-in-Full.field-0) (parallel
    all_gates left (behaviour_of c.in_ok-right-in-Full.right.value)) (ap (λ (x : Beh). parallel all_gates left (behaviour_of x))
    c.in_ok-right-in-Full.ensures) c.in_ok-behaviour-in-Full.ensures.read

pub signed-returns-in_err-behaviour-in-Full-clause-read : goal.signed-returns-in_err-behaviour-in-Full-clause-read
signed-returns-in_err-behaviour-in-Full-clause-read t c =
    let s = state_in c.args.self.now in let right = written_behaviour c.args.right.now in let left = behaviour_of c.args.left.value in
    sign_fault s s (sign_of c.args.sign.now) full_synchronisation left right (parallel all_gates left) (λ (o : Resolution Behaviour).
    made_stands s right (parallel all_gates left) o) (ap sign_of c.in-Full.is) c.from_residual-in_err-behaviour-in-Full.result
    c.in_err-behaviour-in-Full.field-0.0 c.from_residual-in_err-behaviour-in-Full.ensures.1 c.in_err-behaviour-in-Full.ensures.read

pub signed-returns-in_ok-right-in-Full-clause-passed : goal.signed-returns-in_ok-right-in-Full-clause-passed
signed-returns-in_ok-right-in-Full-clause-passed t c =
    nothing_accepted (state_in c.args.self.now) _ (sign_of c.args.sign.now) (written_behaviour c.args.right.now) (ap (λ (x : Sign).
    length (accepted (sign_of x))) c.in-Full.is) c.in_ok-behaviour-in-Full.ensures.passed

pub signed-returns-in_ok-right-in-Disable-clause-read : goal.signed-returns-in_ok-right-in-Disable-clause-read
signed-returns-in_ok-right-in-Disable-clause-read t c =
    let s = state_in c.args.self.now in let right = written_behaviour c.args.right.now in let left = behaviour_of c.args.left.value in
    sign_value s s (sign_of c.args.sign.now) disabling left right (disable left) (λ (o : Resolution Behaviour). made_stands s right
    (disable left) o) (ap sign_of c.in-Disable.is) (behaviour_of c.in_ok-behaviour-in-Disable.field-0) (disable left (behaviour_of
    c.in_ok-right-in-Disable.right.value)) (ap (λ (x : Beh). disable left (behaviour_of x)) c.in_ok-right-in-Disable.ensures)
    c.in_ok-behaviour-in-Disable.ensures.read

pub signed-returns-in_err-behaviour-in-Disable-clause-read : goal.signed-returns-in_err-behaviour-in-Disable-clause-read
signed-returns-in_err-behaviour-in-Disable-clause-read t c =
    let s = state_in c.args.self.now in let right = written_behaviour c.args.right.now in let left = behaviour_of c.args.left.value in
    sign_fault s s (sign_of c.args.sign.now) disabling left right (disable left) (λ (o : Resolution Behaviour). made_stands s right
    (disable left) o) (ap sign_of c.in-Disable.is) c.from_residual-in_err-behaviour-in-Disable.result
    c.in_err-behaviour-in-Disable.field-0.0 c.from_residual-in_err-behaviour-in-Disable.ensures.1
    c.in_err-behaviour-in-Disable.ensures.read

pub signed-returns-in_ok-right-in-Disable-clause-passed : goal.signed-returns-in_ok-right-in-Disable-clause-passed
signed-returns-in_ok-right-in-Disable-clause-passed t c =
    nothing_accepted (state_in c.args.self.now) _ (sign_of c.args.sign.now) (written_behaviour c.args.right.now) (ap (λ (x : Sign).
    length (accepted (sign_of x))) c.in-Disable.is) c.in_ok-behaviour-in-Disable.ensures.passed

pub signed-returns-in_ok-right-in-Gates-clause-read : goal.signed-returns-in_ok-right-in-Gates-clause-read
signed-returns-in_ok-right-in-Gates-clause-read t c =
    let s = state_in c.args.self.now in let right = written_behaviour c.args.right.now in let left = behaviour_of c.args.left.value in
    sign_value s s (sign_of c.args.sign.now) (synchronising (placed_names_of c.in-Gates.names.items)) left right (parallel (at_gates
    c.in_ok-gates-in-Gates.gates.items) left) (λ (o : Resolution Behaviour). synchronising_stands s (placed_names_of
    c.in-Gates.names.items) left right c.in_ok-gates-in-Gates.gates.items o c.in_ok-gates-in-Gates.ensures) (ap sign_of c.in-Gates.is)
    (behaviour_of c.in_ok-behaviour-in-Gates.field-0) (parallel (at_gates c.in_ok-gates-in-Gates.gates.items) left (behaviour_of
    c.in_ok-right-in-Gates.right.value)) (ap (λ (x : Beh). parallel (at_gates c.in_ok-gates-in-Gates.gates.items) left (behaviour_of x))
    c.in_ok-right-in-Gates.ensures) c.in_ok-behaviour-in-Gates.ensures.read

pub signed-returns-in_err-behaviour-in-Gates-clause-read : goal.signed-returns-in_err-behaviour-in-Gates-clause-read
signed-returns-in_err-behaviour-in-Gates-clause-read t c =
    let s = state_in c.args.self.now in let right = written_behaviour c.args.right.now in let left = behaviour_of c.args.left.value in
    sign_fault s s (sign_of c.args.sign.now) (synchronising (placed_names_of c.in-Gates.names.items)) left right (parallel (at_gates
    c.in_ok-gates-in-Gates.gates.items) left) (λ (o : Resolution Behaviour). synchronising_stands s (placed_names_of
    c.in-Gates.names.items) left right c.in_ok-gates-in-Gates.gates.items o c.in_ok-gates-in-Gates.ensures) (ap sign_of c.in-Gates.is)
    c.from_residual-in_err-behaviour-in-Gates.result c.in_err-behaviour-in-Gates.field-0.0
    c.from_residual-in_err-behaviour-in-Gates.ensures.1 c.in_err-behaviour-in-Gates.ensures.read

pub signed-returns-in_ok-right-in-Gates-clause-passed : goal.signed-returns-in_ok-right-in-Gates-clause-passed
signed-returns-in_ok-right-in-Gates-clause-passed t c =
    nothing_accepted (state_in c.args.self.now) _ (sign_of c.args.sign.now) (written_behaviour c.args.right.now) (ap (λ (x : Sign).
    length (accepted (sign_of x))) c.in-Gates.is) c.in_ok-behaviour-in-Gates.ensures.passed

pub signed-returns-in_err-gates-in-Gates-clause-read : goal.signed-returns-in_err-gates-in-Gates-clause-read
signed-returns-in_err-gates-in-Gates-clause-read t c =
    names_fault (state_in c.args.self.now) (sign_of c.args.sign.now) (placed_names_of c.in-Gates.names.items) (behaviour_of
    c.args.left.value) (written_behaviour c.args.right.now) c.from_residual-in_err-gates-in-Gates.result
    c.in_err-gates-in-Gates.field-0.0 (ap sign_of c.in-Gates.is) c.from_residual-in_err-gates-in-Gates.ensures.1
    c.in_err-gates-in-Gates.ensures

pub signed-see-requires : goal.signed-see-requires
signed-see-requires t c =
    let s = state_in c.args.self.now in
    (declared_of s.signature s.variable (written_variables_of c.in-Enable.accepted.items) (map variable_of
    c.in_ok-seen-in-Enable.seen.items) c.in_ok-seen-in-Enable.ensures).sorted

pub signed-forget_variables-requires : goal.signed-forget_variables-requires
signed-forget_variables-requires t c =
    let s = state_in c.args.self.now in let right = written_behaviour c.args.right.now in let left = behaviour_of c.args.left.value in
    let between = state_in c.see.new.self in
    variables_fit s between (state_in c.behaviour-in-Enable.new.self) (map variable_of c.in_ok-seen-in-Enable.seen.items) right
    c.size-size.result c.size-size.ensures c.in_ok-see-in-Enable.ensures c.in_ok-behaviour-in-Enable.ensures.passed

pub signed-returns-in_ok-right-in-Enable-clause-read : goal.signed-returns-in_ok-right-in-Enable-clause-read
signed-returns-in_ok-right-in-Enable-clause-read t c =
    let s = state_in c.args.self.now in let right = written_behaviour c.args.right.now in let left = behaviour_of c.args.left.value in
    let between = state_in c.see.new.self in
    sign_value s between (sign_of c.args.sign.now) (enabling (written_variables_of c.in-Enable.accepted.items)) left right (enable left (map
    variable_of c.in_ok-seen-in-Enable.seen.items)) (λ (o : Resolution Behaviour). enabling_stands s between (written_variables_of
    c.in-Enable.accepted.items) left right (map variable_of c.in_ok-seen-in-Enable.seen.items) o c.in_ok-seen-in-Enable.ensures
    c.in_ok-see-in-Enable.ensures) (ap sign_of c.in-Enable.is) (behaviour_of c.in_ok-behaviour-in-Enable.field-0) (enable left (map
    variable_of c.in_ok-seen-in-Enable.seen.items) (behaviour_of c.in_ok-right-in-Enable.right.value)) (ap (λ (x : Beh). enable left (map
    variable_of c.in_ok-seen-in-Enable.seen.items) (behaviour_of x)) c.in_ok-right-in-Enable.ensures)
    c.in_ok-behaviour-in-Enable.ensures.read

pub signed-returns-in_err-behaviour-in-Enable-clause-read : goal.signed-returns-in_err-behaviour-in-Enable-clause-read
signed-returns-in_err-behaviour-in-Enable-clause-read t c =
    let s = state_in c.args.self.now in let right = written_behaviour c.args.right.now in let left = behaviour_of c.args.left.value in
    let between = state_in c.see.new.self in
    sign_fault s between (sign_of c.args.sign.now) (enabling (written_variables_of c.in-Enable.accepted.items)) left right (enable left (map
    variable_of c.in_ok-seen-in-Enable.seen.items)) (λ (o : Resolution Behaviour). enabling_stands s between (written_variables_of
    c.in-Enable.accepted.items) left right (map variable_of c.in_ok-seen-in-Enable.seen.items) o c.in_ok-seen-in-Enable.ensures
    c.in_ok-see-in-Enable.ensures) (ap sign_of c.in-Enable.is) c.from_residual-in_err-behaviour-in-Enable.result
    c.in_err-behaviour-in-Enable.field-0.0 c.from_residual-in_err-behaviour-in-Enable.ensures.1 c.in_err-behaviour-in-Enable.ensures.read

pub signed-returns-in_ok-right-in-Enable-clause-passed : goal.signed-returns-in_ok-right-in-Enable-clause-passed
signed-returns-in_ok-right-in-Enable-clause-passed t c =
    let s = state_in c.args.self.now in let right = written_behaviour c.args.right.now in let left = behaviour_of c.args.left.value in
    let between = state_in c.see.new.self in
    variables_forgotten s between (state_in c.behaviour-in-Enable.new.self) (state_in c.forget_variables.new.self) (map variable_of
    c.in_ok-seen-in-Enable.seen.items) right c.size-size.result (length (written_variables_of c.in-Enable.accepted.items))
    c.size-size.ensures
    (declared_of s.signature s.variable (written_variables_of c.in-Enable.accepted.items) (map variable_of
    c.in_ok-seen-in-Enable.seen.items) c.in_ok-seen-in-Enable.ensures).counted c.in_ok-see-in-Enable.ensures
    c.in_ok-behaviour-in-Enable.ensures.passed c.forget_variables.ensures
    ∙ ap (λ (x : WrittenSign). behind_in_state (gates_of right) (length
    (accepted x) + variable_count right) s) (sym (ap sign_of c.in-Enable.is))

pub signed-returns-in_err-seen-in-Enable-clause-read : goal.signed-returns-in_err-seen-in-Enable-clause-read
signed-returns-in_err-seen-in-Enable-clause-read t c =
    accept_fault (state_in c.args.self.now) (sign_of c.args.sign.now) (written_variables_of c.in-Enable.accepted.items) (behaviour_of
    c.args.left.value) (written_behaviour c.args.right.now) c.from_residual-in_err-seen-in-Enable.result
    c.in_err-seen-in-Enable.field-0.0 (ap sign_of c.in-Enable.is) c.from_residual-in_err-seen-in-Enable.ensures.1
    c.in_err-seen-in-Enable.ensures

pub behaviour-returns-in-Exit-clause-passed : goal.behaviour-returns-in-Exit-clause-passed
behaviour-returns-in-Exit-clause-passed t c =
    let s = state_in c.args.self.now in
    on_ok c.exit.result (s ≡ passed (written_behaviour c.args.text.now) s)
    (behind_nothing s ∙ ap (λ (x : BehForm). passed (written_behaviour_at
    c.args.text.now.place x) s) (sym c.in-Exit.is))

pub behaviour-returns-in-Call-clause-passed : goal.behaviour-returns-in-Call-clause-passed
behaviour-returns-in-Call-clause-passed t c =
    let s = state_in c.args.self.now in
    on_ok c.call.result (s ≡ passed (written_behaviour c.args.text.now) s)
    (behind_nothing s ∙ ap (λ (x : BehForm). passed (written_behaviour_at
    c.args.text.now.place x) s) (sym c.in-Call.is))

pub behaviour-returns-in-Stop-clause-passed : goal.behaviour-returns-in-Stop-clause-passed
behaviour-returns-in-Stop-clause-passed t c =
    let s = state_in c.args.self.now in
    behind_nothing s ∙ ap (λ (x : BehForm). passed (written_behaviour_at c.args.text.now.place x) s) (sym c.in-Stop.is)

pub behaviour-returns-in-Action-clause-read : goal.behaviour-returns-in-Action-clause-read
behaviour-returns-in-Action-clause-read t c =
    let s = state_in c.args.self.now in
    subst (λ (x : BehForm). Answers behaviour_of c.action.result (BehaviourStandsFor s (written_behaviour_at c.args.text.now.place x))) (sym
    c.in-Action.is) (subst (λ (x : BehText). Answers behaviour_of c.action.result (BehaviourStandsFor s (written.action (text_place_of
    c.args.text.now.place) (spelling c.in-Action.gate) (map written_offer c.in-Action.offers.items) (option_map premiss_of
    c.in-Action.test) (written_behaviour x)))) c.deref.ensures c.action.ensures.read)

pub behaviour-returns-in_ok-first-in-Binary-clause-read : goal.behaviour-returns-in_ok-first-in-Binary-clause-read
behaviour-returns-in_ok-first-in-Binary-clause-read t c =
    let s = state_in c.args.self.now in let place = text_place_of c.args.text.now.place in let sign = sign_of c.in-Binary.sign in
    let left = written_behaviour c.deref-in-Binary.result.now in let right = written_behaviour c.deref-in-Binary-2.result.now in
    subst (λ (x : BehForm). Answers behaviour_of c.signed.result (BehaviourStandsFor s (written_behaviour_at c.args.text.now.place x))) (sym
    c.in-Binary.is) (subst (λ (x : BehText). Answers behaviour_of c.signed.result (BehaviourStandsFor s (written.binary place sign
    (written_behaviour x) (written_behaviour c.in-Binary.right.value)))) c.deref-in-Binary.ensures (subst (λ (x : BehText). Answers
    behaviour_of c.signed.result (BehaviourStandsFor s (written.binary place sign left (written_behaviour x)))) c.deref-in-Binary-2.ensures
    (binary_answer s (state_in c.behaviour-in-Binary.new.self) place sign left right (behaviour_of c.in_ok-first-in-Binary.first.value)
    c.signed.result (subst (λ (x : Beh). BehaviourStandsFor s left (resolved (behaviour_of x))) (sym c.in_ok-first-in-Binary.ensures)
    c.in_ok-behaviour-in-Binary.ensures.read) c.in_ok-behaviour-in-Binary.ensures.passed c.signed.ensures.read)))
