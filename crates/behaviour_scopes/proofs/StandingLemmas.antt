-- What a behaviour stands for, form by form, from what its last part stands for where more is known.
use Rattle.std.proofs.Common.{◌≡◌, ℕ, ◌+◌, List, length, inl, inr, refl, ap, sym, ◌∙◌, subst, arith}
use Rattle.std.specs.Prelude.{Option, Result, Ok, Err, IsErrAnd, OnOk}
use Rattle.std.proofs.lemmas.List.{length-append}
use Rattle.scope_parts.proofs.FormedBehaviours.{declared_of, length_names}
use Rattle.lotos_base.specs.WrittenTerm.{PlacedName, WrittenTerm}
use Rattle.lotos_base.specs.Equation.{Place, Variable}
use Rattle.lotos_base.specs.Term.{Term}
use Rattle.syntax_trees.specs.WrittenVariable.{WrittenVariable}
use Rattle.syntax_trees.specs.WrittenEquation.{WrittenPremiss}
use Rattle.syntax_trees.specs.WrittenBehaviour as written
use Rattle.syntax_trees.specs.WrittenBehaviour.{WrittenBehaviour, WrittenSign, WrittenGateChoice, WrittenOffer, synchronising, enabling}
use Rattle.behaviour_semantics.specs.Behaviour.{Behaviour, Test, Offer, action, guard, hide, enable, parallel, let_be, at_gates, asked_variables, let_variables}
use Rattle.behaviour_tree.specs.BehaviourView.{behaviour_of}
use Rattle.behaviour_tree.specs.declared.behaviours.Beh.{Beh}
use Rattle.scope_parts.specs.Behaviours.{BehaviourIs, SignIs, with_gates, with_variables, numbers_from}
use Rattle.scope_parts.specs.ScopeFault.{ScopeFault}
use Rattle.scope_parts.specs.Choices.{GateChoice, ParChoice, choices_at, par_choices_at, under_gates, under_par, under_values}
use Rattle.scope_parts.specs.Numbering.{accepted, spelled_names, each_once, asked_for, choice_names, gates_in, variable_count, past, past_gates, past_variables}
use Rattle.scope_parts.specs.Resolution.{Resolution, resolved, faulty, Made}
use Rattle.behaviour_scopes.specs.ResolverState.{State, next_numbers_at, BehaviourStandsFor, behind_in_state, passed, seeing, with_gates_declared}
use Rattle.scope_parts.specs.Scope.{gate_at, gates_at}
use Rattle.scope_parts.specs.Sorts.{variables_at}
use Rattle.scope_parts.specs.Terms.{TestIs, TestOptionIs, LetIs, OffersAre}
use Rattle.scope_parts.specs.FaultView.{FaultIs, Answers}
use Rattle.scope_parts.specs.declared.scope_faults.ScopeFault as code
use Rattle.scope_parts.proofs.AnswerLemmas.{err_is, means_map}
use Rattle.behaviour_scopes.proofs.ResolverLemmas.{let_declared, offers_declare, stands_seeing, stands_declared}

-- what is made of a value
abbrev pub lifted : {A B : Type 0} → (A → B) → Resolution A → Resolution B
lifted f (resolved x) = resolved (f x)
lifted f (faulty fault) = faulty fault

-- A form whose last part is looked at where more is known: its value, where a form with this part stands for it, and its fault.
pub form_value : (s between : State) (whole inside : WrittenBehaviour) (form : Behaviour → Behaviour)
    → ((o : Resolution Behaviour) → BehaviourStandsFor between inside o → BehaviourStandsFor s whole (lifted form o))
    → (b : Behaviour) (made : Behaviour) → made ≡ form b → BehaviourStandsFor between inside (resolved b)
    → BehaviourStandsFor s whole (resolved made)
form_value s between whole inside form stands b made is part =
    subst (λ (x : Behaviour). BehaviourStandsFor s whole (resolved x)) (sym is) (stands (resolved b) part)

pub form_fault : (s between : State) (whole inside : WrittenBehaviour) (form : Behaviour → Behaviour)
    → ((o : Resolution Behaviour) → BehaviourStandsFor between inside o → BehaviourStandsFor s whole (lifted form o))
    → (result : Result Beh code.ScopeFault) (fault : code.ScopeFault) → IsErrAnd result (λ e. e ≡ fault)
    → FaultIs fault (λ f. BehaviourStandsFor between inside (faulty f)) → Answers behaviour_of result (BehaviourStandsFor s whole)
form_fault s between whole inside form stands result fault is part =
    err_is behaviour_of result fault (BehaviourStandsFor s whole) is
    (means_map fault (λ f. BehaviourStandsFor between inside (faulty f)) (λ f. BehaviourStandsFor s whole (faulty f))
    (λ f. stands (faulty f)) part)

-- whatever the answer is, where it is a value
pub on_ok : (result : Result Beh code.ScopeFault) (P : Type 0) → P → OnOk result P
on_ok (Ok b) P p = p
on_ok (Err e) P p = tt

-- ---- Forms

pub guard_stands : (s : State) (place : Place) (test : WrittenPremiss) (next : WrittenBehaviour) (premiss : Test)
    (o : Resolution Behaviour)
    → TestIs s.signature s.scope.variables test (resolved premiss) → BehaviourStandsFor s next o
    → BehaviourStandsFor s (written.guard place test next) (lifted (guard premiss) o)
guard_stands s place test next premiss (resolved b) first is = (premiss, first, (b, is, refl))
guard_stands s place test next premiss (faulty f) first is = inr (premiss, first, is)

-- the premiss of an action is at fault
pub test_fails : (s between : State) (place : Place) (gate : List ℕ) (offers : List WrittenOffer) (test : Option WrittenPremiss)
    (next : WrittenBehaviour) (number : ℕ) (given : List Offer) (f : ScopeFault)
    → resolved number ≡ gate_at s.scope.gates (record { place = place; name = gate })
    → OffersAre s.signature s.scope.variables s.variable offers (resolved given) → between ≡ seeing (asked_variables given) s
    → TestOptionIs between.signature between.scope.variables test (faulty f)
    → BehaviourStandsFor s (written.action place gate offers test next) (faulty f)
test_fails s between place gate offers test next number given f at first are fails =
    inr (
      number,
      at,
      inr (
        given,
        first,
        inl
            (subst (λ (b : State). TestOptionIs b.signature b.scope.variables test (faulty f)) are fails),
      ),
    )

pub action_stands : (s between : State) (place : Place) (gate : List ℕ) (offers : List WrittenOffer) (test : Option WrittenPremiss)
    (next : WrittenBehaviour) (number : ℕ) (given : List Offer) (predicate : Option Test) (o : Resolution Behaviour)
    → resolved number ≡ gate_at s.scope.gates (record { place = place; name = gate })
    → OffersAre s.signature s.scope.variables s.variable offers (resolved given) → between ≡ seeing (asked_variables given) s
    → TestOptionIs between.signature between.scope.variables test (resolved predicate) → BehaviourStandsFor between next o
    → BehaviourStandsFor s (written.action place gate offers test next) (lifted (action number given predicate) o)
action_stands s between place gate offers test next number given predicate o at first are tested stands =
    let here : TestOptionIs s.signature (with_variables (asked_variables given) s.scope).variables test (resolved predicate) =
    subst (λ (b : State). TestOptionIs b.signature b.scope.variables test (resolved predicate)) are tested in
    go o here
    (stands_seeing s between (asked_variables given) (length (asked_for offers)) next o are
    (offers_declare s.signature s.scope.variables s.variable offers given first).counted stands)
  where
    go : (r : Resolution Behaviour)
        → TestOptionIs s.signature (with_variables (asked_variables given) s.scope).variables test (resolved predicate)
        → BehaviourIs s.signature (with_variables (asked_variables given) s.scope)
        (past_variables (length (asked_for offers)) (next_numbers_at s)) next r
        → BehaviourStandsFor s (written.action place gate offers test next) (lifted (action number given predicate) r)
    go (resolved b) here is = (number, at, (given, first, (predicate, here, (b, is, refl))))
    go (faulty f) here is = inr (number, at, inr (given, first, inr (predicate, here, is)))

pub hide_stands : (s between : State) (place : Place) (gates : List PlacedName) (inside : WrittenBehaviour) (hidden : List ℕ)
    (o : Resolution Behaviour) → hidden ≡ numbers_from (length s.names) (each_once (spelled_names gates))
    → between ≡ with_gates_declared (each_once (spelled_names gates)) s → BehaviourStandsFor between inside o
    → BehaviourStandsFor s (written.hide place gates inside) (lifted (hide hidden) o)
hide_stands s between place gates inside hidden o numbers are stands =
    go o (stands_declared s between (each_once (spelled_names gates)) inside o are stands)
  where
    go : (r : Resolution Behaviour)
        → BehaviourIs s.signature (with_gates (each_once (spelled_names gates)) (length s.names) s.scope)
        (past_gates (length (each_once (spelled_names gates))) (next_numbers_at s)) inside r
        → BehaviourStandsFor s (written.hide place gates inside) (lifted (hide hidden) r)
    go (resolved b) is = (b, is, ap (λ (ns : List ℕ). hide ns b) numbers)
    go (faulty f) is = is

pub let_stands : (s between : State) (place : Place) (values : List (WrittenVariable × WrittenTerm)) (inside : WrittenBehaviour)
    (bindings : List (Variable × Term)) (o : Resolution Behaviour)
    → LetIs s.signature s.scope.variables s.variable values (resolved bindings) → between ≡ seeing (let_variables bindings) s
    → BehaviourStandsFor between inside o → BehaviourStandsFor s (written.let_be place values inside) (lifted (let_be bindings) o)
let_stands s between place values inside bindings o first are stands =
    go o (stands_seeing s between (let_variables bindings) (length values) inside o are
    (let_declared s.signature s.scope.variables s.variable values bindings first).counted stands)
  where
    go : (r : Resolution Behaviour)
        → BehaviourIs s.signature (with_variables (let_variables bindings) s.scope) (past_variables (length values)
        (next_numbers_at s)) inside r
        → BehaviourStandsFor s (written.let_be place values inside) (lifted (let_be bindings) r)
    go (resolved b) is = (bindings, first, (b, is, refl))
    go (faulty f) is = inr (bindings, first, is)

pub choose_value_stands : (s between : State) (place : Place) (variables : List WrittenVariable) (inside : WrittenBehaviour)
    (chosen : List Variable) (o : Resolution Behaviour) → resolved chosen ≡ variables_at s.signature s.variable variables
    → between ≡ seeing chosen s → BehaviourStandsFor between inside o
    → BehaviourStandsFor s (written.choose_value place variables inside) (lifted (under_values chosen) o)
choose_value_stands s between place variables inside chosen o first are stands =
    go o (stands_seeing s between chosen (length variables) inside o are
    (declared_of s.signature s.variable variables chosen first).counted stands)
  where
    go : (r : Resolution Behaviour)
        → BehaviourIs s.signature (with_variables chosen s.scope) (past_variables (length variables) (next_numbers_at s)) inside r
        → BehaviourStandsFor s (written.choose_value place variables inside) (lifted (under_values chosen) r)
    go (resolved b) is = (chosen, first, (b, is, refl))
    go (faulty f) is = inr (chosen, first, is)

stands_chosen : (s between : State) (gates : List WrittenGateChoice) (inside : WrittenBehaviour) (o : Resolution Behaviour)
    → between ≡ with_gates_declared (choice_names gates) s → BehaviourStandsFor between inside o
    → BehaviourIs s.signature (with_gates (choice_names gates) (length s.names) s.scope)
    (past_gates (length gates) (next_numbers_at s)) inside o
stands_chosen s between gates inside o are stands =
    subst
    (λ (n : ℕ). BehaviourIs s.signature
    (with_gates (choice_names gates) (length s.names) s.scope) (past_gates n (next_numbers_at s)) inside o)
    (length_names gates) (stands_declared s between (choice_names gates) inside o are stands)

pub choose_gate_stands : (s between : State) (place : Place) (gates : List WrittenGateChoice) (inside : WrittenBehaviour)
    (choices : List GateChoice) (o : Resolution Behaviour) → resolved choices ≡ choices_at s.scope.gates (length s.names) gates
    → between ≡ with_gates_declared (choice_names gates) s → BehaviourStandsFor between inside o
    → BehaviourStandsFor s (written.choose_gate place gates inside) (lifted (under_gates choices) o)
choose_gate_stands s between place gates inside choices o first are stands =
    go o (stands_chosen s between gates inside o are stands)
  where
    go : (r : Resolution Behaviour)
        → BehaviourIs s.signature (with_gates (choice_names gates) (length s.names) s.scope)
        (past_gates (length gates) (next_numbers_at s)) inside r
        → BehaviourStandsFor s (written.choose_gate place gates inside) (lifted (under_gates choices) r)
    go (resolved b) is = (choices, first, (b, is, refl))
    go (faulty f) is = inr (choices, first, is)

pub par_gate_stands : (s between : State) (place : Place) (gates : List WrittenGateChoice) (sign : WrittenSign)
    (inside : WrittenBehaviour)
    (pars : List ParChoice) (o : Resolution Behaviour) → resolved pars ≡ par_choices_at s.scope.gates (length s.names) sign gates
    → between ≡ with_gates_declared (choice_names gates) s → BehaviourStandsFor between inside o
    → BehaviourStandsFor s (written.par_gate place gates sign inside) (lifted (under_par pars) o)
par_gate_stands s between place gates sign inside pars o first are stands =
    go o (stands_chosen s between gates inside o are stands)
  where
    go : (r : Resolution Behaviour)
        → BehaviourIs s.signature (with_gates (choice_names gates) (length s.names) s.scope)
        (past_gates (length gates) (next_numbers_at s)) inside r
        → BehaviourStandsFor s (written.par_gate place gates sign inside) (lifted (under_par pars) r)
    go (resolved b) is = (pars, first, (b, is, refl))
    go (faulty f) is = inr (pars, first, is)

-- ---- Faults of the first parts

pub guard_fault : (s : State) (place : Place) (test : WrittenPremiss) (next : WrittenBehaviour) (result : Result Beh code.ScopeFault)
    (fault : code.ScopeFault) → IsErrAnd result (λ e. e ≡ fault)
    → FaultIs fault (λ f. TestIs s.signature s.scope.variables test (faulty f))
    → Answers behaviour_of result (BehaviourStandsFor s (written.guard place test next))
guard_fault s place test next result fault is means =
    err_is behaviour_of result fault (BehaviourStandsFor s (written.guard place test next)) is
    (means_map fault (λ f. TestIs s.signature s.scope.variables test (faulty f))
    (λ f. BehaviourStandsFor s (written.guard place test next) (faulty f)) (λ f h. inl h) means)

pub choose_gate_fault : (s : State) (place : Place) (gates : List WrittenGateChoice) (inside : WrittenBehaviour)
    (result : Result Beh code.ScopeFault) (fault : code.ScopeFault) → IsErrAnd result (λ e. e ≡ fault)
    → FaultIs fault (λ f. faulty f ≡ choices_at s.scope.gates (length s.names) gates)
    → Answers behaviour_of result (BehaviourStandsFor s (written.choose_gate place gates inside))
choose_gate_fault s place gates inside result fault is means =
    err_is behaviour_of result fault (BehaviourStandsFor s (written.choose_gate place gates inside)) is
    (means_map fault (λ f. faulty f ≡ choices_at s.scope.gates (length s.names) gates)
    (λ f. BehaviourStandsFor s (written.choose_gate place gates inside) (faulty f)) (λ f h. inl h) means)

pub par_gate_fault : (s : State) (place : Place) (gates : List WrittenGateChoice) (sign : WrittenSign) (inside : WrittenBehaviour)
    (result : Result Beh code.ScopeFault) (fault : code.ScopeFault) → IsErrAnd result (λ e. e ≡ fault)
    → FaultIs fault (λ f. faulty f ≡ par_choices_at s.scope.gates (length s.names) sign gates)
    → Answers behaviour_of result (BehaviourStandsFor s (written.par_gate place gates sign inside))
par_gate_fault s place gates sign inside result fault is means =
    err_is behaviour_of result fault (BehaviourStandsFor s (written.par_gate place gates sign inside)) is
    (means_map fault (λ f. faulty f ≡ par_choices_at s.scope.gates (length s.names) sign gates)
    (λ f. BehaviourStandsFor s (written.par_gate place gates sign inside) (faulty f)) (λ f h. inl h) means)

pub let_fault : (s : State) (place : Place) (values : List (WrittenVariable × WrittenTerm)) (inside : WrittenBehaviour)
    (result : Result Beh code.ScopeFault) (fault : code.ScopeFault) → IsErrAnd result (λ e. e ≡ fault)
    → FaultIs fault (λ f. LetIs s.signature s.scope.variables s.variable values (faulty f))
    → Answers behaviour_of result (BehaviourStandsFor s (written.let_be place values inside))
let_fault s place values inside result fault is means =
    err_is behaviour_of result fault (BehaviourStandsFor s (written.let_be place values inside)) is
    (means_map fault (λ f. LetIs s.signature s.scope.variables s.variable values (faulty f))
    (λ f. BehaviourStandsFor s (written.let_be place values inside) (faulty f)) (λ f h. inl h) means)

pub choose_value_fault : (s : State) (place : Place) (variables : List WrittenVariable) (inside : WrittenBehaviour)
    (result : Result Beh code.ScopeFault) (fault : code.ScopeFault) → IsErrAnd result (λ e. e ≡ fault)
    → FaultIs fault (λ f. faulty f ≡ variables_at s.signature s.variable variables)
    → Answers behaviour_of result (BehaviourStandsFor s (written.choose_value place variables inside))
choose_value_fault s place variables inside result fault is means =
    err_is behaviour_of result fault (BehaviourStandsFor s (written.choose_value place variables inside)) is
    (means_map fault (λ f. faulty f ≡ variables_at s.signature s.variable variables)
    (λ f. BehaviourStandsFor s (written.choose_value place variables inside) (faulty f)) (λ f h. inl h) means)

pub gate_fault : (s : State) (place : Place) (gate : List ℕ) (offers : List WrittenOffer) (test : Option WrittenPremiss)
    (next : WrittenBehaviour) (result : Result Beh code.ScopeFault) (fault : code.ScopeFault) → IsErrAnd result (λ e. e ≡ fault)
    → FaultIs fault (λ f. faulty f ≡ gate_at s.scope.gates (record { place = place; name = gate }))
    → Answers behaviour_of result (BehaviourStandsFor s (written.action place gate offers test next))
gate_fault s place gate offers test next result fault is means =
    err_is behaviour_of result fault (BehaviourStandsFor s (written.action place gate offers test next)) is
    (means_map fault (λ f. faulty f ≡ gate_at s.scope.gates (record { place = place; name = gate }))
    (λ f. BehaviourStandsFor s (written.action place gate offers test next) (faulty f)) (λ f h. inl h) means)

pub offers_fault : (s : State) (place : Place) (gate : List ℕ) (offers : List WrittenOffer) (test : Option WrittenPremiss)
    (next : WrittenBehaviour) (number : ℕ) (result : Result Beh code.ScopeFault) (fault : code.ScopeFault)
    → resolved number ≡ gate_at s.scope.gates (record { place = place; name = gate }) → IsErrAnd result (λ e. e ≡ fault)
    → FaultIs fault (λ f. OffersAre s.signature s.scope.variables s.variable offers (faulty f))
    → Answers behaviour_of result (BehaviourStandsFor s (written.action place gate offers test next))
offers_fault s place gate offers test next number result fault at is means =
    err_is behaviour_of result fault (BehaviourStandsFor s (written.action place gate offers test next)) is
    (means_map fault (λ f. OffersAre s.signature s.scope.variables s.variable offers (faulty f))
    (λ f. BehaviourStandsFor s (written.action place gate offers test next) (faulty f)) (λ f h. inr (number, at, inl h)) means)

-- ---- Signs

-- what stands on the right of a sign
abbrev pub SignStands : State → WrittenSign → Behaviour → WrittenBehaviour → Resolution Behaviour → Type 0
SignStands s sign left right =
    SignIs s.signature s.scope (next_numbers_at s) sign left (λ inside behind. BehaviourIs s.signature inside behind right)

pub made_stands : (s : State) (right : WrittenBehaviour) (f : Behaviour → Behaviour) (o : Resolution Behaviour)
    → BehaviourStandsFor s right o
    → Made f (BehaviourIs s.signature s.scope (next_numbers_at s) right) (lifted f o)
made_stands s right f (resolved b) is = (b, is, refl)
made_stands s right f (faulty g) is = is

pub synchronising_stands : (s : State) (names : List PlacedName) (left : Behaviour) (right : WrittenBehaviour) (gates : List ℕ)
    (o : Resolution Behaviour) → resolved gates ≡ gates_at s.scope.gates names → BehaviourStandsFor s right o
    → SignStands s (synchronising names) left right (lifted (parallel (at_gates gates) left) o)
synchronising_stands s names left right gates (resolved b) first is = (gates, first, (b, is, refl))
synchronising_stands s names left right gates (faulty f) first is = inr (gates, first, is)

pub enabling_stands : (s between : State) (accepted : List WrittenVariable) (left : Behaviour) (right : WrittenBehaviour)
    (variables : List Variable) (o : Resolution Behaviour) → resolved variables ≡ variables_at s.signature s.variable accepted
    → between ≡ seeing variables s → BehaviourStandsFor between right o
    → SignStands s (enabling accepted) left right (lifted (enable left variables) o)
enabling_stands s between accepted left right variables o first are stands =
    go o (stands_seeing s between variables (length accepted) right o are
    (declared_of s.signature s.variable accepted variables first).counted stands)
  where
    go : (r : Resolution Behaviour)
        → BehaviourIs s.signature (with_variables variables s.scope) (past_variables (length accepted) (next_numbers_at s)) right r
        → SignStands s (enabling accepted) left right (lifted (enable left variables) r)
    go (resolved b) is = (variables, first, (b, is, refl))
    go (faulty f) is = inr (variables, first, is)

-- a sign whose right side is looked at where more is known: its value and its fault
pub sign_value : (s between : State) (sign plain : WrittenSign) (left : Behaviour) (right : WrittenBehaviour)
    (form : Behaviour → Behaviour)
    → ((o : Resolution Behaviour) → BehaviourStandsFor between right o → SignStands s plain left right (lifted form o)) → sign ≡ plain
    → (b made : Behaviour) → made ≡ form b → BehaviourStandsFor between right (resolved b) → SignStands s sign left right (resolved made)
sign_value s between sign plain left right form stands same b made is part =
    subst (λ (x : WrittenSign). SignStands s x left right (resolved made)) (sym same)
    (subst (λ (x : Behaviour). SignStands s plain left right (resolved x)) (sym is) (stands (resolved b) part))

pub sign_fault : (s between : State) (sign plain : WrittenSign) (left : Behaviour) (right : WrittenBehaviour)
    (form : Behaviour → Behaviour)
    → ((o : Resolution Behaviour) → BehaviourStandsFor between right o → SignStands s plain left right (lifted form o)) → sign ≡ plain
    → (result : Result Beh code.ScopeFault) (fault : code.ScopeFault) → IsErrAnd result (λ e. e ≡ fault)
    → FaultIs fault (λ f. BehaviourStandsFor between right (faulty f)) → Answers behaviour_of result (SignStands s sign left right)
sign_fault s between sign plain left right form stands same result fault is part =
    subst (λ (x : WrittenSign). Answers behaviour_of result (SignStands s x left right)) (sym same)
    (err_is behaviour_of result fault (SignStands s plain left right) is
    (means_map fault (λ f. BehaviourStandsFor between right (faulty f)) (λ f. SignStands s plain left right (faulty f))
    (λ f. stands (faulty f)) part))

pub names_fault : (s : State) (sign : WrittenSign) (names : List PlacedName) (left : Behaviour) (right : WrittenBehaviour)
    (result : Result Beh code.ScopeFault) (fault : code.ScopeFault) → sign ≡ synchronising names → IsErrAnd result (λ e. e ≡ fault)
    → FaultIs fault (λ f. faulty f ≡ gates_at s.scope.gates names) → Answers behaviour_of result (SignStands s sign left right)
names_fault s sign names left right result fault same is means =
    subst (λ (x : WrittenSign). Answers behaviour_of result (SignStands s x left right)) (sym same)
    (err_is behaviour_of result fault (SignStands s (synchronising names) left right) is
    (means_map fault (λ f. faulty f ≡ gates_at s.scope.gates names)
    (λ f. SignStands s (synchronising names) left right (faulty f)) (λ f h. inl h) means))

pub accept_fault : (s : State) (sign : WrittenSign) (accepted : List WrittenVariable) (left : Behaviour) (right : WrittenBehaviour)
    (result : Result Beh code.ScopeFault) (fault : code.ScopeFault) → sign ≡ enabling accepted → IsErrAnd result (λ e. e ≡ fault)
    → FaultIs fault (λ f. faulty f ≡ variables_at s.signature s.variable accepted)
    → Answers behaviour_of result (SignStands s sign left right)
accept_fault s sign accepted left right result fault same is means =
    subst (λ (x : WrittenSign). Answers behaviour_of result (SignStands s x left right)) (sym same)
    (err_is behaviour_of result fault (SignStands s (enabling accepted) left right) is
    (means_map fault (λ f. faulty f ≡ variables_at s.signature s.variable accepted)
    (λ f. SignStands s (enabling accepted) left right (faulty f)) (λ f h. inl h) means))

-- a sign that declares nothing
pub nothing_accepted : (s new : State) (sign : WrittenSign) (right : WrittenBehaviour) → length (accepted sign) ≡ 0 → new ≡ passed right s
    → new ≡ behind_in_state (gates_in right) (length (accepted sign) + variable_count right) s
nothing_accepted s new sign right none later =
    let number : variable_count right ≡ length (accepted sign) + variable_count right = omega (arith, none) in
    later ∙ ap (λ (n : ℕ). behind_in_state (gates_in right) n s) number

-- the left side, and then the sign with the right one
sign_passed : (s : State) (left : WrittenBehaviour) (sign : WrittenSign) (first : Behaviour) (right : WrittenBehaviour)
    (o : Resolution Behaviour) → SignStands (passed left s) sign first right o
    → SignIs s.signature s.scope (past left (next_numbers_at s)) sign first (λ inside behind. BehaviourIs s.signature inside behind right) o
sign_passed s left sign first right o is =
    subst
    (λ (n : ℕ). SignIs s.signature s.scope
    (record { gate = n; variable = s.variable + variable_count left; process = s.process }) sign first
    (λ inside behind. BehaviourIs s.signature inside behind right) o)
    (length-append s.names (gates_in left)) is

pub binary_stands : (s between : State) (place : Place) (sign : WrittenSign) (left right : WrittenBehaviour) (first : Behaviour)
    (o : Resolution Behaviour) → BehaviourStandsFor s left (resolved first) → between ≡ passed left s
    → SignStands between sign first right o
    → BehaviourStandsFor s (written.binary place sign left right) o
binary_stands s between place sign left right first o stands are is =
    go o (sign_passed s left sign first right o (subst (λ (b : State). SignStands b sign first right o) are is))
  where
    go : (r : Resolution Behaviour)
        → SignIs s.signature s.scope (past left (next_numbers_at s)) sign first
        (λ inside behind. BehaviourIs s.signature inside behind right) r
        → BehaviourStandsFor s (written.binary place sign left right) r
    go (resolved b) h = (first, stands, h)
    go (faulty f) h = inr (first, stands, h)

pub binary_answer : (s between : State) (place : Place) (sign : WrittenSign) (left right : WrittenBehaviour) (first : Behaviour)
    (result : Result Beh code.ScopeFault) → BehaviourStandsFor s left (resolved first) → between ≡ passed left s
    → Answers behaviour_of result (SignStands between sign first right)
    → Answers behaviour_of result (BehaviourStandsFor s (written.binary place sign left right))
binary_answer s between place sign left right first (Ok b) stands are is =
    binary_stands s between place sign left right first (resolved (behaviour_of b)) stands are is
binary_answer s between place sign left right first (Err fault) stands are is =
    means_map fault (λ f. SignStands between sign first right (faulty f))
    (λ f. BehaviourStandsFor s (written.binary place sign left right) (faulty f))
    (λ f h. binary_stands s between place sign left right first (faulty f) stands are h) is
