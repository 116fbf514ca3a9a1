-- What a behaviour as it is written stands for is well formed.
use Rattle.std.proofs.Common.{◌≡◌, ℕ, suc, ◌+◌, ◌<◌, ◌≤◌, Bool, true, false, List, [], ◌∷◌, ◌++◌, refl, ap, sym, ◌∙◌, subst, arith, length, map}
use Rattle.std.specs.Prelude.{◌≢◌, Option, None, Some, slice_get, nat_eq, if◌then◌else◌}
use Rattle.std.proofs.lemmas.Bool.{eqb-true}
use Rattle.std.proofs.lemmas.List.{length-append}
use Rattle.lotos_base.specs.Signature.{Signature}
use Rattle.lotos_base.specs.Equation.{Place, Variable}
use Rattle.lotos_base.specs.WrittenTerm.{PlacedName, WrittenTerm}
use Rattle.syntax_trees.specs.WrittenVariable.{WrittenVariable}
use Rattle.syntax_trees.specs.WrittenBehaviour as written
use Rattle.syntax_trees.specs.WrittenBehaviour.{WrittenBehaviour, WrittenGateChoice, WrittenSign, choice_sign, interleaving, full_synchronisation, synchronising, disabling, enabling}
use Rattle.behaviour_semantics.specs.Behaviour.{Behaviour, Process, stop, SynchronisationSet, no_gates, all_gates, at_gates, asked_variables, let_variables}
use Rattle.behaviour_semantics.specs.WellFormed.{Every, AreGates, IsSynchronisationSet, IsBehaviour}
use Rattle.scope_parts.specs.ScopeFault.{gate_count, value_count}
use Rattle.scope_parts.specs.Resolution.{Resolution, resolved, faulty}
use Rattle.scope_parts.specs.Scope.{Scope, Callable, Binding, bind, gates_at, callable_named, found_process, first_double}
use Rattle.scope_parts.specs.Numbering.{Numbers, spelled_names, each_once, asked_for, choice_names, gates_in, variable_count, accepted, past_gates, past_variables, past}
use Rattle.scope_parts.specs.Sorts.{variables_at, sorted_variables, placed_variables}
use Rattle.scope_parts.specs.Terms.{ValuesAre}
use Rattle.scope_parts.specs.Choices.{GateChoice, ParChoice, sign_at, choices_follow, signs_follow, with_signs, placed_choices, choices_at, under_gates, under_par, under_values}
use Rattle.scope_parts.specs.Behaviours.{with_gates, with_variables, counted_call, CallIs, SignIs, BehaviourIs}
use Rattle.scope_parts.specs.GateLists.{HaveGates, HasGateLists}
use Rattle.scope_parts.proofs.FormedLists.{same_resolved, never_faulty, made_of, front_of, beside_of, AreDeclared, AreNumbered, HaveSorts, variables_formed, binders_formed, AreBelow, in_more, below_more, over_more, GatesBelow, bind_below, gate_formed, gates_formed, numbers_formed}
use Rattle.scope_parts.proofs.FormedValues.{AreSeen, test_formed, test_option_formed, exit_values_formed, values_formed, let_formed, offers_formed}

-- the process that callers see is one of the processes, with as many gates and with these sorts
pub record IsCalled (processes : List Process) (callable : Callable) : Type 0 where
  pub process : Process
  pub there : slice_get processes callable.number ≡ Some process
  pub gates : callable.gates ≡ length process.gates
  pub sorts : callable.sorts ≡ map (λ (x : Variable). Some x.sort) process.parameters

-- what is visible fits what is in scope, the numbers that come next, the names of gates and the processes
pub record IsReady (signature : Signature) (names : ℕ) (processes : List Process) (visible : Scope) (next : ℕ)
    (scope : List Variable) : Type 0 where
  pub seen : AreSeen signature visible.variables scope
  pub below : AreBelow next visible.variables
  pub gates : GatesBelow names visible.gates
  pub callable : (name : List ℕ) (p : Callable) → callable_named visible.processes name ≡ Some p → IsCalled processes p

ready_later : {signature : Signature} {names : ℕ} {processes : List Process} {visible : Scope} {scope : List Variable} (next later : ℕ)
    → next ≤ later → IsReady signature names processes visible next scope → IsReady signature names processes visible later scope
ready_later next later less ready = record {
  seen = ready.seen;
  below = λ i v at. let below = ready.below i v at in omega (arith, below, less);
  gates = ready.gates;
  callable = ready.callable;
}

ready_gates : {signature : Signature} {names : ℕ} {processes : List Process} {visible : Scope} {scope : List Variable} {next : ℕ}
    (all : List (List ℕ)) (first : ℕ) → first + length all ≤ names → IsReady signature names processes visible next scope
    → IsReady signature names processes (with_gates all first visible) next scope
ready_gates {names = names} {visible = visible} all first room ready = record {
  seen = record { over = ready.seen.over; are = ready.seen.are };
  below = ready.below;
  gates = bind_below names all first visible.gates ready.gates room;
  callable = ready.callable;
}

ready_variables : {signature : Signature} {names : ℕ} {processes : List Process} {visible : Scope} {scope : List Variable}
    (next many : ℕ) (xs : List Variable) → AreDeclared signature next many xs → IsReady signature names processes visible next scope
    → IsReady signature names processes (with_variables xs visible) (next + many) (xs ++ scope)
ready_variables {signature = signature} {visible = visible} {scope = scope} next many xs declared ready = record {
  seen = record {
    over = over_more signature visible.variables xs ready.seen.over declared.sorted;
    are = in_more next visible.variables xs scope ready.seen.are ready.below declared.numbered;
  };
  below = below_more next many visible.variables xs ready.below declared.numbered declared.counted;
  gates = ready.gates;
  callable = ready.callable;
}

-- ---- Calls

pub found_callable : (place : Place) (name : List ℕ) (o : Option Callable) (p : Callable) → resolved p ≡ found_process place name o
    → o ≡ Some p
found_callable place name None p is = never_faulty p _ is
found_callable place name (Some q) p is = ap Some (sym (same_resolved p q is))

counted_formed : (place : Place) (gates values : ℕ) (p q : Callable) → resolved q ≡ counted_call place gates values p
    → (q ≡ p) × (gates ≡ p.gates) × (values ≡ length p.sorts)
counted_formed place gates values p q is = go (nat_eq gates p.gates) refl (nat_eq values (length p.sorts)) refl is
  where
    go : (b : Bool) → nat_eq gates p.gates ≡ b → (d : Bool) → nat_eq values (length p.sorts) ≡ d
        → resolved q ≡ (if b then if d then resolved p else faulty (value_count place (length p.sorts) values)
        else faulty (gate_count place p.gates gates))
        → (q ≡ p) × (gates ≡ p.gates) × (values ≡ length p.sorts)
    go true one true other is = (same_resolved q p is, eqb-true _ _ one, eqb-true _ _ other)
    go true one false other is = never_faulty q _ is
    go false one d other is = never_faulty q _ is

length_sorts : (xs : List Variable) → length (map (λ (x : Variable). Some x.sort) xs) ≡ length xs
length_sorts [] = refl
length_sorts (x ∷ xs) = ap suc (length_sorts xs)

call_formed : (signature : Signature) (names : ℕ) (processes : List Process) (visible : Scope) (next : ℕ) (scope : List Variable)
    (place : Place) (name : List ℕ) (gates : List PlacedName) (values : List WrittenTerm) (c : Behaviour)
    → IsReady signature names processes visible next scope → CallIs signature visible place name gates values (resolved c)
    → IsBehaviour signature names processes scope c
call_formed signature names processes visible next scope place name gates values c ready is =
    let found = made_of (found_process place name (callable_named visible.processes name)) _ is.0 is.1 in
    let counted = counted_formed place (length gates) (length values) found.0 is.0 found.2 in
    let called : IsCalled processes is.0 =
    subst (IsCalled processes) (sym counted.0)
    (ready.callable name found.0 (found_callable place name (callable_named visible.processes name) found.0 found.1)) in
    let listed = gates_formed names visible.gates gates is.2.0 ready.gates is.2.1 in
    let sorts : length is.0.sorts ≡ length called.process.parameters =
    ap length called.sorts ∙ length_sorts called.process.parameters in
    let many : length values ≡ length called.process.parameters =
    counted.2 ∙ ap (λ (p : Callable). length p.sorts) (sym counted.0) ∙ sorts in
    let given : length gates ≡ length called.process.gates =
    counted.1 ∙ ap (λ (p : Callable). p.gates) (sym counted.0) ∙ called.gates in
    subst (λ (b : Behaviour). IsBehaviour signature names processes scope b) (sym is.2.2.2) (
      listed.0,
      record {
        process = called.process;
        exists = called.there;
        gate_count = listed.1 ∙ given;
        values =
            values_formed signature visible.variables scope called.process.parameters values is.2.2.0 ready.seen many
            (subst (λ (ss : List (Option ℕ)). ValuesAre signature visible.variables ss values (resolved is.2.2.0)) called.sorts is.2.2.1);
      },
    )

-- ---- Choices

abbrev EachChoice : ℕ → List GateChoice → Type 0
EachChoice names choices = Every (λ (c : GateChoice). (c.gate < names) × AreGates names c.among) choices

choices_formed : (names : ℕ) (gates : List Binding) (next : ℕ) (declared : List WrittenGateChoice) (choices : List GateChoice)
    → GatesBelow names gates → next + length declared ≤ names → resolved choices ≡ choices_follow gates next declared
    → EachChoice names choices
choices_formed names gates next [] choices below room is =
    subst (λ (cs : List GateChoice). EachChoice names cs) (sym (same_resolved choices [] is)) tt
choices_formed names gates next (d ∷ declared) choices below room is =
    let among = made_of (gates_at gates d.among) _ choices is in
    let rest = front_of _ (choices_follow (bind d.name next gates) (suc next) declared) choices among.2 in
    let one : next + 1 ≤ names = omega (arith, room) in
    let more : suc next + length declared ≤ names = omega (arith, room) in
    let here : next < names = omega (arith, room) in
    subst (λ (cs : List GateChoice). EachChoice names cs) (sym rest.2) (
      (here, (gates_formed names gates d.among among.0 below among.1).0),
      choices_formed names (bind d.name next gates) (suc next) declared rest.0
          (bind_below names (d.name ∷ []) next gates below one) more rest.1,
    )

under_gates_formed : (signature : Signature) (names : ℕ) (processes : List Process) (scope : List Variable) (choices : List GateChoice)
    (b : Behaviour) → EachChoice names choices → IsBehaviour signature names processes scope b
    → IsBehaviour signature names processes scope (under_gates choices b)
under_gates_formed signature names processes scope [] b each formed = formed
under_gates_formed signature names processes scope (c ∷ choices) b each formed =
    (each.0.0, each.0.1, under_gates_formed signature names processes scope choices b each.1 formed)

-- ---- Parallels of copies

abbrev EachPar : ℕ → List ParChoice → Type 0
EachPar names pars =
    Every (λ (p : ParChoice). (p.choice_.gate < names) × (p.choice_.among ≢ []) × AreGates names p.choice_.among
    × IsSynchronisationSet names p.meet) pars

sign_formed : (names : ℕ) (gates : List Binding) (sign : WrittenSign) (meet : SynchronisationSet) → GatesBelow names gates
    → resolved meet ≡ sign_at gates sign → IsSynchronisationSet names meet
sign_formed names gates choice_sign meet below is = subst (IsSynchronisationSet names) (sym (same_resolved meet no_gates is)) tt
sign_formed names gates interleaving meet below is = subst (IsSynchronisationSet names) (sym (same_resolved meet no_gates is)) tt
sign_formed names gates full_synchronisation meet below is = subst (IsSynchronisationSet names) (sym (same_resolved meet all_gates is)) tt
sign_formed names gates (synchronising list) meet below is =
    let listed = made_of (gates_at gates list) _ meet is in
    subst (IsSynchronisationSet names) (sym (same_resolved meet (at_gates listed.0) listed.2))
    (gates_formed names gates list listed.0 below listed.1).0
sign_formed names gates disabling meet below is = subst (IsSynchronisationSet names) (sym (same_resolved meet no_gates is)) tt
sign_formed names gates (enabling variables) meet below is = subst (IsSynchronisationSet names) (sym (same_resolved meet no_gates is)) tt

some_gates : (ns : List ℕ) (list : List PlacedName) → length ns ≡ length list → list ≢ [] → ns ≢ []
some_gates ns [] counted some = absurd (some refl)
some_gates ns (gate ∷ list) counted some = λ none.
    let no : 0 ≡ suc (length list) = ap length (sym none) ∙ counted in omega (arith, no)

pars_formed : (names : ℕ) (gates : List Binding) (next : ℕ) (sign : WrittenSign) (declared : List WrittenGateChoice)
    (choices : List GateChoice) (meets : List SynchronisationSet)
    → GatesBelow names gates → next + length declared ≤ names → HaveGates declared
    → resolved choices ≡ choices_follow gates next declared → resolved meets ≡ signs_follow gates next sign declared
    → EachPar names (with_signs choices meets)
pars_formed names gates next sign [] choices meets below room have is are =
    subst (λ (cs : List GateChoice). EachPar names (with_signs cs meets)) (sym (same_resolved choices [] is)) tt
pars_formed names gates next sign (d ∷ declared) choices meets below room have is are =
    let among = made_of (gates_at gates d.among) _ choices is in
    let rest = front_of _ (choices_follow (bind d.name next gates) (suc next) declared) choices among.2 in
    let meet = made_of (sign_at gates sign) _ meets are in
    let others = front_of meet.0 (signs_follow (bind d.name next gates) (suc next) sign declared) meets meet.2 in
    let one : next + 1 ≤ names = omega (arith, room) in
    let more : suc next + length declared ≤ names = omega (arith, room) in
    let here : next < names = omega (arith, room) in
    let listed = gates_formed names gates d.among among.0 below among.1 in
    subst (λ (cs : List GateChoice). EachPar names (with_signs cs meets)) (sym rest.2)
    (subst (λ (ms : List SynchronisationSet). EachPar names (with_signs (record { gate = next; among = among.0 } ∷ rest.0) ms))
    (sym others.2) (
      (here, some_gates among.0 d.among listed.1 have.0, listed.0, sign_formed names gates sign meet.0 below meet.1),
      pars_formed names (bind d.name next gates) (suc next) sign declared rest.0 others.0
          (bind_below names (d.name ∷ []) next gates below one) more have.1 rest.1 others.1,
    ))

under_par_formed : (signature : Signature) (names : ℕ) (processes : List Process) (scope : List Variable) (pars : List ParChoice)
    (b : Behaviour) → EachPar names pars → IsBehaviour signature names processes scope b
    → IsBehaviour signature names processes scope (under_par pars b)
under_par_formed signature names processes scope [] b each formed = formed
under_par_formed signature names processes scope (p ∷ pars) b each formed =
    (each.0.0, each.0.1, each.0.2, each.0.3, under_par_formed signature names processes scope pars b each.1 formed)

-- ---- Choices of values

append_nothing : (xs : List Variable) → xs ++ [] ≡ xs
append_nothing [] = refl
append_nothing (x ∷ xs) = ap (λ (ys : List Variable). x ∷ ys) (append_nothing xs)

append_assoc_one : (xs : List Variable) (x : Variable) (ys : List Variable) → (xs ++ x ∷ []) ++ ys ≡ xs ++ x ∷ ys
append_assoc_one [] x ys = refl
append_assoc_one (z ∷ xs) x ys = ap (λ (zs : List Variable). z ∷ zs) (append_assoc_one xs x ys)

-- the variables put in scope one by one
abbrev onto : List Variable → List Variable → List Variable
onto [] scope = scope
onto (x ∷ xs) scope = onto xs (x ∷ scope)

under_values_formed : (signature : Signature) (names : ℕ) (processes : List Process) (scope xs : List Variable) (b : Behaviour)
    → HaveSorts signature xs → IsBehaviour signature names processes (onto xs scope) b
    → IsBehaviour signature names processes scope (under_values xs b)
under_values_formed signature names processes scope [] b sorts formed = formed
under_values_formed signature names processes scope (x ∷ xs) b sorts formed =
    (sorts.0, under_values_formed signature names processes (x ∷ scope) xs b sorts.1 formed)

onto_ready : {signature : Signature} {names : ℕ} {processes : List Process} (visible : Scope) (scope : List Variable) (next : ℕ)
    (xs : List Variable) → AreNumbered next xs → HaveSorts signature xs → IsReady signature names processes visible next scope
    → IsReady signature names processes (with_variables xs visible) (next + length xs) (onto xs scope)
onto_ready {signature = signature} {names = names} {processes = processes} visible scope next [] numbered sorts ready =
    let none : next ≤ next + 0 = omega arith in
    subst (λ (vs : List Variable). IsReady signature names processes
    (record { gates = visible.gates; variables = vs; processes = visible.processes }) (next + 0) scope) (sym
    (append_nothing visible.variables))
    (ready_later next (next + 0) none ready)
onto_ready {signature = signature} {names = names} {processes = processes} visible scope next (x ∷ xs) numbered sorts ready =
    let first : IsReady signature names processes (with_variables (x ∷ []) visible) (next + 1) (x ∷ scope) =
    ready_variables next 1 (x ∷ []) (record { numbered = (numbered.0, tt); sorted = (sorts.0, tt); counted = refl }) ready in
    let number : next + 1 ≡ suc next = omega arith in
    let later : IsReady signature names processes (with_variables (x ∷ []) visible) (suc next) (x ∷ scope) =
    subst (λ (n : ℕ). IsReady signature names processes (with_variables (x ∷ []) visible) n (x ∷ scope)) number first in
    let rest = onto_ready (with_variables (x ∷ []) visible) (x ∷ scope) (suc next) xs numbered.1 sorts.1 later in
    let total : suc next + length xs ≡ next + suc (length xs) = omega arith in
    subst (λ (n : ℕ). IsReady signature names processes (with_variables (x ∷ xs) visible) n (onto xs (x ∷ scope))) total
    (subst (λ (vs : List Variable). IsReady signature names processes
    (record { gates = visible.gates; variables = vs; processes = visible.processes }) (suc next + length xs) (onto xs (x ∷ scope)))
    (append_assoc_one visible.variables x xs) rest)

-- ---- Behaviours

pub declared_of : (signature : Signature) (next : ℕ) (vs : List WrittenVariable) (xs : List Variable)
    → resolved xs ≡ variables_at signature next vs → AreDeclared signature next (length vs) xs
declared_of signature next vs xs is =
    variables_formed signature next vs xs (beside_of (first_double (placed_variables vs)) (sorted_variables signature next vs) xs is)

two_parts : (first : ℕ) (xs ys : List (List ℕ)) (names : ℕ) → first + length (xs ++ ys) ≤ names
    → (first + length xs ≤ names) × ((first + length xs) + length ys ≤ names)
two_parts first xs ys names room =
    let both : length (xs ++ ys) ≡ length xs + length ys = length-append xs ys in
    (omega (arith, room, both), omega (arith, room, both))

pub length_names : (gates : List WrittenGateChoice) → length (choice_names gates) ≡ length gates
length_names [] = refl
length_names (g ∷ gates) = ap suc (length_names gates)

-- that a behaviour stands for well-formed ones, wherever it stands
abbrev Forms : Signature → ℕ → List Process → (Scope → Numbers → Resolution Behaviour → Type 0) → ℕ → Type 0
Forms signature names processes Comes gates =
    (visible : Scope) (numbers : Numbers) (scope : List Variable) (c : Behaviour)
    → IsReady signature names processes visible numbers.variable scope → numbers.gate + gates ≤ names → Comes visible numbers (resolved c)
    → IsBehaviour signature names processes scope c

binary_formed : (signature : Signature) (names : ℕ) (processes : List Process) (visible : Scope) (numbers : Numbers) (scope : List Variable)
    (sign : WrittenSign) (left c : Behaviour) (Right : Scope → Numbers → Resolution Behaviour → Type 0) (gates : ℕ)
    → IsReady signature names processes visible numbers.variable scope → numbers.gate + gates ≤ names
    → IsBehaviour signature names processes scope left → Forms signature names processes Right gates
    → SignIs signature visible numbers sign left Right (resolved c) → IsBehaviour signature names processes scope c
binary_formed signature names processes visible numbers scope choice_sign left c Right gates ready room first forms is =
    subst (λ (b : Behaviour). IsBehaviour signature names processes scope b) (sym is.2)
    (first, forms visible numbers scope is.0 ready room is.1)
binary_formed signature names processes visible numbers scope interleaving left c Right gates ready room first forms is =
    subst (λ (b : Behaviour). IsBehaviour signature names processes scope b) (sym is.2)
    (tt, first, forms visible numbers scope is.0 ready room is.1)
binary_formed signature names processes visible numbers scope full_synchronisation left c Right gates ready room first forms is =
    subst (λ (b : Behaviour). IsBehaviour signature names processes scope b) (sym is.2)
    (tt, first, forms visible numbers scope is.0 ready room is.1)
binary_formed signature names processes visible numbers scope (synchronising list) left c Right gates ready room first forms is =
    subst (λ (b : Behaviour). IsBehaviour signature names processes scope b) (sym is.2.2)
    ((gates_formed names visible.gates list is.0 ready.gates is.1).0, first, forms visible numbers scope is.2.0 ready room is.2.1)
binary_formed signature names processes visible numbers scope disabling left c Right gates ready room first forms is =
    subst (λ (b : Behaviour). IsBehaviour signature names processes scope b) (sym is.2)
    (first, forms visible numbers scope is.0 ready room is.1)
binary_formed signature names processes visible numbers scope (enabling accepted) left c Right gates ready room first forms is =
    let declared = declared_of signature numbers.variable accepted is.0 is.1 in
    subst (λ (b : Behaviour). IsBehaviour signature names processes scope b) (sym is.2.2) (
      first,
      binders_formed signature numbers.variable (length accepted) is.0 declared,
      forms (with_variables is.0 visible) (past_variables (length accepted) numbers) (is.0 ++ scope) is.2.0
          (ready_variables numbers.variable (length accepted) is.0 declared ready) room is.2.1,
    )

pub behaviour_formed : (signature : Signature) (names : ℕ) (processes : List Process) (b : WrittenBehaviour) → HasGateLists b
    → Forms signature names processes (λ visible numbers. BehaviourIs signature visible numbers b) (length (gates_in b))
behaviour_formed signature names processes (written.stop place) have visible numbers scope c ready room is =
    subst (λ (b : Behaviour). IsBehaviour signature names processes scope b) (sym (same_resolved c stop is)) tt
behaviour_formed signature names processes (written.exit place values) have visible numbers scope c ready room is =
    subst (λ (b : Behaviour). IsBehaviour signature names processes scope b) (sym is.2)
    (exit_values_formed signature visible.variables scope values is.0 ready.seen is.1)
behaviour_formed signature names processes (written.call place name gates values) have visible numbers scope c ready room is =
    call_formed signature names processes visible numbers.variable scope place name gates values c ready is
behaviour_formed signature names processes (written.action place gate offers test next) have visible numbers scope c ready room is =
    let given = offers_formed signature visible.variables scope numbers.variable offers is.2.0 ready.seen is.2.1 in
    let inside = ready_variables numbers.variable (length (asked_for offers)) (asked_variables is.2.0) given.declared ready in
    subst (λ (b : Behaviour). IsBehaviour signature names processes scope b) (sym is.2.2.2.2) (
      gate_formed names visible.gates (record { place = place; name = gate }) is.0 ready.gates is.1,
      given.formed,
      binders_formed signature numbers.variable (length (asked_for offers)) (asked_variables is.2.0) given.declared,
      test_option_formed signature (with_variables (asked_variables is.2.0) visible).variables (asked_variables is.2.0 ++ scope) test
          is.2.2.0
          inside.seen is.2.2.1,
      behaviour_formed signature names processes next have (with_variables (asked_variables is.2.0) visible)
          (past_variables (length (asked_for offers)) numbers) (asked_variables is.2.0 ++ scope) is.2.2.2.0 inside room is.2.2.2.1,
    )
behaviour_formed signature names processes (written.inner_action place next) have visible numbers scope c ready room is =
    subst (λ (b : Behaviour). IsBehaviour signature names processes scope b) (sym is.2)
    (behaviour_formed signature names processes next have visible numbers scope is.0 ready room is.1)
behaviour_formed signature names processes (written.guard place test next) have visible numbers scope c ready room is =
    subst (λ (b : Behaviour). IsBehaviour signature names processes scope b) (sym is.2.2) (
      test_formed signature visible.variables scope test is.0 ready.seen is.1,
      behaviour_formed signature names processes next have visible numbers scope is.2.0 ready room is.2.1,
    )
behaviour_formed signature names processes (written.hide place gates inside) have visible numbers scope c ready room is =
    let rooms = two_parts numbers.gate (each_once (spelled_names gates)) (gates_in inside) names room in
    subst (λ (b : Behaviour). IsBehaviour signature names processes scope b) (sym is.2) (
      numbers_formed names numbers.gate (each_once (spelled_names gates)) rooms.0,
      behaviour_formed signature names processes inside have (with_gates (each_once (spelled_names gates)) numbers.gate visible)
          (past_gates (length (each_once (spelled_names gates))) numbers) scope is.0
          (ready_gates (each_once (spelled_names gates)) numbers.gate rooms.0 ready) rooms.1 is.1,
    )
behaviour_formed signature names processes (written.let_be place values inside) have visible numbers scope c ready room is =
    let bound = let_formed signature visible.variables scope numbers.variable values is.0 ready.seen is.1 in
    subst (λ (b : Behaviour). IsBehaviour signature names processes scope b) (sym is.2.2) (
      binders_formed signature numbers.variable (length values) (let_variables is.0) bound.declared,
      bound.terms,
      behaviour_formed signature names processes inside have (with_variables (let_variables is.0) visible)
          (past_variables (length values) numbers) (let_variables is.0 ++ scope) is.2.0
          (ready_variables numbers.variable (length values) (let_variables is.0) bound.declared ready) room is.2.1,
    )
behaviour_formed signature names processes (written.choose_value place variables inside) have visible numbers scope c ready room is =
    let declared = declared_of signature numbers.variable variables is.0 is.1 in
    let onto_is : IsReady signature names processes (with_variables is.0 visible) (numbers.variable + length variables) (onto is.0 scope) =
    subst (λ (n : ℕ). IsReady signature names processes (with_variables is.0 visible) (numbers.variable + n)
    (onto is.0 scope)) declared.counted
    (onto_ready visible scope numbers.variable is.0 declared.numbered declared.sorted ready) in
    subst (λ (b : Behaviour). IsBehaviour signature names processes scope b) (sym is.2.2)
    (under_values_formed signature names processes scope is.0 is.2.0 declared.sorted
    (behaviour_formed signature names processes inside have (with_variables is.0 visible) (past_variables (length variables) numbers)
    (onto is.0 scope) is.2.0 onto_is room is.2.1))
behaviour_formed signature names processes (written.choose_gate place gates inside) have visible numbers scope c ready room is =
    let rooms = two_parts numbers.gate (choice_names gates) (gates_in inside) names room in
    let many = length_names gates in
    let first : numbers.gate + length gates ≤ names = omega (arith, rooms.0, many) in
    let later : (numbers.gate + length gates) + length (gates_in inside) ≤ names = omega (arith, rooms.1, many) in
    subst (λ (b : Behaviour). IsBehaviour signature names processes scope b) (sym is.2.2)
    (under_gates_formed signature names processes scope is.0 is.2.0
    (choices_formed names visible.gates numbers.gate gates is.0 ready.gates first
    (beside_of (first_double (placed_choices gates)) (choices_follow visible.gates numbers.gate gates) is.0 is.1))
    (behaviour_formed signature names processes inside have (with_gates (choice_names gates) numbers.gate visible)
    (past_gates (length gates) numbers) scope is.2.0 (ready_gates (choice_names gates) numbers.gate rooms.0 ready) later is.2.1))
behaviour_formed signature names processes (written.par_gate place gates sign inside) have visible numbers scope c ready room is =
    let rooms = two_parts numbers.gate (choice_names gates) (gates_in inside) names room in
    let many = length_names gates in
    let first : numbers.gate + length gates ≤ names = omega (arith, rooms.0, many) in
    let later : (numbers.gate + length gates) + length (gates_in inside) ≤ names = omega (arith, rooms.1, many) in
    let choices = made_of (choices_at visible.gates numbers.gate gates) _ is.0 is.1 in
    let meets = made_of (signs_follow visible.gates numbers.gate sign gates) _ is.0 choices.2 in
    let pars : EachPar names is.0 =
    subst (EachPar names) (sym (same_resolved is.0 (with_signs choices.0 meets.0) meets.2))
    (pars_formed names visible.gates numbers.gate sign gates choices.0 meets.0 ready.gates first have.0
    (beside_of (first_double (placed_choices gates)) (choices_follow visible.gates numbers.gate gates) choices.0 choices.1) meets.1) in
    subst (λ (b : Behaviour). IsBehaviour signature names processes scope b) (sym is.2.2)
    (under_par_formed signature names processes scope is.0 is.2.0 pars
    (behaviour_formed signature names processes inside have.1 (with_gates (choice_names gates) numbers.gate visible)
    (past_gates (length gates) numbers) scope is.2.0 (ready_gates (choice_names gates) numbers.gate rooms.0 ready) later is.2.1))
behaviour_formed signature names processes (written.binary place sign left right) have visible numbers scope c ready room is =
    let rooms = two_parts numbers.gate (gates_in left) (gates_in right) names room in
    let less : numbers.variable ≤ numbers.variable + variable_count left = omega arith in
    binary_formed signature names processes visible (past left numbers) scope sign is.0 c
    (λ inside behind. BehaviourIs signature inside behind right) (length (gates_in right))
    (ready_later numbers.variable (numbers.variable + variable_count left) less ready) rooms.1
    (behaviour_formed signature names processes left have.0 visible numbers scope is.0 ready rooms.0 is.1)
    (behaviour_formed signature names processes right have.1) is.2
