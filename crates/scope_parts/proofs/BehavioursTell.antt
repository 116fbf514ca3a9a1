-- Behaviours tell the first of their faults.
use Rattle.std.proofs.Common.{◌≡◌, ◌≢◌, ℕ, List, [], ◌∷◌, ◌++◌, length, Bool, true, false, nat_eq, inl, inr, refl, ap, sym, ◌∙◌, subst, arith}
use Rattle.std.specs.Prelude.{◌⊎◌, Option, None, Some, if◌then◌else◌}
use Rattle.std.proofs.lemmas.Bool.{eqb-true, eqb-false}
use Rattle.scope_parts.proofs.FormedLists.{never_faulty, same_resolved}
use Rattle.lotos_base.specs.Equation.{Place, Variable}
use Rattle.lotos_base.specs.Signature.{Signature}
use Rattle.lotos_base.specs.Term.{Term}
use Rattle.lotos_base.specs.WrittenTerm.{PlacedName, WrittenTerm}
use Rattle.syntax_trees.specs.WrittenBehaviour as written
use Rattle.syntax_trees.specs.WrittenBehaviour.{WrittenBehaviour, WrittenSign, choice_sign, interleaving, full_synchronisation, synchronising, disabling, enabling}
use Rattle.behaviour_semantics.specs.Behaviour.{Behaviour, Offer, Test, asked_variables, let_variables, stop, call, action, guard, let_be, parallel, at_gates, enable}
use Rattle.scope_parts.specs.ScopeFault.{ScopeFault, unknown_process, gate_count, value_count}
use Rattle.scope_parts.specs.Resolution.{Resolution, resolved, faulty, and_then, Is, ThenResolves, Made}
use Rattle.scope_parts.specs.Scope.{Scope, Callable, callable_named, found_process, gate_at, gates_at}
use Rattle.scope_parts.specs.Numbering.{Numbers, spelled_names, each_once, asked_for, choice_names, past_gates, past_variables, past}
use Rattle.scope_parts.specs.Sorts.{variables_at}
use Rattle.scope_parts.specs.Terms.{ValuesAre, LetIs, OffersAre}
use Rattle.scope_parts.specs.Choices.{GateChoice, ParChoice, under_gates, under_par, under_values}
use Rattle.scope_parts.specs.Behaviours.{with_gates, with_variables, counted_call, SignIs, BehaviourIs}
use Rattle.scope_parts.proofs.OnceLemmas.{is_once}
use Rattle.scope_parts.specs.Order.{StandWhollyBefore, InTurn, Rising, joined_places, NotAfter}
use Rattle.scope_parts.specs.TermPlaces.{name_places, premiss_places}
use Rattle.scope_parts.specs.PartFaults.{GatesHave}
use Rattle.scope_parts.specs.PartPlaces.{variable_places, value_places, let_places, offers_places, choice_places, sign_places, SignFollows}
use Rattle.scope_parts.specs.BehaviourFaults.{CalledHas, ArgumentsHave, BehindSign, HasFault}
use Rattle.scope_parts.specs.BehaviourPlaces.{test_places, behaviour_places, Follows}
use Rattle.scope_parts.specs.FirstFault.{TellsFirstFault}
use Rattle.scope_parts.proofs.OrderLemmas.{same_not_after, before_both, both_before}
use Rattle.scope_parts.proofs.TellsLemmas.{Within, apart, answers_within, single_tells, done_tells, then_tells, seeing_tells, made_tells, same_fault}
use Rattle.scope_parts.proofs.TermsWithin.{test_within, test_option_within}
use Rattle.scope_parts.proofs.PartsWithin.{gate_place, gates_within, variables_within, let_within, offers_within, choices_within, signs_within}
use Rattle.scope_parts.proofs.BehavioursWithin.{both_within, seeing_within, BehindOffers, behind_offers_within, BehindLet, BehindVariables, called_within, arguments_within, sign_behind_within, behaviour_within}
use Rattle.scope_parts.proofs.PartsTell.{gates_tell, variables_tell, exit_values_tell, values_tell, let_once, let_tells, offers_once, offers_tell, test_once, test_option_once, choices_tell, par_choices_tell}

-- ---- Calls

-- the counts, once each is compared
abbrev counted_so : Place → ℕ → ℕ → Callable → Bool → Bool → Resolution Callable
counted_so place gates values p one other =
    if one then if other then resolved p else faulty (value_count place (length p.sorts) values) else faulty
    (gate_count place p.gates gates)

wrong_gates : (place : Place) (gates values : ℕ) (p : Callable) (other : Bool) → gates ≢ p.gates
    → TellsFirstFault (Is (counted_so place gates values p false other)) (CalledHas place [] gates values (Some p))
wrong_gates place gates values p other ne = record {
  found = λ f h. inl (ne, same_fault f (gate_count place p.gates gates) h);
  first = behind;
  none = λ x g h k. never_faulty x (gate_count place p.gates gates) h;
}
  where
    behind : (f g : ScopeFault) → faulty f ≡ counted_so place gates values p false other → CalledHas place [] gates values (Some p) g
        → NotAfter f g
    behind f g h (inl k) = same_not_after f g (same_fault f (gate_count place p.gates gates) h ∙ sym k.1)
    behind f g h (inr k) =
        subst (λ (x : ScopeFault). NotAfter x g) (sym (same_fault f (gate_count place p.gates gates) h))
        (subst (λ (x : ScopeFault). NotAfter (gate_count place p.gates gates) x) (sym k.1) (inr (refl, omega arith)))

wrong_values : (place : Place) (gates values : ℕ) (p : Callable) → gates ≡ p.gates → values ≢ length p.sorts
    → TellsFirstFault (Is (counted_so place gates values p true false)) (CalledHas place [] gates values (Some p))
wrong_values place gates values p eq ne = record {
  found = λ f h. inr (ne, same_fault f (value_count place (length p.sorts) values) h);
  first = behind;
  none = λ x g h k. never_faulty x (value_count place (length p.sorts) values) h;
}
  where
    behind : (f g : ScopeFault) → faulty f ≡ counted_so place gates values p true false → CalledHas place [] gates values (Some p) g
        → NotAfter f g
    behind f g h (inl k) = absurd (k.0 eq)
    behind f g h (inr k) = same_not_after f g (same_fault f (value_count place (length p.sorts) values) h ∙ sym k.1)

right_counts : (place : Place) (gates values : ℕ) (p : Callable) → gates ≡ p.gates → values ≡ length p.sorts
    → TellsFirstFault (Is (counted_so place gates values p true true)) (CalledHas place [] gates values (Some p))
right_counts place gates values p eq same = record {
  found = λ f h. never_faulty p f (sym h);
  first = λ f g h k. never_faulty p f (sym h);
  none = nothing;
}
  where
    nothing : (x : Callable) (g : ScopeFault) → resolved x ≡ counted_so place gates values p true true
        → ¬ CalledHas place [] gates values (Some p) g
    nothing x g h (inl k) = k.0 eq
    nothing x g h (inr k) = k.0 same

counts_tell : (place : Place) (gates values : ℕ) (p : Callable)
    → TellsFirstFault (Is (counted_call place gates values p)) (CalledHas place [] gates values (Some p))
counts_tell place gates values p = by_gates (nat_eq gates p.gates) (nat_eq values (length p.sorts)) refl refl
  where
    by_gates : (one other : Bool) → nat_eq gates p.gates ≡ one → nat_eq values (length p.sorts) ≡ other
        → TellsFirstFault (Is (counted_so place gates values p one other)) (CalledHas place [] gates values (Some p))
    by_gates false other e d = wrong_gates place gates values p other (eqb-false gates p.gates e)
    by_gates true false e d =
        wrong_values place gates values p (eqb-true gates p.gates e) (eqb-false values (length p.sorts) d)
    by_gates true true e d =
        right_counts place gates values p (eqb-true gates p.gates e) (eqb-true values (length p.sorts) d)

-- the process that is counted is the one that is found
counted_same : (place : Place) (gates values : ℕ) (p x : Callable) → resolved x ≡ counted_call place gates values p → x ≡ p
counted_same place gates values p x h = by_gates (nat_eq gates p.gates) (nat_eq values (length p.sorts)) h
  where
    by_gates : (one other : Bool) → resolved x ≡ counted_so place gates values p one other → x ≡ p
    by_gates true true e = same_resolved x p e
    by_gates true false e = never_faulty x (value_count place (length p.sorts) values) e
    by_gates false other e = never_faulty x (gate_count place p.gates gates) e

called_tells : (place : Place) (name : List ℕ) (gates values : ℕ) (found : Option Callable)
    → TellsFirstFault (Is (and_then (found_process place name found) (counted_call place gates values)))
    (CalledHas place name gates values found)
called_tells place name gates values None = record {
  found = λ f h. same_fault f (unknown_process place name) h;
  first = λ f g h k. same_not_after f g (same_fault f (unknown_process place name) h ∙ sym k);
  none = λ x g h k. never_faulty x (unknown_process place name) h;
}
called_tells place name gates values (Some p) = counts_tell place gates values p

called_same : (place : Place) (name : List ℕ) (gates values : ℕ) (found : Option Callable) (x : Callable)
    → resolved x ≡ and_then (found_process place name found) (counted_call place gates values) → found ≡ Some x
called_same place name gates values None x h = never_faulty x (unknown_process place name) h
called_same place name gates values (Some p) x h = ap Some (sym (counted_same place gates values p x h))

call_tells : (signature : Signature) (scope : Scope) (place : Place) (name : List ℕ) (gates : List PlacedName) (values : List WrittenTerm)
    (found : Option Callable) → InTurn ((place ∷ []) ∷ name_places gates ∷ joined_places (value_places values) ∷ [])
    → Rising (name_places gates)
    → InTurn (value_places values)
    → TellsFirstFault (ThenResolves (Is (and_then (found_process place name found) (counted_call place (length gates) (length values))))
    (λ (callable : Callable). ThenResolves (Is (gates_at scope.gates gates))
    (λ numbers. Made (λ terms. call callable.number numbers terms) (ValuesAre signature scope.variables callable.sorts values))))
    (λ f. CalledHas place name (length gates) (length values) found f
    ⊎ (GatesHave scope.gates gates f ⊎ ArgumentsHave signature scope.variables found values f))
call_tells signature scope place name gates values found turn rise later =
    then_tells (called_tells place name (length gates) (length values) found) inside
    (apart (place ∷ []) (name_places gates ++ joined_places (value_places values))
    (answers_within (place ∷ []) (called_tells place name (length gates) (length values) found)
    (called_within place name (length gates) (length values) found))
    (both_within (name_places gates) (joined_places (value_places values)) (gates_within scope.gates gates)
    (arguments_within signature scope.variables found values))
    (before_both (place ∷ []) (name_places gates) (joined_places (value_places values)) turn.0.0 turn.0.1.0))
  where
    arguments : (x : Callable) → found ≡ Some x → TellsFirstFault (ValuesAre signature scope.variables x.sorts values)
        (ArgumentsHave signature scope.variables found values)
    arguments x is =
        subst
        (λ (o : Option Callable). TellsFirstFault (ValuesAre signature scope.variables x.sorts values)
        (ArgumentsHave signature scope.variables o values))
        (sym is) (values_tell signature scope.variables x.sorts values later)

    inside : (x : Callable)
        → resolved x ≡ and_then (found_process place name found) (counted_call place (length gates) (length values))
        → TellsFirstFault (ThenResolves (Is (gates_at scope.gates gates))
        (λ numbers. Made (λ terms. call x.number numbers terms) (ValuesAre signature scope.variables x.sorts values)))
        (λ f. GatesHave scope.gates gates f ⊎ ArgumentsHave signature scope.variables found values f)
    inside x is =
        then_tells (gates_tell scope.gates gates rise)
        (λ numbers so. made_tells (λ terms. call x.number numbers terms)
        (arguments x (called_same place name (length gates) (length values) found x is)))
        (apart (name_places gates) (joined_places (value_places values))
        (answers_within (name_places gates) (gates_tell scope.gates gates rise) (gates_within scope.gates gates))
        (arguments_within signature scope.variables found values) turn.1.0.0)

-- ---- Signs

sign_tells : (signature : Signature) (scope : Scope) (numbers : Numbers) (sign : WrittenSign) (left : Behaviour)
    (Right : Scope → Numbers → Resolution Behaviour → Type 0) (Has : Scope → Numbers → ScopeFault → Type 0) (ps : List Place)
    → SignFollows sign → StandWhollyBefore (sign_places sign) ps → ((s : Scope) (n : Numbers) → TellsFirstFault (Right s n) (Has s n))
    → ((s : Scope) (n : Numbers) → Within (Has s n) ps)
    → TellsFirstFault (SignIs signature scope numbers sign left Right) (BehindSign signature scope numbers sign Has)
sign_tells signature scope numbers choice_sign left Right Has ps follow before right within = made_tells _ (right scope numbers)
sign_tells signature scope numbers interleaving left Right Has ps follow before right within = made_tells _ (right scope numbers)
sign_tells signature scope numbers full_synchronisation left Right Has ps follow before right within = made_tells _ (right scope numbers)
sign_tells signature scope numbers (synchronising names) left Right Has ps follow before right within =
    then_tells (gates_tell scope.gates names follow)
    (λ (gates : List ℕ) is. made_tells (λ behind. parallel (at_gates gates) left behind) (right scope numbers))
    (apart (name_places names) ps
    (answers_within (name_places names) (gates_tell scope.gates names follow) (gates_within scope.gates names)) (within scope numbers)
    before)
sign_tells signature scope numbers disabling left Right Has ps follow before right within = made_tells _ (right scope numbers)
sign_tells signature scope numbers (enabling accepted) left Right Has ps follow before right within =
    then_tells (variables_tell signature numbers.variable accepted follow)
    (λ (variables : List Variable) is. made_tells (λ behind. enable left variables behind)
    (seeing_tells
    (λ (xs : List Variable). Has (with_variables xs scope) (past_variables (length accepted) numbers)) variables is
    (is_once (variables_at signature numbers.variable accepted))
    (right (with_variables variables scope) (past_variables (length accepted) numbers))))
    (apart (variable_places accepted) ps
    (answers_within (variable_places accepted) (variables_tell signature numbers.variable accepted follow)
    (variables_within signature numbers.variable accepted))
    (seeing_within (Is (variables_at signature numbers.variable accepted))
    (λ (variables : List Variable). Has (with_variables variables scope) (past_variables (length accepted) numbers)) ps
    (λ (variables : List Variable). within (with_variables variables scope) (past_variables (length accepted) numbers))) before)

-- ---- Behaviours

pub behaviours_tell : (signature : Signature) (scope : Scope) (numbers : Numbers) (b : WrittenBehaviour) → Follows b
    → TellsFirstFault (BehaviourIs signature scope numbers b) (HasFault signature scope numbers b)
behaviours_tell signature scope numbers (written.stop place) follow = done_tells stop
behaviours_tell signature scope numbers (written.exit place values) follow =
    made_tells _ (exit_values_tell signature scope.variables values follow)
behaviours_tell signature scope numbers (written.call place name gates values) follow =
    call_tells signature scope place name gates values (callable_named scope.processes name) follow.0 follow.1 follow.2
behaviours_tell signature scope numbers (written.action place gate offers test next) follow =
    then_tells (single_tells (is_once (gate_at scope.gates (record { place = place; name = gate }))))
    (λ (number : ℕ) so. then_tells (offers_tell signature scope.variables numbers.variable offers follow.1)
    (λ (given : List Offer) is. seeing_tells (BehindOffers signature scope numbers offers test next) given is
    (offers_once signature scope.variables numbers.variable offers)
    (then_tells (single_tells (test_option_once signature (with_variables (asked_variables given) scope).variables test))
    (λ (predicate : Option Test) so_too. made_tells (λ behind. action number given predicate behind)
    (behaviours_tell signature (with_variables (asked_variables given) scope) (past_variables (length (asked_for offers)) numbers) next
    follow.2))
    (apart (test_places test) (behaviour_places next)
    (test_option_within signature (with_variables (asked_variables given) scope).variables test)
    (behaviour_within signature (with_variables (asked_variables given) scope) (past_variables (length (asked_for offers)) numbers) next)
    follow.0.1.1.0.0)))
    (apart (offers_places offers) (test_places test ++ behaviour_places next)
    (answers_within (offers_places offers) (offers_tell signature scope.variables numbers.variable offers follow.1)
    (offers_within signature scope.variables numbers.variable offers))
    (seeing_within (OffersAre signature scope.variables numbers.variable offers)
    (BehindOffers signature scope numbers offers test next) (test_places test ++ behaviour_places next)
    (behind_offers_within signature scope numbers offers test next))
    (before_both (offers_places offers) (test_places test) (behaviour_places next) follow.0.1.0.0 follow.0.1.0.1.0)))
    (apart (place ∷ []) (offers_places offers ++ (test_places test ++ behaviour_places next))
    (λ f h. inl (gate_place scope.gates (record { place = place; name = gate }) f h))
    (both_within (offers_places offers) (test_places test ++ behaviour_places next)
    (offers_within signature scope.variables numbers.variable offers)
    (seeing_within (OffersAre signature scope.variables numbers.variable offers)
    (BehindOffers signature scope numbers offers test next) (test_places test ++ behaviour_places next)
    (behind_offers_within signature scope numbers offers test next)))
    (before_both (place ∷ []) (offers_places offers) (test_places test ++ behaviour_places next) follow.0.0.0
    (before_both (place ∷ []) (test_places test) (behaviour_places next) follow.0.0.1.0 follow.0.0.1.1.0)))
behaviours_tell signature scope numbers (written.inner_action place next) follow =
    made_tells _ (behaviours_tell signature scope numbers next follow)
behaviours_tell signature scope numbers (written.guard place test next) follow =
    then_tells (single_tells (test_once signature scope.variables test))
    (λ (premiss : Test) is. made_tells (λ behind. guard premiss behind) (behaviours_tell signature scope numbers next follow.1))
    (apart (premiss_places test) (behaviour_places next) (test_within signature scope.variables test)
    (behaviour_within signature scope numbers next) follow.0.0.0)
behaviours_tell signature scope numbers (written.hide place gates inside) follow =
    made_tells _
    (behaviours_tell signature (with_gates (each_once (spelled_names gates)) numbers.gate scope)
    (past_gates (length (each_once (spelled_names gates))) numbers) inside follow)
behaviours_tell signature scope numbers (written.let_be place values inside) follow =
    then_tells (let_tells signature scope.variables numbers.variable values follow.1)
    (λ (bindings : List (Variable × Term)) is. made_tells (λ within. let_be bindings within)
    (seeing_tells (BehindLet signature scope numbers values inside) bindings is
    (let_once signature scope.variables numbers.variable values)
    (behaviours_tell signature (with_variables (let_variables bindings) scope) (past_variables (length values) numbers) inside follow.2)))
    (apart (let_places values) (behaviour_places inside)
    (answers_within (let_places values) (let_tells signature scope.variables numbers.variable values follow.1)
    (let_within signature scope.variables numbers.variable values))
    (seeing_within (LetIs signature scope.variables numbers.variable values) (BehindLet signature scope numbers values inside)
    (behaviour_places inside)
    (λ (bindings : List (Variable × Term)). behaviour_within signature (with_variables (let_variables bindings) scope)
    (past_variables (length values) numbers) inside))
    follow.0.0.0)
behaviours_tell signature scope numbers (written.choose_value place variables inside) follow =
    then_tells (variables_tell signature numbers.variable variables follow.1)
    (λ (chosen : List Variable) is. made_tells (λ within. under_values chosen within)
    (seeing_tells (BehindVariables signature scope numbers variables inside) chosen is
    (is_once (variables_at signature numbers.variable variables))
    (behaviours_tell signature (with_variables chosen scope) (past_variables (length variables) numbers) inside follow.2)))
    (apart (variable_places variables) (behaviour_places inside)
    (answers_within (variable_places variables) (variables_tell signature numbers.variable variables follow.1)
    (variables_within signature numbers.variable variables))
    (seeing_within (Is (variables_at signature numbers.variable variables)) (BehindVariables signature scope numbers variables inside)
    (behaviour_places inside)
    (λ (chosen : List Variable). behaviour_within signature (with_variables chosen scope) (past_variables (length variables) numbers)
    inside))
    follow.0.0.0)
behaviours_tell signature scope numbers (written.choose_gate place gates inside) follow =
    then_tells (choices_tell scope.gates numbers.gate gates follow.1)
    (λ (choices : List GateChoice) is. made_tells (λ within. under_gates choices within)
    (behaviours_tell signature (with_gates (choice_names gates) numbers.gate scope) (past_gates (length gates) numbers) inside follow.2))
    (apart (choice_places gates) (behaviour_places inside)
    (answers_within (choice_places gates) (choices_tell scope.gates numbers.gate gates follow.1)
    (choices_within scope.gates numbers.gate gates))
    (behaviour_within signature (with_gates (choice_names gates) numbers.gate scope) (past_gates (length gates) numbers) inside)
    follow.0.0.0)
behaviours_tell signature scope numbers (written.par_gate place gates sign inside) follow =
    then_tells (par_choices_tell scope.gates numbers.gate sign gates follow.1 follow.2 follow.0.0.0)
    (λ (pars : List ParChoice) is. made_tells (λ within. under_par pars within)
    (behaviours_tell signature (with_gates (choice_names gates) numbers.gate scope) (past_gates (length gates) numbers) inside follow.3))
    (apart (choice_places gates ++ sign_places sign) (behaviour_places inside)
    (answers_within (choice_places gates ++ sign_places sign)
    (par_choices_tell scope.gates numbers.gate sign gates follow.1 follow.2 follow.0.0.0)
    (both_within (choice_places gates) (sign_places sign) (choices_within scope.gates numbers.gate gates)
    (signs_within scope.gates numbers.gate sign gates)))
    (behaviour_within signature (with_gates (choice_names gates) numbers.gate scope) (past_gates (length gates) numbers) inside)
    (both_before (choice_places gates) (sign_places sign) (behaviour_places inside) follow.0.0.1.0 follow.0.1.0.0))
behaviours_tell signature scope numbers (written.binary place sign left right) follow =
    then_tells (behaviours_tell signature scope numbers left follow.2)
    (λ (first : Behaviour) is. sign_tells signature scope (past left numbers) sign first
    (λ inside behind. BehaviourIs signature inside behind right)
    (λ inside behind. HasFault signature inside behind right) (behaviour_places right) follow.1 follow.0.1.0.0
    (λ s n. behaviours_tell signature s n right follow.3) (λ s n. behaviour_within signature s n right))
    (apart (behaviour_places left) (sign_places sign ++ behaviour_places right)
    (answers_within (behaviour_places left) (behaviours_tell signature scope numbers left follow.2)
    (behaviour_within signature scope numbers left))
    (sign_behind_within signature scope (past left numbers) sign (λ inside behind. HasFault signature inside behind right)
    (behaviour_places right) (λ s n. behaviour_within signature s n right))
    (before_both (behaviour_places left) (sign_places sign) (behaviour_places right) follow.0.0.0 follow.0.0.1.0))
