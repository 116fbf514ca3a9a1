-- A behaviour that means itself is what is written of it stands for.
use Rattle.std.proofs.Common.{◌≡◌, ℕ, suc, Bool, true, nat_eq, List, [], ◌∷◌, ◌++◌, map, length, refl, ap, sym, ◌∙◌, subst}
use Rattle.std.proofs.lemmas.Bool.{eq-eqb}
use Rattle.std.specs.Prelude.{Option, Some, if◌then◌else◌}
use Rattle.lotos_base.specs.Signature.{Signature, IsWellFormedSignature}
use Rattle.lotos_base.specs.Equation.{Place, Variable}
use Rattle.lotos_base.specs.Term.{Term, argument_list_of}
use Rattle.lotos_base.specs.WrittenTerm.{PlacedName, WrittenTerm, written_terms}
use Rattle.syntax_trees.specs.WrittenVariable.{WrittenVariable}
use Rattle.syntax_trees.specs.WrittenBehaviour as written
use Rattle.syntax_trees.specs.WrittenBehaviour.{WrittenBehaviour, WrittenSign, WrittenGateChoice, choice_sign, interleaving, full_synchronisation, synchronising, disabling, enabling}
use Rattle.behaviour_semantics.specs.Behaviour.{Behaviour, choice, parallel, hide, enable, disable, call, SynchronisationSet, no_gates, all_gates, at_gates, Process, asked_variables, let_variables, sorts_of}
use Rattle.printed_texts.specs.BehaviourText.{Naming, gate_text, called_text}
use Rattle.declaration_laws.specs.DeclarationOrder.{Follow, declared_variables_in, gates_bound, variables_bound}
use Rattle.scope_parts.specs.Resolution.{resolved, faulty, Made}
use Rattle.scope_parts.specs.ScopeFault.{gate_count, value_count}
use Rattle.scope_parts.specs.Scope.{Binding, Callable, callable_named, found_process, bind_all}
use Rattle.scope_parts.specs.Numbering.{Numbers, spelled_names, each_once, asked_for, gates_in, variable_count, past_gates, past_variables, past}
use Rattle.scope_parts.specs.Terms.{ValuesAre}
use Rattle.scope_parts.specs.Behaviours.{with_gates, numbers_from, counted_call, CallIs, SignIs, BehaviourIs}
use Rattle.scope_parts.proofs.FormedDefinitions.{length_spelled}
use Rattle.scope_parts.proofs.AnswerLemmas.{value_then}
use Rattle.declaration_laws.proofs.NumberLemmas.{IsMade, behaviour_made, count_is}
use Rattle.session_laws.specs.WrittenAs.{AreWrittenAs}
use Rattle.session_laws.specs.Meanings.{gate_texts, PrintedScope, behind_variables, behind_gates, past_behaviour, behind_left, scope_with, AreDeclaredGates, CallMeans, MeetMeans, BehaviourMeans}
use Rattle.session_laws.specs.TermMeanings.{TermsMean}
use Rattle.session_laws.specs.WrittenBehaviours.{Correspond, IsVariableWritten, IsBindingWritten, AreGatesWritten, IsMeetWritten, interleaving_written, full_written, synchronising_written, IsBehaviourWritten, stop_written, exit_written, action_written, inner_written, guard_written, choice_written, parallel_written, hide_written, enable_written, disable_written, let_written, value_choice_written, gate_choice_written, par_written, call_written}
use Rattle.session_laws.specs.MeaningLaws.{IsCallableOf, AreVisible, WrittenBehavioursAreResolved}
use Rattle.session_laws.proofs.PartsResolved.{all_once, as_long, variables_are, gate_is, gates_are, numbers_same, texts_long, choice_is, par_is, asked_written, offers_are, let_is, exit_values_are, values_are, test_is, predicate_is}

-- ---- Numbers behind a behaviour

follow_long : {A B : Type 0} (Belong : ℕ → A → B → Type 0) (next : ℕ) (xs : List A) (ys : List B) → Follow A B Belong next xs ys
    → length xs ≡ length ys
follow_long Belong next [] [] follow = refl
follow_long Belong next [] (y ∷ ys) follow = absurd follow
follow_long Belong next (x ∷ xs) [] follow = absurd follow
follow_long Belong next (x ∷ xs) (y ∷ ys) follow = ap suc (follow_long Belong (suc next) xs ys follow.1)

pub past_is : (numbers : Numbers) (w : WrittenBehaviour) (b : Behaviour) → IsMade numbers w b → past w numbers ≡ past_behaviour b numbers
past_is numbers w b made =
    let counted : variable_count w ≡ length (variables_bound b) =
    count_is w ∙ follow_long _ numbers.variable (declared_variables_in w) (variables_bound b) made.variables in
    let gates : length (gates_in w) ≡ length (gates_bound b) =
    follow_long _ numbers.gate (gates_in w) (gates_bound b) made.gates in
    ap (λ (n : ℕ). past_variables n (past_gates (length (gates_in w)) numbers)) counted
    ∙ ap (λ (n : ℕ). past_variables (length (variables_bound b)) (past_gates n numbers)) gates

-- ---- Calls

same_count : (n m : ℕ) → n ≡ m → nat_eq n m ≡ true
same_count n m same = eq-eqb n m same

counted_is : (place : Place) (gates values : ℕ) (callable : Callable) → gates ≡ callable.gates → values ≡ length callable.sorts
    → resolved callable ≡ counted_call place gates values callable
counted_is place gates values callable first second =
    sym (ap (λ (b : Bool). if b then if nat_eq values (length callable.sorts) then resolved callable
    else faulty (value_count place (length callable.sorts) values) else faulty (gate_count place callable.gates gates))
    (same_count gates callable.gates first)
    ∙ ap (λ (b : Bool). if b then resolved callable else faulty (value_count place (length callable.sorts) values))
    (same_count values (length callable.sorts) second))

values_long : (signature : Signature) (names : List Variable) (ts : List Term) (ws : List WrittenTerm)
    → AreWrittenAs signature names (argument_list_of ts) (written_terms ws) → length ws ≡ length ts
values_long signature names [] [] writes = refl
values_long signature names [] (w ∷ ws) writes = absurd writes
values_long signature names (t ∷ ts) [] writes = absurd writes
values_long signature names (t ∷ ts) (w ∷ ws) writes = ap suc (values_long signature names ts ws writes.1)

sorts_long : (signature : Signature) (variables names : List Variable) (ts : List Term) (parameters : List Variable)
    → TermsMean signature variables names (argument_list_of ts) (sorts_of parameters)
    → length ts ≡ length (map (λ (x : Variable). Some x.sort) parameters)
sorts_long signature variables names [] [] means = refl
sorts_long signature variables names [] (x ∷ parameters) means = absurd means
sorts_long signature variables names (t ∷ ts) [] means = absurd means
sorts_long signature variables names (t ∷ ts) (x ∷ parameters) means =
    ap suc (sorts_long signature variables names ts parameters means.1)

module _ (naming : Naming) where
  pub gates_long : (gates : List ℕ) (given : List PlacedName) → AreGatesWritten naming gates given → length given ≡ length gates
  gates_long gates given writes =
      sym (length_spelled given) ∙ ap (λ (names : List (List ℕ)). length names) writes ∙ texts_long naming gates

  bound_long : (names : List Variable) (bindings : List (Variable × Term)) (given : List (WrittenVariable × WrittenTerm))
      → Correspond (IsBindingWritten naming names) bindings given → length given ≡ length (let_variables bindings)
  bound_long names [] [] writes = refl
  bound_long names [] (w ∷ given) writes = absurd writes
  bound_long names (b ∷ bindings) [] writes = absurd writes
  bound_long names (b ∷ bindings) (w ∷ given) writes = ap suc (bound_long names bindings given writes.1)

module _ (naming : Naming) (processes : List Process) (callables : List Callable) (well : IsWellFormedSignature naming.signature)
    (visible : AreVisible naming processes callables) where
  call_is : (scope : PrintedScope) (place : Place) (name : List ℕ) (number : ℕ) (gates : List ℕ) (terms : List Term)
      (given : List PlacedName) (values : List WrittenTerm) → name ≡ called_text naming number → AreGatesWritten naming gates given
      → AreWrittenAs naming.signature scope.names (argument_list_of terms) (written_terms values)
      → CallMeans naming processes scope number gates terms
      → CallIs naming.signature (scope_with callables scope) place name given values (resolved (call number gates terms))
  call_is scope place name number gates terms given values named listed writes means = (
    callable,
    value_then (found_process place name (callable_named callables name)) callable (counted_call place (length given) (length values))
        (resolved callable)
        (sym (ap (λ (o : Option Callable). found_process place name o)
        (ap (λ (key : List ℕ). callable_named callables key) named ∙ seen.1)))
        (counted_is place (length given) (length values) callable many_gates many_values),
    (
      gates,
      gates_are naming scope.gates gates given means.gates_mean listed,
      (
        terms,
        subst (λ (sorts : List (Option ℕ)). ValuesAre naming.signature scope.variables sorts values (resolved terms))
            (sym seen.2.sorts) (values_are naming well scope means.process.parameters terms values means.values_mean writes),
        ap (λ (n : ℕ). call n gates terms) (sym seen.2.numbered),
      ),
    ),
  )
    where
      seen : (callable : Callable) × (callable_named callables (called_text naming number) ≡ Some callable)
          × IsCallableOf number means.process callable
      seen = visible number means.process means.there

      callable : Callable
      callable = seen.0

      many_gates : length given ≡ callable.gates
      many_gates = gates_long naming gates given listed ∙ means.gate_count ∙ sym seen.2.gates

      many_values : length values ≡ length callable.sorts
      many_values =
          values_long naming.signature scope.names terms values writes
          ∙ sorts_long naming.signature scope.variables scope.names terms means.process.parameters means.values_mean
          ∙ ap (λ (sorts : List (Option ℕ)). length sorts) (sym seen.2.sorts)

  -- ---- Signs

  -- what stands behind the left side of a sign is numbered behind what the left side declares
  sign_behind : (scope : PrintedScope) (left : WrittenBehaviour) (b : Behaviour) (sign : WrittenSign) (right : WrittenBehaviour)
      (whole : Behaviour) → BehaviourIs naming.signature (scope_with callables scope) scope.numbers left (resolved b)
      → SignIs naming.signature (scope_with callables scope) (past_behaviour b scope.numbers) sign b
      (λ inside behind. BehaviourIs naming.signature inside behind right) (resolved whole)
      → SignIs naming.signature (scope_with callables scope) (past left scope.numbers) sign b
      (λ inside behind. BehaviourIs naming.signature inside behind right) (resolved whole)
  sign_behind scope left b sign right whole first =
      subst
      (λ (n : Numbers). SignIs naming.signature (scope_with callables scope) n sign b
      (λ inside behind. BehaviourIs naming.signature inside behind right) (resolved whole))
      (sym (past_is scope.numbers left b (behaviour_made naming.signature left (scope_with callables scope) scope.numbers b first)))

  meet_sign_is : (scope : PrintedScope) (numbers : Numbers) (meet : SynchronisationSet) (sign : WrittenSign) (b c : Behaviour)
      (right : WrittenBehaviour) → MeetMeans naming scope meet → IsMeetWritten naming meet sign
      → BehaviourIs naming.signature (scope_with callables scope) numbers right (resolved c)
      → SignIs naming.signature (scope_with callables scope) numbers sign b
      (λ inside behind. BehaviourIs naming.signature inside behind right) (resolved (parallel meet b c))
  meet_sign_is scope numbers no_gates sign b c right means interleaving_written second = (c, second, refl)
  meet_sign_is scope numbers all_gates sign b c right means full_written second = (c, second, refl)
  meet_sign_is scope numbers (at_gates gates) sign b c right means (synchronising_written {given = given} writes) second =
      (gates, gates_are naming scope.gates gates given means writes, (c, second, refl))

  -- ---- Behaviours

  abbrev at : List Binding → List Variable → List Variable → Numbers → PrintedScope
  at gates variables names numbers = record { gates = gates; variables = variables; names = names; numbers = numbers }

  hidden_is : (scope : PrintedScope) (place : Place) (gates : List ℕ) (given : List PlacedName) (b : Behaviour)
      (inside : WrittenBehaviour) → AreDeclaredGates naming scope.numbers.gate gates → AreGatesWritten naming gates given
      → BehaviourIs naming.signature (scope_with callables (behind_gates naming gates scope)) (behind_gates naming gates scope).numbers
      inside (resolved b)
      → BehaviourIs naming.signature (scope_with callables scope) scope.numbers (written.hide place given inside) (resolved (hide gates b))
  hidden_is scope place gates given b inside declared writes inner =
      subst
      (λ (names : List (List ℕ)). Made (λ within. hide (numbers_from scope.numbers.gate names) within)
      (BehaviourIs naming.signature (with_gates names scope.numbers.gate (scope_with callables scope))
      (past_gates (length names) scope.numbers) inside) (resolved (hide gates b)))
      (sym same) (
        b,
        subst
            (λ (n : ℕ). BehaviourIs naming.signature (scope_with callables (behind_gates naming gates scope)) (past_gates n scope.numbers)
            inside (resolved b))
            (sym (texts_long naming gates)) inner,
        ap (λ (gs : List ℕ). hide gs b)
            (sym (numbers_same naming (gate_text naming) scope.numbers.gate gates ∙ declared.numbered)),
      )
    where
      same : each_once (spelled_names given) ≡ gate_texts naming gates
      same = ap (λ (names : List (List ℕ)). each_once names) writes ∙ all_once [] (gate_texts naming gates) declared.distinct

  under_gate : (scope : PrintedScope) (gate : ℕ) (name : List ℕ) (b : Behaviour) (inside : WrittenBehaviour)
      → name ≡ gate_text naming gate
      → BehaviourIs naming.signature (scope_with callables (behind_gates naming (gate ∷ []) scope))
      (behind_gates naming (gate ∷ []) scope).numbers inside (resolved b)
      → BehaviourIs naming.signature (with_gates (name ∷ []) scope.numbers.gate (scope_with callables scope))
      (past_gates 1 scope.numbers) inside (resolved b)
  under_gate scope gate name b inside named =
      subst
      (λ (n : List ℕ). BehaviourIs naming.signature (with_gates (n ∷ []) scope.numbers.gate (scope_with callables scope))
      (past_gates 1 scope.numbers) inside (resolved b))
      (sym named)

  pub resolves : (gates : List Binding) (variables names : List Variable) (numbers : Numbers) (b : Behaviour) (w : WrittenBehaviour)
      → IsBehaviourWritten naming names b w → BehaviourMeans naming processes (at gates variables names numbers) b
      → BehaviourIs naming.signature (scope_with callables (at gates variables names numbers)) numbers w (resolved b)
  resolves gates variables names numbers b w stop_written means = refl
  resolves gates variables names numbers b w (exit_written {results = results} {values = values} writes) means =
      (results, exit_values_are naming well (at gates variables names numbers) results values means writes, refl)
  resolves gates variables names numbers b w
      (action_written {place = place} {gate = gate} {offers = offers} {test = test} {b = next} {name = name} {given = given}
      {premiss = premiss} {next = inside} named asks tests writes) means = (
        gate,
        gate_is naming gates gate (record { place = place; name = name }) means.0 named,
        (
          offers,
          offers_are naming well (at gates variables names numbers) numbers.variable offers given means.1 means.2 asks,
          (
            test,
            predicate_is naming well (behind_variables (asked_variables offers) (at gates variables names numbers)) test premiss means.3
                tests,
            (
              next,
              subst
                  (λ (n : ℕ). BehaviourIs naming.signature
                  (scope_with callables (behind_variables (asked_variables offers) (at gates variables names numbers)))
                  (past_variables n numbers) inside (resolved next))
                  (sym (as_long (IsVariableWritten naming.signature) (asked_variables offers) (asked_for given)
                  (asked_written naming well (at gates variables names numbers) offers given asks)))
                  (resolves gates (variables ++ asked_variables offers) (asked_variables offers ++ names)
                  (past_variables (length (asked_variables offers)) numbers) next inside writes means.4),
              refl,
            ),
          ),
        ),
      )
  resolves gates variables names numbers b w (inner_written {b = next} {next = inside} writes) means =
      (next, resolves gates variables names numbers next inside writes means, refl)
  resolves gates variables names numbers b w
      (guard_written {test = test} {b = next} {premiss = premiss} {next = inside} tests writes) means = (
        test,
        test_is naming well (at gates variables names numbers) test premiss means.0 tests,
        (next, resolves gates variables names numbers next inside writes means.1, refl),
      )
  resolves gates variables names numbers b w (choice_written {b = one} {c = other} {left = left} {right = right} first second) means =
      let here = resolves gates variables names numbers one left first means.0 in (
        one,
        here,
        sign_behind (at gates variables names numbers) left one choice_sign right (choice one other) here
            (other, resolves gates variables names (past_behaviour one numbers) other right second means.1, refl),
      )
  resolves gates variables names numbers b w
      (parallel_written {meet = meet} {sign = sign} {b = one} {c = other} {left = left} {right = right} meets first second) means =
      let here = resolves gates variables names numbers one left first means.1 in (
        one,
        here,
        sign_behind (at gates variables names numbers) left one sign right (parallel meet one other) here
            (meet_sign_is (at gates variables names numbers) (past_behaviour one numbers) meet sign one other right means.0 meets
            (resolves gates variables names (past_behaviour one numbers) other right second means.2)),
      )
  resolves gates variables names numbers b w
      (hide_written {place = place} {gates = hidden} {b = next} {given = given} {inside = inside} listed writes) means =
      hidden_is (at gates variables names numbers) place hidden given next inside means.0 listed
      (resolves (bind_all (gate_texts naming hidden) numbers.gate gates) variables names (past_gates (length hidden) numbers) next inside
      writes means.1)
  resolves gates variables names numbers b w
      (enable_written {variables = xs} {given = given} {b = one} {c = other} {left = left} {right = right} first accepts second) means =
      let here = resolves gates variables names numbers one left first means.0 in (
        one,
        here,
        sign_behind (at gates variables names numbers) left one (enabling given) right (enable one xs other) here (
          xs,
          variables_are naming.signature (past_behaviour one numbers).variable xs given means.1 accepts,
          (
            other,
            subst
                (λ (n : ℕ). BehaviourIs naming.signature
                (scope_with callables (behind_variables xs (behind_left one (at gates variables names numbers))))
                (past_variables n (past_behaviour one numbers)) right (resolved other))
                (sym (as_long (IsVariableWritten naming.signature) xs given accepts))
                (resolves gates (variables ++ xs) (xs ++ names) (past_variables (length xs) (past_behaviour one numbers)) other right
                second means.2),
            refl,
          ),
        ),
      )
  resolves gates variables names numbers b w (disable_written {b = one} {c = other} {left = left} {right = right} first second) means =
      let here = resolves gates variables names numbers one left first means.0 in (
        one,
        here,
        sign_behind (at gates variables names numbers) left one disabling right (disable one other) here
            (other, resolves gates variables names (past_behaviour one numbers) other right second means.1, refl),
      )
  resolves gates variables names numbers b w
      (let_written {bindings = bindings} {given = given} {b = next} {inside = inside} binds writes) means = (
        bindings,
        let_is naming well (at gates variables names numbers) numbers.variable bindings given means.0 means.1 binds,
        (
          next,
          subst
              (λ (n : ℕ). BehaviourIs naming.signature
              (scope_with callables (behind_variables (let_variables bindings) (at gates variables names numbers)))
              (past_variables n numbers) inside (resolved next))
              (sym (bound_long naming names bindings given binds))
              (resolves gates (variables ++ let_variables bindings) (let_variables bindings ++ names)
              (past_variables (length (let_variables bindings)) numbers) next inside writes means.2),
          refl,
        ),
      )
  resolves gates variables names numbers b w
      (value_choice_written {x = x} {given = given} {b = next} {inside = inside} declares writes) means = (
        x ∷ [],
        variables_are naming.signature numbers.variable (x ∷ []) (given ∷ []) means.0 (declares, tt),
        (next, resolves gates (variables ++ x ∷ []) (x ∷ names) (past_variables 1 numbers) next inside writes means.1, refl),
      )
  resolves gates variables names numbers b w
      (gate_choice_written {gate = gate} {among = among} {given = given} {b = next} {inside = inside} declares writes) means = (
        record { gate = gate; among = among } ∷ [],
        choice_is naming gates numbers.gate gate among given means.1.numbered means.0 declares,
        (
          next,
          under_gate (at gates variables names numbers) gate given.name next inside declares.named
              (resolves (bind_all (gate_texts naming (gate ∷ [])) numbers.gate gates) variables names (past_gates 1 numbers) next inside
              writes
              means.2),
          refl,
        ),
      )
  resolves gates variables names numbers b w
      (par_written {gate = gate} {among = among} {meet = meet} {given = given} {sign = sign} {b = next} {inside = inside} declares signs
      writes) means = (
        record { choice_ = record { gate = gate; among = among }; meet = meet } ∷ [],
        par_is naming (at gates variables names numbers) numbers.gate gate among meet given sign means.2.numbered means.0 means.1 declares
            signs,
        (
          next,
          under_gate (at gates variables names numbers) gate given.name next inside declares.named
              (resolves (bind_all (gate_texts naming (gate ∷ [])) numbers.gate gates) variables names (past_gates 1 numbers) next inside
              writes
              means.3),
          refl,
        ),
      )
  resolves gates variables names numbers b w
      (call_written {place = place} {number = number} {gates = given_gates} {terms = terms} {name = name} {given = given}
      {values = values} named listed writes) means =
      call_is (at gates variables names numbers) place name number given_gates terms given values named listed writes means

pub behaviours_are_resolved : WrittenBehavioursAreResolved
behaviours_are_resolved naming processes callables scope b w well visible writes means =
    resolves naming processes callables well visible scope.gates scope.variables scope.names scope.numbers b w writes means
