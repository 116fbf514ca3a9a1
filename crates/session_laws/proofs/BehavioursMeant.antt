-- What a behaviour as it is written stands for means itself where it is written.
use Rattle.std.proofs.Common.{◌≡◌, ℕ, ◌+◌, ◌<◌, Bool, true, false, nat_eq, List, [], ◌++◌, map, length, refl, ap, sym, ◌∙◌, subst, arith}
use Rattle.std.proofs.lemmas.Bool.{eqb-true}
use Rattle.std.specs.Prelude.{Option, Some, slice_get, if◌then◌else◌}
use Rattle.lotos_base.specs.Equation.{Place, Variable}
use Rattle.lotos_base.specs.WrittenTerm.{PlacedName, WrittenTerm}
use Rattle.syntax_trees.specs.WrittenBehaviour as written
use Rattle.syntax_trees.specs.WrittenBehaviour.{WrittenBehaviour, WrittenSign, choice_sign, interleaving, full_synchronisation, synchronising, disabling, enabling}
use Rattle.behaviour_semantics.specs.Behaviour.{Behaviour, stop, hide, Process, asked_variables, let_variables}
use Rattle.behaviour_semantics.specs.WellFormed.{Every}
use Rattle.printed_texts.specs.BehaviourText.{Naming}
use Rattle.declaration_laws.specs.DeclarationOrder.{variables_bound}
use Rattle.scope_parts.specs.ScopeFault.{gate_count, value_count}
use Rattle.scope_parts.specs.Resolution.{resolved, faulty}
use Rattle.scope_parts.specs.Scope.{Callable, bind_all, callable_named, found_process, first_double}
use Rattle.scope_parts.specs.Numbering.{Numbers, spelled_names, each_once, choice_names, gates_in, past_gates, past_variables, past}
use Rattle.scope_parts.specs.Terms.{ValuesAre}
use Rattle.scope_parts.specs.Choices.{choices_follow, choices_at, signs_follow, with_signs, placed_choices, under_par}
use Rattle.scope_parts.specs.Behaviours.{numbers_from, counted_call, CallIs, SignIs, BehaviourIs}
use Rattle.scope_parts.proofs.FormedLists.{same_resolved, never_faulty, made_of, beside_of}
use Rattle.scope_parts.proofs.FormedBehaviours.{length_names, found_callable}
use Rattle.scope_parts.proofs.FormedDefinitions.{length_numbers}
use Rattle.declaration_laws.proofs.NumberLemmas.{behaviour_made}
use Rattle.session_laws.specs.Meanings.{GateMeans, gate_texts, NoneStandsTwice, PrintedScope, behind_variables, behind_left, scope_with, BehaviourMeans}
use Rattle.session_laws.specs.MeaningLaws.{IsCallableOf, LeavesOutTruth, AreCallable, FitsNaming, AreNamesFrom, ResolvedBehavioursMeanThemselves}
use Rattle.session_laws.proofs.BehavioursResolved.{past_is}
use Rattle.session_laws.proofs.PartsMeant.{once_none_twice, variables_meant, declared_counted, gate_meant, gates_meant, known_more, texts_of_row, names_first, names_last, row_again, every_map, IsKnownVariable, fits_more}
use Rattle.session_laws.proofs.TermsMeant.{exit_values_meant, values_meant, test_meant, predicate_meant, offers_meant, let_meant}
use Rattle.session_laws.proofs.ChoicesMeant.{at, gates_under_meant, pars_under_meant, values_under_meant}

-- ---- Calls

record IsCounted (gates values : ℕ) (one callable : Callable) : Type 0 where
  same : callable ≡ one
  gates_are : gates ≡ one.gates
  values_are : values ≡ length one.sorts

counted_there : (place : Place) (gates values : ℕ) (one callable : Callable) → resolved callable ≡ counted_call place gates values one
    → IsCounted gates values one callable
counted_there place gates values one callable is =
    go (nat_eq gates one.gates) refl (nat_eq values (length one.sorts)) refl is
  where
    go : (first : Bool) → nat_eq gates one.gates ≡ first → (second : Bool) → nat_eq values (length one.sorts) ≡ second
        → resolved callable ≡ (if first then if second then resolved one else faulty (value_count place (length one.sorts) values)
        else faulty (gate_count place one.gates gates)) → IsCounted gates values one callable
    go true first true second is = record {
      same = same_resolved callable one is;
      gates_are = eqb-true gates one.gates first;
      values_are = eqb-true values (length one.sorts) second;
    }
    go true first false second is = never_faulty callable _ is
    go false first second is_second is = never_faulty callable _ is

-- ---- What is visible behind a behaviour

fits_behind : (naming : Naming) (scope : PrintedScope) (b : Behaviour) → FitsNaming naming scope
    → FitsNaming naming (behind_left b scope)
fits_behind naming scope b fits = record {
  gates = fits.gates;
  variables =
      every_map (IsKnownVariable next scope.names) (IsKnownVariable (next + length (variables_bound b)) scope.names) scope.variables
      (λ v known. (let below : v.number < next = known.0 in omega (arith, below), known.1)) fits.variables;
}
  where
    next : ℕ
    next = scope.numbers.variable

module _ (naming : Naming) (processes : List Process) (callables : List Callable) (leaves : LeavesOutTruth naming)
    (called : AreCallable processes callables) where
  abbrev MeansThere : WrittenBehaviour → Type 0
  MeansThere w = (scope : PrintedScope) (b : Behaviour) → FitsNaming naming scope
      → AreNamesFrom naming scope.numbers.gate (gates_in w)
      → BehaviourIs naming.signature (scope_with callables scope) scope.numbers w (resolved b)
      → BehaviourMeans naming processes scope b

  call_meant : (scope : PrintedScope) (place : Place) (name : List ℕ) (given : List PlacedName) (values : List WrittenTerm)
      (b : Behaviour) → FitsNaming naming scope
      → CallIs naming.signature (scope_with callables scope) place name given values (resolved b)
      → BehaviourMeans naming processes scope b
  call_meant scope place name given values b fits is =
      subst (BehaviourMeans naming processes scope) (sym is.2.2.2) (record {
        process = seen.0;
        there = seen.1;
        gate_count = gates.1 ∙ counted.gates_are ∙ ap (λ (c : Callable). c.gates) (sym counted.same) ∙ seen.2.gates;
        gates_mean = gates.0;
        values_mean = values_meant naming scope leaves fits seen.0.parameters values is.2.2.0 many terms;
      })
    where
      callable : Callable
      callable = is.0

      first : (one : Callable) × (resolved one ≡ found_process place name (callable_named callables name))
          × (resolved callable ≡ counted_call place (length given) (length values) one)
      first = made_of (found_process place name (callable_named callables name)) _ callable is.1

      counted : IsCounted (length given) (length values) first.0 callable
      counted = counted_there place (length given) (length values) first.0 callable first.2

      seen : (process : Process) × (slice_get processes callable.number ≡ Some process) × IsCallableOf callable.number process callable
      seen =
          called name callable
          (found_callable place name (callable_named callables name) first.0 first.1 ∙ ap Some (sym counted.same))

      gates : Every (GateMeans naming scope.gates) is.2.0 × (length is.2.0 ≡ length given)
      gates = gates_meant naming scope.gates given is.2.0 fits.gates is.2.1

      many : length values ≡ length (map (λ (x : Variable). Some x.sort) seen.0.parameters)
      many =
          counted.values_are ∙ ap (λ (c : Callable). length c.sorts) (sym counted.same)
          ∙ ap (λ (sorts : List (Option ℕ)). length sorts) seen.2.sorts

      terms : ValuesAre naming.signature scope.variables (map (λ (x : Variable). Some x.sort) seen.0.parameters) values
          (resolved is.2.2.0)
      terms =
          subst (λ (sorts : List (Option ℕ)). ValuesAre naming.signature scope.variables sorts values (resolved is.2.2.0))
          seen.2.sorts is.2.2.1

  -- ---- Signs

  sign_meant : (scope : PrintedScope) (sign : WrittenSign) (right : WrittenBehaviour) (first b : Behaviour) → FitsNaming naming scope
      → BehaviourMeans naming processes scope first → MeansThere right
      → AreNamesFrom naming (behind_left first scope).numbers.gate (gates_in right)
      → SignIs naming.signature (scope_with callables scope) (behind_left first scope).numbers sign first
      (λ inside behind. BehaviourIs naming.signature inside behind right) (resolved b)
      → BehaviourMeans naming processes scope b
  sign_meant scope choice_sign right first b fits means rights named is =
      subst (BehaviourMeans naming processes scope) (sym is.2)
      (means, rights (behind_left first scope) is.0 (fits_behind naming scope first fits) named is.1)
  sign_meant scope interleaving right first b fits means rights named is =
      subst (BehaviourMeans naming processes scope) (sym is.2)
      (tt, means, rights (behind_left first scope) is.0 (fits_behind naming scope first fits) named is.1)
  sign_meant scope full_synchronisation right first b fits means rights named is =
      subst (BehaviourMeans naming processes scope) (sym is.2)
      (tt, means, rights (behind_left first scope) is.0 (fits_behind naming scope first fits) named is.1)
  sign_meant scope (synchronising given) right first b fits means rights named is =
      subst (BehaviourMeans naming processes scope) (sym is.2.2) (
        (gates_meant naming scope.gates given is.0 fits.gates is.1).0,
        means,
        rights (behind_left first scope) is.2.0 (fits_behind naming scope first fits) named is.2.1,
      )
  sign_meant scope disabling right first b fits means rights named is =
      subst (BehaviourMeans naming processes scope) (sym is.2)
      (means, rights (behind_left first scope) is.0 (fits_behind naming scope first fits) named is.1)
  sign_meant scope (enabling given) right first b fits means rights named is =
      let declared = variables_meant naming.signature (behind_left first scope).numbers.variable given is.0 is.1 in
      let counted : length is.0 ≡ length given =
      declared_counted naming.signature (behind_left first scope).numbers.variable given is.0 is.1 in
      subst (BehaviourMeans naming processes scope) (sym is.2.2) (
        means,
        declared,
        rights (behind_variables is.0 (behind_left first scope)) is.2.0
            (fits_more naming (behind_left first scope) is.0 (fits_behind naming scope first fits) declared.numbered) named
            (subst
            (λ (n : ℕ). BehaviourIs naming.signature (scope_with callables (behind_variables is.0 (behind_left first scope)))
            (past_variables n (behind_left first scope).numbers) right (resolved is.2.0))
            (sym counted) is.2.1),
      )

  -- ---- Behaviours

  hidden_meant : (scope : PrintedScope) (given : List PlacedName) (inside : WrittenBehaviour) (b within : Behaviour)
      → FitsNaming naming scope → MeansThere inside
      → AreNamesFrom naming scope.numbers.gate (each_once (spelled_names given) ++ gates_in inside)
      → BehaviourIs naming.signature
      (scope_with callables (at (bind_all (each_once (spelled_names given)) scope.numbers.gate scope.gates) scope.variables scope.names
      (past_gates (length (each_once (spelled_names given))) scope.numbers)))
      (past_gates (length (each_once (spelled_names given))) scope.numbers) inside (resolved within)
      → b ≡ hide (numbers_from scope.numbers.gate (each_once (spelled_names given))) within
      → BehaviourMeans naming processes scope b
  hidden_meant scope given inside b within fits means named is same =
      subst (BehaviourMeans naming processes scope) (sym same) (
        record {
          numbered = row_again next names;
          distinct = subst (λ (ns : List (List ℕ)). NoneStandsTwice [] ns) (sym texts) (once_none_twice [] (spelled_names given));
        },
        subst
            (λ (n : ℕ). BehaviourMeans naming processes
            (at (bind_all (gate_texts naming (numbers_from next names)) next scope.gates) scope.variables scope.names
            (past_gates n scope.numbers)) within)
            (sym (length_numbers next names))
            (subst
            (λ (ns : List (List ℕ)). BehaviourMeans naming processes
            (at (bind_all ns next scope.gates) scope.variables scope.names (past_gates (length names) scope.numbers)) within)
            (sym texts)
            (means
            (at (bind_all names next scope.gates) scope.variables scope.names (past_gates (length names) scope.numbers)) within
            (record { gates = known_more naming names next scope.gates first fits.gates; variables = fits.variables })
            (names_last naming names (gates_in inside) next named) is)),
      )
    where
      next : ℕ
      next = scope.numbers.gate

      names : List (List ℕ)
      names = each_once (spelled_names given)

      first : AreNamesFrom naming next names
      first = names_first naming names (gates_in inside) next named

      texts : gate_texts naming (numbers_from next names) ≡ names
      texts = texts_of_row naming names next first

  -- the names behind declared gates
  names_behind : (given : List written.WrittenGateChoice) (inside : WrittenBehaviour) (next : ℕ)
      → AreNamesFrom naming next (choice_names given ++ gates_in inside) → AreNamesFrom naming (next + length given) (gates_in inside)
  names_behind given inside next named =
      subst (λ (n : ℕ). AreNamesFrom naming (next + n) (gates_in inside)) (length_names given)
      (names_last naming (choice_names given) (gates_in inside) next named)

  pub behaviour_meant : (w : WrittenBehaviour) → MeansThere w
  behaviour_meant (written.stop place) scope b fits named is =
      subst (BehaviourMeans naming processes scope) (sym (same_resolved b stop is)) tt
  behaviour_meant (written.exit place values) scope b fits named is =
      subst (BehaviourMeans naming processes scope) (sym is.2) (exit_values_meant naming scope leaves fits values is.0 is.1)
  behaviour_meant (written.call place name given values) scope b fits named is =
      call_meant scope place name given values b fits is
  behaviour_meant (written.action place gate given premiss next) scope b fits named is =
      let offers = offers_meant naming scope leaves fits scope.numbers.variable given is.2.0 is.2.1 in
      let inside : PrintedScope = behind_variables (asked_variables is.2.0) scope in
      let inside_fits : FitsNaming naming inside = fits_more naming scope (asked_variables is.2.0) fits offers.declared.numbered in
      subst (BehaviourMeans naming processes scope) (sym is.2.2.2.2) (
        gate_meant naming scope.gates (record { place = place; name = gate }) is.0 fits.gates is.1,
        offers.values,
        offers.declared,
        predicate_meant naming inside leaves inside_fits premiss is.2.2.0 is.2.2.1,
        behaviour_meant next inside is.2.2.2.0 inside_fits named
            (subst
            (λ (n : ℕ). BehaviourIs naming.signature (scope_with callables inside) (past_variables n scope.numbers) next
            (resolved is.2.2.2.0))
            (sym offers.counted) is.2.2.2.1),
      )
  behaviour_meant (written.inner_action place next) scope b fits named is =
      subst (BehaviourMeans naming processes scope) (sym is.2) (behaviour_meant next scope is.0 fits named is.1)
  behaviour_meant (written.guard place premiss next) scope b fits named is =
      subst (BehaviourMeans naming processes scope) (sym is.2.2)
      (test_meant naming scope leaves fits premiss is.0 is.1, behaviour_meant next scope is.2.0 fits named is.2.1)
  behaviour_meant (written.hide place given inside) scope b fits named is =
      hidden_meant scope given inside b is.0 fits (λ there c. behaviour_meant inside there c) named is.1 is.2
  behaviour_meant (written.let_be place values inside) scope b fits named is =
      let meant = let_meant naming scope leaves fits scope.numbers.variable values is.0 is.1 in
      subst (BehaviourMeans naming processes scope) (sym is.2.2) (
        meant.values,
        meant.declared,
        behaviour_meant inside (behind_variables (let_variables is.0) scope) is.2.0
            (fits_more naming scope (let_variables is.0) fits meant.declared.numbered) named
            (subst
            (λ (n : ℕ). BehaviourIs naming.signature (scope_with callables (behind_variables (let_variables is.0) scope))
            (past_variables n scope.numbers) inside (resolved is.2.0))
            (sym meant.counted) is.2.1),
      )
  behaviour_meant (written.choose_value place given inside) scope b fits named is =
      let declared = variables_meant naming.signature scope.numbers.variable given is.0 is.1 in
      let counted : length is.0 ≡ length given = declared_counted naming.signature scope.numbers.variable given is.0 is.1 in
      subst (BehaviourMeans naming processes scope) (sym is.2.2)
      (values_under_meant naming processes is.0 scope.gates scope.variables scope.names (scope.variables ++ is.0) scope.numbers.gate
      scope.numbers.variable scope.numbers.process (scope.numbers.variable + length given) is.2.0 fits declared.numbered declared.sorted
      (ap (λ (n : ℕ). scope.numbers.variable + n) (sym counted)) refl
      (λ others there. behaviour_meant inside
      (at scope.gates (scope.variables ++ is.0) others (past_variables (length given) scope.numbers)) is.2.0 there named is.2.1))
  behaviour_meant (written.choose_gate place given inside) scope b fits named is =
      let follow : resolved is.0 ≡ choices_follow scope.gates scope.numbers.gate given =
      beside_of (first_double (placed_choices given)) (choices_follow scope.gates scope.numbers.gate given) is.0 is.1 in
      let first = names_first naming (choice_names given) (gates_in inside) scope.numbers.gate named in
      subst (BehaviourMeans naming processes scope) (sym is.2.2)
      (gates_under_meant naming processes given is.0 scope.gates scope.variables scope.names scope.numbers.gate scope.numbers.variable
      scope.numbers.process (scope.numbers.gate + length given) is.2.0 fits.gates first follow refl
      (behaviour_meant inside
      (at (bind_all (choice_names given) scope.numbers.gate scope.gates) scope.variables scope.names
      (past_gates (length given) scope.numbers)) is.2.0
      (record {
        gates = known_more naming (choice_names given) scope.numbers.gate scope.gates first fits.gates;
        variables = fits.variables;
      })
      (names_behind given inside scope.numbers.gate named) is.2.1))
  behaviour_meant (written.par_gate place given sign inside) scope b fits named is =
      let choices = made_of (choices_at scope.gates scope.numbers.gate given) _ is.0 is.1 in
      let meets = made_of (signs_follow scope.gates scope.numbers.gate sign given) _ is.0 choices.2 in
      let follow : resolved choices.0 ≡ choices_follow scope.gates scope.numbers.gate given =
      beside_of (first_double (placed_choices given)) (choices_follow scope.gates scope.numbers.gate given) choices.0 choices.1 in
      let first = names_first naming (choice_names given) (gates_in inside) scope.numbers.gate named in
      let pars = same_resolved is.0 (with_signs choices.0 meets.0) meets.2 in
      subst (BehaviourMeans naming processes scope) (sym (is.2.2 ∙ ap (λ ps. under_par ps is.2.0) pars))
      (pars_under_meant naming processes sign given choices.0 meets.0 scope.gates scope.variables scope.names scope.numbers.gate
      scope.numbers.variable scope.numbers.process (scope.numbers.gate + length given) is.2.0 fits.gates first follow meets.1 refl
      (behaviour_meant inside
      (at (bind_all (choice_names given) scope.numbers.gate scope.gates) scope.variables scope.names
      (past_gates (length given) scope.numbers)) is.2.0
      (record {
        gates = known_more naming (choice_names given) scope.numbers.gate scope.gates first fits.gates;
        variables = fits.variables;
      })
      (names_behind given inside scope.numbers.gate named) is.2.1))
  behaviour_meant (written.binary place sign left right) scope b fits named is =
      let same : past left scope.numbers ≡ (behind_left is.0 scope).numbers =
      past_is scope.numbers left is.0 (behaviour_made naming.signature left (scope_with callables scope) scope.numbers is.0 is.1) in
      sign_meant scope sign right is.0 b fits
      (behaviour_meant left scope is.0 fits (names_first naming (gates_in left) (gates_in right) scope.numbers.gate named) is.1)
      (λ there c. behaviour_meant right there c)
      (subst (λ (n : Numbers). AreNamesFrom naming n.gate (gates_in right)) same
      (names_last naming (gates_in left) (gates_in right) scope.numbers.gate named))
      (subst
      (λ (n : Numbers). SignIs naming.signature (scope_with callables scope) n sign is.0
      (λ inside behind. BehaviourIs naming.signature inside behind right) (resolved b))
      same is.2)

pub behaviours_mean_themselves : ResolvedBehavioursMeanThemselves
behaviours_mean_themselves naming processes callables scope w b leaves called fits named is =
    behaviour_meant naming processes callables leaves called w scope b fits named is
