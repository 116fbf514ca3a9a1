-- What a `choice` or a `par` with several declarations stands for means itself: it is one for each declaration, each inside the one
-- before it.
use Rattle.std.proofs.Common.{◌≡◌, ℕ, suc, ◌+◌, List, [], ◌∷◌, ◌++◌, length, refl, ap, sym, ◌∙◌, subst, arith, append_assoc, append-nil}
use Rattle.lotos_base.specs.Names.{folded}
use Rattle.lotos_base.specs.Equation.{Variable}
use Rattle.syntax_trees.specs.WrittenBehaviour.{WrittenSign, choice_sign, interleaving, full_synchronisation, synchronising, disabling, enabling, WrittenGateChoice}
use Rattle.behaviour_semantics.specs.Behaviour.{Behaviour, SynchronisationSet, no_gates, all_gates, at_gates, Process}
use Rattle.behaviour_semantics.specs.WellFormed.{Every}
use Rattle.printed_texts.specs.BehaviourText.{Naming, gate_text}
use Rattle.scope_parts.specs.Resolution.{resolved}
use Rattle.scope_parts.specs.Scope.{Binding, bind, bind_all, gates_at}
use Rattle.scope_parts.specs.Numbering.{Numbers, choice_names}
use Rattle.scope_parts.specs.Choices.{GateChoice, choices_follow, signs_follow, sign_at, with_signs, under_gates, under_par, under_values}
use Rattle.scope_parts.proofs.FormedLists.{same_resolved, made_of, front_of}
use Rattle.session_laws.specs.Meanings.{SortMeans, AreInRow, AreDeclaredGates, PrintedScope, behind_gates, MeetMeans, BehaviourMeans}
use Rattle.session_laws.specs.MeaningLaws.{FitsNaming, AreNamesFrom}
use Rattle.session_laws.proofs.PartsMeant.{IsKnownGate, gates_meant, fits_more}

abbrev pub numbers_at : ℕ → ℕ → ℕ → Numbers
numbers_at gate variable process = record { gate = gate; variable = variable; process = process }

abbrev pub at : List Binding → List Variable → List Variable → Numbers → PrintedScope
at gates variables names numbers = record { gates = gates; variables = variables; names = names; numbers = numbers }

pub meet_meant : (naming : Naming) (scope : PrintedScope) (sign : WrittenSign) (meet : SynchronisationSet)
    → Every (IsKnownGate naming) scope.gates → resolved meet ≡ sign_at scope.gates sign → MeetMeans naming scope meet
meet_meant naming scope choice_sign meet known is = subst (MeetMeans naming scope) (sym (same_resolved meet no_gates is)) tt
meet_meant naming scope interleaving meet known is = subst (MeetMeans naming scope) (sym (same_resolved meet no_gates is)) tt
meet_meant naming scope full_synchronisation meet known is = subst (MeetMeans naming scope) (sym (same_resolved meet all_gates is)) tt
meet_meant naming scope (synchronising names) meet known is =
    let gates = made_of (gates_at scope.gates names) _ meet is in
    subst (MeetMeans naming scope) (sym (same_resolved meet (at_gates gates.0) gates.2))
    (gates_meant naming scope.gates names gates.0 known gates.1).0
meet_meant naming scope disabling meet known is = subst (MeetMeans naming scope) (sym (same_resolved meet no_gates is)) tt
meet_meant naming scope (enabling variables) meet known is = subst (MeetMeans naming scope) (sym (same_resolved meet no_gates is)) tt

module _ (naming : Naming) (processes : List Process) where
  -- ---- Gates

  gate_declared : (next : ℕ) → AreDeclaredGates naming next (next ∷ [])
  gate_declared next = record { numbered = refl; distinct = (refl, tt) }

  -- behind a gate that is bound to its name
  one_gate : (visible : List Binding) (variables names : List Variable) (gate variable process : ℕ) (name : List ℕ) (b : Behaviour)
      → gate_text naming gate ≡ name
      → BehaviourMeans naming processes (at (bind name gate visible) variables names (numbers_at (suc gate) variable process)) b
      → BehaviourMeans naming processes
      (behind_gates naming (gate ∷ []) (at visible variables names (numbers_at gate variable process))) b
  one_gate visible variables names gate variable process name b named means =
      let one : suc gate ≡ gate + 1 = omega arith in
      subst
      (λ (n : List ℕ). BehaviourMeans naming processes
      (at (bind n gate visible) variables names (numbers_at (gate + 1) variable process)) b)
      (sym named)
      (subst
      (λ (k : ℕ). BehaviourMeans naming processes (at (bind name gate visible) variables names (numbers_at k variable process)) b)
      one means)

  -- behind no gate
  no_gate : (visible : List Binding) (variables names : List Variable) (gate variable process last : ℕ) (b : Behaviour)
      → last ≡ gate + 0 → BehaviourMeans naming processes (at visible variables names (numbers_at last variable process)) b
      → BehaviourMeans naming processes (at visible variables names (numbers_at gate variable process)) b
  no_gate visible variables names gate variable process last b counted =
      let same : last ≡ gate = omega (arith, counted) in
      subst (λ (n : ℕ). BehaviourMeans naming processes (at visible variables names (numbers_at n variable process)) b) same

  pub gates_under_meant : (ds : List WrittenGateChoice) (cs : List GateChoice) (visible : List Binding)
      (variables names : List Variable) (gate variable process last : ℕ) (b : Behaviour)
      → Every (IsKnownGate naming) visible → AreNamesFrom naming gate (choice_names ds)
      → resolved cs ≡ choices_follow visible gate ds → last ≡ gate + length ds
      → BehaviourMeans naming processes
      (at (bind_all (choice_names ds) gate visible) variables names (numbers_at last variable process)) b
      → BehaviourMeans naming processes (at visible variables names (numbers_at gate variable process)) (under_gates cs b)
  gates_under_meant [] cs visible variables names gate variable process last b known named is counted means =
      subst
      (λ (all : List GateChoice). BehaviourMeans naming processes (at visible variables names (numbers_at gate variable process))
      (under_gates all b))
      (sym (same_resolved cs [] is)) (no_gate visible variables names gate variable process last b counted means)
  gates_under_meant (d ∷ ds) cs visible variables names gate variable process last b known named is counted means =
      let first = made_of (gates_at visible d.among) _ cs is in
      let one : GateChoice = record { gate = gate; among = first.0 } in
      let rest = front_of one (choices_follow (bind d.name gate visible) (suc gate) ds) cs first.2 in
      subst
      (λ (all : List GateChoice). BehaviourMeans naming processes (at visible variables names (numbers_at gate variable process))
      (under_gates all b))
      (sym rest.2) (
        (gates_meant naming visible d.among first.0 known first.1).0,
        gate_declared gate,
        one_gate visible variables names gate variable process d.name (under_gates rest.0 b) named.0
            (gates_under_meant ds rest.0 (bind d.name gate visible) variables names (suc gate) variable process last b
            (ap folded (sym named.0), known) named.1 rest.1 (let c = counted in omega (arith, c)) means),
      )

  pub pars_under_meant : (sign : WrittenSign) (ds : List WrittenGateChoice) (cs : List GateChoice) (ms : List SynchronisationSet)
      (visible : List Binding) (variables names : List Variable) (gate variable process last : ℕ) (b : Behaviour)
      → Every (IsKnownGate naming) visible → AreNamesFrom naming gate (choice_names ds)
      → resolved cs ≡ choices_follow visible gate ds → resolved ms ≡ signs_follow visible gate sign ds → last ≡ gate + length ds
      → BehaviourMeans naming processes
      (at (bind_all (choice_names ds) gate visible) variables names (numbers_at last variable process)) b
      → BehaviourMeans naming processes (at visible variables names (numbers_at gate variable process)) (under_par (with_signs cs ms) b)
  pars_under_meant sign [] cs ms visible variables names gate variable process last b known named is signs counted means =
      subst
      (λ (all : List GateChoice). BehaviourMeans naming processes (at visible variables names (numbers_at gate variable process))
      (under_par (with_signs all ms) b))
      (sym (same_resolved cs [] is)) (no_gate visible variables names gate variable process last b counted means)
  pars_under_meant sign (d ∷ ds) cs ms visible variables names gate variable process last b known named is signs counted means =
      let first = made_of (gates_at visible d.among) _ cs is in
      let one : GateChoice = record { gate = gate; among = first.0 } in
      let rest = front_of one (choices_follow (bind d.name gate visible) (suc gate) ds) cs first.2 in
      let meet = made_of (sign_at visible sign) _ ms signs in
      let meets = front_of meet.0 (signs_follow (bind d.name gate visible) (suc gate) sign ds) ms meet.2 in
      subst
      (λ (all : List GateChoice). BehaviourMeans naming processes (at visible variables names (numbers_at gate variable process))
      (under_par (with_signs all ms) b))
      (sym rest.2)
      (subst
      (λ (all : List SynchronisationSet). BehaviourMeans naming processes
      (at visible variables names (numbers_at gate variable process)) (under_par (with_signs (one ∷ rest.0) all) b))
      (sym meets.2) (
        (gates_meant naming visible d.among first.0 known first.1).0,
        meet_meant naming (at visible variables names (numbers_at gate variable process)) sign meet.0 known meet.1,
        gate_declared gate,
        one_gate visible variables names gate variable process d.name (under_par (with_signs rest.0 meets.0) b) named.0
            (pars_under_meant sign ds rest.0 meets.0 (bind d.name gate visible) variables names (suc gate) variable process last b
            (ap folded (sym named.0), known) named.1 rest.1 meets.1 (let c = counted in omega (arith, c)) means),
      ))

  -- ---- Variables

  pub values_under_meant : (xs : List Variable) (gates : List Binding) (variables names whole : List Variable)
      (gate next process last : ℕ) (b : Behaviour) → FitsNaming naming (at gates variables names (numbers_at gate next process))
      → AreInRow next xs → Every (λ (x : Variable). SortMeans naming.signature x.sort) xs → last ≡ next + length xs
      → whole ≡ variables ++ xs
      → ((others : List Variable) → FitsNaming naming (at gates whole others (numbers_at gate last process))
      → BehaviourMeans naming processes (at gates whole others (numbers_at gate last process)) b)
      → BehaviourMeans naming processes (at gates variables names (numbers_at gate next process)) (under_values xs b)
  values_under_meant [] gates variables names whole gate next process last b fits row sorts counted joined means =
      let same : next ≡ last = omega (arith, counted) in
      let all : variables ≡ whole = sym (joined ∙ append-nil variables) in
      let there : FitsNaming naming (at gates whole names (numbers_at gate last process)) =
      subst (λ (v : List Variable). FitsNaming naming (at gates v names (numbers_at gate last process))) all
      (subst (λ (n : ℕ). FitsNaming naming (at gates variables names (numbers_at gate n process))) same fits) in
      subst (λ (n : ℕ). BehaviourMeans naming processes (at gates variables names (numbers_at gate n process)) b) (sym same)
      (subst (λ (v : List Variable). BehaviourMeans naming processes (at gates v names (numbers_at gate last process)) b) (sym all)
      (means names there))
  values_under_meant (x ∷ xs) gates variables names whole gate next process last b fits row sorts counted joined means =
      let one : suc next ≡ next + 1 = omega arith in (
        record { numbered = (row.0, tt); sorted = (sorts.0, tt); distinct = (refl, tt) },
        values_under_meant xs gates (variables ++ x ∷ []) (x ∷ names) whole gate (next + 1) process last b
            (fits_more naming (at gates variables names (numbers_at gate next process)) (x ∷ []) fits (row.0, tt))
            (subst (λ (n : ℕ). AreInRow n xs) one row.1) sorts.1 (let c = counted in omega (arith, c))
            (joined ∙ sym (append_assoc variables (x ∷ []) xs)) means,
      )
