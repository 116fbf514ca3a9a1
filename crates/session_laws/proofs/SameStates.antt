-- Behaviours and specifications are well formed with processes that are the same but for their names.
use Rattle.std.proofs.Common.{◌≡◌, ℕ, List, [], ◌∷◌, ◌++◌, length, Option, ap, ◌∙◌, subst}
use Rattle.std.specs.Prelude.{slice_get}
use Rattle.lotos_base.specs.Signature.{Signature}
use Rattle.lotos_base.specs.Term.{Term}
use Rattle.lotos_base.specs.Equation.{Data, Variable}
use Rattle.behaviour_semantics.specs.Behaviour.{Behaviour, stop, exit_with, action, inner_action, guard, choice, parallel, hide, enable, disable, let_be, choose_value, choose_gate, par_gate, call, relabel, Process, Specification}
use Rattle.behaviour_semantics.specs.WellFormed.{Every, AreTermsIn, IsCall, IsBehaviour, IsDefinition, IsSpecification, AreOver}
use Rattle.certificate_theory.specs.SameData.{AreSameData}
use Rattle.certificate_theory.proofs.InterchangeableData.{interchangeable}
use Rattle.declaration_laws.specs.SameSpecification.{AreOneProcess, AreSameProcesses, AreSameSpecifications}
use Rattle.session_laws.proofs.SamePlaces.{like, processes_found}

module _ (signature : Signature) (names : ℕ) (processes others : List Process) (alike : AreSameProcesses processes others) where
  call_with : (scope : List Variable) (number : ℕ) (gates : List ℕ) (arguments : List Term)
      → IsCall signature processes scope number gates arguments → IsCall signature others scope number gates arguments
  call_with scope number gates arguments h =
      let at = like AreOneProcess (slice_get processes number) (slice_get others number)
      (processes_found processes others alike number) h.process h.exists in
      record {
        process = at.0;
        exists = at.1;
        gate_count = h.gate_count ∙ ap length at.2.gates;
        values = subst (λ (parameters : List Variable). AreTermsIn signature scope parameters arguments) at.2.parameters h.values;
      }

  behaviour_with : (scope : List Variable) (b : Behaviour) → IsBehaviour signature names processes scope b
      → IsBehaviour signature names others scope b
  behaviour_with scope stop h = tt
  behaviour_with scope (exit_with results) h = h
  behaviour_with scope (action g offers test b) h = (h.0, h.1, h.2, h.3, behaviour_with _ b h.4)
  behaviour_with scope (inner_action b) h = behaviour_with scope b h
  behaviour_with scope (guard test b) h = (h.0, behaviour_with scope b h.1)
  behaviour_with scope (choice b c) h = (behaviour_with scope b h.0, behaviour_with scope c h.1)
  behaviour_with scope (parallel meet b c) h = (h.0, behaviour_with scope b h.1, behaviour_with scope c h.2)
  behaviour_with scope (hide gates b) h = (h.0, behaviour_with scope b h.1)
  behaviour_with scope (enable b variables c) h = (behaviour_with scope b h.0, h.1, behaviour_with (variables ++ scope) c h.2)
  behaviour_with scope (disable b c) h = (behaviour_with scope b h.0, behaviour_with scope c h.1)
  behaviour_with scope (let_be bindings b) h = (h.0, h.1, behaviour_with _ b h.2)
  behaviour_with scope (choose_value x b) h = (h.0, behaviour_with (x ∷ scope) b h.1)
  behaviour_with scope (choose_gate g gates b) h = (h.0, h.1, behaviour_with scope b h.2)
  behaviour_with scope (par_gate g gates meet b) h = (h.0, h.1, h.2, h.3, behaviour_with scope b h.4)
  behaviour_with scope (call number gates arguments) h = (h.0, call_with scope number gates arguments h.1)
  behaviour_with scope (relabel pairs b) h = (h.0, behaviour_with scope b h.1)

  definition_with : (gates : List ℕ) (parameters : List Variable) (exit : Option (List ℕ)) (body : Behaviour)
      → IsDefinition signature names processes gates parameters exit body → IsDefinition signature names others gates parameters exit body
  definition_with gates parameters exit body h = record {
    distinct_gates = h.distinct_gates;
    named_gates = h.named_gates;
    binders = h.binders;
    functionality = h.functionality;
    behaviour = behaviour_with parameters body h.behaviour;
  }

  -- with other parts that are equal
  definition_like : (gates gates_too : List ℕ) (parameters parameters_too : List Variable) (exit exit_too : Option (List ℕ))
      (body body_too : Behaviour) → gates ≡ gates_too → parameters ≡ parameters_too → exit ≡ exit_too → body ≡ body_too
      → IsDefinition signature names processes gates parameters exit body
      → IsDefinition signature names others gates_too parameters_too exit_too body_too
  definition_like gates gates_too parameters parameters_too exit exit_too body body_too one two three four h =
      subst (λ (gs : List ℕ). IsDefinition signature names others gs parameters_too exit_too body_too) one
      (subst (λ (xs : List Variable). IsDefinition signature names others gates xs exit_too body_too) two
      (subst (λ (f : Option (List ℕ)). IsDefinition signature names others gates parameters f body_too) three
      (subst (λ (b : Behaviour). IsDefinition signature names others gates parameters exit b) four
      (definition_with gates parameters exit body h))))

  each_with : (ps qs : List Process) → AreSameProcesses ps qs
      → Every (λ (p : Process). IsDefinition signature names processes p.gates p.parameters p.exit p.body) ps
      → Every (λ (q : Process). IsDefinition signature names others q.gates q.parameters q.exit q.body) qs
  each_with [] [] are every = tt
  each_with (p ∷ ps) (q ∷ qs) are every = (
    definition_like p.gates q.gates p.parameters q.parameters p.exit q.exit p.body q.body are.0.gates are.0.parameters are.0.exit
        are.0.body every.0,
    each_with ps qs are.1 every.1,
  )
  each_with [] (q ∷ qs) are every = absurd are
  each_with (p ∷ ps) [] are every = absurd are

module _ (signature : Signature) (one second : Specification) (same : AreSameSpecifications one second) where
  many : length one.gate_names ≡ length second.gate_names
  many = ap length same.gate_names

  specification_like : IsSpecification signature one → IsSpecification signature second
  specification_like is = record {
    whole =
        subst (λ (names : ℕ).
        IsDefinition signature names second.processes second.gates second.parameters second.exit second.body) many
        (definition_like signature (length one.gate_names) one.processes second.processes same.processes one.gates second.gates
        one.parameters second.parameters one.exit second.exit one.body second.body same.gates same.parameters same.exit same.body
        is.whole);
    each =
        subst (λ (names : ℕ).
        Every (λ (q : Process). IsDefinition signature names second.processes q.gates q.parameters q.exit q.body) second.processes) many
        (each_with signature (length one.gate_names) one.processes second.processes same.processes one.processes second.processes
        same.processes is.each);
  }

  closed_like : (b : Behaviour) → IsBehaviour signature (length one.gate_names) one.processes [] b
      → IsBehaviour signature (length second.gate_names) second.processes [] b
  closed_like b is =
      subst (λ (names : ℕ). IsBehaviour signature names second.processes [] b) many
      (behaviour_with signature (length one.gate_names) one.processes second.processes same.processes [] b is)

pub over_like : (data_ other : Data) (canon : Term → Term) (one second : Specification) (b : Behaviour) → AreSameData data_ other
    → AreSameSpecifications one second → AreOver data_ canon one b → AreOver other canon second b
over_like data_ other canon one second b same alike over =
    let is = interchangeable.over data_ other canon one b same over in
    record {
      signature = is.signature;
      is_canon = is.is_canon;
      well_formed = specification_like other.signature one second alike is.well_formed;
      closed = closed_like other.signature one second alike b is.closed;
    }
