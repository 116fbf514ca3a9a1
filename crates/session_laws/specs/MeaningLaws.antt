-- Laws of the names in printed behaviours.
use Rattle.std.specs.Prelude.{◌≡◌, ◌<◌, ℕ, suc, List, [], ◌∷◌, map, length, Some, slice_get, option_map}
use Rattle.lotos_base.specs.Names.{folded}
use Rattle.lotos_base.specs.Signature.{IsWellFormedSignature}
use Rattle.lotos_base.specs.Equation.{Variable}
use Rattle.syntax_trees.specs.WrittenBehaviour.{WrittenBehaviour}
use Rattle.behaviour_semantics.specs.Behaviour.{Behaviour, Process}
use Rattle.behaviour_semantics.specs.WellFormed.{Every}
use Rattle.session_histories.specs.HandedOn.{variable_text}
use Rattle.printed_texts.specs.BehaviourText.{Naming, gate_text, called_text}
use Rattle.scope_parts.specs.Resolution.{resolved}
use Rattle.scope_parts.specs.Scope.{Binding, Callable, callable_named}
use Rattle.scope_parts.specs.Numbering.{gates_in}
use Rattle.scope_parts.specs.Sorts.{Truth, truth_in}
use Rattle.scope_parts.specs.Behaviours.{BehaviourIs}
use Rattle.session_laws.specs.Meanings.{PrintedScope, scope_with, BehaviourMeans}
use Rattle.session_laws.specs.WrittenBehaviours.{IsBehaviourWritten}

-- a process as its callers see it: its number, and the counts and sorts of its heading
pub record IsCallableOf (number : ℕ) (process : Process) (callable : Callable) : Type 0 where
  pub numbered : callable.number ≡ number
  pub gates : callable.gates ≡ length process.gates
  pub sorts : callable.sorts ≡ map (λ (x : Variable). Some x.sort) process.parameters

-- Each process is visible under the name that it is printed by.
abbrev pub AreVisible : Naming → List Process → List Callable → Type 0
AreVisible naming processes callables = (number : ℕ) (process : Process) → slice_get processes number ≡ Some process
    → (callable : Callable) × (callable_named callables (called_text naming number) ≡ Some callable)
    × IsCallableOf number process callable

-- The naming leaves out the right side of a test where it is the constant `true` of the sort `Bool`.
abbrev pub LeavesOutTruth : Naming → Type 0
LeavesOutTruth naming = naming.truth ≡ option_map (λ (truth : Truth). truth.constant) (truth_in naming.signature)

-- Each callable that a name may stand for is one of a process.
abbrev pub AreCallable : List Process → List Callable → Type 0
AreCallable processes callables = (name : List ℕ) (callable : Callable) → callable_named callables name ≡ Some callable
    → (process : Process) × (slice_get processes callable.number ≡ Some process) × IsCallableOf callable.number process callable

-- What is visible is known by the names that it is printed by, and no variable has a number that comes next.
pub record FitsNaming (naming : Naming) (scope : PrintedScope) : Type 0 where
  pub gates : Every (λ (b : Binding). b.key ≡ folded (gate_text naming b.number)) scope.gates
  pub variables : Every (λ (v : Variable). (v.number < scope.numbers.variable) × (variable_text scope.names v.number ≡ v.name))
      scope.variables

-- the gates with the numbers from this one on are printed by these names
abbrev pub AreNamesFrom : Naming → ℕ → List (List ℕ) → Type 0
AreNamesFrom naming next [] = Unit {0}
AreNamesFrom naming next (name ∷ names) = (gate_text naming next ≡ name) × AreNamesFrom naming (suc next) names

-- What a behaviour as it is written stands for means itself where it is written, if the gates that it declares have their names.
abbrev pub ResolvedBehavioursMeanThemselves : Type 0
ResolvedBehavioursMeanThemselves = (naming : Naming) (processes : List Process) (callables : List Callable) (scope : PrintedScope)
    (w : WrittenBehaviour) (b : Behaviour)
    → LeavesOutTruth naming
    → AreCallable processes callables
    → FitsNaming naming scope
    → AreNamesFrom naming scope.numbers.gate (gates_in w)
    → BehaviourIs naming.signature (scope_with callables scope) scope.numbers w (resolved b)
    → BehaviourMeans naming processes scope b

-- A behaviour that means itself where it is printed is what is written there stands for: whatever it is written as by its names
-- stands for it, with the very numbers that it has.
abbrev pub WrittenBehavioursAreResolved : Type 0
WrittenBehavioursAreResolved = (naming : Naming) (processes : List Process) (callables : List Callable) (scope : PrintedScope)
    (b : Behaviour) (w : WrittenBehaviour)
    → IsWellFormedSignature naming.signature
    → AreVisible naming processes callables
    → IsBehaviourWritten naming scope.names b w
    → BehaviourMeans naming processes scope b
    → BehaviourIs naming.signature (scope_with callables scope) scope.numbers w (resolved b)
