-- What composed relabellings obey.
use Rattle.std.specs.Prelude.{◌≡◌, ◌↔◌, ℕ, List, length, slice_get, Some, Bool}
use Rattle.lotos_base.specs.Term.{Term}
use Rattle.lotos_base.specs.Equation.{Data}
use Rattle.lotos_base.specs.Substitution.{is_listed}
use Rattle.behaviour_semantics.specs.Behaviour.{Behaviour, call, relabel, Process, Relabelling}
use Rattle.behaviour_semantics.specs.Label.{Label, inner_event, gate_event, exit_event, gate_under, label_under, then_relabelling, under}
use Rattle.behaviour_semantics.specs.Replacement.{with_values, binding_of}
use Rattle.behaviour_semantics.specs.Transition.{Transition}

-- The label is one of a transition of the behaviour.
abbrev pub HasLabel : Data → List Process → Behaviour → Label → Type 0
HasLabel data_ processes b label = (target : Behaviour) × Transition data_ processes b label target

-- Relabelling by two relabellings, one after the other, and by the two as one: gates and labels become the same, and
-- a behaviour so relabelled has the same labels.
pub record ComposedRelabellingsAgree : Type 0 where
  pub gates : (first second : Relabelling) (g : ℕ) → gate_under (then_relabelling first second) g ≡ gate_under second (gate_under first g)
  pub labels :
      (first second : Relabelling) (label : Label) →
      label_under (then_relabelling first second) label ≡ label_under second (label_under first label)
  pub transitions :
      (data_ : Data) (processes : List Process) (first second : Relabelling) (b : Behaviour) (label : Label) →
      HasLabel data_ processes (relabel second (relabel first b)) label
      ↔ HasLabel data_ processes (relabel (then_relabelling first second) b) label

-- The behaviour is a call.
abbrev pub is_call : Behaviour → Bool
is_call (call number gates arguments) = Bool.true
is_call _ = Bool.false

-- The gate of the label, if it has one, is listed.
abbrev pub HasGateIn : List ℕ → Label → Type 0
HasGateIn gates inner_event = Unit {0}
HasGateIn gates (gate_event g values) = is_listed gates g ≡ Bool.true
HasGateIn gates (exit_event values) = Unit {0}

-- A behaviour under a relabelling, as targets are written, has the labels of the relabelled behaviour; a call has them
-- where it gives its process as many gates as that has and the labels of the body are at formal gates.
pub record UnderHasTheLabels : Type 0 where
  pub others :
      (data_ : Data) (processes : List Process) (pairs : Relabelling) (b : Behaviour) (label : Label) →
      is_call b ≡ Bool.false →
      HasLabel data_ processes (relabel pairs b) label ↔ HasLabel data_ processes (under b pairs) label
  pub calls :
      (data_ : Data) (processes : List Process) (pairs : Relabelling) (number : ℕ) (gates : List ℕ) (arguments : List Term)
      (process : Process) (label : Label) →
      slice_get processes number ≡ Some process →
      length process.gates ≡ length gates →
      ((inner : Label) → HasLabel data_ processes (with_values (binding_of process.parameters arguments) process.body) inner
      → HasGateIn process.gates inner) →
      HasLabel data_ processes (relabel pairs (call number gates arguments)) label
      ↔ HasLabel data_ processes (under (call number gates arguments) pairs) label
