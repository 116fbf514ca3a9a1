-- Labels of moves, and what relabelling does to labels and behaviours (ISO 8807, dynamic semantics of behaviour
-- expressions).
use Rattle.std.specs.Prelude.{ℕ, List, [], ◌∷◌, ◌++◌, map, filter, not, nat_eq, if◌then◌else◌}
use Rattle.lotos_base.specs.Term.{Term}
use Rattle.lotos_base.specs.Substitution.{is_listed}
use Rattle.behaviour_semantics.specs.Behaviour.{Behaviour, stop, call, relabel, Relabelling}

-- A label: the inner event, an event at a gate with its values, or successful termination with its values.
pub data Label : Type 0 where
  inner_event : Label
  gate_event : ℕ → List Term → Label
  exit_event : List Term → Label

-- The gate that the relabelling gives for a gate: the actual gate of the pair with this formal gate, or the gate
-- itself where there is none.
abbrev pub gate_under : Relabelling → ℕ → ℕ
gate_under [] g = g
gate_under (pair ∷ pairs) g = if nat_eq pair.0 g then pair.1 else gate_under pairs g

-- The label with its gate relabelled.
abbrev pub label_under : Relabelling → Label → Label
label_under pairs inner_event = inner_event
label_under pairs (gate_event g values) = gate_event (gate_under pairs g) values
label_under pairs (exit_event values) = exit_event values

-- The formal gates of a relabelling.
abbrev pub formals_of : Relabelling → List ℕ
formals_of pairs = map (λ (pair : ℕ × ℕ). pair.0) pairs

-- The first relabelling and then the second, as one: the pairs of the first with their actual gates relabelled,
-- then the pairs of the second whose formal gates the first lacks.
abbrev pub then_relabelling : Relabelling → Relabelling → Relabelling
then_relabelling first second =
    map (λ (pair : ℕ × ℕ). (pair.0, gate_under second pair.1)) first
    ++ filter (λ (pair : ℕ × ℕ). not (is_listed (formals_of first) pair.0)) second

-- The behaviour under a relabelling, as the target of a move is written: `stop` stays, a call has its actual gates
-- relabelled, a relabelled behaviour has the two relabellings as one, and any other behaviour is relabelled.
abbrev pub under : Behaviour → Relabelling → Behaviour
under stop pairs = stop
under (call process gates values) pairs = call process (map (gate_under pairs) gates) values
under (relabel inner b) pairs = relabel (then_relabelling inner pairs) b
under b pairs = relabel pairs b
