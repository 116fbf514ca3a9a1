use Rattle.std.proofs.Common.{List}
use Rattle.lotos_base.specs.Equation.{Data}
use Rattle.behaviour_semantics.specs.Behaviour.{Behaviour, Process}
use Rattle.behaviour_semantics.specs.Label.{Label}
use Rattle.behaviour_semantics.specs.Shape.{Derivation}
use Rattle.behaviour_semantics.specs.Derives.{Derives, leaves_in}
use Rattle.behaviour_semantics.specs.Transition.{Transition}
use Rattle.behaviour_semantics.proofs.SupplyLemmas.{Supplies-leaves_in, Supplied-leaves_in}
use Rattle.behaviour_semantics.proofs.RuleToMove.{Found, found}
use Rattle.behaviour_semantics.proofs.MoveToRule.{rules_of}
use Rattle.behaviour_semantics.proofs.transition.transitions_are_derived.Goals as goal

derived : (data_ : Data) (processes : List Process) (b : Behaviour) (label : Label) (target : Behaviour)
    → Transition data_ processes b label target → (d : Derivation) × Derives data_ processes b d label target
derived data_ processes b label target t =
    let f : Found data_ processes b label target = found data_ processes t in (
      record { shape = f.shape; leaves = f.leaves },
      record {
        asked = f.asked;
        sorts = f.sorts;
        move = f.moves (leaves_in f.leaves) 0 (Supplies-leaves_in f.leaves);
        leaves = f.sorted;
        holds = f.holds;
      },
    )

made : (data_ : Data) (processes : List Process) (b : Behaviour) (label : Label) (target : Behaviour)
    → ((d : Derivation) × Derives data_ processes b d label target) → Transition data_ processes b label target
made data_ processes b label target (d, m) =
    rules_of data_ processes (leaves_in d.leaves) d.shape 0 b (record { label = label; target = target; asked = m.asked; sorts = m.sorts })
    m.move
    (Supplied-leaves_in data_.signature m.sorts d.leaves m.leaves) m.holds

pub returns : goal.returns
returns c = λ data_ processes b label target. (derived data_ processes b label target, made data_ processes b label target)
