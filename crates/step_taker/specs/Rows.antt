-- The rules of nodes with one part as rows: what is wrong at the node by itself, what is asked of the label, and the move.
use Rattle.std.specs.Prelude.{ℕ, List, not, Option, None, Some}
use Rattle.lotos_base.specs.Equation.{Variable}
use Rattle.lotos_base.specs.Signature.{Signature}
use Rattle.behaviour_semantics.specs.Behaviour.{Behaviour, Relabelling, SynchronisationSet, sorts_of}
use Rattle.behaviour_semantics.specs.Fault.{ends_with, unless, Wrong}
use Rattle.behaviour_semantics.specs.Label.{Label}
use Rattle.behaviour_semantics.specs.Move.{alone, disabling, enabling, hiding, Move, passing, relabelling}
use Rattle.behaviour_semantics.specs.Rule.{is_exit, moves_alone}
use Rattle.step_taker.specs.Stands.{Row}

abbrev pub asks_nothing : Label → Option Wrong
asks_nothing label = None

-- a row that asks nothing of labels
abbrev pub free_row : Option Wrong → (Move → Option Move) → Row
free_row own after = record { own = own; label = asks_nothing; after = after }

-- a row with nothing wrong at the node by itself
abbrev pub asking_row : (Label → Option Wrong) → (Move → Option Move) → Row
asking_row label after = record { own = None; label = label; after = after }

-- the move of the part as it is
abbrev pub same_row : Row
same_row = free_row None (λ m. Some m)

-- a side of a parallel that moves alone
abbrev pub alone_row : SynchronisationSet → (Behaviour → Behaviour) → Row
alone_row meet beside = asking_row (λ l. unless (moves_alone meet l)) (alone meet beside)

-- under `hide`, and under a relabelling
abbrev pub hiding_row : List ℕ → Row
hiding_row gates = free_row None (λ m. Some (hiding gates m))

abbrev pub relabelling_row : Relabelling → Row
relabelling_row pairs = free_row None (λ m. Some (relabelling pairs m))

-- the left side of `[>`
abbrev pub disabling_row : Behaviour → Row
disabling_row right = free_row None (λ m. Some (disabling right m))

-- the left side of `>>` that goes on, and that has ended
abbrev pub passing_row : List Variable → Behaviour → Row
passing_row variables right = asking_row (λ l. unless (not (is_exit l))) (passing variables right)

abbrev pub enabling_row : Signature → List Variable → Behaviour → Row
enabling_row signature variables right =
    asking_row (λ l. unless (ends_with signature (sorts_of variables) l)) (λ m. enabling signature variables right m m.label)
