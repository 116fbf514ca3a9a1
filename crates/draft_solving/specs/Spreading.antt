-- The terms of a draft in one list: the conditions, and behind them each value and each leaf as a condition between the term and
-- itself.
use Rattle.std.specs.Prelude.{ℕ, List, ◌++◌, drop, map, take}
use Rattle.lotos_base.specs.Term.{Term}
use Rattle.behaviour_semantics.specs.Behaviour.{Test}
use Rattle.behaviour_semantics.specs.Draft.{Draft}
use Rattle.behaviour_semantics.specs.Rule.{label_values}

-- a term and itself
abbrev pub itself : Term → Test
itself t = record { left = t; right = t }

abbrev pub spread_of : Draft → List Test
spread_of draft = (draft.conditions ++ map itself (label_values draft.label)) ++ map itself draft.leaves

-- so many left sides from a place on
abbrev pub lefts_from : ℕ → ℕ → List Test → List Term
lefts_from first count tests = map (λ (test : Test). test.left) (take count (drop first tests))
