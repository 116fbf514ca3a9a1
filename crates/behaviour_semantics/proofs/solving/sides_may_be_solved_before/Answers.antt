-- First the left side is solved within the join, then the right one; what is left is the join of the entries, renumbered.
use Rattle.behaviour_semantics.proofs.SolvedSides.{solved_sides}
use Rattle.behaviour_semantics.proofs.solving.sides_may_be_solved_before.Goals as goal

pub returns : goal.returns
returns c = solved_sides
