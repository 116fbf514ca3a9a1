-- By recursion on the equations.
use Rattle.rewriting_theory.proofs.OrientationLemmas.{rules_of_data, rules_know, oriented_well_formed}
use Rattle.rewriting_theory.proofs.orientation.rules_of_data_are_oriented.Goals as goal

pub returns-clause-rules : goal.returns-clause-rules
returns-clause-rules c = rules_of_data

pub returns-clause-numbers : goal.returns-clause-numbers
returns-clause-numbers c = rules_know

pub returns-clause-well_formed : goal.returns-clause-well_formed
returns-clause-well_formed c = oriented_well_formed
