-- Every term is accessible under the path order, and has finitely many successors.
use Rattle.rewriting_theory.specs.Orientation.{rules_of}
use Rattle.rewriting_theory.proofs.OrientationLemmas.{rules_of_data}
use Rattle.rewriting_theory.proofs.TerminationLemmas as lemmas
use Rattle.rewriting_theory.proofs.termination.rewriting_ends.Goals as goal

pub returns-clause-links : goal.returns-clause-links
returns-clause-links c = lemmas.rewriting_ends

pub returns-clause-links_and_arguments : goal.returns-clause-links_and_arguments
returns-clause-links_and_arguments c = lemmas.descent_ends

pub returns-clause-by_data : goal.returns-clause-by_data
returns-clause-by_data c = λ precedence data_ rules orientation.
    let oriented = (rules_of_data precedence data_ rules orientation).1 in
    (lemmas.rewriting_ends precedence (rules_of rules) oriented, λ t. lemmas.descent_ends precedence (rules_of rules) t oriented)
