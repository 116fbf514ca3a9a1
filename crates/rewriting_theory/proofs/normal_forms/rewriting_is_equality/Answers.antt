-- A rule is an equation read in one direction.
use Rattle.rewriting_theory.proofs.LinkSteps.{link_of_rewriting, link_is}
use Rattle.rewriting_theory.proofs.normal_forms.rewriting_is_equality.Goals as goal

pub returns-clause-forth : goal.returns-clause-forth
returns-clause-forth c = λ data_ rules t u s of link is.
    link_of_rewriting data_ of.sorted_sides of.rules_of_data of.well_formed s link is.ground is.sorted

pub returns-clause-back : goal.returns-clause-back
returns-clause-back c = λ data_ rules t u of link. link_is data_ of link
