-- By recursion on the equations, each judged by the tests of identity and of the order.
use Rattle.rewriting_theory.proofs.OrientationLemmas.{given_once, oriented_or_not, given_orientable, given_joined, first_once}
use Rattle.rewriting_theory.proofs.orientation.data_are_oriented_or_not.Goals as goal

pub returns-clause-unique : goal.returns-clause-unique
returns-clause-unique c = λ precedence data_ rules others one two. given_once one two

pub returns-clause-either : goal.returns-clause-either
returns-clause-either c = λ precedence data_. oriented_or_not precedence 0 data_.equations

pub returns-clause-not_both : goal.returns-clause-not_both
returns-clause-not_both c = λ precedence data_ rules equation given is. given_orientable given is.0 equation is.1

pub returns-clause-joined : goal.returns-clause-joined
returns-clause-joined c = λ precedence n equations others rules more one two. given_joined others more one two

pub returns-clause-first : goal.returns-clause-first
returns-clause-first c = λ precedence data_ number other one two. first_once precedence data_.equations number other one two
