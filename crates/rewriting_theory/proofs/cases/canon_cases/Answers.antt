-- No part of a left side but the whole is a sum.
use Rattle.rewriting_theory.proofs.AdditionLemmas.{addition_canon_cases}
use Rattle.rewriting_theory.proofs.cases.canon_cases.Goals as goal

pub returns : goal.returns
returns c = addition_canon_cases
