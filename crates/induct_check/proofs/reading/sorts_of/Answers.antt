use Rattle.std.proofs.Common.{map, refl}
use Rattle.lotos_base.specs.Equation.{Variable}
use Rattle.sort_terms.specs.EquationView.{variable_of}
use Rattle.induct_check.proofs.ReadingLemmas.{made_end}
use Rattle.induct_check.proofs.reading.sorts_of.Goals as goal

pub returns : goal.returns
returns c =
    made_end (λ vs. map (λ (v : Variable). v.sort) (map variable_of vs)) c.args.variables.now c.loop-variable.variable-index
    c.loop-variable.sorts.items _ c.loop-variable-test.false refl c.loop-variable.invariant
