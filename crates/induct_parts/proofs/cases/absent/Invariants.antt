use Rattle.certificate_theory.specs.Splits.{absent_from}
use Rattle.induct_parts.specs.StatementView.{statement_of}
use Rattle.induct_parts.proofs.StepLemmas.{IsMadeSoFar}
use Rattle.induct_parts.proofs.cases.absent.Given as goal

abbrev pub invariant-loop-number : goal.invariant-loop-number
invariant-loop-number l =
    IsMadeSoFar (absent_from (statement_of l.statement)) l.sorts (absent_from (statement_of l.statement) 0 l.sorts) l.number l.gone.items
