use Rattle.std.proofs.Common.{get_or, refl}
use Rattle.lotos_base.proofs.Members.{read_at}
use Rattle.certificate_theory.specs.Splits.{absent_from}
use Rattle.induct_parts.specs.StatementView.{statement_of}
use Rattle.induct_parts.proofs.StepLemmas.{absent_first, all_made, if_absent, one_more}
use Rattle.induct_parts.proofs.cases.absent.Goals as goal

pub loop-number-preserved : goal.loop-number-preserved
loop-number-preserved c =
    one_more (absent_from (statement_of c.args.statement.now)) (if_absent (statement_of c.args.statement.now)) c.args.sorts.now
    (absent_from (statement_of c.args.statement.now) 0 c.args.sorts.now) (absent_first (statement_of c.args.statement.now))
    c.loop-number.number (get_or c.args.sorts.now c.loop-number.number 0) c.loop-number.gone.items c.add_if_absent.new.gone.items
    c.loop-number-test.true (read_at c.args.sorts.now c.loop-number.number c.loop-number-test.true) c.in_ok-add_if_absent.ensures
    c.loop-number.invariant

pub returns : goal.returns
returns c =
    all_made (absent_from (statement_of c.args.statement.now)) (if_absent (statement_of c.args.statement.now)) c.args.sorts.now
    (absent_from (statement_of c.args.statement.now) 0 c.args.sorts.now) (λ n. refl) c.loop-number.number c.loop-number.gone.items
    c.loop-number-test.false c.loop-number.invariant
