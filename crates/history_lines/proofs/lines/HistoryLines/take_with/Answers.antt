use Rattle.session_log.specs.HandedOn.{terms_of, label_of}
use Rattle.history_lines.specs.StepAnswer.{is_taken}
use Rattle.lotos_base.proofs.Options.{gave_up}
use Rattle.history_lines.specs.LinesView.{basis_of, reached}
use Rattle.history_lines.specs.declared.refusals.Decline.TheVariants.{Step}
use Rattle.history_lines.proofs.StayLemmas.{stays}
use Rattle.history_lines.proofs.StepLemmas.{step_declined}
use Rattle.history_lines.proofs.lines.HistoryLines.take_with.Goals as goal

pub returns-clause-answered : goal.returns-clause-answered
returns-clause-answered g c = λ text chosen.
    is_taken chosen.entry (terms_of c.args.values.items) (label_of c.in_ok-step.field-0) _ chosen.valued
    c.in_ok-step.ensures.answered

pub returns-clause-stays : goal.returns-clause-stays
returns-clause-stays g c =
    stays g.M.MenuMaker.suits c.args.self.now c.step.new.self c.step.new.data c.requires.serving c.step.ensures.same_known.same_data
    c.step.ensures.same_known.same_canon c.step.ensures.same_spec c.step.ensures.lawful_after

pub returns-in_err-step-clause-answered : goal.returns-in_err-step-clause-answered
returns-in_err-step-clause-answered g c = λ text chosen.
    gave_up _ _ c.from_residual.result (Step c.in_err-step.field-0.0) c.from_residual.ensures.1 (
      c.in_err-step.ensures.answered.0,
      step_declined (basis_of c.args.self.now) (reached c.args.self.now) c.args.number text chosen.entry
          (terms_of c.args.values.items) chosen.valued c.in_err-step.field-0.0 c.in_err-step.ensures.answered.1,
    )

pub returns-in_err-step-clause-stays : goal.returns-in_err-step-clause-stays
returns-in_err-step-clause-stays g c =
    stays g.M.MenuMaker.suits c.args.self.now c.step.new.self c.step.new.data c.requires.serving c.step.ensures.same_known.same_data
    c.step.ensures.same_known.same_canon c.step.ensures.same_spec c.step.ensures.lawful_after
