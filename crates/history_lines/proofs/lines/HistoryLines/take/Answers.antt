use Rattle.std.proofs.Common.{List, map, refl, sym, subst}
use Rattle.lotos_base.specs.WrittenView.{written_term_of}
use Rattle.lotos_base.specs.declared.written_terms.Written.{Written}
use Rattle.session_log.specs.HandedOn.{AreTermsOfLine}
use Rattle.lotos_base.proofs.Options.{gave_up}
use Rattle.history_lines.specs.LinesView.{basis_of, reached}
use Rattle.history_lines.specs.RefusalView.{declined_for_text}
use Rattle.history_lines.proofs.StepLemmas.{unread}
use Rattle.history_lines.proofs.lines.HistoryLines.take.Goals as goal

pub returns-in_err-terms-clause-answered : goal.returns-in_err-terms-clause-answered
returns-in_err-terms-clause-answered g c =
    gave_up _ _ c.from_residual.result (declined_for_text c.in_err-terms.field-0.0) c.from_residual.ensures.1 (
      refl,
      unread (basis_of c.args.self.now) (reached c.args.self.now) c.args.number c.args.text.now c.in_err-terms.field-0.0
          c.in_err-terms.ensures,
    )

pub take_with-requires-clause-chosen : goal.take_with-requires-clause-chosen
take_with-requires-clause-chosen g c = (
  c.args.text.now,
  c.in_ok-values.ensures c.args.text.now
      (subst (λ (terms : List Written). AreTermsOfLine c.args.text.now (map written_term_of terms)) (sym c.as_slice.ensures.value)
      c.in_ok-terms.ensures),
)

pub returns-in_err-values-clause-answered : goal.returns-in_err-values-clause-answered
returns-in_err-values-clause-answered g c =
    gave_up _ _ c.from_residual-in_err-values.result c.in_err-values.field-0.0 c.from_residual-in_err-values.ensures.1 (
      refl,
      c.in_err-values.ensures c.args.text.now
          (subst (λ (terms : List Written). AreTermsOfLine c.args.text.now (map written_term_of terms)) (sym c.as_slice.ensures.value)
          c.in_ok-terms.ensures),
    )

pub returns-clause-answered : goal.returns-clause-answered
returns-clause-answered g c =
    c.take_with.ensures.answered c.args.text.now (c.in_ok-values.ensures c.args.text.now
    (subst (λ (terms : List Written). AreTermsOfLine c.args.text.now (map written_term_of terms)) (sym c.as_slice.ensures.value)
    c.in_ok-terms.ensures))
