use Rattle.std.proofs.Common.{◌≡◌, map, length, Some, sym, ◌∙◌, subst}
use Rattle.std.proofs.lemmas.List.{length-map}
use Rattle.session_log.proofs.EntryLemmas.{entry_there}
use Rattle.lotos_base.specs.WrittenView.{written_term_of}
use Rattle.lotos_base.specs.Signature.{Signature}
use Rattle.session_log.specs.HandedOn.{entries_in, plain_entry, Menu, terms_of, entry_numbered, number_refusal, AreRead}
use Rattle.session_log.specs.Entries.{AreGiven}
use Rattle.session_log.specs.RefusalView.{TellsStep}
use Rattle.session_log.specs.Values.{IsFirstMisread, TellsMisread}
use Rattle.lotos_base.proofs.Options.{gave_up}
use Rattle.history_lines.specs.LinesView.{basis_of, reached}
use Rattle.history_lines.specs.declared.refusals.Decline.TheVariants.{Terms, Step}
use Rattle.history_lines.proofs.StepLemmas.{miscounted, misread, valued}
use Rattle.history_lines.proofs.lines.HistoryLines.values_for.Goals as goal

pub returns-in_err-entry : goal.returns-in_err-entry
returns-in_err-entry g c = λ text there.
    let terms = c.args.terms.now in
    gave_up _ _ c.from_residual.result (Step c.in_err-entry.field-0.0) c.from_residual.ensures.1
    (miscounted (basis_of c.args.self.now) (reached c.args.self.now) c.args.number text (map written_term_of terms)
    there (length terms) (sym (length-map terms written_term_of)) c.in_err-entry.field-0.0
    (subst (λ (it : Menu). TellsStep (number_refusal (entries_in it) c.args.number (length terms)) c.in_err-entry.field-0.0)
    c.menu.ensures c.in_err-entry.ensures))

pub returns-in_err-values_at : goal.returns-in_err-values_at
returns-in_err-values_at g c = λ text there.
    let terms = map written_term_of c.args.terms.now in
    let entry = c.in_ok-entry.entry.now in
    let counted : length terms ≡ length entry.vars.items =
    length-map c.args.terms.now written_term_of ∙ c.in_ok-entry.ensures.1 in
    let listed : entry_numbered (entries_in c.args.self.now.session.course.menu) c.args.number ≡ Some (plain_entry entry) =
    subst (λ (it : Menu). entry_numbered (entries_in it) c.args.number ≡ Some (plain_entry entry)) c.menu.ensures
    (entry_there c.menu.result.now c.args.number entry c.in_ok-entry.ensures.0) in
    gave_up _ _ c.from_residual-in_err-values_at.result (Terms c.in_err-values_at.field-0.0) c.from_residual-in_err-values_at.ensures.1
    (misread (basis_of c.args.self.now) (reached c.args.self.now) c.args.number text terms there
    (plain_entry entry) listed counted c.in_err-values_at.field-0.0
    (subst (λ (it : Signature). TellsMisread (IsFirstMisread it entry.vars.items terms) c.in_err-values_at.field-0.0)
    c.requires.serving.read c.in_err-values_at.ensures))

pub returns : goal.returns
returns g c = λ text there.
    let terms = map written_term_of c.args.terms.now in
    let entry = c.in_ok-entry.entry.now in
    let values = c.in_ok-values_at.field-0.items in
    let counted : length terms ≡ length entry.vars.items =
    length-map c.args.terms.now written_term_of ∙ c.in_ok-entry.ensures.1 in
    let listed : entry_numbered (entries_in c.args.self.now.session.course.menu) c.args.number ≡ Some (plain_entry entry) =
    subst (λ (it : Menu). entry_numbered (entries_in it) c.args.number ≡ Some (plain_entry entry)) c.menu.ensures
    (entry_there c.menu.result.now c.args.number entry c.in_ok-entry.ensures.0) in
    record {
      entry = plain_entry entry;
      valued = valued (basis_of c.args.self.now) (reached c.args.self.now) c.args.number text terms there
          (plain_entry entry) listed counted (terms_of values)
          (subst (λ (it : Signature). AreRead it entry.vars.items terms (terms_of values)) c.requires.serving.read
          c.in_ok-values_at.ensures.0);
      given = subst (λ (it : Signature). AreGiven it values) c.requires.serving.read c.in_ok-values_at.ensures.1;
    }
