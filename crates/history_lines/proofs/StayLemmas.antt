-- Sessions that stay lawful over their data.
use Rattle.std.proofs.Common.{◌≡◌, ap, sym, ◌∙◌, subst}
use Rattle.lotos_base.specs.Term.{Term}
use Rattle.lotos_base.specs.Equation.{Data}
use Rattle.session_log.specs.HandedOn.{Spec, book_canon, Book}
use Rattle.sort_terms.specs.EquationView.{data_of}
use Rattle.session_log.specs.CourseView.{basis_over}
use Rattle.session_log.specs.Kept.{IsLawfulSession}
use Rattle.session_log.specs.declared.sessions.Session.{Session}
use Rattle.history_lines.specs.LinesView.{IsServing, StaysServing}
use Rattle.history_lines.specs.declared.lines.HistoryLines.{HistoryLines}

module _ {M : Type 0} (suits : M → Spec → Data → (Term → Term) → Type 0) (lines : HistoryLines M) (session : Session M) (book : Book)
    (serving : IsServing suits lines) (same_data : data_of book.flat ≡ data_of lines.book.flat)
    (same_canon : book_canon book ≡ book_canon lines.book) where
  over : data_of book.flat ≡ data_of lines.book.flat → (data_of lines.book.flat).signature ≡ (data_of book.flat).signature
  over same = ap (λ (it : Data). it.signature) (sym same)

  serving_on : IsLawfulSession suits (data_of lines.book.flat) (book_canon lines.book) session
      → IsServing suits (record lines { session = session; book = book })
  serving_on lawful = record {
    shown = serving.shown ∙ over same_data;
    read = serving.read ∙ over same_data;
    lawful = subst (λ (it : Term → Term). IsLawfulSession suits (data_of book.flat) it session) (sym same_canon)
        (subst (λ (it : Data). IsLawfulSession suits it (book_canon lines.book) session) (sym same_data) lawful);
  }

  -- with another session and the same data
  pub stays : session.spec ≡ lines.session.spec → IsLawfulSession suits (data_of lines.book.flat) (book_canon lines.book) session
      → StaysServing suits lines (record lines { session = session; book = book })
  stays same lawful = record {
    serving = serving_on lawful;
    basis = λ i. basis_over (same_data i) (same_canon i) (same i);
  }
