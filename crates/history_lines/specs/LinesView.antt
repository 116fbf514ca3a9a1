-- Where the sessions of the code stand.
use Rattle.std.specs.Prelude.{◌≡◌, Option}
use Rattle.lotos_base.specs.Outside.{Texts, ShelfState}
use Rattle.lotos_base.specs.Term.{Term}
use Rattle.lotos_base.specs.Equation.{Data}
use Rattle.session_log.specs.HandedOn.{Spec, book_canon, SessionBasis, Progress}
use Rattle.sort_terms.specs.EquationView.{data_of}
use Rattle.sort_terms.specs.ReaderView.{signature_read}
use Rattle.sort_terms.specs.SignatureView.{signature_of}
use Rattle.session_log.specs.CourseView.{basis_over, progress_of}
use Rattle.session_log.specs.Kept.{IsLawfulSession}
use Rattle.history_lines.specs.Standing.{Standing}
use Rattle.history_lines.specs.SessionMachine.{SessionPoint, point}
use Rattle.history_lines.specs.declared.lines.HistoryLines.{HistoryLines}

-- what the session goes over, and how far it has come
abbrev pub basis_of : {M : Type 0} → HistoryLines M → SessionBasis
basis_of lines = basis_over (data_of lines.book.flat) (book_canon lines.book) lines.session.spec

abbrev pub reached : {M : Type 0} → HistoryLines M → Progress
reached lines = progress_of lines.session.course

-- where it stands beside a shelf with these texts
abbrev pub standing_of : {M : Type 0} → HistoryLines M → Option Texts → Standing
standing_of lines texts = record { basis = basis_of lines; progress = reached lines; texts = texts }

-- beside a shelf that tells this of itself
abbrev pub point_of : {M : Type 0} → HistoryLines M → ShelfState → SessionPoint
point_of lines shelf = point (standing_of lines shelf.texts) shelf.faults shelf.calls

-- The session is lawful over the data of the book, whose signature is the one that terms are printed by and read over. `suits`
-- says which makers of menus suit.
pub record IsServing {M : Type 0} (suits : M → Spec → Data → (Term → Term) → Type 0) (lines : HistoryLines M) : Type 0 where
  pub shown : signature_of lines.signature.now ≡ (data_of lines.book.flat).signature
  pub read : signature_read lines.reader ≡ (data_of lines.book.flat).signature
  pub lawful : IsLawfulSession suits (data_of lines.book.flat) (book_canon lines.book) lines.session

-- It is so afterwards, and goes over what it went over before.
pub record StaysServing {M : Type 0} (suits : M → Spec → Data → (Term → Term) → Type 0) (old new : HistoryLines M) : Type 0 where
  pub serving : IsServing suits new
  pub basis : basis_of new ≡ basis_of old
