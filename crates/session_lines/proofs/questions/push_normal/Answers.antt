use Rattle.std.proofs.Common.{◌≡◌, ◌++◌}
use Rattle.std.proofs.lemmas.Result.{IfOk-weaker}
use Rattle.equation_book.specs.BookCanon.{book_canon}
use Rattle.sort_terms.specs.EquationView.{data_of}
use Rattle.sort_terms.specs.SignatureView.{signature_of}
use Rattle.sort_terms.specs.SortedView.{term_in}
use Rattle.session_lines.specs.Answer.{IsNormalAnswer, normal_text, gives}
use Rattle.session_lines.specs.View.{AddsOutcome, AddsRefusal}
use Rattle.session_lines.proofs.QuestionLemmas.{normal_refused, normal_given}
use Rattle.session_lines.proofs.questions.push_normal.Goals as goal

pub returns-in-Ok-clause-added : goal.returns-in-Ok-clause-added
returns-in-Ok-clause-added c =
    IfOk-weaker c.push_form.result
    (λ _. c.push_form.new.into.items
    ≡ c.args.into.now.items ++ normal_text (signature_of c.args.signature.now) (gives (term_in c.in-Ok.form)))
    (λ _. AddsOutcome (IsNormalAnswer (data_of c.args.book.now.flat).signature (book_canon c.args.book.now) c.args.text.now)
    (normal_text (data_of c.args.book.now.flat).signature) c.args.into.now.items c.push_form.new.into.items)
    (λ done added.
    normal_given (data_of c.args.book.now.flat).signature (signature_of c.args.signature.now) (book_canon c.args.book.now)
    c.args.text.now c.args.into.now.items c.push_form.new.into.items (term_in c.in-Ok.form) c.requires.shown c.in-Ok.ensures.answered
    added)
    c.push_form.ensures

pub returns-in-Err-clause-added : goal.returns-in-Err-clause-added
returns-in-Err-clause-added c =
    IfOk-weaker c.push_refusal.result
    (λ _. AddsRefusal c.in-Err.refusal c.args.into.now.items c.push_refusal.new.into.items)
    (λ _. AddsOutcome (IsNormalAnswer (data_of c.args.book.now.flat).signature (book_canon c.args.book.now) c.args.text.now)
    (normal_text (data_of c.args.book.now.flat).signature) c.args.into.now.items c.push_refusal.new.into.items)
    (λ done added.
    normal_refused (data_of c.args.book.now.flat).signature (book_canon c.args.book.now) c.args.text.now c.args.into.now.items
    c.push_refusal.new.into.items c.in-Err.refusal c.in-Err.ensures.answered added)
    c.push_refusal.ensures
