use Rattle.std.proofs.Common.{◌≡◌, ◌++◌}
use Rattle.std.proofs.lemmas.Result.{IfOk-weaker}
use Rattle.sort_terms.specs.EquationView.{data_of}
use Rattle.session_lines.specs.Answer.{IsComparison, comparison_text, gives, verdict_text}
use Rattle.session_lines.specs.View.{AddsOutcome, AddsRefusal}
use Rattle.session_lines.proofs.QuestionLemmas.{comparison_refused}
use Rattle.session_lines.proofs.questions.push_comparison.Goals as goal

pub returns-in-Ok-clause-added : goal.returns-in-Ok-clause-added
returns-in-Ok-clause-added c =
    IfOk-weaker c.push_verdict.result
    (λ _. c.push_verdict.new.into.items ≡ c.args.into.now.items ++ verdict_text c.in-Ok.equal)
    (λ _. AddsOutcome (IsComparison (data_of c.args.book.now.flat) c.args.text.now) comparison_text c.args.into.now.items
    c.push_verdict.new.into.items)
    (λ done added. (gives c.in-Ok.equal, c.in-Ok.ensures.answered, added))
    c.push_verdict.ensures

pub returns-in-Err-clause-added : goal.returns-in-Err-clause-added
returns-in-Err-clause-added c =
    IfOk-weaker c.push_refusal.result
    (λ _. AddsRefusal c.in-Err.refusal c.args.into.now.items c.push_refusal.new.into.items)
    (λ _. AddsOutcome (IsComparison (data_of c.args.book.now.flat) c.args.text.now) comparison_text c.args.into.now.items
    c.push_refusal.new.into.items)
    (λ done added.
    comparison_refused (data_of c.args.book.now.flat) c.args.text.now c.args.into.now.items c.push_refusal.new.into.items
    c.in-Err.refusal c.in-Err.ensures.answered added)
    c.push_refusal.ensures
