use Rattle.std.proofs.Common.{sym, ap, ◌∙◌}
use Rattle.std.proofs.lemmas.Result.{IfOk-weaker}
use Rattle.lotos_base.specs.WrittenLaws.{head_of}
use Rattle.sort_terms.specs.Searching.{early_count}
use Rattle.lotos_base.specs.WrittenView.{written_term_of}
use Rattle.lotos_base.specs.declared.written_terms.Written.{Written, out-Written}
use Rattle.sort_terms.specs.ReaderView.{signature_read}
use Rattle.sort_terms.specs.ReadingOutcome.{unknown_in}
use Rattle.sort_terms.specs.ScopeView.{variables_in}
use Rattle.sort_terms.proofs.UnknownLemmas.{found_among, none_among, found_some, found_none, before_first, name_first, behind_first, sorts_first}
use Rattle.sort_terms.proofs.reader.Reader.+unknown.Goals as goal

pub first_among-returns-in-Some : goal.first_among-returns-in-Some
first_among-returns-in-Some t c =
    found_among (λ (w : Written). unknown_in (signature_read c.args.self.now) (variables_in c.args.scope.now) (written_term_of w))
    c.args.from c.loop-i.i c.args.to c.args.written.now.items c.index.result.now c.in-Some.fault c.loop-i-test.true c.requires.end
    c.index.ensures
    c.loop-i.invariant (found_some _ c.in_ok-fault.field-0 c.in-Some.fault c.in-Some.is c.in_ok-fault.ensures)

pub first_among-loop-i-preserved : goal.first_among-loop-i-preserved
first_among-loop-i-preserved t c =
    none_among (λ (w : Written). unknown_in (signature_read c.args.self.now) (variables_in c.args.scope.now) (written_term_of w))
    c.args.from c.loop-i.i c.args.to c.args.written.now.items c.index.result.now c.loop-i-test.true c.requires.end c.index.ensures
    c.loop-i.invariant (found_none _ c.in_ok-fault.field-0 c.in_default.is c.in_ok-fault.ensures)

pub first_unknown-returns-in-Some : goal.first_unknown-returns-in-Some
first_unknown-returns-in-Some t c =
    before_first (signature_read c.args.self.now)
    (variables_in c.args.scope.now) c.args.written.now c.early_arguments-early.result c.len.result c.in-Some.before
    (c.len.ensures ∙ (out-Written c.args.written.now).args.ok.0) c.early_arguments-early.ensures
    (found_some _ c.in_ok-before.field-0 c.in-Some.before c.in-Some.is c.in_ok-before.ensures)

pub first_unknown-returns-then-not-branch : goal.first_unknown-returns-then-not-branch
first_unknown-returns-then-not-branch t c =
    name_first (signature_read c.args.self.now)
    (variables_in c.args.scope.now) c.args.written.now c.early_arguments-early.result c.len.result
    (c.len.ensures ∙ (out-Written c.args.written.now).args.ok.0) c.early_arguments-early.ensures
    (found_none _ c.in_ok-before.field-0 c.in_default.is c.in_ok-before.ensures) (sym c.in_ok-is_known.ensures ∙ c.if-not-branch.true)

pub first_unknown-returns-in-Some-2 : goal.first_unknown-returns-in-Some-2
first_unknown-returns-in-Some-2 t c =
    behind_first (signature_read c.args.self.now)
    (variables_in c.args.scope.now) c.args.written.now c.early_arguments-early.result c.len-2.result c.in-Some-2.behind
    (c.len-2.ensures ∙ (out-Written c.args.written.now).args.ok.0)
    (c.early_arguments-early.ensures ∙ ap (λ n. early_count (head_of c.args.written.now).form n) (c.len.ensures ∙ sym c.len-2.ensures))
    (found_none _ c.in_ok-before.field-0 c.in_default.is c.in_ok-before.ensures) (sym c.in_ok-is_known.ensures ∙ c.if-not-branch.false)
    (found_some _ c.in_ok-behind.field-0 c.in-Some-2.behind c.in-Some-2.is c.in_ok-behind.ensures)

pub first_unknown-returns : goal.first_unknown-returns
first_unknown-returns t c =
    IfOk-weaker c.first_unknown_sort.result _ _
    (λ found first. sorts_first (signature_read c.args.self.now)
    (variables_in c.args.scope.now) c.args.written.now c.early_arguments-early.result c.len-2.result found
    (c.len-2.ensures ∙ (out-Written c.args.written.now).args.ok.0)
    (c.early_arguments-early.ensures ∙ ap (λ n. early_count (head_of c.args.written.now).form n) (c.len.ensures ∙ sym c.len-2.ensures))
    (found_none _ c.in_ok-before.field-0 c.in_default.is c.in_ok-before.ensures) (sym c.in_ok-is_known.ensures ∙ c.if-not-branch.false)
    (found_none _ c.in_ok-behind.field-0 c.in_default-2.is c.in_ok-behind.ensures) first)
    c.first_unknown_sort.ensures
