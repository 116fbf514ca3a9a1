use Rattle.std.proofs.Common.{◌≡◌, true, sym, ◌∙◌}
use Rattle.sort_terms.specs.SortedView.{profiled_in}
use Rattle.sort_terms.specs.TermView.{profiled_of}
use Rattle.direct_terms.specs.OneSort.{agrees}
use Rattle.direct_terms.proofs.OneSortLemmas.{one_sort_each}
use Rattle.direct_terms.proofs.one_sort.have_one_sort.Goals as goal

pub returns : goal.returns
returns c = λ is.
    let first : agrees (profiled_in c.args.left.now) (profiled_in c.args.right.now) (profiled_in c.args.left.now) ≡ true =
    (λ i. agrees (profiled_of (sym c.term-one.ensures i)) (profiled_of (sym c.term-other.ensures i))
    (profiled_of (sym c.term-one.ensures i))) ∙ sym c.agree.ensures ∙ c.if-not-agree.false in
    let second : agrees (profiled_in c.args.left.now) (profiled_in c.args.right.now) (profiled_in c.args.right.now) ≡ true =
    (λ i. agrees (profiled_of (sym c.term-one.ensures i)) (profiled_of (sym c.term-other.ensures i))
    (profiled_of (sym c.term-other.ensures i))) ∙ sym c.agree-2.ensures ∙ is in
    one_sort_each (profiled_in c.args.left.now) (profiled_in c.args.right.now) first second
