use Rattle.std.proofs.Common.{◌<◌, ◌+◌, length, get_or, sym, ◌∙◌, arith}
use Rattle.std.proofs.lemmas.List.{get_or_default}
use Rattle.sort_terms.specs.SortedView.{term_in}
use Rattle.step_parts.specs.Leaves.{leaf_wrong}
use Rattle.step_parts.proofs.CheckedLemmas.{checked_err, told_more}
use Rattle.step_parts.proofs.LeafLemmas.{bad_here, from_first, good_next, leaf_of, none_after}
use Rattle.step_parts.proofs.leaves.checked_from.Goals as goal

pub returns-in_err-checked_leaf : goal.returns-in_err-checked_leaf
returns-in_err-checked_leaf c = λ signature n o.
    let sort = get_or c.args.sorts.now c.loop-i.i 0 in
    let leaf = c.index-leaves-first.result in
    let below : c.loop-i.i < length c.args.sorts.now = omega (arith, c.loop-i-test.true) in
    let within : c.args.first + c.loop-i.i < length c.args.leaves.now = omega (arith, c.requires, below) in
    checked_err n _ c.from_residual.result c.in_err-checked_leaf.field-0.0 c.from_residual.ensures.1
    (told_more n (leaf_wrong signature sort (term_in leaf) (c.args.first + c.loop-i.i)) _
    (λ w e. sym (from_first signature c.args.leaves.now c.args.first c.args.sorts.now)
    ∙ (sym (c.loop-i.invariant signature o)
    ∙ bad_here signature c.args.leaves.now c.args.first c.args.sorts.now c.loop-i.i sort leaf w below
    (get_or_default c.args.sorts.now c.loop-i.i 0 sort below) within c.index-leaves-first.is e))
    c.in_err-checked_leaf.field-0.0
    (c.in_err-checked_leaf.ensures signature n
    (leaf_of signature c.args.leaves.now (c.args.first + c.loop-i.i) leaf within c.index-leaves-first.is o)))

pub loop-i-preserved : goal.loop-i-preserved
loop-i-preserved c = λ signature o.
    let sort = get_or c.args.sorts.now c.loop-i.i 0 in
    let leaf = c.index-leaves-first.result in
    let below : c.loop-i.i < length c.args.sorts.now = omega (arith, c.loop-i-test.true) in
    let within : c.args.first + c.loop-i.i < length c.args.leaves.now = omega (arith, c.requires, below) in
    good_next signature c.args.leaves.now c.args.first c.args.sorts.now c.loop-i.i sort leaf below
    (get_or_default c.args.sorts.now c.loop-i.i 0 sort below) within c.index-leaves-first.is
    (c.in_ok-checked_leaf.ensures signature 0
    (leaf_of signature c.args.leaves.now (c.args.first + c.loop-i.i) leaf within c.index-leaves-first.is o))
    ∙ c.loop-i.invariant signature o

pub returns : goal.returns
returns c = λ signature n o.
    sym (from_first signature c.args.leaves.now c.args.first c.args.sorts.now)
    ∙ (sym (c.loop-i.invariant signature o)
    ∙ none_after signature c.args.leaves.now c.args.first c.args.sorts.now c.loop-i.i (omega (arith, c.loop-i-test.false)))
