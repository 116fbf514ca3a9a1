use Rattle.std.proofs.Common.{◌≤◌, List, length, sym, ◌∙◌, subst, arith, ltb-false}
use Rattle.sort_terms.proofs.SizeLemmas.{size_above, size_within}
use Rattle.sort_terms.specs.declared.terms.Term.{Term}
use Rattle.term_match.proofs.ListLemmas.{more_on_the_left, more_on_the_right}
use Rattle.term_match.proofs.differences.+difference.Goals as goal

-- the second list ends first
pub differ_among-returns-in_default : goal.differ_among-returns-in_default
differ_among-returns-in_default t c =
    let past : length c.deref.result.now ≤ c.loop-i.i = ltb-false _ _ (sym c.in_default.ensures.lookup.0) in
    sym (c.loop-i.invariant.same
    ∙ more_on_the_left c.args.terms.now.items c.args.others.now.items c.loop-i.i (omega arith)
    (subst (λ (ts : List Term). length ts ≤ c.loop-i.i) c.deref.ensures.value past) c.loop-i.invariant.within)

-- the first list ends first
pub differ_among-returns-then-len : goal.differ_among-returns-then-len
differ_among-returns-then-len t c =
    sym (c.loop-i.invariant.same
    ∙ more_on_the_right c.args.terms.now.items c.args.others.now.items c.loop-i.i (omega arith) (omega arith) (omega arith))

-- the arguments are smaller than the term, and the members than the list
pub differ-differ_among-requires : goal.differ-differ_among-requires
differ-differ_among-requires t c =
    let size = size_above c.args.left.now c.in-Node.op c.in-Node.profile c.in-Node.arguments c.items.result.now.items c.in-Node.is
    c.items.ensures in
    (omega (arith, c.decreases, size), tt)

pub differ_among-differ-requires : goal.differ_among-differ-requires
differ_among-differ-requires t c =
    let size = size_within c.args.terms.now.items c.loop-i.i c.index.result.now (omega arith) c.index.ensures in
    (omega (arith, c.decreases, size), tt)
