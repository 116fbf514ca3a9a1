use Rattle.std.proofs.Common.{sym, ◌∙◌, arith}
use Rattle.sort_terms.proofs.SizeLemmas.{size_above, size_within}
use Rattle.term_match.proofs.ListLemmas.{lists_clash}
use Rattle.term_match.proofs.differences.+clash.Goals as goal

pub clash_in-returns-then-len : goal.clash_in-returns-then-len
clash_in-returns-then-len t c =
    sym (lists_clash c.args.terms.now.items c.args.others.now.items
    (λ same. c.if-len.true (c.len.ensures ∙ c.args.terms.now.ok.0 ∙ same ∙ sym c.args.others.now.ok.0 ∙ sym c.len-2.ensures)))

-- the arguments are smaller than the term, and the members than the list
pub clash-clash_in-requires : goal.clash-clash_in-requires
clash-clash_in-requires t c =
    let size = size_above c.args.left.now c.in-Node.op c.in-Node.profile c.in-Node.arguments c.items.result.now.items c.in-Node.is
    c.items.ensures in
    (omega (arith, c.decreases, size), tt)

pub clash_in-clash-requires : goal.clash_in-clash-requires
clash_in-clash-requires t c =
    let size = size_within c.args.terms.now.items c.loop-i.i c.index.result.now (omega arith) c.index.ensures in
    (omega (arith, c.decreases, size), tt)
