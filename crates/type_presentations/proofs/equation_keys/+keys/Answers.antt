use Rattle.std.proofs.Common.{◌++◌, ap, arith}
use Rattle.sort_terms.specs.TermView.{bare_terms_of}
use Rattle.type_presentations.specs.EquationKeys.{terms_key}
use Rattle.type_presentations.proofs.EquationKeyLemmas.{terms_more}
use Rattle.sort_terms.specs.TermSize.{sizes_of}
use Rattle.sort_terms.proofs.SizeLemmas.{size_above, size_within}
use Rattle.type_presentations.proofs.equation_keys.+keys.Goals as goal

pub push_terms-loop-term-preserved : goal.push_terms-loop-term-preserved
push_terms-loop-term-preserved t c =
    terms_more c.deref-term-items.result.now c.loop-term.key.items c.push.new.self.items c.push_term.new.key.items
    (c.args.key.now.items ++ terms_key (bare_terms_of c.deref-term-items.result.now)) c.loop-term.term-index c.term-item.result
    c.loop-term-test.true c.term-item.is c.in_ok-push.ensures.items c.in_ok-push_term.ensures c.loop-term.invariant

-- the arguments are smaller than the term, and the members than the list
pub push_term-push_terms-requires : goal.push_term-push_terms-requires
push_term-push_terms-requires t c =
    let size = size_above c.args.term.now c.in-Node.op c.in-Node.profile c.in-Node.arguments c.items.result.now.items c.in-Node.is
    c.items.ensures in
    (omega (arith, c.decreases, size), tt)

pub push_terms-push_term-requires : goal.push_terms-push_term-requires
push_terms-push_term-requires t c =
    let size = size_within c.deref-term-items.result.now c.loop-term.term-index c.term-item.result c.loop-term-test.true c.term-item.is in
    let same = ap sizes_of c.deref-term-items.ensures.value in
    (omega (arith, c.decreases, size, same), tt)
