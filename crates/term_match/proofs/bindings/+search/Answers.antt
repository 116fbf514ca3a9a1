use Rattle.std.proofs.Common.{sym, ◌∙◌, arith}
use Rattle.sort_terms.proofs.SizeLemmas.{size_above, size_within}
use Rattle.term_match.specs.FoundView.{found_pairs}
use Rattle.term_match.proofs.SearchLemmas.{lengths_differ}
use Rattle.term_match.proofs.bindings.+search.Goals as goal

pub search_all-returns-then-len : goal.search_all-returns-then-len
search_all-returns-then-len t c =
    lengths_differ c.args.patterns.now.items c.args.terms.now.items (found_pairs c.args.found.items)
    (λ same. c.if-len.true (c.len.ensures ∙ c.args.patterns.now.ok.0 ∙ same ∙ sym c.args.terms.now.ok.0 ∙ sym c.len-2.ensures))

-- the arguments are smaller than the term, and the members than the list
pub search-search_all-requires : goal.search-search_all-requires
search-search_all-requires t c =
    let size = size_above c.args.pattern.now c.in-Node.op c.in-Node.profile c.in-Node.arguments c.items.result.now.items c.in-Node.is
    c.items.ensures in
    (omega (arith, c.decreases, size), tt)

pub search_all-search-requires : goal.search_all-search-requires
search_all-search-requires t c =
    let size = size_within c.args.patterns.now.items c.loop-i.i c.index.result.now (omega arith) c.index.ensures in
    (omega (arith, c.decreases, size), tt)
