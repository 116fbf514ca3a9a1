use Rattle.std.proofs.Common.{arith, ◌<◌, ◌∙◌, length}
use Rattle.sort_terms.specs.Operations.{operation_of}
use Rattle.sort_terms.specs.TermView.{profiled_of, all_profiled}
use Rattle.term_store.specs.SharedView.{keys_in}
use Rattle.term_store.proofs.SearchLemmas.{counts_differ, members_below, member_below}
use Rattle.term_store.proofs.SizeLemmas.{node_size, member_size}
use Rattle.sort_terms.proofs.BuiltLists.{node_with_items}
use Rattle.term_store.proofs.matching.+search.Goals as goal

pub search_all-returns-then-len-numbers : goal.search_all-returns-then-len-numbers
search_all-returns-then-len-numbers t c =
    counts_differ (keys_in c.args.shared.now) c.args.patterns.now.items c.args.numbers.now c.args.found.now.items
    (λ same. c.if-len-numbers.true (c.len.ensures ∙ c.args.patterns.now.ok.0 ∙ same))

pub search-search_all-requires : goal.search-search_all-requires
search-search_all-requires t c =
    let less = node_size (profiled_of c.args.pattern.now) c.in-Node.op (operation_of c.in-Node.profile.value)
    (all_profiled c.items.result.now.items)
    (node_with_items _ c.in-Node.op c.in-Node.profile c.in-Node.arguments c.items.result.now.items c.in-Node.is c.items.ensures) in (
      omega (arith, less, c.decreases),
      (
        c.requires.cells,
        members_below (keys_in c.args.shared.now) c.args.number c.in-Some.head c.in-Some.numbers.now c.requires.cells c.requires.within
            c.in-Some.ensures,
      ),
    )

pub search_all-search-requires : goal.search_all-search-requires
search_all-search-requires t c =
    let here : c.loop-i.i < length c.args.patterns.now.items =
    omega (arith, c.loop-i-test.true, c.len-i-end.ensures, c.args.patterns.now.ok.0) in
    let there : c.loop-i.i < length c.args.numbers.now =
    omega (arith, c.loop-i-test.true, c.len-i-end.ensures, c.len.ensures, c.if-len-numbers.false) in
    let less = member_size c.args.patterns.now.items c.loop-i.i c.index.result.now here c.index.ensures in (
      omega (arith, less, c.decreases),
      (c.requires.cells, member_below (length (keys_in c.args.shared.now)) c.args.numbers.now c.loop-i.i 0 c.requires.within there),
    )
