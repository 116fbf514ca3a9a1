use Rattle.direct_terms.proofs.terms.bound.Goals as goal

pub matched-requires : goal.matched-requires
matched-requires c = c.have_one_sort.ensures c.if-not-have_one_sort.false
