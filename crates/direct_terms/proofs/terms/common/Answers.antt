use Rattle.direct_terms.proofs.terms.common.Goals as goal

pub unified-requires : goal.unified-requires
unified-requires c = c.have_one_sort.ensures c.if-not-have_one_sort.false
