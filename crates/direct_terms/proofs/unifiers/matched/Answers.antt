use Rattle.std.proofs.Common.{inl}
use Rattle.direct_terms.proofs.unifiers.matched.Goals as goal

pub matches-requires : goal.matches-requires
matches-requires c = record { one_sort = λ n r s o p. c.requires n r s (inl o) (inl p) }
