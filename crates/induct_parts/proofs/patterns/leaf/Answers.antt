use Rattle.std.proofs.Common.{refl}
use Rattle.induct_parts.proofs.patterns.leaf.Goals as goal

pub returns-then-not-found-clause-wrong : goal.returns-then-not-found-clause-wrong
returns-then-not-found-clause-wrong c = (c.in_ok-found.ensures.none (cc c.if-not-found.true), refl)
