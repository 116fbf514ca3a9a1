use Rattle.type_flatten.proofs.ContributionLemmas.{contributions}
use Rattle.type_flatten.proofs.contributions_are_exact.Goals as goal

pub returns : goal.returns
returns c = contributions
