use Rattle.ll_engine.proofs.Uniqueness.{one_unexpected}
use Rattle.ll_engine.proofs.laws.one_place_is_unexpected.Goals as goal

pub returns : goal.returns
returns c = one_unexpected
