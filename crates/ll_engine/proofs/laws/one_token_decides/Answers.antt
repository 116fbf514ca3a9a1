use Rattle.ll_engine.proofs.Uniqueness.{one_row_of}
use Rattle.ll_engine.proofs.laws.one_token_decides.Goals as goal

pub returns : goal.returns
returns c = one_row_of
