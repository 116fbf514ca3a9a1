use Rattle.std.proofs.Common.{refl}
use Rattle.lotos_rows.specs.Rows.{rows}
use Rattle.lotos_rows.proofs.kept.kept_tokens_stand_in_front.Goals as goal

pub returns : goal.returns
unfolding rows
returns c = refl
