use Rattle.std.proofs.Common.{refl}
use Rattle.type_definitions.proofs.union_examples.Goals as goal

pub returns : goal.returns
returns c = record { union = refl; none = refl; clash = refl }
