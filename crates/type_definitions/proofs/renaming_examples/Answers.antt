use Rattle.std.proofs.Common.{refl}
use Rattle.type_definitions.proofs.renaming_examples.Goals as goal

pub returns : goal.returns
returns c = record {
  renamed = refl;
  fine = refl;
  clash = refl;
  unknown = refl;
  actual = refl;
  all_there = refl;
  none_there = refl;
  nothing_formal = refl;
}
