use Rattle.std.proofs.Common.{refl}
use Rattle.type_definitions.proofs.declaration_examples.Goals as goal

pub returns : goal.returns
returns c = record {
  declared = refl;
  fine = refl;
  second_sort = refl;
  one_argument = refl;
  unknown = refl;
  second_operation = refl;
  numbered = refl;
}
