use Rattle.std.proofs.Common.{refl}
use Rattle.type_definitions.proofs.actualisation_examples.Goals as goal

pub returns : goal.returns
returns c = record {
  doubled = refl;
  fine = refl;
  no_plus = refl;
  one_operation = refl;
  one_is_fine = refl;
  two_operations = refl;
  two_named_h = refl;
}
