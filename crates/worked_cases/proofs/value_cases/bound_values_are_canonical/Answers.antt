use Rattle.std.proofs.Common.{refl}
use Rattle.worked_cases.proofs.ShownMenus.{steps, kept_steps}
use Rattle.worked_cases.proofs.value_cases.bound_values_are_canonical.Goals as goal

pub returns : goal.returns
returns c = record {
  question = kept_steps _ _ _ _ _ _ _ _ refl refl refl;
  question_as_given = steps _ _ _ _ _ _ _ _ refl refl refl;
  binding = kept_steps _ _ _ _ _ _ _ _ refl refl refl;
  binding_as_given = steps _ _ _ _ _ _ _ _ refl refl refl;
  choosing = kept_steps _ _ _ _ _ _ _ _ refl refl refl;
  choosing_as_given = steps _ _ _ _ _ _ _ _ refl refl refl;
  accepting = kept_steps _ _ _ _ _ _ _ _ refl refl refl;
  accepting_as_given = steps _ _ _ _ _ _ _ _ refl refl refl;
  calling = kept_steps _ _ _ _ _ _ _ _ refl refl refl;
  calling_as_given = steps _ _ _ _ _ _ _ _ refl refl refl;
  ending = kept_steps _ _ _ _ _ _ _ _ refl refl refl;
  ending_as_given = steps _ _ _ _ _ _ _ _ refl refl refl;
  given = kept_steps _ _ _ _ _ _ _ _ refl refl refl;
  written = kept_steps _ _ _ _ _ _ _ _ refl refl refl;
}
