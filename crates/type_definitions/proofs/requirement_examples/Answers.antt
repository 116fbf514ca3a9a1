use Rattle.std.proofs.Common.{refl, []}
use Rattle.type_definitions.specs.FormalEquations.{no_more_formals, premised_passed}
use Rattle.type_definitions.specs.RequirementExamples.{premised_equation}
use Rattle.type_definitions.proofs.requirement_examples.Goals as goal

pub returns : goal.returns
returns c = record {
  of_numbers = refl;
  in_the_data = refl;
  each_its_own = refl;
  formals_of_numbers = refl;
  shared = refl;
  of_a_renaming = refl;
  still_formal = refl;
  of_the_actual = refl;
  left_out = λ t. premised_passed (premised_equation t) [] [] refl no_more_formals;
}
