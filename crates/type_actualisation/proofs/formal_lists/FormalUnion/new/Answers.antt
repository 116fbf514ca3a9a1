use Rattle.type_definitions.specs.FormalEquations.{no_formals}
use Rattle.type_definitions.specs.Presentation.{presentation_limit}
use Rattle.type_actualisation.proofs.FormalListLemmas.{few_none, none_over}
use Rattle.type_actualisation.proofs.formal_lists.FormalUnion.new.Goals as goal

pub returns : goal.returns
returns c = record {
  sorts_are = c.new.ensures.members;
  operations_are = c.new-2.ensures.members;
  sort_keys = c.new.ensures.keyed;
  operation_keys = c.new-2.ensures.keyed;
  few_sorts = few_none _ presentation_limit c.new.ensures.members;
  few_operations = few_none _ presentation_limit c.new-2.ensures.members;
  formals_are = c.new-3.ensures.equations;
  formals = none_over no_formals.presentation.signature _ c.new-3.ensures.keyed c.new-3.ensures.equations;
}
