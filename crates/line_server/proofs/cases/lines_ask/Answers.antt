use Rattle.std.proofs.Common.{refl}
use Rattle.line_server.proofs.cases.lines_ask.Goals as goal

pub returns : goal.returns
returns c = record {
  nothing = refl;
  menu = refl;
  show = refl;
  trace = refl;
  undo_ = refl;
  quit = refl;
  step = refl;
  step_nought = refl;
  step_spaces = refl;
  step_comment = refl;
  ten_digits = refl;
  normal = refl;
  normal_of_nothing = refl;
  equal = refl;
  values = refl;
  values_spaces = refl;
  values_of_a_number = refl;
  instances = refl;
  instances_of_nought = refl;
}
