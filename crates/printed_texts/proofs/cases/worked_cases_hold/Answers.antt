use Rattle.std.proofs.Common.{refl}
use Rattle.std.specs.Fmt.{digits}
use Rattle.printed_texts.proofs.cases.worked_cases_hold.Goals as goal

pub returns-clause-operands_stand_in_brackets : goal.returns-clause-operands_stand_in_brackets
unfolding digits
returns-clause-operands_stand_in_brackets c = record {
  constant = refl;
  prefix = refl;
  several = refl;
  right = refl;
  left = refl;
  variables = refl;
}

pub returns-clause-stars_stand_apart : goal.returns-clause-stars_stand_apart
returns-clause-stars_stand_apart c = record {
  argument = refl;
  operand = refl;
  outside = refl;
}

pub returns-clause-twins_have_their_sorts : goal.returns-clause-twins_have_their_sorts
returns-clause-twins_have_their_sorts c = record {
  constant = refl;
  other = refl;
  infix_operation = refl;
  operand = refl;
}

pub returns-clause-labels_have_texts : goal.returns-clause-labels_have_texts
unfolding digits
returns-clause-labels_have_texts c = record {
  inner = refl;
  gate = refl;
  bare_gate = refl;
  exit = refl;
  bare_exit = refl;
}

pub returns-clause-menus_have_texts : goal.returns-clause-menus_have_texts
unfolding digits
returns-clause-menus_have_texts c = record {
  empty = refl;
  variables = refl;
  conditions = refl;
  head = refl;
}

pub returns-clause-prefixes_have_texts : goal.returns-clause-prefixes_have_texts
returns-clause-prefixes_have_texts c = record {
  nothing = refl;
  exit = refl;
  bare_exit = refl;
  offers = refl;
  inner = refl;
  guarded = refl;
}

pub returns-clause-signs_stand_between_parts : goal.returns-clause-signs_stand_between_parts
returns-clause-signs_stand_between_parts c = record {
  choices = refl;
  interleaving = refl;
  synchrony = refl;
  gates = refl;
  no_gate = refl;
  enabling = refl;
  accepting = refl;
}

pub returns-clause-word_forms_have_texts : goal.returns-clause-word_forms_have_texts
returns-clause-word_forms_have_texts c = record {
  lets = refl;
  value = refl;
  gate = refl;
  parallel_gates = refl;
  calls = refl;
  bare_call = refl;
  relabelled = refl;
  by_nothing = refl;
}
