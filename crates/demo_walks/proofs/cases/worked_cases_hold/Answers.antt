use Rattle.std.proofs.Common.{refl}
use Rattle.std.specs.Fmt.{digits}
use Rattle.demo_walks.proofs.cases.worked_cases_hold.Goals as goal

pub returns-clause-walks_have_steps : goal.returns-clause-walks_have_steps
returns-clause-walks_have_steps c = record {
  one_cell = refl;
  two_cells = refl;
  round_of_three = refl;
  no_round = refl;
  no_cell = refl;
  no_value = refl;
}

pub returns-clause-summaries_have_texts : goal.returns-clause-summaries_have_texts
unfolding digits
returns-clause-summaries_have_texts c = record {
  no_steps = refl;
  some_steps = refl;
  entries = refl;
  label = refl;
}
