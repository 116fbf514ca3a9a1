use Rattle.std.proofs.Common.{refl}
use Rattle.std.specs.Fmt.{digits}
use Rattle.flat_text.proofs.cases.worked_cases_hold.Goals as goal

pub returns-clause-data_stand_alone : goal.returns-clause-data_stand_alone
unfolding digits
returns-clause-data_stand_alone c = record {
  nothing = refl;
  renamed = refl;
}

pub returns-clause-data_are_read_one_way : goal.returns-clause-data_are_read_one_way
unfolding digits
returns-clause-data_are_read_one_way c = record {
  lines = refl;
}

pub returns-clause-processes_have_apart_names : goal.returns-clause-processes_have_apart_names
unfolding digits
returns-clause-processes_have_apart_names c = record {
  whole = refl;
}

pub returns-clause-names_are_given_apart : goal.returns-clause-names_are_given_apart
unfolding digits
returns-clause-names_are_given_apart c = record {
  none = refl;
  apart = refl;
  again = refl;
  small = refl;
  taken = refl;
  chained = refl;
  variables = refl;
  more = refl;
}
