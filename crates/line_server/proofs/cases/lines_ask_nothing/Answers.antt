use Rattle.std.proofs.Common.{refl}
use Rattle.line_server.proofs.cases.lines_ask_nothing.Goals as goal

pub returns : goal.returns
returns c = record {
  other_word = refl;
  capital = refl;
  more_behind = refl;
  tab = refl;
  no_number = refl;
  leading_zero = refl;
  two_noughts = refl;
  sign = refl;
  comma = refl;
  tab_behind = refl;
  eleven_digits = refl;
  no_name = refl;
  no_name_to_replay = refl;
  no_sort = refl;
  no_size = refl;
  size_nought = refl;
  size_too_large = refl;
  size_with_zero = refl;
  size_no_number = refl;
  behind_size = refl;
  tab_before_size = refl;
  entry_alone = refl;
  entry_no_number = refl;
  entry_with_zero = refl;
  entry_too_large_size = refl;
}
