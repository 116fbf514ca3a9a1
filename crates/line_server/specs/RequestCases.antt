-- Worked cases: what lines ask for.
use Rattle.std.specs.Prelude.{◌≡◌, ℕ, List, [], codes}
use Rattle.line_server.specs.Request.{Request, skip, show_menu, show_behaviour, show_trace, undo, leave, no_request, take_step, show_normal, compare, list_values, list_instances, request_of}

abbrev pub Asks : List ℕ → Request → Type 0
Asks line request = request_of line ≡ request

-- Lines that have a form. Blanks at the ends and a carriage return are no part of a line, and any number of spaces separates
-- words; a comment alone behind the number is left to the grammar of terms. Any word may be the name of a sort.
pub record LinesAsk : Type 0 where
  pub nothing : Asks (codes " \t\r") skip
  pub menu : Asks (codes "menu") show_menu
  pub show : Asks (codes "\tshow \r") show_behaviour
  pub trace : Asks (codes "trace ") show_trace
  pub undo_ : Asks (codes " undo") undo
  pub quit : Asks (codes "quit") leave
  pub step : Asks (codes "step 1") (take_step 1 [])
  pub step_nought : Asks (codes "step 0") (take_step 0 [])
  pub step_spaces : Asks (codes "step   12   Succ(0),  true ") (take_step 12 (codes "Succ(0),  true"))
  pub step_comment : Asks (codes "step 1 (* none *)") (take_step 1 (codes "(* none *)"))
  pub ten_digits : Asks (codes "step 9999999999") (take_step 9999999999 [])
  pub normal : Asks (codes "normal f(x)") (show_normal (codes "f(x)"))
  pub normal_of_nothing : Asks (codes "normal") (show_normal [])
  pub equal : Asks (codes "equal  a,  b") (compare (codes "a,  b"))
  pub values : Asks (codes "values N 3") (list_values (codes "N") 3)
  pub values_spaces : Asks (codes "values  Nat   64 ") (list_values (codes "Nat") 64)
  pub values_of_a_number : Asks (codes "values 17 1") (list_values (codes "17") 1)
  pub instances : Asks (codes "instances 1 3") (list_instances 1 3)
  pub instances_of_nought : Asks (codes "instances 0  64\r") (list_instances 0 64)

-- Lines that have none.
pub record LinesAskNothing : Type 0 where
  pub other_word : Asks (codes "jump") no_request
  pub capital : Asks (codes "Menu") no_request
  pub more_behind : Asks (codes "menu 1") no_request
  pub tab : Asks (codes "step\t1") no_request
  pub no_number : Asks (codes "step") no_request
  pub leading_zero : Asks (codes "step 01") no_request
  pub two_noughts : Asks (codes "step 00") no_request
  pub sign : Asks (codes "step +1") no_request
  pub comma : Asks (codes "step 1, 0") no_request
  pub tab_behind : Asks (codes "step 1\t0") no_request
  pub eleven_digits : Asks (codes "step 10000000000") no_request
  pub no_name : Asks (codes "save ") no_request
  pub no_name_to_replay : Asks (codes "replay") no_request
  pub no_sort : Asks (codes "values") no_request
  pub no_size : Asks (codes "values N") no_request
  pub size_nought : Asks (codes "values N 0") no_request
  pub size_too_large : Asks (codes "values N 65") no_request
  pub size_with_zero : Asks (codes "values N 03") no_request
  pub size_no_number : Asks (codes "values N x") no_request
  pub behind_size : Asks (codes "values N 3 4") no_request
  pub tab_before_size : Asks (codes "values N\t3") no_request
  pub entry_alone : Asks (codes "instances 1") no_request
  pub entry_no_number : Asks (codes "instances x 3") no_request
  pub entry_with_zero : Asks (codes "instances 01 3") no_request
  pub entry_too_large_size : Asks (codes "instances 1 65") no_request
