use Rattle.history_lines.proofs.CaseLemmas.{bad_byte_in, no_terms_in, open_comment_in}
use Rattle.std.proofs.Common.{[], codes, refl}
use Rattle.history_lines.specs.Answer.{is_at_start}
use Rattle.history_lines.specs.CommandRefusal.{ill_formed, no_step}
use Rattle.history_lines.specs.ShelfAnswer.{is_failed, is_missing}
use Rattle.history_lines.specs.StepAnswer.{declined, is_miscounted, is_unread}
use Rattle.session_log.specs.HandedOn.{bad_term, no_entry, value_count}
use Rattle.std.specs.Fmt.{digits}
use Rattle.history_lines.proofs.cases.worked_cases_hold.Goals as goal

pub returns-clause-refusals_have_lines : goal.returns-clause-refusals_have_lines
unfolding digits
returns-clause-refusals_have_lines c = record {
  command = refl;
  entry = refl;
  count = refl;
  term = refl;
  condition = refl;
  text = refl;
  shelf = refl;
  trace = refl;
  line = refl;
  label = refl;
  other = refl;
  state = refl;
  step = refl;
  step_count = refl;
  step_condition = refl;
}

pub returns-clause-steps_come_to : goal.returns-clause-steps_come_to
unfolding digits
returns-clause-steps_come_to c = record {
  nought = (declined (no_step (no_entry 0 2)), is_miscounted [] (no_entry 0 2) (no_terms_in [] refl) refl, refl);
  past_the_end = (declined (no_step (no_entry 3 2)), is_miscounted [] (no_entry 3 2) (no_terms_in [] refl) refl, refl);
  too_few = (declined (no_step (value_count 1 0)), is_miscounted [] (value_count 1 0) (no_terms_in [] refl) refl, refl);
  comment = (
    declined (no_step (value_count 1 0)),
    is_miscounted [] (value_count 1 0) (no_terms_in (codes "(* 0 *)") refl) refl,
    refl,
  );
  bad_byte = (declined (ill_formed (bad_term 101)), is_unread 101 (bad_byte_in (codes "0, $") _ refl), refl);
  open_comment = (declined (ill_formed (bad_term 102)), is_unread 102 (open_comment_in (codes "(*") _ refl), refl);
}

pub returns-clause-commands_come_to : goal.returns-clause-commands_come_to
unfolding digits
returns-clause-commands_come_to c = record {
  nothing = refl;
  menu = refl;
  show = refl;
  trace = refl;
  undo_ = is_at_start refl;
  quit = refl;
  other = refl;
  leading_zero = refl;
  missing = is_missing refl;
  failed = is_failed;
}
