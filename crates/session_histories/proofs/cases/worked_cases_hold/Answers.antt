use Rattle.std.proofs.Common.{List, Some, [], ap, arith, codes, refl, subst, sym, ℕ, ◌∙◌, ◌∷◌, ◌≡◌, ◌≢◌}
use Rattle.behaviour_semantics.specs.Behaviour.{Behaviour}
use Rattle.printed_texts.specs.BehaviourText.{state_text}
use Rattle.session_histories.specs.RefusalCases.{small_basis, small_signature, small_specification}
use Rattle.session_histories.specs.Replay.{all_done, all_stated, both_go_on, has_no_form, has_no_state, in_line, is_elsewhere, is_missing, is_there, one_goes_on, one_stops, shown_state, state_differs, state_stops, step_stops, stops}
use Rattle.session_histories.specs.Session.{Progress, Situation}
use Rattle.session_histories.specs.StateCases.{LeadsOn, ReplayOfTextComesTo}
use Rattle.std.specs.Fmt.{digits}
use Rattle.session_histories.proofs.cases.worked_cases_hold.Goals as goal

pub returns-clause-texts_are_cut : goal.returns-clause-texts_are_cut
returns-clause-texts_are_cut c = record {
  nothing = refl;
  one = refl;
  without_line_feed = refl;
  empty_line = refl;
  carriage_return = refl;
}

pub returns-clause-lines_say : goal.returns-clause-lines_say
returns-clause-lines_say c = record {
  value = refl;
  values = refl;
  no_values = refl;
  empty_values = refl;
  blank_values = refl;
  nought = refl;
  ten_digits = refl;
  empty_label = refl;
  blank_in_label = refl;
  arrow_in_label = refl;
  arrow_in_comment = refl;
}

pub returns-clause-lines_have_no_form : goal.returns-clause-lines_have_no_form
returns-clause-lines_have_no_form c = record {
  empty = refl;
  heading = refl;
  no_number = refl;
  no_arrow = refl;
  tight_arrow = refl;
  cut_arrow = refl;
  leading_zero = refl;
  two_zeros = refl;
  eleven_digits = refl;
  sign = refl;
  blank_before = refl;
  tab_behind = refl;
  carriage_return = refl;
}

pub returns-clause-steps_are_refused : goal.returns-clause-steps_are_refused
returns-clause-steps_are_refused c = record {
  entry_zero = refl;
  past_the_end = refl;
  too_few = refl;
  too_many = refl;
  other_sort = refl;
  unmet = refl;
  met = refl;
  no_condition = refl;
}

pub returns-clause-traces_have_texts : goal.returns-clause-traces_have_texts
unfolding digits
returns-clause-traces_have_texts c = record {
  no_step = refl;
  steps = refl;
}

pub returns-clause-headings_say : goal.returns-clause-headings_say
returns-clause-headings_say c = record {
  plain = refl;
  stated = refl;
  blanks = refl;
  no_name = refl;
  no_blank = refl;
  name_behind_one = refl;
  other_format = refl;
  capital = refl;
  plain_return = refl;
  stated_return = refl;
  nothing = refl;
}

pub returns-clause-states_are_kept : goal.returns-clause-states_are_kept
returns-clause-states_are_kept c = record {
  state = refl;
  blanks = refl;
  empty_state = refl;
  no_blank = refl;
  blank_before = refl;
  capital = refl;
  step = refl;
  carriage_return = refl;
  empty = refl;
}

pub returns-clause-traces_have_states : goal.returns-clause-traces_have_states
unfolding digits
returns-clause-traces_have_states c = record {
  no_step = refl;
  steps = refl;
}

-- the text of the state that the step leads to
shown : (first : Situation) (next : Progress) → LeadsOn first next → shown_state small_basis next ≡ codes "h !0; stop"
shown first next is = ap (λ (state : Behaviour). state_text small_signature small_specification state) is.state

first_byte : List ℕ → ℕ
first_byte [] = 0
first_byte (byte ∷ bytes) = byte

apart : codes "stop" ≢ codes "h !0; stop"
unfolding first_byte
apart same = let bytes : 115 ≡ 104 = ap first_byte same in absurd (omega (arith, bytes))

differs : (first : Situation) (next : Progress) → LeadsOn first next → codes "stop" ≢ shown_state small_basis next
differs first next is same = apart (same ∙ shown first next is)

other_state : (first : Situation) (next : Progress) → LeadsOn first next
    → ReplayOfTextComesTo first (codes "lotos-trace 2 S\n1 0 => g !0\nat stop\n")
    (stops (in_line 3 (state_differs (codes "stop") (codes "h !0; stop"))))
other_state first next is =
    subst (λ (text : List ℕ). ReplayOfTextComesTo first (codes "lotos-trace 2 S\n1 0 => g !0\nat stop\n")
    (stops (in_line 3 (state_differs (codes "stop") text)))) (shown first next is)
    (state_stops is.goes (is_elsewhere (codes "stop") refl (differs first next is)))

pub returns-clause-states_are_compared : goal.returns-clause-states_are_compared
returns-clause-states_are_compared c = record {
  nothing = λ first. refl;
  other_name = λ first. refl;
  other_name_first = λ first. refl;
  letter_case = λ first. all_stated;
  no_line_feed = λ first. all_stated;
  no_step = λ first. step_stops (has_no_form refl);
  other_state = other_state;
  missing_state = λ first next is. state_stops is.goes is_missing;
  step_for_state = λ first next is. state_stops is.goes (has_no_state refl);
  same_state = λ first next is. both_go_on is.goes (is_there (ap (λ (text : List ℕ). Some text) (sym (shown first next is)))) all_stated;
  plain = λ first next is. one_goes_on is.goes all_done;
  state_in_plain = λ first next is. one_goes_on is.goes (one_stops (has_no_form refl));
}
