-- Worked cases: the lines of refusals, and what some lines come to.
use Rattle.std.specs.Prelude.{◌≡◌, ℕ, List, [], Option, None, Some, codes}
use Rattle.lotos_base.specs.Outside.{Texts}
use Rattle.behaviour_semantics.specs.Behaviour.{stop}
use Rattle.session_log.specs.HandedOn.{bad_command, bad_term, opened_progress, no_entry, value_count, unmet, LineRefusal, bad_line, step_refused}
use Rattle.session_log.specs.HandedOn.{label_differs, state_differs, in_line, other_specification, small_basis, small_signature, small_menu}
use Rattle.session_log.specs.HandedOn.{small_falsehood, small_truth}
use Rattle.history_lines.specs.CommandRefusal.{CommandRefusal, ill_formed, no_step, unread, unwritten, trace_too_long, no_replay, command_refusal_text}
use Rattle.history_lines.specs.Standing.{Standing}
use Rattle.history_lines.specs.Befallen.{Befallen, says, says_faulty, leaves_session}
use Rattle.line_server.specs.Request.{replay}
use Rattle.history_lines.specs.Answer.{RequestComesTo, LineComesTo}

abbrev pub PrintsRefusal : CommandRefusal → List ℕ → Type 0
PrintsRefusal refusal line = command_refusal_text small_signature refusal ≡ line

abbrev pub replay_stopped : ℕ → LineRefusal → CommandRefusal
replay_stopped line why = no_replay (codes "S") (in_line line why)

-- The line of each refusal.
pub record RefusalsHaveLines : Type 0 where
  pub command : PrintsRefusal (ill_formed bad_command) (codes "refused 801 BadCommand\n")
  pub entry : PrintsRefusal (no_step (no_entry 5 1)) (codes "refused 802 NoEntry 5 of 1\n")
  pub count : PrintsRefusal (no_step (value_count 1 0)) (codes "refused 803 ValueCount wanted 1 given 0\n")
  pub term : PrintsRefusal (ill_formed (bad_term 211)) (codes "refused 804 BadTerm 211\n")
  pub condition : PrintsRefusal (no_step (unmet small_falsehood small_truth)) (codes "refused 806 Unmet false is not true\n")
  pub text : PrintsRefusal (unread (codes "t u")) (codes "refused 807 Unread t u\n")
  pub shelf : PrintsRefusal (unwritten (codes "t")) (codes "refused 808 Unwritten t\n")
  pub trace : PrintsRefusal (trace_too_long (codes "t")) (codes "refused 809 TraceTooLong t\n")
  pub line : PrintsRefusal (replay_stopped 1 bad_line) (codes "refused 810 BadLine line 1\n")
  pub label :
      PrintsRefusal (replay_stopped 2 (label_differs (codes "g !0") (codes "g !Succ(0)")))
      (codes "refused 811 LabelDiffers line 2 kept g !0 found g !Succ(0)\n")
  pub other :
      PrintsRefusal (no_replay (codes "S") (other_specification (codes "Other")))
      (codes "refused 813 OtherSpecification kept Other found S\n")
  pub state :
      PrintsRefusal (replay_stopped 3 (state_differs (codes "stop") (codes "h !0; stop")))
      (codes "refused 814 StateDiffers line 3 kept stop found h !0; stop\n")
  pub step : PrintsRefusal (replay_stopped 2 (step_refused (no_entry 5 1))) (codes "refused 812 Step line 2 802\n")
  pub step_count : PrintsRefusal (replay_stopped 3 (step_refused (value_count 1 0))) (codes "refused 812 Step line 3 803\n")
  pub step_condition : PrintsRefusal (replay_stopped 4 (step_refused (unmet small_falsehood small_truth)))
      (codes "refused 812 Step line 4 806\n")

-- a session at its start, over a shelf without texts, and one over a shelf that does not tell them
abbrev pub at_start : Option Texts → Standing
at_start texts = record {
  basis = small_basis;
  progress = opened_progress (record { state = stop; menu = small_menu });
  texts = texts;
}

abbrev pub no_texts : Texts
no_texts name = None

abbrev pub small_start : Standing
small_start = at_start (Some no_texts)

abbrev pub small_menu_text : List ℕ
small_menu_text = codes "events 2\n1: g !$1 for $1:Nat if $1 lt Succ(Succ(0)) = true\n2: i for $1:Bool\n"

abbrev pub IsPrintedAnswer : List ℕ → Befallen → Type 0
IsPrintedAnswer line it = LineComesTo small_start line it

-- Lines that ask for what is there, lines of no form, and lines of the shelf.
pub record CommandsComeTo : Type 0 where
  pub nothing : IsPrintedAnswer (codes " \t") (says small_start [])
  pub menu : IsPrintedAnswer (codes "menu") (says small_start small_menu_text)
  pub show : IsPrintedAnswer (codes "show\r") (says small_start (codes "stop\n"))
  pub trace : IsPrintedAnswer (codes "trace") (says small_start (codes "lotos-trace 2 S\n"))
  pub undo_ : IsPrintedAnswer (codes "undo") (says small_start (codes "nothing to undo\n"))
  pub quit : IsPrintedAnswer (codes "quit") (leaves_session small_start)
  pub other : IsPrintedAnswer (codes "jump") (says small_start (codes "refused 801 BadCommand\n"))
  pub leading_zero : IsPrintedAnswer (codes "step 01") (says small_start (codes "refused 801 BadCommand\n"))
  pub missing : RequestComesTo small_start (replay (codes "t u")) (says small_start (codes "refused 807 Unread t u\n"))
  pub failed : RequestComesTo small_start (replay (codes "t")) (says_faulty small_start (codes "refused 807 Unread t\n"))

-- Lines of steps: the tokens of the values are looked at before the number, and the number before the count of the values.
pub record StepsComeTo : Type 0 where
  pub nought : IsPrintedAnswer (codes "step 0") (says small_start (codes "refused 802 NoEntry 0 of 2\n"))
  pub past_the_end : IsPrintedAnswer (codes "step 3") (says small_start (codes "refused 802 NoEntry 3 of 2\n"))
  pub too_few : IsPrintedAnswer (codes "step 1") (says small_start (codes "refused 803 ValueCount wanted 1 given 0\n"))
  pub comment : IsPrintedAnswer (codes "step  1  (* 0 *)") (says small_start (codes "refused 803 ValueCount wanted 1 given 0\n"))
  pub bad_byte : IsPrintedAnswer (codes "step 3 0, $") (says small_start (codes "refused 804 BadTerm 101\n"))
  pub open_comment : IsPrintedAnswer (codes "step 1 (*") (says small_start (codes "refused 804 BadTerm 102\n"))
