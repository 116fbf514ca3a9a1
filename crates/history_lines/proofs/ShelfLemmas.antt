-- Lines of the shelf that were answered.
use Rattle.std.proofs.Common.{◌≡◌, ℕ, ◌<◌, ◌≤◌, ◌+◌, nat_lt, Bool, true, false, List, [], ◌++◌, take, length, Option, Some, None, IfSome, IsSomeAnd, codes, decimal, refl, ap, sym, ◌∙◌, subst, arith, take_all, ltb-true, ltb-false}
use Rattle.std.proofs.lemmas.List.{length-take-le}
use Rattle.lotos_base.specs.Counts.{Rises}
use Rattle.lotos_base.specs.Outside.{Texts, Gets}
use Rattle.line_server.specs.Request.{save, replay}
use Rattle.session_log.specs.HandedOn.{SessionBasis, first_situation, ReplayRefusal, ReplayIs, goes_on, stops, bad_line, label_differs}
use Rattle.session_log.specs.HandedOn.{state_differs, step_refused, in_line, other_specification}
use Rattle.session_log.specs.HandedOn.step_refusals as plain
use Rattle.session_log.specs.RefusalView.{step_refusal_of, TellsReplay, TellsStepOf, At}
use Rattle.session_log.specs.declared.refusals.StepRefusal.{StepRefusal}
use Rattle.session_log.specs.declared.refusals.ReplayFault.{ReplayFault}
use Rattle.session_log.specs.declared.refusals.ReplayFault.TheVariants as replay_fault
use Rattle.history_lines.specs.Standing.{Standing, shown_menu, shown_trace}
use Rattle.history_lines.specs.CommandRefusal.{unread, unwritten, trace_too_long, no_replay, replay_refusal_text}
use Rattle.history_lines.specs.Befallen.{come_to, with_texts}
use Rattle.history_lines.specs.ShelfAnswer.{trace_limit, refusal_in, HasPut, MayHavePut, saved_text, is_too_long, is_unwritten, is_saved, StandsUnder, IsMissing, replayed_text, is_failed, is_missing, is_long, is_refused, is_replayed}
use Rattle.history_lines.specs.RefusalView.{AddsFault, at_line}
use Rattle.history_lines.specs.Serving.{moment_of, GivesAnswer, IsAsBefore}
use Rattle.history_lines.proofs.ServingLemmas.{same_standing, gives_said, gives_faulty}

-- ---- Saving

pub gives_long_trace : (before : Standing) (faults : ℕ) (name text : List ℕ)
    → trace_limit < length (shown_trace before.basis before.progress) → text ≡ refusal_in before (trace_too_long name)
    → GivesAnswer (moment_of before faults) (save name) text (moment_of before faults)
gives_long_trace before faults name text long printed =
    gives_said before before before faults faults (save name) text (refusal_in before (trace_too_long name)) (is_too_long long) refl printed
    refl refl

pub gives_unwritten : (before : Standing) (after : Option Texts) (faults faults_after : ℕ) (name text : List ℕ)
    → length (shown_trace before.basis before.progress) ≤ trace_limit → MayHavePut before.texts after name
    → Rises faults faults_after → text ≡ refusal_in before (unwritten name)
    → GivesAnswer (moment_of before faults) (save name) text (moment_of (with_texts before after) faults_after)
gives_unwritten before after faults faults_after name text short may rises printed =
    gives_faulty before (with_texts before after) (with_texts before after) faults faults_after (save name) text
    (refusal_in before (unwritten name)) (is_unwritten after short may) refl printed refl rises

pub gives_saved : (before : Standing) (after : Option Texts) (faults faults_after : ℕ) (name text : List ℕ)
    → length (shown_trace before.basis before.progress) ≤ trace_limit
    → HasPut before.texts after name (shown_trace before.basis before.progress) → faults_after ≡ faults → text ≡ saved_text name
    → GivesAnswer (moment_of before faults) (save name) text (moment_of (with_texts before after) faults_after)
gives_saved before after faults faults_after name text short put counted printed =
    gives_said before (with_texts before after) (with_texts before after) faults faults_after (save name) text (saved_text name)
    (is_saved after short put) refl printed refl counted

-- ---- Replay

-- a text of which one byte more was asked for than came is whole
whole : (limit : ℕ) (text got : List ℕ) → got ≡ take (limit + 1) text → length got ≤ limit → text ≡ got
whole limit text got is short = by (nat_lt limit (length text)) refl
  where
    by : (b : Bool) → nat_lt limit (length text) ≡ b → text ≡ got
    by true e =
        let counted : length got ≡ limit + 1 =
        ap length is ∙ length-take-le (limit + 1) text (omega (arith, ltb-true limit (length text) e)) in
        absurd (omega (arith, counted, short))
    by false e = sym (is ∙ take_all (limit + 1) text (omega (arith, ltb-false limit (length text) e)))

-- and the text is longer than the limit where that byte came
longer : (limit : ℕ) (text got : List ℕ) → got ≡ take (limit + 1) text → limit < length got → limit < length text
longer limit text got is long = by (nat_lt limit (length text)) refl
  where
    by : (b : Bool) → nat_lt limit (length text) ≡ b → limit < length text
    by true e = ltb-true limit (length text) e
    by false e =
        let counted : length got ≡ length text =
        ap length (is ∙ take_all (limit + 1) text (omega (arith, ltb-false limit (length text) e))) in
        absurd (omega (arith, counted, long, ltb-false limit (length text) e))

-- a text that was got, up to one byte more than a trace may have, is whole where it is short
pub got_short : (texts : Option Texts) (name got : List ℕ) → IfSome texts (λ told. Gets told name (trace_limit + 1) got)
    → length got ≤ trace_limit → StandsUnder texts name got
got_short None name got gets short = tt
got_short (Some told) name got gets short = by (told name) gets
  where
    by : (found : Option (List ℕ)) → IsSomeAnd found (λ text. got ≡ take (trace_limit + 1) text) → found ≡ Some got
    by None h = absurd h
    by (Some text) h = ap (λ (it : List ℕ). Some it) (whole trace_limit text got h short)

-- the text of which too much was got
pub record IsLongUnder (texts : Option Texts) (name : List ℕ) : Type 0 where
  pub text : List ℕ
  pub stands : StandsUnder texts name text
  pub long : trace_limit < length text

pub got_long : (texts : Option Texts) (name got : List ℕ) → IfSome texts (λ told. Gets told name (trace_limit + 1) got)
    → trace_limit < length got → IsLongUnder texts name
got_long None name got gets long = record { text = got; stands = tt; long = long }
got_long (Some told) name got gets long = by (told name) refl gets
  where
    by : (found : Option (List ℕ)) → told name ≡ found → IsSomeAnd found (λ text. got ≡ take (trace_limit + 1) text)
        → IsLongUnder (Some told) name
    by None is h = absurd h
    by (Some text) is h = record { text = text; stands = is; long = longer trace_limit text got h long }

pub gives_long_text : (before : Standing) (faults : ℕ) (name text : List ℕ) → IsLongUnder before.texts name
    → text ≡ refusal_in before (trace_too_long name) → GivesAnswer (moment_of before faults) (replay name) text (moment_of before faults)
gives_long_text before faults name text long printed =
    gives_said before before before faults faults (replay name) text (refusal_in before (trace_too_long name))
    (is_long long.text long.stands long.long) refl printed refl refl

pub gives_failed : (before after : Standing) (faults faults_after : ℕ) (name text : List ℕ) → after ≡ before
    → Rises faults faults_after → text ≡ refusal_in before (unread name)
    → GivesAnswer (moment_of before faults) (replay name) text (moment_of after faults_after)
gives_failed before after faults faults_after name text same rises printed =
    gives_faulty before after before faults faults_after (replay name) text (refusal_in before (unread name)) is_failed refl printed same
    rises

pub gives_missing : (before after : Standing) (faults faults_after : ℕ) (name text : List ℕ) → IsMissing before.texts name
    → after ≡ before → faults_after ≡ faults → text ≡ refusal_in before (unread name)
    → GivesAnswer (moment_of before faults) (replay name) text (moment_of after faults_after)
gives_missing before after faults faults_after name text missing same counted printed =
    gives_said before after before faults faults_after (replay name) text (refusal_in before (unread name)) (is_missing missing) refl
    printed same counted

pub gives_replayed : (before after : Standing) (faults : ℕ) (name got text : List ℕ) (count : ℕ) → StandsUnder before.texts name got
    → length got ≤ trace_limit
    → ReplayIs before.basis (first_situation before.progress) got (goes_on after.progress) → after.basis ≡ before.basis
    → after.texts ≡ before.texts → count ≡ length after.progress.steps
    → text ≡ codes "replayed " ++ decimal count ++ codes "\n" ++ shown_menu after.basis after.progress
    → GivesAnswer (moment_of before faults) (replay name) text (moment_of after faults)
gives_replayed before after faults name got text count stands short comes same kept counted printed =
    gives_said before after (come_to before after.progress) faults faults (replay name) text
    (replayed_text before.basis after.progress) (is_replayed got after.progress stands short comes) refl
    (printed
    ∙ (ap (λ (n : ℕ). codes "replayed " ++ decimal n ++ codes "\n" ++ shown_menu after.basis after.progress) counted
    ∙ ap (λ (it : SessionBasis). replayed_text it after.progress) same))
    (same_standing after (come_to before after.progress) same refl kept) refl

pub gives_refused : (before after : Standing) (faults : ℕ) (name got text : List ℕ) (fault : ReplayFault)
    → StandsUnder before.texts name got → length got ≤ trace_limit
    → TellsReplay (λ why. ReplayIs before.basis (first_situation before.progress) got (stops why)) fault → after ≡ before
    → AddsFault before.basis.specification.name fault [] text
    → GivesAnswer (moment_of before faults) (replay name) text (moment_of after faults)
gives_refused before after faults name got text fault stands short told same adds = by fault told adds
  where
    here : (why : ReplayRefusal) → ReplayIs before.basis (first_situation before.progress) got (stops why)
        → text ≡ replay_refusal_text before.basis.specification.name why
        → GivesAnswer (moment_of before faults) (replay name) text (moment_of after faults)
    here why comes printed =
        gives_said before after before faults faults (replay name) text (refusal_in before (no_replay before.basis.specification.name why))
        (is_refused got why stands short comes) refl printed same refl

    stepped : (line : ℕ) (refusal : StepRefusal)
        → TellsStepOf (At (λ why. ReplayIs before.basis (first_situation before.progress) got (stops why)) line) refusal
        → IsSomeAnd (at_line line (step_refusal_of refusal)) (λ why. text ≡ [] ++ replay_refusal_text before.basis.specification.name why)
        → GivesAnswer (moment_of before faults) (replay name) text (moment_of after faults)
    stepped line refusal h added =
        here (in_line line (step_refused h.0)) h.2
        (subst (λ (it : Option plain.StepRefusal). IsSomeAnd (at_line line it)
        (λ (why : ReplayRefusal). text ≡ [] ++ replay_refusal_text before.basis.specification.name why)) h.1 added)

    by : (it : ReplayFault) → TellsReplay (λ why. ReplayIs before.basis (first_situation before.progress) got (stops why)) it
        → AddsFault before.basis.specification.name it [] text
        → GivesAnswer (moment_of before faults) (replay name) text (moment_of after faults)
    by (replay_fault.BadLine line) h added = here (in_line line bad_line) h added
    by (replay_fault.OtherSpecification kept) h added = here (other_specification kept.items) h added
    by (replay_fault.LabelDiffers line kept found) h added = here (in_line line (label_differs kept.items found.items)) h added
    by (replay_fault.StateDiffers line kept found) h added = here (in_line line (state_differs kept.items found.items)) h added
    by (replay_fault.Step line refusal) h added = stepped line refusal h added
    by replay_fault.NoMemory h added = absurd added

-- ---- Shelves that wanted memory

pub kept_texts : (old new : Option Texts) → IfSome old (λ told. IsSomeAnd new (λ told_after. told_after ≡ told))
    → IfSome old (λ told. new ≡ old)
kept_texts None new h = tt
kept_texts (Some told) None h = absurd h
kept_texts (Some told) (Some told_after) h = ap (λ (it : Texts). Some it) h

pub as_before_put : (before : Standing) (after : Option Texts) (faults faults_after : ℕ)
    → IfSome before.texts (λ told. IsSomeAnd after (λ told_after. told_after ≡ told)) → faults_after ≡ faults
    → IsAsBefore (moment_of before faults) (moment_of (with_texts before after) faults_after)
as_before_put before after faults faults_after kept counted =
    record { basis = refl; progress = refl; texts = kept_texts before.texts after kept; faults = counted }
