-- The texts of the steps of a trace.
use Rattle.std.proofs.Common.{◌≡◌, ◌+◌, ◌<◌, ◌≤◌, ℕ, List, [], ◌∷◌, ◌++◌, map, length, get_or, drop, codes, refl, ap, sym, ◌∙◌, append_assoc, append-nil, arith, nat_eq, true, eqb-true}
use Rattle.std.proofs.lemmas.List.{length-append, drop_all}
use Rattle.lotos_base.proofs.Pieces.{next_member}
use Rattle.lotos_base.specs.Name.{spelling}
use Rattle.lotos_base.specs.declared.names.Name.{Name}
use Rattle.sort_terms.specs.SignatureView.{signature_of}
use Rattle.sort_terms.specs.declared.signatures.Signature.{Signature}
use Rattle.behaviour_semantics.specs.Behaviour.{Behaviour}
use Rattle.behaviour_tree.specs.DefinitionView.{specification_of}
use Rattle.behaviour_tree.specs.StateView.{state_of}
use Rattle.behaviour_tree.specs.declared.definitions.Spec.{Spec}
use Rattle.behaviour_tree.specs.declared.states.State.{State}
use Rattle.menu_builder.specs.HandedOn.{Menu}
use Rattle.session_histories.specs.Session.{Situation, first_of}
use Rattle.session_histories.specs.TraceText.{ended, step_text, line_of_state, stated_steps}
use Rattle.session_log.specs.CourseView.{past_item_of, pasts_of, situation_of}
use Rattle.session_log.specs.Courses.{oldest_state, behind_state}
use Rattle.session_log.specs.declared.courses.Course.{Course}
use Rattle.session_log.specs.declared.courses.Past.{Past}
use Rattle.session_log.specs.RefusalView.{TellsLength}
use Rattle.session_log.specs.declared.refusals.TraceFault.{TraceFault}
use Rattle.session_log.specs.declared.refusals.TraceFault.TheVariants as trace_fault

-- the state behind a step is where what is left of the steps begins
behind_is : (state : State) (menu : Menu) (rest : List Past)
    → (first_of (situation_of state menu) (pasts_of rest)).state ≡ state_of (oldest_state state rest)
behind_is state menu [] = refl
behind_is state menu (past ∷ rest) = refl

-- a step and the state behind it are written
pub two_lines_more : (signature : Signature) (spec : Spec) (course : Course) (index : ℕ) (past : Past) (was now after start : List ℕ)
    → index < length course.history.items → past ≡ get_or course.history.items index past
    → was ++ stated_steps (signature_of signature) (specification_of spec) (situation_of course.state course.menu)
    (pasts_of (drop index course.history.items)) ≡ start
    → now ≡ was ++ ended (step_text (signature_of signature) (map spelling spec.gate_names.items) (past_item_of past))
    → after ≡ now ++ ended (line_of_state (signature_of signature) (specification_of spec) (state_of (behind_state course index)))
    → after ++ stated_steps (signature_of signature) (specification_of spec) (situation_of course.state course.menu)
    (pasts_of (drop (index + 1) course.history.items)) ≡ start
two_lines_more signature spec course index past was now after start below is before written then_ =
    let last : Situation = situation_of course.state course.menu in
    let rest : List Past = drop (index + 1) course.history.items in
    let step : List ℕ = ended (step_text (signature_of signature) (map spelling spec.gate_names.items) (past_item_of past)) in
    let state : List ℕ = ended (line_of_state (signature_of signature) (specification_of spec) (state_of (behind_state course index))) in
    let more : List ℕ = stated_steps (signature_of signature) (specification_of spec) last (pasts_of rest) in
    ap (λ (it : List ℕ). it ++ more) (then_ ∙ ap (λ (it : List ℕ). it ++ state) written)
    ∙ (append_assoc (was ++ step) state more
    ∙ (append_assoc was step (state ++ more)
    ∙ (ap (λ (it : Behaviour). was ++ (step ++ (ended (line_of_state (signature_of signature) (specification_of spec) it) ++ more)))
    (sym (behind_is course.state course.menu rest))
    ∙ (ap (λ (it : List Past). was ++ stated_steps (signature_of signature) (specification_of spec) last (pasts_of it))
    (sym (next_member course.history.items index past below is)) ∙ before))))

-- behind the last step nothing is left to write
pub all_written : (signature : Signature) (spec : Spec) (course : Course) (index : ℕ) (text whole : List ℕ)
    → length course.history.items ≤ index
    → text ++ stated_steps (signature_of signature) (specification_of spec) (situation_of course.state course.menu)
    (pasts_of (drop index course.history.items)) ≡ whole
    → text ≡ whole
all_written signature spec course index text whole past is =
    let last : Situation = situation_of course.state course.menu in
    sym (append-nil text)
    ∙ (ap (λ (it : List Past). text ++ stated_steps (signature_of signature) (specification_of spec) last (pasts_of it))
    (sym (drop_all index course.history.items past)) ∙ is)

-- ---- Texts that are too long

-- a text of which a part is longer than the limit
pub longer : (limit : ℕ) (part rest whole : List ℕ) → part ++ rest ≡ whole → limit < length part → limit < length whole
longer limit part rest whole is long =
    let counted : length part + length rest ≡ length whole = sym (length-append part rest) ∙ ap length is in
    omega (arith, counted, long)

pub long_told : (limit : ℕ) (part rest whole : List ℕ) → part ++ rest ≡ whole → (fault : TraceFault) → TellsLength limit (length part) fault
    → TellsLength limit (length whole) fault
long_told limit part rest whole is trace_fault.TooLong h = longer limit part rest whole is h
long_told limit part rest whole is trace_fault.NoMemory h = tt

-- ---- A text behind nothing

pub nothing_before : (old text : List ℕ) (number : ℕ) → number ≡ length old → nat_eq number 0 ≡ true → text ≡ old ++ text
nothing_before [] text number counted is = refl
nothing_before (byte ∷ old) text number counted is = let e = eqb-true number 0 is in absurd (omega (arith, e, counted))
