-- Lines that were answered, request by request.
use Rattle.std.proofs.Common.{◌≡◌, ◌⊎◌, inl, inr, ℕ, ◌+◌, ◌≤◌, Bool, true, false, List, [], ◌∷◌, ◌++◌, Option, Some, None, IfSome, Result, Ok, Err, IfOk, MatchResult, codes, refl, ap, sym, ◌∙◌, subst, arith}
use Rattle.lotos_base.specs.Counts.{Rises}
use Rattle.lotos_base.specs.Outside.{Texts}
use Rattle.lotos_base.specs.Signature.{Signature}
use Rattle.behaviour_semantics.specs.Label.{Label}
use Rattle.line_server.specs.RequestLaws.{Carries}
use Rattle.line_server.specs.Request.{Request, take_step, undo, leave, show_normal, compare, list_values, list_instances}
use Rattle.history_lines.specs.Standing.{Standing}
use Rattle.history_lines.specs.CommandRefusal.{CommandRefusal, command_refusal_text}
use Rattle.history_lines.specs.Befallen.{Befallen, says, says_faulty, leaves_session, come_to}
use Rattle.session_log.specs.HandedOn.{IsNormalAnswer, IsComparison, normal_text, comparison_text, AddsOutcome, SessionBasis, HasUndone}
use Rattle.value_lists.specs.ListOutcome.{ValuesComeTo, InstancesComeTo}
use Rattle.value_lists.specs.ListText.{listed_values_text, instances_text}
use Rattle.value_lists.specs.ListView.{AddsList}
use Rattle.session_log.specs.Courses.{IsUndone}
use Rattle.history_lines.specs.StepAnswer.{took, declined, StepComesTo}
use Rattle.history_lines.specs.ShelfAnswer.{refusal_in}
use Rattle.history_lines.specs.Answer.{RequestComesTo, did_text, undone_text, is_undone, is_at_start}
use Rattle.history_lines.specs.RefusalView.{decline_of, AddsLine, AddsDecline}
use Rattle.history_lines.specs.Serving.{SessionMoment, moment_of, ShelfCounts, ends_session, GivesAnswer, IsAsBefore, IsBeforeOrBehind, Declines, undo_text}
use Rattle.history_lines.specs.declared.refusals.Decline.{Decline}

-- what a call answers, and what holds where it fails
pub either_way : {T E : Type 0} (result : Result T E) (Was Is : T → Type 0) (Otherwise : E → Type 0) → ((t : T) → Was t → Is t)
    → ((e : E) → Otherwise e) → IfOk result Was → MatchResult result Is Otherwise
either_way (Ok t) Was Is Otherwise so otherwise h = so t h
either_way (Err e) Was Is Otherwise so otherwise h = otherwise e

-- the parts of a standing
pub same_standing : (one other : Standing) → one.basis ≡ other.basis → one.progress ≡ other.progress → one.texts ≡ other.texts
    → one ≡ other
same_standing one other b p t = λ i. record { basis = b i; progress = p i; texts = t i }

if_told : (one other : Option Texts) → one ≡ other → IfSome other (λ told. one ≡ other)
if_told one None same = tt
if_told one (Some told) same = same

-- nothing has changed
pub is_as_before : (before after : Standing) (faults faults_after : ℕ) → after ≡ before → faults_after ≡ faults
    → IsAsBefore (moment_of before faults) (moment_of after faults_after)
is_as_before before after faults faults_after same counted = record {
  basis = ap (λ (it : Standing). it.basis) same;
  progress = ap (λ (it : Standing). it.progress) same;
  texts = if_told after.texts before.texts (ap (λ (it : Standing). it.texts) same);
  faults = counted;
}

-- an answer without a fault of the shelf, and one with a fault
pub gives_said : (before after next : Standing) (faults faults_after : ℕ) (wanted : Request) (text said : List ℕ)
    → RequestComesTo before wanted (says next said) → ends_session wanted ≡ false → text ≡ said → after ≡ next → faults_after ≡ faults
    → GivesAnswer (moment_of before faults) wanted text (moment_of after faults_after)
gives_said before after next faults faults_after wanted text said comes stays printed same counted =
    record { it = says next said; comes = comes; printed = printed; next = same; quits = sym stays; counted = counted }

pub gives_faulty : (before after next : Standing) (faults faults_after : ℕ) (wanted : Request) (text said : List ℕ)
    → RequestComesTo before wanted (says_faulty next said) → ends_session wanted ≡ false → text ≡ said → after ≡ next
    → Rises faults faults_after → GivesAnswer (moment_of before faults) wanted text (moment_of after faults_after)
gives_faulty before after next faults faults_after wanted text said comes stays printed same counted =
    record { it = says_faulty next said; comes = comes; printed = printed; next = same; quits = sym stays; counted = counted }

-- ---- Steps

pub gives_step : (before after : Standing) (faults number : ℕ) (terms text : List ℕ) (label : Label)
    → StepComesTo before.basis before.progress number terms (took label after.progress) → after.basis ≡ before.basis
    → after.texts ≡ before.texts → text ≡ did_text after.basis label after.progress
    → GivesAnswer (moment_of before faults) (take_step number terms) text (moment_of after faults)
gives_step before after faults number terms text label comes same kept printed =
    gives_said before after (come_to before after.progress) faults faults (take_step number terms) text
    (did_text before.basis label after.progress) (took label after.progress, comes, refl) refl
    (printed ∙ ap (λ (it : SessionBasis). did_text it label after.progress) same)
    (same_standing after (come_to before after.progress) same refl kept) refl

-- the line of a refusal stands alone
line_alone : (signature shown : Signature) (why : CommandRefusal) (text : List ℕ) → shown ≡ signature
    → text ≡ [] ++ command_refusal_text shown why → text ≡ command_refusal_text signature why
line_alone signature shown why text same is = is ∙ ap (λ (it : Signature). command_refusal_text it why) same

pub gives_declined : (before after : Standing) (faults number : ℕ) (terms text : List ℕ) (decline : Decline) (shown : Signature)
    → Declines (StepComesTo before.basis before.progress number terms) decline → after ≡ before
    → shown ≡ before.basis.data_.signature → AddsDecline shown decline [] text
    → GivesAnswer (moment_of before faults) (take_step number terms) text (moment_of after faults)
gives_declined before after faults number terms text decline shown comes same over adds =
    by (decline_of decline) comes adds
  where
    by : (why : Option CommandRefusal)
        → IfSome why (λ it. StepComesTo before.basis before.progress number terms (declined it))
        → AddsLine shown why [] text
        → GivesAnswer (moment_of before faults) (take_step number terms) text (moment_of after faults)
    by None h added = absurd added
    by (Some why) h added =
        gives_said before after before faults faults (take_step number terms) text (refusal_in before why)
        (declined why, h, refl) refl (line_alone before.basis.data_.signature shown why text over added) same refl

-- ---- Undo

pub gives_undone : (before after : Standing) (faults : ℕ) (text : List ℕ) → HasUndone before.progress after.progress
    → after.basis ≡ before.basis → after.texts ≡ before.texts → text ≡ undone_text after.basis after.progress
    → GivesAnswer (moment_of before faults) undo text (moment_of after faults)
gives_undone before after faults text undone same kept printed =
    gives_said before after (come_to before after.progress) faults faults undo text (undone_text before.basis after.progress)
    (is_undone after.progress undone) refl (printed ∙ ap (λ (it : SessionBasis). undone_text it after.progress) same)
    (same_standing after (come_to before after.progress) same refl kept) refl

pub gives_undo : (before after : Standing) (faults : ℕ) (text : List ℕ) (undone : Bool)
    → IsUndone undone before.progress after.progress → after.basis ≡ before.basis → after.texts ≡ before.texts
    → text ≡ undo_text undone after.basis after.progress → GivesAnswer (moment_of before faults) undo text (moment_of after faults)
gives_undo before after faults text true is same kept printed = gives_undone before after faults text is same kept printed
gives_undo before after faults text false is same kept printed =
    gives_said before after before faults faults undo text (codes "nothing to undo\n") (is_at_start is.0) refl printed
    (same_standing after before same is.1 kept) refl

-- ---- Requests

-- what the request carries that the code has read
pub carried : (n : ℕ) (asked real : Request) → real ≡ asked → Carries n real → Carries n asked
carried n asked real same h = subst (Carries n) same h

pub for_request : {T E : Type 0} (result : Result T E) (before after : SessionMoment) (items : T → List ℕ) (asked real : Request)
    → real ≡ asked
    → MatchResult result (λ (line : T). GivesAnswer before asked (items line) after) (λ _. IsBeforeOrBehind before asked after)
    → MatchResult result (λ (line : T). GivesAnswer before real (items line) after) (λ _. IsBeforeOrBehind before real after)
for_request {T} {E} result before after items asked real same h =
    subst (λ (it : Request). MatchResult result (λ (line : T). GivesAnswer before it (items line) after)
    (λ (e : E). IsBeforeOrBehind before it after)) (sym same) h

-- an answer that changes nothing and calls nothing
pub said_alone : {T E : Type 0} (result : Result T E) (before : Standing) (faults : ℕ) (items : T → List ℕ) (wanted : Request)
    (said : List ℕ) → RequestComesTo before wanted (says before said) → ends_session wanted ≡ false
    → IfOk result (λ (line : T). items line ≡ said)
    → MatchResult result (λ (line : T). GivesAnswer (moment_of before faults) wanted (items line) (moment_of before faults))
    (λ _. IsBeforeOrBehind (moment_of before faults) wanted (moment_of before faults))
said_alone {T} {E} result before faults items wanted said comes stays is =
    either_way result (λ (line : T). items line ≡ said)
    (λ (line : T). GivesAnswer (moment_of before faults) wanted (items line) (moment_of before faults))
    (λ (e : E). IsBeforeOrBehind (moment_of before faults) wanted (moment_of before faults))
    (λ line printed. gives_said before before before faults faults wanted (items line) said comes stays printed refl refl)
    (λ e. inl (is_as_before before before faults faults refl refl)) is

pub left_alone : {T E : Type 0} (result : Result T E) (before : Standing) (faults : ℕ) (items : T → List ℕ)
    → IfOk result (λ (line : T). items line ≡ [])
    → MatchResult result (λ (line : T). GivesAnswer (moment_of before faults) leave (items line) (moment_of before faults))
    (λ _. IsBeforeOrBehind (moment_of before faults) leave (moment_of before faults))
left_alone {T} {E} result before faults items is =
    either_way result (λ (line : T). items line ≡ [])
    (λ (line : T). GivesAnswer (moment_of before faults) leave (items line) (moment_of before faults))
    (λ (e : E). IsBeforeOrBehind (moment_of before faults) leave (moment_of before faults))
    (λ line printed.
    record { it = leaves_session before; comes = refl; printed = printed; next = refl; quits = refl; counted = refl })
    (λ e. inl (is_as_before before before faults faults refl refl)) is

-- a question of which the answer was added
pub said_normal : (before after : Standing) (faults : ℕ) (terms start text : List ℕ) → start ≡ [] → after ≡ before
    → AddsOutcome (IsNormalAnswer before.basis.data_.signature before.basis.canon terms) (normal_text before.basis.data_.signature) start
    text
    → GivesAnswer (moment_of before faults) (show_normal terms) text (moment_of after faults)
said_normal before after faults terms start text none same adds =
    gives_said before after before faults faults (show_normal terms) text (normal_text before.basis.data_.signature adds.0)
    (adds.0, adds.1, refl) refl (adds.2 ∙ ap (λ (it : List ℕ). it ++ normal_text before.basis.data_.signature adds.0) none) same refl

pub said_comparison : (before after : Standing) (faults : ℕ) (terms start text : List ℕ) → start ≡ [] → after ≡ before
    → AddsOutcome (IsComparison before.basis.data_ terms) comparison_text start text
    → GivesAnswer (moment_of before faults) (compare terms) text (moment_of after faults)
said_comparison before after faults terms start text none same adds =
    gives_said before after before faults faults (compare terms) text (comparison_text adds.0)
    (adds.0, adds.1, refl) refl (adds.2 ∙ ap (λ (it : List ℕ). it ++ comparison_text adds.0) none) same refl

-- a list that was added
pub said_values : {T E : Type 0} (result : Result T E) (before : Standing) (faults : ℕ) (items : T → List ℕ) (name : List ℕ) (size : ℕ)
    → IfOk result (λ (line : T). AddsList (ValuesComeTo before.basis name size) (listed_values_text before.basis) [] (items line))
    → MatchResult result
    (λ (line : T). GivesAnswer (moment_of before faults) (list_values name size) (items line) (moment_of before faults))
    (λ _. IsBeforeOrBehind (moment_of before faults) (list_values name size) (moment_of before faults))
said_values {T} {E} result before faults items name size is =
    either_way result (λ (line : T). AddsList (ValuesComeTo before.basis name size) (listed_values_text before.basis) [] (items line))
    (λ (line : T). GivesAnswer (moment_of before faults) (list_values name size) (items line) (moment_of before faults))
    (λ (e : E). IsBeforeOrBehind (moment_of before faults) (list_values name size) (moment_of before faults))
    (λ line adds.
    gives_said before before before faults faults (list_values name size) (items line) (listed_values_text before.basis adds.0)
    (adds.0, adds.1, refl) refl adds.2 refl refl)
    (λ e. inl (is_as_before before before faults faults refl refl)) is

pub said_instances : (before after : Standing) (faults number size : ℕ) (start text : List ℕ) → start ≡ [] → after ≡ before
    → AddsList (InstancesComeTo before.basis before.progress.situation.menu number size) (instances_text before.basis number) start text
    → GivesAnswer (moment_of before faults) (list_instances number size) text (moment_of after faults)
said_instances before after faults number size start text none same adds =
    gives_said before after before faults faults (list_instances number size) text (instances_text before.basis number adds.0)
    (adds.0, adds.1, refl) refl (adds.2 ∙ ap (λ (it : List ℕ). it ++ instances_text before.basis number adds.0) none) same refl

-- the same behind an equal moment
pub at_moment : {T E : Type 0} (result : Result T E) (before after other : SessionMoment) (items : T → List ℕ) (wanted : Request)
    → other ≡ after
    → MatchResult result (λ (line : T). GivesAnswer before wanted (items line) after) (λ _. IsBeforeOrBehind before wanted after)
    → MatchResult result (λ (line : T). GivesAnswer before wanted (items line) other) (λ _. IsBeforeOrBehind before wanted other)
at_moment {T} {E} result before after other items wanted same h =
    subst (λ (it : SessionMoment). MatchResult result (λ (line : T). GivesAnswer before wanted (items line) it)
    (λ (e : E). IsBeforeOrBehind before wanted it)) (sym same) h

pub same_moment : (one other : Standing) (faults faults_other : ℕ) → one ≡ other → faults ≡ faults_other
    → moment_of one faults ≡ moment_of other faults_other
same_moment one other faults faults_other same counted = λ i. moment_of (same i) (counted i)
