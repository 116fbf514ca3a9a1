-- What a line comes to keeps the numbers and values within what a line of a trace can hold.
use Rattle.std.proofs.Common.{◌≡◌, ℕ, ◌+◌, ◌<◌, ◌≤◌, Bool, true, false, List, [], ◌∷◌, ◌++◌, refl, ap, sym, ◌∙◌, subst}
use Rattle.lotos_base.specs.Term.{Term}
use Rattle.behaviour_semantics.specs.WellFormed.{Every}
use Rattle.behaviour_semantics.specs.Label.{Label}
use Rattle.tree_building.specs.Reading.{node_limit}
use Rattle.session_histories.specs.Session.{SessionBasis, Situation, PastStep, Progress, items_of, stepped, opened_progress}
use Rattle.session_laws.specs.TermDepth.{term_depth}
use Rattle.session_laws.specs.TraceReadings.{IsWithinLine}
use Rattle.session_histories.specs.Lawful.{HasStepped}
use Rattle.session_histories.specs.TraceLine.{lines_of, TraceHeading, no_heading, of_steps, of_states}
use Rattle.session_histories.specs.Replay.{goes_on, is_miscounted, is_misread, is_unmet, is_replayed, LinesComeTo, all_done, one_goes_on, StatedLinesComeTo, all_stated, both_go_on, ComeBehindName, ComeBehind}
use Rattle.line_server.specs.Request.{Request, skip, show_menu, show_behaviour, show_trace, undo, leave, no_request, take_step, save, replay, show_normal, compare, list_values, list_instances, request_of}
use Rattle.line_server.specs.Machine.{Reply}
use Rattle.line_server.specs.Answered as served
use Rattle.line_server.specs.Answered.{no_line, ended_by, behind_one}
use Rattle.session_histories.specs.Replay as trace
use Rattle.lotos_top.specs.HandedOn.{Standing, Befallen, StepAnswer, StepComesTo, SaveComesTo, ReplayComesTo, RequestComesTo, LineComesTo, after_step, UndoComesTo, is_undone, is_at_start, SessionPoint, LineIs, history_machine}
use Rattle.lotos_top.specs.HandedOn.step_answer as step
use Rattle.lotos_top.specs.HandedOn.shelf_answer as shelf
use Rattle.session_laws.specs.LineBounds.{IsWithinLines, LinesKeepWithin}
use Rattle.session_laws.proofs.ReadDepths.{values_within}
use Rattle.session_laws.proofs.NumberBounds.{ten_digits, IsNumbered, request_numbered, line_numbered_in}

abbrev AreWithin : List PastStep → Type 0
AreWithin steps = Every IsWithinLine (items_of steps)

-- ---- Steps

more_within : (steps : List PastStep) (one : PastStep) → AreWithin steps → IsWithinLine one.item → AreWithin (steps ++ (one ∷ []))
more_within [] one within is = (is, tt)
more_within (first ∷ steps) one within is = (within.0, more_within steps one within.1 is)

less_within : (steps : List PastStep) (one : PastStep) → AreWithin (steps ++ (one ∷ [])) → AreWithin steps
less_within [] one within = tt
less_within (first ∷ steps) one within = (within.0, less_within steps one within.1)

step_within : (basis : SessionBasis) (old new : Progress) (number : ℕ) (values : List Term) (label : Label) → IsWithinLines old
    → number < ten_digits → Every (λ (t : Term). term_depth t ≤ node_limit) values → HasStepped basis old number values label new
    → IsWithinLines new
step_within basis old new number values label within small shallow is =
    subst IsWithinLines (sym is.appended)
    (more_within old.steps (record { item = is.item; before = old.situation }) within (record {
      number = subst (λ (n : ℕ). n < ten_digits) (sym is.numbered) small;
      values = subst (Every (λ (t : Term). term_depth t ≤ node_limit)) (sym is.valued) shallow;
    }))

taken_within : (standing : Standing) (number : ℕ) (text : List ℕ) → IsWithinLines standing.progress → number < ten_digits
    → (answer : StepAnswer) → StepComesTo standing.basis standing.progress number text answer
    → IsWithinLines (after_step standing answer).reply.next.progress
taken_within standing number text within small answer (step.is_unread fault unread) = within
taken_within standing number text within small answer (step.is_miscounted terms refusal are refuses) = within
taken_within standing number text within small answer (step.is_misread entry terms refusal counted first) = within
taken_within standing number text within small answer (step.is_unmet entry values refusal valued refuses) = within
taken_within standing number text within small answer (step.is_taken entry values label new valued stepped) =
    step_within standing.basis standing.progress new number values label within small
    (values_within standing.basis.data_.signature node_limit entry.variables valued.terms values valued.read valued.counted.are.shallow)
    stepped

-- ---- Replay

line_within : (basis : SessionBasis) (progress new : Progress) (line : List ℕ) → IsWithinLines progress
    → trace.LineComesTo basis progress line (goes_on new) → IsWithinLines new
line_within basis progress new line within (is_replayed said entry values label _ read stepped same) =
    step_within basis progress new said.number values label within (line_numbered_in line said read.is_line.form)
    (values_within basis.data_.signature node_limit entry.variables read.terms values read.read read.is_line.read.shallow) stepped

lines_within : (basis : SessionBasis) (lines : List (List ℕ)) (number : ℕ) (progress new : Progress) → IsWithinLines progress
    → LinesComeTo basis number progress lines (goes_on new) → IsWithinLines new
lines_within basis [] number progress new within all_done = within
lines_within basis (line ∷ lines) number progress new within (one_goes_on {next = next} comes later) =
    lines_within basis lines (number + 1) next new (line_within basis progress next line within comes) later

stated_within : (basis : SessionBasis) (lines : List (List ℕ)) (number : ℕ) (progress new : Progress) → IsWithinLines progress
    → StatedLinesComeTo basis number progress lines (goes_on new) → IsWithinLines new
stated_within basis [] number progress new within all_stated = within
stated_within basis (line ∷ []) number progress new within none = elim none [ ]
stated_within basis (line ∷ state ∷ lines) number progress new within (both_go_on {next = next} comes there_ later) =
    stated_within basis lines (number + 2) next new (line_within basis progress next line within comes) later

named_within : (basis : SessionBasis) (first : Situation) (same : Bool) (kept : List ℕ) (lines : List (List ℕ)) (new : Progress)
    → ComeBehindName basis first same kept lines (goes_on new) → IsWithinLines new
named_within basis first true kept lines new comes = stated_within basis lines 2 (opened_progress first) new tt comes
named_within basis first false kept lines new comes = absurd (cc comes)

behind_within : (basis : SessionBasis) (first : Situation) (heading : TraceHeading) (lines : List (List ℕ)) (new : Progress)
    → ComeBehind basis first heading lines (goes_on new) → IsWithinLines new
behind_within basis first no_heading lines new comes = absurd (cc comes)
behind_within basis first of_steps lines new comes = lines_within basis lines 2 (opened_progress first) new tt comes
behind_within basis first (of_states kept) lines new comes = named_within basis first _ kept lines new comes

replay_within : (basis : SessionBasis) (first : Situation) (lines : List (List ℕ)) (new : Progress)
    → trace.TraceComesTo basis first lines (goes_on new) → IsWithinLines new
replay_within basis first [] new comes = absurd (cc comes)
replay_within basis first (line ∷ lines) new comes = behind_within basis first _ lines new comes

-- ---- Lines of a session

undo_within : (standing : Standing) (it : Befallen) → IsWithinLines standing.progress → UndoComesTo standing it
    → IsWithinLines it.reply.next.progress
undo_within standing _ within (is_undone new undone) =
    less_within new.steps (record { item = undone.item; before = new.situation }) (subst IsWithinLines undone.dropped within)
undo_within standing _ within (is_at_start none) = within

save_within : (standing : Standing) (name : List ℕ) (it : Befallen) → IsWithinLines standing.progress → SaveComesTo standing name it
    → IsWithinLines it.reply.next.progress
save_within standing name _ within (shelf.is_too_long long) = within
save_within standing name _ within (shelf.is_unwritten after short may) = within
save_within standing name _ within (shelf.is_saved after short put) = within

replayed_within : (standing : Standing) (name : List ℕ) (it : Befallen) → IsWithinLines standing.progress
    → ReplayComesTo standing name it → IsWithinLines it.reply.next.progress
replayed_within standing name _ within shelf.is_failed = within
replayed_within standing name _ within (shelf.is_missing missing) = within
replayed_within standing name _ within (shelf.is_long text stands long) = within
replayed_within standing name _ within (shelf.is_refused text refusal stands short comes) = within
replayed_within standing name _ within (shelf.is_replayed text new stands short comes) =
    replay_within standing.basis _ (lines_of text) new comes

-- what a line comes to that leaves the session where it stands
stays_within : (standing : Standing) (it said : Befallen) → IsWithinLines standing.progress → it ≡ said
    → said.reply.next.progress ≡ standing.progress → IsWithinLines it.reply.next.progress
stays_within standing it said within same stays =
    subst IsWithinLines (sym (ap (λ (b : Befallen). b.reply.next.progress) same ∙ stays)) within

request_within : (standing : Standing) (request : Request) (it : Befallen) → IsNumbered request → IsWithinLines standing.progress
    → RequestComesTo standing request it → IsWithinLines it.reply.next.progress
request_within standing skip it small within comes = stays_within standing it _ within comes refl
request_within standing show_menu it small within comes = stays_within standing it _ within comes refl
request_within standing show_behaviour it small within comes = stays_within standing it _ within comes refl
request_within standing show_trace it small within comes = stays_within standing it _ within comes refl
request_within standing undo it small within comes = undo_within standing it within comes
request_within standing leave it small within comes = stays_within standing it _ within comes refl
request_within standing no_request it small within comes = stays_within standing it _ within comes refl
request_within standing (take_step number terms) it small within comes =
    subst (λ (b : Befallen). IsWithinLines b.reply.next.progress) (sym comes.2)
    (taken_within standing number terms within small comes.0 comes.1)
request_within standing (save name) it small within comes = save_within standing name it within comes
request_within standing (replay name) it small within comes = replayed_within standing name it within comes
request_within standing (show_normal terms) it small within comes = stays_within standing it _ within comes.2 refl
request_within standing (compare terms) it small within comes = stays_within standing it _ within comes.2 refl
request_within standing (list_values name size) it small within comes = stays_within standing it _ within comes.2 refl
request_within standing (list_instances number size) it small within comes = stays_within standing it _ within comes.2 refl

line_keeps : (standing : Standing) (line : List ℕ) (it : Befallen) → IsWithinLines standing.progress → LineComesTo standing line it
    → IsWithinLines it.reply.next.progress
line_keeps standing line it within comes = request_within standing (request_of line) it (request_numbered line) within comes

reply_keeps : (before : SessionPoint) (line : List ℕ) (reply : Reply SessionPoint) → IsWithinLines before.standing.progress
    → LineIs before line reply → IsWithinLines reply.next.standing.progress
reply_keeps before line reply within is =
    subst (λ (s : Standing). IsWithinLines s.progress) (sym is.next) (line_keeps before.standing line is.it within is.comes)

lines_keep : (before last : SessionPoint) (lines : List (List ℕ)) (text : List ℕ) (quits : Bool) → IsWithinLines before.standing.progress
    → served.Answered history_machine before lines text last quits → IsWithinLines last.standing.progress
lines_keep before last lines text quits within (no_line _) = within
lines_keep before last lines text quits within (ended_by _ line rest reply comes ends) = reply_keeps before line reply within comes
lines_keep before last lines text quits within (behind_one _ _ line rest reply more _ comes stays later) =
    lines_keep reply.next last rest more quits (reply_keeps before line reply within comes) later

pub lines_keep_within : LinesKeepWithin
lines_keep_within = record {
  at_start = λ progress none. subst AreWithin (sym none) tt;
  line = line_keeps;
  lines = lines_keep;
}
