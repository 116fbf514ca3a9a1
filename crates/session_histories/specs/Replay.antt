-- Replay: what each line of a trace comes to in a session, and what a whole trace comes to.
use Rattle.std.specs.Prelude.{◌≡◌, ◌≢◌, ◌⊎◌, ℕ, ◌+◌, List, [], ◌∷◌, length, Bool, true, false, Option, None, Some}
use Rattle.lotos_base.specs.Signature.{Signature}
use Rattle.lotos_base.specs.Term.{Term}
use Rattle.lotos_base.specs.WrittenTerm.{WrittenTerm}
use Rattle.tree_building.specs.Reading.{IsTermsReading, IsTermsFault}
use Rattle.tree_building.specs.declared.fault.ReadFault.{ReadFault}
use Rattle.tree_building.specs.declared.fault.ReadFault.TheVariants.{NoMemory}
use Rattle.sort_terms.specs.ReadingOutcome as reading
use Rattle.sort_terms.specs.ReadingOutcome.{ReadingIs, answered, one_name}
use Rattle.behaviour_semantics.specs.Label.{Label}
use Rattle.behaviour_semantics.specs.Solving.{Entry}
use Rattle.printed_texts.specs.BehaviourText.{state_text}
use Rattle.printed_texts.specs.MenuText.{label_text}
use Rattle.session_histories.specs.Session.{SessionBasis, Situation, Progress, opened_progress}
use Rattle.session_histories.specs.Refusal.{StepRefusal, entry_numbered, number_refusal, condition_refusal}
use Rattle.session_histories.specs.Lawful.{HasStepped}
use Rattle.session_histories.specs.TraceLine.{StepLine, step_line, lines_of, kept_state, TraceHeading, no_heading, of_steps, of_states, trace_heading_of}

-- Why a line of a trace is refused: it has not its form, or its terms are not read; the step that it names is refused; the label that
-- it keeps is not the text of the label that is found; or the state that it keeps is not the text of the state that is reached.
pub data LineRefusal : Type 0 where
  bad_line : LineRefusal
  step_refused : StepRefusal → LineRefusal
  label_differs : (kept found : List ℕ) → LineRefusal
  state_differs : (kept found : List ℕ) → LineRefusal

-- Why a trace is refused: the number of a line, counted from 1, with what is wrong with it; or the name that its first line keeps,
-- which is another one than that of the specification.
pub data ReplayRefusal : Type 0 where
  in_line : (line : ℕ) (why : LineRefusal) → ReplayRefusal
  other_specification : (kept : List ℕ) → ReplayRefusal

-- What lines come to: the session goes on, or they stop it for this reason.
pub data LinesOutcome (Why : Type 0) : Type 0 where
  goes_on : Progress → LinesOutcome Why
  stops : Why → LinesOutcome Why

-- The written terms have one reading each at the sorts, without variables: these values, one by one.
abbrev pub AreRead : Signature → List ℕ → List WrittenTerm → List Term → Type 0
AreRead signature [] [] [] = Unit {0}
AreRead signature (sort ∷ sorts) (term ∷ terms) (value ∷ values) =
    ReadingIs signature [] term (Some sort) (answered (record { term = value; sort = sort })) × AreRead signature sorts terms values
AreRead signature _ _ _ = ⊥

-- One of the written terms has not one reading at its sort.
abbrev pub IsOneMisread : Signature → List ℕ → List WrittenTerm → Type 0
IsOneMisread signature (sort ∷ sorts) (term ∷ terms) =
    ((refusal : reading.ReadingRefusal) × ReadingIs signature [] term (Some sort) (reading.refused refusal)) ⊎ IsOneMisread signature sorts
    terms
IsOneMisread signature _ _ = ⊥

-- The line has the form of a step, and its terms are read. Places in them are never told, and the number of their text is 0.
pub record IsStepLine (line : List ℕ) (said : StepLine) (terms : List WrittenTerm) : Type 0 where
  pub form : step_line line ≡ Some said
  pub read : IsTermsReading 0 said.terms terms

-- The line names an entry of the menu and as many values as this has variables, each with one reading at its sort.
pub record IsReadStep (basis : SessionBasis) (menu : List Entry) (line : List ℕ) (said : StepLine) (entry : Entry) (values : List Term)
    : Type 0 where
  pub terms : List WrittenTerm
  pub is_line : IsStepLine line said terms
  pub listed : entry_numbered menu said.number ≡ Some entry
  pub read : AreRead basis.data_.signature entry.variables terms values

-- the text of a label
abbrev pub shown_label : SessionBasis → Label → List ℕ
shown_label basis label = label_text basis.data_.signature basis.specification.gate_names label

-- the text of the state where a session stands
abbrev pub shown_state : SessionBasis → Progress → List ℕ
shown_state basis progress = state_text basis.data_.signature basis.specification progress.situation.state

-- the first of the lines, if there is one
abbrev pub first_line : List (List ℕ) → Option (List ℕ)
first_line [] = None
first_line (line ∷ lines) = Some line

module _ (basis : SessionBasis) where
  -- What a line of a step comes to in a session. First its form and the grammar of its terms are looked at, then the number of the entry
  -- and that of the terms, then their readings, then the conditions of the entry, and last the label.
  pub data LineComesTo (progress : Progress) (line : List ℕ) : LinesOutcome LineRefusal → Type 0 where
    has_no_form : step_line line ≡ None → LineComesTo progress line (stops bad_line)
    is_not_read :
        (said : StepLine) (fault : ReadFault) →
        step_line line ≡ Some said →
        IsTermsFault 0 said.terms fault →
        fault ≢ NoMemory →
        LineComesTo progress line (stops bad_line)
    is_miscounted :
        (said : StepLine) (terms : List WrittenTerm) (refusal : StepRefusal) →
        IsStepLine line said terms →
        number_refusal progress.situation.menu said.number (length terms) ≡ Some refusal →
        LineComesTo progress line (stops (step_refused refusal))
    is_misread :
        (said : StepLine) (terms : List WrittenTerm) (entry : Entry) →
        IsStepLine line said terms →
        entry_numbered progress.situation.menu said.number ≡ Some entry →
        length terms ≡ length entry.variables →
        IsOneMisread basis.data_.signature entry.variables terms →
        LineComesTo progress line (stops bad_line)
    is_unmet :
        (said : StepLine) (entry : Entry) (values : List Term) (refusal : StepRefusal) →
        IsReadStep basis progress.situation.menu line said entry values →
        condition_refusal basis.canon entry values ≡ Some refusal →
        LineComesTo progress line (stops (step_refused refusal))
    is_mislabelled :
        (said : StepLine) (entry : Entry) (values : List Term) (label : Label) (new : Progress) →
        IsReadStep basis progress.situation.menu line said entry values →
        HasStepped basis progress said.number values label new →
        said.label ≢ shown_label basis label →
        LineComesTo progress line (stops (label_differs said.label (shown_label basis label)))
    is_replayed :
        (said : StepLine) (entry : Entry) (values : List Term) (label : Label) (new : Progress) →
        IsReadStep basis progress.situation.menu line said entry values →
        HasStepped basis progress said.number values label new →
        said.label ≡ shown_label basis label →
        LineComesTo progress line (goes_on new)

  -- What a line behind a step comes to in the session that the step led to: it is missing, or has not its form; the state that it
  -- keeps has another text than the one that was reached, or the same.
  pub data StateComesTo (progress : Progress) : Option (List ℕ) → LinesOutcome LineRefusal → Type 0 where
    is_missing : StateComesTo progress None (stops bad_line)
    has_no_state : {line : List ℕ} → kept_state line ≡ None → StateComesTo progress (Some line) (stops bad_line)
    is_elsewhere :
        {line : List ℕ} (kept : List ℕ) →
        kept_state line ≡ Some kept →
        kept ≢ shown_state basis progress →
        StateComesTo progress (Some line) (stops (state_differs kept (shown_state basis progress)))
    is_there : {line : List ℕ} → kept_state line ≡ Some (shown_state basis progress) → StateComesTo progress (Some line) (goes_on progress)

  -- What lines of steps come to one after another, the first of which has this number: the first refused one stops them.
  pub data LinesComeTo : ℕ → Progress → List (List ℕ) → LinesOutcome ReplayRefusal → Type 0 where
    all_done : {number : ℕ} {progress : Progress} → LinesComeTo number progress [] (goes_on progress)
    one_stops :
        {number : ℕ} {progress : Progress} {line : List ℕ} {lines : List (List ℕ)} {why : LineRefusal} →
        LineComesTo progress line (stops why) →
        LinesComeTo number progress (line ∷ lines) (stops (in_line number why))
    one_goes_on :
        {number : ℕ} {progress next : Progress} {line : List ℕ} {lines : List (List ℕ)} {outcome : LinesOutcome ReplayRefusal} →
        LineComesTo progress line (goes_on next) →
        LinesComeTo (number + 1) next lines outcome →
        LinesComeTo number progress (line ∷ lines) outcome

  -- The same of lines of steps, each with the line of its state behind it. A line that is missing has the number behind the last one.
  pub data StatedLinesComeTo : ℕ → Progress → List (List ℕ) → LinesOutcome ReplayRefusal → Type 0 where
    all_stated : {number : ℕ} {progress : Progress} → StatedLinesComeTo number progress [] (goes_on progress)
    step_stops :
        {number : ℕ} {progress : Progress} {line : List ℕ} {lines : List (List ℕ)} {why : LineRefusal} →
        LineComesTo progress line (stops why) →
        StatedLinesComeTo number progress (line ∷ lines) (stops (in_line number why))
    state_stops :
        {number : ℕ} {progress next : Progress} {line : List ℕ} {lines : List (List ℕ)} {why : LineRefusal} →
        LineComesTo progress line (goes_on next) →
        StateComesTo next (first_line lines) (stops why) →
        StatedLinesComeTo number progress (line ∷ lines) (stops (in_line (number + 1) why))
    both_go_on :
        {number : ℕ} {progress next : Progress} {line state : List ℕ} {lines : List (List ℕ)}
        {outcome : LinesOutcome ReplayRefusal} →
        LineComesTo progress line (goes_on next) →
        StateComesTo next (Some state) (goes_on next) →
        StatedLinesComeTo (number + 2) next lines outcome →
        StatedLinesComeTo number progress (line ∷ state ∷ lines) outcome

-- The first line is no heading.
abbrev pub refuses_heading : LinesOutcome ReplayRefusal
refuses_heading = stops (in_line 1 bad_line)

-- The lines behind a heading of format 2, which names the specification or not, without regard to letter case.
abbrev pub ComeBehindName : SessionBasis → Situation → Bool → List ℕ → List (List ℕ) → LinesOutcome ReplayRefusal → Type 0
ComeBehindName basis first true kept lines outcome = StatedLinesComeTo basis 2 (opened_progress first) lines outcome
ComeBehindName basis first false kept lines outcome = outcome ≡ stops (other_specification kept)

-- The lines behind the first one, by what this says.
abbrev pub ComeBehind : SessionBasis → Situation → TraceHeading → List (List ℕ) → LinesOutcome ReplayRefusal → Type 0
ComeBehind basis first no_heading lines outcome = outcome ≡ refuses_heading
ComeBehind basis first of_steps lines outcome = LinesComeTo basis 2 (opened_progress first) lines outcome
ComeBehind basis first (of_states kept) lines outcome =
    ComeBehindName basis first (one_name kept basis.specification.name) kept lines outcome

abbrev pub TraceComesTo : SessionBasis → Situation → List (List ℕ) → LinesOutcome ReplayRefusal → Type 0
TraceComesTo basis first [] outcome = outcome ≡ refuses_heading
TraceComesTo basis first (line ∷ lines) outcome = ComeBehind basis first (trace_heading_of line) lines outcome

-- What the text of a trace comes to in a session that begins in this situation.
abbrev pub ReplayIs : SessionBasis → Situation → List ℕ → LinesOutcome ReplayRefusal → Type 0
ReplayIs basis first text outcome = TraceComesTo basis first (lines_of text) outcome
