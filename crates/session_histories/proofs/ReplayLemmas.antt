-- What lines of traces come to: one thing at most, and lawful sessions.
use Rattle.std.proofs.Common.{◌≡◌, ◌≢◌, ◌⊎◌, inl, inr, ◌+◌, ℕ, suc, List, [], ◌∷◌, length, Bool, true, false, Option, None, Some, refl, ap, sym, ◌∙◌, subst}
use Rattle.lotos_base.proofs.Options.{none_and_some}
use Rattle.lotos_base.specs.Signature.{Signature}
use Rattle.lotos_base.specs.Term.{Term}
use Rattle.lotos_base.specs.WrittenTerm.{WrittenTerm}
use Rattle.tree_building.specs.Reading.{IsTermsReading, IsTermsFault}
use Rattle.tree_building.specs.ReadingLaws.{TextsHaveOneOutcome}
use Rattle.tree_building.specs.declared.fault.ReadFault.{ReadFault}
use Rattle.tree_building.specs.declared.fault.ReadFault.TheVariants.{NoMemory}
use Rattle.sort_terms.specs.ReadingLaws.{ReadingComesToOneThing}
use Rattle.sort_terms.specs.ReadingOutcome.{SortedTerm, one_name}
use Rattle.sort_terms.proofs.OutcomeLemmas.{same_answer, not_answered_and_refused}
use Rattle.behaviour_semantics.specs.Label.{Label}
use Rattle.behaviour_semantics.specs.Solving.{Entry}
use Rattle.behaviour_semantics.specs.TargetLaws.{TargetsAreWellFormed}
use Rattle.behaviour_semantics.proofs.OptionLemmas.{some_value}
use Rattle.session_histories.specs.Session.{SessionBasis, Situation, Progress, opened_progress, first_situation}
use Rattle.session_histories.specs.Refusal.{StepRefusal, entry_numbered, number_refusal, count_refusal, condition_refusal}
use Rattle.session_histories.specs.Lawful.{IsSituation, IsLawful, HasStepped}
use Rattle.session_histories.specs.Replay.{LineRefusal, bad_line, step_refused, label_differs, state_differs, ReplayRefusal, in_line, LinesOutcome, goes_on, stops, AreRead, IsOneMisread, shown_label, shown_state, first_line, LineComesTo, has_no_form, is_not_read, is_miscounted, is_misread, is_unmet, is_mislabelled, is_replayed, StateComesTo, is_missing, has_no_state, is_elsewhere, is_there, LinesComeTo, all_done, one_stops, one_goes_on, StatedLinesComeTo, all_stated, step_stops, state_stops, both_go_on, ComeBehindName, ComeBehind, TraceComesTo, ReplayIs}
use Rattle.session_histories.specs.SessionLaws.{IsStateOver, HaveOneStart}
use Rattle.session_histories.specs.StepLaws.{StepsAreExact}
use Rattle.session_histories.specs.TraceLine.{StepLine, step_line, lines_of, TraceHeading, no_heading, of_steps, of_states, trace_heading_of}
use Rattle.session_histories.proofs.ProgressLemmas.{stepped_lawful}
use Rattle.session_histories.proofs.RefusalLemmas.{IsFree, free_of_count}
use Rattle.session_histories.proofs.StepLemmas.{met_free}

-- ---- Questions in turn: each stops the line, or gives one thing to go on with

abbrev Turn : {A : Type 0} → (LineRefusal → Type 0) → (A → Type 0) → (A → LinesOutcome LineRefusal → Type 0) → LinesOutcome LineRefusal
    → Type 0
Turn {A} Stops Goes Next outcome =
    ((why : LineRefusal) × Stops why × (outcome ≡ stops why)) ⊎ ((a : A) × Goes a × Next a outcome)

turn_once : {A : Type 0} (Stops : LineRefusal → Type 0) (Goes : A → Type 0) (Next : A → LinesOutcome LineRefusal → Type 0)
    → ((why other : LineRefusal) → Stops why → Stops other → why ≡ other) → ((why : LineRefusal) (a : A) → Stops why → Goes a → ⊥)
    → ((a b : A) → Goes a → Goes b → a ≡ b)
    → ((a : A) (one other : LinesOutcome LineRefusal) → Goes a → Next a one → Next a other → one ≡ other)
    → (one other : LinesOutcome LineRefusal) → Turn Stops Goes Next one → Turn Stops Goes Next other → one ≡ other
turn_once Stops Goes Next one_why apart one_way next one other (inl h) (inl k) =
    h.2 ∙ (ap (λ (why : LineRefusal). stops why) (one_why h.0 k.0 h.1 k.1) ∙ sym k.2)
turn_once Stops Goes Next one_why apart one_way next one other (inl h) (inr k) = absurd (apart h.0 k.0 h.1 k.1)
turn_once Stops Goes Next one_why apart one_way next one other (inr h) (inl k) = absurd (apart k.0 h.0 k.1 h.1)
turn_once {A} Stops Goes Next one_why apart one_way next one other (inr h) (inr k) =
    next h.0 one other h.1 h.2 (subst (λ (a : A). Next a other) (sym (one_way h.0 k.0 h.1 k.1)) k.2)

-- ---- Readings of values

pub read_count : (signature : Signature) (sorts : List ℕ) (terms : List WrittenTerm) (values : List Term)
    → AreRead signature sorts terms values → length terms ≡ length sorts
read_count signature [] [] [] h = refl
read_count signature [] [] (value ∷ values) h = absurd h
read_count signature [] (term ∷ terms) values h = absurd h
read_count signature (sort ∷ sorts) [] values h = absurd h
read_count signature (sort ∷ sorts) (term ∷ terms) [] h = absurd h
read_count signature (sort ∷ sorts) (term ∷ terms) (value ∷ values) h =
    ap suc (read_count signature sorts terms values h.1)

module _ (readings : ReadingComesToOneThing) (signature : Signature) where
  read_once : (sorts : List ℕ) (terms : List WrittenTerm) (values others : List Term) → AreRead signature sorts terms values
      → AreRead signature sorts terms others → values ≡ others
  read_once [] [] [] [] h k = refl
  read_once [] [] [] (other ∷ others) h k = absurd k
  read_once [] [] (value ∷ values) others h k = absurd h
  read_once [] (term ∷ terms) values others h k = absurd h
  read_once (sort ∷ sorts) [] values others h k = absurd h
  read_once (sort ∷ sorts) (term ∷ terms) [] others h k = absurd h
  read_once (sort ∷ sorts) (term ∷ terms) (value ∷ values) [] h k = absurd k
  read_once (sort ∷ sorts) (term ∷ terms) (value ∷ values) (other ∷ others) h k =
      let same : value ≡ other = ap (λ (it : SortedTerm). it.term)
      (same_answer _ _ (readings signature [] term (Some sort) _ _ h.0 k.0)) in
      let rest : values ≡ others = read_once sorts terms values others h.1 k.1 in
      λ i. same i ∷ rest i

  not_misread : (sorts : List ℕ) (terms : List WrittenTerm) (values : List Term) → AreRead signature sorts terms values
      → IsOneMisread signature sorts terms → ⊥
  not_misread [] terms values h k = k
  not_misread (sort ∷ sorts) [] values h k = k
  not_misread (sort ∷ sorts) (term ∷ terms) [] h k = h
  not_misread (sort ∷ sorts) (term ∷ terms) (value ∷ values) h (inl k) =
      not_answered_and_refused _ k.0 (readings signature [] term (Some sort) _ _ h.0 k.1)
  not_misread (sort ∷ sorts) (term ∷ terms) (value ∷ values) h (inr k) = not_misread sorts terms values h.1 k

-- ---- A line

-- a session whose state is over the specification, and whose menu is that of the state
pub record IsReady (basis : SessionBasis) (progress : Progress) : Type 0 where
  pub over : IsStateOver basis progress.situation.state
  pub menu : IsSituation basis progress.situation

record Taken : Type 0 where
  label : Label
  new : Progress

module _ (basis : SessionBasis) (progress : Progress) (line : List ℕ) where
  abbrev Labelled : StepLine → Taken → LinesOutcome LineRefusal → Type 0
  Labelled said taken outcome =
      ((said.label ≢ shown_label basis taken.label) × (outcome ≡ stops (label_differs said.label (shown_label basis taken.label))))
      ⊎ ((said.label ≡ shown_label basis taken.label) × (outcome ≡ goes_on taken.new))

  abbrev IsUnmet : Entry → List Term → LineRefusal → Type 0
  IsUnmet entry values why =
      (refusal : StepRefusal) × (condition_refusal basis.canon entry values ≡ Some refusal) × (why ≡ step_refused refusal)

  abbrev IsTaken : StepLine → List Term → Taken → Type 0
  IsTaken said values taken = HasStepped basis progress said.number values taken.label taken.new

  abbrev Stepping : StepLine → Entry → List Term → LinesOutcome LineRefusal → Type 0
  Stepping said entry values = Turn (IsUnmet entry values) (IsTaken said values) (Labelled said)

  abbrev IsMisread : List WrittenTerm → Entry → LineRefusal → Type 0
  IsMisread terms entry why = IsOneMisread basis.data_.signature entry.variables terms × (why ≡ bad_line)

  abbrev Reading : StepLine → List WrittenTerm → Entry → LinesOutcome LineRefusal → Type 0
  Reading said terms entry =
      Turn (IsMisread terms entry) (AreRead basis.data_.signature entry.variables terms) (Stepping said entry)

  abbrev IsMiscounted : StepLine → List WrittenTerm → LineRefusal → Type 0
  IsMiscounted said terms why =
      (refusal : StepRefusal) × (number_refusal progress.situation.menu said.number (length terms) ≡ Some refusal)
      × (why ≡ step_refused refusal)

  abbrev IsFound : StepLine → List WrittenTerm → Entry → Type 0
  IsFound said terms entry =
      (entry_numbered progress.situation.menu said.number ≡ Some entry) × (length terms ≡ length entry.variables)

  abbrev Counting : StepLine → List WrittenTerm → LinesOutcome LineRefusal → Type 0
  Counting said terms = Turn (IsMiscounted said terms) (IsFound said terms) (Reading said terms)

  abbrev IsUnread : StepLine → LineRefusal → Type 0
  IsUnread said why = (fault : ReadFault) × IsTermsFault 0 said.terms fault × (fault ≢ NoMemory) × (why ≡ bad_line)

  abbrev Parsing : StepLine → LinesOutcome LineRefusal → Type 0
  Parsing said = Turn (IsUnread said) (IsTermsReading 0 said.terms) (Counting said)

  abbrev IsFormless : LineRefusal → Type 0
  IsFormless why = (step_line line ≡ None) × (why ≡ bad_line)

  abbrev Forming : LinesOutcome LineRefusal → Type 0
  Forming = Turn IsFormless (λ (said : StepLine). step_line line ≡ Some said) Parsing

  in_turn : (outcome : LinesOutcome LineRefusal) → LineComesTo basis progress line outcome → Forming outcome
  in_turn _ (has_no_form e) = inl (bad_line, (e, refl), refl)
  in_turn _ (is_not_read said fault e f n) = inr (said, e, inl (bad_line, (fault, f, n, refl), refl))
  in_turn _ (is_miscounted said terms refusal is e) =
      inr (said, is.form, inr (terms, is.read, inl (step_refused refusal, (refusal, e, refl), refl)))
  in_turn _ (is_misread said terms entry is listed counted mis) =
      inr (said, is.form, inr (terms, is.read, inr (entry, (listed, counted), inl (bad_line, (mis, refl), refl))))
  in_turn _ (is_unmet said entry values refusal r e) =
      inr (
        said,
        r.is_line.form,
        inr (
          r.terms,
          r.is_line.read,
          inr (
            entry,
            (r.listed, read_count basis.data_.signature entry.variables r.terms values r.read),
            inr (values, r.read, inl (step_refused refusal, (refusal, e, refl), refl)),
          ),
        ),
      )
  in_turn _ (is_mislabelled said entry values label new r h n) =
      inr (
        said,
        r.is_line.form,
        inr (
          r.terms,
          r.is_line.read,
          inr (
            entry,
            (r.listed, read_count basis.data_.signature entry.variables r.terms values r.read),
            inr (values, r.read, inr (record { label = label; new = new }, h, inl (n, refl))),
          ),
        ),
      )
  in_turn _ (is_replayed said entry values label new r h e) =
      inr (
        said,
        r.is_line.form,
        inr (
          r.terms,
          r.is_line.read,
          inr (
            entry,
            (r.listed, read_count basis.data_.signature entry.variables r.terms values r.read),
            inr (values, r.read, inr (record { label = label; new = new }, h, inr (e, refl))),
          ),
        ),
      )

  labelled_once : (said : StepLine) (taken : Taken) (one other : LinesOutcome LineRefusal) → Labelled said taken one
      → Labelled said taken other → one ≡ other
  labelled_once said taken one other (inl h) (inl k) = h.1 ∙ sym k.1
  labelled_once said taken one other (inl h) (inr k) = absurd (h.0 k.0)
  labelled_once said taken one other (inr h) (inl k) = absurd (k.0 h.0)
  labelled_once said taken one other (inr h) (inr k) = h.1 ∙ sym k.1

  -- an entry with its count of values is not miscounted
  found_free : (said : StepLine) (terms : List WrittenTerm) (entry : Entry) → IsFound said terms entry
      → number_refusal progress.situation.menu said.number (length terms) ≡ None
  found_free said terms entry h =
      subst (λ (it : Option Entry). count_refusal said.number (length progress.situation.menu) it (length terms) ≡ None) (sym h.0)
      (free_of_count said.number (length progress.situation.menu) entry (length terms) h.1)

  -- a step that was taken meets its conditions
  taken_met : IsReady basis progress → (said : StepLine) (entry : Entry) (values : List Term) (taken : Taken)
      → entry_numbered progress.situation.menu said.number ≡ Some entry → IsTaken said values taken
      → condition_refusal basis.canon entry values ≡ None
  taken_met ready said entry values taken listed h =
      let free : IsFree basis (entry_numbered progress.situation.menu h.item.number) h.item.values =
      met_free basis progress.situation ready.over ready.menu h.item.number h.item.values h.lawful.entry h.lawful.listed
      h.lawful.meets in
      let same : free.entry ≡ entry =
      some_value (sym free.is ∙ (ap (entry_numbered progress.situation.menu) h.numbered ∙ listed)) in
      subst (λ (it : Entry). condition_refusal basis.canon it values ≡ None) same
      (subst (λ (it : List Term). condition_refusal basis.canon free.entry it ≡ None) h.valued free.met)

module _ (texts : TextsHaveOneOutcome) (readings : ReadingComesToOneThing) (steps : StepsAreExact) (basis : SessionBasis) where
  module _ (progress : Progress) (line : List ℕ) (ready : IsReady basis progress) where
    stepping_once : (said : StepLine) (entry : Entry) (values : List Term)
        → entry_numbered progress.situation.menu said.number ≡ Some entry → (one other : LinesOutcome LineRefusal)
        → Stepping basis progress line said entry values one → Stepping basis progress line said entry values other → one ≡ other
    stepping_once said entry values listed one other h k =
        turn_once (IsUnmet basis progress line entry values) (IsTaken basis progress line said values)
        (Labelled basis progress line said)
        (λ why other h k. h.2 ∙ (ap (λ (it : StepRefusal). step_refused it) (some_value (sym h.1 ∙ k.1)) ∙ sym k.2))
        (λ why taken h k. none_and_some _ h.0 (taken_met basis progress line ready said entry values taken listed k) h.1)
        (λ a b h k. let same : _ = steps.once basis progress a.new b.new said.number values a.label b.label h k in
        λ i. record { label = same.1 i; new = same.0 i })
        (λ a one other h. labelled_once basis progress line said a one other) one other h k

    reading_once : (said : StepLine) (terms : List WrittenTerm) (entry : Entry)
        → entry_numbered progress.situation.menu said.number ≡ Some entry → (one other : LinesOutcome LineRefusal)
        → Reading basis progress line said terms entry one → Reading basis progress line said terms entry other → one ≡ other
    reading_once said terms entry listed one other h k =
        turn_once (IsMisread basis progress line terms entry) (AreRead basis.data_.signature entry.variables terms)
        (Stepping basis progress line said entry)
        (λ why other h k. h.1 ∙ sym k.1)
        (λ why values h k. not_misread readings basis.data_.signature entry.variables terms values k h.0)
        (λ a b h k. read_once readings basis.data_.signature entry.variables terms a b h k)
        (λ values one other h. stepping_once said entry values listed one other) one other h k

    counting_once : (said : StepLine) (terms : List WrittenTerm) (one other : LinesOutcome LineRefusal)
        → Counting basis progress line said terms one → Counting basis progress line said terms other → one ≡ other
    counting_once said terms one other h k =
        turn_once (IsMiscounted basis progress line said terms) (IsFound basis progress line said terms)
        (Reading basis progress line said terms)
        (λ why other h k. h.2 ∙ (ap (λ (it : StepRefusal). step_refused it) (some_value (sym h.1 ∙ k.1)) ∙ sym k.2))
        (λ why entry h k. none_and_some _ h.0 (found_free basis progress line said terms entry k) h.1)
        (λ a b h k. some_value (sym h.0 ∙ k.0))
        (λ entry one other h. reading_once said terms entry h.0 one other) one other h k

    parsing_once : (said : StepLine) (one other : LinesOutcome LineRefusal) → Parsing basis progress line said one
        → Parsing basis progress line said other → one ≡ other
    parsing_once said one other h k =
        turn_once (IsUnread basis progress line said) (IsTermsReading 0 said.terms) (Counting basis progress line said)
        (λ why other h k. h.3 ∙ sym k.3)
        (λ why terms h k. h.2 (texts.terms.not_both 0 said.terms terms h.0 k h.1))
        (λ a b h k. texts.terms.one_tree 0 said.terms a b h k)
        (λ terms one other h. counting_once said terms one other) one other h k

    pub line_once : (one other : LinesOutcome LineRefusal) → LineComesTo basis progress line one → LineComesTo basis progress line other
        → one ≡ other
    line_once one other h k =
        turn_once (IsFormless basis progress line) (λ (said : StepLine). step_line line ≡ Some said) (Parsing basis progress line)
        (λ why other h k. h.1 ∙ sym k.1)
        (λ why said h k. none_and_some _ said h.0 k)
        (λ a b h k. some_value (sym h ∙ k))
        (λ said one other h. parsing_once said one other) one other (in_turn basis progress line one h)
        (in_turn basis progress line other k)

-- ---- Lines one after another

pub record IsStepFrom (basis : SessionBasis) (old new : Progress) : Type 0 where
  pub number : ℕ
  pub values : List Term
  pub label : Label
  pub is : HasStepped basis old number values label new

pub went_on : (basis : SessionBasis) (progress new : Progress) (line : List ℕ) → LineComesTo basis progress line (goes_on new)
    → IsStepFrom basis progress new
went_on basis progress new line (is_replayed said entry values label _ r h e) =
    record { number = said.number; values = values; label = label; is = h }

pub ready_again : TargetsAreWellFormed → (basis : SessionBasis) (old new : Progress) → IsReady basis old → IsStepFrom basis old new
    → IsReady basis new
ready_again targets basis old new ready step =
    let h : HasStepped basis old step.number step.values step.label new = step.is in
    subst (IsReady basis) (sym h.appended) (record {
      over = record {
        signature = ready.over.signature;
        is_canon = ready.over.is_canon;
        well_formed = ready.over.well_formed;
        closed = (targets.kept basis.data_ basis.canon basis.specification old.situation.state ready.over h.item.derivation
            h.item.label h.next.state h.lawful.keeps).1;
      };
      menu = h.menu;
    })

same_stop : (why other : LineRefusal) → stops why ≡ stops other → why ≡ other
same_stop why other e = cc e

abbrev on : Progress → LinesOutcome LineRefusal
on progress = goes_on progress

same_way : (one other : Progress) → on one ≡ on other → one ≡ other
same_way one other e = cc e

no_way : (one : Progress) (why : LineRefusal) → goes_on one ≡ stops why → ⊥
no_way one why e = cc e

module _ (texts : TextsHaveOneOutcome) (readings : ReadingComesToOneThing) (steps : StepsAreExact) (targets : TargetsAreWellFormed)
    (basis : SessionBasis) where
  lines_once : (number : ℕ) (progress : Progress) (lines : List (List ℕ)) (one other : LinesOutcome ReplayRefusal) → IsReady basis progress
      → LinesComeTo basis number progress lines one → LinesComeTo basis number progress lines other → one ≡ other
  lines_once number progress [] _ _ ready all_done all_done = refl
  lines_once number progress (line ∷ lines) _ _ ready (one_stops {why = why} h) (one_stops {why = other} k) =
      ap (λ (it : LineRefusal). stops (in_line number it))
      (same_stop why other (line_once texts readings steps basis progress line ready (stops why) (stops other) h k))
  lines_once number progress (line ∷ lines) _ _ ready (one_stops {why = why} h) (one_goes_on {next = next} k rest) =
      absurd (no_way next why (line_once texts readings steps basis progress line ready (goes_on next) (stops why) k h))
  lines_once number progress (line ∷ lines) _ _ ready (one_goes_on {next = next} h rest) (one_stops {why = why} k) =
      absurd (no_way next why (line_once texts readings steps basis progress line ready (goes_on next) (stops why) h k))
  lines_once number progress (line ∷ lines) one other ready (one_goes_on {next = next} h rest) (one_goes_on {next = last} k more) =
      let same : next ≡ last = same_way next last
      (line_once texts readings steps basis progress line ready (goes_on next) (goes_on last) h k) in
      lines_once (number + 1) next lines one other
      (ready_again targets basis progress next ready (went_on basis progress next line h)) rest
      (subst (λ (it : Progress). LinesComeTo basis (number + 1) it lines other) (sym same) more)

  -- a state comes to one thing
  state_once : (progress : Progress) (there_ : Option (List ℕ)) (one other : LinesOutcome LineRefusal)
      → StateComesTo basis progress there_ one → StateComesTo basis progress there_ other → one ≡ other
  state_once progress None _ _ is_missing is_missing = refl
  state_once progress (Some line) _ _ (has_no_state h) (has_no_state k) = refl
  state_once progress (Some line) _ _ (has_no_state h) (is_elsewhere kept k n) = absurd (none_and_some _ kept h k)
  state_once progress (Some line) _ _ (has_no_state h) (is_there k) = absurd (none_and_some _ (shown_state basis progress) h k)
  state_once progress (Some line) _ _ (is_elsewhere kept h n) (has_no_state k) = absurd (none_and_some _ kept k h)
  state_once progress (Some line) _ _ (is_elsewhere kept h n) (is_elsewhere other k m) =
      ap (λ (it : List ℕ). stops (state_differs it (shown_state basis progress))) (some_value (sym h ∙ k))
  state_once progress (Some line) _ _ (is_elsewhere kept h n) (is_there k) = absurd (n (some_value (sym h ∙ k)))
  state_once progress (Some line) _ _ (is_there h) (has_no_state k) = absurd (none_and_some _ (shown_state basis progress) k h)
  state_once progress (Some line) _ _ (is_there h) (is_elsewhere kept k n) = absurd (n (some_value (sym k ∙ h)))
  state_once progress (Some line) _ _ (is_there h) (is_there k) = refl

  stated_once : (number : ℕ) (progress : Progress) (lines : List (List ℕ)) (one other : LinesOutcome ReplayRefusal)
      → IsReady basis progress → StatedLinesComeTo basis number progress lines one → StatedLinesComeTo basis number progress lines other
      → one ≡ other
  stated_once number progress [] _ _ ready all_stated all_stated = refl
  stated_once number progress (line ∷ lines) _ _ ready (step_stops {why = why} h) (step_stops {why = other} k) =
      ap (λ (it : LineRefusal). stops (in_line number it))
      (same_stop why other (line_once texts readings steps basis progress line ready (stops why) (stops other) h k))
  stated_once number progress (line ∷ lines) _ _ ready (step_stops {why = why} h) (state_stops {next = next} k s) =
      absurd (no_way next why (line_once texts readings steps basis progress line ready (goes_on next) (stops why) k h))
  stated_once number progress (line ∷ state ∷ lines) _ _ ready (step_stops {why = why} h) (both_go_on {next = next} k s rest) =
      absurd (no_way next why (line_once texts readings steps basis progress line ready (goes_on next) (stops why) k h))
  stated_once number progress (line ∷ lines) _ _ ready (state_stops {next = next} h s) (step_stops {why = why} k) =
      absurd (no_way next why (line_once texts readings steps basis progress line ready (goes_on next) (stops why) h k))
  stated_once number progress (line ∷ lines) _ _ ready (state_stops {next = next} {why = why} h s)
      (state_stops {next = last} {why = other} k t) =
      let same : next ≡ last = same_way next last
      (line_once texts readings steps basis progress line ready (goes_on next) (goes_on last) h k) in
      ap (λ (it : LineRefusal). stops (in_line (number + 1) it))
      (same_stop why other
      (state_once next (first_line lines) (stops why) (stops other) s
      (subst (λ (it : Progress). StateComesTo basis it (first_line lines) (stops other)) (sym same) t)))
  stated_once number progress (line ∷ state ∷ lines) _ _ ready (state_stops {next = next} {why = why} h s)
      (both_go_on {next = last} k t rest) =
      let same : next ≡ last = same_way next last
      (line_once texts readings steps basis progress line ready (goes_on next) (goes_on last) h k) in
      absurd (no_way next why
      (state_once next (Some state) (goes_on next) (stops why)
      (subst (λ (it : Progress). StateComesTo basis it (Some state) (goes_on it)) (sym same) t) s))
  stated_once number progress (line ∷ state ∷ lines) _ _ ready (both_go_on {next = next} h s rest) (step_stops {why = why} k) =
      absurd (no_way next why (line_once texts readings steps basis progress line ready (goes_on next) (stops why) h k))
  stated_once number progress (line ∷ state ∷ lines) _ _ ready (both_go_on {next = next} h s rest)
      (state_stops {next = last} {why = why} k t) =
      let same : next ≡ last = same_way next last
      (line_once texts readings steps basis progress line ready (goes_on next) (goes_on last) h k) in
      absurd (no_way last why
      (state_once last (Some state) (goes_on last) (stops why)
      (subst (λ (it : Progress). StateComesTo basis it (Some state) (goes_on it)) same s) t))
  stated_once number progress (line ∷ state ∷ lines) one other ready (both_go_on {next = next} h s rest)
      (both_go_on {next = last} k t more) =
      let same : next ≡ last = same_way next last
      (line_once texts readings steps basis progress line ready (goes_on next) (goes_on last) h k) in
      stated_once (number + 2) next lines one other
      (ready_again targets basis progress next ready (went_on basis progress next line h)) rest
      (subst (λ (it : Progress). StatedLinesComeTo basis (number + 2) it lines other) (sym same) more)

  named_once : (first : Situation) (is_named : Bool) (kept : List ℕ) (lines : List (List ℕ)) (one other : LinesOutcome ReplayRefusal)
      → IsReady basis (opened_progress first) → ComeBehindName basis first is_named kept lines one
      → ComeBehindName basis first is_named kept lines other → one ≡ other
  named_once first true kept lines one other ready h k = stated_once 2 (opened_progress first) lines one other ready h k
  named_once first false kept lines one other ready h k = h ∙ sym k

  behind_once : (first : Situation) (heading : TraceHeading) (lines : List (List ℕ)) (one other : LinesOutcome ReplayRefusal)
      → IsReady basis (opened_progress first) → ComeBehind basis first heading lines one → ComeBehind basis first heading lines other
      → one ≡ other
  behind_once first no_heading lines one other ready h k = h ∙ sym k
  behind_once first of_steps lines one other ready h k = lines_once 2 (opened_progress first) lines one other ready h k
  behind_once first (of_states kept) lines one other ready h k =
      named_once first (one_name kept basis.specification.name) kept lines one other ready h k

  trace_once : (first : Situation) (lines : List (List ℕ)) (one other : LinesOutcome ReplayRefusal) → IsReady basis (opened_progress first)
      → TraceComesTo basis first lines one → TraceComesTo basis first lines other → one ≡ other
  trace_once first [] one other ready h k = h ∙ sym k
  trace_once first (line ∷ lines) one other ready h k = behind_once first (trace_heading_of line) lines one other ready h k

  pub replay_once : (first : Situation) (text : List ℕ) (one other : LinesOutcome ReplayRefusal) → IsStateOver basis first.state
      → IsSituation basis first → ReplayIs basis first text one → ReplayIs basis first text other → one ≡ other
  replay_once first text one other over menu h k =
      trace_once first (lines_of text) one other (record { over = over; menu = menu }) h k

-- ---- What is replayed is lawful

lines_lawful : (basis : SessionBasis) (number : ℕ) (progress new : Progress) (lines : List (List ℕ)) → IsLawful basis progress
    → LinesComeTo basis number progress lines (goes_on new) → IsLawful basis new × HaveOneStart progress new
lines_lawful basis number progress _ [] lawful all_done = (lawful, refl)
lines_lawful basis number progress new (line ∷ lines) lawful (one_goes_on {next = next} h rest) =
    let step : IsStepFrom basis progress next = went_on basis progress next line h in
    let made : IsLawful basis next × HaveOneStart progress next =
    stepped_lawful basis progress next step.number step.values step.label lawful step.is in
    let last : IsLawful basis new × HaveOneStart next new = lines_lawful basis (number + 1) next new lines made.0 rest in
    (last.0, last.1 ∙ made.1)

pub no_stop : (new : Progress) (why : ReplayRefusal) → goes_on new ≡ stops why → ⊥
no_stop new why e = cc e

stated_lawful : (basis : SessionBasis) (number : ℕ) (progress new : Progress) (lines : List (List ℕ)) → IsLawful basis progress
    → StatedLinesComeTo basis number progress lines (goes_on new) → IsLawful basis new × HaveOneStart progress new
stated_lawful basis number progress _ [] lawful all_stated = (lawful, refl)
stated_lawful basis number progress new (line ∷ []) lawful none = elim none [ ]
stated_lawful basis number progress new (line ∷ state ∷ lines) lawful (both_go_on {next = next} h s rest) =
    let step : IsStepFrom basis progress next = went_on basis progress next line h in
    let made : IsLawful basis next × HaveOneStart progress next =
    stepped_lawful basis progress next step.number step.values step.label lawful step.is in
    let last : IsLawful basis new × HaveOneStart next new = stated_lawful basis (number + 2) next new lines made.0 rest in
    (last.0, last.1 ∙ made.1)

named_lawful : (basis : SessionBasis) (first : Situation) (is_named : Bool) (kept : List ℕ) (lines : List (List ℕ)) (new : Progress)
    → IsSituation basis first → ComeBehindName basis first is_named kept lines (goes_on new)
    → IsLawful basis new × (first_situation new ≡ first)
named_lawful basis first true kept lines new menu h =
    stated_lawful basis 2 (opened_progress first) new lines (record { start = menu; steps = refl }) h
named_lawful basis first false kept lines new menu h = absurd (no_stop new _ h)

behind_lawful : (basis : SessionBasis) (first : Situation) (heading : TraceHeading) (lines : List (List ℕ)) (new : Progress)
    → IsSituation basis first → ComeBehind basis first heading lines (goes_on new)
    → IsLawful basis new × (first_situation new ≡ first)
behind_lawful basis first no_heading lines new menu h = absurd (no_stop new _ h)
behind_lawful basis first of_steps lines new menu h =
    lines_lawful basis 2 (opened_progress first) new lines (record { start = menu; steps = refl }) h
behind_lawful basis first (of_states kept) lines new menu h =
    named_lawful basis first (one_name kept basis.specification.name) kept lines new menu h

trace_lawful : (basis : SessionBasis) (first : Situation) (lines : List (List ℕ)) (new : Progress) → IsSituation basis first
    → TraceComesTo basis first lines (goes_on new) → IsLawful basis new × (first_situation new ≡ first)
trace_lawful basis first [] new menu h = absurd (no_stop new _ h)
trace_lawful basis first (line ∷ lines) new menu h = behind_lawful basis first (trace_heading_of line) lines new menu h

pub replay_lawful : (basis : SessionBasis) (first : Situation) (text : List ℕ) (new : Progress) → IsSituation basis first
    → ReplayIs basis first text (goes_on new) → IsLawful basis new × (first_situation new ≡ first)
replay_lawful basis first text new menu h = trace_lawful basis first (lines_of text) new menu h
