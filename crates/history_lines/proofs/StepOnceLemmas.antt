-- The line of a step comes to one thing at most.
use Rattle.std.proofs.Common.{◌≡◌, ◌⊎◌, inl, inr, ℕ, List, [], ◌∷◌, length, Option, None, Some, refl, ap, sym, ◌∙◌, subst}
use Rattle.lotos_base.proofs.Options.{none_and_some}
use Rattle.lotos_base.specs.WrittenTerm.{WrittenTerm}
use Rattle.session_log.specs.HandedOn.{TextsHaveOneOutcome, NoMemory, bad_term, term_number, fault_number, AreTermsOfLine, AreUnread}
use Rattle.session_log.specs.HandedOn.{SessionBasis, Progress, StepRefusal, entry_numbered, number_refusal, count_refusal}
use Rattle.session_log.specs.HandedOn.{condition_refusal, IsSituation, HasStepped, AreRead, IsStateOver, StepsAreExact}
use Rattle.lotos_base.specs.Signature.{Signature}
use Rattle.lotos_base.specs.Term.{Term}
use Rattle.sort_terms.specs.ReadingLaws.{ReadingComesToOneThing}
use Rattle.sort_terms.specs.ReadingOutcome as reading
use Rattle.sort_terms.specs.ReadingOutcome.{SortedTerm}
use Rattle.sort_terms.proofs.OutcomeLemmas.{same_answer, not_answered_and_refused}
use Rattle.behaviour_semantics.specs.Label.{Label}
use Rattle.behaviour_semantics.specs.Solving.{Entry}
use Rattle.behaviour_semantics.proofs.OptionLemmas.{some_value}
use Rattle.session_log.proofs.HandedOn.{IsFree, free_of_count, met_free}
use Rattle.history_lines.specs.CommandRefusal.{CommandRefusal, ill_formed, no_step}
use Rattle.session_log.specs.Values.{IsFirstMisread}
use Rattle.history_lines.specs.StepAnswer.{StepAnswer, took, declined, StepComesTo, is_unread, is_miscounted, is_misread, is_unmet, is_taken}

-- ---- Questions in turn: each declines the line, or gives one thing to go on with

abbrev Turn : {A : Type 0} → (CommandRefusal → Type 0) → (A → Type 0) → (A → StepAnswer → Type 0) → StepAnswer → Type 0
Turn {A} Stops Goes Next answer =
    ((why : CommandRefusal) × Stops why × (answer ≡ declined why)) ⊎ ((a : A) × Goes a × Next a answer)

turn_once : {A : Type 0} (Stops : CommandRefusal → Type 0) (Goes : A → Type 0) (Next : A → StepAnswer → Type 0)
    → ((why other : CommandRefusal) → Stops why → Stops other → why ≡ other) → ((why : CommandRefusal) (a : A) → Stops why → Goes a → ⊥)
    → ((a b : A) → Goes a → Goes b → a ≡ b)
    → ((a : A) (one other : StepAnswer) → Goes a → Next a one → Next a other → one ≡ other)
    → (one other : StepAnswer) → Turn Stops Goes Next one → Turn Stops Goes Next other → one ≡ other
turn_once Stops Goes Next one_why apart one_way next one other (inl h) (inl k) =
    h.2 ∙ (ap (λ (why : CommandRefusal). declined why) (one_why h.0 k.0 h.1 k.1) ∙ sym k.2)
turn_once Stops Goes Next one_why apart one_way next one other (inl h) (inr k) = absurd (apart h.0 k.0 h.1 k.1)
turn_once Stops Goes Next one_why apart one_way next one other (inr h) (inl k) = absurd (apart k.0 h.0 k.1 h.1)
turn_once {A} Stops Goes Next one_why apart one_way next one other (inr h) (inr k) =
    next h.0 one other h.1 h.2 (subst (λ (a : A). Next a other) (sym (one_way h.0 k.0 h.1 k.1)) k.2)

-- ---- Texts

module _ (texts : TextsHaveOneOutcome) (text : List ℕ) where
  same_terms : (terms others : List WrittenTerm) → AreTermsOfLine text terms → AreTermsOfLine text others → terms ≡ others
  same_terms terms others = texts.terms.one_tree 0 text terms others

  not_unread : (terms : List WrittenTerm) (number : ℕ) → AreTermsOfLine text terms → AreUnread text number → ⊥
  not_unread terms number are unread = unread.2 (texts.terms.not_both 0 text terms unread.0 are unread.1)

  same_number : (number other : ℕ) → AreUnread text number → AreUnread text other → number ≡ other
  same_number number other one two = by (texts.terms.one_fault 0 text one.0 two.0 one.1 two.1)
    where
      by : (one.0 ≡ NoMemory) ⊎ ((two.0 ≡ NoMemory) ⊎ (one.0 ≡ two.0)) → number ≡ other
      by (inl none) = absurd (one.2 none)
      by (inr (inl none)) = absurd (two.2 none)
      by (inr (inr same)) = one.3 ∙ (ap fault_number same ∙ sym two.3)

-- ---- Readings of values

abbrev refused_term : reading.ReadingRefusal → reading.ReadingOutcome SortedTerm
refused_term refusal = reading.refused refusal

same_refusal : (one other : reading.ReadingRefusal) → refused_term one ≡ refused_term other → one ≡ other
same_refusal one other e = cc e

module _ (readings : ReadingComesToOneThing) (signature : Signature) where
  read_once : (sorts : List ℕ) (terms : List WrittenTerm) (values others : List Term) → AreRead signature sorts terms values
      → AreRead signature sorts terms others → values ≡ others
  read_once [] [] [] [] h k = refl
  read_once [] [] [] (other ∷ others) h k = absurd k
  read_once [] [] (value ∷ values) others h k = absurd h
  read_once [] (term ∷ terms) values others h k = absurd h
  read_once (sort ∷ sorts) [] values others h k = absurd h
  read_once (sort ∷ sorts) (term ∷ terms) [] others h k = absurd h
  read_once (sort ∷ sorts) (term ∷ terms) (value ∷ values) [] h k = absurd k
  read_once (sort ∷ sorts) (term ∷ terms) (value ∷ values) (other ∷ others) h k =
      let same : value ≡ other = ap (λ (it : SortedTerm). it.term)
      (same_answer _ _ (readings signature [] term (Some sort) _ _ h.0 k.0)) in
      let rest : values ≡ others = read_once sorts terms values others h.1 k.1 in
      λ i. same i ∷ rest i

  not_misread : (sorts : List ℕ) (terms : List WrittenTerm) (values : List Term) (why : reading.ReadingRefusal)
      → AreRead signature sorts terms values → IsFirstMisread signature sorts terms why → ⊥
  not_misread [] terms values why h k = k
  not_misread (sort ∷ sorts) [] values why h k = k
  not_misread (sort ∷ sorts) (term ∷ terms) [] why h k = h
  not_misread (sort ∷ sorts) (term ∷ terms) (value ∷ values) why h (inl k) =
      not_answered_and_refused _ why (readings signature [] term (Some sort) _ _ h.0 k)
  not_misread (sort ∷ sorts) (term ∷ terms) (value ∷ values) why h (inr k) = not_misread sorts terms values why h.1 k.2

  misread_once : (sorts : List ℕ) (terms : List WrittenTerm) (why other : reading.ReadingRefusal)
      → IsFirstMisread signature sorts terms why → IsFirstMisread signature sorts terms other → why ≡ other
  misread_once [] terms why other h k = absurd h
  misread_once (sort ∷ sorts) [] why other h k = absurd h
  misread_once (sort ∷ sorts) (term ∷ terms) why other (inl h) (inl k) =
      same_refusal why other (readings signature [] term (Some sort) _ _ h k)
  misread_once (sort ∷ sorts) (term ∷ terms) why other (inl h) (inr k) =
      absurd (not_answered_and_refused k.0 why (readings signature [] term (Some sort) _ _ k.1 h))
  misread_once (sort ∷ sorts) (term ∷ terms) why other (inr h) (inl k) =
      absurd (not_answered_and_refused h.0 other (readings signature [] term (Some sort) _ _ h.1 k))
  misread_once (sort ∷ sorts) (term ∷ terms) why other (inr h) (inr k) = misread_once sorts terms why other h.2 k.2

-- ---- The line of a step

-- a session whose state is over the specification, and whose menu is that of the state
pub record IsReady (basis : SessionBasis) (progress : Progress) : Type 0 where
  pub over : IsStateOver basis progress.situation.state
  pub menu : IsSituation basis progress.situation

record Taken : Type 0 where
  label : Label
  new : Progress

module _ (basis : SessionBasis) (progress : Progress) (number : ℕ) (text : List ℕ) where
  abbrev IsUnmet : Entry → List Term → CommandRefusal → Type 0
  IsUnmet entry values why =
      (refusal : StepRefusal) × (condition_refusal basis.canon entry values ≡ Some refusal) × (why ≡ no_step refusal)

  abbrev IsTaken : List Term → Taken → Type 0
  IsTaken values taken = HasStepped basis progress number values taken.label taken.new

  abbrev Stepping : Entry → List Term → StepAnswer → Type 0
  Stepping entry values = Turn (IsUnmet entry values) (IsTaken values) (λ (it : Taken) (answer : StepAnswer). answer ≡ took it.label it.new)

  abbrev IsMisread : List WrittenTerm → Entry → CommandRefusal → Type 0
  IsMisread terms entry why =
      (refusal : reading.ReadingRefusal) × IsFirstMisread basis.data_.signature entry.variables terms refusal
      × (why ≡ ill_formed (bad_term (term_number refusal)))

  abbrev Reading : List WrittenTerm → Entry → StepAnswer → Type 0
  Reading terms entry =
      Turn (IsMisread terms entry) (AreRead basis.data_.signature entry.variables terms) (Stepping entry)

  abbrev IsMiscounted : List WrittenTerm → CommandRefusal → Type 0
  IsMiscounted terms why =
      (refusal : StepRefusal) × (number_refusal progress.situation.menu number (length terms) ≡ Some refusal) × (why ≡ no_step refusal)

  abbrev IsFound : List WrittenTerm → Entry → Type 0
  IsFound terms entry = (entry_numbered progress.situation.menu number ≡ Some entry) × (length terms ≡ length entry.variables)

  abbrev Counting : List WrittenTerm → StepAnswer → Type 0
  Counting terms = Turn (IsMiscounted terms) (IsFound terms) (Reading terms)

  abbrev IsUnread : CommandRefusal → Type 0
  IsUnread why = (fault : ℕ) × AreUnread text fault × (why ≡ ill_formed (bad_term fault))

  abbrev Parsing : StepAnswer → Type 0
  Parsing = Turn IsUnread (AreTermsOfLine text) Counting

  in_turn : (answer : StepAnswer) → StepComesTo basis progress number text answer → Parsing answer
  in_turn _ (is_unread fault is) = inl (ill_formed (bad_term fault), (fault, is, refl), refl)
  in_turn _ (is_miscounted terms refusal are e) = inr (terms, are, inl (no_step refusal, (refusal, e, refl), refl))
  in_turn _ (is_misread entry terms refusal is mis) =
      inr (
        terms,
        is.are,
        inr (entry, (is.listed, is.counted), inl (ill_formed (bad_term (term_number refusal)), (refusal, mis, refl), refl)),
      )
  in_turn _ (is_unmet entry values refusal is e) =
      inr (
        is.terms,
        is.counted.are,
        inr (entry, (is.counted.listed, is.counted.counted), inr (values, is.read, inl (no_step refusal, (refusal, e, refl), refl))),
      )
  in_turn _ (is_taken entry values label new is h) =
      inr (
        is.terms,
        is.counted.are,
        inr (
          entry,
          (is.counted.listed, is.counted.counted),
          inr (values, is.read, inr (record { label = label; new = new }, h, refl)),
        ),
      )

  -- an entry with its count of values is not miscounted
  found_free : (terms : List WrittenTerm) (entry : Entry) → IsFound terms entry
      → number_refusal progress.situation.menu number (length terms) ≡ None
  found_free terms entry h =
      subst (λ (it : Option Entry). count_refusal number (length progress.situation.menu) it (length terms) ≡ None) (sym h.0)
      (free_of_count number (length progress.situation.menu) entry (length terms) h.1)

  -- a step that was taken meets its conditions
  taken_met : IsReady basis progress → (entry : Entry) (values : List Term) (taken : Taken)
      → entry_numbered progress.situation.menu number ≡ Some entry → IsTaken values taken
      → condition_refusal basis.canon entry values ≡ None
  taken_met ready entry values taken listed h =
      let free : IsFree basis (entry_numbered progress.situation.menu h.item.number) h.item.values =
      met_free basis progress.situation ready.over ready.menu h.item.number h.item.values h.lawful.entry h.lawful.listed
      h.lawful.meets in
      let same : free.entry ≡ entry =
      some_value (sym free.is ∙ (ap (entry_numbered progress.situation.menu) h.numbered ∙ listed)) in
      subst (λ (it : Entry). condition_refusal basis.canon it values ≡ None) same
      (subst (λ (it : List Term). condition_refusal basis.canon free.entry it ≡ None) h.valued free.met)

module _ (texts : TextsHaveOneOutcome) (readings : ReadingComesToOneThing) (steps : StepsAreExact) (basis : SessionBasis)
    (progress : Progress) (number : ℕ) (text : List ℕ) (ready : IsReady basis progress) where
  stepping_once : (entry : Entry) (values : List Term) → entry_numbered progress.situation.menu number ≡ Some entry
      → (one other : StepAnswer) → Stepping basis progress number text entry values one
      → Stepping basis progress number text entry values other → one ≡ other
  stepping_once entry values listed one other h k =
      turn_once (IsUnmet basis progress number text entry values) (IsTaken basis progress number text values)
      (λ (it : Taken) (answer : StepAnswer). answer ≡ took it.label it.new)
      (λ why other h k. h.2 ∙ (ap (λ (it : StepRefusal). no_step it) (some_value (sym h.1 ∙ k.1)) ∙ sym k.2))
      (λ why taken h k. none_and_some _ h.0 (taken_met basis progress number text ready entry values taken listed k) h.1)
      (λ a b h k. let same : _ = steps.once basis progress a.new b.new number values a.label b.label h k in
      λ i. record { label = same.1 i; new = same.0 i })
      (λ a one other h e f. e ∙ sym f) one other h k

  reading_once : (terms : List WrittenTerm) (entry : Entry) → entry_numbered progress.situation.menu number ≡ Some entry
      → (one other : StepAnswer) → Reading basis progress number text terms entry one → Reading basis progress number text terms entry other
      → one ≡ other
  reading_once terms entry listed one other h k =
      turn_once (IsMisread basis progress number text terms entry) (AreRead basis.data_.signature entry.variables terms)
      (Stepping basis progress number text entry)
      (λ why other h k. h.2
      ∙ (ap (λ (it : reading.ReadingRefusal). ill_formed (bad_term (term_number it)))
      (misread_once readings basis.data_.signature entry.variables terms h.0 k.0 h.1 k.1)
      ∙ sym k.2))
      (λ why values h k. not_misread readings basis.data_.signature entry.variables terms values h.0 k h.1)
      (λ a b h k. read_once readings basis.data_.signature entry.variables terms a b h k)
      (λ values one other h. stepping_once entry values listed one other) one other h k

  counting_once : (terms : List WrittenTerm) (one other : StepAnswer) → Counting basis progress number text terms one
      → Counting basis progress number text terms other → one ≡ other
  counting_once terms one other h k =
      turn_once (IsMiscounted basis progress number text terms) (IsFound basis progress number text terms)
      (Reading basis progress number text terms)
      (λ why other h k. h.2 ∙ (ap (λ (it : StepRefusal). no_step it) (some_value (sym h.1 ∙ k.1)) ∙ sym k.2))
      (λ why entry h k. none_and_some _ h.0 (found_free basis progress number text terms entry k) h.1)
      (λ a b h k. some_value (sym h.0 ∙ k.0))
      (λ entry one other h. reading_once terms entry h.0 one other) one other h k

  pub step_once : (one other : StepAnswer) → StepComesTo basis progress number text one → StepComesTo basis progress number text other
      → one ≡ other
  step_once one other h k =
      turn_once (IsUnread basis progress number text) (AreTermsOfLine text) (Counting basis progress number text)
      (λ why other h k. h.2
      ∙ (ap (λ (it : ℕ). ill_formed (bad_term it)) (same_number texts text h.0 k.0 h.1 k.1) ∙ sym k.2))
      (λ why terms h k. not_unread texts text terms h.0 k h.1)
      (λ a b h k. same_terms texts text a b h k)
      (λ terms one other h. counting_once terms one other) one other (in_turn basis progress number text one h)
      (in_turn basis progress number text other k)
