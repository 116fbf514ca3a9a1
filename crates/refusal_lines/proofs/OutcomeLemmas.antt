-- What the words behind `with` come to is one thing, and start values are ground.
use Rattle.std.proofs.Common.{refl, ap, sym, ◌∙◌, ◌≡◌, ◌≢◌, ◌⊎◌, inl, inr, subst, ℕ, suc, ◌+◌, List, [], ◌∷◌, ◌++◌, map, length, Option, None, Some}
use Rattle.std.proofs.lemmas.Option.{none-some, same_Some}
use Rattle.lotos_base.specs.WrittenTerm.{WrittenTerm, WrittenTerms, written, no_written, written_then}
use Rattle.lotos_base.specs.Equation.{Variable}
use Rattle.lotos_base.specs.Signature.{Signature}
use Rattle.lotos_base.specs.Sorting.{IsGround, AreGround, IsGroundOf}
use Rattle.lotos_base.specs.Term.{Term, Terms, variable, node, no_terms, term_then}
use Rattle.behaviour_semantics.specs.Rule.{AreValues}
use Rattle.lotos_grammar.specs.HandedOn.{IsTermsReading, IsTermsFault, HasOneOutcome, ReadFault, NoMemory}
use Rattle.lotos_grammar.proofs.HandedOn.{all_have_one_outcome}
use Rattle.sort_terms.proofs.ReadsLemmas.{comes_once, reads_sorted}
use Rattle.sort_terms.specs.Reading.{Reads, AllRead}
use Rattle.sort_terms.specs.ReadingLaws.{ReadingsAreWellSorted, ReadingComesToOneThing}
use Rattle.sort_terms.specs.ReadingOutcome as reading
use Rattle.sort_terms.specs.ReadingOutcome.{SortedTerm, ReadingIs, IsReading}
use Rattle.sort_terms.proofs.OutcomeLemmas.{same_answer, not_answered_and_refused, read_ground, all_ground, is_reading}
use Rattle.refusal_lines.specs.Refusal.{Refusal, start_values}
use Rattle.refusal_lines.specs.declared.start_words.TheConstants.{WORDS_TEXT}
use Rattle.refusal_lines.specs.StartValues.{WordTerm, of_word, HaveTerms, told_of_word, IsWordFault, HaveWordFault, HasStartValue, HaveValues, told_of_term, IsTermFault, HaveTermFault, Start, AreStartValues, IsStartFault, misread, miscounted, misfitting}
use Rattle.refusal_lines.specs.StartLaws.{StartsHaveOneOutcome, StartValuesAreGround}

-- ---- Words

no_want : (number : ℕ) (fault : ReadFault) (refusal : Refusal) → told_of_word number fault ≡ Some refusal → fault ≡ NoMemory → ⊥
no_want number fault refusal tells e =
    none-some refusal (subst (λ (f : ReadFault). told_of_word number f ≡ Some refusal) e tells)

module _ (one : HasOneOutcome {A = List WrittenTerm} IsTermsReading IsTermsFault) where
  not_read : (number : ℕ) (word : List ℕ) (own : List WrittenTerm) (refusal : Refusal) → IsTermsReading WORDS_TEXT word own
      → IsWordFault number word refusal → ⊥
  not_read number word own refusal is not =
      no_want number not.0 refusal not.2 (one.not_both WORDS_TEXT word own not.0 is not.1)

  same_fault : (number : ℕ) (word : List ℕ) (some other : Refusal) → IsWordFault number word some → IsWordFault number word other
      → some ≡ other
  same_fault number word some other is also = by (one.one_fault WORDS_TEXT word is.0 also.0 is.1 also.1)
    where
      by : (is.0 ≡ NoMemory) ⊎ ((also.0 ≡ NoMemory) ⊎ (is.0 ≡ also.0)) → some ≡ other
      by (inl e) = absurd (no_want number is.0 some is.2 e)
      by (inr (inl e)) = absurd (no_want number also.0 other also.2 e)
      by (inr (inr e)) =
          same_Some some other (sym is.2 ∙ ap (λ (f : ReadFault). told_of_word number f) e ∙ also.2)

  terms_once : (number : ℕ) (words : List (List ℕ)) (some other : List WordTerm) → HaveTerms number words some
      → HaveTerms number words other → some ≡ other
  terms_once number [] some other is also = is ∙ sym also
  terms_once number (word ∷ words) some other is also =
      let own : is.0 ≡ also.0 = one.one_tree WORDS_TEXT word is.0 also.0 is.2 also.2 in
      let rest : is.1 ≡ also.1 = terms_once (number + 1) words is.1 also.1 is.3 also.3 in
      is.4 ∙ ap (λ (ts : List WrittenTerm). map (of_word number) ts ++ is.1) own
      ∙ ap (λ (ts : List WordTerm). map (of_word number) also.0 ++ ts) rest ∙ sym also.4

  terms_fine : (number : ℕ) (words : List (List ℕ)) (terms : List WordTerm) (refusal : Refusal) → HaveTerms number words terms
      → HaveWordFault number words refusal → ⊥
  terms_fine number [] terms refusal is not = not
  terms_fine number (word ∷ words) terms refusal is (inl not) = not_read number word is.0 refusal is.2 not
  terms_fine number (word ∷ words) terms refusal is (inr not) = terms_fine (number + 1) words is.1 refusal is.3 not.2

  word_fault_once : (number : ℕ) (words : List (List ℕ)) (some other : Refusal) → HaveWordFault number words some
      → HaveWordFault number words other → some ≡ other
  word_fault_once number [] some other is also = absurd is
  word_fault_once number (word ∷ words) some other (inl is) (inl also) = same_fault number word some other is also
  word_fault_once number (word ∷ words) some other (inl is) (inr also) = absurd (not_read number word also.0 some also.1 is)
  word_fault_once number (word ∷ words) some other (inr is) (inl also) = absurd (not_read number word is.0 other is.1 also)
  word_fault_once number (word ∷ words) some other (inr is) (inr also) =
      word_fault_once (number + 1) words some other is.2 also.2

-- ---- Terms

value_count : (signature : Signature) (sorts : List ℕ) (terms : List WordTerm) (values : List Term)
    → HaveValues signature sorts terms values → length sorts ≡ length terms
value_count signature [] [] [] h = refl
value_count signature [] [] (value ∷ values) h = absurd h
value_count signature [] (given ∷ others) values h = absurd h
value_count signature (sort ∷ sorts) [] values h = absurd h
value_count signature (sort ∷ sorts) (given ∷ others) [] h = absurd h
value_count signature (sort ∷ sorts) (given ∷ others) (value ∷ values) h =
    ap suc (value_count signature sorts others values h.1)

same_refusal : (one other : reading.ReadingRefusal) → ◌≡◌ {A = reading.ReadingOutcome SortedTerm} (reading.refused one)
    (reading.refused other)
    → one ≡ other
same_refusal one other e = cc e

module _ (readings : ReadingComesToOneThing) (signature : Signature) where
  value_once : (sort : ℕ) (given : WordTerm) (some other : Term) → HasStartValue signature sort given some
      → HasStartValue signature sort given other → some ≡ other
  value_once sort given some other is also =
      ap (λ (it : SortedTerm). it.term) (same_answer _ _ (readings signature [] given.term (Some sort) _ _ is also))

  value_fine : (sort : ℕ) (given : WordTerm) (value : Term) (refusal : Refusal) → HasStartValue signature sort given value
      → IsTermFault signature sort given refusal → ⊥
  value_fine sort given value refusal is not =
      not_answered_and_refused _ not.0 (readings signature [] given.term (Some sort) _ _ is not.1)

  values_once : (sorts : List ℕ) (terms : List WordTerm) (some other : List Term) → HaveValues signature sorts terms some
      → HaveValues signature sorts terms other → some ≡ other
  values_once [] [] [] [] is also = refl
  values_once [] [] [] (value ∷ values) is also = absurd also
  values_once [] [] (value ∷ values) other is also = absurd is
  values_once [] (given ∷ others) some other is also = absurd is
  values_once (sort ∷ sorts) [] some other is also = absurd is
  values_once (sort ∷ sorts) (given ∷ others) [] other is also = absurd is
  values_once (sort ∷ sorts) (given ∷ others) (value ∷ values) [] is also = absurd also
  values_once (sort ∷ sorts) (given ∷ others) (value ∷ values) (another ∷ more) is also =
      let same : value ≡ another = value_once sort given value another is.0 also.0 in
      let rest : values ≡ more = values_once sorts others values more is.1 also.1 in
      ap (λ (v : Term). v ∷ values) same ∙ ap (λ (vs : List Term). another ∷ vs) rest

  values_fine : (sorts : List ℕ) (terms : List WordTerm) (values : List Term) (refusal : Refusal)
      → HaveValues signature sorts terms values → HaveTermFault signature sorts terms refusal → ⊥
  values_fine [] terms values refusal is not = not
  values_fine (sort ∷ sorts) [] values refusal is not = not
  values_fine (sort ∷ sorts) (given ∷ others) [] refusal is not = is
  values_fine (sort ∷ sorts) (given ∷ others) (value ∷ values) refusal is (inl not) =
      value_fine sort given value refusal is.0 not
  values_fine (sort ∷ sorts) (given ∷ others) (value ∷ values) refusal is (inr not) =
      values_fine sorts others values refusal is.1 not.2

  term_fault_once : (sorts : List ℕ) (terms : List WordTerm) (some other : Refusal) → HaveTermFault signature sorts terms some
      → HaveTermFault signature sorts terms other → some ≡ other
  term_fault_once [] terms some other is also = absurd is
  term_fault_once (sort ∷ sorts) [] some other is also = absurd is
  term_fault_once (sort ∷ sorts) (given ∷ others) some other (inl is) (inl also) =
      is.2 ∙ ap (told_of_term given.word) (same_refusal _ _ (readings signature [] given.term (Some sort) _ _ is.1 also.1)) ∙ sym also.2
  term_fault_once (sort ∷ sorts) (given ∷ others) some other (inl is) (inr also) =
      absurd (value_fine sort given also.0 some also.1 is)
  term_fault_once (sort ∷ sorts) (given ∷ others) some other (inr is) (inl also) =
      absurd (value_fine sort given is.0 other is.1 also)
  term_fault_once (sort ∷ sorts) (given ∷ others) some other (inr is) (inr also) =
      term_fault_once sorts others some other is.2 also.2

-- ---- All of it

module _ (one : HasOneOutcome {A = List WrittenTerm} IsTermsReading IsTermsFault) (readings : ReadingComesToOneThing) where
  start_fine : (start : Start) (values : List Term) (refusal : Refusal) → AreStartValues start values → IsStartFault start refusal → ⊥
  start_fine start values refusal is (misread not) = terms_fine one 1 start.words is.terms refusal is.read not
  start_fine start values refusal is (miscounted terms read differ told) =
      differ (value_count start.signature start.sorts is.terms values is.valued
      ∙ ap (λ (ts : List WordTerm). length ts) (terms_once one 1 start.words is.terms terms is.read read))
  start_fine start values refusal is (misfitting terms read same not) =
      values_fine readings start.signature start.sorts terms values refusal
      (subst (λ (ts : List WordTerm). HaveValues start.signature start.sorts ts values)
      (terms_once one 1 start.words is.terms terms is.read read) is.valued) not

  start_fault_once : (start : Start) (some other : Refusal) → IsStartFault start some → IsStartFault start other → some ≡ other
  start_fault_once start some other (misread is) (misread also) = word_fault_once one 1 start.words some other is also
  start_fault_once start some other (misread is) (miscounted terms read differ told) =
      absurd (terms_fine one 1 start.words terms some read is)
  start_fault_once start some other (misread is) (misfitting terms read same not) =
      absurd (terms_fine one 1 start.words terms some read is)
  start_fault_once start some other (miscounted terms read differ told) (misread also) =
      absurd (terms_fine one 1 start.words terms other read also)
  start_fault_once start some other (miscounted terms read differ told) (miscounted others reads differs tells) =
      told ∙ ap (λ (ts : List WordTerm). start_values (length start.sorts) (length ts))
      (terms_once one 1 start.words terms others read reads) ∙ sym tells
  start_fault_once start some other (miscounted terms read differ told) (misfitting others reads same not) =
      absurd (differ (same ∙ ap (λ (ts : List WordTerm). length ts) (terms_once one 1 start.words others terms reads read)))
  start_fault_once start some other (misfitting terms read same not) (misread also) =
      absurd (terms_fine one 1 start.words terms other read also)
  start_fault_once start some other (misfitting terms read same not) (miscounted others reads differ told) =
      absurd (differ (same ∙ ap (λ (ts : List WordTerm). length ts) (terms_once one 1 start.words terms others read reads)))
  start_fault_once start some other (misfitting terms read same not) (misfitting others reads same_too not_too) =
      term_fault_once readings start.signature start.sorts others some other
      (subst (λ (ts : List WordTerm). HaveTermFault start.signature start.sorts ts some)
      (terms_once one 1 start.words terms others read reads) not) not_too

  one_outcome : StartsHaveOneOutcome
  one_outcome = record {
    one_list = λ start some other is also.
        values_once readings start.signature start.sorts also.terms some other
        (subst (λ (ts : List WordTerm). HaveValues start.signature start.sorts ts some)
        (terms_once one 1 start.words is.terms also.terms is.read also.read) is.valued) also.valued;
    not_both = start_fine;
    one_fault = start_fault_once;
  }

pub starts_have_one_outcome : StartsHaveOneOutcome
starts_have_one_outcome =
    one_outcome all_have_one_outcome.terms (λ signature scope w expected one other. comes_once _ _ _ one other)

-- ---- Start values are ground

module _ (sorted : ReadingsAreWellSorted) (signature : Signature) where
  value_ground : (sort : ℕ) (given : WordTerm) (value : Term) → HasStartValue signature sort given value
      → IsGroundOf signature sort value
  value_ground sort given value is =
      let reads = is_reading _ _ (IsReading signature [] given.term (Some sort)) (record { term = value; sort = sort }) is in
      record {
        ground = read_ground signature given.term value sort reads.0;
        sorted = sorted signature [] given.term value sort (λ i v there. absurd (none-some v there)) reads.0;
      }

  values_ground : (sorts : List ℕ) (terms : List WordTerm) (values : List Term) → HaveValues signature sorts terms values
      → AreValues signature sorts values
  values_ground [] [] [] h = tt
  values_ground [] [] (value ∷ values) h = absurd h
  values_ground [] (given ∷ others) values h = absurd h
  values_ground (sort ∷ sorts) [] values h = absurd h
  values_ground (sort ∷ sorts) (given ∷ others) [] h = absurd h
  values_ground (sort ∷ sorts) (given ∷ others) (value ∷ values) h =
      (value_ground sort given value h.0, values_ground sorts others values h.1)

pub start_values_are_ground : StartValuesAreGround
start_values_are_ground start values is =
    values_ground (λ signature scope w t sort over. reads_sorted signature scope over w t sort) start.signature start.sorts is.terms values
    is.valued
