-- A question comes to one answer at most.
use Rattle.std.proofs.Common.{◌≡◌, ◌≢◌, ◌⊎◌, ◌↔◌, inl, inr, ℕ, Bool, true, false, IsTrue, List, [], ◌∷◌, length, None, refl, sym, ap, subst, ◌∙◌}
use Rattle.lotos_base.specs.WrittenTerm.{WrittenTerm}
use Rattle.lotos_grammar.specs.HandedOn.{NoMemory}
use Rattle.lotos_grammar.proofs.HandedOn.{all_have_one_outcome}
use Rattle.sort_terms.specs.ReadingOutcome as reading
use Rattle.sort_terms.specs.ReadingOutcome.{SortedTerm, SortedPair, ReadingIs, PairReadingIs, answered}
use Rattle.sort_terms.proofs.ReadsLemmas.{comes_once}
use Rattle.sort_terms.proofs.OutcomeLemmas.{not_answered_and_refused}
use Rattle.lotos_base.specs.Equality.{Equal}
use Rattle.lotos_base.specs.Equation.{Data}
use Rattle.lotos_base.specs.Signature.{Signature}
use Rattle.lotos_base.specs.Term.{Term}
use Rattle.session_lines.specs.Refusal.{bad_command, bad_term, fault_number, term_number, AreTermsOfLine, AreUnread}
use Rattle.session_lines.specs.Answer.{QuestionOutcome, refuses, gives, IsNormalAnswer, IsComparison}

-- ---- Texts

pub same_terms : (text : List ℕ) (terms others : List WrittenTerm) → AreTermsOfLine text terms → AreTermsOfLine text others → terms ≡ others
same_terms text terms others = all_have_one_outcome.terms.one_tree 0 text terms others

pub not_unread : (text : List ℕ) (terms : List WrittenTerm) (number : ℕ) → AreTermsOfLine text terms → AreUnread text number → ⊥
not_unread text terms number are unread = unread.2 (all_have_one_outcome.terms.not_both 0 text terms unread.0 are unread.1)

pub same_number : (text : List ℕ) (number other : ℕ) → AreUnread text number → AreUnread text other → number ≡ other
same_number text number other one two = by (all_have_one_outcome.terms.one_fault 0 text one.0 two.0 one.1 two.1)
  where
    by : (one.0 ≡ NoMemory) ⊎ ((two.0 ≡ NoMemory) ⊎ (one.0 ≡ two.0)) → number ≡ other
    by (inl none) = absurd (one.2 none)
    by (inr (inl none)) = absurd (two.2 none)
    by (inr (inr same)) = one.3 ∙ (ap fault_number same ∙ sym two.3)

-- another number of terms
counted : (text : List ℕ) (terms others : List WrittenTerm) (wanted : ℕ) → AreTermsOfLine text terms → AreTermsOfLine text others
    → length terms ≡ wanted → length others ≢ wanted → ⊥
counted text terms others wanted are are_other is other = other (ap length (same_terms text others terms are_other are) ∙ is)

-- ---- Readings

reads_once : (signature : Signature) (term : WrittenTerm) (one other : reading.ReadingOutcome SortedTerm)
    → ReadingIs signature [] term None one
    → ReadingIs signature [] term None other → one ≡ other
reads_once signature term one other = comes_once _ _ _ one other

pair_reads_once : (signature : Signature) (left right : WrittenTerm) (one other : reading.ReadingOutcome SortedPair)
    → PairReadingIs signature [] left right one → PairReadingIs signature [] left right other → one ≡ other
pair_reads_once signature left right one other = comes_once _ _ _ one other

-- what one term in a text is read as, and what two are
term_reads_once : (signature : Signature) (text : List ℕ) (term other : WrittenTerm) (one two : reading.ReadingOutcome SortedTerm)
    → AreTermsOfLine text (term ∷ []) → AreTermsOfLine text (other ∷ []) → ReadingIs signature [] term None one
    → ReadingIs signature [] other None two
    → one ≡ two
term_reads_once signature text term other one two are are_other reads reads_other =
    let lists : term ∷ [] ≡ other ∷ [] = same_terms text (term ∷ []) (other ∷ []) are are_other in
    let same : other ≡ term = cc lists in
    reads_once signature term one two reads (subst (λ (it : WrittenTerm). ReadingIs signature [] it None two) same reads_other)

pair_reads_one : (signature : Signature) (text : List ℕ) (left right left' right' : WrittenTerm)
    (one two : reading.ReadingOutcome SortedPair)
    → AreTermsOfLine text (left ∷ right ∷ []) → AreTermsOfLine text (left' ∷ right' ∷ []) → PairReadingIs signature [] left right one
    → PairReadingIs signature [] left' right' two → one ≡ two
pair_reads_one signature text left right left' right' one two are are_other reads reads_other =
    let lists : left ∷ right ∷ [] ≡ left' ∷ right' ∷ [] = same_terms text (left ∷ right ∷ []) (left' ∷ right' ∷ []) are are_other in
    let first : left' ≡ left = cc lists in
    let second : right' ≡ right = cc lists in
    pair_reads_once signature left right one two reads
    (subst (λ (it : WrittenTerm). PairReadingIs signature [] left it two) second
    (subst (λ (it : WrittenTerm). PairReadingIs signature [] it right' two) first reads_other))

answer_is : {A : Type 0} (one other : A) → answered one ≡ answered other → one ≡ other
answer_is one other same = cc same

abbrev refused_in : (A : Type 0) → reading.ReadingRefusal → reading.ReadingOutcome A
refused_in A refusal = reading.refused refusal

refusal_is : (A : Type 0) (one other : reading.ReadingRefusal) → refused_in A one ≡ refused_in A other → one ≡ other
refusal_is A one other same = cc same

-- ---- Answers

pub normal_once : (signature : Signature) (canon : Term → Term) (text : List ℕ) (one other : QuestionOutcome Term)
    → IsNormalAnswer signature canon text one → IsNormalAnswer signature canon text other → one ≡ other
normal_once signature canon text (gives form) (gives form') is is' =
    let same : is.1 ≡ is'.1 = answer_is is.1 is'.1 (term_reads_once signature text is.0 is'.0 _ _ is.2 is'.2 is.3 is'.3) in
    ap (λ (it : Term). gives it) (is.4 ∙ (ap (λ (it : SortedTerm). canon it.term) same ∙ sym is'.4))
normal_once signature canon text (gives form) (refuses bad_command) is is' =
    absurd (counted text (is.0 ∷ []) is'.0 1 is.2 is'.1 refl is'.2)
normal_once signature canon text (gives form) (refuses (bad_term number)) is (inl none) = absurd (not_unread text _ number is.2 none)
normal_once signature canon text (gives form) (refuses (bad_term number)) is (inr is') =
    absurd (not_answered_and_refused is.1 is'.1 (term_reads_once signature text is.0 is'.0 _ _ is.2 is'.2 is.3 is'.3))
normal_once signature canon text (refuses bad_command) (gives form) is is' =
    absurd (counted text (is'.0 ∷ []) is.0 1 is'.2 is.1 refl is.2)
normal_once signature canon text (refuses bad_command) (refuses bad_command) is is' = refl
normal_once signature canon text (refuses bad_command) (refuses (bad_term number)) is (inl none) =
    absurd (not_unread text _ number is.1 none)
normal_once signature canon text (refuses bad_command) (refuses (bad_term number)) is (inr is') =
    absurd (counted text (is'.0 ∷ []) is.0 1 is'.2 is.1 refl is.2)
normal_once signature canon text (refuses (bad_term number)) (gives form) (inl none) is' = absurd (not_unread text _ number is'.2 none)
normal_once signature canon text (refuses (bad_term number)) (gives form) (inr is) is' =
    absurd (not_answered_and_refused is'.1 is.1 (term_reads_once signature text is'.0 is.0 _ _ is'.2 is.2 is'.3 is.3))
normal_once signature canon text (refuses (bad_term number)) (refuses bad_command) (inl none) is' =
    absurd (not_unread text _ number is'.1 none)
normal_once signature canon text (refuses (bad_term number)) (refuses bad_command) (inr is) is' =
    absurd (counted text (is.0 ∷ []) is'.0 1 is.2 is'.1 refl is'.2)
normal_once signature canon text (refuses (bad_term number)) (refuses (bad_term number')) (inl none) (inl none') =
    ap (λ it. refuses (bad_term it)) (same_number text number number' none none')
normal_once signature canon text (refuses (bad_term number)) (refuses (bad_term number')) (inl none) (inr is') =
    absurd (not_unread text _ number is'.2 none)
normal_once signature canon text (refuses (bad_term number)) (refuses (bad_term number')) (inr is) (inl none) =
    absurd (not_unread text _ number' is.2 none)
normal_once signature canon text (refuses (bad_term number)) (refuses (bad_term number')) (inr is) (inr is') =
    let same : is.1 ≡ is'.1 =
    refusal_is SortedTerm is.1 is'.1 (term_reads_once signature text is.0 is'.0 _ _ is.2 is'.2 is.3 is'.3) in
    ap (λ it. refuses (bad_term it)) (is.4 ∙ (ap term_number same ∙ sym is'.4))

-- a truth value by what it decides
one_truth : (one other : Bool) {P Q : Type 0} → (IsTrue one ↔ P) → (IsTrue other ↔ Q) → (P → Q) → (Q → P) → one ≡ other
one_truth true true first second there back = refl
one_truth true false first second there back = absurd (let no : false ≡ true = second.1 (there (first.0 refl)) in cc)
one_truth false true first second there back = absurd (let no : false ≡ true = first.1 (back (second.0 refl)) in cc)
one_truth false false first second there back = refl

pub comparison_once : (data_ : Data) (text : List ℕ) (one other : QuestionOutcome Bool) → IsComparison data_ text one
    → IsComparison data_ text other → one ≡ other
comparison_once data_ text (gives equal) (gives equal') is is' =
    let same : is.2 ≡ is'.2 =
    answer_is is.2 is'.2 (pair_reads_one data_.signature text is.0 is.1 is'.0 is'.1 _ _ is.3 is'.3 is.4 is'.4) in
    ap (λ (it : Bool). gives it)
    (one_truth equal equal' is.5 is'.5 (λ eq. subst (λ (it : SortedPair). Equal data_ it.left it.right) same eq)
    (λ eq. subst (λ (it : SortedPair). Equal data_ it.left it.right) (sym same) eq))
comparison_once data_ text (gives equal) (refuses bad_command) is is' =
    absurd (counted text (is.0 ∷ is.1 ∷ []) is'.0 2 is.3 is'.1 refl is'.2)
comparison_once data_ text (gives equal) (refuses (bad_term number)) is (inl none) = absurd (not_unread text _ number is.3 none)
comparison_once data_ text (gives equal) (refuses (bad_term number)) is (inr is') =
    absurd (not_answered_and_refused is.2 is'.2 (pair_reads_one data_.signature text is.0 is.1 is'.0 is'.1 _ _ is.3 is'.3 is.4 is'.4))
comparison_once data_ text (refuses bad_command) (gives equal) is is' =
    absurd (counted text (is'.0 ∷ is'.1 ∷ []) is.0 2 is'.3 is.1 refl is.2)
comparison_once data_ text (refuses bad_command) (refuses bad_command) is is' = refl
comparison_once data_ text (refuses bad_command) (refuses (bad_term number)) is (inl none) = absurd (not_unread text _ number is.1 none)
comparison_once data_ text (refuses bad_command) (refuses (bad_term number)) is (inr is') =
    absurd (counted text (is'.0 ∷ is'.1 ∷ []) is.0 2 is'.3 is.1 refl is.2)
comparison_once data_ text (refuses (bad_term number)) (gives equal) (inl none) is' = absurd (not_unread text _ number is'.3 none)
comparison_once data_ text (refuses (bad_term number)) (gives equal) (inr is) is' =
    absurd (not_answered_and_refused is'.2 is.2 (pair_reads_one data_.signature text is'.0 is'.1 is.0 is.1 _ _ is'.3 is.3 is'.4 is.4))
comparison_once data_ text (refuses (bad_term number)) (refuses bad_command) (inl none) is' =
    absurd (not_unread text _ number is'.1 none)
comparison_once data_ text (refuses (bad_term number)) (refuses bad_command) (inr is) is' =
    absurd (counted text (is.0 ∷ is.1 ∷ []) is'.0 2 is.3 is'.1 refl is'.2)
comparison_once data_ text (refuses (bad_term number)) (refuses (bad_term number')) (inl none) (inl none') =
    ap (λ it. refuses (bad_term it)) (same_number text number number' none none')
comparison_once data_ text (refuses (bad_term number)) (refuses (bad_term number')) (inl none) (inr is') =
    absurd (not_unread text _ number is'.3 none)
comparison_once data_ text (refuses (bad_term number)) (refuses (bad_term number')) (inr is) (inl none) =
    absurd (not_unread text _ number' is.3 none)
comparison_once data_ text (refuses (bad_term number)) (refuses (bad_term number')) (inr is) (inr is') =
    let same : is.2 ≡ is'.2 =
    refusal_is SortedPair is.2 is'.2 (pair_reads_one data_.signature text is.0 is.1 is'.0 is'.1 _ _ is.3 is'.3 is.4 is'.4) in
    ap (λ it. refuses (bad_term it)) (is.5 ∙ (ap term_number same ∙ sym is'.5))
