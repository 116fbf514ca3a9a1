-- Reading the words one after another.
use Rattle.std.proofs.Common.{refl, ap, sym, ◌∙◌, ◌≡◌, inl, inr, subst, arith, ℕ, suc, ◌+◌, ◌<◌, ◌≤◌, ◌^◌, zero, List, [], ◌∷◌, ◌++◌, map, length, drop, get_or, append_assoc, append-nil, IsTrue, Bool, true, ◌&&◌, le_trans}
use Rattle.std.specs.Prelude.{nat_le, String, string_bytes, IsErrAnd, Result, Ok, Err, MatchResult}
use Rattle.std.proofs.Math.ListN.{drop_of_length-le}
use Rattle.std.proofs.lemmas.Bool.{and_parts, leb-true}
use Rattle.std.specs.declared.alloc.Global.{Global}
use Rattle.lotos_base.proofs.Pieces.{next_member}
use Rattle.lotos_base.specs.WrittenTerm.{WrittenTerm}
use Rattle.lotos_grammar.specs.HandedOn.{IsTermsReading}
use Rattle.refusal_lines.specs.Refusal.{Refusal}
use Rattle.refusal_lines.specs.declared.start_words.TheConstants.{WORDS_TEXT}
use Rattle.refusal_lines.specs.declared.faults.StartFault.{StartFault}
use Rattle.refusal_lines.specs.declared.faults.StartFault.TheVariants.{Refused, NoMemory}
use Rattle.refusal_lines.specs.StartValues.{WordTerm, of_word, HaveTerms, IsWordFault, HaveWordFault}
use Rattle.refusal_lines.specs.StartView.{FailsAs}
use Rattle.refusal_lines.specs.WordLimits.{words_limit, word_bytes_limit, words_of, total_length, are_within}

-- ---- Limits

bounded_total : (words : List (List ℕ)) → IsTrue (are_within words) → total_length words ≤ word_bytes_limit
bounded_total words within =
    leb-true (total_length words) word_bytes_limit
    (and_parts (nat_le (length words) words_limit) (nat_le (total_length words) word_bytes_limit) within).1

no_longer : (words : List (String Global)) (i : ℕ) (word : String Global) → i < length words → word ≡ get_or words i word
    → length (string_bytes word) ≤ total_length (words_of words)
no_longer [] i word within is = absurd (omega (arith, within))
no_longer (first ∷ words) zero word within is =
    let same : length (string_bytes word) ≡ length (string_bytes first) = ap (λ (w : String Global). length (string_bytes w)) is in
    omega (arith, same)
no_longer (first ∷ words) (suc i) word within is =
    let rest : length (string_bytes word) ≤ total_length (words_of words) = no_longer words i word (omega (arith, within)) is in
    omega (arith, rest)

-- each word is short
pub short_word : (words : List (String Global)) (i : ℕ) (word : String Global) (bytes : List ℕ) → IsTrue (are_within (words_of words))
    → i < length words → word ≡ get_or words i word → bytes ≡ string_bytes word → length bytes + 1 < 2 ^ 32
short_word words i word bytes within inside is same =
    let long : length bytes ≡ length (string_bytes word) = ap (λ (b : List ℕ). length b) same in
    let own : length (string_bytes word) ≤ word_bytes_limit =
    le_trans (no_longer words i word inside is) (bounded_total (words_of words) within) in
    omega (arith, long, own)

-- ---- One after another

-- The words are read up to those that are left, the first of which has the number: what is left comes to what all of them do.
pub record ReadSoFar (words : List (List ℕ)) (number : ℕ) (left : List (List ℕ)) (terms : List WordTerm) : Type 0 where
  pub fine : (others : List WordTerm) → HaveTerms number left others → HaveTerms 1 words (terms ++ others)
  pub faulty : (refusal : Refusal) → HaveWordFault number left refusal → HaveWordFault 1 words refusal

pub one_read : (words : List (List ℕ)) (number : ℕ) (word : List ℕ) (left : List (List ℕ)) (own : List WrittenTerm)
    (terms more : List WordTerm) → ReadSoFar words number (word ∷ left) terms → IsTermsReading WORDS_TEXT word own
    → more ≡ terms ++ map (of_word number) own → ReadSoFar words (number + 1) left more
one_read words number word left own terms more so_far is same = record {
  fine = λ others have.
      subst (λ (ts : List WordTerm). HaveTerms 1 words ts)
      (sym (ap (λ (ts : List WordTerm). ts ++ others) same ∙ append_assoc terms (map (of_word number) own) others))
      (so_far.fine (map (of_word number) own ++ others) (own, others, is, have, refl));
  faulty = λ refusal not. so_far.faulty refusal (inr (own, is, not));
}

pub all_read : (words : List (List ℕ)) (number : ℕ) (terms : List WordTerm) → ReadSoFar words number [] terms
    → HaveTerms 1 words terms
all_read words number terms so_far =
    subst (λ (ts : List WordTerm). HaveTerms 1 words ts) (append-nil terms) (so_far.fine [] refl)

pub one_misread : (words : List (List ℕ)) (number : ℕ) (word : List ℕ) (left : List (List ℕ)) (terms : List WordTerm)
    (fault : StartFault) → ReadSoFar words number (word ∷ left) terms → FailsAs (IsWordFault number word) fault
    → FailsAs (HaveWordFault 1 words) fault
one_misread words number word left terms (Refused found) so_far is = (is.0, so_far.faulty is.0 (inl is.1), is.2)
one_misread words number word left terms NoMemory so_far is = tt

-- the words that are left behind an index
abbrev pub left_at : ℕ → List (String Global) → List (List ℕ)
left_at index words = words_of (drop index words)

pub next_left : (words : List (String Global)) (index : ℕ) (word : String Global) → index < length words → word ≡ get_or words index word
    → left_at index words ≡ string_bytes word ∷ left_at (index + 1) words
next_left words index word within is = ap (λ (ws : List (String Global)). words_of ws) (next_member words index word within is)

pub none_left : (words : List (String Global)) (index : ℕ) → length words ≤ index → left_at index words ≡ []
none_left words index past = ap (λ (ws : List (String Global)). words_of ws) (drop_of_length-le words past)

pub words_whole : (words : List (String Global)) (index : ℕ) (terms : List WordTerm) → length words ≤ index
    → ReadSoFar (words_of words) (index + 1) (left_at index words) terms → HaveTerms 1 (words_of words) terms
words_whole words index terms past so_far =
    all_read (words_of words) (index + 1) terms
    (subst (λ (ws : List (List ℕ)). ReadSoFar (words_of words) (index + 1) ws terms) (none_left words index past) so_far)

abbrev Left : List (String Global) → ℕ → List WordTerm → Type 0
Left words index terms = ReadSoFar (words_of words) (index + 1) (left_at index words) terms

word_left : (words : List (String Global)) (index : ℕ) (word : String Global) (bytes : List ℕ) (terms : List WordTerm)
    → index < length words → word ≡ get_or words index word → bytes ≡ string_bytes word → Left words index terms
    → ReadSoFar (words_of words) (index + 1) (bytes ∷ left_at (index + 1) words) terms
word_left words index word bytes terms within is same so_far =
    subst (λ (ws : List (List ℕ)). ReadSoFar (words_of words) (index + 1) ws terms)
    (next_left words index word within is ∙ ap (λ (b : List ℕ). b ∷ left_at (index + 1) words) (sym same)) so_far

pub next_read : (words : List (String Global)) (index : ℕ) (word : String Global) (bytes : List ℕ) (terms more : List WordTerm)
    → index < length words → word ≡ get_or words index word → bytes ≡ string_bytes word → Left words index terms
    → (own : List WrittenTerm) × IsTermsReading WORDS_TEXT bytes own × (more ≡ terms ++ map (of_word (index + 1)) own)
    → Left words (index + 1) more
next_read words index word bytes terms more within is same so_far read =
    one_read (words_of words) (index + 1) bytes (left_at (index + 1) words) read.0 terms more
    (word_left words index word bytes terms within is same so_far) read.1 read.2

pub next_misread : (words : List (String Global)) (index : ℕ) (word : String Global) (bytes : List ℕ) (terms : List WordTerm)
    (fault : StartFault) → index < length words → word ≡ get_or words index word → bytes ≡ string_bytes word → Left words index terms
    → FailsAs (IsWordFault (index + 1) bytes) fault → FailsAs (HaveWordFault 1 (words_of words)) fault
next_misread words index word bytes terms fault within is same so_far not =
    one_misread (words_of words) (index + 1) bytes (left_at (index + 1) words) terms fault
    (word_left words index word bytes terms within is same so_far) not

-- a fault that is handed on
pub err_out : {T : Type 0} (answer : Result T StartFault) (fault : StartFault) (P : T → Type 0) (Q : StartFault → Type 0)
    → IsErrAnd answer (λ (e : StartFault). e ≡ fault) → Q fault → MatchResult answer P Q
err_out (Ok x) fault P Q is q = absurd is
err_out (Err e) fault P Q is q = subst Q (sym is) q
