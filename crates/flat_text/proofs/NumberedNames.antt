-- Names made by a number behind a word: different numbers make different names, and of more such names than are taken one is free.
use Rattle.std.proofs.Common.{◌≡◌, ◌+◌, ◌<◌, ◌≤◌, ◌^◌, ◌%◌, ◌/◌, ℕ, zero, suc, List, [], ◌∷◌, ◌++◌, length, Bool, true, false, nat_lt, ◌==◌, if◌then◌else◌, decimal, refl, ap, sym, ◌∙◌, inl, inr, arith, lt-ltb, mod-lt}
use Rattle.std.specs.Char.{to_ascii_lowercase}
use Rattle.std.specs.Cmp.{IsEquivalence}
use Rattle.std.specs.Fmt.{digits, digits_onto, digit_glyph}
use Rattle.std.specs.List.{list_any, IsDistinct, AllByRecursion}
use Rattle.std.specs.Str.{bytes_eq}
use Rattle.std.proofs.lemmas.Bool.{false≢true, true≢false, or_cases, false_from_ne_true}
use Rattle.std.proofs.lemmas.Fmt.{decimal_injective}
use Rattle.std.proofs.lemmas.List.{append_cancel_left, map-append}
use Rattle.std.proofs.lemmas.Map.Made.{length-le_from_is_member}
use Rattle.std.proofs.lemmas.Str.Ascii.{lowercase_is}
use Rattle.lotos_base.specs.Names.{folded}
use Rattle.std.specs.Prelude.{◌⊎◌}
use Rattle.lotos_base.proofs.Bytes.{same_bytes, bytes_same, bytes_turned}
use Rattle.lotos_base.proofs.Numbers.{split_last}
use Rattle.sort_terms.specs.ReadingOutcome.{one_name}
use Rattle.flat_text.specs.FreeNames.{has_name, with_number, free_number, least_free}
use Rattle.flat_text.specs.NameLaws.{IsLeastFree}

-- ---- Names that are one.

pub self_same : (x : List ℕ) → one_name x x ≡ true
self_same x = bytes_same (folded x) (folded x) refl

pub turned : (x y : List ℕ) → one_name x y ≡ one_name y x
turned x y = bytes_turned (folded x) (folded y)

alike_both : (x y z : List ℕ) → one_name x y ≡ true → one_name x z ≡ one_name y z
alike_both x y z same = ap (λ (f : List ℕ). bytes_eq f (folded z)) (same_bytes (folded x) (folded y) same)

pub names_equivalence : IsEquivalence one_name
names_equivalence = record { refl = self_same; symm = turned; congr = alike_both }

pub alike : (names : List (List ℕ)) (x y : List ℕ) → one_name x y ≡ true → has_name names x ≡ has_name names y
alike names x y same =
    ap (λ (f : List ℕ). list_any (λ (n : List ℕ). bytes_eq f (folded n)) names) (same_bytes (folded x) (folded y) same)

-- a name that is taken is none that is not
pub not_taken : (taken : List (List ℕ)) (one other : List ℕ) → has_name taken one ≡ true → has_name taken other ≡ false
    → one_name one other ≡ false
not_taken taken one other there none =
    false_from_ne_true (one_name one other) (λ same. true≢false (sym there ∙ alike taken one other same ∙ none))

-- ---- Digits have no capital letters.

glyph_low : (digit : ℕ) → digit < 10 → to_ascii_lowercase (digit_glyph false digit) ≡ digit_glyph false digit
glyph_low digit small = by (nat_lt digit 10) (lt-ltb digit 10 small)
  where
    by : (b : Bool) → b ≡ true → to_ascii_lowercase (if b then 48 + digit else 87 + digit) ≡ (if b then 48 + digit else 87 + digit)
    by true is = (lowercase_is (48 + digit)).1 (omega (arith, small))
    by false is = absurd (cc is)

digits_low : (count n : ℕ) (more : List ℕ) → folded more ≡ more
    → folded (digits_onto count 10 false n more) ≡ digits_onto count 10 false n more
digits_low zero n more low = low
digits_low (suc count) n more low = by (n / 10 == 0) (digits_low count (n / 10) (digit_glyph false (n % 10) ∷ more) here)
  where
    here : folded (digit_glyph false (n % 10) ∷ more) ≡ digit_glyph false (n % 10) ∷ more
    here =
        ap (λ (d : ℕ). d ∷ folded more) (glyph_low (n % 10) (mod-lt n (omega arith)))
        ∙ ap (λ (ds : List ℕ). digit_glyph false (n % 10) ∷ ds) low

    by : (b : Bool) → folded (digits_onto count 10 false (n / 10) (digit_glyph false (n % 10) ∷ more))
        ≡ digits_onto count 10 false (n / 10) (digit_glyph false (n % 10) ∷ more)
        → folded (if b then digit_glyph false (n % 10) ∷ more else digits_onto count 10 false (n / 10) (digit_glyph false (n % 10) ∷ more))
        ≡ (if b then digit_glyph false (n % 10) ∷ more else digits_onto count 10 false (n / 10) (digit_glyph false (n % 10) ∷ more))
    by true rest = here
    by false rest = rest

decimal_low : (n : ℕ) → folded (decimal n) ≡ decimal n
unfolding digits
decimal_low n = digits_low 64 n [] refl

-- ---- Different numbers make different names.

pub number_told : (word : List ℕ) (j k : ℕ) → j < 2 ^ 64 → k < 2 ^ 64 → one_name (with_number word j) (with_number word k) ≡ true
    → j ≡ k
number_told word j k low high same =
    let folds : folded (with_number word j) ≡ folded (with_number word k) =
    same_bytes (folded (with_number word j)) (folded (with_number word k)) same in
    let joined : folded word ++ folded (decimal j) ≡ folded word ++ folded (decimal k) =
    sym (map-append to_ascii_lowercase word (decimal j)) ∙ folds ∙ map-append to_ascii_lowercase word (decimal k) in
    decimal_injective j k low high
    (sym (decimal_low j) ∙ append_cancel_left (folded word) (folded (decimal j)) (folded (decimal k)) joined ∙ decimal_low k)

pub numbers_apart : (word : List ℕ) (j k : ℕ) → j < k → k < 2 ^ 64 → one_name (with_number word j) (with_number word k) ≡ false
numbers_apart word j k less few =
    false_from_ne_true (one_name (with_number word j) (with_number word k))
    (λ same. let e : j ≡ k = number_told word j k (omega (arith, less, few)) few same in absurd (omega (arith, less, e)))

-- ---- So many names, from a number on.

abbrev candidates : List ℕ → ℕ → ℕ → List (List ℕ)
candidates word number zero = []
candidates word number (suc many) = with_number word number ∷ candidates word (suc number) many

as_many : (word : List ℕ) (number many : ℕ) → length (candidates word number many) ≡ many
as_many word number zero = refl
as_many word number (suc many) = ap suc (as_many word (suc number) many)

behind : (word : List ℕ) (j number many : ℕ) → j < number → number + many < 2 ^ 64
    → AllByRecursion (λ (y : List ℕ). one_name (with_number word j) y ≡ false) (candidates word number many)
behind word j number zero less few = tt
behind word j number (suc many) less few =
    (numbers_apart word j number less (omega (arith, few)), behind word j (suc number) many (omega (arith, less)) (omega (arith, few)))

each_apart : (word : List ℕ) (number many : ℕ) → number + many < 2 ^ 64 → IsDistinct one_name (candidates word number many)
unfolding IsDistinct
each_apart word number zero few = tt
each_apart word number (suc many) few =
    (behind word number (suc number) many (omega arith) (omega (arith, few)), each_apart word (suc number) many (omega (arith, few)))

all_taken : (taken : List (List ℕ)) (word : List ℕ) (number many : ℕ)
    → ((k : ℕ) → number ≤ k → k < number + many → has_name taken (with_number word k) ≡ true)
    → (q : List ℕ) → has_name (candidates word number many) q ≡ true → has_name taken q ≡ true
all_taken taken word number zero each q h = absurd (false≢true h)
all_taken taken word number (suc many) each q h =
    elim (or_cases (one_name q (with_number word number)) (has_name (candidates word (suc number) many) q) h) [
      | inl same ↦ alike taken q (with_number word number) same ∙ each number (omega arith) (omega arith)
      | inr later ↦ all_taken taken word (suc number) many
          (λ k low high. each k (omega (arith, low)) (omega (arith, high))) q later
    ]

-- So many taken names with numbers in a row are no more than there are taken names.
pub enough : (taken : List (List ℕ)) (word : List ℕ) (number many : ℕ) → number + many < 2 ^ 64
    → ((k : ℕ) → number ≤ k → k < number + many → has_name taken (with_number word k) ≡ true) → many ≤ length taken
enough taken word number many few each =
    let within : length (candidates word number many) ≤ length taken =
    length-le_from_is_member names_equivalence (candidates word number many) taken (each_apart word number many few)
    (all_taken taken word number many each) in
    omega (arith, within, as_many word number many)

-- ---- The search for a free one.

record Searched (taken : List (List ℕ)) (word : List ℕ) (tries number found : ℕ) : Type 0 where
  from : number ≤ found
  near : found ≤ number + tries
  least : (k : ℕ) → number ≤ k → k < found → has_name taken (with_number word k) ≡ true
  free : found < number + tries → has_name taken (with_number word found) ≡ false

taken_from : (taken : List (List ℕ)) (word : List ℕ) (number found : ℕ) → has_name taken (with_number word number) ≡ true
    → ((k : ℕ) → suc number ≤ k → k < found → has_name taken (with_number word k) ≡ true)
    → (k : ℕ) → number ≤ k → k < found → has_name taken (with_number word k) ≡ true
taken_from taken word number found is rest k low high = by (split_last number k (omega (arith, low)))
  where
    by : (number < k) ⊎ (number ≡ k) → has_name taken (with_number word k) ≡ true
    by (inl less) = rest k (omega (arith, less)) high
    by (inr same) = ap (λ (n : ℕ). has_name taken (with_number word n)) (sym same) ∙ is

searched : (taken : List (List ℕ)) (word : List ℕ) (tries number : ℕ)
    → Searched taken word tries number (free_number taken word tries number)
searched taken word zero number = record {
  from = omega arith;
  near = omega arith;
  least = λ k low high. absurd (omega (arith, low, high));
  free = λ less. absurd (omega (arith, less));
}
searched taken word (suc tries) number =
    by (has_name taken (with_number word number)) refl (searched taken word tries (suc number))
  where
    by : (b : Bool) → has_name taken (with_number word number) ≡ b
        → Searched taken word tries (suc number) (free_number taken word tries (suc number))
        → Searched taken word (suc tries) number (if b then free_number taken word tries (suc number) else number)
    by false is rest = record {
      from = omega arith;
      near = omega arith;
      least = λ k low high. absurd (omega (arith, low, high));
      free = λ less. is;
    }
    by true is rest = record {
      from = omega (arith, rest.from);
      near = omega (arith, rest.near);
      least = λ k low high. taken_from taken word number (free_number taken word tries (suc number)) is rest.least k low high;
      free = λ less. rest.free (omega (arith, less));
    }

-- If all numbers are taken, the one behind them is free.
last_is_free : (taken : List (List ℕ)) (word : List ℕ) (number found : ℕ) → number + suc (length taken) < 2 ^ 64
    → Searched taken word (length taken) number found → has_name taken (with_number word found) ≡ true → ⊥
last_is_free taken word number found few searched is = by (split_last found (number + length taken) (omega (arith, searched.near)))
  where
    each : found ≡ number + length taken → (k : ℕ) → number ≤ k → k < number + suc (length taken)
        → (k < found) ⊎ (k ≡ found) → has_name taken (with_number word k) ≡ true
    each end k low high (inl less) = searched.least k low less
    each end k low high (inr same) = ap (λ (n : ℕ). has_name taken (with_number word n)) same ∙ is

    by : (found < number + length taken) ⊎ (found ≡ number + length taken) → ⊥
    by (inl less) = true≢false (sym is ∙ searched.free less)
    by (inr end) =
        let many : suc (length taken) ≤ length taken =
        enough taken word number (suc (length taken)) few
        (λ k low high. each end k low high (split_last k found (omega (arith, high, end)))) in
        absurd (omega (arith, many))

pub least_is_free : (taken : List (List ℕ)) (word : List ℕ) (number : ℕ) → number + suc (length taken) < 2 ^ 64
    → IsLeastFree taken word number (least_free taken word number)
least_is_free taken word number few =
    let found : Searched taken word (length taken) number (least_free taken word number) =
    searched taken word (length taken) number in
    record {
      from = found.from;
      free = false_from_ne_true (has_name taken (with_number word (least_free taken word number)))
          (last_is_free taken word number (least_free taken word number) few found);
      least = found.least;
    }

-- it is no further away than there are taken names
pub least_is_near : (taken : List (List ℕ)) (word : List ℕ) (number : ℕ)
    → least_free taken word number ≤ number + length taken
least_is_near taken word number = (searched taken word (length taken) number).near
