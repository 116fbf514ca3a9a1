-- The names that processes are given are apart.
use Rattle.std.proofs.Common.{◌≡◌, ◌+◌, ◌<◌, ◌^◌, ℕ, suc, List, [], ◌∷◌, ◌++◌, length, Bool, true, false, if◌then◌else◌, codes, refl, ap, ◌∙◌, arith}
use Rattle.std.specs.List.{IsDistinct, AllByRecursion}
use Rattle.std.proofs.lemmas.Bool.{or_left, or_right, or_parts}
use Rattle.sort_terms.specs.ReadingOutcome.{one_name}
use Rattle.flat_text.specs.FreeNames.{has_name}
use Rattle.flat_text.specs.GivenNames.{numbered_name, given_name, given_behind}
use Rattle.flat_text.specs.NameLaws.{GivenNamesAreApart}
use Rattle.flat_text.proofs.NumberedNames.{self_same, turned, not_taken, least_is_free}

numbered_free : (taken : List (List ℕ)) (name : List ℕ) → 3 + length taken < 2 ^ 64 → has_name taken (numbered_name taken name) ≡ false
numbered_free taken name few = (least_is_free taken (name ++ codes "_") 2 (omega (arith, few))).free

-- so many names, and one less to give
few_more : (taken names : List (List ℕ)) (one name : List ℕ) → 3 + (length taken + length (name ∷ names)) < 2 ^ 64
    → 3 + (length (one ∷ taken) + length names) < 2 ^ 64
few_more taken names one name few =
    let now : 3 + (length taken + suc (length names)) < 2 ^ 64 = few in
    let next : 3 + (suc (length taken) + length names) < 2 ^ 64 = omega (arith, now) in
    next

few_taken : (taken names : List (List ℕ)) → 3 + (length taken + length names) < 2 ^ 64 → 3 + length taken < 2 ^ 64
few_taken taken names few = omega (arith, few)

-- A taken name is not given any more, if none of the names still to come that no earlier one has is this one.
later : (one : List ℕ) (earlier taken names : List (List ℕ)) → 3 + (length taken + length names) < 2 ^ 64
    → has_name taken one ≡ true
    → ((n : List ℕ) → has_name names n ≡ true → has_name earlier n ≡ false → one_name one n ≡ false)
    → AllByRecursion (λ (y : List ℕ). one_name one y ≡ false) (given_behind earlier taken names)
later one earlier taken [] few there differ = tt
later one earlier taken (name ∷ names) few there differ = (
  head (has_name earlier name) refl,
  later one (name ∷ earlier) (given_name earlier taken name ∷ taken) names
      (few_more taken names (given_name earlier taken name) name few)
      (or_right (one_name one (given_name earlier taken name)) (has_name taken one) there)
      (λ n among unknown.
      differ n (or_right (one_name n name) (has_name names n) among) (or_parts (one_name n name) (has_name earlier n) unknown).1),
)
  where
    head : (b : Bool) → has_name earlier name ≡ b → one_name one (if b then numbered_name taken name else name) ≡ false
    head false is = differ name (or_left (one_name name name) (has_name names name) (self_same name)) is
    head true is = not_taken taken one (numbered_name taken name) there (numbered_free taken name (few_taken taken (name ∷ names) few))

given_apart : (earlier taken names : List (List ℕ)) → 3 + (length taken + length names) < 2 ^ 64
    → ((n : List ℕ) → has_name names n ≡ true → has_name taken n ≡ true) → IsDistinct one_name (given_behind earlier taken names)
unfolding IsDistinct
given_apart earlier taken [] few known = tt
given_apart earlier taken (name ∷ names) few known = (
  later (given_name earlier taken name) (name ∷ earlier) (given_name earlier taken name ∷ taken) names
      (few_more taken names (given_name earlier taken name) name few)
      (or_left (one_name (given_name earlier taken name) (given_name earlier taken name)) (has_name taken (given_name earlier taken name))
      (self_same (given_name earlier taken name)))
      (differ (has_name earlier name) refl),
  given_apart (name ∷ earlier) (given_name earlier taken name ∷ taken) names
      (few_more taken names (given_name earlier taken name) name few)
      (λ n among.
      or_right (one_name n (given_name earlier taken name)) (has_name taken n)
      (known n (or_right (one_name n name) (has_name names n) among))),
)
  where
    differ : (b : Bool) → has_name earlier name ≡ b → (n : List ℕ) → has_name names n ≡ true → has_name (name ∷ earlier) n ≡ false
        → one_name (if b then numbered_name taken name else name) n ≡ false
    differ false is n among unknown = turned name n ∙ (or_parts (one_name n name) (has_name earlier n) unknown).0
    differ true is n among unknown =
        turned (numbered_name taken name) n
        ∙ not_taken taken n (numbered_name taken name) (known n (or_right (one_name n name) (has_name names n) among))
        (numbered_free taken name (few_taken taken (name ∷ names) few))

pub each_given : (earlier taken names : List (List ℕ)) → length (given_behind earlier taken names) ≡ length names
each_given earlier taken [] = refl
each_given earlier taken (name ∷ names) =
    ap suc (each_given (name ∷ earlier) (given_name earlier taken name ∷ taken) names)

pub given_names_are_apart : GivenNamesAreApart
given_names_are_apart = record {
  each = λ names. each_given [] names names;
  apart = λ names few. given_apart [] names names few (λ n among. among);
}
