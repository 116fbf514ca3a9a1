-- What the names of flat texts obey: the least free number is free, the names of processes are apart, and the names of an
-- equation's variables are apart and no names of operations.
use Rattle.std.specs.Prelude.{◌≡◌, ◌+◌, ◌*◌, ◌<◌, ◌≤◌, ◌^◌, ℕ, suc, List, true, false, length, Some, slice_get}
use Rattle.std.specs.List.{IsDistinct}
use Rattle.lotos_base.specs.Signature.{Signature}
use Rattle.sort_terms.specs.ReadingOutcome.{one_name}
use Rattle.flat_text.specs.FreeNames.{has_name, with_number, least_free}
use Rattle.flat_text.specs.GivenNames.{given_names}
use Rattle.flat_text.specs.EquationNames.{operation_names, equation_names}

-- The number is the least, from another one on, that gives the word a name that is not taken.
pub record IsLeastFree (taken : List (List ℕ)) (word : List ℕ) (number found : ℕ) : Type 0 where
  pub from : number ≤ found
  pub free : has_name taken (with_number word found) ≡ false
  pub least : (k : ℕ) → number ≤ k → k < found → has_name taken (with_number word k) ≡ true

-- It is found, as long as numbers stay below 2^64.
abbrev pub LeastFreeNumbersAreFound : Type 0
LeastFreeNumbersAreFound = (taken : List (List ℕ)) (word : List ℕ) (number : ℕ)
    → number + suc (length taken) < 2 ^ 64
    → IsLeastFree taken word number (least_free taken word number)

-- Each process is given a name, and no two of them are given one name.
pub record GivenNamesAreApart : Type 0 where
  pub each : (names : List (List ℕ)) → length (given_names names) ≡ length names
  pub apart : (names : List (List ℕ)) → 3 + (length names + length names) < 2 ^ 64 → IsDistinct one_name (given_names names)

-- There are as many names as are asked for, no two of them are one name, and no operation has one of them.
pub record EquationNamesAreApart : Type 0 where
  pub each : (signature : Signature) (count : ℕ) → length (equation_names signature count) ≡ count
  pub apart : (signature : Signature) (count : ℕ)
      → 1 + count * suc (length (operation_names signature)) < 2 ^ 64
      → IsDistinct one_name (equation_names signature count)
  pub free : (signature : Signature) (count : ℕ)
      → 1 + count * suc (length (operation_names signature)) < 2 ^ 64
      → (i : ℕ) (name : List ℕ) → slice_get (equation_names signature count) i ≡ Some name
      → has_name (operation_names signature) name ≡ false
