-- The names that the variables of an equation are given are apart, and no operation has one of them.
use Rattle.std.proofs.Common.{◌≡◌, ◌+◌, ◌*◌, ◌<◌, ◌≤◌, ◌^◌, ℕ, zero, suc, List, length, false, codes, refl, ap, sym, ◌∙◌, arith}
use native.Mathlib.Nat.{suc-mul}
use Rattle.std.specs.Prelude.{Some, slice_get}
use Rattle.std.specs.List.{IsDistinct, AllByRecursion}
use Rattle.std.proofs.lemmas.Option.{same_Some, none-some}
use Rattle.sort_terms.specs.ReadingOutcome.{one_name}
use Rattle.flat_text.specs.FreeNames.{has_name, with_number, least_free}
use Rattle.flat_text.specs.EquationNames.{operation_names, free_names}
use Rattle.flat_text.specs.NameLaws.{EquationNamesAreApart}
use Rattle.flat_text.proofs.NumberedNames.{numbers_apart, least_is_free, least_is_near}

module _ (taken : List (List ℕ)) where
  abbrev free_one : ℕ → ℕ
  free_one number = least_free taken (codes "v") number

  -- so many names from a number on have numbers within bounds, and so have those behind the first
  few_more : (count number : ℕ) → number + suc count * suc (length taken) < 2 ^ 64
      → suc (free_one number) + count * suc (length taken) < 2 ^ 64
  few_more count number few =
      within (count * suc (length taken)) (suc count * suc (length taken)) (suc-mul count (suc (length taken)))
      (least_is_near taken (codes "v") number) few
    where
      within : (rest whole : ℕ) → whole ≡ rest + suc (length taken) → free_one number ≤ number + length taken
          → number + whole < 2 ^ 64 → suc (free_one number) + rest < 2 ^ 64
      within rest whole is near room = omega (arith, is, near, room)

  few_here : (count number : ℕ) → number + suc count * suc (length taken) < 2 ^ 64 → number + suc (length taken) < 2 ^ 64
  few_here count number few =
      within (count * suc (length taken)) (suc count * suc (length taken)) (suc-mul count (suc (length taken))) few
    where
      within : (rest whole : ℕ) → whole ≡ rest + suc (length taken) → number + whole < 2 ^ 64 → number + suc (length taken) < 2 ^ 64
      within rest whole is room = omega (arith, is, room)

  low : (count number : ℕ) → suc (free_one number) + count * suc (length taken) < 2 ^ 64 → free_one number < 2 ^ 64
  low count number few = within (count * suc (length taken)) few
    where
      within : (rest : ℕ) → suc (free_one number) + rest < 2 ^ 64 → free_one number < 2 ^ 64
      within rest room = omega (arith, room)

  -- the names from a number on differ from those with smaller numbers
  behind : (j count number : ℕ) → j < number → number + count * suc (length taken) < 2 ^ 64
      → AllByRecursion (λ (y : List ℕ). one_name (with_number (codes "v") j) y ≡ false) (free_names taken count number)
  behind j zero number less few = tt
  behind j (suc count) number less few =
      let from : number ≤ free_one number = (least_is_free taken (codes "v") number (few_here count number few)).from in
      let rest : suc (free_one number) + count * suc (length taken) < 2 ^ 64 = few_more count number few in (
        numbers_apart (codes "v") j (free_one number) (omega (arith, less, from)) (low count number rest),
        behind j count (suc (free_one number)) (omega (arith, less, from)) rest,
      )

  each_apart : (count number : ℕ) → number + count * suc (length taken) < 2 ^ 64 → IsDistinct one_name (free_names taken count number)
  unfolding IsDistinct
  each_apart zero number few = tt
  each_apart (suc count) number few = (
    behind (free_one number) count (suc (free_one number)) (omega arith) (few_more count number few),
    each_apart count (suc (free_one number)) (few_more count number few),
  )

  each_free : (count number : ℕ) → number + count * suc (length taken) < 2 ^ 64 → (i : ℕ) (name : List ℕ)
      → slice_get (free_names taken count number) i ≡ Some name → has_name taken name ≡ false
  each_free zero number few i name at = absurd (none-some name at)
  each_free (suc count) number few zero name at =
      ap (has_name taken) (sym (same_Some (with_number (codes "v") (free_one number)) name at))
      ∙ (least_is_free taken (codes "v") number (few_here count number few)).free
  each_free (suc count) number few (suc i) name at =
      each_free count (suc (free_one number)) (few_more count number few) i name at

  as_many : (count number : ℕ) → length (free_names taken count number) ≡ count
  as_many zero number = refl
  as_many (suc count) number = ap suc (as_many count (suc (free_one number)))

pub equation_names_are_apart : EquationNamesAreApart
equation_names_are_apart = record {
  each = λ signature count. as_many (operation_names signature) count 1;
  apart = λ signature count few. each_apart (operation_names signature) count 1 few;
  free = λ signature count few i name at. each_free (operation_names signature) count 1 few i name at;
}
