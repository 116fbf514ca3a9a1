-- The names `v1`, `v2` and so on are words.
use Rattle.std.proofs.Common.{◌≡◌, ℕ, zero, suc, Bool, true, false, List, [], ◌∷◌, length, decimal, codes, if◌then◌else◌, refl, ap, sym, ◌∙◌, subst, arith, nat_eq}
use Rattle.std.specs.Prelude.{Some, slice_get}
use Rattle.std.proofs.lemmas.Option.{none-some, same_Some}
use Rattle.std.proofs.lemmas.Bool.{eq-eqb}
use Rattle.lotos_base.specs.Signature.{Signature}
use Rattle.lotos_base.specs.Equation.{Variable, Equation, IsDeclared}
use Rattle.behaviour_semantics.specs.WellFormed.{Every}
use Rattle.printed_texts.specs.TermText.{variable_text}
use Rattle.session_laws.specs.TextNames.{IsWordSpelling}
use Rattle.flat_text.specs.FreeNames.{with_number, least_free}
use Rattle.flat_text.specs.EquationNames.{operation_names, free_names, equation_names, variables_under_names, renamed_variables}
use Rattle.flat_text.proofs.EquationApart.{equation_names_are_apart}
use Rattle.session_laws.specs.BehaviourTextLaws.{IsVariableNamed}
use Rattle.session_laws.proofs.GivenWords.{decimal_digits, digits_long}

pub number_is_word : (number : ℕ) → IsWordSpelling (with_number (codes "v") number)
number_is_word number = record {
  begins = refl;
  whole = ap suc (digits_long (decimal number) (decimal_digits number).digits_are);
  not_reserved = refl;
}

-- ---- The variables of an equation

names_are_words : (taken : List (List ℕ)) (count number : ℕ) → Every IsWordSpelling (free_names taken count number)
names_are_words taken zero number = tt
names_are_words taken (suc count) number =
    (number_is_word (least_free taken (codes "v") number), names_are_words taken count (suc (least_free taken (codes "v") number)))

named_by_words : (names : List (List ℕ)) (xs : List Variable) → Every IsWordSpelling names
    → Every IsVariableNamed (variables_under_names names xs)
named_by_words [] xs all = tt
named_by_words (name ∷ names) [] all = tt
named_by_words (name ∷ names) (x ∷ xs) all = (all.0, named_by_words names xs all.1)

number_there : (names : List (List ℕ)) (xs : List Variable) (i : ℕ) (x : Variable) → length names ≡ length xs
    → slice_get xs i ≡ Some x → (y : Variable) × (slice_get (variables_under_names names xs) i ≡ Some y) × (y.number ≡ x.number)
number_there [] [] i x same at = absurd (none-some x at)
number_there [] (y ∷ ys) i x same at = absurd (omega (arith, same))
number_there (name ∷ names) [] i x same at = absurd (none-some x at)
number_there (name ∷ names) (y ∷ ys) zero x same at =
    (record { name = name; number = y.number; sort = y.sort }, refl, ap (λ (z : Variable). z.number) (same_Some y x at))
number_there (name ∷ names) (y ∷ ys) (suc i) x same at = number_there names ys i x (let s = same in omega (arith, s)) at

-- a variable whose number is there is printed by a word
printed_by_word : (xs : List Variable) (n i : ℕ) (x : Variable) → Every IsVariableNamed xs → slice_get xs i ≡ Some x → x.number ≡ n
    → IsWordSpelling (variable_text xs n)
printed_by_word [] n i x all at numbered = absurd (none-some x at)
printed_by_word (y ∷ ys) n zero x all at numbered =
    let same : y.number ≡ n = ap (λ (z : Variable). z.number) (same_Some y x at) ∙ numbered in
    subst (λ (b : Bool). IsWordSpelling (if b then y.name else variable_text ys n)) (sym (eq-eqb y.number n same)) all.0
printed_by_word (y ∷ ys) n (suc i) x all at numbered =
    by (nat_eq y.number n) (printed_by_word ys n i x all.1 at numbered)
  where
    by : (b : Bool) → IsWordSpelling (variable_text ys n) → IsWordSpelling (if b then y.name else variable_text ys n)
    by true later = all.0
    by false later = later

module _ (signature : Signature) (equation : Equation) where
  pub renamed_are_words : Every IsVariableNamed (renamed_variables signature equation)
  renamed_are_words =
      named_by_words (equation_names signature (length equation.variables)) equation.variables
      (names_are_words (operation_names signature) (length equation.variables) 1)

  pub declared_is_word : (n s : ℕ) → IsDeclared equation n s → IsWordSpelling (variable_text (renamed_variables signature equation) n)
  declared_is_word n s declared =
      let names : List (List ℕ) = equation_names signature (length equation.variables) in
      let there =
      number_there names equation.variables declared.0 declared.1
      (equation_names_are_apart.each signature (length equation.variables)) declared.2 in
      printed_by_word (renamed_variables signature equation) n declared.0 there.0 renamed_are_words there.1 (there.2 ∙ declared.3)
