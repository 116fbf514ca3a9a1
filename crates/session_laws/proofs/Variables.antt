-- The variables of an equation under the names of a flat text: they come into scope as they are printed, and none is hidden.
use Rattle.std.proofs.Common.{◌≡◌, ℕ, zero, suc, ◌+◌, ◌*◌, ◌^◌, ◌<◌, Bool, true, false, List, [], ◌∷◌, length, nat_eq, if◌then◌else◌, refl, ap, sym, ◌∙◌, subst, arith}
use Rattle.std.specs.Prelude.{Some, slice_get}
use Rattle.std.specs.List.{IsDistinct, AllByRecursion, list_any}
use Rattle.std.proofs.lemmas.Bool.{eq-eqb, eqb-true}
use Rattle.std.proofs.lemmas.List.{length-map}
use Rattle.std.proofs.lemmas.Option.{none-some, same_Some, slice_get_within}
use Rattle.lotos_base.proofs.Bytes.{bytes_same}
use Rattle.lotos_base.proofs.Members.{member_at, at_map}
use Rattle.lotos_base.specs.Names.{folded, AreOneName}
use Rattle.lotos_base.specs.Signature.{Signature, Operation, IsOperation}
use Rattle.lotos_base.specs.Equation.{Variable, Equation, IsDeclared}
use Rattle.sort_terms.specs.Reading.{NoneNamed}
use Rattle.sort_terms.specs.ReadingOutcome.{one_name}
use Rattle.printed_texts.specs.TermText.{variable_text}
use Rattle.session_laws.specs.TermMeanings.{VariableMeans}
use Rattle.session_laws.specs.Meanings.{AreInRow}
use Rattle.flat_text.specs.FreeNames.{has_name}
use Rattle.flat_text.specs.EquationNames.{operation_names, equation_names, variables_under_names, renamed_variables}
use Rattle.flat_text.proofs.EquationApart.{equation_names_are_apart}
use Rattle.std.proofs.lemmas.Map.Keys.{any_passes_from_place}

-- ---- Members of lists

later : (z y : List ℕ) (ws : List (List ℕ)) (k : ℕ) → AllByRecursion (λ (w : List ℕ). one_name z w ≡ false) ws
    → slice_get ws k ≡ Some y → one_name z y ≡ false
later z y [] k all at = absurd (none-some y at)
later z y (w ∷ ws) zero all at = ap (λ (name : List ℕ). one_name z name) (sym (same_Some w y at)) ∙ all.0
later z y (w ∷ ws) (suc k) all at = later z y ws k all.1 at

distinct_at : (xs : List (List ℕ)) → IsDistinct one_name xs → (i j : ℕ) (x y : List ℕ) → i < j → slice_get xs i ≡ Some x
    → slice_get xs j ≡ Some y → one_name x y ≡ false
unfolding IsDistinct
distinct_at [] apart i j x y less at there = absurd (none-some x at)
distinct_at (z ∷ zs) apart i zero x y less at there = absurd (omega (arith, less))
distinct_at (z ∷ zs) apart zero (suc j) x y less at there =
    ap (λ (name : List ℕ). one_name name y) (sym (same_Some z x at)) ∙ later z y zs j apart.0 there
distinct_at (z ∷ zs) apart (suc i) (suc j) x y less at there = distinct_at zs apart.1 i j x y (omega (arith, less)) at there

abbrev under : List ℕ → Variable → Variable
under name x = record { name = name; number = x.number; sort = x.sort }

at_named : (names : List (List ℕ)) (xs : List Variable) (i : ℕ) (name : List ℕ) (x : Variable) → slice_get names i ≡ Some name
    → slice_get xs i ≡ Some x → slice_get (variables_under_names names xs) i ≡ Some (under name x)
at_named [] xs i name x at there = absurd (none-some name at)
at_named (m ∷ ms) [] i name x at there = absurd (none-some x there)
at_named (m ∷ ms) (y ∷ ys) zero name x at there =
    ap (λ (o : List ℕ). Some (under o y)) (same_Some m name at) ∙ ap (λ (z : Variable). Some (under name z)) (same_Some y x there)
at_named (m ∷ ms) (y ∷ ys) (suc i) name x at there = at_named ms ys i name x at there

-- where a variable under a name comes from
pub record IsNamedAt (names : List (List ℕ)) (xs : List Variable) (i : ℕ) (v : Variable) : Type 0 where
  pub before : Variable
  pub there : slice_get xs i ≡ Some before
  pub name_there : slice_get names i ≡ Some v.name
  pub number_is : v.number ≡ before.number
  pub sort_is : v.sort ≡ before.sort

pub from_named : (names : List (List ℕ)) (xs : List Variable) (i : ℕ) (v : Variable) → slice_get (variables_under_names names xs) i ≡ Some v
    → IsNamedAt names xs i v
from_named [] xs i v at = absurd (none-some v at)
from_named (m ∷ ms) [] i v at = absurd (none-some v at)
from_named (m ∷ ms) (y ∷ ys) zero v at =
    let is = same_Some (under m y) v at in record {
      before = y;
      there = refl;
      name_there = ap (λ (z : Variable). Some z.name) is;
      number_is = sym (ap (λ (z : Variable). z.number) is);
      sort_is = sym (ap (λ (z : Variable). z.sort) is);
    }
from_named (m ∷ ms) (y ∷ ys) (suc i) v at =
    let rest = from_named ms ys i v at in record {
      before = rest.before;
      there = rest.there;
      name_there = rest.name_there;
      number_is = rest.number_is;
      sort_is = rest.sort_is;
    }

-- ---- Numbers in a row

named_in_row : (names : List (List ℕ)) (xs : List Variable) (next : ℕ) → AreInRow next xs → AreInRow next (variables_under_names names xs)
named_in_row [] xs next row = tt
named_in_row (m ∷ ms) [] next row = tt
named_in_row (m ∷ ms) (y ∷ ys) next row = (row.0, named_in_row ms ys (suc next) row.1)

number_at : (xs : List Variable) (next i : ℕ) (x : Variable) → AreInRow next xs → slice_get xs i ≡ Some x → x.number ≡ next + i
number_at [] next i x row at = absurd (none-some x at)
number_at (y ∷ ys) next zero x row at =
    let is : x.number ≡ y.number = ap (λ (z : Variable). z.number) (sym (same_Some y x at)) in
    let first : y.number ≡ next = row.0 in
    omega (arith, is, first)
number_at (y ∷ ys) next (suc i) x row at =
    let rest : x.number ≡ suc next + i = number_at ys (suc next) i x row.1 at in omega (arith, rest)

-- a variable of the row is looked up by its own number
looked_up : (xs : List Variable) (next i : ℕ) (x : Variable) → AreInRow next xs → slice_get xs i ≡ Some x
    → variable_text xs x.number ≡ x.name
looked_up [] next i x row at = absurd (none-some x at)
looked_up (y ∷ ys) next zero x row at =
    let same : y ≡ x = same_Some y x at in
    let here : nat_eq y.number x.number ≡ true = eq-eqb y.number x.number (ap (λ (z : Variable). z.number) same) in
    ap (λ (b : Bool). if b then y.name else variable_text ys x.number) here ∙ ap (λ (z : Variable). z.name) same
looked_up (y ∷ ys) next (suc i) x row at =
    ap (λ (b : Bool). if b then y.name else variable_text ys x.number) (other (nat_eq y.number x.number) refl)
    ∙ looked_up ys (suc next) i x row.1 at
  where
    other : (b : Bool) → nat_eq y.number x.number ≡ b → b ≡ false
    other false is = refl
    other true is =
        let same : y.number ≡ x.number = eqb-true y.number x.number is in
        let first : y.number ≡ next = row.0 in
        let later : x.number ≡ suc next + i = number_at ys (suc next) i x row.1 at in
        absurd (omega (arith, same, first, later))

-- ---- The variables of an equation

module _ (signature : Signature) (equation : Equation)
    (few : 1 + length equation.variables * suc (length signature.operations) < 2 ^ 64) where
  abbrev printed : List Variable
  printed = renamed_variables signature equation

  abbrev names : List (List ℕ)
  names = equation_names signature (length equation.variables)

  few_names : 1 + length equation.variables * suc (length (operation_names signature)) < 2 ^ 64
  few_names =
      subst (λ (n : ℕ). 1 + length equation.variables * suc n < 2 ^ 64)
      (sym (length-map signature.operations (λ (o : Operation). o.name))) few

  pub printed_in_row : AreInRow 0 equation.variables → AreInRow 0 printed
  printed_in_row row = named_in_row names equation.variables 0 row

  -- no operation has the name of one
  pub names_are_free : (f : ℕ) (o : Operation) → IsOperation signature f o → NoneNamed printed o.name
  names_are_free f o at = λ i v there same.
      let from = from_named names equation.variables i v there in
      let free : has_name (operation_names signature) v.name ≡ false =
      equation_names_are_apart.free signature (length equation.variables) few_names i v.name from.name_there in
      let taken : list_any (one_name v.name) (operation_names signature) ≡ true =
      any_passes_from_place (one_name v.name) (operation_names signature) f o.name
      (at_map (λ (p : Operation). p.name) signature.operations f o at)
      (bytes_same (folded v.name) (folded o.name) same) in
      cc

  last_named : (i : ℕ) (v : Variable) → slice_get printed i ≡ Some v → (j : ℕ) (w : Variable) → i < j → slice_get printed j ≡ Some w
      → ¬ AreOneName w.name v.name
  last_named i v at j w less there same =
      let one = from_named names equation.variables i v at in
      let other = from_named names equation.variables j w there in
      let differ : one_name v.name w.name ≡ false =
      distinct_at names (equation_names_are_apart.apart signature (length equation.variables) few_names) i j v.name w.name less
      one.name_there other.name_there in
      let alike : one_name v.name w.name ≡ true = bytes_same (folded v.name) (folded w.name) (sym same) in
      cc

  -- each declared variable means itself
  pub declared_means : AreInRow 0 equation.variables → (n s : ℕ) → IsDeclared equation n s → VariableMeans printed printed n s
  declared_means row n s declared = record {
    declared = v;
    last = record {
      position = declared.0;
      found = at;
      named = ap folded (sym text);
      last = λ j w less there same. last_named declared.0 v at j w less there (same ∙ ap folded text);
    };
    numbered = declared.3;
    sorted = declared.4;
  }
    where
      name : (m : List ℕ) × (slice_get names declared.0 ≡ Some m)
      name =
          let within : declared.0 < length equation.variables =
          slice_get_within equation.variables declared.0 declared.1 declared.2 in
          let many : length names ≡ length equation.variables = equation_names_are_apart.each signature (length equation.variables) in
          member_at names declared.0 (omega (arith, within, many))

      v : Variable
      v = under name.0 declared.1

      at : slice_get printed declared.0 ≡ Some (under name.0 declared.1)
      at = at_named names equation.variables declared.0 name.0 declared.1 name.1 declared.2

      text : variable_text printed n ≡ name.0
      text =
          ap (λ (m : ℕ). variable_text printed m) (sym declared.3)
          ∙ looked_up printed 0 declared.0 (under name.0 declared.1) (printed_in_row row) at

  -- the sorts of the printed variables are those of the declared ones
  pub printed_sorts : (i : ℕ) (v : Variable) → slice_get printed i ≡ Some v
      → (x : Variable) × (slice_get equation.variables i ≡ Some x) × (v.sort ≡ x.sort)
  printed_sorts i v at =
      let from = from_named names equation.variables i v at in (from.before, from.there, from.sort_is)
