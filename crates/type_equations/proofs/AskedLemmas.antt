-- Questions one after another, and variables that come into scope one after another.
use Rattle.std.proofs.Common.{◌≡◌, ℕ, zero, suc, ◌+◌, ◌<◌, true, false, List, [], ◌∷◌, ◌++◌, map, length, take, drop, get_or, append_assoc, refl, ap, sym, ◌∙◌, subst, arith}
use Rattle.std.specs.Prelude.{Some, slice_get}
use Rattle.std.proofs.lemmas.List.{map-append, length-append, take-append-drop}
use Rattle.std.proofs.lemmas.Option.{none-some, same_Some}
use Rattle.lotos_base.proofs.Pieces.{take_whole}
use Rattle.lotos_base.specs.Name.{spelling}
use Rattle.lotos_base.specs.WrittenView.{text_place_of}
use Rattle.lotos_base.specs.Signature.{Sort, IsSort}
use Rattle.syntax_trees.specs.TreeViews.{written_variable_of as written_of, written_variables_of}
use Rattle.syntax_trees.specs.declared.named.VarText.{VarText}
use Rattle.sort_terms.specs.EquationView.{variable_of}
use Rattle.sort_terms.specs.declared.equations.Variable.{Variable as CodeVariable}
use Rattle.sort_terms.specs.ReadingOutcome.{one_name, is_sort_name}
use Rattle.type_definitions.proofs.WalkLemmas.{next_of, so_far}
use Rattle.syntax_trees.specs.WrittenVariable.{WrittenVariable}
use Rattle.lotos_base.specs.Equation.{Variable}
use Rattle.type_definitions.specs.TypeFault.{TypeFault, unknown_sort}
use Rattle.type_definitions.specs.Presentation.{Presentation}
use Rattle.type_definitions.specs.Declarations.{sort_numbered}
use Rattle.type_definitions.specs.DeclaredEquations.{EquationQuestion, sort_asked, asked_of_variables, sort_is_there, sort_is_unknown, GiveAll, none_asked, next_gives, HasFirstFault, at_once, further_on, scope_from}
use Rattle.type_definitions.proofs.WithNewLemmas.{position_within}

pub give_append : (p q r : Presentation) (xs ys : List EquationQuestion) → GiveAll p xs q → GiveAll q ys r → GiveAll p (xs ++ ys) r
give_append p q r [] ys (none_asked _) later = later
give_append p q r (a ∷ xs) ys (next_gives _ s _ _ _ one rest) later =
    next_gives p s r a (xs ++ ys) one (give_append s q r xs ys rest later)

pub fault_later : (type_name : List ℕ) (p q : Presentation) (xs ys : List EquationQuestion) (fault : TypeFault) → GiveAll p xs q
    → HasFirstFault type_name q ys fault → HasFirstFault type_name p (xs ++ ys) fault
fault_later type_name p q [] ys fault (none_asked _) later = later
fault_later type_name p q (a ∷ xs) ys fault (next_gives _ s _ _ _ one rest) later =
    further_on p s a (xs ++ ys) fault one (fault_later type_name s q xs ys fault rest later)

-- ---- Variables.

pub scope_append : (p : Presentation) (first : ℕ) (xs ys : List WrittenVariable)
    → scope_from p first (xs ++ ys) ≡ scope_from p first xs ++ scope_from p (first + length xs) ys
scope_append p first [] ys =
    let at : first ≡ first + 0 = omega arith in ap (λ (n : ℕ). scope_from p n ys) at
scope_append p first (x ∷ xs) ys =
    let at : suc first + length xs ≡ first + suc (length xs) = omega arith in
    let one : Variable = record { name = x.name; number = first; sort = sort_numbered p x.sort } in
    ap (λ (vs : List Variable). one ∷ vs)
    (scope_append p (suc first) xs ys ∙ ap (λ (n : ℕ). scope_from p (suc first) xs ++ scope_from p n ys) at)

-- the questions of variables, one by one
abbrev asked_for : WrittenVariable → EquationQuestion
asked_for v = sort_asked v.sort_place v.sort

-- one variable more, whose sort is there
pub given_more : (p : Presentation) (xs : List VarText) (i : ℕ) (x : VarText) → i < length xs → x ≡ get_or xs i x
    → GiveAll p (asked_of_variables (written_variables_of (take i xs))) p → is_sort_name p.signature (spelling x.sort) ≡ true
    → GiveAll p (asked_of_variables (written_variables_of (take (i + 1) xs))) p
given_more p xs i x within is before there =
    subst (λ (asked : List EquationQuestion). GiveAll p asked p) (sym more)
    (give_append p p p (asked_of_variables (written_variables_of (take i xs))) (asked_for (written_of x) ∷ []) before
    (next_gives p p p (asked_for (written_of x)) [] (sort_is_there (text_place_of x.sort_place) (spelling x.sort) there) (none_asked p)))
  where
    more : asked_of_variables (written_variables_of (take (i + 1) xs))
        ≡ asked_of_variables (written_variables_of (take i xs)) ++ asked_for (written_of x) ∷ []
    more =
        ap (λ (vs : List WrittenVariable). asked_of_variables vs) (so_far written_of xs i x within is)
        ∙ map-append asked_for (written_variables_of (take i xs)) (written_of x ∷ [])

-- one variable more, whose sort is none
pub faulty_here : (type_name : List ℕ) (p : Presentation) (xs : List VarText) (i : ℕ) (x : VarText) → i < length xs → x ≡ get_or xs i x
    → GiveAll p (asked_of_variables (written_variables_of (take i xs))) p → is_sort_name p.signature (spelling x.sort) ≡ false
    → HasFirstFault type_name p (asked_of_variables (written_variables_of xs))
    (unknown_sort (text_place_of x.sort_place) (Some (spelling x.sort)))
faulty_here type_name p xs i x within is before none =
    subst (λ (asked : List EquationQuestion). HasFirstFault type_name p asked
    (unknown_sort (text_place_of x.sort_place) (Some (spelling x.sort))))
    (sym take_whole)
    (fault_later type_name p p (asked_of_variables (written_variables_of (take i xs)))
    (asked_for (written_of x) ∷ asked_of_variables (written_variables_of (drop (i + 1) xs)))
    (unknown_sort (text_place_of x.sort_place) (Some (spelling x.sort))) before
    (at_once p (asked_for (written_of x)) (asked_of_variables (written_variables_of (drop (i + 1) xs)))
    (unknown_sort (text_place_of x.sort_place) (Some (spelling x.sort)))
    (sort_is_unknown (text_place_of x.sort_place) (spelling x.sort) none)))
  where
    take_whole : asked_of_variables (written_variables_of xs)
        ≡ asked_of_variables (written_variables_of (take i xs)) ++ asked_for (written_of x)
        ∷ asked_of_variables (written_variables_of (drop (i + 1) xs))
    take_whole =
        ap (λ (ys : List VarText). asked_of_variables (written_variables_of ys)) (sym (take-append-drop i xs))
        ∙ ap (λ (vs : List WrittenVariable). asked_of_variables vs) (map-append written_of (take i xs) (drop i xs))
        ∙ map-append asked_for (written_variables_of (take i xs)) (written_variables_of (drop i xs))
        ∙ ap (λ (vs : List WrittenVariable). asked_of_variables (written_variables_of (take i xs)) ++ asked_of_variables vs)
        (next_of written_of xs i x within is)

pub as_many : (p : Presentation) (first : ℕ) (vs : List WrittenVariable) → length (scope_from p first vs) ≡ length vs
as_many p first [] = refl
as_many p first (v ∷ vs) = ap (λ (n : ℕ). suc n) (as_many p (suc first) vs)

-- a variable comes into scope
pub scope_more : (p : Presentation) (xs : List VarText) (i : ℕ) (x : VarText) (old now new : List Variable) (start number : ℕ)
    (v : Variable)
    → i < length xs → x ≡ get_or xs i x → now ≡ old ++ scope_from p start (written_variables_of (take i xs))
    → start ≡ length old → number ≡ length now → new ≡ now ++ v ∷ []
    → v ≡ record { name = spelling x.name; number = number; sort = sort_numbered p (spelling x.sort) }
    → new ≡ old ++ scope_from p start (written_variables_of (take (i + 1) xs))
scope_more p xs i x old now new start number v within at is from count grown made =
    grown ∙ ap (λ (u : Variable). now ++ u ∷ []) (made ∙ ap row numbered)
    ∙ ap (λ (ys : List Variable). ys ++ row place ∷ []) is
    ∙ append_assoc old (scope_from p start (written_variables_of (take i xs))) (row place ∷ [])
    ∙ ap (λ (ys : List Variable). old ++ ys) (sym step)
  where
    place : ℕ
    place = start + length (written_variables_of (take i xs))

    row : ℕ → Variable
    row n = record { name = spelling x.name; number = n; sort = sort_numbered p (spelling x.sort) }

    numbered : number ≡ place
    numbered =
        count ∙ ap (λ (ys : List Variable). length ys) is ∙ length-append old (scope_from p start (written_variables_of (take i xs)))
        ∙ ap (λ (n : ℕ). length old + n) (as_many p start (written_variables_of (take i xs)))
        ∙ ap (λ (n : ℕ). n + length (written_variables_of (take i xs))) (sym from)

    step : scope_from p start (written_variables_of (take (i + 1) xs)) ≡ scope_from p start (written_variables_of (take i xs))
        ++ row place ∷ []
    step =
        ap (λ (vs : List WrittenVariable). scope_from p start vs) (so_far written_of xs i x within at)
        ∙ scope_append p start (written_variables_of (take i xs)) (written_of x ∷ [])

pub sorts_there : (p : Presentation) (first : ℕ) (vs : List WrittenVariable) → GiveAll p (asked_of_variables vs) p
    → (i : ℕ) (v : Variable) → slice_get (scope_from p first vs) i ≡ Some v → IsSort p.signature v.sort
sorts_there p first [] given i v found = absurd (none-some v found)
sorts_there p first (w ∷ ws) (next_gives _ _ _ _ _ (sort_is_there _ _ there) rest) zero v found =
    subst (λ (x : Variable). IsSort p.signature x.sort) (same_Some _ _ found)
    (position_within (λ (s : Sort). one_name s.name w.sort) p.signature.sorts there)
sorts_there p first (w ∷ ws) (next_gives _ _ _ _ _ (sort_is_there _ _ there) rest) (suc i) v found =
    sorts_there p (suc first) ws rest i v found

-- variables behind those of a section
pub scope_behind : (p : Presentation) (section variables : List WrittenVariable) (before : List Variable) (count : ℕ) (all : List Variable)
    → before ≡ scope_from p 0 section → count ≡ length before → all ≡ before ++ scope_from p count variables
    → all ≡ scope_from p 0 (section ++ variables)
scope_behind p section variables before count all is counted grown =
    let from : count ≡ 0 + length section = counted ∙ ap (λ (vs : List Variable). length vs) is ∙ as_many p 0 section ∙ omega arith in
    grown ∙ ap (λ (vs : List Variable). vs ++ scope_from p count variables) is
    ∙ ap (λ (n : ℕ). scope_from p 0 section ++ scope_from p n variables) from ∙ sym (scope_append p 0 section variables)

pub pushed_view : (old new : List CodeVariable) (x : CodeVariable) → new ≡ old ++ x ∷ []
    → map variable_of new ≡ map variable_of old ++ variable_of x ∷ []
pushed_view old new x grown = ap (λ (vs : List CodeVariable). map variable_of vs) grown ∙ map-append variable_of old (x ∷ [])

pub give_both : (p : Presentation) (xs ys : List WrittenVariable) → GiveAll p (asked_of_variables xs) p
    → GiveAll p (asked_of_variables ys) p → GiveAll p (asked_of_variables (xs ++ ys)) p
give_both p xs ys one other =
    subst (λ (asked : List EquationQuestion). GiveAll p asked p) (sym (map-append asked_for xs ys))
    (give_append p p p (asked_of_variables xs) (asked_of_variables ys) one other)
