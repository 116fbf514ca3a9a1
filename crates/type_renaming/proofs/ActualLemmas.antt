-- Members of the base that are looked at one after another for their actual ones.
use Rattle.std.proofs.Common.{◌≡◌, ℕ, suc, ◌+◌, Bool, true, List, [], ◌∷◌, ◌++◌, append_assoc, ap, sym, ◌∙◌, subst, arith}
use Rattle.std.specs.Prelude.{Option, Some, None, if◌then◌else◌}
use Rattle.std.proofs.lemmas.List.{append-nil}
use Rattle.type_definitions.specs.TypeFault.{TypeFault, first_fault}
use Rattle.type_definitions.specs.Presentation.{is_marked_number}
use Rattle.type_definitions.specs.Actualisation.{marked_from}
use Rattle.type_renaming.specs.Actuals.{actuals_from, IsActualOf}

-- the first fault of a list is that of its first member that has one
abbrev pub IsFirstOf : {A : Type 0} → (A → Option TypeFault) → (List A → Option TypeFault) → Type 0
IsFirstOf {A = A} one all = (all [] ≡ None) × ((x : A) (xs : List A) → all (x ∷ xs) ≡ first_fault (one x) (all xs))

-- what is so once the rest is still to come, the first of which has this number
pub record Looked {A : Type 0} (all : List A → Option TypeFault) (marks : List ℕ) (actual : A → ℕ) (whole : List A) (i : ℕ) (rest : List A)
    (made : List (Option ℕ)) : Type 0 where
  pub faults : all (marked_from marks i rest) ≡ all (marked_from marks 0 whole)
  pub numbers : made ++ actuals_from marks actual i rest ≡ actuals_from marks actual 0 whole

pub looked_none : {A : Type 0} (all : List A → Option TypeFault) (marks : List ℕ) (actual : A → ℕ) (whole rest : List A)
    (made : List (Option ℕ)) → rest ≡ whole → made ≡ [] → Looked all marks actual whole 0 rest made
looked_none {A = A} all marks actual whole rest made is nothing = record {
  faults = ap (λ (xs : List A). all (marked_from marks 0 xs)) is;
  numbers =
      ap (λ (ns : List (Option ℕ)). ns ++ actuals_from marks actual 0 rest) nothing
      ∙ ap (λ (xs : List A). actuals_from marks actual 0 xs) is;
}

-- a member that is not formal, or has its actual one
fault_gone : {A : Type 0} (one : A → Option TypeFault) (all : List A → Option TypeFault) (marks : List ℕ) (actual : A → ℕ) (i : ℕ) (x : A)
    (later : List A) (found : Option ℕ) → IsFirstOf one all → IsActualOf (is_marked_number marks i) (one x) (actual x) found
    → all (marked_from marks (suc i) later) ≡ all (marked_from marks i (x ∷ later))
fault_gone {A = A} one all marks actual i x later None first is =
    let rest : List A = marked_from marks (suc i) later in
    ap (λ (b : Bool). all (if b then x ∷ rest else rest)) (sym is)
fault_gone {A = A} one all marks actual i x later (Some n) first is =
    let rest : List A = marked_from marks (suc i) later in
    ap (λ (o : Option TypeFault). first_fault o (all rest)) (sym is.1) ∙ sym (first.1 x rest)
    ∙ ap (λ (b : Bool). all (if b then x ∷ rest else rest)) (sym is.0)

number_is : (is_formal : Bool) (fault : Option TypeFault) (actual : ℕ) (found : Option ℕ) → IsActualOf is_formal fault actual found
    → found ≡ (if is_formal then Some actual else None)
number_is is_formal fault actual None is = ap (λ (b : Bool). if b then Some actual else None) (sym is)
number_is is_formal fault actual (Some n) is =
    ap (λ (m : ℕ). Some m) is.2 ∙ ap (λ (b : Bool). if b then Some actual else None) (sym is.0)

pub looked_next : {A : Type 0} (one : A → Option TypeFault) (all : List A → Option TypeFault) (marks : List ℕ) (actual : A → ℕ)
    (whole : List A) (i : ℕ) (rest later : List A) (made new : List (Option ℕ)) (x : A) (found : Option ℕ) → IsFirstOf one all
    → Looked all marks actual whole i rest made → rest ≡ x ∷ later → IsActualOf (is_marked_number marks i) (one x) (actual x) found
    → new ≡ made ++ found ∷ [] → Looked all marks actual whole (i + 1) later new
looked_next {A = A} one all marks actual whole i rest later made new x found first looked next is grown =
    let plus : suc i ≡ i + 1 = omega arith in
    subst (λ (k : ℕ). Looked all marks actual whole k later new) plus (record {
      faults =
          fault_gone one all marks actual i x later found first is
          ∙ ap (λ (xs : List A). all (marked_from marks i xs)) (sym next) ∙ looked.faults;
      numbers =
          ap (λ (ns : List (Option ℕ)). ns ++ actuals_from marks actual (suc i) later) grown
          ∙ append_assoc made (found ∷ []) (actuals_from marks actual (suc i) later)
          ∙ ap (λ (o : Option ℕ). made ++ (o ∷ actuals_from marks actual (suc i) later))
          (number_is (is_marked_number marks i) (one x) (actual x) found is)
          ∙ ap (λ (xs : List A). made ++ actuals_from marks actual i xs) (sym next) ∙ looked.numbers;
    })

-- a formal member without an actual one
pub looked_fault : {A : Type 0} (one : A → Option TypeFault) (all : List A → Option TypeFault) (marks : List ℕ) (actual : A → ℕ)
    (whole : List A) (i : ℕ) (rest later : List A) (made : List (Option ℕ)) (x : A) (fault : TypeFault) → IsFirstOf one all
    → Looked all marks actual whole i rest made → rest ≡ x ∷ later → is_marked_number marks i ≡ true → one x ≡ Some fault
    → all (marked_from marks 0 whole) ≡ Some fault
looked_fault {A = A} one all marks actual whole i rest later made x fault first looked next formal found =
    let behind : List A = marked_from marks (suc i) later in
    sym looked.faults ∙ ap (λ (xs : List A). all (marked_from marks i xs)) next
    ∙ ap (λ (b : Bool). all (if b then x ∷ behind else behind)) formal ∙ first.1 x behind
    ∙ ap (λ (o : Option TypeFault). first_fault o (all behind)) found

-- no member is left
pub looked_all : {A : Type 0} (one : A → Option TypeFault) (all : List A → Option TypeFault) (marks : List ℕ) (actual : A → ℕ)
    (whole : List A) (i : ℕ) (rest : List A) (made : List (Option ℕ)) → IsFirstOf one all → Looked all marks actual whole i rest made
    → rest ≡ [] → (all (marked_from marks 0 whole) ≡ None) × (made ≡ actuals_from marks actual 0 whole)
looked_all {A = A} one all marks actual whole i rest made first looked none = (
  sym looked.faults ∙ ap (λ (xs : List A). all (marked_from marks i xs)) none ∙ first.0,
  sym (append-nil made) ∙ ap (λ (xs : List A). made ++ actuals_from marks actual i xs) (sym none) ∙ looked.numbers,
)
