-- Keys of sorts and operations: lists of numbers that are equal exactly where two sorts or operations are, or have one name,
-- or one name, form and profile, or one name, form and argument sorts.
use Rattle.std.specs.Prelude.{◌≡◌, ◌↔◌, ℕ, true, List, ◌∷◌, ◌++◌, length}
use Rattle.lotos_base.specs.Names.{folded}
use Rattle.lotos_base.specs.Signature.{Sort, Operation}
use Rattle.sort_terms.specs.WellFormedTest.{are_one_sort, are_one_operation}
use Rattle.type_definitions.specs.Presentation.{is_same_sort, is_same_operation}
use Rattle.sort_terms.specs.TermCode.{form_number}

-- a sort by its name
abbrev pub name_key : Sort → List ℕ
name_key sort = folded sort.name

-- a sort by its name and origin
abbrev pub sort_key : Sort → List ℕ
sort_key sort = length sort.name ∷ (folded sort.name ++ folded sort.origin)

-- an operation by its name, form and profile
abbrev pub profile_key : Operation → List ℕ
profile_key operation =
    form_number operation.form ∷ operation.result ∷ length operation.arguments
    ∷ (operation.arguments ++ folded operation.name)

-- an operation by its name, form and argument sorts
abbrev pub twin_key : Operation → List ℕ
twin_key operation =
    form_number operation.form ∷ length operation.arguments ∷ (operation.arguments ++ folded operation.name)

-- an operation by name, form, profile and origin
abbrev pub operation_key : Operation → List ℕ
operation_key operation =
    length operation.name ∷ form_number operation.form ∷ operation.result ∷ length operation.arguments
    ∷ (operation.arguments ++ (folded operation.name ++ folded operation.origin))

-- What equal keys say.
pub record KeysTell : Type 0 where
  pub names : (s t : Sort) → (name_key s ≡ name_key t) ↔ (are_one_sort s t ≡ true)
  pub sorts : (s t : Sort) → (sort_key s ≡ sort_key t) ↔ (is_same_sort s t ≡ true)
  pub profiles : (o p : Operation) → (profile_key o ≡ profile_key p) ↔ (are_one_operation o p ≡ true)
  pub operations : (o p : Operation) → (operation_key o ≡ operation_key p) ↔ (is_same_operation o p ≡ true)
