-- The equations of the base come to the actual types, into which its sorts and operations were brought.
use Rattle.std.proofs.Common.{◌≡◌, ℕ, List, map, ap, sym, ◌∙◌, subst}
use Rattle.std.proofs.Math.Path.{fun_ext}
use Rattle.lotos_base.specs.Signature.{Signature, Sort, Operation}
use Rattle.lotos_base.specs.Equation.{Equation, IsWellFormedData}
use Rattle.sort_terms.specs.SortedView.{profiled_in}
use Rattle.type_definitions.specs.Images.{equation_image}
use Rattle.type_definitions.specs.ProfiledImage.{number_in}
use Rattle.type_definitions.proofs.ImageLemmas.{image_of_signature, keeps_profiles}
use Rattle.type_definitions.specs.Presentation.{Presentation as PlainPresentation, is_same_equation, with_new}
use Rattle.type_definitions.specs.Flattened.{flattened_data_of}
use Rattle.type_definitions.specs.Actualisation.{Actualising, actualisation, actualised_sort, actualised_sorts, actualised_operation, actualised_operations, actualised_equations}
use Rattle.type_presentations.specs.OperationListView.{HasOperationKeys, operations_in}
use Rattle.type_presentations.specs.SortListView.{HasSortKeys, sorts_in}
use Rattle.type_presentations.specs.EquationListView.{AllKeepProfiles, HasEquationKeys, HaveSidesOf, ImagesAreOf, equations_in}
use Rattle.type_presentations.specs.MarksView.{IsKnown, marks_in}
use Rattle.type_presentations.specs.PresentationView.{IsSound, presentation_of}
use Rattle.type_presentations.specs.declared.presentations.Presentation.{Presentation}
use Rattle.type_presentations.proofs.SignatureLemmas.{sides_of_larger}
use Rattle.type_actualisation.proofs.MapLemmas.{base_goes, actual_is_within}
use Rattle.type_actualisation.proofs.DataLemmas.{actualised_data}
use Rattle.type_actualisation.specs.Brought.{IsBrought}

-- ---- The maps of the code's lists are those of the actualisation.

base_sides : (a : Actualising) (base p : Presentation) (sorts operations : List ℕ) → IsBrought a base p sorts operations
    → HaveSidesOf a.base.presentation.signature base.equations.equations.items
base_sides a base p sorts operations is =
    subst (λ (q : PlainPresentation). HaveSidesOf q.signature base.equations.equations.items) (sym is.base_is) is.base_sound.sides

pub keep : (a : Actualising) (base p : Presentation) (sorts operations : List ℕ) → IsBrought a base p sorts operations
    → AllKeepProfiles (number_in sorts) (number_in operations) (operations_in p.ops) base.equations.equations.items
keep a base p sorts operations is =
    subst (λ (h : ℕ → ℕ). AllKeepProfiles h (number_in operations) (operations_in p.ops) base.equations.equations.items)
    (sym (fun_ext is.sorts_go))
    (subst (λ (h : ℕ → ℕ). AllKeepProfiles (actualised_sort a) h (operations_in p.ops) base.equations.equations.items)
    (sym (fun_ext is.operations_go))
    (subst
    (λ (os : List Operation). AllKeepProfiles (actualised_sort a) (actualised_operation a) os base.equations.equations.items)
    (sym is.operations_are) each))
  where
    each : AllKeepProfiles (actualised_sort a) (actualised_operation a) (actualised_operations a) base.equations.equations.items
    each i e found =
        let sides = base_sides a base p sorts operations is i e found in (
          keeps_profiles a.base.presentation.signature (actualisation a).signature (actualised_sort a) (actualised_operation a)
              (profiled_in e.left) (base_goes a is.has) sides.0,
          keeps_profiles a.base.presentation.signature (actualisation a).signature (actualised_sort a) (actualised_operation a)
              (profiled_in e.right) (base_goes a is.has) sides.1,
        )

images : (a : Actualising) (base p : Presentation) (sorts operations : List ℕ) → IsBrought a base p sorts operations
    → ImagesAreOf (number_in sorts) (number_in operations) (operations_in p.ops) (actualisation a).signature base.equations.equations.items
images a base p sorts operations is =
    subst
    (λ (h : ℕ → ℕ).
    ImagesAreOf h (number_in operations) (operations_in p.ops) (actualisation a).signature base.equations.equations.items)
    (sym (fun_ext is.sorts_go))
    (subst
    (λ (h : ℕ → ℕ).
    ImagesAreOf (actualised_sort a) h (operations_in p.ops) (actualisation a).signature base.equations.equations.items)
    (sym (fun_ext is.operations_go))
    (subst
    (λ (os : List Operation).
    ImagesAreOf (actualised_sort a) (actualised_operation a) os (actualisation a).signature base.equations.equations.items)
    (sym is.operations_are) each))
  where
    each : ImagesAreOf (actualised_sort a) (actualised_operation a) (actualised_operations a) (actualisation a).signature
        base.equations.equations.items
    each i e found =
        let sides = base_sides a base p sorts operations is i e found in (
          image_of_signature a.base.presentation.signature (actualisation a).signature (actualised_sort a) (actualised_operation a)
              (profiled_in e.left) (base_goes a is.has) sides.0,
          image_of_signature a.base.presentation.signature (actualisation a).signature (actualised_sort a) (actualised_operation a)
              (profiled_in e.right) (base_goes a is.has) sides.1,
        )

-- ---- The presentation.

abbrev parts : List Sort → List Operation → List Equation → List ℕ → List ℕ → PlainPresentation
parts sorts operations equations formal_sorts formal_operations = record {
  signature = record { sorts = sorts; operations = operations };
  equations = equations;
  formal_sorts = formal_sorts;
  formal_operations = formal_operations;
}

-- the equations are those of the actualisation
equations_come : (a : Actualising) (base p : Presentation) (sorts operations : List ℕ) (new : List Equation)
    → IsBrought a base p sorts operations
    → new ≡ with_new is_same_equation (equations_in p.equations)
    (map (equation_image (number_in sorts) (number_in operations)) (equations_in base.equations))
    → new ≡ actualised_equations a
equations_come a base p sorts operations new is came =
    came
    ∙ ap
    (λ (h : ℕ → ℕ).
    with_new is_same_equation (equations_in p.equations) (map (equation_image h (number_in operations)) (equations_in base.equations)))
    (fun_ext is.sorts_go)
    ∙ ap
    (λ (h : ℕ → ℕ).
    with_new is_same_equation (equations_in p.equations) (map (equation_image (actualised_sort a) h) (equations_in base.equations)))
    (fun_ext is.operations_go)
    ∙ ap
    (λ (es : List Equation).
    with_new is_same_equation es (map (equation_image (actualised_sort a) (actualised_operation a)) (equations_in base.equations)))
    is.equations_are
    ∙ ap
    (λ (q : PlainPresentation).
    with_new is_same_equation a.actual.equations (map (equation_image (actualised_sort a) (actualised_operation a)) q.equations))
    (sym is.base_is)

pub comes_to : (a : Actualising) (base p new : Presentation) (sorts operations : List ℕ) → IsBrought a base p sorts operations
    → new.sorts ≡ p.sorts → new.ops ≡ p.ops → new.formal_sorts ≡ p.formal_sorts → new.formal_ops ≡ p.formal_ops
    → equations_in new.equations
    ≡ with_new is_same_equation (equations_in p.equations)
    (map (equation_image (number_in sorts) (number_in operations)) (equations_in base.equations))
    → presentation_of new ≡ actualisation a
comes_to a base p new sorts operations is same_sorts same_ops same_marks same_op_marks came =
    ap (λ (xs : List Sort). parts xs (operations_in new.ops) (equations_in new.equations) (marks_in new.formal_sorts)
    (marks_in new.formal_ops))
    (ap (λ l. sorts_in l) same_sorts ∙ is.sorts_are)
    ∙ ap (λ (xs : List Operation). parts (actualised_sorts a) xs (equations_in new.equations) (marks_in new.formal_sorts)
    (marks_in new.formal_ops))
    (ap (λ l. operations_in l) same_ops ∙ is.operations_are)
    ∙ ap (λ (xs : List Equation). parts (actualised_sorts a) (actualised_operations a) xs (marks_in new.formal_sorts)
    (marks_in new.formal_ops))
    (equations_come a base p sorts operations (equations_in new.equations) is came)
    ∙ ap (λ (xs : List ℕ). parts (actualised_sorts a) (actualised_operations a) (actualised_equations a) xs (marks_in new.formal_ops))
    (ap (λ m. marks_in m) same_marks ∙ is.formal_sorts_are)
    ∙ ap (λ (xs : List ℕ). parts (actualised_sorts a) (actualised_operations a) (actualised_equations a) a.actual.formal_sorts xs)
    (ap (λ m. marks_in m) same_op_marks ∙ is.formal_operations_are)

-- ---- It is sound.

data_come : (a : Actualising) (base p : Presentation) (sorts operations : List ℕ) → IsBrought a base p sorts operations
    → IsWellFormedData (flattened_data_of (actualisation a))
data_come a base p sorts operations is =
    actualised_data a is.has
    (subst (λ (q : PlainPresentation). IsWellFormedData (flattened_data_of q)) (sym is.base_is) is.base_sound.data_) is.actual_data
    is.sorts_differ
    is.operations_differ

-- what becomes of the sides
abbrev pub SidesStay : Presentation → Presentation → Presentation → List ℕ → List ℕ → Type 0
SidesStay base p new sorts operations = (signature : Signature) → HaveSidesOf signature p.equations.equations.items
    → ImagesAreOf (number_in sorts) (number_in operations) (operations_in p.ops) signature base.equations.equations.items
    → HaveSidesOf signature new.equations.equations.items

pub sound_then : (a : Actualising) (base p new : Presentation) (sorts operations : List ℕ) → IsBrought a base p sorts operations
    → new.sorts ≡ p.sorts → new.ops ≡ p.ops → new.formal_sorts ≡ p.formal_sorts → new.formal_ops ≡ p.formal_ops
    → HasEquationKeys new.equations → presentation_of new ≡ actualisation a → SidesStay base p new sorts operations → IsSound new
sound_then a base p new sorts operations is same_sorts same_ops same_marks same_op_marks keyed comes stay = record {
  sorts = subst (λ l. HasSortKeys l) (sym same_sorts) is.keyed.sorts;
  ops = subst (λ l. HasOperationKeys l) (sym same_ops) is.keyed.ops;
  equations = keyed;
  formal_sorts = subst (λ m. IsKnown m) (sym same_marks) is.keyed.formal_sorts;
  formal_ops = subst (λ m. IsKnown m) (sym same_op_marks) is.keyed.formal_ops;
  sides =
      subst (λ (q : PlainPresentation). HaveSidesOf q.signature new.equations.equations.items) (sym comes)
      (stay (actualisation a).signature
      (sides_of_larger a.actual.signature (actualisation a).signature p.equations.equations.items (actual_is_within a) is.sides)
      (images a base p sorts operations is));
  data_ = subst (λ (q : PlainPresentation). IsWellFormedData (flattened_data_of q)) (sym comes) (data_come a base p sorts operations is);
}
