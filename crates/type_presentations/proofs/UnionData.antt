-- The data of a union are well formed, and its equations carry its profiles.
use Rattle.std.proofs.Common.{◌≡◌, ℕ, true, List, inl, inr, map, sym, subst}
use Rattle.std.proofs.Math.Path.{fun_ext}
use Rattle.lotos_base.specs.Signature.{Operation}
use Rattle.lotos_base.specs.Equation.{Equation, IsEquationOver, IsWellFormedData}
use Rattle.sort_terms.specs.SortedView.{profiled_in}
use Rattle.sort_terms.specs.WellFormedTest.{all_differ, are_one_sort, are_one_operation}
use Rattle.sort_terms.specs.declared.equations.Equation.{Equation as CodeEquation}
use Rattle.type_definitions.specs.Images.{equation_image}
use Rattle.type_definitions.specs.ProfiledImage.{number_in}
use Rattle.type_definitions.proofs.ImageLemmas.{image_of_signature, keeps_profiles}
use Rattle.type_definitions.specs.Presentation.{Presentation}
use Rattle.type_definitions.specs.Flattened.{flattened_data_of}
use Rattle.type_definitions.specs.Union.{joined_presentation, joined_sort, joined_operation}
use Rattle.type_definitions.proofs.WithNewLemmas.{first_appearances}
use Rattle.type_presentations.specs.EquationListView.{AllKeepProfiles, HaveSidesOf, ImagesAreOf}
use Rattle.type_presentations.proofs.EquationImageLemmas.{image_over}
use Rattle.type_presentations.proofs.SignatureLemmas.{over_larger}
use Rattle.type_presentations.proofs.UnionSignatures.{union_is_larger, union_maps, image_in, union_well_formed}

-- ---- Well-formed data.

pub union_data : (p q : Presentation) → IsWellFormedData (flattened_data_of p) → IsWellFormedData (flattened_data_of q)
    → all_differ are_one_sort (joined_presentation p q).signature.sorts ≡ true
    → all_differ are_one_operation (joined_presentation p q).signature.operations ≡ true
    → IsWellFormedData (flattened_data_of (joined_presentation p q))
union_data p q one other sorts operations = record {
  signature = union_well_formed p q one.signature other.signature sorts operations;
  equations = λ e at.
      elim (first_appearances.equations.adds_nothing p.equations
      (map (equation_image (joined_sort p q) (joined_operation p q)) q.equations) e at) [
        | inl first ↦
            over_larger p.signature (joined_presentation p q).signature e (union_is_larger p q) (one.equations e first)
        | inr coming ↦
            (let before = image_in (equation_image (joined_sort p q) (joined_operation p q)) q.equations e coming in
            subst (λ (x : Equation). IsEquationOver (joined_presentation p q).signature x) before.2
            (image_over q.signature (joined_presentation p q).signature (joined_sort p q) (joined_operation p q) before.0 (union_maps p q)
            (other.equations before.0 before.1)))
      ];
}

-- ---- Sides.

all_keep : (p q : Presentation) (es : List CodeEquation) → HaveSidesOf q.signature es
    → AllKeepProfiles (joined_sort p q) (joined_operation p q) (joined_presentation p q).signature.operations es
all_keep p q es have i e found =
    let sides = have i e found in (
      keeps_profiles q.signature (joined_presentation p q).signature (joined_sort p q) (joined_operation p q) (profiled_in e.left)
          (union_maps p q) sides.0,
      keeps_profiles q.signature (joined_presentation p q).signature (joined_sort p q) (joined_operation p q) (profiled_in e.right)
          (union_maps p q) sides.1,
    )

all_images : (p q : Presentation) (es : List CodeEquation) → HaveSidesOf q.signature es
    → ImagesAreOf (joined_sort p q) (joined_operation p q) (joined_presentation p q).signature.operations
    (joined_presentation p q).signature es
all_images p q es have i e found =
    let sides = have i e found in (
      image_of_signature q.signature (joined_presentation p q).signature (joined_sort p q) (joined_operation p q) (profiled_in e.left)
          (union_maps p q) sides.0,
      image_of_signature q.signature (joined_presentation p q).signature (joined_sort p q) (joined_operation p q) (profiled_in e.right)
          (union_maps p q) sides.1,
    )

-- ---- What the code's lists of new numbers say.

-- they are the maps of the union, and these are its operations
pub record AreMapsOfUnion (p q : Presentation) (sorts operations : List ℕ) (profiles : List Operation) : Type 0 where
  pub sorts_are : (n : ℕ) → number_in sorts n ≡ joined_sort p q n
  pub operations_are : (n : ℕ) → number_in operations n ≡ joined_operation p q n
  pub profiles_are : profiles ≡ (joined_presentation p q).signature.operations

pub keep_by_lists : (p q : Presentation) (sorts operations : List ℕ) (profiles : List Operation) (es : List CodeEquation)
    → AreMapsOfUnion p q sorts operations profiles → HaveSidesOf q.signature es
    → AllKeepProfiles (number_in sorts) (number_in operations) profiles es
keep_by_lists p q sorts operations profiles es maps have =
    let f : number_in sorts ≡ joined_sort p q = fun_ext maps.sorts_are in
    let g : number_in operations ≡ joined_operation p q = fun_ext maps.operations_are in
    subst (λ (h : ℕ → ℕ). AllKeepProfiles h (number_in operations) profiles es) (sym f)
    (subst (λ (h : ℕ → ℕ). AllKeepProfiles (joined_sort p q) h profiles es) (sym g)
    (subst (λ (os : List Operation). AllKeepProfiles (joined_sort p q) (joined_operation p q) os es) (sym maps.profiles_are)
    (all_keep p q es have)))

pub images_by_lists : (p q : Presentation) (sorts operations : List ℕ) (profiles : List Operation) (es : List CodeEquation)
    → AreMapsOfUnion p q sorts operations profiles → HaveSidesOf q.signature es
    → ImagesAreOf (number_in sorts) (number_in operations) profiles (joined_presentation p q).signature es
images_by_lists p q sorts operations profiles es maps have =
    let f : number_in sorts ≡ joined_sort p q = fun_ext maps.sorts_are in
    let g : number_in operations ≡ joined_operation p q = fun_ext maps.operations_are in
    subst (λ (h : ℕ → ℕ). ImagesAreOf h (number_in operations) profiles (joined_presentation p q).signature es) (sym f)
    (subst (λ (h : ℕ → ℕ). ImagesAreOf (joined_sort p q) h profiles (joined_presentation p q).signature es) (sym g)
    (subst (λ (os : List Operation). ImagesAreOf (joined_sort p q) (joined_operation p q) os (joined_presentation p q).signature es)
    (sym maps.profiles_are) (all_images p q es have)))
