-- What the calls that join the parts leave.
use Rattle.std.proofs.Common.{◌≡◌, ℕ, Bool, List, map, ap, sym, ◌∙◌, subst}
use Rattle.std.proofs.Math.Path.{fun_ext}
use Rattle.std.specs.Prelude.{◌&&◌, not, slice_get}
use Rattle.lotos_base.specs.Signature.{Sort, Operation, IsWellFormedSignature}
use Rattle.lotos_base.specs.Equation.{IsWellFormedData}
use Rattle.sort_terms.specs.WellFormedTest.{all_differ, are_one_sort, are_one_operation}
use Rattle.type_definitions.specs.Images.{operation_image}
use Rattle.type_definitions.specs.ProfiledImage.{number_in}
use Rattle.type_definitions.specs.Presentation.{Presentation, has_sort_clash, has_operation_clash, with_new, is_same_operation}
use Rattle.type_definitions.specs.Union.{joined_presentation, joined_sorts, joined_sort, joined_operations, sort_place_in, operation_place_in}
use Rattle.type_definitions.specs.Flattened.{flattened_data_of}
use Rattle.type_presentations.specs.SortListView.{HasSortKeys}
use Rattle.type_presentations.specs.OperationListView.{HasOperationKeys}
use Rattle.type_presentations.specs.EquationListView.{HasEquationKeys, HaveSidesOf}
use Rattle.type_presentations.specs.MarksView.{IsKnown}
use Rattle.type_presentations.specs.PresentationView.{presentation_of, IsSound}
use Rattle.type_presentations.specs.declared.presentations.Presentation.{Presentation as CodePresentation}
use Rattle.type_presentations.proofs.SignatureLemmas.{sorts_differ, operations_differ}
use Rattle.type_presentations.proofs.UnionData.{AreMapsOfUnion}
use Rattle.type_presentations.proofs.UnionLemmas.{operations_joined, sort_clash_told, operation_clash_told}

-- ---- The signature.

pub maps_of_union : (p q : Presentation) (sorts operations : List ℕ) (new_sorts : List Sort) (new : List Operation)
    → new_sorts ≡ joined_sorts p q → ((n : ℕ) → number_in sorts n ≡ sort_place_in new_sorts (slice_get q.signature.sorts n))
    → new ≡ with_new is_same_operation p.signature.operations (map (operation_image (number_in sorts)) q.signature.operations)
    → ((n : ℕ) → number_in operations n
    ≡ operation_place_in new (slice_get (map (operation_image (number_in sorts)) q.signature.operations) n))
    → AreMapsOfUnion p q sorts operations new
maps_of_union p q sorts operations new_sorts new these numbered those counted =
    let sorts_are : (n : ℕ) → number_in sorts n ≡ joined_sort p q n =
    λ n. numbered n ∙ ap (λ (ss : List Sort). sort_place_in ss (slice_get q.signature.sorts n)) these in
    let profiles_are : new ≡ joined_operations p q = operations_joined p q sorts new sorts_are those in
    let one : number_in sorts ≡ joined_sort p q = fun_ext sorts_are in record {
      sorts_are = sorts_are;
      operations_are = λ n.
          counted n
          ∙ ap (λ (h : ℕ → ℕ). operation_place_in new (slice_get (map (operation_image h) q.signature.operations) n)) one
          ∙ ap (λ (os : List Operation).
          operation_place_in os (slice_get (map (operation_image (joined_sort p q)) q.signature.operations) n)) profiles_are;
      profiles_are = profiles_are;
    }

-- ---- Clashes.

pub sorts_clash : (p q : Presentation) (new : List Sort) (clash : Bool) → IsWellFormedSignature p.signature
    → new ≡ joined_sorts p q → all_differ are_one_sort new ≡ (not clash && all_differ are_one_sort p.signature.sorts)
    → has_sort_clash (joined_presentation p q) ≡ clash
sorts_clash p q new clash fine these told =
    sort_clash_told (joined_presentation p q) (all_differ are_one_sort p.signature.sorts) clash
    (ap (λ (ss : List Sort). all_differ are_one_sort ss) (sym these) ∙ told) (sorts_differ p.signature fine)

pub operations_clash : (p q : Presentation) (new : List Operation) (clash : Bool) → IsWellFormedSignature p.signature
    → new ≡ joined_operations p q
    → all_differ are_one_operation new ≡ (not clash && all_differ are_one_operation p.signature.operations)
    → has_operation_clash (joined_presentation p q) ≡ clash
operations_clash p q new clash fine these told =
    operation_clash_told (joined_presentation p q) (all_differ are_one_operation p.signature.operations) clash
    (ap (λ (os : List Operation). all_differ are_one_operation os) (sym these) ∙ told) (operations_differ p.signature fine)

-- ---- The whole.

pub record AreKeyed (new : CodePresentation) : Type 0 where
  pub sorts : HasSortKeys new.sorts
  pub ops : HasOperationKeys new.ops
  pub equations : HasEquationKeys new.equations
  pub formal_sorts : IsKnown new.formal_sorts
  pub formal_ops : IsKnown new.formal_ops

pub sound_union : (new : CodePresentation) (r : Presentation) → AreKeyed new → presentation_of new ≡ r
    → HaveSidesOf r.signature new.equations.equations.items → IsWellFormedData (flattened_data_of r) → IsSound new
sound_union new r keyed is sides fine = record {
  sorts = keyed.sorts;
  ops = keyed.ops;
  equations = keyed.equations;
  formal_sorts = keyed.formal_sorts;
  formal_ops = keyed.formal_ops;
  sides = subst (λ (x : Presentation). HaveSidesOf x.signature new.equations.equations.items) (sym is) sides;
  data_ = subst (λ (x : Presentation). IsWellFormedData (flattened_data_of x)) (sym is) fine;
}
