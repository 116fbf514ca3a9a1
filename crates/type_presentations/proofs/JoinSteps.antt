-- What is known of two presentations that are joined step by step, and what follows for the whole.
use Rattle.std.proofs.Common.{◌≡◌, ℕ, Bool, true, false, List, [], ◌∷◌, map, refl, ap, sym, ◌∙◌}
use Rattle.std.specs.Prelude.{Some, ◌&&◌, not, nat_eq, slice_get}
use Rattle.std.proofs.lemmas.Bool.{not-false}
use Rattle.lotos_base.specs.Signature.{Signature, Sort, Operation, IsWellFormedSignature}
use Rattle.lotos_base.specs.Equation.{IsWellFormedData}
use Rattle.sort_terms.specs.WellFormedTest.{all_differ, are_one_sort, are_one_operation}
use Rattle.sort_terms.specs.declared.equations.Equation.{Equation as CodeEquation}
use Rattle.type_definitions.specs.Images.{operation_image, equation_image}
use Rattle.type_definitions.specs.ProfiledImage.{number_in}
use Rattle.type_definitions.specs.TypeFault.{TypeFault, double_sort, double_operation, too_large}
use Rattle.type_definitions.specs.Presentation.{Presentation, has_sort_clash, has_operation_clash, is_too_large, with_new, is_same_sort, is_same_operation, is_same_equation}
use Rattle.type_definitions.specs.Union.{Mentioned, with_mentioned, mention_fault, joined_presentation, joined_sort, joined_operation, sort_place_in, operation_place_in}
use Rattle.type_definitions.specs.Flattened.{flattened_data_of}
use Rattle.type_presentations.specs.EquationListView.{AllKeepProfiles, HaveSidesOf, ImagesAreOf}
use Rattle.type_definitions.proofs.HoldsLemmas.{holds_weaker}
use Rattle.type_definitions.specs.FaultView.{HoldsOfFault}
use Rattle.type_definitions.specs.declared.type_faults.TypeFault.{TypeFault as CodeFault}
use Rattle.type_presentations.specs.PresentationView.{IsSound, presentation_of}
use Rattle.type_presentations.specs.declared.presentations.Presentation.{Presentation as CodePresentation}
use Rattle.type_presentations.proofs.SignatureLemmas.{sides_of_larger}
use Rattle.type_presentations.specs.JoiningView.{IsJoining, in_one}
use Rattle.type_presentations.specs.UnionMade.{IsJoined, IsJoinFault}
use Rattle.type_presentations.specs.declared.clashes.Clashes.{Clashes}
use Rattle.type_presentations.proofs.UnionSignatures.{union_is_larger}
use Rattle.type_presentations.proofs.UnionData.{AreMapsOfUnion, keep_by_lists, images_by_lists, union_data}
use Rattle.type_presentations.proofs.UnionLemmas.{sorts_first, operations_next, size_last, no_fault, equations_joined, marks_joined, of_parts}
use Rattle.type_presentations.proofs.JoinLemmas.{maps_of_union, sorts_clash, operations_clash, AreKeyed, sound_union}

-- ---- What the steps leave.

-- the new sorts, their numbers, and whether one of them clashes
pub record SortsCame (p q : Presentation) (numbers : List ℕ) (new : List Sort) (clash : Bool) : Type 0 where
  pub these : new ≡ with_new is_same_sort p.signature.sorts q.signature.sorts
  pub numbered : (n : ℕ) → number_in numbers n ≡ sort_place_in new (slice_get q.signature.sorts n)
  pub told : all_differ are_one_sort new ≡ (not clash && all_differ are_one_sort p.signature.sorts)

-- the new operations over the numbers of the sorts
pub record OperationsCame (p q : Presentation) (sorts numbers : List ℕ) (new : List Operation) (clash : Bool) : Type 0 where
  pub these : new
      ≡ with_new is_same_operation p.signature.operations (map (operation_image (number_in sorts)) q.signature.operations)
  pub numbered : (n : ℕ) → number_in numbers n
      ≡ operation_place_in new (slice_get (map (operation_image (number_in sorts)) q.signature.operations) n)
  pub told : all_differ are_one_operation new ≡ (not clash && all_differ are_one_operation p.signature.operations)

-- the equations and marks
pub record RestCame (p q : Presentation) (sorts operations : List ℕ) (new : Presentation) : Type 0 where
  pub equations : new.equations
      ≡ with_new is_same_equation p.equations (map (equation_image (number_in sorts) (number_in operations)) q.equations)
  pub formal_sorts : new.formal_sorts ≡ with_new nat_eq p.formal_sorts (map (number_in sorts) q.formal_sorts)
  pub formal_operations : new.formal_operations
      ≡ with_new nat_eq p.formal_operations (map (number_in operations) q.formal_operations)

-- sorts stay as they are, whatever the numbers
themselves : (ss : List Sort) → map (λ s. s) ss ≡ ss
themselves [] = refl
themselves (s ∷ ss) = ap (λ (ts : List Sort). s ∷ ts) (themselves ss)

-- the numbers that are taken are those that came
pub sorts_came : (p q : Presentation) (taken numbers : List ℕ) (new : List Sort) (clash : Bool) → taken ≡ numbers
    → new ≡ with_new is_same_sort p.signature.sorts (map (λ s. s) q.signature.sorts)
    → ((n : ℕ) → number_in numbers n ≡ sort_place_in new (slice_get (map (λ s. s) q.signature.sorts) n))
    → all_differ are_one_sort new ≡ (not clash && all_differ are_one_sort p.signature.sorts) → SortsCame p q taken new clash
sorts_came p q taken numbers new clash are these numbered told = record {
  these = these ∙ ap (λ (ss : List Sort). with_new is_same_sort p.signature.sorts ss) (themselves q.signature.sorts);
  numbered = λ n.
      ap (λ (ns : List ℕ). number_in ns n) are ∙ numbered n
      ∙ ap (λ (ss : List Sort). sort_place_in new (slice_get ss n)) (themselves q.signature.sorts);
  told = told;
}

pub operations_came : (p q : Presentation) (sorts taken numbers : List ℕ) (new : List Operation) (clash : Bool) → taken ≡ numbers
    → new ≡ with_new is_same_operation p.signature.operations (map (operation_image (number_in sorts)) q.signature.operations)
    → ((n : ℕ) → number_in numbers n
    ≡ operation_place_in new (slice_get (map (operation_image (number_in sorts)) q.signature.operations) n))
    → all_differ are_one_operation new ≡ (not clash && all_differ are_one_operation p.signature.operations)
    → OperationsCame p q sorts taken new clash
operations_came p q sorts taken numbers new clash are these numbered told = record {
  these = these;
  numbered = λ n. ap (λ (ns : List ℕ). number_in ns n) are ∙ numbered n;
  told = told;
}

-- ---- Sorts and operations.

clash_of_sorts : (p q : Presentation) (numbers : List ℕ) (new : List Sort) (clash : Bool) → IsWellFormedSignature p.signature
    → SortsCame p q numbers new clash → has_sort_clash (joined_presentation p q) ≡ clash
clash_of_sorts p q numbers new clash fine came = sorts_clash p q new clash fine came.these came.told

maps_are : (p q : Presentation) (sorts operations : List ℕ) (new_sorts : List Sort) (new : List Operation) (one other : Bool)
    → SortsCame p q sorts new_sorts one → OperationsCame p q sorts operations new other
    → AreMapsOfUnion p q sorts operations new
maps_are p q sorts operations new_sorts new one other came these =
    maps_of_union p q sorts operations new_sorts new came.these came.numbered these.these these.numbered

clash_of_operations : (p q : Presentation) (sorts operations : List ℕ) (new_sorts : List Sort) (new : List Operation)
    (one other : Bool) → IsWellFormedSignature p.signature → SortsCame p q sorts new_sorts one
    → OperationsCame p q sorts operations new other → has_operation_clash (joined_presentation p q) ≡ other
clash_of_operations p q sorts operations new_sorts new one other fine came these =
    operations_clash p q new other fine (maps_are p q sorts operations new_sorts new one other came these).profiles_are these.told

-- ---- Equations.

pub profiles_kept : (p q : Presentation) (sorts operations : List ℕ) (new_sorts : List Sort) (new : List Operation)
    (one other : Bool) (es : List CodeEquation) → SortsCame p q sorts new_sorts one → OperationsCame p q sorts operations new other
    → HaveSidesOf q.signature es → AllKeepProfiles (number_in sorts) (number_in operations) new es
profiles_kept p q sorts operations new_sorts new one other es came these sides =
    keep_by_lists p q sorts operations new es (maps_are p q sorts operations new_sorts new one other came these) sides

-- ---- The whole.

-- all that came
pub record AllCame (p q : Presentation) (sorts operations : List ℕ) (one other : Bool) (new : CodePresentation) : Type 0 where
  pub sorts_came : SortsCame p q sorts (presentation_of new).signature.sorts one
  pub operations_came : OperationsCame p q sorts operations (presentation_of new).signature.operations other
  pub rest_came : RestCame p q sorts operations (presentation_of new)

all_maps : (p q : Presentation) (sorts operations : List ℕ) (one other : Bool) (new : CodePresentation)
    → AllCame p q sorts operations one other new
    → AreMapsOfUnion p q sorts operations (presentation_of new).signature.operations
all_maps p q sorts operations one other new all =
    maps_are p q sorts operations (presentation_of new).signature.sorts (presentation_of new).signature.operations one other
    all.sorts_came all.operations_came

whole : (p q : Presentation) (sorts operations : List ℕ) (one other : Bool) (new : CodePresentation)
    → AllCame p q sorts operations one other new → presentation_of new ≡ joined_presentation p q
whole p q sorts operations one other new all =
    let maps = all_maps p q sorts operations one other new all in
    of_parts (presentation_of new) (joined_presentation p q) (record {
      sorts = all.sorts_came.these;
      operations = maps.profiles_are;
      equations = equations_joined p q sorts operations (presentation_of new).signature.operations (presentation_of new).equations maps
          all.rest_came.equations;
      formal_sorts = marks_joined (joined_sort p q) sorts p.formal_sorts q.formal_sorts (presentation_of new).formal_sorts
          maps.sorts_are all.rest_came.formal_sorts;
      formal_operations = marks_joined (joined_operation p q) operations p.formal_operations q.formal_operations
          (presentation_of new).formal_operations maps.operations_are all.rest_came.formal_operations;
    })

-- what is so of the two that are joined, and of the sides that came
pub record AreFine (p q : Presentation) (sorts operations : List ℕ) (old coming : List CodeEquation) (new : CodePresentation)
    : Type 0 where
  pub first : IsWellFormedData (flattened_data_of p)
  pub second : IsWellFormedData (flattened_data_of q)
  pub first_sides : HaveSidesOf p.signature old
  pub second_sides : HaveSidesOf q.signature coming
  pub sides_come : (signature : Signature) → HaveSidesOf signature old
      → ImagesAreOf (number_in sorts) (number_in operations) (presentation_of new).signature.operations signature coming
      → HaveSidesOf signature new.equations.equations.items
  pub keyed : AreKeyed new

sound_together : (p q : Presentation) (sorts operations : List ℕ) (one other : Bool) (old coming : List CodeEquation)
    (new : CodePresentation) → AreFine p q sorts operations old coming new → AllCame p q sorts operations one other new
    → has_sort_clash (joined_presentation p q) ≡ false → has_operation_clash (joined_presentation p q) ≡ false → IsSound new
sound_together p q sorts operations one other old coming new fine all no_sorts no_operations =
    sound_union new (joined_presentation p q) fine.keyed (whole p q sorts operations one other new all)
    (fine.sides_come (joined_presentation p q).signature
    (sides_of_larger p.signature (joined_presentation p q).signature old (union_is_larger p q) fine.first_sides)
    (images_by_lists p q sorts operations (presentation_of new).signature.operations coming
    (all_maps p q sorts operations one other new all) fine.second_sides))
    (union_data p q fine.first fine.second (not-false _ no_sorts) (not-false _ no_operations))

pub both_together : (p q : Presentation) (sorts operations : List ℕ) (old coming : List CodeEquation) (new : CodePresentation)
    (clashes : Clashes)
    → AreFine p q sorts operations old coming new
    → AllCame p q sorts operations clashes.sorts clashes.ops new → IsJoining p q new clashes
both_together p q sorts operations old coming new clashes fine all =
    let sorts_told =
    clash_of_sorts p q sorts (presentation_of new).signature.sorts clashes.sorts fine.first.signature all.sorts_came in
    let operations_told =
    clash_of_operations p q sorts operations (presentation_of new).signature.sorts
    (presentation_of new).signature.operations clashes.sorts clashes.ops fine.first.signature all.sorts_came
    all.operations_came in
    record {
      sorts_told = sorts_told;
      operations_told = operations_told;
      joined_both = whole p q sorts operations clashes.sorts clashes.ops new all;
      sound = λ one other.
          sound_together p q sorts operations clashes.sorts clashes.ops old coming new fine all (sorts_told ∙ one)
          (operations_told ∙ other);
    }

-- ---- A presentation and its parts.

pub sound_in_one : (p : CodePresentation) → IsSound p
    → IsSound (in_one p.sorts p.ops p.equations p.formal_sorts p.formal_ops)
sound_in_one p sound = record {
  sorts = sound.sorts;
  ops = sound.ops;
  equations = sound.equations;
  formal_sorts = sound.formal_sorts;
  formal_ops = sound.formal_ops;
  sides = sound.sides;
  data_ = sound.data_;
}

-- ---- What it comes to.

pub sorts_refused : (p : Presentation) (m : Mentioned) (new : CodePresentation) (clashes : Clashes) (fault : CodeFault)
    → IsJoining p m.presentation new clashes
    → clashes.sorts ≡ true → HoldsOfFault fault (λ (f : TypeFault). f ≡ double_sort m.at.place m.at.name) → IsJoinFault p m fault
sorts_refused p m new clashes fault joining told holds = record {
  found = holds_weaker (λ (f : TypeFault). f ≡ double_sort m.at.place m.at.name)
      (λ (f : TypeFault). mention_fault p m ≡ Some f) fault
      (λ (f : TypeFault) is. sorts_first p m (joining.sorts_told ∙ told) ∙ ap (λ (g : TypeFault). Some g) (sym is)) holds;
}

pub operations_refused : (p : Presentation) (m : Mentioned) (new : CodePresentation) (clashes : Clashes) (fault : CodeFault)
    → IsJoining p m.presentation new clashes
    → clashes.sorts ≡ false → clashes.ops ≡ true
    → HoldsOfFault fault (λ (f : TypeFault). f ≡ double_operation m.at.place m.at.name) → IsJoinFault p m fault
operations_refused p m new clashes fault joining apart told holds = record {
  found = holds_weaker (λ (f : TypeFault). f ≡ double_operation m.at.place m.at.name)
      (λ (f : TypeFault). mention_fault p m ≡ Some f) fault
      (λ (f : TypeFault) is.
      operations_next p m (joining.sorts_told ∙ apart) (joining.operations_told ∙ told) ∙ ap (λ (g : TypeFault). Some g) (sym is))
      holds;
}

-- how large the two are
large_as : (p : Presentation) (m : Mentioned) (new : CodePresentation) (clashes : Clashes) (large : Bool)
    → IsJoining p m.presentation new clashes
    → large ≡ is_too_large (presentation_of new) → is_too_large (with_mentioned p m) ≡ large
large_as p m new clashes large joining is =
    let both : presentation_of new ≡ with_mentioned p m = joining.joined_both in
    ap (λ (r : Presentation). is_too_large r) (sym both) ∙ sym is

pub size_refused : (p : Presentation) (m : Mentioned) (new : CodePresentation) (clashes : Clashes) (large : Bool) (fault : CodeFault)
    → IsJoining p m.presentation new clashes → clashes.sorts ≡ false → clashes.ops ≡ false
    → large ≡ is_too_large (presentation_of new) → large ≡ true
    → HoldsOfFault fault (λ (f : TypeFault). f ≡ too_large m.at.place m.at.name) → IsJoinFault p m fault
size_refused p m new clashes large fault joining one other is told holds = record {
  found = holds_weaker (λ (f : TypeFault). f ≡ too_large m.at.place m.at.name)
      (λ (f : TypeFault). mention_fault p m ≡ Some f) fault
      (λ (f : TypeFault) this.
      size_last p m (joining.sorts_told ∙ one) (joining.operations_told ∙ other) (large_as p m new clashes large joining is ∙ told)
      ∙ ap (λ (g : TypeFault). Some g) (sym this))
      holds;
}

pub all_joined : (p : Presentation) (m : Mentioned) (new : CodePresentation) (clashes : Clashes) (large : Bool)
    → IsJoining p m.presentation new clashes
    → clashes.sorts ≡ false → clashes.ops ≡ false → large ≡ is_too_large (presentation_of new) → large ≡ false
    → IsJoined p m new
all_joined p m new clashes large joining one other is told = record {
  none = no_fault p m (joining.sorts_told ∙ one) (joining.operations_told ∙ other) (large_as p m new clashes large joining is ∙ told);
  made = joining.joined_both;
  sound = joining.sound one other;
  within = sym is ∙ told;
}
