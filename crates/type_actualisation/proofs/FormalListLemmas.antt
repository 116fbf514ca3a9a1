-- Lists of formal equations under new numbers, and behind others.
use Rattle.std.proofs.Common.{◌≡◌, ℕ, zero, suc, ◌+◌, ◌<◌, ◌≤◌, List, [], ◌∷◌, ◌++◌, ◌⊎◌, inl, inr, length, map, take, get_or, append_assoc, refl, ap, sym, ◌∙◌, subst, arith}
use Rattle.std.proofs.Math.Path.{fun_ext}
use Rattle.std.specs.Prelude.{Some, slice_get}
use Rattle.std.proofs.lemmas.List.{append-nil, map-append}
use Rattle.std.proofs.lemmas.Option.{none-some, same_Some}
use Rattle.lotos_base.specs.Signature.{Signature, Sort, Operation}
use Rattle.lotos_base.specs.Equation.{Equation, IsEquationOver}
use Rattle.sort_terms.specs.EquationView.{equation_of}
use Rattle.sort_terms.specs.ProfiledTerm.{ProfiledTerm, IsOf}
use Rattle.sort_terms.specs.declared.equations.Equation.{Equation as CodeEquation}
use Rattle.type_definitions.proofs.ImageLemmas.{image_of_signature, keeps_profiles}
use Rattle.type_definitions.proofs.WalkLemmas.{so_far}
use Rattle.type_definitions.proofs.WithNewLemmas.{first_appearances}
use Rattle.type_definitions.specs.FormalEquations.{FlattenedType, WithFormals, formals_joined, no_formals}
use Rattle.type_definitions.specs.ImageLaws.{IsSignatureMap}
use Rattle.type_definitions.specs.Images.{equation_image}
use Rattle.type_definitions.specs.Presentation.{Presentation, is_same_equation, presentation_limit, with_new}
use Rattle.type_definitions.specs.ProfiledImage.{KeepsProfiles, number_in, profiled_image}
use Rattle.type_definitions.specs.Requirements.{with_required}
use Rattle.type_definitions.specs.Union.{joined_presentation, joined_operation, joined_sort}
use Rattle.type_definitions.specs.UnionLaws.{IsIn}
use Rattle.type_presentations.proofs.EquationImageLemmas.{image_over}
use Rattle.type_presentations.proofs.SignatureLemmas.{IsLarger, no_sides, over_larger, sides_of_larger}
use Rattle.type_presentations.specs.EquationListView.{HasEquationKeys, HasSidesOver, HaveSidesOf, ImagesAreOf, equations_in}
use Rattle.type_presentations.specs.OperationListView.{OperationList, operations_in}
use Rattle.type_presentations.specs.SortListView.{SortList, sorts_in}
use Rattle.type_presentations.specs.PresentationView.{presentation_of}
use Rattle.type_presentations.specs.declared.equation_list.EquationList.{EquationList}
use Rattle.type_presentations.specs.declared.presentations.Presentation.{Presentation as CodePresentation}
use Rattle.type_actualisation.specs.declared.bringing.NewNumbers.{NewNumbers}
use Rattle.type_presentations.proofs.UnionData.{AreMapsOfUnion, images_by_lists}
use Rattle.type_presentations.proofs.UnionSignatures.{image_in, union_is_larger, union_maps}
use Rattle.type_actualisation.specs.FormalLists.{AreFormalsOver, AreMoved, HaveJoined, IsUnionWith, with_list, with_members}
use Rattle.type_actualisation.specs.declared.formal_lists.FormalUnion.{FormalUnion}

-- ---- Members of lists.

either_at : {A : Type 0} (xs ys : List A) (i : ℕ) (x : A) → slice_get (xs ++ ys) i ≡ Some x → IsIn xs x ⊎ IsIn ys x
either_at [] ys i x found = inr (i, found)
either_at (y ∷ xs) ys zero x found = inl (0, found)
either_at (y ∷ xs) ys (suc i) x found =
    elim (either_at xs ys i x found) [ inl before ↦ inl (suc before.0, before.1) | inr later ↦ inr later ]

-- what two lists have, one of them has
in_either : {A : Type 0} (xs ys zs : List A) (x : A) → zs ≡ xs ++ ys → IsIn zs x → IsIn xs x ⊎ IsIn ys x
in_either {A = A} xs ys zs x is at =
    either_at xs ys at.0 x (ap (λ (us : List A). slice_get us at.0) (sym is) ∙ at.1)

only_at : {A : Type 0} (x y : A) (i : ℕ) → slice_get (x ∷ []) i ≡ Some y → x ≡ y
only_at x y zero found = same_Some x y found
only_at x y (suc i) found = absurd (none-some y found)

-- images of a list that grew by one
pub grown_images : {A B C : Type 0} (f : B → C) (g : A → B) (start old new : List C) (xs : List A) (i : ℕ) (x : A) (y : C)
    → i < length xs → x ≡ get_or xs i x → old ≡ start ++ map f (map g (take i xs)) → new ≡ old ++ y ∷ [] → y ≡ f (g x)
    → new ≡ start ++ map f (map g (take (i + 1) xs))
grown_images {A} {B} {C} f g start old new xs i x y within is before grown one =
    grown ∙ ap (λ (os : List C). os ++ y ∷ []) before ∙ append_assoc start (map f (map g (take i xs))) (y ∷ [])
    ∙ ap (λ (z : C). start ++ (map f (map g (take i xs)) ++ z ∷ [])) one
    ∙ ap (λ (zs : List C). start ++ zs)
    (sym (ap (λ (zs : List B). map f zs) (so_far g xs i x within is) ∙ map-append f (map g (take i xs)) (g x ∷ [])))

-- ---- Sides under maps.

pub side_over : (old new : Signature) (sorts numbers : List ℕ) (operations : List Operation) (side image : ProfiledTerm)
    → IsSignatureMap old new (number_in sorts) (number_in numbers) → operations ≡ new.operations → IsOf old side
    → image ≡ profiled_image (number_in sorts) (number_in numbers) operations side → IsOf new image
side_over old new sorts numbers operations side image m are of is =
    subst (λ (t : ProfiledTerm). IsOf new t) (sym is)
    (subst (λ (os : List Operation). IsOf new (profiled_image (number_in sorts) (number_in numbers) os side)) (sym are)
    (image_of_signature old new (number_in sorts) (number_in numbers) side m of))

pub side_keeps : (old new : Signature) (sorts numbers : List ℕ) (operations : List Operation) (side : ProfiledTerm)
    → IsSignatureMap old new (number_in sorts) (number_in numbers) → operations ≡ new.operations → IsOf old side
    → KeepsProfiles (number_in sorts) (number_in numbers) operations side
side_keeps old new sorts numbers operations side m are of =
    subst (λ (os : List Operation). KeepsProfiles (number_in sorts) (number_in numbers) os side) (sym are)
    (keeps_profiles old new (number_in sorts) (number_in numbers) side m of)

-- maps that are the same at each number
pub map_as : (old new : Signature) (f g h k : ℕ → ℕ) → ((n : ℕ) → f n ≡ h n) → ((n : ℕ) → g n ≡ k n) → IsSignatureMap old new h k
    → IsSignatureMap old new f g
map_as old new f g h k sorts operations m =
    let one : f ≡ h = fun_ext sorts in
    let other : g ≡ k = fun_ext operations in
    subst (λ (x : ℕ → ℕ). IsSignatureMap old new x g) (sym one)
    (subst (λ (y : ℕ → ℕ). IsSignatureMap old new h y) (sym other) m)

pub images_as : (f g h k : ℕ → ℕ) → ((n : ℕ) → f n ≡ h n) → ((n : ℕ) → g n ≡ k n) → (es : List Equation)
    → map (equation_image f g) es ≡ map (equation_image h k) es
images_as f g h k sorts operations es =
    let one : f ≡ h = fun_ext sorts in
    let other : g ≡ k = fun_ext operations in
    ap (λ (x : ℕ → ℕ). map (equation_image x g) es) one ∙ ap (λ (y : ℕ → ℕ). map (equation_image h y) es) other

-- ---- Lists over a signature.

pub none_over : (signature : Signature) (list : EquationList) → HasEquationKeys list → equations_in list ≡ []
    → AreFormalsOver signature list
none_over signature list keyed none = record {
  keyed = keyed;
  over = λ e at. absurd (none-some e (sym (ap (λ (es : List Equation). slice_get es at.0) none) ∙ at.1));
  sides = no_sides signature list.equations.items none;
}

pub larger_formals : (old new : Signature) (list : EquationList) → IsLarger old new → AreFormalsOver old list → AreFormalsOver new list
larger_formals old new list larger are = record {
  keyed = are.keyed;
  over = λ e at. over_larger old new e larger (are.over e at);
  sides = sides_of_larger old new list.equations.items larger are.sides;
}

pub one_more_formal : (signature : Signature) (old new : EquationList) (e : CodeEquation) → AreFormalsOver signature old
    → HasEquationKeys new → equations_in new ≡ equations_in old ++ equation_of e ∷ [] → IsEquationOver signature (equation_of e)
    → HasSidesOver signature e
    → ((s : Signature) → HaveSidesOf s old.equations.items → HasSidesOver s e → HaveSidesOf s new.equations.items)
    → AreFormalsOver signature new
one_more_formal signature old new e are keyed is over sides come = record {
  keyed = keyed;
  over = λ d at.
      elim (in_either (equations_in old) (equation_of e ∷ []) (equations_in new) d is at) [
        | inl before ↦ are.over d before
        | inr last ↦ subst (λ (x : Equation). IsEquationOver signature x) (only_at (equation_of e) d last.0 last.1) over
      ];
  sides = come signature are.sides sides;
}

-- ---- Unions.

pub joined_as : (w : WithFormals) (u : FormalUnion) (q : Presentation) (sorts : SortList) (ops : OperationList) (numbers : NewNumbers)
    → IsUnionWith w u → HaveJoined (with_members (sorts_in u.sorts) (operations_in u.ops)) q sorts ops numbers
    → HaveJoined w.presentation q sorts ops numbers
joined_as w u q sorts ops numbers is have =
    let at : HaveJoined (with_members w.presentation.signature.sorts w.presentation.signature.operations) q sorts ops numbers =
    subst (λ (ss : List Sort). HaveJoined (with_members ss w.presentation.signature.operations) q sorts ops numbers) is.sorts_are
    (subst (λ (os : List Operation). HaveJoined (with_members (sorts_in u.sorts) os) q sorts ops numbers) is.operations_are have) in
    record {
      sorts_are = at.sorts_are;
      operations_are = at.operations_are;
      sort_keys = at.sort_keys;
      operation_keys = at.operation_keys;
      few_sorts = at.few_sorts;
      few_operations = at.few_operations;
      sorts_go = at.sorts_go;
      operations_go = at.operations_go;
    }

pub maps_by : (p q : Presentation) (sorts : SortList) (ops : OperationList) (numbers : NewNumbers) (ss os : List ℕ)
    → HaveJoined p q sorts ops numbers → ss ≡ numbers.sorts.items → os ≡ numbers.ops.items
    → AreMapsOfUnion p q ss os (operations_in ops)
maps_by p q sorts ops numbers ss os have one other = record {
  sorts_are = λ n. ap (λ (ns : List ℕ). number_in ns n) one ∙ have.sorts_go n;
  operations_are = λ n. ap (λ (ns : List ℕ). number_in ns n) other ∙ have.operations_go n;
  profiles_are = have.operations_are;
}

pub moved_into : (p q : Presentation) (coming : EquationList) (ops : OperationList) (ss os : List ℕ)
    → AreMapsOfUnion p q ss os (operations_in ops) → AreFormalsOver q.signature coming
    → AreMoved q.signature (joined_presentation p q).signature coming ss os ops
moved_into p q coming ops ss os maps are = record {
  maps = map_as q.signature (joined_presentation p q).signature (number_in ss) (number_in os) (joined_sort p q) (joined_operation p q)
      maps.sorts_are maps.operations_are (union_maps p q);
  profiles_are = maps.profiles_are;
  formals = are;
}

-- the union with the sorts and operations of one more, and these equations
union_grown : (w : WithFormals) (new : FormalUnion) (q : Presentation) (numbers : NewNumbers) (formals : List Equation)
    → HaveJoined w.presentation q new.sorts new.ops numbers → equations_in new.equations ≡ formals
    → AreFormalsOver (joined_presentation w.presentation q).signature new.equations
    → IsUnionWith (record { presentation = joined_presentation w.presentation q; formals = formals }) new
union_grown w new q numbers formals have are over = record {
  sorts_are = have.sorts_are;
  operations_are = have.operations_are;
  sort_keys = have.sort_keys;
  operation_keys = have.operation_keys;
  few_sorts = have.few_sorts;
  few_operations = have.few_operations;
  formals_are = are;
  formals = over;
}

-- an equation that came to others is one of them, or an image
came_over : (p q : Presentation) (kept coming : List Equation) (e : Equation)
    → ((d : Equation) → IsIn kept d → IsEquationOver p.signature d) → ((d : Equation) → IsIn coming d → IsEquationOver q.signature d)
    → IsIn (with_new is_same_equation kept (map (equation_image (joined_sort p q) (joined_operation p q)) coming)) e
    → IsEquationOver (joined_presentation p q).signature e
came_over p q kept coming e one other at =
    elim (first_appearances.equations.adds_nothing kept (map (equation_image (joined_sort p q) (joined_operation p q)) coming) e at) [
      | inl first ↦ over_larger p.signature (joined_presentation p q).signature e (union_is_larger p q) (one e first)
      | inr later ↦
          (let before = image_in (equation_image (joined_sort p q) (joined_operation p q)) coming e later in
          subst (λ (x : Equation). IsEquationOver (joined_presentation p q).signature x) before.2
          (image_over q.signature (joined_presentation p q).signature (joined_sort p q) (joined_operation p q) before.0 (union_maps p q)
          (other before.0 before.1)))
    ]

pub union_joined : (w : WithFormals) (old new : FormalUnion) (q : CodePresentation) (coming : EquationList) (numbers : NewNumbers)
    (ss os : List ℕ)
    → IsUnionWith w old → HaveJoined w.presentation (presentation_of q) new.sorts new.ops numbers → ss ≡ numbers.sorts.items
    → os ≡ numbers.ops.items → AreFormalsOver (presentation_of q).signature coming → HasEquationKeys new.equations
    → equations_in new.equations
    ≡ with_new is_same_equation (equations_in old.equations) (map (equation_image (number_in ss) (number_in os)) (equations_in coming))
    → ((s : Signature) → HaveSidesOf s old.equations.equations.items
    → ImagesAreOf (number_in ss) (number_in os) (operations_in new.ops) s coming.equations.items
    → HaveSidesOf s new.equations.equations.items)
    → IsUnionWith (formals_joined w (with_list q coming)) new
union_joined w old new q coming numbers ss os is have one other are keyed made sides =
    let p : Presentation = w.presentation in
    let r : Presentation = presentation_of q in
    let maps = maps_by p r new.sorts new.ops numbers ss os have one other in
    let listed : equations_in new.equations
    ≡ with_new is_same_equation w.formals (map (equation_image (joined_sort p r) (joined_operation p r)) (equations_in coming)) =
    made
    ∙ ap (λ (es : List Equation).
    with_new is_same_equation es (map (equation_image (number_in ss) (number_in os)) (equations_in coming))) is.formals_are
    ∙ ap (λ (es : List Equation). with_new is_same_equation w.formals es)
    (images_as (number_in ss) (number_in os) (joined_sort p r) (joined_operation p r) maps.sorts_are maps.operations_are
    (equations_in coming)) in
    union_grown w new r numbers _ have listed
    (record {
      keyed = keyed;
      over = λ e at.
          came_over p r w.formals (equations_in coming) e
          (λ d there.
          is.formals.over d (subst (λ (es : List Equation). IsIn es d) (sym is.formals_are) there))
          (λ d there. are.over d there) (subst (λ (es : List Equation). IsIn es e) listed at);
      sides = sides (joined_presentation p r).signature
          (sides_of_larger p.signature (joined_presentation p r).signature old.equations.equations.items (union_is_larger p r)
          is.formals.sides)
          (images_by_lists p r ss os (operations_in new.ops) coming.equations.items maps are.sides);
    })

pub union_required : (w : WithFormals) (t : FlattenedType) (old new : FormalUnion) (q : CodePresentation) (coming : EquationList)
    (numbers : NewNumbers) (ss os : List ℕ)
    → IsUnionWith w old → HaveJoined w.presentation (presentation_of q) new.sorts new.ops numbers → ss ≡ numbers.sorts.items
    → os ≡ numbers.ops.items → AreFormalsOver (presentation_of q).signature coming
    → t.mentioned.presentation ≡ presentation_of q → t.required ≡ equations_in coming
    → equations_in new.equations
    ≡ equations_in old.equations ++ map (equation_image (number_in ss) (number_in os)) (equations_in coming)
    → ((one other : Signature) → AreMoved one other coming ss os new.ops → AreFormalsOver other old.equations
    → AreFormalsOver other new.equations)
    → IsUnionWith (with_required w t) new
union_required w t old new q coming numbers ss os is have one other are presented required made over =
    let p : Presentation = w.presentation in
    let r : Presentation = presentation_of q in
    let maps = maps_by p r new.sorts new.ops numbers ss os have one other in
    let image : Presentation → List Equation → List Equation =
    λ x es. map (equation_image (joined_sort p x) (joined_operation p x)) es in
    let listed : equations_in new.equations ≡ w.formals ++ image r (equations_in coming) =
    made
    ∙ ap (λ (es : List Equation). es ++ map (equation_image (number_in ss) (number_in os)) (equations_in coming)) is.formals_are
    ∙ ap (λ (es : List Equation). w.formals ++ es)
    (images_as (number_in ss) (number_in os) (joined_sort p r) (joined_operation p r) maps.sorts_are maps.operations_are
    (equations_in coming)) in
    let whole : Presentation → List Equation → WithFormals =
    λ x es. record { presentation = joined_presentation p x; formals = w.formals ++ image x es } in
    subst (λ (x : WithFormals). IsUnionWith x new)
    (ap (λ (es : List Equation). whole r es) (sym required) ∙ ap (λ (x : Presentation). whole x t.required) (sym presented))
    (union_grown w new r numbers _ have listed
    (over r.signature (joined_presentation p r).signature (moved_into p r coming new.ops ss os maps are)
    (larger_formals p.signature (joined_presentation p r).signature old.equations (union_is_larger p r) is.formals)))

-- ---- Nothing.

pub few_none : {A : Type 0} (xs : List A) (limit : ℕ) → xs ≡ [] → length xs ≤ limit
few_none {A = A} xs limit none = let zeroth : length xs ≡ 0 = ap (λ (ys : List A). length ys) none in omega (arith, zeroth)
