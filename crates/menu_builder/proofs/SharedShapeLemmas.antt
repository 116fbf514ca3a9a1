-- Shapes that are kept so that others share them: one more, and what is told of it.
use Rattle.std.proofs.Common.{◌≡◌, ◌<◌, ◌++◌, ℕ, zero, suc, List, [], ◌∷◌, length, drop, take, set, get_or, slice_get, None, Some, refl, ap, sym, ◌∙◌, subst, arith}
use Rattle.std.proofs.lemmas.List.{length-append, length-map, map-append, take-append-drop}
use Rattle.std.proofs.lemmas.Option.{slice_get-map, slice_get_read, slice_get_within}
use Rattle.std.specs.Option.{option_map}
use Rattle.behaviour_semantics.specs.Shape.{Shape}
use Rattle.behaviour_semantics.specs.WellFormed.{Every}
use Rattle.behaviour_semantics.proofs.ListLemmas.{Every-append}
use Rattle.menu_builder.specs.SharedShapes.{AreShared, AreTold, below_all, IsSharedShape, IsToldIn, ReachesShape, shape_in, shapes_in}
use Rattle.draft_parts.specs.VariantView.{variant_of}
use Rattle.menu_builder.specs.declared.shared_shapes.SharedShape.{SharedShape}
use Rattle.draft_parts.specs.declared.variants.Variant.{Variant}
use Rattle.draft_parts.proofs.MetLemmas.{over_at, over_set}

-- ---- Lists.
stays : {X : Type 0} (xs ys : List X) (k : ℕ) (x : X) → slice_get xs k ≡ Some x → slice_get (xs ++ ys) k ≡ Some x
stays [] ys k x e = absurd (cc e)
stays (y ∷ xs) ys zero x e = e
stays (y ∷ xs) ys (suc k) x e = stays xs ys k x e

comes_last : {X : Type 0} (xs : List X) (x : X) → slice_get (xs ++ x ∷ []) (length xs) ≡ Some x
comes_last [] x = refl
comes_last (y ∷ xs) x = comes_last xs x

shapes_stay : (kept : List SharedShape) (i : ℕ) (other : SharedShape) → slice_get (shapes_in kept) i ≡ Some (shape_in other)
    → shapes_in (set kept i other) ≡ shapes_in kept
shapes_stay [] i other e = absurd (cc e)
shapes_stay (x ∷ kept) zero other e = (let same : shape_in other ≡ shape_in x = cc in ap (λ (s : Shape). s ∷ shapes_in kept) same)
shapes_stay (x ∷ kept) (suc i) other e = ap (λ (ss : List Shape). shape_in x ∷ ss) (shapes_stay kept i other e)

shape_there : (kept : List SharedShape) (i : ℕ) (x : SharedShape) → i < length kept → x ≡ get_or kept i x
    → slice_get (shapes_in kept) i ≡ Some (shape_in x)
shape_there kept i x within is =
    slice_get-map shape_in kept i ∙ ap (option_map shape_in) (slice_get_read kept (length kept) i x refl within is)

there_within : (kept : List SharedShape) (i : ℕ) (s : Shape) → slice_get (shapes_in kept) i ≡ Some s → i < length kept
there_within kept i s e =
    let within : i < length (shapes_in kept) = slice_get_within (shapes_in kept) i s e in
    omega (arith, length-map kept shape_in)

-- ---- One more shape.
told_of_more : (shapes more : List Shape) (kept : List SharedShape) → Every (IsToldIn shapes) kept
    → Every (IsToldIn (shapes ++ more)) kept
told_of_more shapes more [] h = tt
told_of_more shapes more (x ∷ kept) h = (
  record {
    left = λ k e. stays shapes more k _ (h.0.left k e);
    right = λ k e. stays shapes more k _ (h.0.right k e);
  },
  told_of_more shapes more kept h.1,
)

pub one_more_told : (before after : List SharedShape) (x : SharedShape) → after ≡ before ++ x ∷ [] → x.left ≡ None → x.right ≡ None
    → AreTold before → AreTold after
one_more_told before after x is left right h =
    let shapes : shapes_in after ≡ shapes_in before ++ shape_in x ∷ [] =
    ap shapes_in is ∙ map-append shape_in before (x ∷ []) in
    let alone : IsToldIn (shapes_in after) x =
    record { left = λ k e. absurd (cc (left, e)); right = λ k e. absurd (cc (right, e)) } in
    let others : Every (IsToldIn (shapes_in after)) before =
    subst (λ (ss : List Shape). Every (IsToldIn ss) before) (sym shapes) (told_of_more (shapes_in before) (shape_in x ∷ []) before h) in
    subst (λ (xs : List SharedShape). Every (IsToldIn (shapes_in after)) xs) (sym is)
    (Every-append (IsToldIn (shapes_in after)) before (x ∷ []) others (alone, tt))

-- ---- The shape of a variant over another one, made and told of.
pub made_anew : (variant : Variant) (before pushed after : List SharedShape) (part made : ℕ) (x y z : SharedShape) (s : Shape)
    → AreShared before → part < length before → x ≡ get_or before part x → part < length pushed → y ≡ get_or pushed part y
    → shapes_in pushed ≡ shapes_in before ++ s ∷ [] → AreTold pushed → s ≡ variant_of variant (shape_in x)
    → made ≡ length before → shape_in z ≡ shape_in y
    → (IsToldIn (shapes_in pushed) y → slice_get (shapes_in pushed) made ≡ Some (variant_of variant (shape_in y))
    → IsToldIn (shapes_in pushed) z)
    → after ≡ set pushed part z → ReachesShape (variant_of variant) before part after made
made_anew variant before pushed after part made x y z s h within is inside at more told of_x last same tells set_there =
    let here : slice_get (shapes_in before) part ≡ Some (shape_in x) = shape_there before part x within is in
    let kept : (k : ℕ) (t : Shape) → slice_get (shapes_in before) k ≡ Some t → slice_get (shapes_in pushed) k ≡ Some t =
    λ k t e. ap (λ (ss : List Shape). slice_get ss k) more ∙ stays (shapes_in before) (s ∷ []) k t e in
    let now : slice_get (shapes_in pushed) part ≡ Some (shape_in y) = shape_there pushed part y inside at in
    let also : slice_get (shapes_in pushed) part ≡ Some (shape_in x) = kept part (shape_in x) here in
    let one : shape_in y ≡ shape_in x = cc (now, also) in
    let place : made ≡ length (shapes_in before) = last ∙ sym (length-map before shape_in) in
    let there : slice_get (shapes_in pushed) made ≡ Some s =
    ap (λ (ss : List Shape). slice_get ss made) more
    ∙ (ap (λ (k : ℕ). slice_get (shapes_in before ++ s ∷ []) k) place ∙ comes_last (shapes_in before) s) in
    let of_y : s ≡ variant_of variant (shape_in y) = of_x ∙ ap (variant_of variant) (sym one) in
    let of_z : IsToldIn (shapes_in pushed) z =
    tells (over_at (IsToldIn (shapes_in pushed)) pushed part y inside at told) (there ∙ ap (λ (t : Shape). Some t) of_y) in
    let all : Every (IsToldIn (shapes_in pushed)) (set pushed part z) =
    over_set (IsToldIn (shapes_in pushed)) pushed part z told of_z in
    let shapes : shapes_in after ≡ shapes_in pushed =
    ap shapes_in set_there ∙ shapes_stay pushed part z (now ∙ ap (λ (t : Shape). Some t) (sym same)) in
    let still : (k : ℕ) (t : Shape) → slice_get (shapes_in before) k ≡ Some t → slice_get (shapes_in after) k ≡ Some t =
    λ k t e. ap (λ (ss : List Shape). slice_get ss k) shapes ∙ kept k t e in
    let reached : slice_get (shapes_in after) made ≡ Some s = ap (λ (ss : List Shape). slice_get ss made) shapes ∙ there in
    record {
      shared = record {
        told = subst (λ (ss : List Shape). Every (IsToldIn ss) after) (sym shapes)
            (subst (λ (xs : List SharedShape). Every (IsToldIn (shapes_in pushed)) xs) (sym set_there) all);
        of_action = still 0 _ h.of_action;
        of_exit = still 1 _ h.of_exit;
        of_inner = still 2 _ h.of_inner;
      };
      within = there_within after made s reached;
      same = λ t e.
          let first : shape_in x ≡ t = cc (here, e) in
          reached ∙ ap (λ (u : Shape). Some u) (of_x ∙ ap (variant_of variant) first);
    }

pub pushed_within : (before pushed : List SharedShape) (s : Shape) (part : ℕ) → shapes_in pushed ≡ shapes_in before ++ s ∷ []
    → part < length before → part < length pushed
pushed_within before pushed s part more within =
    let count : length (shapes_in pushed) ≡ length (shapes_in before ++ s ∷ []) = ap (λ (ss : List Shape). length ss) more in
    omega (arith, length-map before shape_in, length-map pushed shape_in, length-append (shapes_in before) (s ∷ []))

-- ---- Variants over variants.
below_joined : (outer inner : List Variant) (s : Shape) → below_all (outer ++ inner) s ≡ below_all outer (below_all inner s)
below_joined [] inner s = refl
below_joined (v ∷ outer) inner s = ap (variant_of v) (below_joined outer inner s)

-- the rest of the way over what stands where it was left
pub rest_over : (path outer : List Variant) (left : ℕ) (before after : List SharedShape) (from reached : ℕ) (x : SharedShape)
    (s copy made : Shape) → ReachesShape (below_all (drop left path)) before from after reached → outer ≡ take left path
    → slice_get (shapes_in before) from ≡ Some s → x ≡ get_or after reached x → copy ≡ shape_in x → made ≡ below_all outer copy
    → IsSharedShape after (below_all path s) made
rest_over path outer left before after from reached x s copy made h rest at is same over =
    let there : slice_get (shapes_in after) reached ≡ Some (below_all (drop left path) s) = h.same s at in
    let read : slice_get (shapes_in after) reached ≡ Some (shape_in x) = shape_there after reached x h.within is in
    let one : shape_in x ≡ below_all (drop left path) s = cc (there, read) in
    record {
      shared = h.shared;
      same = over
          ∙ (ap (below_all outer) (same ∙ one)
          ∙ (ap (λ (vs : List Variant). below_all vs (below_all (drop left path) s)) rest
          ∙ (sym (below_joined (take left path) (drop left path) s)
          ∙ ap (λ (vs : List Variant). below_all vs s) (take-append-drop left path))));
    }
