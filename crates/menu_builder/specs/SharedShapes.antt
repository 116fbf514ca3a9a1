-- Shapes below sides of choices, kept so that shapes with a part in common share it.
use Rattle.std.specs.Prelude.{◌≡◌, ◌<◌, ℕ, List, [], ◌∷◌, length, map, slice_get, Some}
use Rattle.behaviour_semantics.specs.Shape.{Shape, act, quit, inner_step, left_side, right_side}
use Rattle.behaviour_semantics.specs.WellFormed.{Every}
use Rattle.behaviour_tree.specs.MoveView.{shape_of}
use Rattle.draft_parts.specs.VariantView.{variant_of}
use Rattle.menu_builder.specs.declared.shared_shapes.SharedShape.{SharedShape}
use Rattle.draft_parts.specs.declared.variants.Variant.{Variant}

-- the shape below these variants, the first of which is the outermost
abbrev pub below_all : List Variant → Shape → Shape
below_all [] s = s
below_all (variant ∷ path) s = variant_of variant (below_all path s)

-- the shapes
abbrev pub shape_in : SharedShape → Shape
shape_in kept = shape_of kept.shape.value

abbrev pub shapes_in : List SharedShape → List Shape
shapes_in kept = map shape_in kept

-- Where it is told to be a left or a right side, there that shape stands.
pub record IsToldIn (shapes : List Shape) (kept : SharedShape) : Type 0 where
  pub left : (k : ℕ) → kept.left ≡ Some k → slice_get shapes k ≡ Some (left_side (shape_in kept))
  pub right : (k : ℕ) → kept.right ≡ Some k → slice_get shapes k ≡ Some (right_side (shape_in kept))

-- What each shape tells of others is so.
abbrev pub AreTold : List SharedShape → Type 0
AreTold kept = Every (IsToldIn (shapes_in kept)) kept

-- It is so, and the shapes without parts come first.
pub record AreShared (kept : List SharedShape) : Type 0 where
  pub told : AreTold kept
  pub of_action : slice_get (shapes_in kept) 0 ≡ Some act
  pub of_exit : slice_get (shapes_in kept) 1 ≡ Some quit
  pub of_inner : slice_get (shapes_in kept) 2 ≡ Some inner_step

-- From the shape at one place, what is made of it stands at another.
pub record ReachesShape (change : Shape → Shape) (before : List SharedShape) (from : ℕ) (after : List SharedShape) (to : ℕ) : Type 0 where
  pub shared : AreShared after
  pub within : to < length after
  pub same : (s : Shape) → slice_get (shapes_in before) from ≡ Some s → slice_get (shapes_in after) to ≡ Some (change s)

-- The shape is the expected one, and shapes are shared as before.
pub record IsSharedShape (after : List SharedShape) (expected made : Shape) : Type 0 where
  pub shared : AreShared after
  pub same : made ≡ expected
