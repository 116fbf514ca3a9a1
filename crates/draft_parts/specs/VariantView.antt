-- The variants of shapes that those of the code stand for.
use Rattle.behaviour_semantics.specs.Shape.{Shape, guarded, left_side, right_side, hidden, enabled, passed, let_bound, with_value, at_gate, called, relabelled}
use Rattle.draft_parts.specs.declared.variants.Variant.{Variant}
use Rattle.draft_parts.specs.declared.variants.Variant.TheVariants.{Guarded, Left, Right, Hidden, Enabled, Passed, Bound, Value, Gate, Called, Relabelled}

-- the variant
abbrev pub variant_of : Variant → Shape → Shape
variant_of Guarded = guarded
variant_of Left = left_side
variant_of Right = right_side
variant_of Hidden = hidden
variant_of Enabled = enabled
variant_of Passed = passed
variant_of Bound = let_bound
variant_of Value = with_value
variant_of (Gate position) = at_gate position
variant_of Called = called
variant_of Relabelled = relabelled
