-- The labels, shapes and derivations that those of the code stand for.
use Rattle.std.specs.Prelude.{map}
use Rattle.sort_terms.specs.SortedView.{term_in}
use Rattle.behaviour_semantics.specs.Label as plain
use Rattle.behaviour_semantics.specs.Shape as plain_shape
use Rattle.behaviour_tree.specs.declared.moves.Label.{Label}
use Rattle.behaviour_tree.specs.declared.moves.Label.TheVariants as label
use Rattle.behaviour_tree.specs.declared.moves.Shape.{Shape, Act, Quit, Inner, Guarded', Left', Right', Both', Hidden', Enabled', Passed', Bound', Value', Gate', Called', Relabelled'}
use Rattle.behaviour_tree.specs.declared.moves.Derivation.{Derivation}

-- the label
abbrev pub label_of : Label → plain.Label
label_of label.Inner = plain.inner_event
label_of (label.Gate gate values) = plain.gate_event gate (map term_in values.items)
label_of (label.Exit values) = plain.exit_event (map term_in values.items)

-- the shape
abbrev pub shape_of : Shape → plain_shape.Shape
shape_of Act = plain_shape.act
shape_of Quit = plain_shape.quit
shape_of Inner = plain_shape.inner_step
shape_of (Guarded' _ part) = plain_shape.guarded (shape_of part)
shape_of (Left' _ part) = plain_shape.left_side (shape_of part)
shape_of (Right' _ part) = plain_shape.right_side (shape_of part)
shape_of (Both' _ left _ right) = plain_shape.both_sides (shape_of left) (shape_of right)
shape_of (Hidden' _ part) = plain_shape.hidden (shape_of part)
shape_of (Enabled' _ part) = plain_shape.enabled (shape_of part)
shape_of (Passed' _ part) = plain_shape.passed (shape_of part)
shape_of (Bound' _ part) = plain_shape.let_bound (shape_of part)
shape_of (Value' _ part) = plain_shape.with_value (shape_of part)
shape_of (Gate' position _ part) = plain_shape.at_gate position (shape_of part)
shape_of (Called' _ part) = plain_shape.called (shape_of part)
shape_of (Relabelled' _ part) = plain_shape.relabelled (shape_of part)

-- the derivation
abbrev pub derivation_of : Derivation → plain_shape.Derivation
derivation_of derivation = record { shape = shape_of derivation.shape; leaves = map term_in derivation.leaves.items }
