-- Headings as the code keeps them.
use Rattle.std.specs.Prelude.{map}
use Rattle.sort_terms.specs.EquationView.{variable_of}
use Rattle.behaviour_tree.specs.DefinitionView.{functionality_of}
use Rattle.syntax_trees.specs.TreeViews.{heading_of}
use Rattle.syntax_trees.specs.WrittenDefinition.{WrittenHeading}
use Rattle.scope_parts.specs.Definitions as plain
use Rattle.static_scope.specs.declared.heading_parts.Heading.{Heading}
use Rattle.static_scope.specs.declared.heading_parts.HeadingText.{HeadingText}

-- a heading with names resolved
abbrev pub heading_in : Heading → plain.Heading
heading_in heading = record {
  gates = heading.gates.items;
  parameters = map variable_of heading.parameters.items;
  exit = functionality_of heading.exit;
}

-- a heading as it is written
abbrev pub written_heading : HeadingText → WrittenHeading
written_heading text =
    heading_of text.place text.name.now text.gates.now.items text.parameters.now.items text.functionality.now
