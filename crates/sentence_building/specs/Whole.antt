-- A specification by its heading, its items, its behaviour and what its `where` declares.
use Rattle.std.specs.Prelude.{List}
use Rattle.syntax_trees.specs.WrittenBehaviour.{WrittenBehaviour}
use Rattle.syntax_trees.specs.WrittenDefinition.{WrittenHeading, WrittenInner, WrittenSpecification}
use Rattle.syntax_trees.specs.WrittenItem.{WrittenItem}

abbrev pub whole_specification : WrittenHeading → List WrittenItem → WrittenBehaviour → List WrittenInner → WrittenSpecification
whole_specification heading items body inner = record { heading = heading; items = items; body = body; inner = inner }
