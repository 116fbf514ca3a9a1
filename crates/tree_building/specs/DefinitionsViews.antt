-- The plain values of what the parts of definitions of processes and headings are built into.
use Rattle.std.specs.Prelude.{List, map, option_map, Vec}
use Rattle.std.specs.declared.alloc.Global.{Global}
use Rattle.lotos_base.specs.declared.places.Place.{Place}
use Rattle.lotos_base.specs.declared.names.Name.{Name}
use Rattle.lotos_base.specs.WrittenTerm.{PlacedName}
use Rattle.lotos_base.specs.WrittenView.{placed_name_of}
use Rattle.syntax_trees.specs.TreeViews.{heading_of, inner_of, written_process_of}
use Rattle.syntax_trees.specs.WrittenDefinition.{WrittenHeading}
use Rattle.tree_building.specs.declared.definitions_values.Heading.{Heading}

-- the sorts of an `exit`, in text order
abbrev pub written_exit_sorts_of : Vec (Place × Name) Global → List PlacedName
written_exit_sorts_of sorts = map placed_name_of sorts.items

abbrev pub plain_heading_of : Heading → WrittenHeading
plain_heading_of heading = heading_of heading.place heading.name heading.gates.items heading.params.items heading.func
