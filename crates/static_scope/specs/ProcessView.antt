-- Processes as they are written.
use Rattle.syntax_trees.specs.TreeViews.{heading_of, written_behaviour_of, inner_list_of}
use Rattle.syntax_trees.specs.WrittenDefinition.{WrittenHeading, WrittenInner, process, inners_of}
use Rattle.syntax_trees.specs.declared.definitions.ProcessText.{ProcessText}

-- the heading of a process
abbrev pub process_heading : ProcessText → WrittenHeading
process_heading text = heading_of text.place text.name text.gates.items text.params.items text.func

-- a process as it is written, with what its `where` declares
abbrev pub written_definition : ProcessText → WrittenInner
written_definition text =
    process (process_heading text) (written_behaviour_of text.body) (inners_of (inner_list_of text.inner.items))
