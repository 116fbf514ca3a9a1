-- The sections that the code's stand for.
use Rattle.std.specs.Prelude.{map}
use Rattle.syntax_trees.specs.WrittenItem.{WrittenSections}
use Rattle.syntax_trees.specs.TreeViews.{placed_names_of, written_operation_of, equations_of}
use Rattle.type_presentations.specs.declared.sections.SectionTexts.{SectionTexts}

-- the sections
abbrev pub sections_of : SectionTexts → WrittenSections
sections_of sections = record {
  formal_sorts = placed_names_of sections.formal_sorts.now;
  formal_operations = map written_operation_of sections.formal_ops.now;
  formal_equations = equations_of sections.formal_equations.now;
  sorts = placed_names_of sections.sorts.now;
  operations = map written_operation_of sections.ops.now;
  equations = equations_of sections.equations.now;
}
