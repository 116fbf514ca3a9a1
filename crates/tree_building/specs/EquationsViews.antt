-- The plain values of what the parts of equations are built into.
use Rattle.std.specs.Prelude.{option_map}
use Rattle.lotos_base.specs.WrittenView.{text_place_of, written_term_of}
use Rattle.syntax_trees.specs.TreeViews.{premiss_of, written_equation_of, group_of}
use Rattle.tree_building.specs.declared.equations_values.Conclusion.{Conclusion}
use Rattle.tree_building.specs.declared.equations_values.AfterTerm.{AfterTerm}
use Rattle.lotos_rows.specs.HandedOn.{from_last}
use Rattle.tree_building.specs.Meaning.{PlainConclusion, PlainAfterTerm}

abbrev pub conclusion_of : Conclusion → PlainConclusion
conclusion_of conclusion = record {
  premisses = from_last premiss_of conclusion.premisses.items;
  arrow = text_place_of conclusion.arrow;
  left = written_term_of conclusion.sides.value.0;
  right = written_term_of conclusion.sides.value.1;
}

abbrev pub after_term_of : AfterTerm → PlainAfterTerm
after_term_of after = record { right = option_map written_term_of after.right; conclusion = option_map conclusion_of after.conclusion }
