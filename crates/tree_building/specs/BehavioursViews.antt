-- The plain values of what the parts of behaviours are built into.
use Rattle.std.specs.Prelude.{option_map}
use Rattle.lotos_base.specs.declared.places.Place.{Place}
use Rattle.lotos_base.specs.declared.written_terms.Written.{Written}
use Rattle.lotos_base.specs.WrittenTerm.{WrittenTerm}
use Rattle.lotos_base.specs.WrittenView.{text_place_of, placed_name_of, written_term_of}
use Rattle.syntax_trees.specs.declared.named.VarText.{VarText}
use Rattle.syntax_trees.specs.TreeViews.{written_variable_of, premiss_of, written_offer_of, written_exit_value_of, gate_choice_of, written_behaviour_of, placed_sign_of}
use Rattle.syntax_trees.specs.WrittenVariable.{WrittenVariable}
use Rattle.tree_building.specs.declared.behaviours_values.Flat.{Flat}
use Rattle.tree_building.specs.declared.behaviours_values.ActionEnd.{ActionEnd}
use Rattle.tree_building.specs.declared.behaviours_values.CallEnd.{CallEnd}
use Rattle.tree_building.specs.declared.behaviours_values.ValueChoiceEnd.{ValueChoiceEnd}
use Rattle.tree_building.specs.declared.behaviours_values.GateChoiceEnd.{GateChoiceEnd}
use Rattle.lotos_rows.specs.HandedOn.{from_last}
use Rattle.tree_building.specs.Meaning.{PlainFlat, PlainActionEnd, PlainCallEnd, PlainValueChoiceEnd, PlainGateChoiceEnd}

abbrev pub written_let_of : VarText × Written → WrittenVariable × WrittenTerm
written_let_of pair = (written_variable_of pair.0, written_term_of pair.1)

abbrev pub flat_of : Flat → PlainFlat
flat_of flat = record { operands = from_last written_behaviour_of flat.operands.items; signs = from_last placed_sign_of flat.signs.items }

abbrev pub action_end_of : ActionEnd → PlainActionEnd
action_end_of end = record {
  offers = from_last written_offer_of end.offers.items;
  test = option_map premiss_of end.test;
  behind = flat_of end.behind;
}

abbrev pub call_end_of : CallEnd → PlainCallEnd
call_end_of end = record {
  gates = from_last placed_name_of end.gates.items;
  values = from_last written_term_of end.values.items;
  behind = flat_of end.behind;
}

abbrev pub value_choice_end_of : ValueChoiceEnd → PlainValueChoiceEnd
value_choice_end_of end = record {
  sort = placed_name_of end.sort;
  more = from_last written_variable_of end.more.items;
  inside = written_behaviour_of end.inside.value;
}

abbrev pub gate_choice_end_of : GateChoiceEnd → PlainGateChoiceEnd
gate_choice_end_of end = record {
  among = from_last placed_name_of end.among.items;
  more = from_last gate_choice_of end.more.items;
  inside = written_behaviour_of end.inside.value;
}
