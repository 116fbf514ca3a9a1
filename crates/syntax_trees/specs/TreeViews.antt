-- The plain values that the code's syntax trees stand for.
use Rattle.std.specs.Prelude.{List, Option, map, option_map, Vec}
use Rattle.std.specs.declared.alloc.Global.{Global}
use Rattle.lotos_base.specs.declared.places.Place.{Place}
use Rattle.lotos_base.specs.declared.names.Name.{Name}
use Rattle.lotos_base.specs.declared.written_terms.Written.{Written}
use Rattle.lotos_base.specs.Name.{spelling}
use Rattle.lotos_base.specs.WrittenTerm.{PlacedName, WrittenTerm}
use Rattle.lotos_base.specs.WrittenView.{text_place_of, form_of, placed_name_of, written_term_of, written_terms_of}
use Rattle.syntax_trees.specs.declared.named.VarText.{VarText}
use Rattle.syntax_trees.specs.declared.equations.TestText.{TestText}
use Rattle.syntax_trees.specs.declared.equations.EqText.{EqText}
use Rattle.syntax_trees.specs.declared.equations.GroupText.{GroupText}
use Rattle.syntax_trees.specs.declared.equations.EqnsText.{EqnsText}
use Rattle.syntax_trees.specs.declared.items.OpText.{OpText}
use Rattle.syntax_trees.specs.declared.items.PairText.{PairText}
use Rattle.syntax_trees.specs.declared.items.ItemText.{ItemText}
use Rattle.syntax_trees.specs.declared.items.ItemBody.TheVariants.{Library, Extends, Renames, Actualises}
use Rattle.syntax_trees.specs.declared.behaviours.Sign.{Sign}
use Rattle.syntax_trees.specs.declared.behaviours.Sign.TheVariants as sign
use Rattle.syntax_trees.specs.declared.behaviours.GateText.{GateText}
use Rattle.syntax_trees.specs.declared.behaviours.ExitText.{ExitText}
use Rattle.syntax_trees.specs.declared.behaviours.ExitText.TheVariants as exit_text
use Rattle.syntax_trees.specs.declared.behaviours.OfferText.{OfferText}
use Rattle.syntax_trees.specs.declared.behaviours.OfferText.TheVariants as offer_text
use Rattle.syntax_trees.specs.declared.behaviours.BehText.{BehText}
use Rattle.syntax_trees.specs.declared.behaviours.BehForm.{BehForm, Stop, Exit, Call, Action', Inner', Guard', Hide', Let', ChooseValue', ChooseGate', ParGate', Binary'}
use Rattle.syntax_trees.specs.declared.definitions.SpecText.{SpecText}
use Rattle.syntax_trees.specs.declared.definitions.ProcessText.{ProcessText, fold-ProcessText}
use Rattle.syntax_trees.specs.declared.definitions.InnerText.{InnerText, fold-InnerText}
use Rattle.syntax_trees.specs.declared.definitions.InnerText.TheOpen.{InnerText-F, ProcessText-F}
use Rattle.syntax_trees.specs.Strength.{PlacedSign}
use Rattle.syntax_trees.specs.WrittenVariable.{WrittenVariable}
use Rattle.syntax_trees.specs.WrittenEquation.{WrittenPremiss, WrittenEquation, WrittenGroup, WrittenEquations}
use Rattle.syntax_trees.specs.WrittenItem as item
use Rattle.syntax_trees.specs.WrittenItem.{WrittenOperation, WrittenPair, WrittenSections, WrittenPairs, WrittenItem}
use Rattle.syntax_trees.specs.WrittenBehaviour as behaviour
use Rattle.syntax_trees.specs.WrittenBehaviour.{WrittenSign, WrittenGateChoice, WrittenExitValue, WrittenOffer, WrittenBehaviour}
use Rattle.syntax_trees.specs.WrittenDefinition.{WrittenHeading, WrittenInner, inner_item, process, inners_of, WrittenSpecification}

-- names with their places, in their order
abbrev pub placed_names_of : List (Place × Name) → List PlacedName
placed_names_of names = map placed_name_of names

abbrev pub written_variable_of : VarText → WrittenVariable
written_variable_of variable = record {
  place = text_place_of variable.place;
  name = spelling variable.name;
  sort = spelling variable.sort;
  sort_place = text_place_of variable.sort_place;
}

abbrev pub written_variables_of : List VarText → List WrittenVariable
written_variables_of variables = map written_variable_of variables

abbrev pub premiss_of : TestText → WrittenPremiss
premiss_of test = record {
  place = text_place_of test.place;
  left = written_term_of test.left;
  right = option_map written_term_of test.right;
}

abbrev pub written_equation_of : EqText → WrittenEquation
written_equation_of equation = record {
  place = text_place_of equation.place;
  premisses = map premiss_of equation.premisses.items;
  arrow = option_map text_place_of equation.arrow;
  left = written_term_of equation.left;
  right = written_term_of equation.right;
}

abbrev pub group_of : GroupText → WrittenGroup
group_of group = record {
  place = text_place_of group.place;
  sort = spelling group.sort;
  variables = written_variables_of group.variables.items;
  equations = map written_equation_of group.equations.items;
}

abbrev pub equations_of : EqnsText → WrittenEquations
equations_of equations = record {
  variables = written_variables_of equations.variables.items;
  groups = map group_of equations.groups.items;
}

abbrev pub written_operation_of : OpText → WrittenOperation
written_operation_of operation = record {
  place = text_place_of operation.place;
  name = spelling operation.name;
  form = form_of operation.form;
  arguments = placed_names_of operation.arguments.items;
  result = placed_name_of operation.result;
}

abbrev pub pair_of : PairText → WrittenPair
pair_of pair = record {
  place = text_place_of pair.place;
  given = spelling pair.given;
  replaced = placed_name_of pair.replaced;
}

abbrev pub pairs_of : List PairText → List PairText → WrittenPairs
pairs_of sorts operations = record { sort_pairs = map pair_of sorts; operation_pairs = map pair_of operations }

abbrev pub item_of : ItemText → WrittenItem
item_of text = elim text.body [
  | Library names ↦ item.libraries (text_place_of text.place) (placed_names_of names.items)
  | Extends name imports formal_sorts formal_ops formal_equations sorts ops equations ↦
      item.type_declared (text_place_of text.place) (spelling name)
      (item.extends (placed_names_of imports.items) (record {
        formal_sorts = placed_names_of formal_sorts.items;
        formal_operations = map written_operation_of formal_ops.items;
        formal_equations = equations_of formal_equations;
        sorts = placed_names_of sorts.items;
        operations = map written_operation_of ops.items;
        equations = equations_of equations;
      }))
  | Renames name base sort_pairs op_pairs ↦
      item.type_declared (text_place_of text.place) (spelling name) (item.renames (placed_name_of base)
      (pairs_of sort_pairs.items op_pairs.items))
  | Actualises name base actuals sort_pairs op_pairs ↦
      item.type_declared (text_place_of text.place) (spelling name)
      (item.actualises (placed_name_of base) (placed_names_of actuals.items) (pairs_of sort_pairs.items op_pairs.items))
]

abbrev pub sign_of : Sign → WrittenSign
sign_of sign.Choice = behaviour.choice_sign
sign_of sign.Interleave = behaviour.interleaving
sign_of sign.Full = behaviour.full_synchronisation
sign_of (sign.Gates gates) = behaviour.synchronising (placed_names_of gates.items)
sign_of sign.Disable = behaviour.disabling
sign_of (sign.Enable variables) = behaviour.enabling (written_variables_of variables.items)

abbrev pub gate_choice_of : GateText → WrittenGateChoice
gate_choice_of gate = record {
  place = text_place_of gate.place;
  name = spelling gate.name;
  among = placed_names_of gate.among.items;
}

abbrev pub gate_choices_of : List GateText → List WrittenGateChoice
gate_choices_of gates = map gate_choice_of gates

abbrev pub written_exit_value_of : ExitText → WrittenExitValue
written_exit_value_of (exit_text.Give term) = behaviour.exit_term (written_term_of term)
written_exit_value_of (exit_text.Any sort) = behaviour.exit_any (placed_name_of sort)

abbrev pub written_offer_of : OfferText → WrittenOffer
written_offer_of (offer_text.Give term) = behaviour.offer_value (written_term_of term)
written_offer_of (offer_text.Ask variable) = behaviour.offer_variable (written_variable_of variable)

abbrev pub lets_of : List (VarText × Written) → List (WrittenVariable × WrittenTerm)
lets_of pairs = map (λ pair. (written_variable_of pair.0, written_term_of pair.1)) pairs

-- a form of a behaviour that stands at the place
abbrev pub written_behaviour_at : Place → BehForm → WrittenBehaviour
written_behaviour_at place Stop = behaviour.stop (text_place_of place)
written_behaviour_at place (Exit values) = behaviour.exit (text_place_of place) (map written_exit_value_of values.items)
written_behaviour_at place (Call name gates values) =
    behaviour.call (text_place_of place) (spelling name) (placed_names_of gates.items) (written_terms_of values.items)
written_behaviour_at place (Action' gate offers test _ next_place next) =
    behaviour.action (text_place_of place) (spelling gate) (map written_offer_of offers.items) (option_map premiss_of test)
    (written_behaviour_at next_place next)
written_behaviour_at place (Inner' _ next_place next) = behaviour.inner_action (text_place_of place) (written_behaviour_at next_place next)
written_behaviour_at place (Guard' test _ next_place next) =
    behaviour.guard (text_place_of place) (premiss_of test) (written_behaviour_at next_place next)
written_behaviour_at place (Hide' gates _ next_place next) =
    behaviour.hide (text_place_of place) (placed_names_of gates.items) (written_behaviour_at next_place next)
written_behaviour_at place (Let' values _ next_place next) =
    behaviour.let_be (text_place_of place) (lets_of values.items) (written_behaviour_at next_place next)
written_behaviour_at place (ChooseValue' variables _ next_place next) =
    behaviour.choose_value (text_place_of place) (written_variables_of variables.items) (written_behaviour_at next_place next)
written_behaviour_at place (ChooseGate' gates _ next_place next) =
    behaviour.choose_gate (text_place_of place) (gate_choices_of gates.items) (written_behaviour_at next_place next)
written_behaviour_at place (ParGate' gates sign _ next_place next) =
    behaviour.par_gate (text_place_of place) (gate_choices_of gates.items) (sign_of sign) (written_behaviour_at next_place next)
written_behaviour_at place (Binary' sign _ left_place left _ right_place right) =
    behaviour.binary (text_place_of place) (sign_of sign) (written_behaviour_at left_place left) (written_behaviour_at right_place right)

abbrev pub written_behaviour_of : BehText → WrittenBehaviour
written_behaviour_of text = written_behaviour_at text.place text.form

-- the sorts of `exit`, or None for `noexit`
abbrev pub written_functionality_of : Option (Vec (Place × Name) Global) → Option (List PlacedName)
written_functionality_of = option_map (λ sorts. placed_names_of sorts.items)

-- what stands before a body
abbrev pub heading_of : Place → Name → List (Place × Name) → List VarText → Option (Vec (Place × Name) Global) → WrittenHeading
heading_of place name gates parameters functionality = record {
  place = text_place_of place;
  name = spelling name;
  gates = placed_names_of gates;
  parameters = written_variables_of parameters;
  functionality = written_functionality_of functionality;
}

-- a declaration of a `where`, whose process is a plain value already
abbrev pub inner_level : InnerText-F WrittenInner WrittenInner → WrittenInner
inner_level (InnerText-F.Item item) = inner_item (item_of item)
inner_level (InnerText-F.Process definition) = definition

-- a process whose own declarations are plain values already
abbrev pub process_level : ProcessText-F WrittenInner WrittenInner → WrittenInner
process_level definition =
    process (heading_of definition.place definition.name definition.gates.items definition.params.items definition.func)
    (written_behaviour_of definition.body) (inners_of definition.inner.items)

abbrev pub inner_of : InnerText → WrittenInner
inner_of = fold-InnerText WrittenInner WrittenInner inner_level process_level

abbrev pub written_process_of : ProcessText → WrittenInner
written_process_of = fold-ProcessText WrittenInner WrittenInner inner_level process_level

abbrev pub inner_list_of : List InnerText → List WrittenInner
inner_list_of inner = map inner_of inner

abbrev pub written_specification_of : SpecText → WrittenSpecification
written_specification_of text = record {
  heading = heading_of text.place text.name text.gates.items text.params.items text.func;
  items = map item_of text.items.items;
  body = written_behaviour_of text.body;
  inner = inner_list_of text.inner.items;
}

-- a sign with its place
abbrev pub placed_sign_of : Place × Sign → PlacedSign
placed_sign_of sign = record { place = text_place_of sign.0; sign = sign_of sign.1 }
