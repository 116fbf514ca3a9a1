-- The gates of a table of gates, and the choices of gates that the code keeps.
use Rattle.std.specs.Prelude.{List, map}
use Rattle.lotos_base.specs.Name.{spelling}
use Rattle.behaviour_tree.specs.BehaviourView.{meet_of}
use Rattle.scope_parts.specs.Choices as plain
use Rattle.scope_parts.specs.Choices.{with_signs}
use Rattle.scope_parts.specs.GatesDeclared.{Gates, Entered}
use Rattle.scope_parts.specs.BindingsView.{bindings_in}
use Rattle.scope_parts.specs.declared.bindings.Bindings.{Bindings}
use Rattle.scope_parts.specs.declared.gate_table.GateTable.{GateTable}
use Rattle.scope_parts.specs.declared.gate_choices.GateChoice.{GateChoice}
use Rattle.scope_parts.specs.declared.gate_choices.ParChoices.{ParChoices}

abbrev pub gates_in : GateTable → Gates
gates_in table = record { names = map spelling table.names.items; visible = bindings_in table.visible }

abbrev pub entered_in : Bindings → GateTable → Entered
entered_in before table = record { before = bindings_in before; gates = gates_in table }

-- a declared gate with the gates that it stands for
abbrev pub choice_in : GateChoice → plain.GateChoice
choice_in choice_ = record { gate = choice_.gate; among = choice_.among.items }

-- those of a `par`, each with the gates of its sign
abbrev pub pars_in : ParChoices → List plain.ParChoice
pars_in pars = with_signs (map choice_in pars.choices.items) (map meet_of pars.meets.items)
