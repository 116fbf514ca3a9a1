use Rattle.std.proofs.Common.{◌≡◌, drop, length, map}
use Rattle.syntax_trees.specs.TreeViews.{gate_choices_of}
use Rattle.scope_parts.specs.Choices.{choices_follow}
use Rattle.scope_parts.specs.GatesDeclared.{declared}
use Rattle.scope_parts.specs.GatesView.{gates_in, choice_in}
use Rattle.scope_parts.specs.Numbering.{choice_names}
use Rattle.scope_parts.proofs.AnswerLemmas.{prefixed}
use Rattle.scope_parts.proofs.gate_table.GateTable.following_choices.Given as goal

abbrev pub invariant-loop-text : goal.invariant-loop-text
invariant-loop-text l = record {
  counted : length l.made.items ≡ l.text-index;
  read :
      prefixed (map choice_in l.made.items)
      (choices_follow (gates_in l.self).visible (length (gates_in l.self).names) (gate_choices_of (drop l.text-index l.text-items)))
      ≡ choices_follow (gates_in l.initial.self).visible (length (gates_in l.initial.self).names) (gate_choices_of l.text-items);
  declared :
      declared (choice_names (gate_choices_of (drop l.text-index l.text-items))) (gates_in l.self)
      ≡ declared (choice_names (gate_choices_of l.text-items)) (gates_in l.initial.self);
}
