use Rattle.std.proofs.Common.{◌≡◌, drop, length, map}
use Rattle.behaviour_tree.specs.BehaviourView.{meet_of}
use Rattle.syntax_trees.specs.TreeViews.{gate_choices_of, sign_of}
use Rattle.scope_parts.specs.BindingsView.{bindings_in}
use Rattle.scope_parts.specs.Choices.{signs_follow}
use Rattle.scope_parts.specs.Numbering.{choice_names}
use Rattle.scope_parts.specs.Scope.{bind_all}
use Rattle.scope_parts.proofs.AnswerLemmas.{prefixed}
use Rattle.scope_parts.proofs.signs.meets_at.Given as goal

abbrev pub invariant-loop-text : goal.invariant-loop-text
invariant-loop-text l = record {
  counted : length l.made.items ≡ l.text-index;
  read :
      prefixed (map meet_of l.made.items)
      (signs_follow (bindings_in l.visible) l.number (sign_of l.sign) (gate_choices_of (drop l.text-index l.text-items)))
      ≡ signs_follow (bindings_in l.initial.visible) l.first (sign_of l.sign) (gate_choices_of l.text-items);
  bound :
      bind_all (choice_names (gate_choices_of (drop l.text-index l.text-items))) l.number (bindings_in l.visible)
      ≡ bind_all (choice_names (gate_choices_of l.text-items)) l.first (bindings_in l.initial.visible);
}
