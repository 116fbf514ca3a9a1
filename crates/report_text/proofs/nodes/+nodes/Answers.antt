use Rattle.std.proofs.Common.{◌++◌, [], Bool, refl, ap, sym, ◌∙◌, subst}
use Rattle.std.proofs.lemmas.Result.{on_ok_weaker}
use Rattle.lotos_base.proofs.Pieces.{three_pieces, two_pieces}
use Rattle.lotos_base.specs.Substitution.{binding, without}
use Rattle.behaviour_semantics.specs.Replacement.{with_values}
use Rattle.behaviour_semantics.specs.Behaviour.{numbers_of}
use Rattle.behaviour_tree.specs.BehaviourView.{behaviour_of, variables_of}
use Rattle.behaviour_tree.specs.Closed.{IsClosedBy, IsClosedNode, IsClosedUnder}
use Rattle.behaviour_tree.specs.StateView.{environment_of, stands_for}
use Rattle.behaviour_tree.specs.declared.behaviours.Beh.{Beh}
use Rattle.behaviour_tree.specs.declared.states.Node.{Node}
use Rattle.printed_texts.specs.BehaviourText.{behaviour_text}
use Rattle.printed_texts.specs.Brackets.{bracketed}
use Rattle.printed_texts.proofs.BracketLemmas.{closed_text}
use Rattle.report_text.specs.NamingView.{naming_of}
use Rattle.report_text.proofs.PartLemmas.{form_less, left_form_less, left_unit_less, part_less, part_unit_less, right_unit_less, unit_less}
use Rattle.report_text.proofs.TextLemmas.{part_text, unit_part}
use Rattle.report_text.proofs.nodes.+nodes.Goals as goal

pub push_node-returns-in-Stop : goal.push_node-returns-in-Stop
push_node-returns-in-Stop t c =
    on_ok_weaker c.push_text.result (λ h. h ∙ ap (λ (n : Node). c.args.into.now.items ++ behaviour_text (naming_of c.args.naming.now) [] (stands_for n)) (sym c.in-Stop.is)) c.push_text.ensures

pub push_node-push_part-requires : goal.push_node-push_part-requires
push_node-push_part-requires t c =
    subst (λ (b : Beh). IsClosedBy c.in-Part.environment.items (behaviour_of b)) (sym c.deref.ensures)
    (subst (λ (n : Node). IsClosedNode n) c.in-Part.is c.requires)

pub push_node-returns-in-Part : goal.push_node-returns-in-Part
push_node-returns-in-Part t c =
    on_ok_weaker c.push_part.result
    (λ h. h ∙ (ap (λ (b : Beh). c.args.into.now.items ++ behaviour_text (naming_of c.args.naming.now) [] (with_values
    (binding (environment_of c.in-Part.environment.items)) (behaviour_of b)))
    c.deref.ensures ∙ ap (λ (n : Node). c.args.into.now.items ++ behaviour_text (naming_of c.args.naming.now) []
    (stands_for n)) (sym c.in-Part.is))) c.push_part.ensures

pub push_node-returns-in-Call : goal.push_node-returns-in-Call
push_node-returns-in-Call t c =
    on_ok_weaker c.push_call.result (λ h. h ∙ ap (λ (n : Node). c.args.into.now.items ++ behaviour_text (naming_of c.args.naming.now) [] (stands_for n)) (sym c.in-Call.is)) c.push_call.ensures

pub push_node-push_parallel-requires : goal.push_node-push_parallel-requires
push_node-push_parallel-requires t c = (
  form_less (stands_for c.args.node.now) _ _ (ap stands_for c.in-Parallel.is) c.decreases,
  subst (λ (n : Node). IsClosedNode n)
      c.in-Parallel.is c.requires,
)

pub push_node-returns-in-Parallel : goal.push_node-returns-in-Parallel
push_node-returns-in-Parallel t c =
    on_ok_weaker c.push_parallel.result (λ h. h ∙ ap (λ (n : Node). c.args.into.now.items ++ behaviour_text (naming_of
    c.args.naming.now) [] (stands_for n)) (sym c.in-Parallel.is)) c.push_parallel.ensures

pub push_node-push_hidden-requires : goal.push_node-push_hidden-requires
push_node-push_hidden-requires t c = (
  form_less (stands_for c.args.node.now) _ _ (ap stands_for c.in-Hide.is) c.decreases,
  subst (λ (n : Node). IsClosedNode n)
      c.in-Hide.is c.requires,
)

pub push_node-returns-in-Hide : goal.push_node-returns-in-Hide
push_node-returns-in-Hide t c =
    on_ok_weaker c.push_hidden.result (λ h. h ∙ ap (λ (n : Node). c.args.into.now.items ++ behaviour_text (naming_of c.args.naming.now) [] (stands_for n)) (sym c.in-Hide.is)) c.push_hidden.ensures

pub push_node-push_disabling-requires : goal.push_node-push_disabling-requires
push_node-push_disabling-requires t c = (
  form_less (stands_for c.args.node.now) _ _ (ap stands_for c.in-Disable.is) c.decreases,
  subst (λ (n : Node). IsClosedNode n)
      c.in-Disable.is c.requires,
)

pub push_node-returns-in-Disable : goal.push_node-returns-in-Disable
push_node-returns-in-Disable t c =
    on_ok_weaker c.push_disabling.result (λ h. h ∙ ap (λ (n : Node). c.args.into.now.items ++ behaviour_text (naming_of
    c.args.naming.now) [] (stands_for n)) (sym c.in-Disable.is)) c.push_disabling.ensures

pub push_node-push_relabelled-requires : goal.push_node-push_relabelled-requires
push_node-push_relabelled-requires t c = (
  form_less (stands_for c.args.node.now) _ _ (ap stands_for c.in-Relabel.is) c.decreases,
  (subst (λ (n : Node). IsClosedNode n)
      c.in-Relabel.is c.requires).1,
)

pub push_node-returns-in-Relabel : goal.push_node-returns-in-Relabel
push_node-returns-in-Relabel t c =
    on_ok_weaker c.push_relabelled.result (λ h. h ∙ ap (λ (n : Node). c.args.into.now.items ++ behaviour_text (naming_of
    c.args.naming.now) [] (stands_for n)) (sym c.in-Relabel.is)) c.push_relabelled.ensures

pub push_node-push_enabling-requires : goal.push_node-push_enabling-requires
push_node-push_enabling-requires t c = (
  left_form_less (stands_for c.args.node.now) _ _ _ _ (ap stands_for c.in-Enable.is) refl c.decreases,
  subst (λ (n : Node).
      IsClosedNode n) c.in-Enable.is c.requires,
)

pub push_node-returns-in-Enable : goal.push_node-returns-in-Enable
push_node-returns-in-Enable t c =
    on_ok_weaker c.push_enabling.result (λ h. h ∙ ap (λ (n : Node). c.args.into.now.items ++ behaviour_text (naming_of
    c.args.naming.now) [] (stands_for n)) (sym c.in-Enable.is)) c.push_enabling.ensures

pub push_node_unit-push_node-requires : goal.push_node_unit-push_node-requires
push_node_unit-push_node-requires t c =
    (unit_less (stands_for c.args.part.now) _ _ refl c.decreases, c.requires)

pub push_node_unit-returns : goal.push_node_unit-returns
push_node_unit-returns t c =
    on_ok_weaker c.close_bracket.result
    (λ h. closed_text c.is_in_brackets-is_needed.result c.args.into.now.items _ _ _ _ _ c.in_ok-position.ensures.opened
    c.in_ok-position.ensures.place
    c.in_ok-push_node.ensures h
    ∙ ap (λ (needed : Bool). c.args.into.now.items ++ bracketed needed (behaviour_text (naming_of c.args.naming.now) []
    (stands_for c.args.part.now)))
    c.is_in_brackets-is_needed.ensures) c.close_bracket.ensures

pub push_parallel-push_node_unit-requires : goal.push_parallel-push_node_unit-requires
push_parallel-push_node_unit-requires t c = (
  left_unit_less _ _ _ _ (ap stands_for c.deref.ensures) c.decreases,
  subst (λ (n : Node). IsClosedNode n) (sym c.deref.ensures)
      c.requires.0,
)

pub push_parallel-push_node_unit-requires-2 : goal.push_parallel-push_node_unit-requires-2
push_parallel-push_node_unit-requires-2 t c = (
  right_unit_less _ _ _ _ (ap stands_for c.deref-2.ensures) c.decreases,
  subst (λ (n : Node). IsClosedNode n) (sym c.deref-2.ensures)
      c.requires.1,
)

pub push_parallel-returns : goal.push_parallel-returns
push_parallel-returns t c =
    on_ok_weaker c.push_node_unit-2.result
    (λ h. three_pieces c.args.into.now.items _ _ _ _ _ _
    (unit_part (naming_of c.args.naming.now) _ _ [] [] _ _ refl (ap stands_for c.deref.ensures)
    c.in_ok-push_node_unit.ensures)
    c.in_ok-push_meet.ensures (unit_part (naming_of c.args.naming.now) _ _ [] [] _ _ refl (ap stands_for
    c.deref-2.ensures) h)) c.push_node_unit-2.ensures

pub push_disabling-push_node_unit-requires : goal.push_disabling-push_node_unit-requires
push_disabling-push_node_unit-requires t c = (
  left_unit_less _ _ _ _ (ap stands_for c.deref.ensures) c.decreases,
  subst (λ (n : Node). IsClosedNode n) (sym c.deref.ensures)
      c.requires.0,
)

pub push_disabling-push_node_unit-requires-2 : goal.push_disabling-push_node_unit-requires-2
push_disabling-push_node_unit-requires-2 t c = (
  right_unit_less _ _ _ _ (ap stands_for c.deref-2.ensures) c.decreases,
  subst (λ (n : Node). IsClosedNode n) (sym c.deref-2.ensures)
      c.requires.1,
)

pub push_disabling-returns : goal.push_disabling-returns
push_disabling-returns t c =
    on_ok_weaker c.push_node_unit-2.result
    (λ h. three_pieces c.args.into.now.items _ _ _ _ _ _
    (unit_part (naming_of c.args.naming.now) _ _ [] [] _ _ refl (ap stands_for c.deref.ensures)
    c.in_ok-push_node_unit.ensures)
    c.in_ok-push_text.ensures (unit_part (naming_of c.args.naming.now) _ _ [] [] _ _ refl (ap stands_for
    c.deref-2.ensures) h)) c.push_node_unit-2.ensures

pub push_hidden-push_node-requires : goal.push_hidden-push_node-requires
push_hidden-push_node-requires t c =
    (part_less _ _ _ (ap stands_for c.deref.ensures) c.decreases, subst (λ (n : Node). IsClosedNode n) (sym c.deref.ensures) c.requires)

pub push_hidden-returns : goal.push_hidden-returns
push_hidden-returns t c =
    on_ok_weaker c.push_node.result
    (λ h. two_pieces c.args.into.now.items _ _ _ _ c.in_ok-push_hide.ensures (part_text (naming_of c.args.naming.now) _
    _ [] [] _ _ refl (ap stands_for c.deref.ensures) h)) c.push_node.ensures

pub push_relabelled-push_node-requires : goal.push_relabelled-push_node-requires
push_relabelled-push_node-requires t c =
    (part_less _ _ _ (ap stands_for c.deref.ensures) c.decreases, subst (λ (n : Node). IsClosedNode n) (sym c.deref.ensures) c.requires)

pub push_relabelled-returns : goal.push_relabelled-returns
push_relabelled-returns t c =
    on_ok_weaker c.push_node.result
    (λ h. two_pieces c.args.into.now.items _ _ _ _ c.in_ok-push_relabel.ensures (part_text (naming_of c.args.naming.now) _ _ [] [] _ _ refl (ap stands_for c.deref.ensures) h)) c.push_node.ensures

pub push_enabling-push_node_unit-requires : goal.push_enabling-push_node_unit-requires
push_enabling-push_node_unit-requires t c = (
  part_unit_less _ _ _ (ap stands_for c.deref.ensures) c.decreases,
  subst (λ (n : Node). IsClosedNode n) (sym c.deref.ensures)
      c.requires.0,
)

pub push_enabling-push_following-requires : goal.push_enabling-push_following-requires
push_enabling-push_following-requires t c =
    subst (λ (b : Beh). IsClosedUnder (variables_of c.args.variables.now.items) c.args.environment.now.items (behaviour_of b))
    (sym c.deref-2.ensures) c.requires.1

pub push_enabling-returns : goal.push_enabling-returns
push_enabling-returns t c =
    on_ok_weaker c.push_following.result
    (λ h. three_pieces c.args.into.now.items _ _ _ _ _ _
    (unit_part (naming_of c.args.naming.now) _ _ [] [] _ _ refl (ap stands_for c.deref.ensures)
    c.in_ok-push_node_unit.ensures)
    c.in_ok-push_accept.ensures
    (unit_part (naming_of c.args.naming.now) _ _ _ _ _ _ refl (ap (λ (b : Beh). with_values (without (numbers_of
    (variables_of c.args.variables.now.items))
    (binding (environment_of c.args.environment.now.items))) (behaviour_of b)) c.deref-2.ensures) h)) c.push_following.ensures
