use Rattle.std.proofs.Common.{List, ◌++◌, map, option_map, Bool, refl, codes, ap, sym, ◌∙◌}
use Rattle.std.proofs.lemmas.Result.{on_ok_weaker}
use Rattle.lotos_base.proofs.Pieces.{three_pieces, two_pieces}
use Rattle.lotos_base.specs.Equation.{Variable}
use Rattle.sort_terms.specs.declared.equations.Variable as kept
use Rattle.behaviour_tree.specs.BehaviourView.{behaviour_of, exit_value_of, let_of, offer_of, terms_of, test_of, variables_of}
use Rattle.behaviour_tree.specs.declared.behaviours.Beh.{Beh}
use Rattle.printed_texts.specs.BehaviourText.{behaviour_text, binding_text, call_text, exit_value_text, gate_text, offers_text, predicate_text, round_list, test_text}
use Rattle.printed_texts.specs.Brackets.{bracketed, commas}
use Rattle.printed_texts.proofs.BracketLemmas.{closed_text}
use Rattle.report_text.specs.NamingView.{naming_of}
use Rattle.report_text.proofs.PartLemmas.{form_less, left_unit_less, part_less, part_unit_less, right_unit_less, unit_less}
use Rattle.report_text.proofs.TextLemmas.{part_text, unit_part}
use Rattle.report_text.proofs.behaviours.+behaviours.Goals as goal

pub push_behaviour-returns-in-Stop : goal.push_behaviour-returns-in-Stop
push_behaviour-returns-in-Stop t c =
    on_ok_weaker c.push_text.result (λ h. h ∙ ap (λ (b : Beh). c.args.into.now.items ++ behaviour_text (naming_of c.args.naming.now) (variables_of c.args.names.now.items) (behaviour_of b)) (sym c.in-Stop.is)) c.push_text.ensures

pub push_behaviour-returns-in-Exit : goal.push_behaviour-returns-in-Exit
push_behaviour-returns-in-Exit t c =
    on_ok_weaker c.push_exit.result
    (λ h. h ∙ (ap (λ (vs : List kept.Variable). c.args.into.now.items ++ (codes "exit" ++ round_list (map (exit_value_text (naming_of
    c.args.naming.now) (variables_of vs))
    (map exit_value_of c.in-Exit.values.items)))) c.as_slice.ensures.value
    ∙ ap (λ (b : Beh). c.args.into.now.items ++ behaviour_text (naming_of c.args.naming.now) (variables_of
    c.args.names.now.items) (behaviour_of b)) (sym c.in-Exit.is))) c.push_exit.ensures

pub push_behaviour-returns-in-Call : goal.push_behaviour-returns-in-Call
push_behaviour-returns-in-Call t c =
    on_ok_weaker c.push_call.result
    (λ h. h ∙ (ap (λ (vs : List kept.Variable). c.args.into.now.items ++ call_text (naming_of c.args.naming.now)
    (variables_of vs) c.in-Call.process c.in-Call.gates.items
    (terms_of c.in-Call.values.items)) c.as_slice-in-Call.ensures.value
    ∙ ap (λ (b : Beh). c.args.into.now.items ++ behaviour_text (naming_of c.args.naming.now) (variables_of
    c.args.names.now.items) (behaviour_of b)) (sym c.in-Call.is))) c.push_call.ensures

pub push_behaviour-push_prefix-requires : goal.push_behaviour-push_prefix-requires
push_behaviour-push_prefix-requires t c =
    (form_less (behaviour_of c.args.behaviour.now) _ _ (ap behaviour_of c.in-Action.is) c.decreases, tt)

pub push_behaviour-returns-in-Action : goal.push_behaviour-returns-in-Action
push_behaviour-returns-in-Action t c =
    on_ok_weaker c.push_prefix.result
    (λ h. h ∙ ap (λ (b : Beh). c.args.into.now.items ++ behaviour_text (naming_of c.args.naming.now) (variables_of
    c.args.names.now.items) (behaviour_of b)) (sym c.in-Action.is)) c.push_prefix.ensures

pub push_behaviour-push_inner-requires : goal.push_behaviour-push_inner-requires
push_behaviour-push_inner-requires t c =
    (form_less (behaviour_of c.args.behaviour.now) _ _ (ap behaviour_of c.in-Inner.is) c.decreases, tt)

pub push_behaviour-returns-in-Inner : goal.push_behaviour-returns-in-Inner
push_behaviour-returns-in-Inner t c =
    on_ok_weaker c.push_inner.result
    (λ h. h ∙ ap (λ (b : Beh). c.args.into.now.items ++ behaviour_text (naming_of c.args.naming.now) (variables_of
    c.args.names.now.items) (behaviour_of b)) (sym c.in-Inner.is)) c.push_inner.ensures

pub push_behaviour-push_guarded-requires : goal.push_behaviour-push_guarded-requires
push_behaviour-push_guarded-requires t c =
    (form_less (behaviour_of c.args.behaviour.now) _ _ (ap behaviour_of c.in-Guard.is) c.decreases, tt)

pub push_behaviour-returns-in-Guard : goal.push_behaviour-returns-in-Guard
push_behaviour-returns-in-Guard t c =
    on_ok_weaker c.push_guarded.result
    (λ h. h ∙ ap (λ (b : Beh). c.args.into.now.items ++ behaviour_text (naming_of c.args.naming.now) (variables_of
    c.args.names.now.items) (behaviour_of b)) (sym c.in-Guard.is)) c.push_guarded.ensures

pub push_behaviour-push_sides-requires : goal.push_behaviour-push_sides-requires
push_behaviour-push_sides-requires t c =
    (form_less (behaviour_of c.args.behaviour.now) _ _ (ap behaviour_of c.in-Choice.is) c.decreases, tt)

pub push_behaviour-returns-in-Choice : goal.push_behaviour-returns-in-Choice
push_behaviour-returns-in-Choice t c =
    on_ok_weaker c.push_sides.result
    (λ h. h ∙ ap (λ (b : Beh). c.args.into.now.items ++ behaviour_text (naming_of c.args.naming.now) (variables_of
    c.args.names.now.items) (behaviour_of b)) (sym c.in-Choice.is)) c.push_sides.ensures

pub push_behaviour-push_parallel-requires : goal.push_behaviour-push_parallel-requires
push_behaviour-push_parallel-requires t c =
    (form_less (behaviour_of c.args.behaviour.now) _ _ (ap behaviour_of c.in-Parallel.is) c.decreases, tt)

pub push_behaviour-returns-in-Parallel : goal.push_behaviour-returns-in-Parallel
push_behaviour-returns-in-Parallel t c =
    on_ok_weaker c.push_parallel.result
    (λ h. h ∙ ap (λ (b : Beh). c.args.into.now.items ++ behaviour_text (naming_of c.args.naming.now) (variables_of
    c.args.names.now.items) (behaviour_of b)) (sym c.in-Parallel.is)) c.push_parallel.ensures

pub push_behaviour-push_hidden-requires : goal.push_behaviour-push_hidden-requires
push_behaviour-push_hidden-requires t c =
    (form_less (behaviour_of c.args.behaviour.now) _ _ (ap behaviour_of c.in-Hide.is) c.decreases, tt)

pub push_behaviour-returns-in-Hide : goal.push_behaviour-returns-in-Hide
push_behaviour-returns-in-Hide t c =
    on_ok_weaker c.push_hidden.result
    (λ h. h ∙ ap (λ (b : Beh). c.args.into.now.items ++ behaviour_text (naming_of c.args.naming.now) (variables_of
    c.args.names.now.items) (behaviour_of b)) (sym c.in-Hide.is)) c.push_hidden.ensures

pub push_behaviour-push_enabling-requires : goal.push_behaviour-push_enabling-requires
push_behaviour-push_enabling-requires t c =
    (form_less (behaviour_of c.args.behaviour.now) _ _ (ap behaviour_of c.in-Enable.is) c.decreases, tt)

pub push_behaviour-returns-in-Enable : goal.push_behaviour-returns-in-Enable
push_behaviour-returns-in-Enable t c =
    on_ok_weaker c.push_enabling.result
    (λ h. h ∙ ap (λ (b : Beh). c.args.into.now.items ++ behaviour_text (naming_of c.args.naming.now) (variables_of
    c.args.names.now.items) (behaviour_of b)) (sym c.in-Enable.is)) c.push_enabling.ensures

pub push_behaviour-push_disabling-requires : goal.push_behaviour-push_disabling-requires
push_behaviour-push_disabling-requires t c =
    (form_less (behaviour_of c.args.behaviour.now) _ _ (ap behaviour_of c.in-Disable.is) c.decreases, tt)

pub push_behaviour-returns-in-Disable : goal.push_behaviour-returns-in-Disable
push_behaviour-returns-in-Disable t c =
    on_ok_weaker c.push_disabling.result
    (λ h. h ∙ ap (λ (b : Beh). c.args.into.now.items ++ behaviour_text (naming_of c.args.naming.now) (variables_of
    c.args.names.now.items) (behaviour_of b)) (sym c.in-Disable.is)) c.push_disabling.ensures

pub push_behaviour-push_bound-requires : goal.push_behaviour-push_bound-requires
push_behaviour-push_bound-requires t c =
    (form_less (behaviour_of c.args.behaviour.now) _ _ (ap behaviour_of c.in-Let.is) c.decreases, tt)

pub push_behaviour-returns-in-Let : goal.push_behaviour-returns-in-Let
push_behaviour-returns-in-Let t c =
    on_ok_weaker c.push_bound.result
    (λ h. h ∙ ap (λ (b : Beh). c.args.into.now.items ++ behaviour_text (naming_of c.args.naming.now) (variables_of
    c.args.names.now.items) (behaviour_of b)) (sym c.in-Let.is)) c.push_bound.ensures

pub push_behaviour-push_chosen-requires : goal.push_behaviour-push_chosen-requires
push_behaviour-push_chosen-requires t c =
    (form_less (behaviour_of c.args.behaviour.now) _ _ (ap behaviour_of c.in-ChooseValue.is) c.decreases, tt)

pub push_behaviour-returns-in-ChooseValue : goal.push_behaviour-returns-in-ChooseValue
push_behaviour-returns-in-ChooseValue t c =
    on_ok_weaker c.push_chosen.result
    (λ h. h ∙ ap (λ (b : Beh). c.args.into.now.items ++ behaviour_text (naming_of c.args.naming.now) (variables_of
    c.args.names.now.items) (behaviour_of b)) (sym c.in-ChooseValue.is)) c.push_chosen.ensures

pub push_behaviour-push_at_gate-requires : goal.push_behaviour-push_at_gate-requires
push_behaviour-push_at_gate-requires t c =
    (form_less (behaviour_of c.args.behaviour.now) _ _ (ap behaviour_of c.in-ChooseGate.is) c.decreases, tt)

pub push_behaviour-returns-in-ChooseGate : goal.push_behaviour-returns-in-ChooseGate
push_behaviour-returns-in-ChooseGate t c =
    on_ok_weaker c.push_at_gate.result
    (λ h. h ∙ ap (λ (b : Beh). c.args.into.now.items ++ behaviour_text (naming_of c.args.naming.now) (variables_of
    c.args.names.now.items) (behaviour_of b)) (sym c.in-ChooseGate.is)) c.push_at_gate.ensures

pub push_behaviour-push_copies-requires : goal.push_behaviour-push_copies-requires
push_behaviour-push_copies-requires t c =
    (form_less (behaviour_of c.args.behaviour.now) _ _ (ap behaviour_of c.in-ParGate.is) c.decreases, tt)

pub push_behaviour-returns-in-ParGate : goal.push_behaviour-returns-in-ParGate
push_behaviour-returns-in-ParGate t c =
    on_ok_weaker c.push_copies.result
    (λ h. h ∙ ap (λ (b : Beh). c.args.into.now.items ++ behaviour_text (naming_of c.args.naming.now) (variables_of
    c.args.names.now.items) (behaviour_of b)) (sym c.in-ParGate.is)) c.push_copies.ensures

pub push_unit-push_behaviour-requires : goal.push_unit-push_behaviour-requires
push_unit-push_behaviour-requires t c =
    (unit_less (behaviour_of c.args.part.now) _ _ refl c.decreases, tt)

pub push_unit-returns : goal.push_unit-returns
push_unit-returns t c =
    on_ok_weaker c.close_bracket.result
    (λ h. closed_text c.is_bracketed-is_needed.result c.args.into.now.items _ _ _ _ _ c.in_ok-position.ensures.opened
    c.in_ok-position.ensures.place
    c.in_ok-push_behaviour.ensures h
    ∙ ap (λ (needed : Bool). c.args.into.now.items ++ bracketed needed (behaviour_text (naming_of c.args.naming.now)
    (variables_of c.args.names.now.items) (behaviour_of c.args.part.now)))
    c.is_bracketed-is_needed.ensures) c.close_bracket.ensures

pub push_prefix-push_unit-requires : goal.push_prefix-push_unit-requires
push_prefix-push_unit-requires t c =
    (part_unit_less _ _ _ (ap behaviour_of c.deref.ensures) c.decreases, tt)

pub push_prefix-returns : goal.push_prefix-returns
push_prefix-returns t c =
    on_ok_weaker c.push_unit.result
    (λ h. two_pieces c.args.into.now.items _ _ _ _
    (c.in_ok-push_action.ensures
    ∙ (ap (λ (vs : List kept.Variable). c.args.into.now.items ++ (gate_text (naming_of c.args.naming.now) c.args.gate
    ++ offers_text (naming_of c.args.naming.now) (variables_of vs) (map offer_of c.args.offers.now.items)
    ++ predicate_text (naming_of c.args.naming.now) (variables_of c.as_slice-2.result.now) (option_map test_of
    c.args.test.now) ++ codes "; ")) c.as_slice.ensures.value
    ∙ ap (λ (vs : List Variable). c.args.into.now.items ++ (gate_text (naming_of c.args.naming.now) c.args.gate ++
    offers_text (naming_of c.args.naming.now) (variables_of c.args.names.now.items) (map offer_of
    c.args.offers.now.items)
    ++ predicate_text (naming_of c.args.naming.now) vs (option_map test_of c.args.test.now) ++ codes "; "))
    (ap variables_of c.as_slice-2.ensures.value ∙ c.in_ok-inner.ensures)))
    (unit_part (naming_of c.args.naming.now) _ _ _ _ _ _ c.in_ok-inner.ensures (ap behaviour_of c.deref.ensures) h))
    c.push_unit.ensures

pub push_inner-push_unit-requires : goal.push_inner-push_unit-requires
push_inner-push_unit-requires t c =
    (part_unit_less _ _ _ (ap behaviour_of c.deref.ensures) c.decreases, tt)

pub push_inner-returns : goal.push_inner-returns
push_inner-returns t c =
    on_ok_weaker c.push_unit.result
    (λ h. two_pieces c.args.into.now.items _ _ _ _ c.in_ok-push_text.ensures (unit_part (naming_of c.args.naming.now) _
    _ _ _ _ _ refl (ap behaviour_of c.deref.ensures) h)) c.push_unit.ensures

pub push_guarded-push_unit-requires : goal.push_guarded-push_unit-requires
push_guarded-push_unit-requires t c =
    (part_unit_less _ _ _ (ap behaviour_of c.deref.ensures) c.decreases, tt)

pub push_guarded-returns : goal.push_guarded-returns
push_guarded-returns t c =
    on_ok_weaker c.push_unit.result
    (λ h. three_pieces c.args.into.now.items _ _ _ _ _ _
    (c.in_ok-push_test.ensures ∙ ap (λ (vs : List kept.Variable). c.args.into.now.items ++ test_text (naming_of c.args.naming.now) (variables_of vs) (test_of c.args.test.now))
    c.as_slice.ensures.value)
    c.in_ok-push_text.ensures (unit_part (naming_of c.args.naming.now) _ _ _ _ _ _ refl (ap behaviour_of
    c.deref.ensures) h)) c.push_unit.ensures

pub push_sides-push_unit-requires : goal.push_sides-push_unit-requires
push_sides-push_unit-requires t c =
    (left_unit_less _ _ _ _ (ap behaviour_of c.deref.ensures) c.decreases, tt)

pub push_sides-push_unit-requires-2 : goal.push_sides-push_unit-requires-2
push_sides-push_unit-requires-2 t c =
    (right_unit_less _ _ _ _ (ap behaviour_of c.deref-2.ensures) c.decreases, tt)

pub push_sides-returns : goal.push_sides-returns
push_sides-returns t c =
    on_ok_weaker c.push_unit-2.result
    (λ h. three_pieces c.args.into.now.items _ _ _ _ _ _
    (unit_part (naming_of c.args.naming.now) _ _ _ _ _ _ refl (ap behaviour_of c.deref.ensures)
    c.in_ok-push_unit.ensures)
    c.in_ok-push_text.ensures (unit_part (naming_of c.args.naming.now) _ _ _ _ _ _ refl (ap behaviour_of
    c.deref-2.ensures) h)) c.push_unit-2.ensures

pub push_parallel-push_unit-requires : goal.push_parallel-push_unit-requires
push_parallel-push_unit-requires t c =
    (left_unit_less _ _ _ _ (ap behaviour_of c.deref.ensures) c.decreases, tt)

pub push_parallel-push_unit-requires-2 : goal.push_parallel-push_unit-requires-2
push_parallel-push_unit-requires-2 t c =
    (right_unit_less _ _ _ _ (ap behaviour_of c.deref-2.ensures) c.decreases, tt)

pub push_parallel-returns : goal.push_parallel-returns
push_parallel-returns t c =
    on_ok_weaker c.push_unit-2.result
    (λ h. three_pieces c.args.into.now.items _ _ _ _ _ _
    (unit_part (naming_of c.args.naming.now) _ _ _ _ _ _ refl (ap behaviour_of c.deref.ensures)
    c.in_ok-push_unit.ensures)
    c.in_ok-push_meet.ensures (unit_part (naming_of c.args.naming.now) _ _ _ _ _ _ refl (ap behaviour_of
    c.deref-2.ensures) h)) c.push_unit-2.ensures

pub push_enabling-push_unit-requires : goal.push_enabling-push_unit-requires
push_enabling-push_unit-requires t c =
    (left_unit_less _ _ _ _ (ap behaviour_of c.deref.ensures) c.decreases, tt)

pub push_enabling-push_unit-requires-2 : goal.push_enabling-push_unit-requires-2
push_enabling-push_unit-requires-2 t c =
    (right_unit_less _ _ _ _ (ap behaviour_of c.deref-2.ensures) c.decreases, tt)

pub push_enabling-returns : goal.push_enabling-returns
push_enabling-returns t c =
    on_ok_weaker c.push_unit-2.result
    (λ h. three_pieces c.args.into.now.items _ _ _ _ _ _
    (unit_part (naming_of c.args.naming.now) _ _ _ _ _ _ refl (ap behaviour_of c.deref.ensures)
    c.in_ok-push_unit.ensures)
    c.in_ok-push_accept.ensures (unit_part (naming_of c.args.naming.now) _ _ _ _ _ _ c.in_ok-inner.ensures (ap
    behaviour_of c.deref-2.ensures) h)) c.push_unit-2.ensures

pub push_disabling-push_unit-requires : goal.push_disabling-push_unit-requires
push_disabling-push_unit-requires t c =
    (left_unit_less _ _ _ _ (ap behaviour_of c.deref.ensures) c.decreases, tt)

pub push_disabling-push_unit-requires-2 : goal.push_disabling-push_unit-requires-2
push_disabling-push_unit-requires-2 t c =
    (right_unit_less _ _ _ _ (ap behaviour_of c.deref-2.ensures) c.decreases, tt)

pub push_disabling-returns : goal.push_disabling-returns
push_disabling-returns t c =
    on_ok_weaker c.push_unit-2.result
    (λ h. three_pieces c.args.into.now.items _ _ _ _ _ _
    (unit_part (naming_of c.args.naming.now) _ _ _ _ _ _ refl (ap behaviour_of c.deref.ensures)
    c.in_ok-push_unit.ensures)
    c.in_ok-push_text.ensures (unit_part (naming_of c.args.naming.now) _ _ _ _ _ _ refl (ap behaviour_of
    c.deref-2.ensures) h)) c.push_unit-2.ensures

pub push_hidden-push_behaviour-requires : goal.push_hidden-push_behaviour-requires
push_hidden-push_behaviour-requires t c =
    (part_less _ _ _ (ap behaviour_of c.deref.ensures) c.decreases, tt)

pub push_hidden-returns : goal.push_hidden-returns
push_hidden-returns t c =
    on_ok_weaker c.push_behaviour.result
    (λ h. two_pieces c.args.into.now.items _ _ _ _ c.in_ok-push_hide.ensures (part_text (naming_of c.args.naming.now) _
    _ _ _ _ _ refl (ap behaviour_of c.deref.ensures) h)) c.push_behaviour.ensures

pub push_bound-push_behaviour-requires : goal.push_bound-push_behaviour-requires
push_bound-push_behaviour-requires t c =
    (part_less _ _ _ (ap behaviour_of c.deref.ensures) c.decreases, tt)

pub push_bound-returns : goal.push_bound-returns
push_bound-returns t c =
    on_ok_weaker c.push_behaviour.result
    (λ h. two_pieces c.args.into.now.items _ _ _ _ (c.in_ok-push_let.ensures ∙ ap (λ (vs : List kept.Variable). c.args.into.now.items ++
    (codes "let "
    ++ commas (map (binding_text (naming_of c.args.naming.now) (variables_of vs)) (map let_of
    c.args.bindings.now.items)) ++ codes " in ")) c.as_slice.ensures.value) (part_text (naming_of c.args.naming.now) _
    _ _ _ _ _ c.in_ok-inner.ensures (ap behaviour_of c.deref.ensures) h)) c.push_behaviour.ensures

pub push_chosen-push_behaviour-requires : goal.push_chosen-push_behaviour-requires
push_chosen-push_behaviour-requires t c =
    (part_less _ _ _ (ap behaviour_of c.deref.ensures) c.decreases, tt)

pub push_chosen-returns : goal.push_chosen-returns
push_chosen-returns t c =
    on_ok_weaker c.push_behaviour.result
    (λ h. two_pieces c.args.into.now.items _ _ _ _ c.in_ok-push_value_choice.ensures (part_text (naming_of c.args.naming.now) _ _ _ _ _ _ c.in_ok-inner.ensures (ap behaviour_of c.deref.ensures) h)) c.push_behaviour.ensures

pub push_at_gate-push_behaviour-requires : goal.push_at_gate-push_behaviour-requires
push_at_gate-push_behaviour-requires t c =
    (part_less _ _ _ (ap behaviour_of c.deref.ensures) c.decreases, tt)

pub push_at_gate-returns : goal.push_at_gate-returns
push_at_gate-returns t c =
    on_ok_weaker c.push_behaviour.result
    (λ h. two_pieces c.args.into.now.items _ _ _ _ c.in_ok-push_gate_choice.ensures (part_text (naming_of c.args.naming.now) _ _ _ _ _ _ refl (ap behaviour_of c.deref.ensures) h)) c.push_behaviour.ensures

pub push_copies-push_behaviour-requires : goal.push_copies-push_behaviour-requires
push_copies-push_behaviour-requires t c =
    (part_less _ _ _ (ap behaviour_of c.deref.ensures) c.decreases, tt)

pub push_copies-returns : goal.push_copies-returns
push_copies-returns t c =
    on_ok_weaker c.push_behaviour.result
    (λ h. two_pieces c.args.into.now.items _ _ _ _ c.in_ok-push_par.ensures (part_text (naming_of c.args.naming.now) _
    _ _ _ _ _ refl (ap behaviour_of c.deref.ensures) h)) c.push_behaviour.ensures
