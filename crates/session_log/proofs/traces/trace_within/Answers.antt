use Rattle.std.proofs.Common.{◌≡◌, ◌++◌, ◌<◌, ℕ, List, drop, get_or, length, map, ap, sym, ◌∙◌, subst, arith}
use Rattle.lotos_base.specs.Name.{spelling}
use Rattle.lotos_base.specs.declared.names.Name.{Name}
use Rattle.behaviour_tree.specs.Closed.{IsClosedNode}
use Rattle.behaviour_tree.specs.DefinitionView.{specification_of}
use Rattle.behaviour_tree.specs.StateView.{state_of}
use Rattle.behaviour_tree.specs.declared.states.State.{State}
use Rattle.sort_terms.specs.SignatureView.{signature_of}
use Rattle.session_histories.specs.TraceText.{ended, line_of_state, stated_steps, step_text, trace_heading}
use Rattle.session_log.specs.CourseView.{past_item_of, pasts_of, situation_of}
use Rattle.session_log.specs.Courses.{written_trace}
use Rattle.session_log.specs.declared.courses.Past.{Past}
use Rattle.session_log.proofs.CourseLemmas.{behind_closed}
use Rattle.lotos_base.proofs.Options.{gave_up}
use Rattle.session_log.proofs.TextLemmas.{all_written, long_told, two_lines_more}
use Rattle.session_log.proofs.traces.trace_within.Goals as goal

pub loop-index-init : goal.loop-index-init
loop-index-init c =
    ap (λ (text : List ℕ). text
    ++ stated_steps (signature_of c.args.signature.now) (specification_of c.args.spec.now)
    (situation_of c.args.course.now.state c.args.course.now.menu) (pasts_of c.args.course.now.history.items))
    (c.in_ok-push_heading.ensures
    ∙ ap (λ (text : List ℕ). text ++ ended (trace_heading (spelling c.args.spec.now.name))) c.new-text.ensures.items)

pub returns-in_err-keeps_within : goal.returns-in_err-keeps_within
returns-in_err-keeps_within c =
    gave_up _ _ c.from_residual-in_err-keeps_within.result c.in_err-keeps_within.field-0.0
    c.from_residual-in_err-keeps_within.ensures.1
    (long_told c.args.limit c.loop-index.text.items
    (stated_steps (signature_of c.args.signature.now) (specification_of c.args.spec.now)
    (situation_of c.args.course.now.state c.args.course.now.menu) (pasts_of (drop c.loop-index.index c.args.course.now.history.items)))
    (written_trace c.args.signature.now c.args.spec.now c.args.course.now) c.loop-index.invariant c.in_err-keeps_within.field-0.0
    c.in_err-keeps_within.ensures)

pub push_state-requires : goal.push_state-requires
push_state-requires c =
    subst (λ (it : State). IsClosedNode it.node) (sym c.state_behind.ensures)
    (behind_closed c.args.course.now c.loop-index.index c.requires)

pub loop-index-preserved : goal.loop-index-preserved
loop-index-preserved c =
    two_lines_more c.args.signature.now c.args.spec.now c.args.course.now c.loop-index.index c.past-item.result c.loop-index.text.items
    c.push_step.new.into.items c.push_state.new.into.items (written_trace c.args.signature.now c.args.spec.now c.args.course.now)
    (subst (λ (it : List Past). c.loop-index.index < length it) c.history-past-items.ensures c.loop-index-test.true)
    (c.past-item.is ∙ ap (λ (it : List Past). get_or it c.loop-index.index c.past-item.result) c.history-past-items.ensures)
    c.loop-index.invariant
    (c.in_ok-push_step.ensures
    ∙ ap (λ (it : List Name). c.loop-index.text.items
    ++ ended (step_text (signature_of c.args.signature.now) (map spelling it) (past_item_of c.past-item.result))) c.as_slice.ensures.value)
    (c.in_ok-push_state.ensures
    ∙ ap (λ (it : State). c.push_step.new.into.items
    ++ ended (line_of_state (signature_of c.args.signature.now) (specification_of c.args.spec.now) (state_of it))) c.state_behind.ensures)

pub returns : goal.returns
returns c = (
  all_written c.args.signature.now c.args.spec.now c.args.course.now c.loop-index.index c.loop-index.text.items
      (written_trace c.args.signature.now c.args.spec.now c.args.course.now)
      (let e : length c.history-past-items.result.now ≡ length c.args.course.now.history.items
      = ap length c.history-past-items.ensures in omega (arith, e))
      c.loop-index.invariant,
  c.in_ok-keeps_within-2.ensures,
)
