use Rattle.std.proofs.Common.{◌≡◌, ◌∷◌, ◌++◌, [], List, true, false, get_or, ap, sym, ◌∙◌}
use Rattle.type_definitions.specs.GraphView.{graph_of}
use Rattle.type_definitions.specs.declared.walk.Frame.{Frame}
use Rattle.type_definitions.proofs.MentionWalkLemmas.{mention_within, step_done, step_next, step_cycle, first_frame_of, with_next, open_is, not_open}
use Rattle.type_definitions.proofs.walk.go_on.Goals as goal

pub next_waiting-requires : goal.next_waiting-requires
next_waiting-requires c =
    mention_within (graph_of c.args.graph.now) c.args.progress.now c.args.order.now.items (c.args.stack.now.items ++ c.args.frame ∷ [])
    c.args.frame.number c.mentioned-mentioned.result.now c.args.graph.now.within c.requires c.mentioned-mentioned.ensures

pub returns-in_default : goal.returns-in_default
returns-in_default c = (
  (λ is. let both : false ≡ true = is in cc),
  (λ is.
      step_done (graph_of c.args.graph.now) c.args.progress.now c.args.order.now.items c.args.stack.now.items c.args.frame
      c.mentioned-mentioned.result.now c.push.new.self.items c.mentioned-mentioned.ensures c.requires c.in_default.ensures
      c.in_ok-push.ensures.items),
)

pub bounds-progress-number : goal.bounds-progress-number
bounds-progress-number c =
    mention_within (graph_of c.args.graph.now) c.args.progress.now c.args.order.now.items (c.args.stack.now.items ++ c.args.frame ∷ [])
    c.args.frame.number c.mentioned-mentioned.result.now c.args.graph.now.within c.requires c.mentioned-mentioned.ensures
    c.in-Some.position c.in-Some.ensures.within

pub returns-then-open : goal.returns-then-open
returns-then-open c = (
  (λ is.
      step_cycle (graph_of c.args.graph.now) c.args.progress.now c.args.order.now.items c.args.stack.now.items c.args.frame
      c.mentioned-mentioned.result.now c.in-Some.position c.mentioned-mentioned.ensures c.requires c.in-Some.ensures
      (open_is _ (sym c.if-open.true ∙ c.open.ensures))),
  (λ is. let both : true ≡ false = is in cc),
)

pub returns : goal.returns
returns c = (
  (λ is. let both : false ≡ true = is in cc),
  (λ is.
      step_next (graph_of c.args.graph.now) c.args.progress.now c.args.order.now.items c.args.stack.now.items c.args.frame
      c.mentioned-mentioned.result.now c.in-Some.position c.push-3.new.self.items c.mentioned-mentioned.ensures c.args.graph.now.within
      c.requires c.in-Some.ensures (not_open _ (sym c.if-open.false ∙ c.open.ensures))
      (c.in_ok-push-3.ensures.items
      ∙ ap (λ (xs : List Frame). xs ++ first_frame_of (get_or c.mentioned-mentioned.result.now c.in-Some.position 0) ∷ [])
      c.in_ok-push-2.ensures.items)),
)

pub slice_copy_out-open : goal.slice_copy_out-open
slice_copy_out-open c =
    mention_within (graph_of c.args.graph.now) c.args.progress.now c.args.order.now.items (c.args.stack.now.items ++ c.args.frame ∷ [])
    c.args.frame.number c.mentioned-mentioned.result.now c.args.graph.now.within c.requires c.mentioned-mentioned.ensures
    c.in-Some.position c.in-Some.ensures.within
