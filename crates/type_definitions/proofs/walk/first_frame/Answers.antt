use Rattle.std.proofs.Common.{◌≡◌, ◌∷◌, ◌++◌, [], List, ap, sym, ◌∙◌}
use Rattle.type_definitions.specs.GraphView.{graph_of}
use Rattle.type_definitions.specs.declared.walk.Frame.{Frame}
use Rattle.type_definitions.proofs.MentionWalkLemmas.{starts_done, starts_now, first_frame_of, done_is, not_done}
use Rattle.type_definitions.proofs.walk.first_frame.Goals as goal

pub returns-then-done : goal.returns-then-done
returns-then-done c =
    starts_done (graph_of c.args.graph.now) c.args.progress.now c.args.order.now.items c.args.root c.new-stack.result.items
    c.new-stack.ensures.items c.requires.walk (done_is _ (sym c.if-done.true ∙ c.done.ensures))

pub returns : goal.returns
returns c =
    starts_now (graph_of c.args.graph.now) c.args.progress.now c.args.order.now.items c.args.root c.push.new.self.items
    (c.in_ok-push.ensures.items ∙ ap (λ (xs : List Frame). xs ++ first_frame_of c.args.root ∷ []) c.new-stack.ensures.items)
    c.requires.walk c.requires.is_type (not_done _ (sym c.if-done.false ∙ c.done.ensures))
