use Rattle.std.proofs.Common.{◌∷◌, sym, subst}
use Rattle.scope_parts.specs.FaultView.{FaultIs}
use Rattle.scope_parts.specs.Resolution.{faulty}
use Rattle.syntax_trees.specs.TreeViews.{inner_of, item_of}
use Rattle.syntax_trees.specs.WrittenDefinition.{WrittenInner}
use Rattle.static_scope.specs.PointsView.{point_in}
use Rattle.static_scope.specs.Walk.{AreSizesKnown, WalkIs, declaration_in_front}
use Rattle.static_scope.specs.WalkView.{task_of, tasks_in, walk_at}
use Rattle.static_scope.proofs.SeenInner.{seen_definition, seen_item}
use Rattle.static_scope.proofs.WalkLemmas.{item_gone, item_steps}
use Rattle.static_scope.proofs.WalkSteps.{fault_handed, tasks_pushed}
use Rattle.static_scope.proofs.walk.next_declared.Goals as goal

pub returns-in_ok-push-in-Item-clause-on : goal.returns-in_ok-push-in-Item-clause-on
returns-in_ok-push-in-Item-clause-on c =
    item_gone c.args.sizes.now.items (point_in c.args.resolver.now) (inner_of c.args.first.now) (item_of c.in-Item.field-0)
    (task_of c.args.left) (tasks_in c.args.stack.now.items) (tasks_in c.push.new.self.items)
    (seen_item c.args.first.now c.in-Item.field-0 c.in-Item.is)
    (tasks_pushed c.args.stack.now.items c.push.new.self.items c.args.left c.in_ok-push-in-Item.ensures.items) c.requires

pub returns-in_ok-push-in-Item-clause-less : goal.returns-in_ok-push-in-Item-clause-less
returns-in_ok-push-in-Item-clause-less c =
    item_steps (inner_of c.args.first.now) (item_of c.in-Item.field-0) (task_of c.args.left) (tasks_in c.args.stack.now.items)
    (tasks_in c.push.new.self.items) (seen_item c.args.first.now c.in-Item.field-0 c.in-Item.is)
    (tasks_pushed c.args.stack.now.items c.push.new.self.items c.args.left c.in_ok-push-in-Item.ensures.items)

pub enter-requires : goal.enter-requires
enter-requires c =
    subst
    (λ (x : WrittenInner). AreSizesKnown c.args.sizes.now.items
    (walk_at c.args.resolver.now (declaration_in_front x (task_of c.args.left) ∷ tasks_in c.args.stack.now.items)))
    (seen_definition c.args.first.now c.in-Process.text c.in-Process.is) c.requires

pub returns-in_err-made-in-Process-clause-fault : goal.returns-in_err-made-in-Process-clause-fault
returns-in_err-made-in-Process-clause-fault c =
    fault_handed c.from_residual-in_err-made-in-Process.result c.in_err-made-in-Process.field-0.0 _
    c.from_residual-in_err-made-in-Process.ensures.1
    (subst
    (λ (x : WrittenInner). FaultIs c.in_err-made-in-Process.field-0.0 (λ f. WalkIs
    (walk_at c.args.resolver.now (declaration_in_front x (task_of c.args.left) ∷ tasks_in c.args.stack.now.items)) (faulty f)))
    (sym (seen_definition c.args.first.now c.in-Process.text c.in-Process.is)) c.in_err-made-in-Process.ensures.fault)
