use Rattle.std.proofs.Common.{◌∷◌, ◌<◌, List, ap, sym, subst}
use Rattle.std.specs.Prelude.{IfOk, IfErr, OnOk}
use Rattle.scope_parts.specs.BindingsView.{bindings_in}
use Rattle.scope_parts.specs.FaultView.{FaultIs}
use Rattle.scope_parts.specs.Resolution.{faulty}
use Rattle.scope_parts.specs.Scope.{Callable}
use Rattle.static_scope.specs.PointsView.{point_in}
use Rattle.static_scope.specs.Walk.{Task, WalkGoesOn, AreSizesKnown, WalkIs, steps_of}
use Rattle.static_scope.specs.WalkView.{processes_made, places_of_made, task_of, tasks_in, walk_at}
use Rattle.static_scope.proofs.WalkLemmas.{end_gone, end_steps}
use Rattle.static_scope.proofs.WalkSteps.{frame_ended, task_front}
use Rattle.static_scope.proofs.walk.go_on.Goals as goal

pub cut_to-requires : goal.cut_to-requires
cut_to-requires c = c.requires.fit.0

pub returns-in-None-clause-on : goal.returns-in-None-clause-on
returns-in-None-clause-on c =
    end_gone c.args.sizes.now.items (point_in c.args.resolver.now) _ (task_of c.args.frame) (bindings_in c.args.frame.before)
    c.args.frame.outside (tasks_in c.args.stack.now.items)
    (frame_ended c.args.frame.rest.now (bindings_in c.args.frame.before) c.args.frame.outside c.in-None.ensures.cases)
    (ap
    (λ (ps : List Callable). record {
      signature = (point_in c.args.resolver.now).signature;
      names = (point_in c.args.resolver.now).names;
      processes = ps;
      variable = (point_in c.args.resolver.now).variable;
      process = (point_in c.args.resolver.now).process;
    })
    c.cut_to.ensures)
    c.requires

pub returns-in-None-clause-less : goal.returns-in-None-clause-less
returns-in-None-clause-less c = end_steps (task_of c.args.frame) (tasks_in c.args.stack.now.items)

pub next_declared-requires : goal.next_declared-requires
next_declared-requires c =
    subst (λ (t : Task). AreSizesKnown c.args.sizes.now.items (walk_at c.args.resolver.now (t ∷ tasks_in c.args.stack.now.items)))
    (task_front c.args.frame.rest.now c.in-Some.rest.now c.in-Some.first.now (bindings_in c.args.frame.before) c.args.frame.outside
    c.in-Some.ensures.cases.0)
    c.requires

pub returns-in-Some-clause-on : goal.returns-in-Some-clause-on
returns-in-Some-clause-on c =
    subst
    (λ (t : Task). IfOk c.next_declared.result (λ made. WalkGoesOn c.args.sizes.now.items
    (walk_at c.args.resolver.now (t ∷ tasks_in c.args.stack.now.items))
    (walk_at c.next_declared.new.resolver (tasks_in c.next_declared.new.stack.items)) (processes_made made) (places_of_made made)))
    (sym
    (task_front c.args.frame.rest.now c.in-Some.rest.now c.in-Some.first.now (bindings_in c.args.frame.before) c.args.frame.outside
    c.in-Some.ensures.cases.0))
    c.next_declared.ensures.on

pub returns-in-Some-clause-less : goal.returns-in-Some-clause-less
returns-in-Some-clause-less c =
    subst
    (λ (t : Task). OnOk c.next_declared.result
    (steps_of (tasks_in c.next_declared.new.stack.items) < steps_of (t ∷ tasks_in c.args.stack.now.items)))
    (sym
    (task_front c.args.frame.rest.now c.in-Some.rest.now c.in-Some.first.now (bindings_in c.args.frame.before) c.args.frame.outside
    c.in-Some.ensures.cases.0))
    c.next_declared.ensures.less

pub returns-in-Some-clause-fault : goal.returns-in-Some-clause-fault
returns-in-Some-clause-fault c =
    subst
    (λ (t : Task). IfErr c.next_declared.result (λ fault. FaultIs fault (λ f. WalkIs
    (walk_at c.args.resolver.now (t ∷ tasks_in c.args.stack.now.items)) (faulty f))))
    (sym
    (task_front c.args.frame.rest.now c.in-Some.rest.now c.in-Some.first.now (bindings_in c.args.frame.before) c.args.frame.outside
    c.in-Some.ensures.cases.0))
    c.next_declared.ensures.fault
