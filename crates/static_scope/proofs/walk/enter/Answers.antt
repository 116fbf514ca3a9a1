use Rattle.std.proofs.Common.{◌∷◌, ◌<◌, List, ℕ, ap, sym, subst}
use Rattle.scope_parts.specs.BindingsView.{bindings_in}
use Rattle.scope_parts.specs.Scope.{Binding}
use Rattle.scope_parts.proofs.AnswerLemmas.{means_map}
use Rattle.behaviour_tree.specs.BehaviourTerms.{profiles_in}
use Rattle.behaviour_tree.specs.DefinitionView.{process_of}
use Rattle.behaviour_tree.specs.Over.{AreTermsOf}
use Rattle.syntax_trees.specs.TreeViews.{written_behaviour_of as written_behaviour}
use Rattle.static_scope.specs.ProcessView.{process_heading, written_definition}
use Rattle.static_scope.specs.KeptPlaces.{places_of_process}
use Rattle.static_scope.specs.Points.{Point}
use Rattle.static_scope.specs.PointsView.{point_in}
use Rattle.static_scope.specs.SizesView.{written_inners}
use Rattle.static_scope.specs.Walk.{Task, declaration_in_front, steps_of}
use Rattle.static_scope.specs.WalkView.{task_of, tasks_in}
use Rattle.static_scope.proofs.WalkLemmas.{entered_so, entering_fails, name_fails, own_sizes, process_less, with_number}
use Rattle.static_scope.proofs.WalkSteps.{fault_handed, frames_entered, own_frame}
use Rattle.static_scope.proofs.walk.enter.Goals as goal

pub returns-in_err-before-clause-fault : goal.returns-in_err-before-clause-fault
returns-in_err-before-clause-fault c =
    fault_handed c.from_residual.result c.in_err-before.field-0.0 _ c.from_residual.ensures.1
    (means_map c.in_err-before.field-0.0 _ _
    (λ f is. name_fails (point_in c.args.resolver.now) (process_heading c.args.text.now) (written_behaviour c.args.text.now.body)
    (written_inners c.args.text.now.inner.items) (task_of c.args.left) (tasks_in c.args.stack.now.items) f is)
    c.in_err-before.ensures.new)

pub declare-requires : goal.declare-requires
declare-requires c =
    own_sizes c.args.sizes.now.items (point_in c.args.resolver.now) (with_number c.in_ok-next.next (point_in c.args.resolver.now))
    (process_heading c.args.text.now) (written_behaviour c.args.text.now.body) (written_inners c.args.text.now.inner.items)
    (task_of c.args.left) (tasks_in c.args.stack.now.items)
    (ap (λ (n : ℕ). with_number n (point_in c.args.resolver.now)) c.in_ok-next.ensures) c.requires

pub returns-in_err-made-clause-fault : goal.returns-in_err-made-clause-fault
returns-in_err-made-clause-fault c =
    fault_handed c.from_residual-in_err-made.result c.in_err-made.field-0.0 _ c.from_residual-in_err-made.ensures.1
    (means_map c.in_err-made.field-0.0 _ _
    (λ f is. entering_fails (point_in c.args.resolver.now) (with_number c.in_ok-next.next (point_in c.args.resolver.now))
    (point_in c.declare.new.resolver) (process_heading c.args.text.now) (written_behaviour c.args.text.now.body)
    (written_inners c.args.text.now.inner.items) (task_of c.args.left) (tasks_in c.args.stack.now.items)
    (process_heading c.args.text.now).name f c.in_ok-before.ensures.new
    (ap (λ (n : ℕ). with_number n (point_in c.args.resolver.now)) c.in_ok-next.ensures) c.in_ok-declare.ensures is)
    c.in_err-made.ensures.read)

pub returns-clause-on : goal.returns-clause-on
returns-clause-on c =
    entered_so c.args.sizes.now.items (point_in c.args.resolver.now) (with_number c.in_ok-next.next (point_in c.args.resolver.now))
    (point_in c.declare.new.resolver) (point_in c.process.new.resolver) (process_heading c.args.text.now)
    (written_behaviour c.args.text.now.body) (written_inners c.args.text.now.inner.items) (task_of c.args.left)
    (tasks_in c.args.stack.now.items) (tasks_in c.push-2.new.self.items) (process_heading c.args.text.now).name
    (process_of c.in_ok-made.made) (places_of_process c.in_ok-made.made) c.requires c.in_ok-before.ensures.new
    (ap (λ (n : ℕ). with_number n (point_in c.args.resolver.now)) c.in_ok-next.ensures) c.in_ok-declare.ensures
    c.in_ok-made.ensures.read c.in_ok-made.ensures.passed
    (frames_entered c.args.stack.now.items c.push.new.self.items c.push-2.new.self.items _ _ (task_of c.args.left)
    (process_heading c.args.text.now).name (point_in c.args.resolver.now).processes c.args.text.now.inner.items
    c.in_ok-push.ensures.items c.in_ok-push-2.ensures.items
    (ap
    (λ (bs : List Binding). record {
      inners = written_inners c.args.left.rest.now;
      before = bs;
      outside = c.args.left.outside;
    })
    c.in_ok-before.ensures.bound)
    (own_frame c.as_slice.result.now (bindings_in c.new.result) c.size-outside.result c.args.text.now.inner.items
    (point_in c.args.resolver.now).processes c.as_slice.ensures.value c.new.ensures c.size-outside.ensures))
    c.in_ok-made.ensures.places

pub returns-clause-less : goal.returns-clause-less
returns-clause-less c =
    subst
    (λ (ts : List Task). steps_of ts
    < steps_of (declaration_in_front (written_definition c.args.text.now) (task_of c.args.left) ∷ tasks_in c.args.stack.now.items))
    (sym
    (frames_entered c.args.stack.now.items c.push.new.self.items c.push-2.new.self.items _ _ (task_of c.args.left)
    (process_heading c.args.text.now).name (point_in c.args.resolver.now).processes c.args.text.now.inner.items
    c.in_ok-push.ensures.items c.in_ok-push-2.ensures.items
    (ap
    (λ (bs : List Binding). record {
      inners = written_inners c.args.left.rest.now;
      before = bs;
      outside = c.args.left.outside;
    })
    c.in_ok-before.ensures.bound)
    (own_frame c.as_slice.result.now (bindings_in c.new.result) c.size-outside.result c.args.text.now.inner.items
    (point_in c.args.resolver.now).processes c.as_slice.ensures.value c.new.ensures c.size-outside.ensures)))
    (process_less (process_heading c.args.text.now) (written_behaviour c.args.text.now.body) (written_inners c.args.text.now.inner.items)
    (point_in c.args.resolver.now).processes (task_of c.args.left) (tasks_in c.args.stack.now.items))

pub returns-clause-profiles : goal.returns-clause-profiles
returns-clause-profiles c =
    subst (λ sig. AreTermsOf sig (profiles_in c.in_ok-made.made.body)) (ap (λ (p : Point). p.signature) c.in_ok-declare.ensures)
    c.in_ok-made.ensures.profiles
