use Rattle.std.proofs.Common.{◌<◌, ◌∷◌, [], List, map, ap, sym, ◌∙◌, subst}
use Rattle.std.proofs.lemmas.List.{nil_from_length}
use Rattle.behaviour_semantics.specs.WellFormed.{Every}
use Rattle.behaviour_tree.specs.BehaviourTerms.{profiles_in}
use Rattle.behaviour_tree.specs.DefinitionView.{process_of}
use Rattle.behaviour_tree.specs.Over.{AreTermsOf}
use Rattle.behaviour_tree.specs.declared.definitions.Process.{Process}
use Rattle.scope_parts.specs.Scope.{Binding}
use Rattle.scope_parts.proofs.AnswerLemmas.{err_is, means_map}
use Rattle.static_scope.specs.KeptPlaces.{places_of_processes}
use Rattle.static_scope.specs.PointsView.{point_in}
use Rattle.static_scope.specs.SizesView.{written_inners}
use Rattle.static_scope.specs.Walk.{Task, WalkGoesOn, AreSizesKnown, steps_of}
use Rattle.static_scope.specs.WalkView.{task_of, tasks_in, walk_at}
use Rattle.static_scope.proofs.WalkLemmas.{first_task, standing, all_gone, fault_gone, gates_gone, places_gone}
use Rattle.static_scope.proofs.WalkSteps.{tasks_pushed, listed_every, walk_started, walk_ended, walk_stepped}
use Rattle.static_scope.proofs.walk.processes.Goals as goal

pub loop-frame-init : goal.loop-frame-init
loop-frame-init c = record {
  on =
      walk_started c.args.sizes.now.items (point_in c.args.resolver.now) c.args.inner.now c.new-stack.result.items
      c.push.new.self.items _ c.new-made.result.items c.new-stack.ensures.items c.in_ok-push.ensures.items
      c.new-made.ensures.items
      (ap (λ (bs : List Binding). record { inners = written_inners c.args.inner.now; before = bs; outside = 0 }) c.new.ensures) c.requires;
  profiles =
      subst (Every (λ (p : Process). AreTermsOf (point_in c.args.resolver.now).signature (profiles_in p.body)))
      (sym c.new-made.ensures.items) tt;
}

pub go_on-requires : goal.go_on-requires
go_on-requires c =
    subst (λ (ts : List Task). AreSizesKnown c.args.sizes.now.items (walk_at c.loop-frame.resolver ts))
    (tasks_pushed c.pop.new.self.items c.loop-frame.stack.items c.in-Some.frame c.in-Some.ensures.items)
    c.loop-frame.invariant.on.ready

pub loop-frame-preserved : goal.loop-frame-preserved
loop-frame-preserved c = record {
  on =
      walk_stepped c.args.sizes.now.items (point_in c.args.resolver.now) (point_in c.loop-frame.resolver) (point_in c.go_on.new.resolver)
      (written_inners c.args.inner.now) c.pop.new.self.items c.loop-frame.stack.items c.go_on.new.stack.items c.in-Some.frame
      c.loop-frame.made.items c.add.new.made.items c.in_ok-definition.definition c.in-Some.ensures.items c.in_ok-add.ensures
      c.loop-frame.invariant.on c.in_ok-definition.ensures.on;
  profiles =
      subst (Every (λ (p : Process). AreTermsOf (point_in c.args.resolver.now).signature (profiles_in p.body)))
      (sym c.in_ok-add.ensures)
      (listed_every (λ (p : Process). AreTermsOf (point_in c.args.resolver.now).signature (profiles_in p.body)) c.loop-frame.made.items
      c.in_ok-definition.definition c.loop-frame.invariant.profiles
      (λ p is. subst (λ sig. AreTermsOf sig (profiles_in p.body)) c.loop-frame.invariant.on.signature
      (c.in_ok-definition.ensures.profiles p is)));
}

pub loop-frame-smaller : goal.loop-frame-smaller
loop-frame-smaller c =
    subst (λ (ts : List Task). steps_of (tasks_in c.go_on.new.stack.items) < steps_of ts)
    (sym (tasks_pushed c.pop.new.self.items c.loop-frame.stack.items c.in-Some.frame c.in-Some.ensures.items))
    c.in_ok-definition.ensures.less

pub returns-in_err-definition-clause-read : goal.returns-in_err-definition-clause-read
returns-in_err-definition-clause-read c =
    err_is _ c.from_residual-in_err-definition.result c.in_err-definition.field-0.0 _ c.from_residual-in_err-definition.ensures.1
    (means_map c.in_err-definition.field-0.0 _ _
    (λ f is. fault_gone c.args.sizes.now.items (point_in c.args.resolver.now) (point_in c.loop-frame.resolver)
    (task_of c.in-Some.frame ∷ tasks_in c.pop.new.self.items) (written_inners c.args.inner.now) (map process_of c.loop-frame.made.items)
    (places_of_processes c.loop-frame.made.items) f
    (subst
    (λ (ts : List Task). WalkGoesOn c.args.sizes.now.items
    (standing (point_in c.args.resolver.now) (first_task (written_inners c.args.inner.now) ∷ []))
    (standing (point_in c.loop-frame.resolver) ts) (map process_of c.loop-frame.made.items)
    (places_of_processes c.loop-frame.made.items))
    (tasks_pushed c.pop.new.self.items c.loop-frame.stack.items c.in-Some.frame c.in-Some.ensures.items)
    c.loop-frame.invariant.on) is)
    c.in_err-definition.ensures.fault)

pub returns-clause-read : goal.returns-clause-read
returns-clause-read c =
    all_gone c.args.sizes.now.items (point_in c.args.resolver.now) (point_in c.loop-frame.resolver) (written_inners c.args.inner.now)
    (map process_of c.loop-frame.made.items) (places_of_processes c.loop-frame.made.items)
    (walk_ended c.args.sizes.now.items (point_in c.args.resolver.now) (point_in c.loop-frame.resolver) (written_inners c.args.inner.now)
    c.loop-frame.stack.items (map process_of c.loop-frame.made.items) (places_of_processes c.loop-frame.made.items)
    (nil_from_length c.loop-frame.stack.items (sym c.loop-frame.stack.ok.0 ∙ c.in_default.ensures.cases.0)) c.loop-frame.invariant.on)

pub returns-clause-names : goal.returns-clause-names
returns-clause-names c =
    gates_gone c.args.sizes.now.items (point_in c.args.resolver.now) (point_in c.loop-frame.resolver) (written_inners c.args.inner.now)
    (map process_of c.loop-frame.made.items) (places_of_processes c.loop-frame.made.items)
    (walk_ended c.args.sizes.now.items (point_in c.args.resolver.now) (point_in c.loop-frame.resolver) (written_inners c.args.inner.now)
    c.loop-frame.stack.items (map process_of c.loop-frame.made.items) (places_of_processes c.loop-frame.made.items)
    (nil_from_length c.loop-frame.stack.items (sym c.loop-frame.stack.ok.0 ∙ c.in_default.ensures.cases.0)) c.loop-frame.invariant.on)

pub returns-clause-profiles : goal.returns-clause-profiles
returns-clause-profiles c = c.loop-frame.invariant.profiles

pub returns-clause-places : goal.returns-clause-places
returns-clause-places c =
    places_gone c.args.sizes.now.items (point_in c.args.resolver.now) (point_in c.loop-frame.resolver) (written_inners c.args.inner.now)
    (map process_of c.loop-frame.made.items) (places_of_processes c.loop-frame.made.items)
    (walk_ended c.args.sizes.now.items (point_in c.args.resolver.now) (point_in c.loop-frame.resolver) (written_inners c.args.inner.now)
    c.loop-frame.stack.items (map process_of c.loop-frame.made.items) (places_of_processes c.loop-frame.made.items)
    (nil_from_length c.loop-frame.stack.items (sym c.loop-frame.stack.ok.0 ∙ c.in_default.ensures.cases.0)) c.loop-frame.invariant.on)
