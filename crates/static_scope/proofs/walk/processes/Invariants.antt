use Rattle.std.proofs.Common.{[], ◌∷◌, map}
use Rattle.behaviour_semantics.specs.WellFormed.{Every}
use Rattle.behaviour_tree.specs.BehaviourTerms.{profiles_in}
use Rattle.behaviour_tree.specs.DefinitionView.{process_of}
use Rattle.behaviour_tree.specs.Over.{AreTermsOf}
use Rattle.behaviour_tree.specs.declared.definitions.Process.{Process}
use Rattle.static_scope.specs.KeptPlaces.{places_of_processes}
use Rattle.static_scope.specs.PointsView.{point_in}
use Rattle.static_scope.specs.SizesView.{written_inners}
use Rattle.static_scope.specs.Walk.{WalkGoesOn, steps_of}
use Rattle.static_scope.specs.WalkView.{tasks_in, walk_at}
use Rattle.static_scope.proofs.WalkLemmas.{first_task}
use Rattle.static_scope.proofs.walk.processes.Given as goal

abbrev pub invariant-loop-frame : goal.invariant-loop-frame
invariant-loop-frame l = record {
  on :
      WalkGoesOn l.sizes.items (walk_at l.initial.resolver (first_task (written_inners l.inner) ∷ []))
      (walk_at l.resolver (tasks_in l.stack.items)) (map process_of l.made.items) (places_of_processes l.made.items);
  profiles :
      Every (λ (p : Process). AreTermsOf (point_in l.initial.resolver).signature (profiles_in p.body)) l.made.items;
}

abbrev pub decreases-loop-frame : goal.decreases-loop-frame
decreases-loop-frame l = steps_of (tasks_in l.stack.items)
