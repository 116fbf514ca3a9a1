-- The walk over the definitions as the code keeps it.
use Rattle.std.specs.Prelude.{List, [], ◌∷◌, map, reverse, Option, None, Some}
use Rattle.lotos_base.specs.Equation.{Place}
use Rattle.behaviour_semantics.specs.Behaviour as plain
use Rattle.behaviour_tree.specs.DefinitionView.{process_of}
use Rattle.behaviour_tree.specs.declared.definitions.Process.{Process}
use Rattle.behaviour_scopes.specs.declared.resolver.Resolver.{Resolver}
use Rattle.scope_parts.specs.BindingsView.{bindings_in}
use Rattle.static_scope.specs.PointsView.{point_in}
use Rattle.static_scope.specs.SizesView.{written_inners}
use Rattle.static_scope.specs.KeptPlaces.{places_of_process}
use Rattle.static_scope.specs.Walk.{Task, Walk}
use Rattle.static_scope.specs.declared.frames.Frame.{Frame}

abbrev pub task_of : Frame → Task
task_of frame = record {
  inners = written_inners frame.rest.now;
  before = bindings_in frame.before;
  outside = frame.outside;
}

-- the innermost first; the frames stand with the innermost last
abbrev pub tasks_in : List Frame → List Task
tasks_in frames = reverse (map task_of frames)

-- where the walk stands, with these tasks
abbrev pub walk_at : Resolver → List Task → Walk
walk_at resolver tasks = record { point = point_in resolver; tasks = tasks }

-- a process that was made, if one was
abbrev pub process_listed : Option Process → List Process
process_listed None = []
process_listed (Some made) = made ∷ []

abbrev pub processes_made : Option Process → List plain.Process
processes_made None = []
processes_made (Some made) = process_of made ∷ []

abbrev pub places_of_made : Option Process → List Place
places_of_made None = []
places_of_made (Some made) = places_of_process made
