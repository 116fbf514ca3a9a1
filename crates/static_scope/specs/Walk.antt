-- The definitions that are still to be looked at, on a walk over the `where` of a text and those in it.
use Rattle.std.specs.Prelude.{◌≡◌, ◌≤◌, ℕ, suc, ◌+◌, ◌-◌, List, [], ◌++◌, ◌∷◌, length, drop}
use Rattle.lotos_base.specs.Equation.{Place}
use Rattle.lotos_base.specs.Signature.{Signature}
use Rattle.syntax_trees.specs.WrittenDefinition.{WrittenInner, WrittenInners, inner_then}
use Rattle.behaviour_semantics.specs.Behaviour.{Process}
use Rattle.scope_parts.specs.Resolution.{Resolution, resolved, faulty, Is, ThenResolves, Made}
use Rattle.scope_parts.specs.Scope.{Binding, Callable}
use Rattle.scope_parts.specs.Numbering.{Numbers, inners_gates, past_inners}
use Rattle.scope_parts.specs.Definitions.{InnersAre}
use Rattle.static_scope.specs.Points.{Point, numbers_of_point}
use Rattle.static_scope.specs.Sizes.{BeginsAt, sizes_of_all, steps_over_all}
use Rattle.static_scope.specs.TextPlaces.{inners_text_places}

-- What is left of a `where`, the names of its processes before that, and how many processes are visible outside of it.
pub record Task : Type 0 where
  pub inners : WrittenInners
  pub before : List Binding
  pub outside : ℕ

-- the outermost processes, so many
abbrev pub outermost : ℕ → List Callable → List Callable
outermost size processes = drop (length processes - size) processes

-- what the tasks come to, the innermost first: the processes one behind another
abbrev pub TasksAre : Signature → List Callable → Numbers → List Task → Resolution (List Process) → Type 0
TasksAre signature visible numbers [] = Is (resolved [])
TasksAre signature visible numbers (task ∷ tasks) =
    ThenResolves (InnersAre signature visible task.before numbers task.inners)
    (λ first. Made (λ rest. first ++ rest)
    (TasksAre signature (outermost task.outside visible) (past_inners task.inners numbers) tasks))

-- no more are outside of a `where` than are visible in it
abbrev pub Fit : List Callable → List Task → Type 0
Fit visible [] = Unit {0}
Fit visible (task ∷ tasks) = (task.outside ≤ length visible) × Fit (outermost task.outside visible) tasks

-- the gates, the sizes and the places of all that is left, and how many steps it takes
abbrev pub gates_left : List Task → List (List ℕ)
gates_left [] = []
gates_left (task ∷ tasks) = inners_gates task.inners ++ gates_left tasks

abbrev pub sizes_left : List Task → List ℕ
sizes_left [] = []
sizes_left (task ∷ tasks) = sizes_of_all task.inners ++ sizes_left tasks

abbrev pub places_left : List Task → List Place
places_left [] = []
places_left (task ∷ tasks) = inners_text_places task.inners ++ places_left tasks

abbrev pub steps_of : List Task → ℕ
steps_of [] = 0
steps_of (task ∷ tasks) = suc (steps_over_all task.inners) + steps_of tasks

-- where the walk stands
pub record Walk : Type 0 where
  pub point : Point
  pub tasks : List Task

abbrev pub WalkIs : Walk → Resolution (List Process) → Type 0
WalkIs walk = TasksAre walk.point.signature walk.point.processes (numbers_of_point walk.point) walk.tasks

-- the sizes are known where the walk stands
pub record AreSizesKnown (counts : List ℕ) (walk : Walk) : Type 0 where
  pub fit : Fit walk.point.processes walk.tasks
  pub sizes : BeginsAt (sizes_left walk.tasks) walk.point.process counts

-- processes in front of those that come
abbrev pub behind_those : List Process → Resolution (List Process) → Resolution (List Process)
behind_those made (resolved others) = resolved (made ++ others)
behind_those made (faulty fault) = faulty fault

-- the walk went on from the old standing to the new one, and made these processes, which have these places
pub record WalkGoesOn (counts : List ℕ) (old new : Walk) (made : List Process) (kept : List Place) : Type 0 where
  pub ready : AreSizesKnown counts new
  pub leads : (resolution : Resolution (List Process)) → WalkIs new resolution → WalkIs old (behind_those made resolution)
  pub signature : new.point.signature ≡ old.point.signature
  pub gates : new.point.names ++ gates_left new.tasks ≡ old.point.names ++ gates_left old.tasks
  pub places : kept ++ places_left new.tasks ≡ places_left old.tasks

-- with one more declaration in front
abbrev pub declaration_in_front : WrittenInner → Task → Task
declaration_in_front inner task = record { inners = inner_then inner task.inners; before = task.before; outside = task.outside }
