-- Functionality: the sorts of the values with which a behaviour ends, or None for `noexit`; and where the functionalities
-- of a specification disagree (ISO 8807:1989, functionality of behaviour expressions).
use Rattle.std.specs.Prelude.{ℕ, List, [], ◌∷◌, ◌++◌, map, nat_eq, ◌&&◌, Bool, Option, None, Some, slice_get, if◌then◌else◌}
use Rattle.lotos_base.specs.declared.places.Place.{Place}
use Rattle.sort_terms.specs.declared.equations.Variable.{Variable}
use Rattle.behaviour_tree.specs.DefinitionView.{functionality_of}
use Rattle.behaviour_tree.specs.declared.behaviours.ExitValue.{ExitValue}
use Rattle.behaviour_tree.specs.declared.behaviours.ExitValue.TheVariants as exit_value
use Rattle.behaviour_tree.specs.declared.behaviours.Beh.{Beh, Stop, Exit, Action', Inner', Guard', Choice', Parallel', Hide', Enable', Disable', Let', ChooseValue', ChooseGate', ParGate', Call}
use Rattle.behaviour_tree.specs.declared.definitions.Process.{Process}
use Rattle.behaviour_tree.specs.declared.definitions.Spec.{Spec}

-- A functionality.
abbrev pub Functionality : Type 0
Functionality = Option (List ℕ)

-- The sort of a value of `exit`, and of a variable.
abbrev pub value_sort : ExitValue → ℕ
value_sort (exit_value.Give t) = t.sort
value_sort (exit_value.Any s) = s

abbrev pub variable_sort : Variable → ℕ
variable_sort variable = variable.sort

-- The functionality that the process declares.
abbrev pub declared_by : Option Process → Functionality
declared_by None = None
declared_by (Some process) = functionality_of process.exit

-- Of two behaviours of which one ends, as with `[]` and `[>`: that of the left side, or of the right side where the
-- left one has `noexit`.
abbrev pub of_either : Functionality → Functionality → Functionality
of_either None right = right
of_either (Some sorts) right = Some sorts

-- Of two behaviours that end together, as those of a parallel: `noexit` where one side has it.
abbrev pub of_both : Functionality → Functionality → Functionality
of_both left None = None
of_both left (Some sorts) = left

-- The functionality of a behaviour.
abbrev pub functionality : List Process → Beh → Functionality
functionality processes Stop = None
functionality processes (Exit values) = Some (map value_sort values.items)
functionality processes (Action' _ _ _ _ next) = functionality processes next
functionality processes (Inner' _ next) = functionality processes next
functionality processes (Guard' _ _ next) = functionality processes next
functionality processes (Choice' _ _ left _ right) = of_either (functionality processes left) (functionality processes right)
functionality processes (Parallel' _ _ _ left _ right) = of_both (functionality processes left) (functionality processes right)
functionality processes (Hide' _ _ next) = functionality processes next
functionality processes (Enable' _ _ left _ _ right) = functionality processes right
functionality processes (Disable' _ _ left _ right) = of_either (functionality processes left) (functionality processes right)
functionality processes (Let' _ _ next) = functionality processes next
functionality processes (ChooseValue' _ _ next) = functionality processes next
functionality processes (ChooseGate' _ _ _ next) = functionality processes next
functionality processes (ParGate' _ _ _ _ next) = functionality processes next
functionality processes (Call _ process _ _) = declared_by (slice_get processes process)

-- The two lists are the same.
abbrev pub are_same : List ℕ → List ℕ → Bool
are_same [] [] = Bool.true
are_same (s ∷ ss) (t ∷ ts) = nat_eq s t && are_same ss ts
are_same _ _ = Bool.false

-- A disagreement with its place and the two functionalities.
pub record Disagreement : Type 0 where
  pub place : Place
  pub left : Functionality
  pub right : Functionality

-- What is wrong at a sign, if anything is: two lists that are not the same. `noexit` beside anything is right.
abbrev pub at_sign : Place → Functionality → Functionality → List Disagreement
at_sign place (Some ss) (Some ts) =
    if are_same ss ts then [] else record { place = place; left = Some ss; right = Some ts } ∷ []
at_sign place _ _ = []

-- The disagreements in a behaviour, in the order of the walk: those of the left side, then those of the right side, then
-- that of the sign. At `>>` the sorts of the `accept` list stand in place of the functionality of the right side.
abbrev pub disagreements : List Process → Beh → List Disagreement
disagreements processes Stop = []
disagreements processes (Exit values) = []
disagreements processes (Action' _ _ _ _ next) = disagreements processes next
disagreements processes (Inner' _ next) = disagreements processes next
disagreements processes (Guard' _ _ next) = disagreements processes next
disagreements processes (Choice' place _ left _ right) =
    disagreements processes left ++ disagreements processes right
    ++ at_sign place (functionality processes left) (functionality processes right)
disagreements processes (Parallel' place _ _ left _ right) =
    disagreements processes left ++ disagreements processes right
    ++ at_sign place (functionality processes left) (functionality processes right)
disagreements processes (Hide' _ _ next) = disagreements processes next
disagreements processes (Enable' place _ left variables _ right) =
    disagreements processes left ++ disagreements processes right
    ++ at_sign place (functionality processes left) (Some (map variable_sort variables.items))
disagreements processes (Disable' place _ left _ right) =
    disagreements processes left ++ disagreements processes right
    ++ at_sign place (functionality processes left) (functionality processes right)
disagreements processes (Let' _ _ next) = disagreements processes next
disagreements processes (ChooseValue' _ _ next) = disagreements processes next
disagreements processes (ChooseGate' _ _ _ next) = disagreements processes next
disagreements processes (ParGate' _ _ _ _ next) = disagreements processes next
disagreements processes (Call _ process _ _) = []

-- What is wrong at a definition, if anything is: a body with a list under another declaration. A `noexit` body is right
-- under any declaration.
abbrev pub at_definition : Place → Functionality → Functionality → List Disagreement
at_definition place None declared = []
at_definition place (Some ss) None = record { place = place; left = Some ss; right = None } ∷ []
at_definition place (Some ss) (Some ts) = at_sign place (Some ss) (Some ts)

-- The disagreements of a definition: those of its body, then that with its declaration.
abbrev pub of_definition : List Process → Place → Beh → Functionality → List Disagreement
of_definition processes place body declared =
    disagreements processes body ++ at_definition place (functionality processes body) declared

abbrev pub of_processes : List Process → List Process → List Disagreement
of_processes processes [] = []
of_processes processes (p ∷ rest) =
    of_definition processes p.place p.body (functionality_of p.exit) ++ of_processes processes rest

-- The disagreements of a specification in the order of the walk: its own definition first, then the processes in the
-- order of the text.
abbrev pub all_disagreements : Spec → List Disagreement
all_disagreements spec =
    of_definition spec.processes.items spec.place spec.body.value (functionality_of spec.exit)
    ++ of_processes spec.processes.items spec.processes.items
