-- What the call `exits` answers.
use Rattle.std.specs.Prelude.{◌≡◌, List, [], ◌∷◌, None, Some, slice_get}
use Rattle.behaviour_tree.specs.DefinitionView.{functionality_of}
use Rattle.behaviour_tree.specs.declared.behaviours.Beh.{Beh}
use Rattle.behaviour_tree.specs.declared.definitions.Process.{Process}
use Rattle.process_checks.specs.Functionality.{Functionality, Disagreement, declared_by, disagreements, functionality}
use Rattle.process_checks.specs.declared.mismatches.ExitFault.{ExitFault}
use Rattle.process_checks.specs.declared.mismatches.ExitFault.TheVariants.{Mismatch, NoMemory}
use Rattle.process_checks.specs.declared.functionalities.Found.{Found}
use Rattle.process_checks.specs.declared.functionalities.Found.TheVariants.{Noexit, Declared, Listed}

-- What a refusal says where these are the disagreements: it is the first of them.
abbrev pub Blames : List Disagreement → ExitFault → Type 0
Blames (d ∷ rest) (Mismatch place left right) =
    (place ≡ d.place) × (functionality_of left ≡ d.left) × (functionality_of right ≡ d.right)
Blames [] (Mismatch place left right) = ⊥
Blames _ NoMemory = Unit {0}

-- The functionality that is kept for a behaviour.
abbrev pub functionality_in : List Process → Found → Functionality
functionality_in processes Noexit = None
functionality_in processes (Declared process) = declared_by (slice_get processes process)
functionality_in processes (Listed sorts) = Some sorts.items

-- The behaviour has this functionality, and nothing is wrong in it.
pub record IsAgreed (processes : List Process) (behaviour : Beh) (found : Found) : Type 0 where
  pub functionality_is : functionality_in processes found ≡ functionality processes behaviour
  pub nothing_wrong : disagreements processes behaviour ≡ []
