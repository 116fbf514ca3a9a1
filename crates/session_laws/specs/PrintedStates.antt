-- What is printed of the states of a session: one line of printable characters, since each name in it is one of the specification's.
use Rattle.std.specs.Prelude.{ℕ, List}
use Rattle.behaviour_semantics.specs.Behaviour.{Process}
use Rattle.behaviour_semantics.specs.WellFormed.{Every}
use Rattle.session_histories.specs.BoundNames.{bound_names}
use Rattle.session_histories.specs.TextBytes.{AllPass, is_printable, IsOnOneLine}
use Rattle.printed_texts.specs.BehaviourText.{state_text}
use Rattle.session_laws.specs.TextNames.{IsWordSpelling}
use Rattle.lotos_top.specs.HandedOn.{Beginning, Standing, IsReached, Asked, Acceptance, IsAccepted, goes_on, GotFile}
use Rattle.lotos_top.specs.Opening.{SessionBegins}

-- a process with its name and those of the variables that its body binds
pub record IsNamedProcess (process : Process) : Type 0 where
  pub name : IsWordSpelling process.name
  pub variables : Every IsWordSpelling (bound_names process.body)

-- The specification, its processes, and the variables that its body and theirs bind have names that are each one whole token.
pub record HasNamedDefinitions (acceptance : Acceptance) : Type 0 where
  pub name : IsWordSpelling acceptance.spec.name
  pub variables : Every IsWordSpelling (bound_names acceptance.spec.body)
  pub processes : Every IsNamedProcess acceptance.spec.processes

abbrev pub AcceptedDefinitionsAreNamed : Type 0
AcceptedDefinitionsAreNamed = (asked : Asked) (files : List GotFile) (acceptance : Acceptance)
    → IsAccepted asked files (goes_on acceptance)
    → HasNamedDefinitions acceptance

-- the text has printable characters of ASCII alone, and so neither a line feed nor a carriage return
pub record IsPrintedLine (text : List ℕ) : Type 0 where
  pub printable : AllPass is_printable text
  pub on_one_line : IsOnOneLine text

-- it is so with what is printed of every state that a session of an accepted specification reaches
abbrev pub StatesPrintOnOneLine : Type 0
StatesPrintOnOneLine = (asked : Asked) (files : List GotFile) (acceptance : Acceptance) (begun : Beginning) (standing : Standing)
    → IsAccepted asked files (goes_on acceptance)
    → SessionBegins acceptance begun
    → IsReached begun standing
    → IsPrintedLine (state_text acceptance.data_.signature acceptance.spec standing.progress.situation.state)
