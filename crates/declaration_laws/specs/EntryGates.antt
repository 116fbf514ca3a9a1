-- The gates of the entries of a menu.
use Rattle.std.specs.Prelude.{ℕ, List}
use Rattle.lotos_base.specs.Term.{Term}
use Rattle.lotos_base.specs.Equation.{Data}
use Rattle.behaviour_semantics.specs.Behaviour.{Behaviour, Process}
use Rattle.behaviour_semantics.specs.Menu.{IsEntry, Exact}
use Rattle.behaviour_semantics.specs.Solving.{Entry}
use Rattle.behaviour_semantics.specs.WellFormed.{Every}
use Rattle.declaration_laws.specs.VisibleGates.{IsOneOf, IsAt, UsesOnly, UsesFormals}

-- Each entry of the exact menu of a behaviour is the inner event, a termination, or at a gate that the behaviour uses, whether it has
-- an instance or not.
abbrev pub EntriesStayAtGates : Type 0
EntriesStayAtGates =
    (data_ : Data) (canon : Term → Term) (processes : List Process) (gates : List ℕ) (b : Behaviour) (entries : List Entry) →
    Every (UsesFormals processes) processes →
    UsesOnly (IsOneOf gates) processes b →
    Exact data_ canon processes b entries →
    (entry : Entry) →
    IsEntry entries entry →
    IsAt (IsOneOf gates) entry.label
