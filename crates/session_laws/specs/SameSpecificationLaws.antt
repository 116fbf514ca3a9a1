-- What same specifications over same data obey: their behaviours have the same moves, drafts and exact menus.
use Rattle.std.specs.Prelude.{◌≡◌, List}
use Rattle.lotos_base.specs.Term.{Term}
use Rattle.lotos_base.specs.Equation.{Data}
use Rattle.behaviour_semantics.specs.Behaviour.{Behaviour, Process, Specification}
use Rattle.behaviour_semantics.specs.Label.{Label}
use Rattle.behaviour_semantics.specs.Shape.{Shape, Derivation}
use Rattle.behaviour_semantics.specs.Derives.{GivesMove}
use Rattle.behaviour_semantics.specs.Draft.{draft_of}
use Rattle.behaviour_semantics.specs.Solving.{Entry}
use Rattle.behaviour_semantics.specs.Menu.{Exact}
use Rattle.behaviour_semantics.specs.Guardedness.{IsGuarded}
use Rattle.certificate_theory.specs.SameData.{AreSameData}
use Rattle.declaration_laws.specs.SameSpecification.{AreSameProcesses, AreSameSpecifications}

pub record SameSpecificationsDoTheSame : Type 0 where
  -- same specifications are the same the other way round too
  pub mutual_specifications : (one other : Specification) → AreSameSpecifications one other → AreSameSpecifications other one
  -- a derivation gives a behaviour the same label and target, with values as they are given or in canonical form
  pub moves :
      (data_ other : Data) (represent : Term → Term) (processes others : List Process) (b : Behaviour) (d : Derivation)
      (label : Label) (target : Behaviour) →
      AreSameData data_ other →
      AreSameProcesses processes others →
      GivesMove data_ represent processes b d label target →
      GivesMove other represent others b d label target
  -- a shape has the same draft
  pub drafts :
      (data_ other : Data) (canon : Term → Term) (processes others : List Process) (shape : Shape) (b : Behaviour) →
      AreSameData data_ other →
      AreSameProcesses processes others →
      draft_of data_ canon processes shape b ≡ draft_of other canon others shape b
  -- the exact menu of a behaviour is the same
  pub menus :
      (data_ other : Data) (canon : Term → Term) (processes others : List Process) (b : Behaviour) (entries : List Entry) →
      AreSameData data_ other →
      AreSameProcesses processes others →
      Exact data_ canon processes b entries →
      Exact other canon others b entries
  -- recursion is guarded in both
  pub guarded : (processes others : List Process) → AreSameProcesses processes others → IsGuarded processes → IsGuarded others
