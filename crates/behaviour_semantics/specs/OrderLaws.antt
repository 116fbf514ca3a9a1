-- What the order of shapes obeys.
use Rattle.std.specs.Prelude.{◌≡◌, ◌⊎◌, List}
use Rattle.lotos_base.specs.Term.{Term}
use Rattle.lotos_base.specs.Equation.{Data}
use Rattle.behaviour_semantics.specs.Behaviour.{Behaviour, Process}
use Rattle.behaviour_semantics.specs.Shape.{Shape, Before}
use Rattle.behaviour_semantics.specs.Draft.{Fits}
use Rattle.behaviour_semantics.specs.Solving.{Entry}
use Rattle.behaviour_semantics.specs.Menu.{Exact}

-- 'before' is a strict order: no shape comes before itself, and what comes before one that comes before a third
-- comes before the third
pub record BeforeIsAStrictOrder : Type 0 where
  pub irreflexive : (s : Shape) → Before s s → ⊥
  pub transitive : (s t u : Shape) → Before s t → Before t u → Before s u

-- two shapes that fit one behaviour are the same, or one comes before the other
abbrev pub FittingShapesAreOrdered : Type 0
FittingShapesAreOrdered =
    (data_ : Data) (canon : Term → Term) (processes : List Process) (b : Behaviour) (s t : Shape) →
    Fits data_ canon processes b s →
    Fits data_ canon processes b t →
    (s ≡ t) ⊎ (Before s t ⊎ Before t s)

-- at most one list is exact for a behaviour
abbrev pub AtMostOneMenuIsExact : Type 0
AtMostOneMenuIsExact =
    (data_ : Data) (canon : Term → Term) (processes : List Process) (b : Behaviour) (menu other : List Entry) →
    Exact data_ canon processes b menu →
    Exact data_ canon processes b other →
    menu ≡ other
