-- What the tree of a text that was read has besides its form (ISO 8807:1989, concrete syntax): the sign of a `par` is a
-- parallel one, each list of gates of a `choice` or a `par` has a gate, and an equation has an arrow exactly where it has premisses.
use Rattle.std.specs.Prelude.{◌≡◌, ◌≢◌, ◌↔◌, List, [], ◌∷◌, Option, None}
use Rattle.syntax_trees.specs.WrittenEquation.{WrittenEquation, WrittenGroup, WrittenEquations}
use Rattle.syntax_trees.specs.WrittenItem.{WrittenTypeBody, extends, renames, actualises, WrittenItem, libraries, type_declared}
use Rattle.syntax_trees.specs.WrittenBehaviour.{WrittenSign, choice_sign, interleaving, full_synchronisation, synchronising, disabling, enabling, WrittenGateChoice, WrittenBehaviour, stop, exit, call, action, inner_action, guard, hide, let_be, choose_value, choose_gate, par_gate, binary}
use Rattle.syntax_trees.specs.WrittenDefinition.{WrittenInner, WrittenInners, inner_item, process, no_inner, inner_then, inners_of, WrittenSpecification}

-- each member of the list is so
abbrev pub AllAre : {X : Type 0} → (X → Type 0) → List X → Type 0
AllAre P [] = Unit {0}
AllAre P (x ∷ xs) = P x × AllAre P xs

-- the sign is `|||`, `||` or `|[..]|`
abbrev pub IsParallel : WrittenSign → Type 0
IsParallel choice_sign = ⊥
IsParallel interleaving = Unit {0}
IsParallel full_synchronisation = Unit {0}
IsParallel (synchronising gates) = Unit {0}
IsParallel disabling = ⊥
IsParallel (enabling accepted) = ⊥

-- the list of gates that the declared gate stands for has a gate
abbrev pub HasGates : WrittenGateChoice → Type 0
HasGates choice = choice.among ≢ []

-- the same in a behaviour
abbrev pub IsReadableBehaviour : WrittenBehaviour → Type 0
IsReadableBehaviour (stop place) = Unit {0}
IsReadableBehaviour (exit place values) = Unit {0}
IsReadableBehaviour (call place name gates values) = Unit {0}
IsReadableBehaviour (action place gate offers test next) = IsReadableBehaviour next
IsReadableBehaviour (inner_action place next) = IsReadableBehaviour next
IsReadableBehaviour (guard place test next) = IsReadableBehaviour next
IsReadableBehaviour (hide place gates inside) = IsReadableBehaviour inside
IsReadableBehaviour (let_be place values inside) = IsReadableBehaviour inside
IsReadableBehaviour (choose_value place variables inside) = IsReadableBehaviour inside
IsReadableBehaviour (choose_gate place gates inside) = AllAre HasGates gates × IsReadableBehaviour inside
IsReadableBehaviour (par_gate place gates sign inside) = AllAre HasGates gates × IsParallel sign × IsReadableBehaviour inside
IsReadableBehaviour (binary place sign left right) = IsReadableBehaviour left × IsReadableBehaviour right

-- the equation has an arrow exactly where it has premisses
abbrev pub HasArrowForPremisses : WrittenEquation → Type 0
HasArrowForPremisses equation = (equation.arrow ≡ None) ↔ (equation.premisses ≡ [])

-- the same in a section of equations, and in an item
abbrev pub IsReadableGroup : WrittenGroup → Type 0
IsReadableGroup group = AllAre HasArrowForPremisses group.equations

abbrev pub AreReadableEquations : WrittenEquations → Type 0
AreReadableEquations equations = AllAre IsReadableGroup equations.groups

abbrev pub IsReadableTypeBody : WrittenTypeBody → Type 0
IsReadableTypeBody (extends imports sections) = AreReadableEquations sections.formal_equations × AreReadableEquations sections.equations
IsReadableTypeBody (renames base pairs) = Unit {0}
IsReadableTypeBody (actualises base actuals pairs) = Unit {0}

abbrev pub IsReadableItem : WrittenItem → Type 0
IsReadableItem (libraries place names) = Unit {0}
IsReadableItem (type_declared place name body) = IsReadableTypeBody body

abbrev mutual
  -- the same in what a `where` declares
  pub IsReadableInner : WrittenInner → Type 0
  IsReadableInner (inner_item item) = IsReadableItem item
  IsReadableInner (process heading body inner) = IsReadableBehaviour body × AreReadableInners inner

  pub AreReadableInners : WrittenInners → Type 0
  AreReadableInners no_inner = Unit {0}
  AreReadableInners (inner_then inner others) = IsReadableInner inner × AreReadableInners others

-- the same in the items of a text of types, and in a specification
abbrev pub AreReadableItems : List WrittenItem → Type 0
AreReadableItems items = AllAre IsReadableItem items

abbrev pub IsReadableSpecification : WrittenSpecification → Type 0
IsReadableSpecification text =
    AreReadableItems text.items × IsReadableBehaviour text.body × AreReadableInners (inners_of text.inner)
