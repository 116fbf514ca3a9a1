-- Specifications and processes as they are written.
use Rattle.std.specs.Prelude.{ℕ, List, [], ◌∷◌, Option}
use Rattle.lotos_base.specs.Equation.{Place}
use Rattle.lotos_base.specs.WrittenTerm.{PlacedName}
use Rattle.syntax_trees.specs.WrittenVariable.{WrittenVariable}
use Rattle.syntax_trees.specs.WrittenItem.{WrittenItem}
use Rattle.syntax_trees.specs.WrittenBehaviour.{WrittenBehaviour}

-- what stands before the body of a specification or a process: its name, placed, the formal gates and parameters, and
-- the functionality, which is the sorts of its `exit` or None for `noexit`
pub record WrittenHeading : Type 0 where
  pub place : Place
  pub name : List ℕ
  pub gates : List PlacedName
  pub parameters : List WrittenVariable
  pub functionality : Option (List PlacedName)

-- a type cannot hold a list of itself, so what a `where` declares and the list of it are declared together
mutual
  -- what a `where` declares: an item, or a process with its heading, its body and its own `where`
  pub data WrittenInner : Type 0 where
    inner_item : WrittenItem → WrittenInner
    process : (heading : WrittenHeading) (body : WrittenBehaviour) (inner : WrittenInners) → WrittenInner

  -- a list of such declarations: the end, or one more before the rest
  pub data WrittenInners : Type 0 where
    no_inner : WrittenInners
    inner_then : WrittenInner → WrittenInners → WrittenInners

-- the declarations that are the members of a list
abbrev pub inners_of : List WrittenInner → WrittenInners
inners_of [] = no_inner
inners_of (inner ∷ rest) = inner_then inner (inners_of rest)

-- the list of the declarations
abbrev pub list_of_inners : WrittenInners → List WrittenInner
list_of_inners no_inner = []
list_of_inners (inner_then inner rest) = inner ∷ list_of_inners rest

-- a specification: its heading, the items before the behaviour, the behaviour, and what `where` declares
pub record WrittenSpecification : Type 0 where
  pub heading : WrittenHeading
  pub items : List WrittenItem
  pub body : WrittenBehaviour
  pub inner : List WrittenInner
