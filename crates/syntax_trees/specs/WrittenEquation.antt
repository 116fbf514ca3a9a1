-- Equations and premisses as they are written.
use Rattle.std.specs.Prelude.{ℕ, List, Option}
use Rattle.lotos_base.specs.Equation.{Place}
use Rattle.lotos_base.specs.WrittenTerm.{WrittenTerm}
use Rattle.syntax_trees.specs.WrittenVariable.{WrittenVariable}

-- a premiss, at its first token: an equation of two terms, or one term, which has to be true
pub record WrittenPremiss : Type 0 where
  pub place : Place
  pub left : WrittenTerm
  pub right : Option WrittenTerm

-- an equation, at its first token, with the premisses before its `=>` and the place of this arrow
pub record WrittenEquation : Type 0 where
  pub place : Place
  pub premisses : List WrittenPremiss
  pub arrow : Option Place
  pub left : WrittenTerm
  pub right : WrittenTerm

-- the equations behind one `ofsort`, at the place of the sort, with the variables of their own `forall`
pub record WrittenGroup : Type 0 where
  pub place : Place
  pub sort : List ℕ
  pub variables : List WrittenVariable
  pub equations : List WrittenEquation

-- a section of equations: the variables of its `forall`, and a group for each `ofsort`
pub record WrittenEquations : Type 0 where
  pub variables : List WrittenVariable
  pub groups : List WrittenGroup
