-- Behaviour expressions as they are written.
use Rattle.std.specs.Prelude.{ℕ, List, Option}
use Rattle.lotos_base.specs.Equation.{Place}
use Rattle.lotos_base.specs.WrittenTerm.{PlacedName, WrittenTerm}
use Rattle.syntax_trees.specs.WrittenVariable.{WrittenVariable}
use Rattle.syntax_trees.specs.WrittenEquation.{WrittenPremiss}

-- a sign between two behaviours: `[]`, `|||`, `||`, `|[..]|`, `[>`, and `>>` with the variables of its `accept`
pub data WrittenSign : Type 0 where
  choice_sign : WrittenSign
  interleaving : WrittenSign
  full_synchronisation : WrittenSign
  synchronising : (gates : List PlacedName) → WrittenSign
  disabling : WrittenSign
  enabling : (accepted : List WrittenVariable) → WrittenSign

-- a gate that a `choice` or a `par` declares, with the gates that it stands for
pub record WrittenGateChoice : Type 0 where
  pub place : Place
  pub name : List ℕ
  pub among : List PlacedName

-- a value of `exit`: a term, or `any S`
pub data WrittenExitValue : Type 0 where
  exit_term : WrittenTerm → WrittenExitValue
  exit_any : PlacedName → WrittenExitValue

-- an offer of an action: `!e`, or `?x: S`
pub data WrittenOffer : Type 0 where
  offer_value : WrittenTerm → WrittenOffer
  offer_variable : WrittenVariable → WrittenOffer

-- a behaviour: `stop`; `exit(..)`; `P[g](e)`; `g !e ?x:S [test]; B`; `i; B`; `[test] -> B`; `hide .. in B`;
-- `let x:S = e in B`; `choice x:S [] B`; `choice g in [..] [] B`; `par g in [..] sign B`; `B sign C`. A binary one is
-- placed at its sign, every other at its first token. A `choice` and a `par` keep all their declarations in one list.
pub data WrittenBehaviour : Type 0 where
  stop : (place : Place) → WrittenBehaviour
  exit : (place : Place) (values : List WrittenExitValue) → WrittenBehaviour
  call : (place : Place) (name : List ℕ) (gates : List PlacedName) (values : List WrittenTerm) → WrittenBehaviour
  action : (place : Place) (gate : List ℕ) (offers : List WrittenOffer) (test : Option WrittenPremiss) (next : WrittenBehaviour)
      → WrittenBehaviour
  inner_action : (place : Place) (next : WrittenBehaviour) → WrittenBehaviour
  guard : (place : Place) (test : WrittenPremiss) (next : WrittenBehaviour) → WrittenBehaviour
  hide : (place : Place) (gates : List PlacedName) (inside : WrittenBehaviour) → WrittenBehaviour
  let_be : (place : Place) (values : List (WrittenVariable × WrittenTerm)) (inside : WrittenBehaviour) → WrittenBehaviour
  choose_value : (place : Place) (variables : List WrittenVariable) (inside : WrittenBehaviour) → WrittenBehaviour
  choose_gate : (place : Place) (gates : List WrittenGateChoice) (inside : WrittenBehaviour) → WrittenBehaviour
  par_gate : (place : Place) (gates : List WrittenGateChoice) (sign : WrittenSign) (inside : WrittenBehaviour) → WrittenBehaviour
  binary : (place : Place) (sign : WrittenSign) (left right : WrittenBehaviour) → WrittenBehaviour
