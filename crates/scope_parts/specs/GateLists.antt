-- What a text that was read has besides what its trees say: each list of gates of a `par` has a gate.
use Rattle.std.specs.Prelude.{◌≢◌, List, []}
use Rattle.syntax_trees.specs.WrittenBehaviour.{WrittenGateChoice, WrittenBehaviour, stop, exit, call, action, inner_action, guard, hide, let_be, choose_value, choose_gate, par_gate, binary}
use Rattle.syntax_trees.specs.WrittenDefinition.{WrittenInner, WrittenInners, inner_item, process, no_inner, inner_then, inners_of, WrittenSpecification}
use Rattle.behaviour_semantics.specs.WellFormed.{Every}

-- the lists have gates
abbrev pub HaveGates : List WrittenGateChoice → Type 0
HaveGates gates = Every (λ (gate : WrittenGateChoice). gate.among ≢ []) gates

abbrev pub HasGateLists : WrittenBehaviour → Type 0
HasGateLists (stop place) = Unit {0}
HasGateLists (exit place values) = Unit {0}
HasGateLists (call place name gates values) = Unit {0}
HasGateLists (action place gate offers test next) = HasGateLists next
HasGateLists (inner_action place next) = HasGateLists next
HasGateLists (guard place test next) = HasGateLists next
HasGateLists (hide place gates inside) = HasGateLists inside
HasGateLists (let_be place values inside) = HasGateLists inside
HasGateLists (choose_value place variables inside) = HasGateLists inside
HasGateLists (choose_gate place gates inside) = HasGateLists inside
HasGateLists (par_gate place gates sign inside) = HaveGates gates × HasGateLists inside
HasGateLists (binary place sign left right) = HasGateLists left × HasGateLists right

abbrev mutual
  pub InnerHasGateLists : WrittenInner → Type 0
  InnerHasGateLists (inner_item item) = Unit {0}
  InnerHasGateLists (process heading body inner) = HasGateLists body × InnersHaveGateLists inner

  pub InnersHaveGateLists : WrittenInners → Type 0
  InnersHaveGateLists no_inner = Unit {0}
  InnersHaveGateLists (inner_then inner others) = InnerHasGateLists inner × InnersHaveGateLists others

abbrev pub TextHasGateLists : WrittenSpecification → Type 0
TextHasGateLists text = HasGateLists text.body × InnersHaveGateLists (inners_of text.inner)
