use Rattle.std.proofs.Common.{◌≡◌, false}
use Rattle.ll_engine.specs.Related.{related}
use Rattle.ll_engine.specs.Computed.{leads}
use Rattle.ll_engine.proofs.relation.Relation.leads.Given as goal

abbrev pub invariant-loop-middle : goal.invariant-loop-middle
invariant-loop-middle l = leads (related l.self) l.self.tokens l.middle l.part l.column ≡ false
