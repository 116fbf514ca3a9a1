use Rattle.std.proofs.Common.{◌∙◌, sym, arith}
use Rattle.std.proofs.lemmas.Bool.{or_from}
use Rattle.ll_engine.specs.Related.{related}
use Rattle.ll_engine.specs.Computed.{leads_by, any_below}
use Rattle.ll_engine.proofs.Lists.{any_below-more, any_below-from_at}
use Rattle.ll_engine.proofs.relation.Relation.leads.Goals as goal

pub loop-middle-preserved : goal.loop-middle-preserved
loop-middle-preserved c =
    let test = leads_by (related c.args.self.now) c.args.self.now.tokens c.args.part c.args.column in
    any_below-more test c.loop-middle.middle
    ∙ or_from (any_below test c.loop-middle.middle) (test c.loop-middle.middle) c.loop-middle.invariant (cc)

pub returns-then-leads_by : goal.returns-then-leads_by
returns-then-leads_by c =
    let test = leads_by (related c.args.self.now) c.args.self.now.tokens c.args.part c.args.column in
    sym (any_below-from_at test c.args.self.now.parts c.loop-middle.middle (omega arith) (cc))
