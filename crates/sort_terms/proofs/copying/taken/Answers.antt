use Rattle.std.proofs.Common.{length, ap, ◌∙◌, arith}
use Rattle.std.proofs.lemmas.List.{length-append}
use Rattle.sort_terms.proofs.CopyLemmas.{taken_more}
use Rattle.sort_terms.proofs.copying.taken.Goals as goal

pub loop-index-preserved : goal.loop-index-preserved
loop-index-preserved c = (
  (let e = ap length c.in_ok-push.ensures.items ∙ length-append c.loop-index.terms.items _ in omega (arith, e, c.loop-index.invariant.0)),
  taken_more c.args.made.now.items c.loop-index.made.items c.pop.new.self.items c.loop-index.terms.items c.push.new.self.items
      c.in-Some.term c.loop-index.invariant.1 c.in-Some.ensures.items c.in_ok-push.ensures.items,
)
