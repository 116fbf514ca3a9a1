use Rattle.std.proofs.Common.{sym, ◌∙◌, arith}
use Rattle.behaviour_tree.specs.Placings.{values_of}
use Rattle.behaviour_tree.proofs.ListLemmas.{same_length, same_at, same_more}
use Rattle.behaviour_tree.proofs.list_equality.all_same.Goals as goal

-- lists of different lengths
pub returns-then-len : goal.returns-then-len
returns-then-len g c = (
  (λ h. cc),
  (λ same. absurd (c.if-len.true (c.len.ensures ∙ c.args.items.now.ok.0
      ∙ same_length (g.T.Placed.placed (values_of c.args.here.now)) (g.T.Placed.placed (values_of c.args.there.now))
      c.args.items.now.items c.args.others.now.items same
      ∙ sym c.args.others.now.ok.0 ∙ sym c.len-2.ensures))),
)

-- two members that differ
pub returns-then-not-same : goal.returns-then-not-same
returns-then-not-same g c = (
  (λ h. cc),
  (λ same. sym c.if-not-same.true ∙ c.same.ensures.1
      (same_at (g.T.Placed.placed (values_of c.args.here.now)) (g.T.Placed.placed (values_of c.args.there.now))
      c.args.items.now.items c.args.others.now.items c.loop-i.i c.index.result.now c.index-in-loop-i.result.now
      (omega arith) c.index.ensures c.index-in-loop-i.ensures same)),
)

pub loop-i-preserved : goal.loop-i-preserved
loop-i-preserved g c =
    same_more (g.T.Placed.placed (values_of c.args.here.now)) (g.T.Placed.placed (values_of c.args.there.now))
    c.args.items.now.items c.args.others.now.items c.loop-i.i c.index.result.now c.index-in-loop-i.result.now
    (omega arith) (omega arith) c.index.ensures c.index-in-loop-i.ensures c.loop-i.invariant
    (c.same.ensures.0 c.if-not-same.false)
