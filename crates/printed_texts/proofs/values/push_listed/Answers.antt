use Rattle.std.proofs.Common.{◌≡◌, length, ap, arith}
use Rattle.printed_texts.specs.TextView.{written_value}
use Rattle.printed_texts.proofs.BracketLemmas.{listed_all}
use Rattle.printed_texts.proofs.values.push_listed.Goals as goal

pub returns : goal.returns
returns c =
    listed_all (written_value c.args.signature.now) c.args.values.now.items c.loop-index.index _ _
    (let e : length c.deref-value-items.result.now ≡ length c.args.values.now.items
    = ap length c.deref-value-items.ensures.value in omega arith)
    (let e : length c.deref-value-items.result.now ≡ length c.args.values.now.items
    = ap length c.deref-value-items.ensures.value in omega arith)
    c.loop-index.invariant
