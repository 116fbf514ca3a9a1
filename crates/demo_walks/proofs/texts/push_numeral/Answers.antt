use Rattle.std.proofs.lemmas.Result.{on_ok_weaker}
use Rattle.demo_walks.proofs.TextLemmas.{numeral_whole}
use Rattle.demo_walks.proofs.texts.push_numeral.Goals as goal

pub returns : goal.returns
returns c = on_ok_weaker c.push_repeated-2.result (λ last.
    numeral_whole c.args.into.now.items _ _ _ c.args.value c.in_ok-push_repeated.ensures c.in_ok-push_text.ensures last)
    c.push_repeated-2.ensures
