use Rattle.std.proofs.lemmas.Result.{on_ok_weaker}
use Rattle.certificate_verbs.proofs.InducingLemmas.{counts_written}
use Rattle.certificate_verbs.proofs.inducing.push_counts.Goals as goal

pub returns : goal.returns
returns c = on_ok_weaker c.push_text-3.result (λ last.
    counts_written c.args.into.now.items c.push_text.new.into.items c.push_number.new.into.items c.push_text-2.new.into.items
    c.push_number-2.new.into.items c.push_text-3.new.into.items c.args.lemmas c.args.requirements c.in_ok-push_text.ensures
    c.in_ok-push_number.ensures c.in_ok-push_text-2.ensures c.in_ok-push_number-2.ensures last) c.push_text-3.ensures
