use Rattle.std.proofs.lemmas.Result.{on_ok_weaker}
use Rattle.demo_walks.proofs.SummaryLemmas.{summary_written}
use Rattle.demo_walks.proofs.summaries.push_summary.Goals as goal

pub returns : goal.returns
returns c = on_ok_weaker c.push_text-6.result (λ last.
    summary_written c.args.into.now.items c.push_text.new.into.items c.push_number.new.into.items c.push_text-2.new.into.items
    c.push_sizes.new.into.items c.push_text-3.new.into.items c.push_number-2.new.into.items c.push_text-4.new.into.items
    c.push_number-3.new.into.items c.push_text-5.new.into.items c.push_last.new.into.items c.push_text-6.new.into.items
    c.args.data.now c.args.spec.now c.args.cells c.args.tally.now
    c.in_ok-push_text.ensures c.in_ok-push_number.ensures c.in_ok-push_text-2.ensures c.in_ok-push_sizes.ensures
    c.in_ok-push_text-3.ensures c.in_ok-push_number-2.ensures c.in_ok-push_text-4.ensures c.in_ok-push_number-3.ensures
    c.in_ok-push_text-5.ensures c.in_ok-push_last.ensures last) c.push_text-6.ensures
