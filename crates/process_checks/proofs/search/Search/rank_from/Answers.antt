use Rattle.process_checks.specs.GraphView.{lists_of}
use Rattle.process_checks.proofs.SearchSteps.{begun_from}
use Rattle.process_checks.proofs.search.Search.rank_from.Goals as goal

pub finish-requires-clause-search : goal.finish-requires-clause-search
finish-requires-clause-search c =
    begun_from (lists_of c.args.graph.now.items) c.args.self.now c.enter.new.self c.args.root c.requires.search c.requires.idle
    (c.is_new.ensures.0 (cc c.if-not-is_new.false)) c.in_ok-enter.ensures.statuses c.in_ok-enter.ensures.chain
    c.in_ok-enter.ensures.next
