use Rattle.std.proofs.Common.{◌∙◌, List, set, ap}
use Rattle.std.specs.Prelude.{IsTrue}
use Rattle.process_checks.specs.GraphView.{lists_of}
use Rattle.process_checks.specs.declared.search.Status.{Status}
use Rattle.process_checks.specs.declared.search.Status.TheVariants as status
use Rattle.process_checks.proofs.SearchSteps.{cycle_found, followed}
use Rattle.process_checks.proofs.search.Search.follow.Goals as goal

pub returns-then-not-is_new-clause-cyclic : goal.returns-then-not-is_new-clause-cyclic
returns-then-not-is_new-clause-cyclic c =
    λ no. cycle_found (lists_of c.args.graph.now.items) c.args.self.now.statuses.items c.args.self.now.chain.items
    c.args.self.now.next c.args.process c.args.found.position c.args.found.process c.requires.search c.requires.latest
    c.requires.found.calls c.requires.found.unranked
    (λ new. let t : IsTrue c.is_new.result = c.is_new.ensures.1 new in absurd (cc (t, c.if-not-is_new.true)))

pub returns-clause-going : goal.returns-clause-going
returns-clause-going c =
    λ yes. followed (lists_of c.args.graph.now.items) c.args.self.now c.enter.new.self c.args.process c.args.found
    c.requires.search c.requires.latest c.requires.found (c.is_new.ensures.0 (cc c.if-not-is_new.false))
    (c.in_ok-enter.ensures.statuses ∙ ap (λ (ss : List Status). set ss c.args.found.process (status.Open 0)) c.put.ensures)
    c.in_ok-enter.ensures.chain c.in_ok-enter.ensures.next
