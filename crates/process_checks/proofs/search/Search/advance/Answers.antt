use Rattle.std.proofs.Common.{◌≡◌, ◌≤◌, ◌∙◌, ℕ, ap, sym, subst}
use Rattle.process_checks.specs.GraphView.{lists_of}
use Rattle.process_checks.specs.Search.{position_of, status_at}
use Rattle.process_checks.proofs.SearchSteps.{ranked}
use Rattle.process_checks.proofs.search.Search.advance.Goals as goal

pub returns-in-None-clause-going : goal.returns-in-None-clause-going
returns-in-None-clause-going c =
    λ yes.
    let e : c.position-from.result ≡ position_of (status_at c.args.self.now.statuses.items c.args.process) =
    c.position-from.ensures ∙ ap position_of c.status_in.ensures in
    ranked (lists_of c.args.graph.now.items) c.args.self.now c.close.new.self c.args.process c.requires.search c.requires.latest
    (λ k other le at. c.in-None.ensures k other (subst (λ (n : ℕ). n ≤ k) (sym e) le) at) c.close.ensures.statuses
    c.close.ensures.chain c.close.ensures.next
