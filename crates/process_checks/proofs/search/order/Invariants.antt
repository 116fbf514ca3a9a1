use Rattle.std.proofs.Common.{◌≡◌, ◌<◌, ℕ, []}
use Rattle.process_checks.specs.GraphView.{lists_of}
use Rattle.process_checks.specs.Search.{IsSoundSearch, status_at}
use Rattle.process_checks.specs.declared.search.Status.TheVariants as status
use Rattle.process_checks.proofs.search.order.Given as goal

abbrev pub invariant-loop-root : goal.invariant-loop-root
invariant-loop-root l =
    IsSoundSearch (lists_of l.graph.items) l.search
    × (l.search.chain.items ≡ [])
    × ((p : ℕ) → p < l.root → status_at l.search.statuses.items p ≡ status.New → ⊥)
