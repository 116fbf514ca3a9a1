use Rattle.std.proofs.Common.{◌≡◌, ◌-◌, ◌++◌, ◌∷◌, [], ◌∙◌, ℕ, suc, List, Some, ap, sym, subst, arith}
use Rattle.std.proofs.lemmas.List.{append_assoc, append-nil}
use Rattle.process_checks.specs.Graph.{IsKeptCycle}
use Rattle.process_checks.specs.GraphView.{lists_of}
use Rattle.process_checks.specs.Ways.{distance_in}
use Rattle.process_checks.proofs.CycleLemmas.{kept_end, kept_further, some_near}
use Rattle.process_checks.proofs.cycles.kept_cycle.Goals as goal

pub next_near-current-requires : goal.next_near-current-requires
next_near-current-requires c =
    let e : c.loop-left.left ≡ suc (c.loop-left.left - 1) = omega (arith, c.loop-left-test.true) in
    some_near (lists_of c.args.graph.now.items) c.args.distances.now.items c.args.process c.loop-left.current (c.loop-left.left - 1)
    c.requires.distances (c.loop-left.invariant.0 ∙ ap (λ (n : ℕ). Some n) e)

pub loop-left-preserved : goal.loop-left-preserved
loop-left-preserved c = (
  c.next_near-current.ensures.near,
  (λ way kept.
      let e : c.loop-left.left ≡ suc (c.loop-left.left - 1) = omega (arith, c.loop-left-test.true) in
      let near : distance_in c.args.distances.now.items c.loop-left.current ≡ Some (suc (c.loop-left.left - 1)) =
      c.loop-left.invariant.0 ∙ ap (λ (n : ℕ). Some n) e in
      let regroup : c.push-in-loop-left.new.self.items ++ way ≡ c.loop-left.cycle.items ++ (c.loop-left.current ∷ way) =
      ap (λ (ns : List ℕ). ns ++ way) c.in_ok-push-2.ensures.items ∙ append_assoc c.loop-left.cycle.items (c.loop-left.current ∷ [])
      way in
      subst (λ (ns : List ℕ). IsKeptCycle (lists_of c.args.graph.now.items) c.args.process c.args.back.position ns) (sym regroup)
      (c.loop-left.invariant.1 (c.loop-left.current ∷ way)
      (kept_further (lists_of c.args.graph.now.items) c.args.distances.now.items c.args.process c.loop-left.current
      (c.loop-left.left - 1) c.next_near-current.result c.requires.distances near c.next_near-current.ensures way kept))),
)

pub returns : goal.returns
returns c =
    let e : c.loop-left.left ≡ 0 = omega (arith, c.loop-left-test.false) in
    subst (λ (ns : List ℕ). IsKeptCycle (lists_of c.args.graph.now.items) c.args.process c.args.back.position ns)
    (append-nil c.loop-left.cycle.items)
    (c.loop-left.invariant.1 []
    (kept_end (lists_of c.args.graph.now.items) c.args.distances.now.items c.args.process c.loop-left.current c.requires.distances
    (c.loop-left.invariant.0 ∙ ap (λ (n : ℕ). Some n) e)))
