use Rattle.std.proofs.Common.{◌≡◌, ◌≤◌, ◌<◌, ◌+◌, ◌*◌, ap, arith, rules, ℕ}
use Rattle.sort_terms.specs.ProfiledSize.{profiled_sizes}
use Rattle.sort_terms.specs.TermSize.{shared_sizes}
use Rattle.sort_terms.specs.TermView.{all_profiled}
use Rattle.sort_terms.specs.declared.terms.Arguments.TheDeep.{deep-Term}
use Rattle.sort_terms.proofs.SizeLemmas.{dropped_below, size_node, sizes_popped}
use Rattle.sort_terms.proofs.terms.Term.+drop.Goals as goal

pub loop-last-smaller : goal.loop-last-smaller
loop-last-smaller t c =
    let all = sizes_popped c.loop-last.left.items c.pop.new.self.items c.in-Some.last c.in-Some.ensures.items in
    omega (arith, c.opened-next.ensures)

pub loop-last-smaller-in-Some-shared : goal.loop-last-smaller-in-Some-shared
loop-last-smaller-in-Some-shared t c =
    let all = sizes_popped c.loop-last.left.items c.pop.new.self.items c.in-Some.last c.in-Some.ensures.items in
    omega (arith, c.opened-next.ensures, all)

pub loop-last-preserved : goal.loop-last-preserved
loop-last-preserved t c =
    let all = sizes_popped c.loop-last.left.items c.pop.new.self.items c.in-Some.last c.in-Some.ensures.items in
    omega (arith, c.opened-next.ensures, c.loop-last.invariant, all)

pub loop-last-preserved-in-Some-shared : goal.loop-last-preserved-in-Some-shared
loop-last-preserved-in-Some-shared t c =
    let all = sizes_popped c.loop-last.left.items c.pop.new.self.items c.in-Some.last c.in-Some.ensures.items in
    omega (arith, c.opened-next.ensures, c.loop-last.invariant, all)

-- What is let go has fewer than the term.
pub drop-arguments-inside-requires : goal.drop-arguments-inside-requires
drop-arguments-inside-requires t c κs =
    let items = c._arguments.inside.items.value.items in
    let all = sizes_popped c.loop-last.left.items c.pop.new.self.items c.in-Some.last c.in-Some.ensures.items in
    let shared = ap shared_sizes c.in-Some-shared.is in
    let seen : profiled_sizes (all_profiled items) ≡ profiled_sizes c.in-Some-shared._arguments = ap profiled_sizes c._arguments.view_is in
    let whole = size_node c.args.self c.in-Node.op c.in-Node.profile c.in-Node.arguments c.in-Node.is in
    let deep = ap deep-Term c.in-Node.is in
    let fewer : 2 * profiled_sizes (all_profiled items) + 1 < t =
    omega (arith, c.decreases, c.opened-next.ensures, c.loop-last.invariant, all, shared, seen, whole, deep) in
    (((below _ (2 * profiled_sizes (all_profiled items) + 1) t (dropped_below items) fewer, tt), tt), search rules)
  where
    below : (a b t : ℕ) → a ≤ b → b < t → a < t
    below a b t no_more less = omega arith
