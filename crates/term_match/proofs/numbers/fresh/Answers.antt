use Rattle.std.proofs.Common.{◌≡◌, ◌++◌, [], ◌∷◌, ℕ, List, get_or, sym, subst}
use Rattle.std.specs.Prelude.{false}
use Rattle.lotos_base.specs.Substitution.{is_listed}
use Rattle.term_match.specs.Numbers.{AreDistinctNumbers}
use Rattle.term_match.proofs.DistinctLemmas.{distinct_more}
use Rattle.term_match.specs.Renumbering.{new_numbers}
use Rattle.term_match.proofs.NumberLemmas.{EachMember, each_more, fresh_absent, olds_more, news_more, below_next}
use Rattle.term_match.proofs.numbers.fresh.Goals as goal

pub loop-old-preserved : goal.loop-old-preserved
loop-old-preserved c =
    let news : new_numbers c.push.new.self.items ≡ new_numbers c.loop-old.made.items ++ c.in_ok-new.new ∷ [] =
    news_more c.loop-old.made.items c.push.new.self.items (get_or c.args.olds.now c.loop-old.old-index 0) c.in_ok-new.new
    c.in_ok-push.ensures.items in
    record {
      olds = olds_more c.loop-old.made.items c.push.new.self.items c.args.olds.now c.loop-old.old-index c.in_ok-new.new
          c.loop-old-test.true c.in_ok-push.ensures.items c.loop-old.invariant.olds;
      distinct = subst (λ (ns : List ℕ). AreDistinctNumbers ns) (sym news)
          (distinct_more c.in_ok-new.new (new_numbers c.loop-old.made.items) c.loop-old.invariant.distinct
          (fresh_absent c.in_ok-new.new c.loop-old.next (new_numbers c.loop-old.made.items) c.loop-old.invariant.below
          c.in_ok-new.ensures.0));
      free = subst (λ (ns : List ℕ). EachMember (λ n. is_listed c.args.taken.now n ≡ false) ns) (sym news)
          (each_more (λ n. is_listed c.args.taken.now n ≡ false) c.in_ok-new.new (new_numbers c.loop-old.made.items)
          c.loop-old.invariant.free c.in_ok-new.ensures.1);
      below = below_next c.in_ok-new.new c.loop-old.next c.in_ok-next.next (new_numbers c.loop-old.made.items)
          (new_numbers c.push.new.self.items) news c.loop-old.invariant.below c.in_ok-new.ensures.0 c.in_ok-next.ensures;
    }
