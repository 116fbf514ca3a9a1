use Rattle.std.proofs.lemmas.Map.Iter.{rest_more}
use Rattle.std.specs.Map.Iter.{deref_pair}
use Rattle.sort_terms.specs.ChoicesView.{choice_at}
use Rattle.sort_terms.proofs.CommonLemmas.{common_passed, common_added}
use Rattle.sort_terms.proofs.choices.Choices.common.Goals as goal

pub loop-sort-preserved-in-None-at : goal.loop-sort-preserved-in-None-at
loop-sort-preserved-in-None-at c =
    common_passed c.loop-sort.sort-iterator c.next.new.self c.in-Some.sort.now c.in-Some.choice.now (choice_at c.loop-sort.common)
    (choice_at c.args.other.now) (choice_at c.args.self.now)
    (rest_more deref_pair _ _ c.next.result (c.in-Some.sort, c.in-Some.choice) c.in-Some.is c.next.ensures.steps)
    c.in-None-at.ensures c.loop-sort.invariant

pub loop-sort-preserved : goal.loop-sort-preserved
loop-sort-preserved c =
    common_added c.loop-sort.sort-iterator c.next.new.self c.in-Some.sort.now c.in-Some.choice.now c.in-Some-at.second c.or_several.result
    (choice_at c.loop-sort.common) (choice_at c.add.new.self) (choice_at c.args.other.now) (choice_at c.args.self.now)
    (rest_more deref_pair _ _ c.next.result (c.in-Some.sort, c.in-Some.choice) c.in-Some.is c.next.ensures.steps)
    c.in-Some-at.ensures c.or_several.ensures c.in_ok-add-in-Some-at.ensures c.loop-sort.invariant
