use Rattle.std.proofs.Common.{arith}
use Rattle.std.proofs.lemmas.List.{length-set}
use Rattle.draft_solving.proofs.PlaceLemmas.{place_held, place_kept}
use Rattle.draft_solving.proofs.places.Places.add.Goals as goal

pub returns-in_ok-push-clause-kept : goal.returns-in_ok-push-clause-kept
returns-in_ok-push-clause-kept c = record {
  size = length-set c.args.self.now.lists.items c.args.number c.push.new.self;
  kept = place_kept c.args.self.now.lists.items c.args.number c.index_mut.result.now c.push.new.self c.args.place
      c.index_mut.ensures.value c.in_ok-push.ensures.items;
}

pub returns-in_ok-push-clause-noted : goal.returns-in_ok-push-clause-noted
returns-in_ok-push-clause-noted c = λ within.
    place_held c.args.self.now.lists.items c.args.number c.index_mut.result.now c.push.new.self c.args.place
    (omega arith) c.in_ok-push.ensures.items
