use Rattle.std.proofs.Common.{◌≡◌, ◌<◌, false, length, List, None, set, slice_get, ap, sym, ◌∙◌, subst, arith}
use Rattle.std.proofs.lemmas.List.{length-set}
use Rattle.behaviour_semantics.specs.Behaviour.{Test}
use Rattle.behaviour_semantics.specs.Solving.{replacement_of}
use Rattle.event_offers.specs.OfferView.{condition_of, conditions_of}
use Rattle.sort_terms.specs.declared.sorted.Sorted.{Sorted}
use Rattle.draft_solving.specs.Changing.{changed_by}
use Rattle.draft_solving.specs.Conditions.{AreOpen, changed_at, GiveNoneBefore, is_unmet}
use Rattle.draft_solving.proofs.PlaceLemmas.{condition_at}
use Rattle.draft_solving.proofs.PutWay.{found_at, none_after, not_told, open_after, ready_at, set_changed, set_ready, told_not}
use Rattle.draft_solving.proofs.putting.put_there.Goals as goal

pub put_in_sides-requires : goal.put_in_sides-requires
put_in_sides-requires g c =
    ready_at (g.D.Deciding.known_data c.args.decider.now) (g.D.Deciding.canon c.args.decider.now)
    (g.met.D.Deciding.is_canon c.args.decider.now) c.args.found.now c.requires.lacks c.args.work.now.spread.items c.args.place
    c.index_mut.result.now c.requires.within c.index_mut.ensures.value c.requires.ready

pub returns-clause-put : goal.returns-clause-put
returns-clause-put g c =
    set_changed (g.D.Deciding.known_data c.args.decider.now) (g.D.Deciding.canon c.args.decider.now)
    (g.met.D.Deciding.is_canon c.args.decider.now) c.args.found.now c.requires.lacks c.args.work.now.spread.items c.args.place
    c.index_mut.result.now c.put_in_sides.new.condition c.requires.within c.index_mut.ensures.value c.in_ok-put_in_sides.ensures.same

pub returns-clause-ready : goal.returns-clause-ready
returns-clause-ready g c =
    set_ready (g.D.Deciding.known_data c.args.decider.now) (g.D.Deciding.canon c.args.decider.now)
    (g.met.D.Deciding.is_canon c.args.decider.now) c.args.found.now c.requires.lacks c.args.work.now.spread.items c.args.place
    c.index_mut.result.now c.put_in_sides.new.condition c.requires.within c.index_mut.ensures.value c.in_ok-put_in_sides.ensures.same
    c.in_ok-put_in_sides.ensures.is_of c.requires.ready

pub returns-clause-passed : goal.returns-clause-passed
returns-clause-passed g c = λ passed.
    let items : List (Sorted × Sorted) = c.args.work.now.spread.items in
    let now : List (Sorted × Sorted) = set items c.args.place c.put_in_sides.new.condition in
    let size : length now ≡ length items = length-set items c.args.place c.put_in_sides.new.condition in
    let f = changed_by (g.D.Deciding.canon c.args.decider.now) c.args.found.now in
    let put : conditions_of now ≡ changed_at f c.args.place (conditions_of items) = returns-clause-put g c in
    let within : c.args.place < length now = omega (arith, size, c.requires.within) in
    subst (GiveNoneBefore c.next_behind-work.result) (sym put)
    (none_after f c.args.place c.args.work.now.next c.next_behind-work.result (conditions_of items) c.next_behind-work.ensures.least
    (λ test lt at.
    found_at (λ (t : Test). c.args.place < c.next_behind-work.result → replacement_of t.left t.right ≡ None) now c.args.place
    c.index.result.now within c.index.ensures c.next_behind-work.ensures.passed test
    (ap (λ (ts : List Test). slice_get ts c.args.place) put ∙ at) lt)
    passed)

pub returns-clause-none_unmet : goal.returns-clause-none_unmet
returns-clause-none_unmet g c = λ told none.
    let items : List (Sorted × Sorted) = c.args.work.now.spread.items in
    let now : List (Sorted × Sorted) = set items c.args.place c.put_in_sides.new.condition in
    let size : length now ≡ length items = length-set items c.args.place c.put_in_sides.new.condition in
    let f = changed_by (g.D.Deciding.canon c.args.decider.now) c.args.found.now in
    let put : conditions_of now ≡ changed_at f c.args.place (conditions_of items) = returns-clause-put g c in
    let within : c.args.place < length now = omega (arith, size, c.requires.within) in
    subst AreOpen (sym put)
    (open_after f c.args.place (conditions_of items) (λ test at.
    found_at (λ (t : Test). is_unmet t ≡ false) now c.args.place c.index-2.result.now within c.index-2.ensures
    (sym c.is_unmet.ensures ∙ not_told c.is_unmet.result told) test (ap (λ (ts : List Test). slice_get ts c.args.place) put ∙ at)) none)

pub returns-clause-unmet : goal.returns-clause-unmet
returns-clause-unmet g c = λ told.
    let items : List (Sorted × Sorted) = c.args.work.now.spread.items in
    let now : List (Sorted × Sorted) = set items c.args.place c.put_in_sides.new.condition in
    let size : length now ≡ length items = length-set items c.args.place c.put_in_sides.new.condition in
    let within : c.args.place < length now = omega (arith, size, c.requires.within) in
    record {
      place = c.args.place;
      test = condition_of c.index-2.result.now;
      stands = condition_at now c.args.place c.index-2.result.now within c.index-2.ensures;
      unmet = sym c.is_unmet.ensures ∙ told_not c.is_unmet.result told;
    }
