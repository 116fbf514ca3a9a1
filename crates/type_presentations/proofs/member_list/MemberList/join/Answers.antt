use Rattle.std.proofs.Common.{◌∷◌, [], map, drop, ap, ◌+◌, ◌∙◌, List, arith}
use Rattle.std.specs.Prelude.{slice_get}
use Rattle.type_definitions.specs.Presentation.{first_position, with_new}
use Rattle.type_definitions.specs.ProfiledImage.{number_in}
use Rattle.type_presentations.specs.MemberListView.{members_by}
use Rattle.type_presentations.proofs.KeyedLemmas.{itself_by_key}
use Rattle.type_presentations.proofs.JoinedLemmas.{as_many_images, begins, comes, due_next, none_due, nothing_left, numbers_are, numbers_at_end, same_images}
use Rattle.type_presentations.proofs.member_list.MemberList.join.Goals as goal

pub loop-member-init : goal.loop-member-init
loop-member-init g c = (
  c.requires.keyed,
  begins g.T.Keyed.are_same g.T.Keyed.are_one (members_by g.T.Keyed.plain c.args.self.now)
      (map (g.T.Keyed.image_by (number_in c.args.sorts.now)) (map g.T.Keyed.plain c.as_slice-member-items.result.now))
      c.in_ok-numbers.numbers.items c.in_ok-numbers.ensures.items,
)

pub loop-member-preserved : goal.loop-member-preserved
loop-member-preserved g c = (
  c.in_ok-added.ensures.keyed,
  comes g.T.Keyed.are_same g.T.Keyed.are_one (members_by g.T.Keyed.plain c.args.self.now)
      (members_by g.T.Keyed.plain c.loop-member.self) (members_by g.T.Keyed.plain c.add.new.self)
      (map (g.T.Keyed.image_by (number_in c.args.sorts.now))
      (map g.T.Keyed.plain (drop c.loop-member.member-index c.as_slice-member-items.result.now)))
      (map (g.T.Keyed.image_by (number_in c.args.sorts.now))
      (map g.T.Keyed.plain (drop (c.loop-member.member-index + 1) c.as_slice-member-items.result.now)))
      (map (g.T.Keyed.image_by (number_in c.args.sorts.now)) (map g.T.Keyed.plain c.as_slice-member-items.result.now))
      (g.T.Keyed.image_by (number_in c.args.sorts.now) (g.T.Keyed.plain c.member-item.result)) c.loop-member.numbers.items
      c.push.new.self.items c.loop-member.member-index c.in_ok-added.added.number c.loop-member.clash c.in_ok-added.added.clashes
      c.loop-member.invariant.1
      (due_next c.as_slice-member-items.result.now c.loop-member.member-index c.member-item.result g.T.Keyed.plain
      (g.T.Keyed.image_by (number_in c.args.sorts.now)) c.loop-member-test.true c.member-item.is)
      c.in_ok-push.ensures.items
      (c.in_ok-added.ensures.members
      ∙ ap (λ (o : g.T.Keyed.Plain). with_new g.T.Keyed.are_same (members_by g.T.Keyed.plain c.loop-member.self) (o ∷ []))
      c.in_ok-image.ensures)
      (c.in_ok-added.ensures.number
      ∙ ap (λ (o : g.T.Keyed.Plain). first_position (g.T.Keyed.are_same o) (members_by g.T.Keyed.plain c.add.new.self))
      c.in_ok-image.ensures)
      c.in_ok-added.ensures.clashes,
)

pub add-requires-clause-keyed : goal.add-requires-clause-keyed
add-requires-clause-keyed g c = c.loop-member.invariant.0

pub add-requires-clause-few : goal.add-requires-clause-few
add-requires-clause-few g c =
    let many =
    as_many_images g.T.Keyed.plain c.as_slice-member-items.result.now c.args.other.now.members.items
    c.as_slice-member-items.ensures.value in
    omega (arith, many, c.loop-member.invariant.1.few, c.requires.few, c.loop-member-test.true)

pub returns-clause-members : goal.returns-clause-members
returns-clause-members g c =
    let at_end =
    nothing_left g.T.Keyed.are_same g.T.Keyed.are_one (members_by g.T.Keyed.plain c.args.self.now)
    (members_by g.T.Keyed.plain c.loop-member.self)
    (map (g.T.Keyed.image_by (number_in c.args.sorts.now))
    (map g.T.Keyed.plain (drop c.loop-member.member-index c.as_slice-member-items.result.now)))
    (map (g.T.Keyed.image_by (number_in c.args.sorts.now)) (map g.T.Keyed.plain c.as_slice-member-items.result.now))
    c.loop-member.numbers.items c.loop-member.member-index c.loop-member.clash c.loop-member.invariant.1
    (none_due c.as_slice-member-items.result.now c.loop-member.member-index g.T.Keyed.plain
    (g.T.Keyed.image_by (number_in c.args.sorts.now))
    c.loop-member-test.false) in
    at_end.members
    ∙ ap (λ (xs : List g.T.Keyed.Plain). with_new g.T.Keyed.are_same (members_by g.T.Keyed.plain c.args.self.now) xs)
    (same_images g.T.Keyed.plain (g.T.Keyed.image_by (number_in c.args.sorts.now)) c.as_slice-member-items.result.now
    c.args.other.now.members.items c.as_slice-member-items.ensures.value)

pub returns-clause-numbers : goal.returns-clause-numbers
returns-clause-numbers g c = λ n.
    let at_end =
    nothing_left g.T.Keyed.are_same g.T.Keyed.are_one (members_by g.T.Keyed.plain c.args.self.now)
    (members_by g.T.Keyed.plain c.loop-member.self)
    (map (g.T.Keyed.image_by (number_in c.args.sorts.now))
    (map g.T.Keyed.plain (drop c.loop-member.member-index c.as_slice-member-items.result.now)))
    (map (g.T.Keyed.image_by (number_in c.args.sorts.now)) (map g.T.Keyed.plain c.as_slice-member-items.result.now))
    c.loop-member.numbers.items c.loop-member.member-index c.loop-member.clash c.loop-member.invariant.1
    (none_due c.as_slice-member-items.result.now c.loop-member.member-index g.T.Keyed.plain
    (g.T.Keyed.image_by (number_in c.args.sorts.now))
    c.loop-member-test.false) in
    numbers_at_end g.T.Keyed.are_same
    (λ (o : g.T.Keyed.Plain). itself_by_key g.T.Keyed.key_of g.T.Keyed.are_same g.met.T.Keyed.same_keys o)
    g.T.Keyed.place_in g.met.T.Keyed.none_in g.met.T.Keyed.some_in (members_by g.T.Keyed.plain c.args.self.now)
    (members_by g.T.Keyed.plain c.loop-member.self)
    (map (g.T.Keyed.image_by (number_in c.args.sorts.now)) (map g.T.Keyed.plain c.as_slice-member-items.result.now))
    c.loop-member.numbers.items at_end.members
    (numbers_are g.T.Keyed.are_same g.T.Keyed.are_one (members_by g.T.Keyed.plain c.args.self.now)
    (members_by g.T.Keyed.plain c.loop-member.self)
    (map (g.T.Keyed.image_by (number_in c.args.sorts.now)) (map g.T.Keyed.plain c.as_slice-member-items.result.now))
    c.loop-member.numbers.items c.loop-member.member-index c.loop-member.clash at_end)
    n
    ∙ ap (λ (xs : List g.T.Keyed.Plain). g.T.Keyed.place_in (members_by g.T.Keyed.plain c.loop-member.self) (slice_get xs n))
    (same_images g.T.Keyed.plain (g.T.Keyed.image_by (number_in c.args.sorts.now)) c.as_slice-member-items.result.now
    c.args.other.now.members.items c.as_slice-member-items.ensures.value)

pub returns-clause-clash : goal.returns-clause-clash
returns-clause-clash g c = c.loop-member.invariant.1.differ
