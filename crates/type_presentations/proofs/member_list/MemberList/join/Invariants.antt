use Rattle.std.proofs.Common.{map, drop}
use Rattle.type_definitions.specs.ProfiledImage.{number_in}
use Rattle.type_presentations.specs.MemberListView.{HasKeys, members_by}
use Rattle.type_presentations.proofs.JoinedLemmas.{Coming}
use Rattle.type_presentations.proofs.member_list.MemberList.join.Given as goal

abbrev pub invariant-loop-member : goal.invariant-loop-member
invariant-loop-member g l =
    HasKeys g.T.Keyed.plain g.T.Keyed.key_of g.T.Keyed.clash_key_of l.self
    × Coming g.T.Keyed.are_same g.T.Keyed.are_one (members_by g.T.Keyed.plain l.fn.self) (members_by g.T.Keyed.plain l.self)
    (map (g.T.Keyed.image_by (number_in l.sorts)) (map g.T.Keyed.plain (drop l.member-index l.member-items)))
    (map (g.T.Keyed.image_by (number_in l.sorts)) (map g.T.Keyed.plain l.member-items))
    l.numbers.items l.member-index l.clash
