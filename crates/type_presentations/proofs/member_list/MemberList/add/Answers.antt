use Rattle.std.proofs.Common.{[], map, ap, ◌∙◌, sym, List, arith}
use Rattle.std.specs.Str.{bytes_eq}
use Rattle.sort_terms.specs.WellFormedTest.{all_differ}
use Rattle.type_definitions.specs.Presentation.{first_position, with_new}
use Rattle.type_presentations.specs.KeyView.{keys_in_set}
use Rattle.type_presentations.specs.MemberListView.{members_by}
use Rattle.type_presentations.specs.declared.key_set.KeySet.{KeySet}
use Rattle.type_presentations.proofs.AddedLemmas.{Keying, added, name_added}
use Rattle.type_presentations.proofs.member_list.MemberList.add.Goals as goal

pub overflow_cast-number : goal.overflow_cast-number
overflow_cast-number g c =
    let k : Keying g.T.Keyed.Plain = record { key = g.T.Keyed.key_of; same = g.T.Keyed.are_same; tell = g.met.T.Keyed.same_keys } in
    let a =
    added k (members_by g.T.Keyed.plain c.args.self.now) (g.T.Keyed.plain c.args.member) _ _ _ _ _ c.in_ok-key.ensures
    c.requires.keyed.keys c.in_ok-placed.ensures.keys c.in_ok-placed.ensures.number c.in_ok-placed.ensures.is_new in
    omega (arith, a.within, c.requires.few)

pub returns-then-placed-clause-keyed : goal.returns-then-placed-clause-keyed
returns-then-placed-clause-keyed g c =
    let k : Keying g.T.Keyed.Plain = record { key = g.T.Keyed.key_of; same = g.T.Keyed.are_same; tell = g.met.T.Keyed.same_keys } in
    let l : Keying g.T.Keyed.Plain =
    record { key = g.T.Keyed.clash_key_of; same = g.T.Keyed.are_one; tell = g.met.T.Keyed.clash_keys } in
    let a =
    added k (members_by g.T.Keyed.plain c.args.self.now) (g.T.Keyed.plain c.args.member) _ _ _ _ _ c.in_ok-key.ensures
    c.requires.keyed.keys c.in_ok-placed.ensures.keys c.in_ok-placed.ensures.number c.in_ok-placed.ensures.is_new in
    let n =
    name_added l (members_by g.T.Keyed.plain c.args.self.now) (g.T.Keyed.plain c.args.member) _ _ _ c.requires.keyed.clash_keys
    c.in_ok-clashes.ensures.clash_keys c.in_ok-clashes.ensures.clashes in record {
      keys =
          ap (λ (set : KeySet). keys_in_set set) c.in_ok-clashes.ensures.keys ∙ a.kept
          ∙ ap (λ (members : List g.T.Keyed.Plain). map g.T.Keyed.key_of members)
          (a.grown c.if-placed.true ∙ sym c.in_ok-clashes.ensures.members);
      clash_keys =
          n.kept ∙ ap (λ (members : List g.T.Keyed.Plain). with_new bytes_eq [] (map g.T.Keyed.clash_key_of members))
          (sym c.in_ok-clashes.ensures.members);
    }

pub returns-then-placed-clause-members : goal.returns-then-placed-clause-members
returns-then-placed-clause-members g c =
    let k : Keying g.T.Keyed.Plain = record { key = g.T.Keyed.key_of; same = g.T.Keyed.are_same; tell = g.met.T.Keyed.same_keys } in
    let a =
    added k (members_by g.T.Keyed.plain c.args.self.now) (g.T.Keyed.plain c.args.member) _ _ _ _ _ c.in_ok-key.ensures
    c.requires.keyed.keys c.in_ok-placed.ensures.keys c.in_ok-placed.ensures.number c.in_ok-placed.ensures.is_new in
    c.in_ok-clashes.ensures.members ∙ sym (a.grown c.if-placed.true)

pub returns-then-placed-clause-number : goal.returns-then-placed-clause-number
returns-then-placed-clause-number g c =
    let k : Keying g.T.Keyed.Plain = record { key = g.T.Keyed.key_of; same = g.T.Keyed.are_same; tell = g.met.T.Keyed.same_keys } in
    let a =
    added k (members_by g.T.Keyed.plain c.args.self.now) (g.T.Keyed.plain c.args.member) _ _ _ _ _ c.in_ok-key.ensures
    c.requires.keyed.keys c.in_ok-placed.ensures.keys c.in_ok-placed.ensures.number c.in_ok-placed.ensures.is_new in
    a.first
    ∙ ap (λ (members : List g.T.Keyed.Plain). first_position (g.T.Keyed.are_same (g.T.Keyed.plain c.args.member)) members)
    (a.grown c.if-placed.true ∙ sym c.in_ok-clashes.ensures.members)

pub returns-then-placed-clause-clashes : goal.returns-then-placed-clause-clashes
returns-then-placed-clause-clashes g c =
    let l : Keying g.T.Keyed.Plain =
    record { key = g.T.Keyed.clash_key_of; same = g.T.Keyed.are_one; tell = g.met.T.Keyed.clash_keys } in
    let n =
    name_added l (members_by g.T.Keyed.plain c.args.self.now) (g.T.Keyed.plain c.args.member) _ _ _ c.requires.keyed.clash_keys
    c.in_ok-clashes.ensures.clash_keys c.in_ok-clashes.ensures.clashes in
    ap (λ (members : List g.T.Keyed.Plain). all_differ g.T.Keyed.are_one members) c.in_ok-clashes.ensures.members ∙ n.differ

pub returns-clause-keyed : goal.returns-clause-keyed
returns-clause-keyed g c =
    let k : Keying g.T.Keyed.Plain = record { key = g.T.Keyed.key_of; same = g.T.Keyed.are_same; tell = g.met.T.Keyed.same_keys } in
    let a =
    added k (members_by g.T.Keyed.plain c.args.self.now) (g.T.Keyed.plain c.args.member) _ _ _ _ _ c.in_ok-key.ensures
    c.requires.keyed.keys c.in_ok-placed.ensures.keys c.in_ok-placed.ensures.number c.in_ok-placed.ensures.is_new in record {
      keys = a.kept ∙ ap (λ (members : List g.T.Keyed.Plain). map g.T.Keyed.key_of members) (a.stays c.if-placed.false);
      clash_keys = c.requires.keyed.clash_keys;
    }

pub returns-clause-members : goal.returns-clause-members
returns-clause-members g c =
    let k : Keying g.T.Keyed.Plain = record { key = g.T.Keyed.key_of; same = g.T.Keyed.are_same; tell = g.met.T.Keyed.same_keys } in
    let a =
    added k (members_by g.T.Keyed.plain c.args.self.now) (g.T.Keyed.plain c.args.member) _ _ _ _ _ c.in_ok-key.ensures
    c.requires.keyed.keys c.in_ok-placed.ensures.keys c.in_ok-placed.ensures.number c.in_ok-placed.ensures.is_new in
    sym (a.stays c.if-placed.false)

pub returns-clause-number : goal.returns-clause-number
returns-clause-number g c =
    let k : Keying g.T.Keyed.Plain = record { key = g.T.Keyed.key_of; same = g.T.Keyed.are_same; tell = g.met.T.Keyed.same_keys } in
    let a =
    added k (members_by g.T.Keyed.plain c.args.self.now) (g.T.Keyed.plain c.args.member) _ _ _ _ _ c.in_ok-key.ensures
    c.requires.keyed.keys c.in_ok-placed.ensures.keys c.in_ok-placed.ensures.number c.in_ok-placed.ensures.is_new in
    a.first
    ∙ ap (λ (members : List g.T.Keyed.Plain). first_position (g.T.Keyed.are_same (g.T.Keyed.plain c.args.member)) members)
    (a.stays c.if-placed.false)
