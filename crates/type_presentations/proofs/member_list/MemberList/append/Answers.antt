use Rattle.std.proofs.Common.{◌∷◌, [], ap, ◌∙◌, refl, not, List, ℕ}
use Rattle.std.specs.List.{list_any}
use Rattle.std.specs.Str.{bytes_eq}
use Rattle.type_definitions.specs.Presentation.{with_new}
use Rattle.type_presentations.specs.KeyView.{keys_in_set}
use Rattle.type_presentations.proofs.AddedLemmas.{there_before, mapped_push}
use Rattle.type_presentations.proofs.member_list.MemberList.append.Goals as goal

pub returns-clause-clash_keys : goal.returns-clause-clash_keys
returns-clause-clash_keys g c =
    c.in_ok-placed.ensures.keys
    ∙ ap (λ (key : List ℕ). with_new bytes_eq (keys_in_set c.args.self.now.clash_keys) (key ∷ [])) c.in_ok-clash_key.ensures

pub returns-clause-members : goal.returns-clause-members
returns-clause-members g c =
    mapped_push c.args.self.now.members.items c.push.new.self.items c.args.member g.T.Keyed.plain (g.T.Keyed.plain c.args.member)
    c.in_ok-push.ensures.items refl

pub returns-clause-clashes : goal.returns-clause-clashes
returns-clause-clashes g c =
    there_before (list_any (bytes_eq c.in_ok-clash_key.field-0.items) (keys_in_set c.args.self.now.clash_keys))
    (not c.in_ok-placed.placed.is_new) c.in_ok-placed.placed.is_new c.in_ok-placed.ensures.is_new refl
    ∙ ap (λ (key : List ℕ). list_any (bytes_eq key) (keys_in_set c.args.self.now.clash_keys)) c.in_ok-clash_key.ensures
