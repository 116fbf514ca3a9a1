-- The members of a list of members, and that its keys are theirs.
use Rattle.std.specs.Prelude.{◌≡◌, ℕ, List, [], map}
use Rattle.std.specs.Str.{bytes_eq}
use Rattle.type_definitions.specs.Presentation.{with_new}
use Rattle.type_presentations.specs.KeyView.{keys_in_set}
use Rattle.type_presentations.specs.declared.member_list.MemberList.{MemberList}

-- what the members are, in the order of their numbers
abbrev pub members_by : {A B : Type 0} → (A → B) → MemberList A → List B
members_by plain list = map plain list.members.items

-- The keys are those of the members, and the keys of clashes those of the members, each once.
pub record HasKeys {A B : Type 0} (plain : A → B) (key clash_key : B → List ℕ) (list : MemberList A) : Type 0 where
  pub keys : keys_in_set list.keys ≡ map key (members_by plain list)
  pub clash_keys : keys_in_set list.clash_keys ≡ with_new bytes_eq [] (map clash_key (members_by plain list))
