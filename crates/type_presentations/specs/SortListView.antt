-- The sorts of a list of sorts, and that its keys are theirs.
use Rattle.std.specs.Prelude.{List}
use Rattle.lotos_base.specs.Signature.{Sort}
use Rattle.sort_terms.specs.Operations.{sort_of}
use Rattle.sort_terms.specs.declared.operations.Sort.{Sort as CodeSort}
use Rattle.type_presentations.specs.Keys.{name_key, sort_key}
use Rattle.type_presentations.specs.MemberListView.{HasKeys, members_by}
use Rattle.type_presentations.specs.declared.member_list.MemberList.{MemberList}

abbrev pub SortList : Type 0
SortList = MemberList CodeSort

-- the sorts in the order of their numbers
abbrev pub sorts_in : SortList → List Sort
sorts_in list = members_by sort_of list

-- The keys are those of the sorts, and the names those of the sorts, each once.
abbrev pub HasSortKeys : SortList → Type 0
HasSortKeys list = HasKeys sort_of sort_key name_key list
