-- The operations of a list of operations, and that its keys are theirs.
use Rattle.std.specs.Prelude.{List}
use Rattle.std.specs.declared.alloc.Global.{Global}
use Rattle.std.specs.declared.rc.Rc.{Rc}
use Rattle.lotos_base.specs.Signature.{Operation}
use Rattle.sort_terms.specs.Operations.{operation_of}
use Rattle.sort_terms.specs.declared.operations.Op.{Op}
use Rattle.type_presentations.specs.Keys.{operation_key, profile_key}
use Rattle.type_presentations.specs.MemberListView.{HasKeys, members_by}
use Rattle.type_presentations.specs.declared.member_list.MemberList.{MemberList}

abbrev pub OperationList : Type 0
OperationList = MemberList (Rc Op Global)

-- the operations in the order of their numbers
abbrev pub operations_in : OperationList → List Operation
operations_in list = members_by (λ op. operation_of op.value) list

-- The keys are those of the operations, and the profiles those of the operations, each once.
abbrev pub HasOperationKeys : OperationList → Type 0
HasOperationKeys list = HasKeys (λ op. operation_of op.value) operation_key profile_key list
