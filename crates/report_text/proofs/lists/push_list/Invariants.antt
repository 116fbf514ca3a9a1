use Rattle.std.proofs.Common.{◌≡◌, ◌++◌, drop}
use Rattle.behaviour_tree.specs.BehaviourView.{variables_of}
use Rattle.printed_texts.specs.Brackets.{commas, listed}
use Rattle.report_text.specs.NamingView.{naming_of}
use Rattle.report_text.specs.Members.{member_texts_of}
use Rattle.report_text.proofs.lists.push_list.Given as goal

-- the members so far are written
abbrev pub invariant-loop-index : goal.invariant-loop-index
invariant-loop-index g l =
    l.into.items ++ listed l.index (member_texts_of g.M.Member.text (naming_of l.naming) (variables_of l.names) (drop l.index
    l.members.items))
    ≡ l.initial.into.items ++ commas (member_texts_of g.M.Member.text (naming_of l.naming) (variables_of l.names) l.members.items)
