use Rattle.std.proofs.Common.{◌≡◌, ◌<◌, length, get_or, ap, subst, arith}
use Rattle.behaviour_tree.specs.BehaviourView.{variables_of}
use Rattle.printed_texts.proofs.BracketLemmas.{listed_all, listed_more}
use Rattle.report_text.specs.NamingView.{naming_of}
use Rattle.report_text.proofs.lists.push_list.Goals as goal

pub loop-index-preserved : goal.loop-index-preserved
loop-index-preserved g c =
    listed_more (λ m. g.M.Member.text m (naming_of c.args.naming.now) (variables_of c.args.names.now))
    c.args.members.now.items c.loop-index.index c.member-item.result _ _ _ _
    (subst (λ xs. c.loop-index.index < length xs) c.deref-member-items.ensures.value c.loop-index-test.true)
    (subst (λ xs. c.member-item.result ≡ get_or xs c.loop-index.index c.member-item.result) c.deref-member-items.ensures.value
    c.member-item.is)
    c.loop-index.invariant c.in_ok-push_separator.ensures c.in_ok-push.ensures

pub returns : goal.returns
returns g c =
    listed_all (λ m. g.M.Member.text m (naming_of c.args.naming.now) (variables_of c.args.names.now))
    c.args.members.now.items c.loop-index.index _ _
    (let e : length c.deref-member-items.result.now ≡ length c.args.members.now.items
    = ap length c.deref-member-items.ensures.value in omega arith)
    (let e : length c.deref-member-items.result.now ≡ length c.args.members.now.items
    = ap length c.deref-member-items.ensures.value in omega arith)
    c.loop-index.invariant
