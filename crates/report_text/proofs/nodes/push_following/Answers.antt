use Rattle.std.proofs.Common.{◌++◌, [], refl}
use Rattle.std.proofs.lemmas.Result.{on_ok_weaker}
use Rattle.behaviour_tree.specs.BehaviourView.{variables_of}
use Rattle.report_text.specs.NamingView.{naming_of}
use Rattle.report_text.proofs.TextLemmas.{unit_part}
use Rattle.report_text.proofs.nodes.push_following.Goals as goal

pub returns : goal.returns
returns c =
    on_ok_weaker c.push_accepting.result
    (λ h. unit_part (naming_of c.args.naming.now) _ _ (variables_of c.args.variables.now.items ++ [])
    (variables_of c.args.variables.now.items ++ []) _ _ refl c.in_ok-closed.ensures h)
    c.push_accepting.ensures
