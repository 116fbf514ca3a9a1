use Rattle.std.proofs.Common.{List, ◌++◌, ap, refl, ◌∙◌}
use Rattle.std.proofs.lemmas.Result.{on_ok_weaker}
use Rattle.sort_terms.specs.declared.equations.Variable.{Variable}
use Rattle.behaviour_tree.specs.BehaviourView.{variables_of}
use Rattle.report_text.specs.NamingView.{naming_of}
use Rattle.report_text.proofs.TextLemmas.{unit_part}
use Rattle.report_text.proofs.nodes.push_accepting.Goals as goal

pub returns : goal.returns
returns c =
    on_ok_weaker c.push_unit.result
    (λ h. unit_part (naming_of c.args.naming.now) _ _ _ _ _ _
    (c.in_ok-names.ensures
    ∙ ap (λ (vs : List Variable). variables_of c.args.variables.now.items ++ variables_of vs) c.new.ensures.items)
    refl h)
    c.push_unit.ensures
