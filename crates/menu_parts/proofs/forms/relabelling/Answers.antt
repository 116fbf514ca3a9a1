use Rattle.std.proofs.Common.{refl, ◌∙◌}
use Rattle.std.proofs.lemmas.Result.{IfOk-weaker}
use Rattle.menu_parts.proofs.FormLemmas.{call_pairs_stay}
use Rattle.menu_parts.proofs.forms.relabelling.Goals as goal

pub returns : goal.returns
returns c =
    IfOk-weaker c.relabelled.result _ _ (λ made e. e
    ∙ call_pairs_stay c.args.called.now.gates.items c.args.gates.now.items _ refl) c.relabelled.ensures
