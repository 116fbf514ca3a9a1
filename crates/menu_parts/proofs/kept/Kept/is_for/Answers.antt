use Rattle.std.proofs.Common.{◌≡◌, ◌∙◌, ap, subst}
use Rattle.std.specs.Prelude.{◌↔◌, IsTrue}
use Rattle.behaviour_semantics.specs.Behaviour.{Behaviour}
use Rattle.behaviour_tree.specs.StateView.{stands_for}
use Rattle.menu_parts.specs.declared.kept.Listed.{Listed}
use Rattle.menu_parts.proofs.kept.Kept.is_for.Goals as goal

pub returns : goal.returns
returns c =
    subst (λ (b : Behaviour). IsTrue c.same.result ↔ (b ≡ stands_for c.args.node.now))
    (ap stands_for (c.deref.ensures ∙ ap (λ (l : Listed). l.node.value) c.listed.ensures.same)) c.same.ensures
