-- A renaming is undone by a substitution.
use Rattle.std.proofs.Common.{subst}
use Rattle.lotos_base.specs.Substitution.{substituted, renaming}
use Rattle.rewriting_theory.specs.Rewriting.{Rewrites}
use Rattle.rewriting_theory.proofs.PlaceLemmas.{step_of_link, link_of_step}
use Rattle.rewriting_theory.proofs.StepLemmas.{step_substituted}
use Rattle.rewriting_theory.proofs.RenamedLemmas.{step_before, chosen_renamed}
use Rattle.rewriting_theory.proofs.normal_forms.rewriting_passes_through_renamings.Goals as goal

pub returns-clause-links : goal.returns-clause-links
returns-clause-links c = λ rules number t v fine keeps. (
  (λ link.
      let before = step_before number t v fine keeps (step_of_link link) in
      (before.after, link_of_step before.step, before.is_renamed)),
  (λ of. subst (λ w. Rewrites rules (substituted (renaming number) t) w) of.2
      (link_of_step (step_substituted (renaming number) (step_of_link of.1)))),
)

pub returns-clause-chosen_forms : goal.returns-clause-chosen_forms
returns-clause-chosen_forms c = λ rules number t u fine keeps chosen. chosen_renamed fine number t keeps chosen (λ n s o. o)
