-- By recursion on the size of the given common instance.
use Rattle.std.proofs.Common.{◌≡◌, inl, inr, ◌∙◌}
use Rattle.std.specs.Prelude.{◌⊎◌}
use Rattle.lotos_base.specs.Term.{Term}
use Rattle.rewriting_theory.specs.Unification.{IsUnifier, IsMostGeneral}
use Rattle.lotos_base.specs.Substitution.{Substitution, substituted, followed_by, renaming}
use Rattle.lotos_base.proofs.SubstitutionLemmas.{substituted_twice}
use Rattle.rewriting_theory.proofs.UnifyLemmas.{IsSolution, solution_general, unifier_exists, general_elsewhere}
use Rattle.rewriting_theory.proofs.DecideLemmas.{decide_unifier}
use Rattle.rewriting_theory.proofs.OverlapLemmas.{combined, combination_unifies}
use Rattle.rewriting_theory.proofs.matching.most_general_unifiers_exist.Goals as goal

decided : (s t : Term) → ((values : Substitution) × IsSolution s t values)
    ⊎ ((others : Substitution) → substituted others s ≡ substituted others t → ⊥)
    → ((values : Substitution) × IsMostGeneral (λ n r. Unit {0}) s t values) ⊎ ((values : Substitution) → ¬ IsUnifier s t values)
decided s t (inl (values, solution)) = inl (values, solution_general (λ n r. Unit {0}) s t values solution)
decided s t (inr none) = inr none

pub returns-clause-decided : goal.returns-clause-decided
returns-clause-decided c = λ s t. decided s t (decide_unifier s t)

pub returns-clause-exist : goal.returns-clause-exist
returns-clause-exist c = λ s t others same. unifier_exists (λ n r. Unit {0}) s t others same

pub returns-clause-apart : goal.returns-clause-apart
returns-clause-apart c = λ number s t keeps apart. (
  (λ common. (
    combined number t common.values common.others,
    combination_unifies number s t s common.values common.others keeps apart (λ n r o. o) common.same,
  )),
  (λ unifier. record {
    values = unifier.0;
    others = followed_by (renaming number) unifier.0;
    same = unifier.1 ∙ substituted_twice (renaming number) unifier.0 t;
  }),
)

pub returns-clause-elsewhere : goal.returns-clause-elsewhere
returns-clause-elsewhere c = λ s t u v values is keeps either. general_elsewhere s t u v values is keeps either
