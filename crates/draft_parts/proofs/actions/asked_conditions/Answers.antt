use Rattle.std.proofs.Common.{◌∙◌, ℕ, List, ap, sym, subst}
use Rattle.std.specs.Option.{option_map}
use Rattle.std.proofs.lemmas.Result.{IfOk-weaker}
use Rattle.lotos_base.specs.Substitution.{binding}
use Rattle.lotos_base.specs.Term.{Term}
use Rattle.behaviour_semantics.specs.Rule.{tests_of}
use Rattle.behaviour_tree.specs.BehaviourView.{test_of}
use Rattle.sort_terms.specs.ProfiledTerm.{ProfiledTerm}
use Rattle.draft_parts.specs.Environments.{ArePairsOf, SuitsTest}
use Rattle.draft_parts.proofs.DraftLemmas.{inner_bare}
use Rattle.draft_parts.proofs.actions.asked_conditions.Goals as goal

pub conditions_under-requires : goal.conditions_under-requires
conditions_under-requires c =
    subst (λ (ps : List (ℕ × ProfiledTerm)). SuitsTest ps c.args.test.now) (sym c.in_ok-inner-in-Some.ensures) c.requires

pub returns-in_ok-inner-in-Some-clause-same : goal.returns-in_ok-inner-in-Some-clause-same
returns-in_ok-inner-in-Some-clause-same c =
    IfOk-weaker c.conditions_under.result _ _
    (λ made e. e ∙ ap (λ (ps : List (ℕ × Term)). tests_of (binding ps) (option_map test_of c.args.test.now))
    (inner_bare c.in_ok-inner-in-Some.inner.items c.args.pairs.items c.args.environment.now.items c.in_ok-inner-in-Some.ensures))
    c.conditions_under.ensures.same

pub returns-in_ok-inner-in-Some-clause-over : goal.returns-in_ok-inner-in-Some-clause-over
returns-in_ok-inner-in-Some-clause-over c =
    IfOk-weaker c.conditions_under.result _ _
    (λ made e signature h k. e signature
    (subst (λ (ps : List (ℕ × ProfiledTerm)). ArePairsOf signature ps) (sym c.in_ok-inner-in-Some.ensures) h) k)
    c.conditions_under.ensures.over
