use Rattle.std.proofs.Common.{ℕ, List, ap, refl, sym, ◌∙◌, subst}
use Rattle.lotos_base.specs.Substitution.{binding}
use Rattle.lotos_base.specs.Term.{Term}
use Rattle.behaviour_semantics.specs.Replacement.{with_values}
use Rattle.behaviour_tree.specs.BehaviourView.{behaviour_of}
use Rattle.behaviour_tree.specs.Over.{AreTermsOf}
use Rattle.behaviour_tree.proofs.ClosedLemmas.{closed_alike, terms_both}
use Rattle.step_parts.proofs.AcceptLemmas.{accepted_closed, accepted_pairs, accepted_puts, accepted_terms, made_same, made_terms}
use Rattle.step_parts.proofs.targets.accepted.Goals as goal

pub returns-clause-same : goal.returns-clause-same
returns-clause-same c =
    ap (λ (xs : List (ℕ × Term)). with_values (binding xs) (behaviour_of c.args.right.value))
    (made_same c.args.variables.now.items c.args.environment.now.items c.args.values.items c.in_ok-left.left.items
    c.in_ok-with_pairs.field-0.items c.in_ok-left.ensures.same c.in_ok-left.ensures.terms c.in_ok-with_pairs.ensures)
    ∙ accepted_puts c.args.variables.now.items c.args.environment.now.items c.args.values.items (behaviour_of c.args.right.value)
    c.requires

pub returns-clause-terms : goal.returns-clause-terms
returns-clause-terms c = λ signature h k l.
    terms_both signature _ _ h
    (subst (AreTermsOf signature)
    (sym (made_terms c.args.variables.now.items c.args.environment.now.items c.args.values.items c.in_ok-left.left.items
    c.in_ok-with_pairs.field-0.items c.in_ok-left.ensures.same c.in_ok-left.ensures.terms c.in_ok-with_pairs.ensures))
    (accepted_terms c.args.variables.now.items c.args.environment.now.items c.args.values.items signature k l))

pub returns-clause-closed_parts : goal.returns-clause-closed_parts
returns-clause-closed_parts c = λ signature specification accepting.
    closed_alike c.in_ok-with_pairs.field-0.items
    (accepted_pairs c.args.variables.now.items c.args.environment.now.items c.args.values.items) (behaviour_of c.args.right.value)
    (behaviour_of c.args.right.value)
    (made_same c.args.variables.now.items c.args.environment.now.items c.args.values.items c.in_ok-left.left.items
    c.in_ok-with_pairs.field-0.items c.in_ok-left.ensures.same c.in_ok-left.ensures.terms c.in_ok-with_pairs.ensures)
    (made_terms c.args.variables.now.items c.args.environment.now.items c.args.values.items c.in_ok-left.left.items
    c.in_ok-with_pairs.field-0.items c.in_ok-left.ensures.same c.in_ok-left.ensures.terms c.in_ok-with_pairs.ensures) refl
    (accepted_closed c.args.variables.now.items c.args.environment.now.items c.args.values.items signature specification
    (behaviour_of c.args.right.value) accepting)
