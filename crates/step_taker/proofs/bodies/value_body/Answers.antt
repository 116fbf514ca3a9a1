use Rattle.std.proofs.Common.{◌∷◌, ◌∙◌, ℕ, List, [], map, ap, sym, subst}
use Rattle.std.proofs.lemmas.Result.{IfOk-weaker}
use Rattle.lotos_base.specs.Term.{Term}
use Rattle.lotos_base.specs.Substitution.{binding}
use Rattle.behaviour_semantics.specs.Replacement.{with_values, binding_of}
use Rattle.behaviour_tree.specs.BehaviourView.{behaviour_of, terms_of}
use Rattle.behaviour_tree.specs.Over.{AreTermsOf}
use Rattle.behaviour_tree.specs.StateView.{environment_of, pair_profile}
use Rattle.sort_terms.specs.EquationView.{variable_of}
use Rattle.sort_terms.specs.SortedView.{profiled_in, term_in}
use Rattle.sort_terms.specs.ProfiledTerm.{IsOf}
use Rattle.sort_terms.specs.declared.sorted.Sorted.{Sorted}
use Rattle.step_parts.proofs.HandedOn.{states_suit}
use Rattle.step_parts.proofs.LeafLemmas.{leaf_of, leaf_at}
use Rattle.step_taker.specs.Taken.{ground_of}
use Rattle.step_taker.proofs.BodyLemmas.{instance_over, leaf_value, value_environment}
use Rattle.step_taker.proofs.EventLemmas.{leaf_there}
use Rattle.lotos_base.specs.Sorting.{IsGroundOf}
use Rattle.std.proofs.Common.{get_or}
use Rattle.step_taker.proofs.bodies.value_body.Goals as goal

pub bounds-walk-leaf : goal.bounds-walk-leaf
bounds-walk-leaf g c =
    leaf_there (g.D.Deciding.known_data c.args.data.now).signature c.args.walk.now.leaves.now c.args.leaf c.args.variable.now.sort
    c.requires.leaf

pub normal-requires : goal.normal-requires
normal-requires g c =
    subst (λ (x : Sorted). IsOf (g.D.Deciding.known_data c.args.data.now).signature (profiled_in x)) c.index-walk-leaf.is (leaf_of
    (g.D.Deciding.known_data c.args.data.now).signature c.args.walk.now.leaves.now c.args.leaf c.index-walk-leaf.result (leaf_there
    (g.D.Deciding.known_data c.args.data.now).signature c.args.walk.now.leaves.now c.args.leaf c.args.variable.now.sort
    c.requires.leaf) c.index-walk-leaf.is c.requires.walk.leaves_of_signature)

pub instance-requires : goal.instance-requires
instance-requires g c =
    states_suit c.in_ok-pairs.pairs.items (behaviour_of c.args.next.now) (value_environment (ground_of (g.D.Deciding.known_data
    c.args.data.now) (g.D.Deciding.canon c.args.data.now) c.args.walk.now.spec.now) (g.met.D.Deciding.is_canon c.args.data.now)
    (variable_of c.args.variable.now) (behaviour_of c.args.next.now) c.in_ok-pairs.pairs.items c.in_ok-value.value (term_in (get_or
    c.args.walk.now.leaves.now c.args.leaf c.index-walk-leaf.result))
    (subst (IsGroundOf (g.D.Deciding.known_data c.args.data.now).signature c.args.variable.now.sort) (leaf_at c.args.walk.now.leaves.now
    c.args.leaf c.args.variable.now.sort c.index-walk-leaf.result (leaf_there (g.D.Deciding.known_data c.args.data.now).signature
    c.args.walk.now.leaves.now c.args.leaf c.args.variable.now.sort c.requires.leaf) c.index-walk-leaf.is ∙ ap term_in
    c.index-walk-leaf.is) (leaf_value (ground_of (g.D.Deciding.known_data c.args.data.now) (g.D.Deciding.canon c.args.data.now)
    c.args.walk.now.spec.now) (g.met.D.Deciding.is_canon c.args.data.now) (terms_of c.args.walk.now.leaves.now) c.args.leaf
    c.args.variable.now.sort c.requires.leaf)) c.in_ok-pairs.ensures c.in_ok-value.ensures.is_canon c.in_ok-value.ensures.is_of
    c.requires.part.closed)

pub returns-clause-same : goal.returns-clause-same
returns-clause-same g c =
    IfOk-weaker c.instance.result _ _ (λ made e. e ∙ ap (λ (ps : List (ℕ × Sorted)). with_values (binding (environment_of ps))
    (behaviour_of c.args.next.now)) c.in_ok-pairs.ensures
    ∙ ap (λ (t : Term). with_values (binding_of ((variable_of c.args.variable.now) ∷ []) (t ∷ [])) (behaviour_of c.args.next.now))
    (c.in_ok-value.ensures.is_canon ∙ ap (g.D.Deciding.canon c.args.data.now) (sym (leaf_at c.args.walk.now.leaves.now c.args.leaf
    c.args.variable.now.sort c.index-walk-leaf.result (leaf_there (g.D.Deciding.known_data c.args.data.now).signature
    c.args.walk.now.leaves.now c.args.leaf c.args.variable.now.sort c.requires.leaf) c.index-walk-leaf.is ∙ ap term_in
    c.index-walk-leaf.is)))) c.instance.ensures.same

pub returns-clause-terms : goal.returns-clause-terms
returns-clause-terms g c =
    IfOk-weaker c.instance.result _ _ (λ made e. instance_over (ground_of (g.D.Deciding.known_data c.args.data.now) (g.D.Deciding.canon
    c.args.data.now) c.args.walk.now.spec.now) c.in_ok-pairs.pairs.items c.args.next.now made e c.requires.part.terms_of_signature
    (subst (λ (ps : List (ℕ × Sorted)). AreTermsOf (g.D.Deciding.known_data c.args.data.now).signature (map pair_profile ps)) (sym
    c.in_ok-pairs.ensures) (c.in_ok-value.ensures.is_of, tt))) c.instance.ensures.terms
