use Rattle.std.proofs.Common.{◌∙◌, ℕ, List, map, ap}
use Rattle.std.proofs.lemmas.Result.{IfOk-weaker}
use Rattle.lotos_base.specs.Term.{Term}
use Rattle.lotos_base.specs.Substitution.{binding}
use Rattle.behaviour_semantics.specs.Replacement.{with_values}
use Rattle.behaviour_tree.specs.BehaviourView.{behaviour_of, let_of}
use Rattle.step_parts.proofs.HandedOn.{states_suit}
use Rattle.step_parts.proofs.NodeLemmas.{first_terms, second_terms}
use Rattle.step_taker.specs.Taken.{ground_of}
use Rattle.step_taker.proofs.BodyLemmas.{instance_over, let_environment}
use Rattle.step_taker.proofs.bodies.let_body.Goals as goal

pub let_values-requires : goal.let_values-requires
let_values-requires g c =
    first_terms (g.D.Deciding.known_data c.args.data.now).signature _ _ c.requires.terms_of_signature

pub instance-requires : goal.instance-requires
instance-requires g c =
    states_suit c.in_ok-pairs.pairs.items (behaviour_of c.args.next.now) (let_environment (ground_of (g.D.Deciding.known_data
    c.args.data.now) (g.D.Deciding.canon c.args.data.now) c.args.walk.now.spec.now) (g.met.D.Deciding.is_canon c.args.data.now) (map
    let_of c.args.bindings.now.items) (behaviour_of c.args.next.now) c.in_ok-pairs.pairs.items c.requires.closed
    c.in_ok-pairs.ensures.same c.in_ok-pairs.ensures.over)

pub returns-clause-same : goal.returns-clause-same
returns-clause-same g c =
    IfOk-weaker c.instance.result _ _ (λ made e. e ∙ ap (λ (ps : List (ℕ × Term)). with_values (binding ps) (behaviour_of
    c.args.next.now)) c.in_ok-pairs.ensures.same) c.instance.ensures.same

pub returns-clause-terms : goal.returns-clause-terms
returns-clause-terms g c =
    IfOk-weaker c.instance.result _ _ (λ made e. instance_over (ground_of (g.D.Deciding.known_data c.args.data.now) (g.D.Deciding.canon
    c.args.data.now) c.args.walk.now.spec.now) c.in_ok-pairs.pairs.items c.args.next.now made e (second_terms
    (g.D.Deciding.known_data c.args.data.now).signature _ _ c.requires.terms_of_signature) c.in_ok-pairs.ensures.over)
    c.instance.ensures.terms
