use Rattle.std.proofs.Common.{◌∙◌, ℕ, List, ap}
use Rattle.std.proofs.lemmas.Result.{IfOk-weaker}
use Rattle.lotos_base.specs.Term.{Term}
use Rattle.lotos_base.specs.Substitution.{binding}
use Rattle.behaviour_semantics.specs.Replacement.{with_values}
use Rattle.behaviour_tree.specs.DefinitionView.{process_of}
use Rattle.step_parts.proofs.HandedOn.{states_suit}
use Rattle.step_taker.specs.Taken.{ground_of}
use Rattle.step_taker.proofs.BodyLemmas.{instance_over, call_environment}
use Rattle.step_taker.proofs.BodyLemmas.{body_over}
use Rattle.step_taker.proofs.bodies.call_body.Goals as goal

pub call_values-requires : goal.call_values-requires
call_values-requires g c =
    c.requires.part.terms_of_signature

pub instance-requires : goal.instance-requires
instance-requires g c =
    states_suit c.in_ok-pairs.pairs.items _ (call_environment (ground_of (g.D.Deciding.known_data c.args.data.now) (g.D.Deciding.canon
    c.args.data.now) c.args.walk.now.spec.now) (g.met.D.Deciding.is_canon c.args.data.now) c.requires.walk c.args.called.now
    c.args.values.now.items c.in_ok-pairs.pairs.items c.requires.part c.in_ok-pairs.ensures.same c.in_ok-pairs.ensures.over)

pub returns-clause-same : goal.returns-clause-same
returns-clause-same g c =
    IfOk-weaker c.instance.result _ _ (λ made e. e ∙ ap (λ (ps : List (ℕ × Term)). with_values (binding ps) (process_of
    c.args.called.now).body) c.in_ok-pairs.ensures.same) c.instance.ensures.same

pub returns-clause-terms : goal.returns-clause-terms
returns-clause-terms g c =
    IfOk-weaker c.instance.result _ _ (λ made e. instance_over (ground_of (g.D.Deciding.known_data c.args.data.now) (g.D.Deciding.canon
    c.args.data.now) c.args.walk.now.spec.now) c.in_ok-pairs.pairs.items c.args.called.now.body made e (body_over (ground_of
    (g.D.Deciding.known_data c.args.data.now) (g.D.Deciding.canon c.args.data.now) c.args.walk.now.spec.now)
    (g.met.D.Deciding.is_canon c.args.data.now) c.requires.walk c.args.called.now c.args.values.now.items c.requires.part)
    c.in_ok-pairs.ensures.over) c.instance.ensures.terms
