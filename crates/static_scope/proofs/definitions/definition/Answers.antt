use Rattle.std.proofs.Common.{inl, inr, refl, ap, subst}
use Rattle.behaviour_scopes.specs.ResolverState.{State}
use Rattle.behaviour_scopes.specs.ResolverView.{state_in}
use Rattle.behaviour_tree.specs.BehaviourTerms.{profiles_in}
use Rattle.behaviour_tree.specs.BehaviourView.{behaviour_of}
use Rattle.behaviour_tree.specs.Over.{AreTermsOf}
use Rattle.static_scope.specs.HeadingView.{heading_in, written_heading}
use Rattle.scope_parts.specs.Resolution.{resolved, faulty}
use Rattle.scope_parts.proofs.AnswerLemmas.{err_is, means_map}
use Rattle.syntax_trees.specs.TreeViews.{written_behaviour_of as written_behaviour}
use Rattle.lotos_base.specs.Signature.{Signature}
use Rattle.static_scope.proofs.PointLemmas.{definition_passed, definition_stands}
use Rattle.static_scope.proofs.definitions.definition.Goals as goal

pub returns-in_err-heading-clause-read : goal.returns-in_err-heading-clause-read
returns-in_err-heading-clause-read c =
    err_is _ c.from_residual.result c.in_err-heading.field-0.0 _ c.from_residual.ensures.1
    (means_map c.in_err-heading.field-0.0 _ _ (λ f is. inl is) c.in_err-heading.ensures.read)

pub returns-in_err-behaviour-clause-read : goal.returns-in_err-behaviour-clause-read
returns-in_err-behaviour-clause-read c =
    err_is _ c.from_residual-in_err-behaviour.result c.in_err-behaviour.field-0.0 _ c.from_residual-in_err-behaviour.ensures.1
    (means_map c.in_err-behaviour.field-0.0 _ _
    (λ f is. inr (
      heading_in c.in_ok-heading.heading,
      c.in_ok-heading.ensures.read,
      definition_stands (state_in c.args.resolver.now) (state_in c.resolved_heading.new.resolver) (written_heading c.args.text)
          (heading_in c.in_ok-heading.heading) (written_behaviour c.args.body.now) (faulty f) c.in_ok-heading.ensures.seen is,
    ))
    c.in_err-behaviour.ensures.read)

pub returns-clause-read : goal.returns-clause-read
returns-clause-read c = (
  heading_in c.in_ok-heading.heading,
  c.in_ok-heading.ensures.read,
  (
    behaviour_of c.in_ok-behaviour.behaviour,
    definition_stands (state_in c.args.resolver.now) (state_in c.resolved_heading.new.resolver) (written_heading c.args.text)
        (heading_in c.in_ok-heading.heading) (written_behaviour c.args.body.now)
        (resolved (behaviour_of c.in_ok-behaviour.behaviour)) c.in_ok-heading.ensures.seen c.in_ok-behaviour.ensures.read,
    refl,
  ),
)

pub returns-clause-passed : goal.returns-clause-passed
returns-clause-passed c =
    definition_passed (state_in c.args.resolver.now) (state_in c.resolved_heading.new.resolver) (state_in c.behaviour.new.self)
    (written_heading c.args.text) (heading_in c.in_ok-heading.heading) (written_behaviour c.args.body.now)
    c.in_ok-heading.ensures.seen c.in_ok-behaviour.ensures.passed

pub returns-clause-profiles : goal.returns-clause-profiles
returns-clause-profiles c =
    subst (λ (sig : Signature). AreTermsOf sig (profiles_in c.in_ok-behaviour.behaviour))
    (ap (λ (s : State). s.signature) c.in_ok-heading.ensures.seen) c.in_ok-behaviour.ensures.profiles
