-- What is beside `stop` is as closed and well formed as it is alone.
use Rattle.std.proofs.Common.{◌≡◌, List, sym, subst}
use Rattle.lotos_base.specs.Signature.{Signature}
use Rattle.behaviour_semantics.specs.Behaviour.{Behaviour}
use Rattle.behaviour_semantics.specs.WellFormed.{IsClosedBehaviour}
use Rattle.sort_terms.specs.ProfiledTerm.{ProfiledTerm}
use Rattle.behaviour_tree.specs.Closed.{IsClosedNode}
use Rattle.behaviour_tree.specs.DefinitionView.{specification_of}
use Rattle.behaviour_tree.specs.Over.{AreTermsOf, IsStateOf}
use Rattle.behaviour_tree.specs.StateView.{node_profiles, stands_for}
use Rattle.behaviour_tree.specs.declared.definitions.Spec.{Spec}
use Rattle.behaviour_tree.specs.declared.states.Node.{Node}
use Rattle.behaviour_tree.specs.declared.states.State.{State}

-- The node is of the specification.
pub record IsNodeOf (signature : Signature) (spec : Spec) (node : Node) : Type 0 where
  pub closed : IsClosedBehaviour signature (specification_of spec) (stands_for node)
  pub terms : AreTermsOf signature (node_profiles node)

-- The node is closed, and of each specification that the state is of.
pub record IsGrown (state : State) (node : Node) : Type 0 where
  pub closed : IsClosedNode node
  pub lawful : (signature : Signature) (spec : Spec) → IsStateOf signature spec state → IsNodeOf signature spec node

-- A copy of the state's own node.
pub grown_none : (state : State) (node given : Node) → given ≡ state.node → (IsClosedNode given → IsClosedNode node)
    → stands_for node ≡ stands_for given → node_profiles node ≡ node_profiles given → IsClosedNode state.node → IsGrown state node
grown_none state node given is closed same terms h = record {
  closed = closed (subst (λ (n : Node). IsClosedNode n) (sym is) h);
  lawful = λ signature spec of. record {
    closed = subst (λ (b : Behaviour). IsClosedBehaviour signature (specification_of spec) b) (sym same)
        (subst (λ (n : Node). IsClosedBehaviour signature (specification_of spec) (stands_for n)) (sym is) of.closed);
    terms = subst (λ (ts : List ProfiledTerm). AreTermsOf signature ts) (sym terms)
        (subst (λ (n : Node). AreTermsOf signature (node_profiles n)) (sym is) of.terms);
  };
}
