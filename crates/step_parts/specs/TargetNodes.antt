-- Nodes whose relabellings may still be of any form: each environment closes its behaviour. With a closed well-formed
-- behaviour, whose relabellings have distinct formal gates, such a node is a state.
use Rattle.std.specs.Prelude.{◌++◌, ℕ, List, [], ◌∷◌, Bool, length, not, if◌then◌else◌}
use Rattle.lotos_base.specs.Signature.{Signature}
use Rattle.lotos_base.specs.Sorting.{IsGround}
use Rattle.lotos_base.specs.Equation.{Variable}
use Rattle.lotos_base.specs.Substitution.{binding, is_listed, without}
use Rattle.behaviour_semantics.specs.Behaviour.{Behaviour, Relabelling, Specification, numbers_of, sorts_of}
use Rattle.behaviour_semantics.specs.Label.{formals_of, gate_under}
use Rattle.behaviour_semantics.specs.Replacement.{with_values}
use Rattle.behaviour_semantics.specs.Rule.{AreValues}
use Rattle.behaviour_semantics.specs.WellFormed.{AreDistinct, Every, IsBehaviour, IsClosedBehaviour}
use Rattle.sort_terms.specs.SortedView.{term_in}
use Rattle.sort_terms.specs.declared.sorted.Sorted.{Sorted}
use Rattle.behaviour_tree.specs.BehaviourTerms.{profiles_of}
use Rattle.behaviour_tree.specs.BehaviourView.{behaviour_of, terms_of, variables_of}
use Rattle.behaviour_tree.specs.Closed.{IsClosedBy, IsClosedNode, IsClosedUnder}
use Rattle.behaviour_tree.specs.Over.{AreTermsOf}
use Rattle.behaviour_tree.specs.StateView.{environment_of, stands_for}
use Rattle.behaviour_tree.specs.declared.behaviours.Beh as beh
use Rattle.behaviour_tree.specs.declared.states.Node.{Node, Stop, Part, Call, Parallel', Hide', Enable', Disable', Relabel'}

abbrev pub HasClosedParts : Node → Type 0
HasClosedParts Stop = Unit {0}
HasClosedParts (Part behaviour environment) = IsClosedBy environment.items (behaviour_of behaviour.value)
HasClosedParts (Call process gates values) = Every (λ (value : Sorted). IsGround (term_in value)) values.items
HasClosedParts (Parallel' meet _ left _ right) = HasClosedParts left × HasClosedParts right
HasClosedParts (Hide' gates _ part) = HasClosedParts part
HasClosedParts (Enable' _ left variables right environment) =
    HasClosedParts left × IsClosedUnder (variables_of variables.items) environment.items (behaviour_of right.value)
HasClosedParts (Disable' _ left _ right) = HasClosedParts left × HasClosedParts right
HasClosedParts (Relabel' pairs _ part) = HasClosedParts part

-- a node with closed parts that stands for a closed well-formed behaviour is a state
abbrev pub ClosedPartsMakeStates : Type 0
ClosedPartsMakeStates = (signature : Signature) (specification : Specification) (node : Node) → HasClosedParts node
    → IsClosedBehaviour signature specification (stands_for node) → IsClosedNode node

-- the pairs of other variables than those with these numbers
abbrev pub unbound : List ℕ → List (ℕ × Sorted) → List (ℕ × Sorted)
unbound numbers [] = []
unbound numbers (pair ∷ pairs) = if is_listed numbers pair.0 then unbound numbers pairs else pair ∷ unbound numbers pairs

-- What the right side of `>>` has to be with the values that the left side ended with: the environment closes it under the
-- variables that it accepts, it is well formed in their scope, and the values are ground and of their sorts.
pub record IsAccepting (signature : Signature) (specification : Specification) (variables : List Variable) (environment : List (ℕ × Sorted))
    (values : List Sorted) (right : Behaviour) : Type 0 where
  pub closed : IsClosedUnder variables environment right
  pub distinct : AreDistinct (numbers_of variables)
  pub well_formed : IsBehaviour signature (length specification.gate_names) specification.processes (variables ++ [])
      (with_values (without (numbers_of variables) (binding (environment_of environment))) right)
  pub fitting : AreValues signature (sorts_of variables) (terms_of values)
  pub terms : AreTermsOf signature (profiles_of values)

-- the behaviour is neither `stop` nor a call, so a relabelling stays before it
abbrev pub stands_apart : beh.Beh → Bool
stands_apart beh.Stop = Bool.false
stands_apart (beh.Call _ _ _ _) = Bool.false
stands_apart _ = Bool.true

-- the pair with its actual gate relabelled, and whether a relabelling lacks the formal gate of a pair
abbrev pub pair_given : Relabelling → ℕ × ℕ → ℕ × ℕ
pair_given second pair = (pair.0, gate_under second pair.1)

abbrev pub is_lacking : Relabelling → ℕ × ℕ → Bool
is_lacking first pair = not (is_listed (formals_of first) pair.0)
