-- Forms: the parts are states, and the rule makes the menu of the whole.
use Rattle.std.proofs.Common.{◌≡◌, ◌++◌, ◌∷◌, [], ℕ, List, map, zip, slice_get, Some, refl, ap, sym, ◌∙◌, subst, filter_map}
use Rattle.lotos_base.specs.Equation.{Variable}
use Rattle.lotos_base.specs.Term.{Term}
use Rattle.lotos_base.specs.Signature.{Signature}
use Rattle.behaviour_semantics.specs.Behaviour.{Behaviour, parallel, hide, enable, disable, let_be, par_gate, call, relabel, Process, Relabelling, Specification, SynchronisationSet}
use Rattle.behaviour_semantics.specs.Rule.{copies}
use Rattle.behaviour_semantics.specs.Solving.{Entry}
use Rattle.behaviour_semantics.specs.WellFormed.{IsClosedBehaviour}
use Rattle.behaviour_tree.specs.DefinitionView.{process_of, specification_of}
use Rattle.behaviour_tree.specs.Over.{AreTermsOf}
use Rattle.behaviour_tree.specs.BehaviourTerms.{profiles_in}
use Rattle.behaviour_tree.specs.BehaviourView.{behaviour_of}
use Rattle.behaviour_tree.specs.StateView.{environment_of, node_profiles, pair_profile, stands_for}
use Rattle.behaviour_tree.specs.declared.behaviours.Beh.{Beh}
use Rattle.sort_terms.specs.declared.sorted.Sorted.{Sorted}
use Rattle.lotos_base.specs.Substitution.{binding}
use Rattle.behaviour_semantics.specs.Replacement.{with_values}
use Rattle.step_taker.proofs.HandedOn.{first_terms, no_values, closed_state}
use Rattle.behaviour_tree.specs.declared.states.Node.{Node}
use Rattle.sort_terms.specs.ProfiledTerm.{ProfiledTerm}
use Rattle.behaviour_semantics.specs.Derives.{leaves_in}
use Rattle.behaviour_semantics.specs.Shape.{let_bound}
use Rattle.behaviour_semantics.proofs.ClosedTargets.{opened_closed}
use Rattle.step_taker.proofs.BodyLemmas.{keeps_ground}
use Rattle.shared_entries.specs.PartRule.{all_by_rule, passing_on}
use Rattle.shared_entries.specs.PartMenus.{hide_menu, relabel_menu, call_menu, enable_menu, called_body, let_body}
use Rattle.shared_entries.specs.PartMenuLaws.{MakeTheMenu}
use Rattle.shared_entries.proofs.PartMenuLemmas.{make_the_menu}
use Rattle.shared_entries.specs.HandedOn.{call_pairs}
use Rattle.shared_entries.proofs.HandedOn.{unchanged_gates}
use Rattle.step_taker.specs.HandedOn.{HasClosedParts}
use Rattle.step_taker.specs.Sides.{IsSideState, side_of, side_profiles}
use Rattle.step_taker.specs.Taken.{Ground}
use Rattle.step_taker.specs.Walked.{IsClosedOn, IsPassable, IsPassableNode}
use Rattle.step_taker.specs.declared.sides.Side.{Side}
use Rattle.menu_parts.specs.Forms.{IsLawfulGround, IsExactOn, IsMadeBeside, IsMadeOfEither}
use Rattle.menu_parts.proofs.OverLemmas.{over_of}

-- A node that stands for a closed behaviour, with closed parts and terms of the signature.
pub passable_node : (basis : Ground) (b : Behaviour) (made : Node) → stands_for made ≡ b
    → AreTermsOf basis.data_.signature (node_profiles made) → HasClosedParts made → IsClosedOn basis b → IsPassableNode basis made
passable_node basis b made same terms parts closed =
    let whole : IsClosedOn basis (stands_for made) = subst (IsClosedOn basis) (sym same) closed in
    record {
      passable = record { closed = whole; terms_of_signature = terms };
      states = closed_state basis.data_.signature (specification_of basis.spec) made parts whole;
    }

-- So is the node of a side.
pub passable_side : (basis : Ground) (side : Side) (made : Node) → stands_for made ≡ side_of side
    → ((signature : Signature) → AreTermsOf signature (side_profiles side) → AreTermsOf signature (node_profiles made))
    → ((signature : Signature) (specification : Specification) → IsClosedBehaviour signature specification (side_of side)
    → IsSideState side → HasClosedParts made)
    → IsSideState side → AreTermsOf basis.data_.signature (side_profiles side) → IsClosedOn basis (side_of side)
    → IsPassableNode basis made
passable_side basis side made same terms parts state of closed =
    passable_node basis (side_of side) made same (terms basis.data_.signature of)
    (parts basis.data_.signature (specification_of basis.spec) closed state) closed

-- exact for what the node stands for
pub exact_as : (basis : Ground) (b : Behaviour) (made : Node) (entries : List Entry) → stands_for made ≡ b
    → IsExactOn basis (stands_for made) entries → IsExactOn basis b entries
exact_as basis b made entries e h = subst (λ (x : Behaviour). IsExactOn basis x entries) e h

module _ (basis : Ground) (base : IsLawfulGround basis) where
  abbrev pub makes : MakeTheMenu basis.data_ basis.canon (specification_of basis.spec)
  makes = make_the_menu basis.data_ basis.canon (specification_of basis.spec)

  pub hide_made : (gates : List ℕ) (b : Behaviour) (made : Node) → stands_for made ≡ b → IsClosedOn basis (hide gates b)
      → (entries : List Entry) → IsExactOn basis (stands_for made) entries → IsExactOn basis (hide gates b) (hide_menu gates entries)
  hide_made gates b made e closed = λ entries exact.
      makes.of_hide gates b entries (over_of basis (hide gates b) base closed) (exact_as basis b made entries e exact)

  pub relabel_made : (pairs : Relabelling) (b : Behaviour) (made : Node) → stands_for made ≡ b → IsClosedOn basis (relabel pairs b)
      → (entries : List Entry) → IsExactOn basis (stands_for made) entries
      → IsExactOn basis (relabel pairs b) (relabel_menu pairs entries)
  relabel_made pairs b made e closed = λ entries exact.
      makes.of_relabelling pairs b entries (over_of basis (relabel pairs b) base closed) (exact_as basis b made entries e exact)

  pub enable_made : (b : Behaviour) (variables : List Variable) (c : Behaviour) (made : Node) → stands_for made ≡ b
      → IsClosedOn basis (enable b variables c) → (entries : List Entry) → IsExactOn basis (stands_for made) entries
      → IsExactOn basis (enable b variables c) (enable_menu basis.data_.signature variables entries)
  enable_made b variables c made e closed = λ entries exact.
      makes.of_enable b variables c entries (over_of basis (enable b variables c) base closed) (exact_as basis b made entries e exact)

  pub disable_made : (b c : Behaviour) (left right : Node) → stands_for left ≡ b → stands_for right ≡ c → IsClosedOn basis (disable b c)
      → IsMadeOfEither basis (stands_for left) (stands_for right) (disable b c)
  disable_made b c left right e f closed = λ lefts rights exact other.
      makes.of_disable b c lefts rights (over_of basis (disable b c) base closed) (exact_as basis b left lefts e exact)
      (exact_as basis c right rights f other)

  pub parallel_made : (meet : SynchronisationSet) (b c : Behaviour) (left right : Node) → stands_for left ≡ b → stands_for right ≡ c
      → IsClosedOn basis (parallel meet b c)
      → IsMadeBeside basis meet (stands_for left) (stands_for right) (parallel meet b c)
  parallel_made meet b c left right e f closed = λ lefts rights boths exact other solved.
      makes.of_parallel meet b c lefts rights boths (over_of basis (parallel meet b c) base closed) (exact_as basis b left lefts e exact)
      (exact_as basis c right rights f other) solved

  pub let_made : (bindings : List (Variable × Term)) (b : Behaviour) (made : Node) → stands_for made ≡ let_body basis.canon bindings b
      → IsClosedOn basis (let_be bindings b) → (entries : List Entry) → IsExactOn basis (stands_for made) entries
      → IsExactOn basis (let_be bindings b) (all_by_rule (passing_on let_bound) entries)
  let_made bindings b made e closed = λ entries exact.
      makes.of_let bindings b entries (over_of basis (let_be bindings b) base closed)
      (exact_as basis (let_body basis.canon bindings b) made entries e exact)

  -- ---- The part is the whole itself.
  all_same : (entries : List Entry) → filter_map (λ (entry : Entry). Some entry) entries ≡ entries
  all_same [] = refl
  all_same (entry ∷ entries) = ap (λ (es : List Entry). entry ∷ es) (all_same entries)

  pub copies_made : (g : ℕ) (gates : List ℕ) (meet : SynchronisationSet) (b : Behaviour) (made : Node)
      → stands_for made ≡ copies g gates meet b
      → IsClosedOn basis (par_gate g gates meet b) → (entries : List Entry) → IsExactOn basis (stands_for made) entries
      → IsExactOn basis (par_gate g gates meet b) (filter_map (λ (entry : Entry). Some entry) entries)
  copies_made g gates meet b made e closed = λ entries exact.
      subst (IsExactOn basis (par_gate g gates meet b)) (sym (all_same entries))
      (makes.of_gate_par g gates meet b entries (over_of basis (par_gate g gates meet b) base closed)
      (exact_as basis (copies g gates meet b) made entries e exact))

  pub call_made : (number : ℕ) (gates : List ℕ) (arguments : List Term) (process : Process) (made : Node)
      → stands_for made ≡ called_body basis.canon process arguments
      → slice_get (specification_of basis.spec).processes number ≡ Some process
      → IsClosedOn basis (call number gates arguments) → (entries : List Entry) → IsExactOn basis (stands_for made) entries
      → IsExactOn basis (call number gates arguments) (call_menu (zip process.gates gates) entries)
  call_made number gates arguments process made e at closed = λ entries exact.
      makes.of_call number gates arguments process entries (over_of basis (call number gates arguments) base closed) at
      (exact_as basis (called_body basis.canon process arguments) made entries e exact)

  -- ---- The copies of a gate `par` are closed.
  pub copies_closed : (g : ℕ) (gates : List ℕ) (meet : SynchronisationSet) (b : Behaviour) → IsClosedOn basis (par_gate g gates meet b)
      → IsClosedOn basis (copies g gates meet b)
  copies_closed g gates meet b closed =
      opened_closed basis.data_ (specification_of basis.spec) base.over.well_formed basis.canon (keeps_ground basis base.is_canon)
      (leaves_in []) (par_gate g gates meet b) closed

-- ---- The relabelling of a call is that of the formal gates by the actual ones.

pub call_pairs_stay : (formals actuals : List ℕ) (pairs : Relabelling) → pairs ≡ [] → call_pairs formals actuals pairs ≡ zip formals actuals
call_pairs_stay formals actuals pairs e =
    ap (call_pairs formals actuals) e ∙ ap (λ (gs : List ℕ). zip formals gs) (unchanged_gates actuals)

-- ---- A node that is a behaviour without values to put in.
module _ (environment : List (ℕ × Sorted)) (behaviour given : Beh) (node : Node) (nothing : environment ≡ []) (is : given ≡ behaviour)
    (same : stands_for node ≡ with_values (binding (environment_of environment)) (behaviour_of behaviour)) where
  pub whole_of_part : behaviour_of given ≡ stands_for node
  whole_of_part = ap behaviour_of is ∙ sym (same ∙ no_values environment (behaviour_of behaviour) nothing)

pub own_part : (basis : Ground) (environment : List (ℕ × Sorted)) (behaviour given : Beh) (node : Node) → environment ≡ []
    → given ≡ behaviour → stands_for node ≡ with_values (binding (environment_of environment)) (behaviour_of behaviour)
    → node_profiles node ≡ profiles_in behaviour ++ map pair_profile environment → IsPassable basis (stands_for node) (node_profiles node)
    → IsPassable basis (behaviour_of given) (profiles_in given)
own_part basis environment behaviour given node nothing is same terms passable =
    let e : behaviour_of given ≡ stands_for node = whole_of_part environment behaviour given node nothing is same in
    record {
      closed = subst (λ (b : Behaviour). IsClosedOn basis b) (sym e) passable.closed;
      terms_of_signature = subst (λ (b : Beh). AreTermsOf basis.data_.signature (profiles_in b)) (sym is)
          (first_terms basis.data_.signature (profiles_in behaviour) (map pair_profile environment)
          (subst (AreTermsOf basis.data_.signature) terms passable.terms_of_signature));
    }
