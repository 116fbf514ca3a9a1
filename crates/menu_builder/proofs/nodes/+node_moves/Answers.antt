use Rattle.std.proofs.Common.{rules, refl, List, [], ℕ, filter_map, Some, sym, subst}
use Rattle.std.proofs.lemmas.Result.{IfOk-weaker}
use Rattle.std.proofs.Math.Nat.{le_refl}
use Rattle.lotos_base.specs.Equation.{Data}
use Rattle.lotos_base.specs.Term.{Term}
use Rattle.behaviour_semantics.specs.Behaviour.{Relabelling, call}
use Rattle.behaviour_semantics.specs.Draft as plain
use Rattle.behaviour_semantics.specs.Shape.{relabelled}
use Rattle.sort_terms.specs.declared.sorted.Sorted.{Sorted}
use Rattle.term_match.specs.SubstView.{profiled_pairs}
use Rattle.behaviour_tree.specs.BehaviourTerms.{profiles_in, profiles_of}
use Rattle.behaviour_tree.specs.BehaviourView.{behaviour_of, meet_of, terms_of, variables_of}
use Rattle.behaviour_tree.specs.Over.{IsSpecOver}
use Rattle.behaviour_tree.specs.StateView.{node_profiles}
use Rattle.behaviour_tree.specs.declared.states.Node.{Node}
use Rattle.draft_parts.specs.DraftRules.{hidden_draft}
use Rattle.draft_parts.specs.Lists.{plain_drafts}
use Rattle.draft_parts.specs.HasDrafts.{all_relabelled}
use Rattle.draft_parts.specs.Made.{AreThese}
use Rattle.draft_parts.proofs.MadeLemmas.{by_rule}
use Rattle.draft_parts.proofs.HandedOn.{held_before, holds_after}
use Rattle.menu_builder.specs.NodeNumbers.{above_node}
use Rattle.menu_builder.specs.Placed.{AreDraftsPlaced, IsPlaced, menu_basis_of}
use Rattle.menu_builder.proofs.ArmLemmas.{left_of, listed_read}
use Rattle.menu_builder.proofs.CallLemmas.{placed_form}
use Rattle.menu_builder.specs.Nodes.{IsListedNode, IsNodeOver}
use Rattle.menu_builder.proofs.NodeLemmas.{call_listed, call_stands, disable_listed, enable_listed, first_terms, hide_listed, left_most, left_sized, listed_as, node_less, node_size, over_form, parallel_listed, part_listed, part_over, part_sized, part_stands, placed_at, relabel_listed, right_most, right_sized, second_terms, stop_listed}
use Rattle.menu_builder.proofs.nodes.+node_moves.Goals as goal

pub returns-in-Stop-clause-listed : goal.returns-in-Stop-clause-listed
returns-in-Stop-clause-listed g t c =
    listed_as (menu_basis_of (g.D.Deciding.known_data c.args.decider.now) (g.D.Deciding.canon c.args.decider.now) c.args.spec.now)
    c.args.first c.args.node.now _ c.in-Stop.is c.new.result.items (stop_listed (menu_basis_of (g.D.Deciding.known_data
    c.args.decider.now) (g.D.Deciding.canon c.args.decider.now) c.args.spec.now) c.args.first _ c.new.result.items refl
    c.new.ensures.items)

pub behaviour_moves-requires-clause-placed : goal.behaviour_moves-requires-clause-placed
behaviour_moves-requires-clause-placed g t c =
    placed_form (menu_basis_of (g.D.Deciding.known_data c.args.decider.now) (g.D.Deciding.canon c.args.decider.now)
    c.args.spec.now) c.args.first (profiled_pairs c.in-Part.environment.items) c.in-Part.behaviour.value c.deref.result.now
    (sym c.deref.ensures)
    (placed_at (menu_basis_of (g.D.Deciding.known_data c.args.decider.now) (g.D.Deciding.canon c.args.decider.now) c.args.spec.now)
    c.args.first (behaviour_of c.in-Part.behaviour.value) (profiles_in c.in-Part.behaviour.value) (profiled_pairs
    c.in-Part.environment.items) _ (part_stands (menu_basis_of (g.D.Deciding.known_data c.args.decider.now) (g.D.Deciding.canon
    c.args.decider.now) c.args.spec.now) c.args.first c.in-Part.behaviour.value c.in-Part.environment.items (over_form
    (menu_basis_of (g.D.Deciding.known_data c.args.decider.now) (g.D.Deciding.canon c.args.decider.now) c.args.spec.now)
    c.args.first c.args.node.now _ c.in-Part.is c.requires.node).signature (over_form (menu_basis_of (g.D.Deciding.known_data
    c.args.decider.now) (g.D.Deciding.canon c.args.decider.now) c.args.spec.now) c.args.first c.args.node.now _ c.in-Part.is
    c.requires.node).is_canon (over_form (menu_basis_of (g.D.Deciding.known_data c.args.decider.now) (g.D.Deciding.canon
    c.args.decider.now) c.args.spec.now) c.args.first c.args.node.now _ c.in-Part.is c.requires.node).well_formed (over_form
    (menu_basis_of (g.D.Deciding.known_data c.args.decider.now) (g.D.Deciding.canon c.args.decider.now) c.args.spec.now)
    c.args.first c.args.node.now _ c.in-Part.is c.requires.node).closed (over_form (menu_basis_of (g.D.Deciding.known_data
    c.args.decider.now) (g.D.Deciding.canon c.args.decider.now) c.args.spec.now) c.args.first c.args.node.now _ c.in-Part.is
    c.requires.node).given (over_form (menu_basis_of (g.D.Deciding.known_data c.args.decider.now) (g.D.Deciding.canon
    c.args.decider.now) c.args.spec.now) c.args.first c.args.node.now _ c.in-Part.is c.requires.node).terms (over_form
    (menu_basis_of (g.D.Deciding.known_data c.args.decider.now) (g.D.Deciding.canon c.args.decider.now) c.args.spec.now)
    c.args.first c.args.node.now _ c.in-Part.is c.requires.node).apart))

pub returns-in-Part-clause-listed : goal.returns-in-Part-clause-listed
returns-in-Part-clause-listed g t c =
    IfOk-weaker c.behaviour_moves.result _ _ (λ made e. listed_as (menu_basis_of (g.D.Deciding.known_data c.args.decider.now)
    (g.D.Deciding.canon c.args.decider.now) c.args.spec.now) c.args.first c.args.node.now _ c.in-Part.is made.items
    (part_listed (menu_basis_of (g.D.Deciding.known_data c.args.decider.now) (g.D.Deciding.canon c.args.decider.now)
    c.args.spec.now) c.args.first _ c.in-Part.behaviour.value c.in-Part.environment.items made.items refl (part_stands
    (menu_basis_of (g.D.Deciding.known_data c.args.decider.now) (g.D.Deciding.canon c.args.decider.now) c.args.spec.now)
    c.args.first c.in-Part.behaviour.value c.in-Part.environment.items (over_form (menu_basis_of (g.D.Deciding.known_data
    c.args.decider.now) (g.D.Deciding.canon c.args.decider.now) c.args.spec.now) c.args.first c.args.node.now _ c.in-Part.is
    c.requires.node).signature (over_form (menu_basis_of (g.D.Deciding.known_data c.args.decider.now) (g.D.Deciding.canon
    c.args.decider.now) c.args.spec.now) c.args.first c.args.node.now _ c.in-Part.is c.requires.node).is_canon (over_form
    (menu_basis_of (g.D.Deciding.known_data c.args.decider.now) (g.D.Deciding.canon c.args.decider.now) c.args.spec.now)
    c.args.first c.args.node.now _ c.in-Part.is c.requires.node).well_formed (over_form (menu_basis_of (g.D.Deciding.known_data
    c.args.decider.now) (g.D.Deciding.canon c.args.decider.now) c.args.spec.now) c.args.first c.args.node.now _ c.in-Part.is
    c.requires.node).closed (over_form (menu_basis_of (g.D.Deciding.known_data c.args.decider.now) (g.D.Deciding.canon
    c.args.decider.now) c.args.spec.now) c.args.first c.args.node.now _ c.in-Part.is c.requires.node).given (over_form
    (menu_basis_of (g.D.Deciding.known_data c.args.decider.now) (g.D.Deciding.canon c.args.decider.now) c.args.spec.now)
    c.args.first c.args.node.now _ c.in-Part.is c.requires.node).terms (over_form (menu_basis_of (g.D.Deciding.known_data
    c.args.decider.now) (g.D.Deciding.canon c.args.decider.now) c.args.spec.now) c.args.first c.args.node.now _ c.in-Part.is
    c.requires.node).apart)
    (listed_read (menu_basis_of (g.D.Deciding.known_data c.args.decider.now) (g.D.Deciding.canon c.args.decider.now)
    c.args.spec.now) c.args.first (profiled_pairs c.in-Part.environment.items) c.in-Part.behaviour.value c.deref.result.now
    c.deref.ensures made.items e)))
    c.behaviour_moves.ensures.listed

pub call_moves-requires-clause-placed : goal.call_moves-requires-clause-placed
call_moves-requires-clause-placed g t c =
    subst (λ (ps : List (ℕ × Sorted)). IsPlaced (menu_basis_of (g.D.Deciding.known_data c.args.decider.now) (g.D.Deciding.canon
    c.args.decider.now) c.args.spec.now) c.args.first (call c.in-Call.process c.in-Call.gates.items (terms_of
    c.in-Call.values.items)) (profiles_of c.in-Call.values.items) (profiled_pairs ps))
    (sym c.new-none.ensures.items) (placed_at (menu_basis_of (g.D.Deciding.known_data c.args.decider.now) (g.D.Deciding.canon
    c.args.decider.now) c.args.spec.now) c.args.first (call c.in-Call.process c.in-Call.gates.items (terms_of
    c.in-Call.values.items)) (profiles_of c.in-Call.values.items) [] [] (call_stands (menu_basis_of (g.D.Deciding.known_data
    c.args.decider.now) (g.D.Deciding.canon c.args.decider.now) c.args.spec.now) c.args.first c.in-Call.process
    c.in-Call.gates.items c.in-Call.values.items (over_form (menu_basis_of (g.D.Deciding.known_data c.args.decider.now)
    (g.D.Deciding.canon c.args.decider.now) c.args.spec.now) c.args.first c.args.node.now _ c.in-Call.is
    c.requires.node).is_canon (over_form (menu_basis_of (g.D.Deciding.known_data c.args.decider.now) (g.D.Deciding.canon
    c.args.decider.now) c.args.spec.now) c.args.first c.args.node.now _ c.in-Call.is c.requires.node).well_formed (over_form
    (menu_basis_of (g.D.Deciding.known_data c.args.decider.now) (g.D.Deciding.canon c.args.decider.now) c.args.spec.now)
    c.args.first c.args.node.now _ c.in-Call.is c.requires.node).closed (over_form (menu_basis_of (g.D.Deciding.known_data
    c.args.decider.now) (g.D.Deciding.canon c.args.decider.now) c.args.spec.now) c.args.first c.args.node.now _ c.in-Call.is
    c.requires.node).terms (over_form (menu_basis_of (g.D.Deciding.known_data c.args.decider.now) (g.D.Deciding.canon
    c.args.decider.now) c.args.spec.now) c.args.first c.args.node.now _ c.in-Call.is c.requires.node).apart))

pub returns-in-Call-clause-listed : goal.returns-in-Call-clause-listed
returns-in-Call-clause-listed g t c =
    IfOk-weaker c.call_moves.result _ _ (λ made e. listed_as (menu_basis_of (g.D.Deciding.known_data c.args.decider.now)
    (g.D.Deciding.canon c.args.decider.now) c.args.spec.now) c.args.first c.args.node.now _ c.in-Call.is made.items
    (call_listed (menu_basis_of (g.D.Deciding.known_data c.args.decider.now) (g.D.Deciding.canon c.args.decider.now)
    c.args.spec.now) c.args.first _ c.in-Call.process c.in-Call.gates.items c.in-Call.values.items made.items refl
    (call_stands (menu_basis_of (g.D.Deciding.known_data c.args.decider.now) (g.D.Deciding.canon c.args.decider.now)
    c.args.spec.now) c.args.first c.in-Call.process c.in-Call.gates.items c.in-Call.values.items (over_form (menu_basis_of
    (g.D.Deciding.known_data c.args.decider.now) (g.D.Deciding.canon c.args.decider.now) c.args.spec.now) c.args.first
    c.args.node.now _ c.in-Call.is c.requires.node).is_canon (over_form (menu_basis_of (g.D.Deciding.known_data c.args.decider.now)
    (g.D.Deciding.canon c.args.decider.now) c.args.spec.now) c.args.first c.args.node.now _ c.in-Call.is
    c.requires.node).well_formed (over_form (menu_basis_of (g.D.Deciding.known_data c.args.decider.now) (g.D.Deciding.canon
    c.args.decider.now) c.args.spec.now) c.args.first c.args.node.now _ c.in-Call.is c.requires.node).closed (over_form
    (menu_basis_of (g.D.Deciding.known_data c.args.decider.now) (g.D.Deciding.canon c.args.decider.now) c.args.spec.now)
    c.args.first c.args.node.now _ c.in-Call.is c.requires.node).terms (over_form (menu_basis_of (g.D.Deciding.known_data
    c.args.decider.now) (g.D.Deciding.canon c.args.decider.now) c.args.spec.now) c.args.first c.args.node.now _ c.in-Call.is
    c.requires.node).apart)
    (subst (λ (ps : List (ℕ × Sorted)). AreDraftsPlaced (menu_basis_of (g.D.Deciding.known_data c.args.decider.now) (g.D.Deciding.canon
    c.args.decider.now) c.args.spec.now) c.args.first (call c.in-Call.process c.in-Call.gates.items (terms_of
    c.in-Call.values.items)) (profiles_of c.in-Call.values.items) (profiled_pairs ps) made.items)
    c.new-none.ensures.items e)))
    c.call_moves.ensures.listed

pub node_moves-requires : goal.node_moves-requires
node_moves-requires g t c κs within = (
  left_of _ _ _ (node_less c.args.node.now _ c.in-Parallel.left.value c.deref-in-Parallel.result.now c.in-Parallel.is
      c.deref-in-Parallel.ensures (left_sized (node_size c.in-Parallel.left.value) (node_size c.in-Parallel.right.value)))
      c.decreases,
  (
    search rules,
    (
      c.requires.over,
      (
        c.requires.ranks,
        (over_form (menu_basis_of (g.D.Deciding.known_data
            c.args.decider.now) (g.D.Deciding.canon c.args.decider.now) c.args.spec.now) c.args.first c.in-Parallel.left.value
            c.deref-in-Parallel.result.now (sym c.deref-in-Parallel.ensures) (part_over (menu_basis_of (g.D.Deciding.known_data
            c.args.decider.now) (g.D.Deciding.canon c.args.decider.now) c.args.spec.now) c.args.first _ c.in-Parallel.left.value
            (over_form (menu_basis_of (g.D.Deciding.known_data c.args.decider.now) (g.D.Deciding.canon c.args.decider.now) c.args.spec.now)
            c.args.first c.args.node.now _ c.in-Parallel.is c.requires.node) (over_form (menu_basis_of (g.D.Deciding.known_data
            c.args.decider.now) (g.D.Deciding.canon c.args.decider.now) c.args.spec.now) c.args.first c.args.node.now _
            c.in-Parallel.is c.requires.node).closed.1 (over_form (menu_basis_of (g.D.Deciding.known_data c.args.decider.now)
            (g.D.Deciding.canon c.args.decider.now) c.args.spec.now) c.args.first c.args.node.now _ c.in-Parallel.is
            c.requires.node).given.0 (first_terms (menu_basis_of (g.D.Deciding.known_data c.args.decider.now) (g.D.Deciding.canon
            c.args.decider.now) c.args.spec.now) c.args.first (node_profiles c.in-Parallel.left.value) (node_profiles
            c.in-Parallel.right.value) (over_form (menu_basis_of (g.D.Deciding.known_data c.args.decider.now) (g.D.Deciding.canon
            c.args.decider.now) c.args.spec.now) c.args.first c.args.node.now _ c.in-Parallel.is c.requires.node).terms) (left_most
            (above_node c.in-Parallel.left.value) (above_node c.in-Parallel.right.value)))),
      ),
    ),
  ),
)

pub node_moves-requires-in-Parallel : goal.node_moves-requires-in-Parallel
node_moves-requires-in-Parallel g t c κs within = (
  left_of _ _ _ (node_less c.args.node.now _ c.in-Parallel.right.value c.deref-in-Parallel-2.result.now c.in-Parallel.is
      c.deref-in-Parallel-2.ensures (right_sized (node_size c.in-Parallel.left.value) (node_size c.in-Parallel.right.value)))
      c.decreases,
  (
    search rules,
    (
      holds_after (λ (d : Data) (k : Term → Term). IsSpecOver d.signature c.args.spec.now) c.node_moves.ensures.same_known c.requires.over,
      (
        c.requires.ranks,
        holds_after (λ (d : Data) (k : Term → Term). IsNodeOver
            (menu_basis_of d k c.args.spec.now) c.args.first c.deref-in-Parallel-2.result.now) c.node_moves.ensures.same_known (over_form
            (menu_basis_of
            (g.D.Deciding.known_data c.args.decider.now) (g.D.Deciding.canon c.args.decider.now) c.args.spec.now) c.args.first
            c.in-Parallel.right.value c.deref-in-Parallel-2.result.now (sym c.deref-in-Parallel-2.ensures) (part_over (menu_basis_of
            (g.D.Deciding.known_data c.args.decider.now) (g.D.Deciding.canon c.args.decider.now) c.args.spec.now) c.args.first _
            c.in-Parallel.right.value (over_form (menu_basis_of (g.D.Deciding.known_data c.args.decider.now) (g.D.Deciding.canon
            c.args.decider.now) c.args.spec.now) c.args.first c.args.node.now _ c.in-Parallel.is c.requires.node) (over_form (menu_basis_of
            (g.D.Deciding.known_data c.args.decider.now) (g.D.Deciding.canon c.args.decider.now) c.args.spec.now) c.args.first
            c.args.node.now _ c.in-Parallel.is c.requires.node).closed.2 (over_form (menu_basis_of (g.D.Deciding.known_data
            c.args.decider.now) (g.D.Deciding.canon c.args.decider.now) c.args.spec.now) c.args.first c.args.node.now _
            c.in-Parallel.is c.requires.node).given.1 (second_terms (menu_basis_of (g.D.Deciding.known_data c.args.decider.now)
            (g.D.Deciding.canon c.args.decider.now) c.args.spec.now) c.args.first (node_profiles c.in-Parallel.left.value)
            (node_profiles c.in-Parallel.right.value) (over_form (menu_basis_of (g.D.Deciding.known_data c.args.decider.now)
            (g.D.Deciding.canon c.args.decider.now) c.args.spec.now) c.args.first c.args.node.now _ c.in-Parallel.is
            c.requires.node).terms) (right_most (above_node c.in-Parallel.left.value) (above_node c.in-Parallel.right.value)))),
      ),
    ),
  ),
)

pub returns-in_ok-rights-in-Parallel-clause-listed : goal.returns-in_ok-rights-in-Parallel-clause-listed
returns-in_ok-rights-in-Parallel-clause-listed g t c =
    IfOk-weaker c.beside.result _ _ (λ made e. listed_as (menu_basis_of (g.D.Deciding.known_data c.args.decider.now)
    (g.D.Deciding.canon c.args.decider.now) c.args.spec.now) c.args.first c.args.node.now _ c.in-Parallel.is made.items
    (parallel_listed (menu_basis_of (g.D.Deciding.known_data c.args.decider.now) (g.D.Deciding.canon c.args.decider.now)
    c.args.spec.now) c.args.first _ c.in-Parallel.left.value c.in-Parallel.right.value (meet_of c.in-Parallel.meet)
    c.in_ok-lefts-in-Parallel.lefts.items c.in_ok-rights-in-Parallel.rights.items made.items refl (part_over (menu_basis_of
    (g.D.Deciding.known_data c.args.decider.now) (g.D.Deciding.canon c.args.decider.now) c.args.spec.now) c.args.first _
    c.in-Parallel.right.value (over_form (menu_basis_of (g.D.Deciding.known_data c.args.decider.now) (g.D.Deciding.canon
    c.args.decider.now) c.args.spec.now) c.args.first c.args.node.now _ c.in-Parallel.is c.requires.node) (over_form (menu_basis_of
    (g.D.Deciding.known_data c.args.decider.now) (g.D.Deciding.canon c.args.decider.now) c.args.spec.now) c.args.first
    c.args.node.now _ c.in-Parallel.is c.requires.node).closed.2 (over_form (menu_basis_of (g.D.Deciding.known_data
    c.args.decider.now) (g.D.Deciding.canon c.args.decider.now) c.args.spec.now) c.args.first c.args.node.now _
    c.in-Parallel.is c.requires.node).given.1 (second_terms (menu_basis_of (g.D.Deciding.known_data c.args.decider.now)
    (g.D.Deciding.canon c.args.decider.now) c.args.spec.now) c.args.first (node_profiles c.in-Parallel.left.value)
    (node_profiles c.in-Parallel.right.value) (over_form (menu_basis_of (g.D.Deciding.known_data c.args.decider.now)
    (g.D.Deciding.canon c.args.decider.now) c.args.spec.now) c.args.first c.args.node.now _ c.in-Parallel.is
    c.requires.node).terms) (right_most (above_node c.in-Parallel.left.value) (above_node c.in-Parallel.right.value))) (subst
    (λ (n : Node). IsListedNode (menu_basis_of (g.D.Deciding.known_data c.args.decider.now) (g.D.Deciding.canon c.args.decider.now)
    c.args.spec.now) c.args.first n c.in_ok-lefts-in-Parallel.lefts.items) c.deref-in-Parallel.ensures
    (c.in_ok-lefts-in-Parallel.ensures.listed))
    (subst (λ (n : Node). IsListedNode (menu_basis_of (g.D.Deciding.known_data c.args.decider.now) (g.D.Deciding.canon
    c.args.decider.now) c.args.spec.now) c.args.first n c.in_ok-rights-in-Parallel.rights.items) c.deref-in-Parallel-2.ensures
    ((held_before (λ (d : Data) (k : Term → Term). IsListedNode (menu_basis_of d k c.args.spec.now) c.args.first
    c.deref-in-Parallel-2.result.now c.in_ok-rights-in-Parallel.rights.items) c.node_moves.ensures.same_known
    c.in_ok-rights-in-Parallel.ensures.listed))) (e (g.D.Deciding.known_data c.args.decider.now).signature
    c.in_ok-lefts-in-Parallel.ensures.listed.over (held_before (λ (d : Data) (k : Term → Term). IsListedNode (menu_basis_of d k
    c.args.spec.now) c.args.first c.deref-in-Parallel-2.result.now c.in_ok-rights-in-Parallel.rights.items) c.node_moves.ensures.same_known
    c.in_ok-rights-in-Parallel.ensures.listed).over)))
    c.beside.ensures

pub node_moves-requires-in-Disable : goal.node_moves-requires-in-Disable
node_moves-requires-in-Disable g t c κs within = (
  left_of _ _ _ (node_less c.args.node.now _ c.in-Disable.left.value c.deref-in-Disable.result.now c.in-Disable.is
      c.deref-in-Disable.ensures (left_sized (node_size c.in-Disable.left.value) (node_size c.in-Disable.right.value)))
      c.decreases,
  (
    search rules,
    (
      c.requires.over,
      (
        c.requires.ranks,
        (over_form (menu_basis_of (g.D.Deciding.known_data
            c.args.decider.now) (g.D.Deciding.canon c.args.decider.now) c.args.spec.now) c.args.first c.in-Disable.left.value
            c.deref-in-Disable.result.now (sym c.deref-in-Disable.ensures) (part_over (menu_basis_of (g.D.Deciding.known_data
            c.args.decider.now) (g.D.Deciding.canon c.args.decider.now) c.args.spec.now) c.args.first _ c.in-Disable.left.value
            (over_form (menu_basis_of (g.D.Deciding.known_data c.args.decider.now) (g.D.Deciding.canon c.args.decider.now) c.args.spec.now)
            c.args.first c.args.node.now _ c.in-Disable.is c.requires.node) (over_form (menu_basis_of (g.D.Deciding.known_data
            c.args.decider.now) (g.D.Deciding.canon c.args.decider.now) c.args.spec.now) c.args.first c.args.node.now _
            c.in-Disable.is c.requires.node).closed.0 (over_form (menu_basis_of (g.D.Deciding.known_data c.args.decider.now)
            (g.D.Deciding.canon c.args.decider.now) c.args.spec.now) c.args.first c.args.node.now _ c.in-Disable.is
            c.requires.node).given.0 (first_terms (menu_basis_of (g.D.Deciding.known_data c.args.decider.now) (g.D.Deciding.canon
            c.args.decider.now) c.args.spec.now) c.args.first (node_profiles c.in-Disable.left.value) (node_profiles
            c.in-Disable.right.value) (over_form (menu_basis_of (g.D.Deciding.known_data c.args.decider.now) (g.D.Deciding.canon
            c.args.decider.now) c.args.spec.now) c.args.first c.args.node.now _ c.in-Disable.is c.requires.node).terms) (left_most
            (above_node c.in-Disable.left.value) (above_node c.in-Disable.right.value)))),
      ),
    ),
  ),
)

pub node_moves-requires-in-Disable-2 : goal.node_moves-requires-in-Disable-2
node_moves-requires-in-Disable-2 g t c κs within = (
  left_of _ _ _ (node_less c.args.node.now _ c.in-Disable.right.value c.deref-in-Disable-2.result.now c.in-Disable.is
      c.deref-in-Disable-2.ensures (right_sized (node_size c.in-Disable.left.value) (node_size c.in-Disable.right.value)))
      c.decreases,
  (
    search rules,
    (
      holds_after (λ (d : Data) (k : Term → Term). IsSpecOver d.signature c.args.spec.now) c.node_moves-in-Disable.ensures.same_known
          c.requires.over,
      (
        c.requires.ranks,
        holds_after (λ (d : Data) (k : Term → Term). IsNodeOver (menu_basis_of d k c.args.spec.now) c.args.first
            c.deref-in-Disable-2.result.now) c.node_moves-in-Disable.ensures.same_known
            (over_form (menu_basis_of (g.D.Deciding.known_data c.args.decider.now) (g.D.Deciding.canon c.args.decider.now) c.args.spec.now)
            c.args.first c.in-Disable.right.value c.deref-in-Disable-2.result.now (sym c.deref-in-Disable-2.ensures) (part_over
            (menu_basis_of (g.D.Deciding.known_data c.args.decider.now) (g.D.Deciding.canon c.args.decider.now) c.args.spec.now)
            c.args.first _ c.in-Disable.right.value (over_form (menu_basis_of (g.D.Deciding.known_data c.args.decider.now)
            (g.D.Deciding.canon c.args.decider.now) c.args.spec.now) c.args.first c.args.node.now _ c.in-Disable.is c.requires.node)
            (over_form (menu_basis_of (g.D.Deciding.known_data c.args.decider.now) (g.D.Deciding.canon c.args.decider.now) c.args.spec.now)
            c.args.first c.args.node.now _ c.in-Disable.is c.requires.node).closed.1 (over_form (menu_basis_of (g.D.Deciding.known_data
            c.args.decider.now) (g.D.Deciding.canon c.args.decider.now) c.args.spec.now) c.args.first c.args.node.now _
            c.in-Disable.is c.requires.node).given.1 (second_terms (menu_basis_of (g.D.Deciding.known_data c.args.decider.now)
            (g.D.Deciding.canon c.args.decider.now) c.args.spec.now) c.args.first (node_profiles c.in-Disable.left.value)
            (node_profiles c.in-Disable.right.value) (over_form (menu_basis_of (g.D.Deciding.known_data c.args.decider.now)
            (g.D.Deciding.canon c.args.decider.now) c.args.spec.now) c.args.first c.args.node.now _ c.in-Disable.is
            c.requires.node).terms) (right_most (above_node c.in-Disable.left.value) (above_node c.in-Disable.right.value)))),
      ),
    ),
  ),
)

pub returns-in_ok-rights-in-Disable-clause-listed : goal.returns-in_ok-rights-in-Disable-clause-listed
returns-in_ok-rights-in-Disable-clause-listed g t c =
    IfOk-weaker c.either.result _ _ (λ made e. listed_as (menu_basis_of (g.D.Deciding.known_data c.args.decider.now)
    (g.D.Deciding.canon c.args.decider.now) c.args.spec.now) c.args.first c.args.node.now _ c.in-Disable.is made.items
    (disable_listed (menu_basis_of (g.D.Deciding.known_data c.args.decider.now) (g.D.Deciding.canon c.args.decider.now)
    c.args.spec.now) c.args.first _ c.in-Disable.left.value c.in-Disable.right.value c.in_ok-lefts-in-Disable.lefts.items
    c.in_ok-rights-in-Disable.rights.items made.items refl (subst (λ (n : Node). IsListedNode (menu_basis_of
    (g.D.Deciding.known_data c.args.decider.now) (g.D.Deciding.canon c.args.decider.now) c.args.spec.now) c.args.first n
    c.in_ok-lefts-in-Disable.lefts.items) c.deref-in-Disable.ensures (c.in_ok-lefts-in-Disable.ensures.listed))
    (subst (λ (n : Node). IsListedNode (menu_basis_of (g.D.Deciding.known_data c.args.decider.now) (g.D.Deciding.canon
    c.args.decider.now) c.args.spec.now) c.args.first n c.in_ok-rights-in-Disable.rights.items) c.deref-in-Disable-2.ensures
    ((held_before (λ (d : Data) (k : Term → Term). IsListedNode (menu_basis_of d k c.args.spec.now) c.args.first
    c.deref-in-Disable-2.result.now c.in_ok-rights-in-Disable.rights.items) c.node_moves-in-Disable.ensures.same_known
    c.in_ok-rights-in-Disable.ensures.listed))) (e (g.D.Deciding.known_data c.args.decider.now).signature
    c.in_ok-lefts-in-Disable.ensures.listed.over (held_before (λ (d : Data) (k : Term → Term). IsListedNode (menu_basis_of d k
    c.args.spec.now) c.args.first c.deref-in-Disable-2.result.now c.in_ok-rights-in-Disable.rights.items)
    c.node_moves-in-Disable.ensures.same_known
    c.in_ok-rights-in-Disable.ensures.listed).over)))
    c.either.ensures

pub node_moves-requires-in-Hide : goal.node_moves-requires-in-Hide
node_moves-requires-in-Hide g t c κs within = (
  left_of _ _ _ (node_less c.args.node.now _ c.in-Hide.part.value c.deref-in-Hide.result.now c.in-Hide.is
      c.deref-in-Hide.ensures (part_sized (node_size c.in-Hide.part.value))) c.decreases,
  (
    search rules,
    (
      c.requires.over,
      (
        c.requires.ranks,
        (over_form (menu_basis_of (g.D.Deciding.known_data c.args.decider.now) (g.D.Deciding.canon
            c.args.decider.now) c.args.spec.now) c.args.first c.in-Hide.part.value c.deref-in-Hide.result.now (sym
            c.deref-in-Hide.ensures) (part_over (menu_basis_of (g.D.Deciding.known_data c.args.decider.now) (g.D.Deciding.canon
            c.args.decider.now) c.args.spec.now) c.args.first _ c.in-Hide.part.value (over_form (menu_basis_of (g.D.Deciding.known_data
            c.args.decider.now) (g.D.Deciding.canon c.args.decider.now) c.args.spec.now) c.args.first c.args.node.now _ c.in-Hide.is
            c.requires.node) (over_form (menu_basis_of (g.D.Deciding.known_data c.args.decider.now) (g.D.Deciding.canon c.args.decider.now)
            c.args.spec.now) c.args.first c.args.node.now _ c.in-Hide.is c.requires.node).closed.1 (over_form (menu_basis_of
            (g.D.Deciding.known_data c.args.decider.now) (g.D.Deciding.canon c.args.decider.now) c.args.spec.now) c.args.first
            c.args.node.now _ c.in-Hide.is c.requires.node).given (over_form (menu_basis_of (g.D.Deciding.known_data c.args.decider.now)
            (g.D.Deciding.canon c.args.decider.now) c.args.spec.now) c.args.first c.args.node.now _ c.in-Hide.is
            c.requires.node).terms (le_refl (above_node c.in-Hide.part.value)))),
      ),
    ),
  ),
)

pub returns-in_ok-parts-in-Hide-clause-listed : goal.returns-in_ok-parts-in-Hide-clause-listed
returns-in_ok-parts-in-Hide-clause-listed g t c =
    IfOk-weaker c.apply_to_all.result _ _ (λ made e. listed_as (menu_basis_of (g.D.Deciding.known_data c.args.decider.now)
    (g.D.Deciding.canon c.args.decider.now) c.args.spec.now) c.args.first c.args.node.now _ c.in-Hide.is made.items
    (hide_listed (menu_basis_of (g.D.Deciding.known_data c.args.decider.now) (g.D.Deciding.canon c.args.decider.now)
    c.args.spec.now) c.args.first _ c.in-Hide.part.value c.in-Hide.gates.items c.in_ok-parts-in-Hide.parts.items made.items
    refl (subst (λ (n : Node). IsListedNode (menu_basis_of (g.D.Deciding.known_data c.args.decider.now) (g.D.Deciding.canon
    c.args.decider.now) c.args.spec.now) c.args.first n c.in_ok-parts-in-Hide.parts.items) c.deref-in-Hide.ensures
    (c.in_ok-parts-in-Hide.ensures.listed))
    (subst (λ (gs : List ℕ). AreThese (g.D.Deciding.known_data c.args.decider.now).signature (filter_map (λ (d : plain.Draft).
    Some (hidden_draft gs d)) (plain_drafts c.in_ok-parts-in-Hide.parts.items)) made.items) c.as_slice.ensures.value
    (by_rule (g.D.Deciding.known_data c.args.decider.now).signature _ c.in_ok-parts-in-Hide.parts.items made.items (e
    (g.D.Deciding.known_data c.args.decider.now).signature tt c.in_ok-parts-in-Hide.ensures.listed.over)))))
    c.apply_to_all.ensures

pub node_moves-requires-in-Enable : goal.node_moves-requires-in-Enable
node_moves-requires-in-Enable g t c κs within = (
  left_of _ _ _ (node_less c.args.node.now _ c.in-Enable.left.value c.deref-in-Enable.result.now c.in-Enable.is
      c.deref-in-Enable.ensures (part_sized (node_size c.in-Enable.left.value))) c.decreases,
  (
    search rules,
    (
      c.requires.over,
      (
        c.requires.ranks,
        (over_form (menu_basis_of (g.D.Deciding.known_data c.args.decider.now) (g.D.Deciding.canon
            c.args.decider.now) c.args.spec.now) c.args.first c.in-Enable.left.value c.deref-in-Enable.result.now (sym
            c.deref-in-Enable.ensures) (part_over (menu_basis_of (g.D.Deciding.known_data c.args.decider.now) (g.D.Deciding.canon
            c.args.decider.now) c.args.spec.now) c.args.first _ c.in-Enable.left.value (over_form (menu_basis_of (g.D.Deciding.known_data
            c.args.decider.now) (g.D.Deciding.canon c.args.decider.now) c.args.spec.now) c.args.first c.args.node.now _ c.in-Enable.is
            c.requires.node) (over_form (menu_basis_of (g.D.Deciding.known_data c.args.decider.now) (g.D.Deciding.canon c.args.decider.now)
            c.args.spec.now) c.args.first c.args.node.now _ c.in-Enable.is c.requires.node).closed.0 (over_form (menu_basis_of
            (g.D.Deciding.known_data c.args.decider.now) (g.D.Deciding.canon c.args.decider.now) c.args.spec.now) c.args.first
            c.args.node.now _ c.in-Enable.is c.requires.node).given.0 (first_terms (menu_basis_of (g.D.Deciding.known_data
            c.args.decider.now) (g.D.Deciding.canon c.args.decider.now) c.args.spec.now) c.args.first (node_profiles
            c.in-Enable.left.value) _ (first_terms (menu_basis_of (g.D.Deciding.known_data c.args.decider.now) (g.D.Deciding.canon
            c.args.decider.now) c.args.spec.now) c.args.first _ _ (over_form (menu_basis_of (g.D.Deciding.known_data c.args.decider.now)
            (g.D.Deciding.canon c.args.decider.now) c.args.spec.now) c.args.first c.args.node.now _ c.in-Enable.is
            c.requires.node).terms)) (left_most (above_node c.in-Enable.left.value) _))),
      ),
    ),
  ),
)

pub returns-in_ok-parts-in-Enable-clause-listed : goal.returns-in_ok-parts-in-Enable-clause-listed
returns-in_ok-parts-in-Enable-clause-listed g t c =
    IfOk-weaker c.apply_to_all-in-Enable.result _ _ (λ made e. listed_as (menu_basis_of (g.D.Deciding.known_data
    c.args.decider.now) (g.D.Deciding.canon c.args.decider.now) c.args.spec.now) c.args.first c.args.node.now _ c.in-Enable.is
    made.items
    (enable_listed (menu_basis_of (g.D.Deciding.known_data c.args.decider.now) (g.D.Deciding.canon c.args.decider.now)
    c.args.spec.now) c.args.first _ c.in-Enable.left.value (variables_of c.in-Enable.variables.items) _
    c.in_ok-parts-in-Enable.parts.items made.items refl (subst (λ (n : Node). IsListedNode (menu_basis_of (g.D.Deciding.known_data
    c.args.decider.now) (g.D.Deciding.canon c.args.decider.now) c.args.spec.now) c.args.first n
    c.in_ok-parts-in-Enable.parts.items) c.deref-in-Enable.ensures (c.in_ok-parts-in-Enable.ensures.listed))
    (by_rule (g.D.Deciding.known_data c.args.decider.now).signature _ c.in_ok-parts-in-Enable.parts.items made.items (e
    (g.D.Deciding.known_data c.args.decider.now).signature tt c.in_ok-parts-in-Enable.ensures.listed.over))))
    c.apply_to_all-in-Enable.ensures

pub node_moves-requires-in-Relabel : goal.node_moves-requires-in-Relabel
node_moves-requires-in-Relabel g t c κs within = (
  left_of _ _ _ (node_less c.args.node.now _ c.in-Relabel.part.value c.deref-in-Relabel.result.now c.in-Relabel.is
      c.deref-in-Relabel.ensures (part_sized (node_size c.in-Relabel.part.value))) c.decreases,
  (
    search rules,
    (
      c.requires.over,
      (
        c.requires.ranks,
        (over_form (menu_basis_of (g.D.Deciding.known_data c.args.decider.now) (g.D.Deciding.canon
            c.args.decider.now) c.args.spec.now) c.args.first c.in-Relabel.part.value c.deref-in-Relabel.result.now (sym
            c.deref-in-Relabel.ensures) (part_over (menu_basis_of (g.D.Deciding.known_data c.args.decider.now) (g.D.Deciding.canon
            c.args.decider.now) c.args.spec.now) c.args.first _ c.in-Relabel.part.value (over_form (menu_basis_of (g.D.Deciding.known_data
            c.args.decider.now) (g.D.Deciding.canon c.args.decider.now) c.args.spec.now) c.args.first c.args.node.now _
            c.in-Relabel.is c.requires.node) (over_form (menu_basis_of (g.D.Deciding.known_data c.args.decider.now) (g.D.Deciding.canon
            c.args.decider.now) c.args.spec.now) c.args.first c.args.node.now _ c.in-Relabel.is c.requires.node).closed.1 (over_form
            (menu_basis_of (g.D.Deciding.known_data c.args.decider.now) (g.D.Deciding.canon c.args.decider.now) c.args.spec.now)
            c.args.first c.args.node.now _ c.in-Relabel.is c.requires.node).given.1 (over_form (menu_basis_of (g.D.Deciding.known_data
            c.args.decider.now) (g.D.Deciding.canon c.args.decider.now) c.args.spec.now) c.args.first c.args.node.now _
            c.in-Relabel.is c.requires.node).terms (le_refl (above_node c.in-Relabel.part.value)))),
      ),
    ),
  ),
)

pub returns-in_ok-parts-in-Relabel-clause-listed : goal.returns-in_ok-parts-in-Relabel-clause-listed
returns-in_ok-parts-in-Relabel-clause-listed g t c =
    IfOk-weaker c.apply_to_all-in-Relabel.result _ _ (λ made e. listed_as (menu_basis_of (g.D.Deciding.known_data
    c.args.decider.now) (g.D.Deciding.canon c.args.decider.now) c.args.spec.now) c.args.first c.args.node.now _
    c.in-Relabel.is made.items
    (relabel_listed (menu_basis_of (g.D.Deciding.known_data c.args.decider.now) (g.D.Deciding.canon c.args.decider.now)
    c.args.spec.now) c.args.first _ c.in-Relabel.part.value c.in-Relabel.pairs.items c.in_ok-parts-in-Relabel.parts.items
    made.items refl (subst (λ (n : Node). IsListedNode (menu_basis_of (g.D.Deciding.known_data c.args.decider.now)
    (g.D.Deciding.canon c.args.decider.now) c.args.spec.now) c.args.first n c.in_ok-parts-in-Relabel.parts.items)
    c.deref-in-Relabel.ensures (c.in_ok-parts-in-Relabel.ensures.listed))
    (subst (λ (rs : Relabelling). AreThese (g.D.Deciding.known_data c.args.decider.now).signature (all_relabelled relabelled
    rs (plain_drafts c.in_ok-parts-in-Relabel.parts.items)) made.items) c.as_slice-in-Relabel.ensures.value
    (by_rule (g.D.Deciding.known_data c.args.decider.now).signature _ c.in_ok-parts-in-Relabel.parts.items made.items (e
    (g.D.Deciding.known_data c.args.decider.now).signature tt c.in_ok-parts-in-Relabel.ensures.listed.over)))))
    c.apply_to_all-in-Relabel.ensures
