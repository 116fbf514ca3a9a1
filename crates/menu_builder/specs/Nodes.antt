-- Nodes of states whose moves are listed, and what their list is.
use Rattle.std.specs.Prelude.{◌≤◌, ℕ, List, max}
use Rattle.lotos_base.specs.Signature.{IsWellFormedSignature, Signature}
use Rattle.lotos_base.specs.Canon.{IsCanon}
use Rattle.behaviour_semantics.specs.Draft.{above_processes}
use Rattle.behaviour_semantics.specs.WellFormed.{Every, IsSpecification, IsClosedBehaviour}
use Rattle.behaviour_tree.specs.Closed.{IsClosedNode}
use Rattle.behaviour_tree.specs.DefinitionView.{specification_of}
use Rattle.behaviour_tree.specs.Over.{AreTermsOf}
use Rattle.behaviour_tree.specs.StateView.{node_profiles, stands_for}
use Rattle.behaviour_tree.specs.declared.definitions.Spec.{Spec}
use Rattle.behaviour_tree.specs.declared.states.Node.{Node}
use Rattle.draft_parts.specs.HandedOn.{Draft}
use Rattle.draft_parts.specs.DraftTerms.{HasTermsOf}
use Rattle.draft_parts.specs.Lists.{plain_drafts}
use Rattle.draft_parts.specs.HasDrafts.{HasDrafts}
use Rattle.menu_builder.specs.NodeNumbers.{above_node}
use Rattle.menu_builder.specs.Placed.{Basis, setting_on_basis}

-- The node is a state of the specification: the closed behaviour that it stands for is well formed over it, its
-- environments close what they stand beside, and its terms are of the signature.
pub record IsKnownNode (signature : Signature) (spec : Spec) (node : Node) : Type 0 where
  pub closed : IsClosedBehaviour signature (specification_of spec) (stands_for node)
  pub terms : AreTermsOf signature (node_profiles node)
  pub given : IsClosedNode node

-- The node is closed and stands for a closed behaviour over the specification, its terms are of the signature, and no
-- variable that it or a process binds has a number from `base` on.
pub record IsNodeOver (basis : Basis) (base : ℕ) (node : Node) : Type 0 where
  pub signature : IsWellFormedSignature basis.data_.signature
  pub is_canon : IsCanon basis.data_ basis.canon
  pub well_formed : IsSpecification basis.data_.signature basis.specification
  pub closed : IsClosedBehaviour basis.data_.signature basis.specification (stands_for node)
  pub given : IsClosedNode node
  pub terms : AreTermsOf basis.data_.signature (node_profiles node)
  pub apart : max (above_processes basis.specification.processes) (above_node node) ≤ base

-- The drafts are those of the moves of the behaviour that the node stands for, whose first leaf is the variable `base`.
pub record IsListedNode (basis : Basis) (base : ℕ) (node : Node) (made : List Draft) : Type 0 where
  pub drafts : HasDrafts (setting_on_basis basis) base 0 (stands_for node) (plain_drafts made)
  pub over : Every (HasTermsOf basis.data_.signature) made
