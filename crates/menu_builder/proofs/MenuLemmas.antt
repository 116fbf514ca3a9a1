-- The menu of a state, from the drafts of its node.
use Rattle.std.proofs.Common.{◌≡◌, ◌≤◌, ℕ, max, List, map, sym, subst, arith}
use Rattle.lotos_base.specs.Equation.{Data}
use Rattle.lotos_base.specs.Signature.{IsWellFormedSignature}
use Rattle.lotos_base.specs.Term.{Term}
use Rattle.lotos_base.specs.Canon.{IsCanon}
use Rattle.behaviour_semantics.specs.Draft.{above, above_processes}
use Rattle.behaviour_semantics.specs.DraftOrder.{IsInOrder}
use Rattle.behaviour_semantics.specs.Guardedness.{IsGuarded}
use Rattle.behaviour_semantics.specs.Listing.{AllSolveTo}
use Rattle.behaviour_semantics.specs.Menu.{Exact}
use Rattle.behaviour_semantics.specs.WellFormed.{Every}
use Rattle.behaviour_tree.specs.Closed.{IsClosedNode}
use Rattle.behaviour_tree.specs.DefinitionView.{specification_of}
use Rattle.behaviour_tree.specs.Over.{IsSpecOver, IsStateOf}
use Rattle.behaviour_tree.specs.StateView.{stands_for, state_of}
use Rattle.behaviour_tree.specs.declared.definitions.Spec.{Spec}
use Rattle.behaviour_tree.specs.declared.states.Node.{Node}
use Rattle.behaviour_tree.specs.declared.states.State.{State}
use Rattle.draft_parts.specs.HandedOn.{plain_entry, Draft, Entry, Menu, menu_entries}
use Rattle.draft_parts.specs.Lists.{plain_drafts}
use Rattle.menu_builder.specs.Placed.{menu_basis_of}
use Rattle.menu_builder.specs.NodeNumbers.{above_node}
use Rattle.menu_builder.specs.OpenMenus.{AreOpenDrafts, lowered_drafts}
use Rattle.menu_builder.proofs.MenuNumberLemmas.{stands_below}
use Rattle.menu_builder.proofs.OpenMenuLemmas.{open_menus}
use Rattle.menu_builder.specs.Menus.{entries_in}
use Rattle.menu_builder.specs.Nodes.{IsKnownNode, IsNodeOver, IsListedNode}

-- the node of a state is known
pub known_node : (data_ : Data) (spec : Spec) (state : State) (node : Node) → node ≡ state.node
    → IsStateOf data_.signature spec state → IsClosedNode state.node → IsKnownNode data_.signature spec node
known_node data_ spec state node is of_spec closed =
    subst (λ (n : Node). IsKnownNode data_.signature spec n) (sym is)
    (record { closed = of_spec.closed; terms = of_spec.terms; given = closed })

module _ (data_ : Data) (canon : Term → Term) (spec : Spec) (node : Node) where
  pub node_over : (least base : ℕ) → IsWellFormedSignature data_.signature → IsCanon data_ canon → IsSpecOver data_.signature spec
      → IsKnownNode data_.signature spec node → above_processes (specification_of spec).processes ≤ least
      → least ≤ base → above_node node ≤ base → IsNodeOver (menu_basis_of data_ canon spec) base node
  node_over least base signature is_canon over known low wide high = record {
    signature = signature;
    is_canon = is_canon;
    well_formed = over.well_formed;
    closed = known.closed;
    given = known.given;
    terms = known.terms;
    apart = (let both : max (above_processes (specification_of spec).processes) (above_node node) ≤ base = omega arith in both);
  }

  -- the drafts of the node are open drafts of what it stands for
  pub open_drafts : (base : ℕ) (drafts : List Draft) → IsNodeOver (menu_basis_of data_ canon spec) base node
      → IsGuarded (specification_of spec).processes → IsListedNode (menu_basis_of data_ canon spec) base node drafts
      → AreOpenDrafts data_ canon (specification_of spec) (stands_for node) base (plain_drafts drafts)
  open_drafts base drafts over guarded listed =
      let low : above (stands_for node) ≤ above_node node = stands_below node in
      let whole : max (above_processes (specification_of spec).processes) (above_node node) ≤ base = over.apart in
      let apart : max (above_processes (specification_of spec).processes) (above (stands_for node)) ≤ base = omega arith in
      record {
        over = record { signature = over.signature; is_canon = over.is_canon; well_formed = over.well_formed; closed = over.closed };
        guarded = guarded;
        apart = apart;
        listed = listed.drafts;
      }

  pub drafts_in_order : (base : ℕ) (drafts : List Draft)
      → AreOpenDrafts data_ canon (specification_of spec) (stands_for node) base (plain_drafts drafts)
      → Every (IsInOrder data_.signature) (lowered_drafts base (plain_drafts drafts))
  drafts_in_order base drafts h =
      open_menus.in_order data_ canon (specification_of spec) (stands_for node) base (plain_drafts drafts) h

  pub entries_exact : (base : ℕ) (drafts : List Draft) (made : List Entry)
      → AreOpenDrafts data_ canon (specification_of spec) (stands_for node) base (plain_drafts drafts)
      → AllSolveTo canon (lowered_drafts base (plain_drafts drafts)) (map plain_entry made)
      → Exact data_ canon (specification_of spec).processes (stands_for node) (map plain_entry made)
  entries_exact base drafts made h solved =
      open_menus.exact data_ canon (specification_of spec) (stands_for node) base (plain_drafts drafts) (map plain_entry made) h solved

-- the menu of a state has the entries of its node
pub menu_exact : (data_ : Data) (canon : Term → Term) (spec : Spec) (state : State) (node : Node) (made : List Entry) (menu : Menu)
    → node ≡ state.node → Exact data_ canon (specification_of spec).processes (stands_for node) (map plain_entry made)
    → (menu_entries menu) ≡ made → Exact data_ canon (specification_of spec).processes (state_of state) (entries_in menu)
menu_exact data_ canon spec state node made menu is exact e =
    subst (λ (n : Node). Exact data_ canon (specification_of spec).processes (stands_for n) (entries_in menu)) is
    (subst (λ (entries : List Entry). Exact data_ canon (specification_of spec).processes (stands_for node) (map plain_entry entries))
    (sym e) exact)
