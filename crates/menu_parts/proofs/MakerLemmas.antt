-- What a maker of menus gives and keeps.
use Rattle.std.proofs.Common.{◌≡◌, ◌∙◌, Option, None, Some, map, refl, ap, sym, subst}
use Rattle.std.specs.Borrow.{Bor}
use Rattle.std.specs.Prelude.{IfSome}
use Rattle.std.specs.Option.{option_copied}
use Rattle.std.specs.declared.alloc.Global.{Global}
use Rattle.std.specs.declared.rc.Rc.{Rc}
use Rattle.lotos_base.specs.Equation.{Data}
use Rattle.lotos_base.specs.Term.{Term}
use Rattle.behaviour_semantics.specs.Behaviour.{Behaviour}
use Rattle.behaviour_semantics.specs.Solving as solving
use Rattle.behaviour_semantics.specs.WellFormed.{Every, IsClosedBehaviour}
use Rattle.behaviour_tree.specs.Closed.{IsClosedNode}
use Rattle.behaviour_tree.specs.DefinitionView.{specification_of}
use Rattle.behaviour_tree.specs.Over.{AreTermsOf, IsStateOf}
use Rattle.behaviour_tree.specs.StateView.{node_profiles, stands_for}
use Rattle.behaviour_tree.specs.declared.definitions.Spec.{Spec}
use Rattle.behaviour_tree.specs.declared.states.Node.{Node}
use Rattle.behaviour_tree.specs.declared.states.State.{State}
use Rattle.shared_entries.specs.HandedOn.{IsEntryOver, Menu, MenuPart, entries_in, menu_entries, part_entries, plain_entry}
use Rattle.shared_entries.specs.Items.{HasEntryTerms, plain_item}
use Rattle.step_taker.specs.Taken.{Ground, ground_of}
use Rattle.step_taker.specs.Walked.{IsPassableNode}
use Rattle.menu_parts.specs.Forms.{IsLawfulGround, IsExactOn}
use Rattle.menu_parts.specs.KeptMenus.{AreKeptBelow, IsKept, IsKeptFor}
use Rattle.menu_parts.specs.Spread.{AreEntriesOf, listed_for, part_for, spread_items}
use Rattle.menu_parts.specs.declared.kept.Kept.{Kept}
use Rattle.menu_parts.specs.declared.kept.Spread.{Spread}
use Rattle.menu_parts.proofs.KeptLemmas.{exact_for}
use Rattle.menu_parts.proofs.OverLemmas.{entries_over}
use Rattle.menu_parts.proofs.SpreadKept.{kept_part}

-- what is kept, borrowed
pub kept_borrowed : (basis : Ground) (o : Option (Bor (Rc Kept Global))) (kept : Option (Rc Kept Global)) → option_copied o ≡ kept
    → IfSome kept (λ (k : Rc Kept Global). IsKept basis k.value) → IfSome o (λ (k : Bor (Rc Kept Global)). IsKept basis k.now.value)
kept_borrowed basis None kept e h = tt
kept_borrowed basis (Some k) kept e h =
    subst (λ (o : Option (Rc Kept Global)). IfSome o (λ (k : Rc Kept Global). IsKept basis k.value)) (sym e) h

-- a copy of the node of a state
pub copied_node : (data_ : Data) (canon : Term → Term) (spec : Spec) (state : State) (given copied made : Node) → given ≡ state.node
    → stands_for copied ≡ stands_for given → node_profiles copied ≡ node_profiles given → (IsClosedNode given → IsClosedNode copied)
    → made ≡ copied → IsStateOf data_.signature spec state → IsClosedNode state.node → IsPassableNode (ground_of data_ canon spec) made
copied_node data_ canon spec state given copied made is same terms closed at over h = record {
  passable = record {
    closed = subst (λ (b : Behaviour). IsClosedBehaviour data_.signature (specification_of spec) b)
        (sym (ap stands_for at ∙ (same ∙ ap stands_for is))) over.closed;
    terms_of_signature = subst (AreTermsOf data_.signature) (sym (ap node_profiles at ∙ (terms ∙ ap node_profiles is))) over.terms;
  };
  states = subst (λ (n : Node). IsClosedNode n) (sym at) (closed (subst (λ (n : Node). IsClosedNode n) (sym is) h));
}

-- the entries of a menu that was made of what is kept
pub entries_kept : (basis : Ground) (node : Node) (kept given : Kept) (menu : Menu) → given ≡ kept → IsKeptFor basis node kept
    → ((basis : Ground) → IsKept basis given
    → AreEntriesOf basis.data_.signature (listed_for given).items.items (menu_entries menu))
    → AreEntriesOf basis.data_.signature (listed_for kept).items.items (menu_entries menu)
entries_kept basis node kept given menu e h all =
    subst (λ (k : Kept). AreEntriesOf basis.data_.signature (listed_for k).items.items (menu_entries menu)) e
    (all basis (subst (IsKept basis) (sym e) h.0))

-- the menu that shares what parts side by side have
pub sharing_kept : (basis : Ground) (kept : Kept) (s t : Spread) (part owned : MenuPart) (menu : Menu) → t ≡ s → part ≡ part_for t
    → part_entries owned ≡ part_entries part → menu_entries menu ≡ part_entries owned
    → AreKeptBelow basis (λ entries. entries) s
    → map plain_item (listed_for kept).items.items ≡ map plain_item (spread_items s)
    → AreEntriesOf basis.data_.signature (listed_for kept).items.items (menu_entries menu)
sharing_kept basis kept s t part owned menu at p o m below listed =
    let has = kept_part basis (λ entries. entries) s below in
    let all = m ∙ (o ∙ ap part_entries (p ∙ ap part_for at)) in
    record {
      same = ap (map plain_entry) all ∙ (has.same ∙ sym listed);
      terms = subst (Every (HasEntryTerms basis.data_.signature)) (sym all) has.terms;
    }

module _ (basis : Ground) (node : Node) (kept : Kept) (h : IsKeptFor basis node kept) (menu : Menu)
    (has : AreEntriesOf basis.data_.signature (listed_for kept).items.items (menu_entries menu)) where
  -- the menu at the root is the exact one of a state
  pub menu_exact : (b : Behaviour) → stands_for node ≡ b → IsExactOn basis b (entries_in menu)
  menu_exact b e =
      subst (IsExactOn basis b) (sym has.same)
      (subst (λ (x : Behaviour). IsExactOn basis x (map plain_item (listed_for kept).items.items)) e (exact_for basis node kept h))

  pub menu_over : IsLawfulGround basis → IsPassableNode basis node → Every (IsEntryOver basis.data_.signature) (menu_entries menu)
  menu_over base passable =
      entries_over basis (stands_for node) base passable.passable.closed (menu_entries menu) (menu_exact (stands_for node) refl)
      has.terms
