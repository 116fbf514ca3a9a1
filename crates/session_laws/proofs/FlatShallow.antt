-- The text of a flat specification is nested no deeper than texts may be, where the text that it comes of was read.
use Rattle.std.proofs.Common.{ℕ, ◌+◌, ◌≤◌, List, [], ◌∷◌, ◌++◌, map, flat_map, refl, sym, subst, arith}
use Rattle.lotos_base.specs.Equation.{Variable, Equation, Data}
use Rattle.lotos_base.specs.Signature.{Signature, Sort}
use Rattle.lotos_base.specs.Term.{Term}
use Rattle.lotos_base.specs.WrittenTerm.{WrittenTerm}
use Rattle.syntax_trees.specs.Depth.{nodes_of_term, nodes_of_premiss, nodes_of_equation, nodes_of_equations, nodes_of_type_body, nodes_of_item, behaviour_nodes, nodes_of_inner, nodes_of_inners, nodes_of_specification}
use Rattle.syntax_trees.specs.TakenItems.{items_of_inner, items_of_inners, items_of_specification, process_then, processes_of, without_items}
use Rattle.syntax_trees.proofs.TakingItems.{listed-again}
use Rattle.syntax_trees.specs.WrittenEquation.{WrittenPremiss, WrittenEquation, WrittenGroup}
use Rattle.syntax_trees.specs.WrittenItem.{WrittenTypeBody, extends, renames, actualises, WrittenItem, libraries, type_declared}
use Rattle.syntax_trees.specs.WrittenDefinition.{WrittenInner, WrittenInners, inner_item, process, no_inner, inner_then, inners_of, WrittenSpecification}
use Rattle.tree_building.specs.Reading.{node_limit, IsTypesReading}
use Rattle.behaviour_semantics.specs.Behaviour.{Specification}
use Rattle.behaviour_semantics.specs.WellFormed.{Every}
use Rattle.behaviour_semantics.proofs.ListLemmas.{Every-append}
use Rattle.type_definitions.specs.DeclaredTypes.{types_of}
use Rattle.flat_text.specs.EquationNames.{renamed_variables}
use Rattle.session_laws.specs.WrittenAs.{IsWrittenAs}
use Rattle.session_laws.specs.TermDepth.{term_depth}
use Rattle.session_laws.specs.WrittenBehaviours.{Correspond}
use Rattle.session_laws.specs.DepthLaws.{nodes_of_definitions}
use Rattle.session_laws.specs.WrittenData.{IsGroupWritten, IsEquationWritten, IsBodyWritten, AreItemsWritten, AreDataWritten}
use Rattle.session_laws.proofs.DepthLemmas.{IsShallow, shallow_joined, term_shallow}
use Rattle.session_laws.proofs.TermReadDepths.{shallow_parts}
use Rattle.lotos_top.specs.HandedOn.{Becomes, nothing_yet, item}
use Rattle.session_laws.proofs.AcceptedNames.{gathered_there}
use Rattle.session_laws.proofs.AcceptedParts.{StandsOn}
use Rattle.session_laws.proofs.EquationDepths.{EquationFits, TypeFits, data_fit}
use Rattle.session_laws.proofs.GatheredItems.{all_have}

module _ (limit : ℕ) where
  -- ---- Items that are no deeper than the limit

  abbrev ItemFits : WrittenItem → Type 0
  ItemFits it = IsShallow limit (nodes_of_item it)

  items_fit : (items : List WrittenItem) → IsShallow limit (flat_map nodes_of_item items) → Every ItemFits items
  items_fit [] shallow = tt
  items_fit (it ∷ items) shallow =
      let parts = shallow_parts limit (nodes_of_item it) (flat_map nodes_of_item items) shallow in
      (parts.0, items_fit items parts.1)

  mutual
    inner_items_fit : (inner : WrittenInner) → IsShallow limit (nodes_of_inner inner) → Every ItemFits (items_of_inner inner)
    inner_items_fit (inner_item it) shallow = (shallow, tt)
    inner_items_fit (process heading body inner) shallow =
        inners_items_fit inner (shallow_parts limit (behaviour_nodes 1 body) (nodes_of_inners inner) shallow).1

    inners_items_fit : (inners : WrittenInners) → IsShallow limit (nodes_of_inners inners) → Every ItemFits (items_of_inners inners)
    inners_items_fit no_inner shallow = tt
    inners_items_fit (inner_then first others) shallow =
        let parts = shallow_parts limit (nodes_of_inner first) (nodes_of_inners others) shallow in
        Every-append ItemFits (items_of_inner first) (items_of_inners others) (inner_items_fit first parts.0)
        (inners_items_fit others parts.1)

  types_fit : (items : List WrittenItem) → Every ItemFits items → Every (TypeFits limit) (types_of items)
  types_fit [] all = tt
  types_fit (libraries place names ∷ items) all = types_fit items all.1
  types_fit (type_declared place name body ∷ items) all = (all.0, types_fit items all.1)

  -- ---- The types taken out

  mutual
    first_left : (first : WrittenInner) (others : WrittenInners) → IsShallow limit (nodes_of_inner first)
        → IsShallow limit (nodes_of_inners others) → IsShallow limit (nodes_of_inners (process_then first others))
    first_left (inner_item it) others shallow rest = rest
    first_left (process heading body inner) others shallow rest =
        let parts = shallow_parts limit (behaviour_nodes 1 body) (nodes_of_inners inner) shallow in
        shallow_joined limit (behaviour_nodes 1 body ++ nodes_of_inners (processes_of inner)) (nodes_of_inners others)
        (shallow_joined limit (behaviour_nodes 1 body) (nodes_of_inners (processes_of inner)) parts.0 (inners_left inner parts.1)) rest

    inners_left : (inners : WrittenInners) → IsShallow limit (nodes_of_inners inners)
        → IsShallow limit (nodes_of_inners (processes_of inners))
    inners_left no_inner shallow = refl
    inners_left (inner_then first others) shallow =
        let parts = shallow_parts limit (nodes_of_inner first) (nodes_of_inners others) shallow in
        first_left first (processes_of others) parts.0 (inners_left others parts.1)

  pub definitions_left : (tree : WrittenSpecification) → IsShallow limit (nodes_of_specification tree)
      → IsShallow limit (nodes_of_definitions (without_items tree))
  definitions_left tree shallow =
      let inners : WrittenInners = inners_of tree.inner in
      let behind = shallow_parts limit (flat_map nodes_of_item tree.items) (behaviour_nodes 1 tree.body ++ nodes_of_inners inners) shallow
      in
      let parts = shallow_parts limit (behaviour_nodes 1 tree.body) (nodes_of_inners inners) behind.1 in
      shallow_joined limit (behaviour_nodes 1 tree.body) (nodes_of_inners (inners_of (without_items tree).inner)) parts.0
      (subst (λ (ws : WrittenInners). IsShallow limit (nodes_of_inners ws)) (sym (listed-again (processes_of inners)))
      (inners_left inners parts.1))

  tree_items_fit : (tree : WrittenSpecification) → IsShallow limit (nodes_of_specification tree)
      → Every ItemFits (items_of_specification tree)
  tree_items_fit tree shallow =
      let inners : WrittenInners = inners_of tree.inner in
      let behind = shallow_parts limit (flat_map nodes_of_item tree.items) (behaviour_nodes 1 tree.body ++ nodes_of_inners inners) shallow
      in
      Every-append ItemFits tree.items (items_of_inners inners) (items_fit tree.items behind.0)
      (inners_items_fit inners (shallow_parts limit (behaviour_nodes 1 tree.body) (nodes_of_inners inners) behind.1).1)

  -- ---- Data that are written

  module _ (signature : Signature) where
    side_stands : (names : List Variable) (t : Term) (w : WrittenTerm) → IsWrittenAs signature names t w → term_depth t ≤ limit
        → IsShallow limit (nodes_of_term w)
    side_stands names t w writes fits = term_shallow signature names limit t 1 w writes (omega (arith, fits))

    equation_stands : (e : Equation) (w : WrittenEquation) → IsEquationWritten signature (renamed_variables signature e) e w
        → EquationFits limit e → IsShallow limit (nodes_of_equation w)
    equation_stands e w writes fits =
        let names : List Variable = renamed_variables signature e in
        subst
        (λ (ps : List WrittenPremiss). IsShallow limit (flat_map nodes_of_premiss ps ++ (nodes_of_term w.left ++ nodes_of_term w.right)))
        (sym writes.premisses)
        (shallow_joined limit (nodes_of_term w.left) (nodes_of_term w.right)
        (side_stands names e.left w.left writes.left fits.left)
        (side_stands names e.right w.right writes.right fits.right))

    group_stands : (e : Equation) (group : WrittenGroup) → IsGroupWritten signature e group → EquationFits limit e
        → IsShallow limit (flat_map nodes_of_equation group.equations)
    group_stands e group writes fits =
        subst (λ (ws : List WrittenEquation). IsShallow limit (flat_map nodes_of_equation ws)) (sym writes.alone)
        (shallow_joined limit (nodes_of_equation writes.one) [] (equation_stands e writes.one writes.is_written fits) refl)

    groups_stand : (es : List Equation) (groups : List WrittenGroup) → Correspond (IsGroupWritten signature) es groups
        → Every (EquationFits limit) es
        → IsShallow limit (flat_map (λ (group : WrittenGroup). flat_map nodes_of_equation group.equations) groups)
    groups_stand [] [] writes fits = refl
    groups_stand [] (group ∷ groups) writes fits = absurd writes
    groups_stand (e ∷ es) [] writes fits = absurd writes
    groups_stand (e ∷ es) (group ∷ groups) writes fits =
        shallow_joined limit (flat_map nodes_of_equation group.equations)
        (flat_map (λ (g : WrittenGroup). flat_map nodes_of_equation g.equations) groups)
        (group_stands e group writes.0 fits.0) (groups_stand es groups writes.1 fits.1)

  body_stands : (data_ : Data) (body : WrittenTypeBody) → IsBodyWritten data_ body → Every (EquationFits limit) data_.equations
      → IsShallow limit (nodes_of_type_body body)
  body_stands data_ (extends imports sections) writes fits =
      shallow_joined limit (nodes_of_equations sections.formal_equations) (nodes_of_equations sections.equations)
      (subst
      (λ (groups : List WrittenGroup).
      IsShallow limit (flat_map (λ (group : WrittenGroup). flat_map nodes_of_equation group.equations) groups))
      (sym writes.1.formal_groups) refl)
      (groups_stand data_.signature data_.equations sections.equations.groups writes.1.groups fits)
  body_stands data_ (renames base pairs) writes fits = absurd writes
  body_stands data_ (actualises base actuals pairs) writes fits = absurd writes

  by_sorts : (data_ : Data) (sorts : List Sort) (items : List WrittenItem) → AreItemsWritten data_ sorts items
      → Every (EquationFits limit) data_.equations → IsShallow limit (flat_map nodes_of_item items)
  by_sorts data_ [] [] writes fits = refl
  by_sorts data_ [] (it ∷ items) writes fits = absurd writes
  by_sorts data_ (s ∷ ss) [] writes fits = absurd writes
  by_sorts data_ (s ∷ ss) (libraries place names ∷ items) writes fits = absurd writes
  by_sorts data_ (s ∷ ss) (type_declared place name body ∷ it ∷ items) writes fits = absurd writes
  by_sorts data_ (s ∷ ss) (type_declared place name body ∷ []) writes fits =
      shallow_joined limit (nodes_of_type_body body) [] (body_stands data_ body writes.1 fits) refl

  pub items_stand : (data_ : Data) (items : List WrittenItem) → AreDataWritten data_ items → Every (EquationFits limit) data_.equations
      → IsShallow limit (flat_map nodes_of_item items)
  items_stand data_ items writes fits = by_sorts data_ data_.signature.sorts items writes fits

-- ---- What was accepted

library_fits : (number : ℕ) (text : List ℕ) (items : List WrittenItem) → IsTypesReading number text items
    → Every (ItemFits node_limit) items
library_fits number text items is = items_fit node_limit items is.1.shallow

-- the equations of accepted data are no deeper than texts may be
pub equations_fit : (data_ : Data) (spec : Specification) → StandsOn data_ spec → Every (EquationFits node_limit) data_.equations
equations_fit data_ spec on =
    data_fit node_limit (types_of on.gathered.types) data_
    (types_fit node_limit on.gathered.types
    (all_have (ItemFits node_limit) library_fits (items_of_specification on.tree) on.files on.gathered
    (tree_items_fit node_limit on.tree on.is_text.1.shallow)
    (subst (Becomes nothing_yet (map item (items_of_specification on.tree)) on.files)
    (gathered_there on.gathered on.gathers.0 on.gathers.2) on.gathers.1)))
    on.has_data.1
