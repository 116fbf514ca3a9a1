-- What a text of each kind reads as, and the fault of a text that is not read.
use Rattle.std.specs.Prelude.{◌≡◌, ℕ, ◌<◌, ◌≤◌, List, [], flat_map, Some, None, length}
use Rattle.lotos_base.specs.Limits.{text_limit}
use Rattle.lotos_base.specs.WrittenTerm.{WrittenTerm, ListedOperation}
use Rattle.lotos_base.specs.WrittenView.{text_place_of}
use Rattle.lotos_lexer.specs.declared.tokens.Token.{Token}
use Rattle.lotos_lexer.specs.Tokens as lexed
use Rattle.lotos_lexer.specs.Tokens.{tokens_of}
use Rattle.lotos_rows.specs.Starts.{IsWrittenSpecification, AreItems, AreOrderItems, AreOptionalTerms}
use Rattle.syntax_trees.specs.WrittenItem.{WrittenItem}
use Rattle.syntax_trees.specs.WrittenDefinition.{WrittenSpecification}
use Rattle.syntax_trees.specs.Depth.{TreeNode, first_deeper, nodes_of_item, nodes_of_specification, nodes_of_terms}
use Rattle.tree_building.specs.declared.fault.ReadFault.{ReadFault}
use Rattle.tree_building.specs.declared.fault.ReadFault.TheVariants as cause
use Rattle.tree_building.specs.declared.kind.TextKind.{TextKind}
use Rattle.tree_building.specs.declared.kind.TextKind.TheVariants.{Specification, Types, Order, Terms}
use Rattle.tree_building.specs.Blame.{IsBlamed, blamed_place}

-- a node of a behaviour or of a term stands at this depth at most; the root is at 1
abbrev pub node_limit : ℕ
node_limit = 500

-- The text is cut into tokens, which are the tree, and no node of the tree is too deep. `one` says which tokens are which
-- tree, and `nodes` has the nodes of a tree in text order.
pub record IsRead {A : Type 0} (one : List Token → A → Type 0) (nodes : A → List TreeNode) (number : ℕ) (text : List ℕ) (tree : A)
    : Type 0 where
  pub tokens : List Token
  pub cut_into : tokens_of number text ≡ lexed.Tokens tokens
  pub sentence : one tokens tree
  pub shallow : first_deeper node_limit (nodes tree) ≡ None

-- the text is cut into the tokens, which are no text of the kind, and the one at the place is to blame
pub record IsUnfit {A : Type 0} (one : List Token → A → Type 0) (number : ℕ) (text : List ℕ) (tokens : List Token) (at : ℕ) : Type 0 where
  pub cut_into : tokens_of number text ≡ lexed.Tokens tokens
  pub blamed : IsBlamed one tokens at

-- The fault of a text without a limit on its bytes: a lexical one; that its tokens are no text of the kind, at the first
-- one with which they stop being a beginning of one; or the first node that is too deep. Want of memory may come with any.
abbrev pub IsFault : {A : Type 0} → (List Token → A → Type 0) → (A → List TreeNode) → ℕ → List ℕ → ReadFault → Type 0
IsFault one nodes number text cause.TooLong = ⊥
IsFault one nodes number text (cause.BadByte place) = tokens_of number text ≡ lexed.BadByte place
IsFault one nodes number text (cause.OpenComment place) = tokens_of number text ≡ lexed.OpenComment place
IsFault one nodes number text (cause.Syntax place) =
    (tokens : List Token) × (at : ℕ) × IsUnfit one number text tokens at × (place ≡ blamed_place number text tokens at)
IsFault {A} one nodes number text (cause.TooDeep place) =
    (tokens : List Token) × (tree : A) × (tokens_of number text ≡ lexed.Tokens tokens) × one tokens tree
    × (first_deeper node_limit (nodes tree) ≡ Some (text_place_of place))
IsFault one nodes number text cause.NoMemory = Unit {0}

-- the same of a text that may have so many bytes and no more
abbrev pub IsReadWithin : {A : Type 0} → ℕ → (List Token → A → Type 0) → (A → List TreeNode) → ℕ → List ℕ → A → Type 0
IsReadWithin limit one nodes number text tree = (length text ≤ limit) × IsRead one nodes number text tree

abbrev pub IsFaultWithin : {A : Type 0} → ℕ → (List Token → A → Type 0) → (A → List TreeNode) → ℕ → List ℕ → ReadFault → Type 0
IsFaultWithin limit one nodes number text cause.TooLong = limit < length text
IsFaultWithin limit one nodes number text (cause.BadByte place) =
    (length text ≤ limit) × IsFault one nodes number text (cause.BadByte place)
IsFaultWithin limit one nodes number text (cause.OpenComment place) =
    (length text ≤ limit) × IsFault one nodes number text (cause.OpenComment place)
IsFaultWithin limit one nodes number text (cause.Syntax place) = (length text ≤ limit) × IsFault one nodes number text (cause.Syntax place)
IsFaultWithin limit one nodes number text (cause.TooDeep place) =
    (length text ≤ limit) × IsFault one nodes number text (cause.TooDeep place)
IsFaultWithin limit one nodes number text cause.NoMemory = Unit {0}

-- specifications
abbrev pub IsSpecificationReading : ℕ → List ℕ → WrittenSpecification → Type 0
IsSpecificationReading number text tree = IsReadWithin text_limit (IsWrittenSpecification text) nodes_of_specification number text tree

abbrev pub IsSpecificationFault : ℕ → List ℕ → ReadFault → Type 0
IsSpecificationFault number text fault = IsFaultWithin text_limit (IsWrittenSpecification text) nodes_of_specification number text fault

-- the items of libraries
abbrev pub nodes_of_items : List WrittenItem → List TreeNode
nodes_of_items items = flat_map nodes_of_item items

abbrev pub IsTypesReading : ℕ → List ℕ → List WrittenItem → Type 0
IsTypesReading number text items = IsReadWithin text_limit (AreItems text) nodes_of_items number text items

abbrev pub IsTypesFault : ℕ → List ℕ → ReadFault → Type 0
IsTypesFault number text fault = IsFaultWithin text_limit (AreItems text) nodes_of_items number text fault

-- order files, in which there is no node
abbrev pub nodes_of_order : List ListedOperation → List TreeNode
nodes_of_order items = []

abbrev pub IsOrderReading : ℕ → List ℕ → List ListedOperation → Type 0
IsOrderReading number text items = IsReadWithin text_limit (AreOrderItems text) nodes_of_order number text items

abbrev pub IsOrderReadFault : ℕ → List ℕ → ReadFault → Type 0
IsOrderReadFault number text fault = IsFaultWithin text_limit (AreOrderItems text) nodes_of_order number text fault

-- lists of terms, which have no limit on bytes
abbrev pub IsTermsReading : ℕ → List ℕ → List WrittenTerm → Type 0
IsTermsReading number text terms = IsRead (AreOptionalTerms text) nodes_of_terms number text terms

abbrev pub IsTermsFault : ℕ → List ℕ → ReadFault → Type 0
IsTermsFault number text fault = IsFault (AreOptionalTerms text) nodes_of_terms number text fault

-- the fault of a text without a limit, by its kind
abbrev pub IsFaultAs : TextKind → ℕ → List ℕ → ReadFault → Type 0
IsFaultAs Specification number text fault = IsFault (IsWrittenSpecification text) nodes_of_specification number text fault
IsFaultAs Types number text fault = IsFault (AreItems text) nodes_of_items number text fault
IsFaultAs Order number text fault = IsFault (AreOrderItems text) nodes_of_order number text fault
IsFaultAs Terms number text fault = IsFault (AreOptionalTerms text) nodes_of_terms number text fault
