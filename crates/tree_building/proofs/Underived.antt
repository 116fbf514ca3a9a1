-- The faults of a derivation are those of the reading: what the rows begin with is what the definition does.
use Rattle.std.proofs.Common.{◌≡◌, ◌∙◌, ℕ, ◌+◌, ◌<◌, ◌≤◌, List, All, map, take, refl, ap, sym, subst}
use Rattle.std.specs.Prelude.{◌↔◌, Result, Ok, Err, MatchResult, IfErr}
use Rattle.std.proofs.lemmas.List.Elements.{All-map}
use Rattle.std.proofs.lemmas.List.{length-map, take-map}
use Rattle.ll_engine.specs.Language.{ContextFree, IsSentence, IsViable, IsUnexpectedAt}
use Rattle.lotos_lexer.specs.declared.kinds.TheConstants.{COUNT}
use Rattle.lotos_lexer.specs.declared.tokens.Token.{Token}
use Rattle.lotos_lexer.specs.declared.tokens.LexFault.TheVariants as lexical
use Rattle.lotos_rows.specs.declared.starts.TheConstants as starts
use Rattle.lotos_rows.specs.Rows.{grammar_from}
use Rattle.lotos_rows.specs.Starts.{IsWrittenSpecification, AreItems, AreOrderItems, AreOptionalTerms}
use Rattle.tree_building.specs.Sentences.{kind_of}
use Rattle.tree_building.proofs.AllGiven.{rows_have}
use Rattle.tree_building.proofs.Viable.{rows_begin}
use Rattle.syntax_trees.specs.Depth.{TreeNode, nodes_of_specification, nodes_of_terms}
use Rattle.tree_building.specs.declared.fault.ReadFault.{ReadFault}
use Rattle.tree_building.specs.declared.fault.ReadFault.TheVariants.{TooLong, BadByte, OpenComment, Syntax, TooDeep, NoMemory}
use Rattle.tree_building.specs.declared.kind.TextKind.{TextKind}
use Rattle.tree_building.specs.declared.kind.TextKind.TheVariants.{Specification, Types, Order, Terms}
use Rattle.tree_building.specs.Blame.{BeginsSomeText, IsBlamed}
use Rattle.tree_building.specs.Derived.{IsUnderived, start_part_of}
use Rattle.tree_building.specs.Reading.{IsFault, IsFaultAs, nodes_of_items, nodes_of_order}

module _ {A : Type 0} (g : ContextFree) (one : List Token → A → Type 0)
    (begins : (tokens : List Token) → IsViable g (map kind_of tokens) ↔ BeginsSomeText one tokens)
    (has : (tokens : List Token) → IsSentence g (map kind_of tokens) ↔ ((found : A) × one tokens found)) where
  blamed : (tokens : List Token) (at : ℕ) → IsUnexpectedAt g (map kind_of tokens) at → IsBlamed one tokens at
  blamed tokens at unexpected = record {
    in_range = subst (λ it. at ≤ it) (length-map tokens kind_of) unexpected.in_range;
    begins_before = (begins (take at tokens)).0 (subst (IsViable g) (take-map kind_of at tokens) unexpected.viable_before);
    not_with =
        λ inside can.
        unexpected.not_viable_with (subst (λ it. at < it) (sym (length-map tokens kind_of)) inside)
        (subst (IsViable g) (sym (take-map kind_of (at + 1) tokens)) ((begins (take (at + 1) tokens)).1 can));
    no_text = λ found is. unexpected.no_sentence ((has tokens).1 (found, is));
  }

  faulty : (nodes : A → List TreeNode) (start number : ℕ) (text : List ℕ) (fault : ReadFault) → grammar_from start ≡ g →
      IsUnderived start number text fault → IsFault one nodes number text fault
  faulty nodes start number text TooLong e is = absurd is
  faulty nodes start number text (BadByte place) e is = is
  faulty nodes start number text (OpenComment place) e is = is
  faulty nodes start number text (Syntax place) e is = (
    is.0,
    is.1,
    record {
      cut_into = is.2.cut_into;
      blamed = blamed is.0 is.1 (subst (λ it. IsUnexpectedAt it (map kind_of is.0) is.1) e is.2.unexpected);
    },
    is.3,
  )
  faulty nodes start number text (TooDeep place) e is = absurd is
  faulty nodes start number text NoMemory e is = tt

pub underived : (kind : TextKind) (number : ℕ) (text : List ℕ) (fault : ReadFault) → IsUnderived (start_part_of kind) number text fault →
    IsFaultAs kind number text fault
underived Specification number text fault is =
    faulty (grammar_from starts.SPEC) (IsWrittenSpecification text) (rows_begin.specification text) (rows_have.specification text)
    nodes_of_specification starts.SPEC number text fault refl is
underived Types number text fault is =
    faulty (grammar_from starts.TYPETEXT) (AreItems text) (rows_begin.items text) (rows_have.items text) nodes_of_items starts.TYPETEXT
    number text fault refl is
underived Order number text fault is =
    faulty (grammar_from starts.ORDER) (AreOrderItems text) (rows_begin.order text) (rows_have.order text) nodes_of_order starts.ORDER
    number text fault refl is
underived Terms number text fault is =
    faulty (grammar_from starts.TERMS) (AreOptionalTerms text) (rows_begin.terms text) (rows_have.terms text) nodes_of_terms starts.TERMS
    number text fault refl is

-- the grammar has a token for each kind
tokens_of_grammar : (start : ℕ) → (grammar_from start).tokens ≡ COUNT
unfolding grammar_from
tokens_of_grammar start = refl

pub kinds_fit : (start : ℕ) (g : ContextFree) (kinds : List ℕ) (tokens : List Token) → g ≡ grammar_from start → kinds ≡ map kind_of tokens →
    All (λ token. token.kind < COUNT) tokens → All (λ kind. kind < g.tokens) kinds
kinds_fit start g kinds tokens e same all =
    subst (λ count. All (λ kind. kind < count) kinds) (sym (ap (λ it. it.tokens) e ∙ tokens_of_grammar start))
    (subst (All (λ kind. kind < COUNT)) (sym same) (All-map (λ kind. kind < COUNT) kind_of tokens all))

-- what holds of a fault holds of the answer's
pub of_fault : {T E : Type 0} (result : Result T E) (good : T → Type 0) (fault other : E → Type 0) → ((it : E) → fault it → other it) →
    MatchResult result good fault → IfErr result other
of_fault (Ok value) good fault other each is = tt
of_fault (Err it) good fault other each is = each it is
