-- The derivation of a text by the rows of the grammar, and the faults in place of it.
use Rattle.std.specs.Prelude.{◌≡◌, ℕ, List, map}
use Rattle.ll_engine.specs.Language.{IsLeftmostDerivation, IsUnexpectedAt}
use Rattle.lotos_lexer.specs.declared.tokens.Token.{Token}
use Rattle.lotos_lexer.specs.Tokens as lexed
use Rattle.lotos_lexer.specs.Tokens.{tokens_of}
use Rattle.lotos_rows.specs.declared.starts.TheConstants as starts
use Rattle.lotos_rows.specs.Rows.{grammar_from}
use Rattle.tree_building.specs.Sentences.{kind_of}
use Rattle.tree_building.specs.declared.kind.TextKind.{TextKind}
use Rattle.tree_building.specs.declared.kind.TextKind.TheVariants.{Specification, Types, Order, Terms}
use Rattle.tree_building.specs.declared.fault.ReadFault.{ReadFault}
use Rattle.tree_building.specs.declared.fault.ReadFault.TheVariants as fault
use Rattle.tree_building.specs.declared.derivations.Derived as declared
use Rattle.tree_building.specs.Blame.{blamed_place}

-- the part that derives the texts of a kind
abbrev pub start_part_of : TextKind → ℕ
start_part_of Specification = starts.SPEC
start_part_of Types = starts.TYPETEXT
start_part_of Order = starts.ORDER
start_part_of Terms = starts.TERMS

-- the text is cut into the tokens, which the rows derive
pub record IsDerived (start number : ℕ) (text : List ℕ) (derived : declared.Derived) : Type 0 where
  pub cut_into : tokens_of number text ≡ lexed.Tokens derived.tokens.items
  pub derivation : IsLeftmostDerivation (grammar_from start) derived.rows.items (map kind_of derived.tokens.items)

-- the text is cut into tokens, and the one at the place is to blame that they have no derivation
pub record IsSyntaxFault (start number : ℕ) (text : List ℕ) (tokens : List Token) (at : ℕ) : Type 0 where
  pub cut_into : tokens_of number text ≡ lexed.Tokens tokens
  pub unexpected : IsUnexpectedAt (grammar_from start) (map kind_of tokens) at

-- the fault is the one that the text has in place of a derivation
abbrev pub IsUnderived : ℕ → ℕ → List ℕ → ReadFault → Type 0
IsUnderived start number text fault.TooLong = ⊥
IsUnderived start number text (fault.BadByte place) = tokens_of number text ≡ lexed.BadByte place
IsUnderived start number text (fault.OpenComment place) = tokens_of number text ≡ lexed.OpenComment place
IsUnderived start number text (fault.Syntax place) =
    (tokens : List Token) × (at : ℕ) × IsSyntaxFault start number text tokens at × (place ≡ blamed_place number text tokens at)
IsUnderived start number text (fault.TooDeep place) = ⊥
IsUnderived start number text fault.NoMemory = Unit {0}
