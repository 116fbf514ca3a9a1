-- What a derivation means is what the definition of the grammar says of its tokens.
use Rattle.std.proofs.Common.{◌≡◌, ◌∙◌, ℕ, List, [], ◌∷◌, map, ap, sym, subst}
use Rattle.std.specs.Prelude.{Option, Some, option_map, option_and_then}
use Rattle.ll_engine.specs.declared.symbol.Symbol.TheVariants.{Part}
use Rattle.ll_engine.specs.Derivation.{Production, Forest, DerivesSymbols, leaves}
use Rattle.ll_engine.specs.Language.{ContextFree, IsSentence, IsLeftmostDerivation}
use Rattle.ll_engine.proofs.Uniqueness.{one_tree}
use Rattle.ll_engine.specs.Fold.{first_value, value_of_tree}
use Rattle.lotos_lexer.specs.declared.tokens.Token.{Token}
use Rattle.lotos_rows.specs.declared.starts.TheConstants as starts
use Rattle.lotos_rows.specs.Kept.{is_kept_kind}
use Rattle.lotos_rows.specs.Rows.{grammar_from}
use Rattle.lotos_rows.specs.Starts.{IsWrittenSpecification, AreItems, AreOrderItems, AreOptionalTerms}
use Rattle.lotos_base.specs.WrittenTerm.{WrittenTerm, ListedOperation}
use Rattle.syntax_trees.specs.WrittenItem.{WrittenItem}
use Rattle.syntax_trees.specs.WrittenDefinition.{WrittenSpecification}
use Rattle.tree_building.specs.declared.value.Value.{Value}
use Rattle.tree_building.specs.MeaningView.{meaning}
use Rattle.tree_building.specs.Meaning.{Meaning, a_specification, some_items, some_order_items, some_terms}
use Rattle.tree_building.specs.RowMeaning.{numbered_row_means}
use Rattle.tree_building.specs.Sentences.{kind_of, Derived}
use Rattle.tree_building.proofs.AllGiven.{rows_have}
use Rattle.tree_building.proofs.DefinitionsCases.{all_sentences_derived}
use Rattle.tree_building.specs.LotosGrammar.{IsLotosGrammar}

-- the value of the tree of a derivation is the one meaning that its tokens have
pub value_is : (text : List ℕ) (g : ContextFree) → IsLotosGrammar g → (tokens : List Token) (tree : Forest) →
    DerivesSymbols g.rows tree (Part g.start ∷ []) → leaves tree ≡ map kind_of tokens → (found : Meaning)
    → Derived text g.start tokens found →
    value_of_tree (numbered_row_means text) is_kept_kind tree tokens ≡ Some found
value_is text g is tokens tree derives leaves_are found derived =
    let other : DerivesSymbols g.rows derived.0 (Part g.start ∷ []) =
    subst (λ (all : List Production). DerivesSymbols all derived.0 (Part g.start ∷ [])) (sym is.lotos_rows) derived.1 in
    let same : tree ≡ derived.0 =
    one_tree g is.well_formed is.predictive tree derived.0 derives other (leaves_are ∙ sym derived.2) in
    ap (λ (it : Forest). value_of_tree (numbered_row_means text) is_kept_kind it tokens) same ∙ ap (option_and_then first_value) derived.3

-- a sentence by the rows is a text of the definition, with the meaning that it has by the rows
specification_meant : (text : List ℕ) (tokens : List Token) → IsSentence (grammar_from starts.SPEC) (map kind_of tokens) →
    (found : WrittenSpecification) × IsWrittenSpecification text tokens found × Derived text starts.SPEC tokens (a_specification found)
specification_meant text tokens sentence =
    let it = (rows_have.specification text tokens).0 sentence in
    (it.0, it.1, all_sentences_derived.specification text tokens it.0 it.1)

items_meant : (text : List ℕ) (tokens : List Token) → IsSentence (grammar_from starts.TYPETEXT) (map kind_of tokens) →
    (found : List WrittenItem) × AreItems text tokens found × Derived text starts.TYPETEXT tokens (some_items found)
items_meant text tokens sentence =
    let it = (rows_have.items text tokens).0 sentence in
    (it.0, it.1, all_sentences_derived.items text tokens it.0 it.1)

order_meant : (text : List ℕ) (tokens : List Token) → IsSentence (grammar_from starts.ORDER) (map kind_of tokens) →
    (found : List ListedOperation) × AreOrderItems text tokens found × Derived text starts.ORDER tokens (some_order_items found)
order_meant text tokens sentence =
    let it = (rows_have.order text tokens).0 sentence in
    (it.0, it.1, all_sentences_derived.order text tokens it.0 it.1)

terms_meant : (text : List ℕ) (tokens : List Token) → IsSentence (grammar_from starts.TERMS) (map kind_of tokens) →
    (found : List WrittenTerm) × AreOptionalTerms text tokens found × Derived text starts.TERMS tokens (some_terms found)
terms_meant text tokens sentence =
    let it = (rows_have.terms text tokens).0 sentence in
    (it.0, it.1, all_sentences_derived.terms text tokens it.0 it.1)

-- the tokens are something, and what was built means it
pub record Given {A : Type 0} (one : A → Type 0) (shape : A → Meaning) (built : Option Value) : Type 0 where
  pub found : A
  pub is : one found
  pub means : option_map meaning built ≡ Some (shape found)

-- what was built means all that the tokens have by a derivation, so it means what they are
given : {A : Type 0} (start : ℕ) (one : A → Type 0) (shape : A → Meaning) (text : List ℕ) (tokens : List Token) (g : ContextFree)
    (built : Option Value) →
    g ≡ grammar_from start → ((found : A) × one found × Derived text start tokens (shape found)) →
    ((found : Meaning) → Derived text g.start tokens found → option_map meaning built ≡ Some found) → Given one shape built
unfolding grammar_from
given start one shape text tokens g built is meant means =
    let there = subst (λ (p : ℕ). Derived text p tokens (shape meant.0)) (sym (ap (λ (h : ContextFree). h.start) is)) meant.2 in
    record { found = meant.0; is = meant.1; means = means (shape meant.0) there }

pub specification_given : (text : List ℕ) (tokens : List Token) (rows : List ℕ) (g : ContextFree) (built : Option Value) →
    g ≡ grammar_from starts.SPEC → IsLeftmostDerivation (grammar_from starts.SPEC) rows (map kind_of tokens) →
    ((found : Meaning) → Derived text g.start tokens found → option_map meaning built ≡ Some found) →
    Given (IsWrittenSpecification text tokens) a_specification built
specification_given text tokens rows g built is derivation means =
    given starts.SPEC (IsWrittenSpecification text tokens) a_specification text tokens g built is
    (specification_meant text tokens (derivation.0, derivation.1, derivation.2)) means

pub items_given : (text : List ℕ) (tokens : List Token) (rows : List ℕ) (g : ContextFree) (built : Option Value) →
    g ≡ grammar_from starts.TYPETEXT → IsLeftmostDerivation (grammar_from starts.TYPETEXT) rows (map kind_of tokens) →
    ((found : Meaning) → Derived text g.start tokens found → option_map meaning built ≡ Some found) →
    Given (AreItems text tokens) some_items built
items_given text tokens rows g built is derivation means =
    given starts.TYPETEXT (AreItems text tokens) some_items text tokens g built is
    (items_meant text tokens (derivation.0, derivation.1, derivation.2)) means

pub order_given : (text : List ℕ) (tokens : List Token) (rows : List ℕ) (g : ContextFree) (built : Option Value) →
    g ≡ grammar_from starts.ORDER → IsLeftmostDerivation (grammar_from starts.ORDER) rows (map kind_of tokens) →
    ((found : Meaning) → Derived text g.start tokens found → option_map meaning built ≡ Some found) →
    Given (AreOrderItems text tokens) some_order_items built
order_given text tokens rows g built is derivation means =
    given starts.ORDER (AreOrderItems text tokens) some_order_items text tokens g built is
    (order_meant text tokens (derivation.0, derivation.1, derivation.2)) means

pub terms_given : (text : List ℕ) (tokens : List Token) (rows : List ℕ) (g : ContextFree) (built : Option Value) →
    g ≡ grammar_from starts.TERMS → IsLeftmostDerivation (grammar_from starts.TERMS) rows (map kind_of tokens) →
    ((found : Meaning) → Derived text g.start tokens found → option_map meaning built ≡ Some found) →
    Given (AreOptionalTerms text tokens) some_terms built
terms_given text tokens rows g built is derivation means =
    given starts.TERMS (AreOptionalTerms text tokens) some_terms text tokens g built is
    (terms_meant text tokens (derivation.0, derivation.1, derivation.2)) means
