-- What the definition of renamings says is derived by their rows.
use Rattle.std.proofs.Common.{ℕ, List, [], ◌∷◌, ◌++◌, refl, sym, subst, append_assoc}
use Rattle.std.proofs.lemmas.List.{append-nil}
use Rattle.lotos_lexer.specs.declared.tokens.Token.{Token}
use Rattle.lotos_lexer.specs.declared.kinds.TheConstants as kind
use Rattle.lotos_rows.specs.declared.renamings.TheConstants as renamings
use Rattle.syntax_trees.specs.WrittenItem.{WrittenPair, WrittenPairs}
use Rattle.lotos_rows.specs.Words.{Optional, left_out, there, Loosely, last_loose, with_separator, without_separator, Behind, behind}
use Rattle.lotos_rows.specs.Renamings.{pair_of_names, IsSortPair, IsOperationPair, AreRenames}
use Rattle.lotos_rows.specs.Renamings as family
use Rattle.tree_building.specs.Meaning.{Meaning, some_pairs, both_pairs}
use Rattle.tree_building.specs.Sentences.{Derived}
use Rattle.tree_building.proofs.NamesDerived.{by_name}
use Rattle.tree_building.proofs.NamesCases.{operation_derived}
use Rattle.tree_building.proofs.RenamingsDerived.{by_renames, by_no_sort_renames, by_sort_renames, by_sort_pairs, by_no_more_sort_pairs, by_more_sort_pairs_after_comma, by_more_sort_pairs, by_no_operation_renames, by_operation_renames, by_operation_pairs, by_no_more_operation_pairs, by_more_operation_pairs_after_comma, by_more_operation_pairs}

module _ (text : List ℕ) where
  abbrev D : ℕ → List Token → Meaning → Type 0
  D = Derived text

  sort_pair_before : {own tokens : List Token} {pair : WrittenPair} {more : List WrittenPair} → IsSortPair text own pair →
      D renamings.MORE_SORT_PAIRS tokens (some_pairs more) →
      D renamings.SORT_PAIRS (own ++ tokens) (some_pairs (pair ∷ more))
  sort_pair_before (family.sort_for given word replaced) more =
      by_sort_pairs text (by_name text given refl) word (by_name text replaced refl) more refl

  sort_pairs_derived : {tokens : List Token} {pairs : List WrittenPair} → Loosely kind.COMMA (IsSortPair text) tokens pairs →
      D renamings.SORT_PAIRS tokens (some_pairs pairs)
  sort_pairs_derived (last_loose {tokens = own} {value = pair} it) =
      subst (λ (l : List Token). D renamings.SORT_PAIRS l (some_pairs (pair ∷ []))) (append-nil own)
      (sort_pair_before it (by_no_more_sort_pairs text refl))
  sort_pairs_derived (with_separator it comma more) =
      sort_pair_before it (by_more_sort_pairs_after_comma text comma (sort_pairs_derived more) refl)
  sort_pairs_derived (without_separator it more) = sort_pair_before it (by_more_sort_pairs text (sort_pairs_derived more) refl)

  operation_pair_before : {own tokens : List Token} {pair : WrittenPair} {more : List WrittenPair} → IsOperationPair text own pair →
      D renamings.MORE_OPERATION_PAIRS tokens (some_pairs more) →
      D renamings.OPERATION_PAIRS (own ++ tokens) (some_pairs (pair ∷ more))
  operation_pair_before {tokens = tokens} {more = others}
      (family.operation_for {tokens = own} {rest = rest} {word = for_word} {given = new} {replaced = old} given word replaced) more =
      subst (λ (l : List Token). D renamings.OPERATION_PAIRS l (some_pairs (pair_of_names new.name old.name ∷ others)))
      (sym (append_assoc own (for_word ∷ rest) tokens))
      (by_operation_pairs text (operation_derived text given) word (operation_derived text replaced) more refl)

  operation_pairs_derived : {tokens : List Token} {pairs : List WrittenPair} → Loosely kind.COMMA (IsOperationPair text) tokens pairs →
      D renamings.OPERATION_PAIRS tokens (some_pairs pairs)
  operation_pairs_derived (last_loose {tokens = own} {value = pair} it) =
      subst (λ (l : List Token). D renamings.OPERATION_PAIRS l (some_pairs (pair ∷ []))) (append-nil own)
      (operation_pair_before it (by_no_more_operation_pairs text refl))
  operation_pairs_derived (with_separator it comma more) =
      operation_pair_before it (by_more_operation_pairs_after_comma text comma (operation_pairs_derived more) refl)
  operation_pairs_derived (without_separator it more) =
      operation_pair_before it (by_more_operation_pairs text (operation_pairs_derived more) refl)

  sorts_renamed : {tokens : List Token} {pairs : List WrittenPair} →
      Optional [] (Behind kind.SORTNAMES (Loosely kind.COMMA (IsSortPair text))) tokens pairs →
      D renamings.SORT_RENAMES tokens (some_pairs pairs)
  sorts_renamed left_out = by_no_sort_renames text refl
  sorts_renamed (there (behind word pairs)) = by_sort_renames text word (sort_pairs_derived pairs) refl

  operations_renamed : {tokens : List Token} {pairs : List WrittenPair} →
      Optional [] (Behind kind.OPNNAMES (Loosely kind.COMMA (IsOperationPair text))) tokens pairs →
      D renamings.OPERATION_RENAMES tokens (some_pairs pairs)
  operations_renamed left_out = by_no_operation_renames text refl
  operations_renamed (there (behind word pairs)) = by_operation_renames text word (operation_pairs_derived pairs) refl

  pub renames_derived : {tokens : List Token} {pairs : WrittenPairs} → AreRenames text tokens pairs →
      D renamings.RENAMES tokens (both_pairs pairs)
  renames_derived (family.renames sorts operations) = by_renames text (sorts_renamed sorts) (operations_renamed operations) refl
