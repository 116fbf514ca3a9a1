-- The value of a derivation: each row gives a value, from the values of its parts and from its token, if that is kept.
use Rattle.std.specs.Prelude.{ℕ, Bool, true, false, not, List, [], ◌∷◌, Option, Some, None, option_and_then, length, take, drop, slice_get}
use Rattle.std.specs.List.{list_all}
use Rattle.ll_engine.specs.declared.symbol.Symbol.{Symbol}
use Rattle.ll_engine.specs.declared.symbol.Symbol.TheVariants.{Token, Part}
use Rattle.ll_engine.specs.Derivation.{Forest, empty, leaf, node, leaves}

-- whether the symbol is a token of a kind that is kept
abbrev pub is_kept : (ℕ → Bool) → Symbol → Bool
is_kept keeps (Token t) = keeps t
is_kept keeps (Part p) = false

abbrev pub is_dropped : (ℕ → Bool) → Symbol → Bool
is_dropped keeps symbol = not (is_kept keeps symbol)

-- a right side has a kept token as its first symbol or none
abbrev pub kept_in_front : (ℕ → Bool) → List Symbol → Bool
kept_in_front keeps [] = true
kept_in_front keeps (symbol ∷ symbols) = list_all (is_dropped keeps) symbols

abbrev pub begins_kept : (ℕ → Bool) → List Symbol → Bool
begins_kept keeps [] = false
begins_kept keeps (symbol ∷ symbols) = is_kept keeps symbol

-- the first token, if it is kept
abbrev pub first_if : {T : Type 0} → Bool → List T → Option T
first_if true tokens = slice_get tokens 0
first_if false tokens = None

-- the token that a row with this right side takes, of the tokens that it derives
abbrev pub front_token : {T : Type 0} → (ℕ → Bool) → List Symbol → List T → Option T
front_token keeps right tokens = first_if (begins_kept keeps right) tokens

-- the same by the trees of the right side
abbrev pub tree_begins_kept : (ℕ → Bool) → Forest → Bool
tree_begins_kept keeps empty = false
tree_begins_kept keeps (leaf t rest) = keeps t
tree_begins_kept keeps (node r below rest) = false

abbrev pub in_front : {A : Type 0} → Option A → Option (List A) → Option (List A)
in_front value others = option_and_then (λ after. option_and_then (λ first. Some (first ∷ after)) value) others

-- the values of the trees' parts; these tokens are their leaves
abbrev pub folded_trees : {T A : Type 0} → (ℕ → Option T → List A → Option A) → (ℕ → Bool) → Forest → List T → Option (List A)
folded_trees value_of keeps empty tokens = Some []
folded_trees value_of keeps (leaf t rest) tokens = folded_trees value_of keeps rest (drop 1 tokens)
folded_trees value_of keeps (node r below rest) tokens =
    let own = take (length (leaves below)) tokens in
    in_front
    (option_and_then (value_of r (first_if (tree_begins_kept keeps below) own)) (folded_trees value_of keeps below own))
    (folded_trees value_of keeps rest (drop (length (leaves below)) tokens))

abbrev pub first_value : {A : Type 0} → List A → Option A
first_value values = slice_get values 0

-- the value of a tree that stands alone
abbrev pub value_of_tree : {T A : Type 0} → (ℕ → Option T → List A → Option A) → (ℕ → Bool) → Forest → List T → Option A
value_of_tree value_of keeps tree tokens = option_and_then first_value (folded_trees value_of keeps tree tokens)
