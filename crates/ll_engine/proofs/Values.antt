-- Having a value is the least relation that the rows keep.
use Rattle.std.proofs.Common.{◌≡◌, ◌∙◌, ℕ, Bool, List, [], ◌∷◌, ◌++◌, length, map, take, drop, refl, ap, sym, subst}
use Rattle.std.specs.Prelude.{Option, Some, option_and_then, slice_get}
use Rattle.std.proofs.lemmas.List.{append-nil, length-map, map-append}
use Rattle.std.proofs.lemmas.Option.{option_and_then_some}
use Rattle.ll_engine.specs.declared.symbol.Symbol.{Symbol}
use Rattle.ll_engine.specs.declared.symbol.Symbol.TheVariants.{Token, Part}
use Rattle.ll_engine.specs.Derivation.{Production, Forest, empty, leaf, node, DerivesSymbols, leaves}
use Rattle.ll_engine.specs.Fold.{begins_kept, first_if, tree_begins_kept, in_front, folded_trees}
use Rattle.ll_engine.specs.Values.{StandForTokens, nothing, token, part, KeepsValues, HasValue}
use Rattle.ll_engine.proofs.Folding.{append_parts, halves, no_tokens}

-- a right side and its trees begin alike
pub begin_alike : (keeps : ℕ → Bool) (rows : List Production) (trees : Forest) (symbols : List Symbol) → DerivesSymbols rows trees symbols
    → tree_begins_kept keeps trees ≡ begins_kept keeps symbols
begin_alike keeps rows empty [] d = refl
begin_alike keeps rows empty (symbol ∷ symbols) d = absurd d
begin_alike keeps rows (leaf t rest) [] d = absurd d
begin_alike keeps rows (leaf t rest) (Token u ∷ symbols) d = ap keeps d.0
begin_alike keeps rows (leaf t rest) (Part p ∷ symbols) d = absurd d
begin_alike keeps rows (node r below rest) [] d = absurd d
begin_alike keeps rows (node r below rest) (Token u ∷ symbols) d = absurd d
begin_alike keeps rows (node r below rest) (Part p ∷ symbols) d = refl

module _ {T A : Type 0} (value_of : ℕ → Option T → List A → Option A) (keeps : ℕ → Bool) (kind : T → ℕ) (rows : List Production) where
  module _ (has : ℕ → List T → A → Type 0) (kept : KeepsValues value_of keeps kind rows has) where
    stand_leaf : (t u : ℕ) (rest : Forest) (symbols : List Symbol) (own : List T) (values : List A) → t ≡ u
        → t ∷ leaves rest ≡ map kind own → folded_trees value_of keeps rest (drop 1 own) ≡ Some values →
        ((mine : List T) → leaves rest ≡ map kind mine → folded_trees value_of keeps rest mine ≡ Some values
        → StandForTokens kind has symbols mine values) → StandForTokens kind has (Token u ∷ symbols) own values
    stand_leaf t u rest symbols [] values same e folds others = absurd (cc)
    stand_leaf t u rest symbols (first ∷ mine) values same e folds others =
        let here : t ≡ kind first = cc in
        let behind : leaves rest ≡ map kind mine = cc in
        token first (sym here ∙ same) (others mine behind folds)

    -- the trees of symbols stand for their tokens
    stand : (trees : Forest) (symbols : List Symbol) (own : List T) (values : List A) → DerivesSymbols rows trees symbols
        → leaves trees ≡ map kind own → folded_trees value_of keeps trees own ≡ Some values →
        StandForTokens kind has symbols own values
    stand empty [] own values d e folds =
        let none : own ≡ [] = no_tokens kind own e in
        let no_values : [] ≡ values = cc in
        subst (λ (l : List T). StandForTokens kind has [] l values) (sym none) (subst (StandForTokens kind has [] []) no_values nothing)
    stand empty (symbol ∷ symbols) own values d e folds = absurd d
    stand (leaf t rest) [] own values d e folds = absurd d
    stand (leaf t rest) (Token u ∷ symbols) own values d e folds = stand_leaf t u rest symbols own values d.0 e folds
        (λ mine behind folded_rest. stand rest symbols mine values d.1 behind folded_rest)
    stand (leaf t rest) (Part p ∷ symbols) own values d e folds = absurd d
    stand (node r below rest) [] own values d e folds = absurd d
    stand (node r below rest) (Token u ∷ symbols) own values d e folds = absurd d
    stand (node r below rest) (Part p ∷ symbols) own values d e folds =
        let h = halves kind own (leaves below) (leaves rest) e in
        let len : length h.front ≡ length (leaves below) = sym (length-map h.front kind) ∙ sym (ap length h.front_are) in
        let parts = append_parts h.front h.back own (length (leaves below)) len h.both in
        let own_value = λ (l : List T). option_and_then (value_of r (first_if (tree_begins_kept keeps below) l))
        (folded_trees value_of keeps below l) in
        let folds_split : in_front (own_value h.front) (folded_trees value_of keeps rest h.back) ≡ Some values =
        ap (λ (l : List T). in_front (own_value l) (folded_trees value_of keeps rest h.back)) (sym parts.0)
        ∙ ap (λ (l : List T). in_front (own_value (take (length (leaves below)) own)) (folded_trees value_of keeps rest l)) (sym parts.1)
        ∙ folds in
        option_and_then_some (λ after. option_and_then (λ first. Some (first ∷ after)) (own_value h.front))
        (folded_trees value_of keeps rest h.back) values folds_split
        (λ after after_is e2.
        option_and_then_some (λ first. Some (first ∷ after)) (own_value h.front) values e2
        (λ first first_is e3.
        option_and_then_some (value_of r (first_if (tree_begins_kept keeps below) h.front))
        (folded_trees value_of keeps below h.front) first first_is
        (λ inner inner_is value_is.
        let same : first ∷ after ≡ values = cc in
        let inner_stand = stand below d.0.right h.front inner d.3 h.front_are inner_is in
        let token_is = ap (λ (test : Bool). first_if test h.front) (begin_alike keeps rows below d.0.right d.3) in
        let given = ap (λ (o : Option T). value_of r o inner) (sym token_is) ∙ value_is in
        let here = subst (λ (q : ℕ). has q h.front first) d.2 (kept r d.0 h.front inner first d.1 inner_stand given) in
        subst (λ (l : List T). StandForTokens kind has (Part p ∷ symbols) l values) (sym h.both)
        (subst (StandForTokens kind has (Part p ∷ symbols) (h.front ++ h.back)) same
        (part here (stand rest symbols h.back after d.4 h.back_are after_is))))))

    only_value : (p : ℕ) (tokens : List T) (values : List A) (value : A) → StandForTokens kind has (Part p ∷ []) tokens values
        → values ≡ value ∷ [] → has p tokens value
    only_value p tokens values value (part {own = own} {value = found} here nothing) same =
        let first : found ≡ value = cc in
        subst (λ (l : List T). has p l value) (sym (append-nil own)) (subst (has p own) first here)

    pub least : (p : ℕ) (tokens : List T) (value : A) → HasValue value_of keeps kind rows p tokens value → has p tokens value
    least p tokens value it = only_value p tokens (value ∷ []) value (stand it.0 (Part p ∷ []) tokens (value ∷ []) it.1 it.2 it.3) refl

  -- trees for symbols that stand for tokens
  record Trees (symbols : List Symbol) (own : List T) (values : List A) : Type 0 where
    trees : Forest
    derives : DerivesSymbols rows trees symbols
    leaves_are : leaves trees ≡ map kind own
    folds : folded_trees value_of keeps trees own ≡ Some values

  -- a tree in front of others
  tree_in_front : (r p : ℕ) (row : Production) (below rest : Forest) (mine own : List T) (symbols : List Symbol) (value : A)
      (values : List A) → slice_get rows r ≡ Some row → row.left ≡ p →
      DerivesSymbols rows below row.right → leaves below ≡ map kind mine → option_and_then
      (value_of r (first_if (tree_begins_kept keeps below) mine)) (folded_trees value_of keeps below mine) ≡ Some value →
      DerivesSymbols rows rest symbols → leaves rest ≡ map kind own → folded_trees value_of keeps rest own ≡ Some values
      → Trees (Part p ∷ symbols) (mine ++ own) (value ∷ values)
  tree_in_front r p row below rest mine own symbols value values is left d below_leaves value_is rest_d rest_leaves rest_folds =
      let len : length mine ≡ length (leaves below) = sym (length-map mine kind) ∙ sym (ap length below_leaves) in
      let parts = append_parts mine own (mine ++ own) (length (leaves below)) len refl in
      let own_value = λ (l : List T). option_and_then (value_of r (first_if (tree_begins_kept keeps below) l))
      (folded_trees value_of keeps below l) in
      record {
        trees = node r below rest;
        derives = (row, is, left, d, rest_d);
        leaves_are = ap (λ l. l ++ leaves rest) below_leaves ∙ ap (λ l. map kind mine ++ l) rest_leaves ∙ sym (map-append kind mine own);
        folds =
            ap (λ (l : List T). in_front (own_value l) (folded_trees value_of keeps rest (drop (length (leaves below)) (mine ++ own))))
            parts.0
            ∙ ap (λ (l : List T). in_front (own_value mine) (folded_trees value_of keeps rest l)) parts.1
            ∙ ap (in_front (own_value mine)) rest_folds
            ∙ ap (λ (o : Option A). in_front o (Some values)) value_is;
      }

  part_in_front : (p : ℕ) (symbols : List Symbol) (mine own : List T) (value : A) (values : List A)
      → HasValue value_of keeps kind rows p mine value → Trees symbols own values →
      Trees (Part p ∷ symbols) (mine ++ own) (value ∷ values)
  part_in_front p symbols mine own value values it others = by_tree it.0 it.1 it.2 it.3
    where
      by_tree : (tree : Forest) → DerivesSymbols rows tree (Part p ∷ []) → leaves tree ≡ map kind mine
          → folded_trees value_of keeps tree mine ≡ Some (value ∷ []) →
          Trees (Part p ∷ symbols) (mine ++ own) (value ∷ values)
      by_tree empty d e folds = absurd d
      by_tree (leaf t rest) d e folds = absurd d
      by_tree (node r below empty) d e folds =
          let len : length mine ≡ length (leaves below) = sym (length-map mine kind) ∙ sym (ap length e)
          ∙ ap length (append-nil (leaves below)) in
          let parts = append_parts mine [] mine (length (leaves below)) len (sym (append-nil mine)) in
          let own_value = λ (l : List T). option_and_then (value_of r (first_if (tree_begins_kept keeps below) l))
          (folded_trees value_of keeps below l) in
          let folds_all : in_front (own_value mine) (Some []) ≡ Some (value ∷ []) =
          ap (λ (l : List T). in_front (own_value l) (Some [])) (sym parts.0) ∙ folds in
          option_and_then_some (λ first. Some (first ∷ [])) (own_value mine) (value ∷ []) folds_all
          (λ first first_is same.
          let here : first ≡ value = cc in
          tree_in_front r p d.0 below others.trees mine own symbols value values d.1 d.2 d.3 (sym (append-nil (leaves below)) ∙ e)
          (first_is ∙ ap Some here) others.derives others.leaves_are others.folds)
      by_tree (node r below (leaf t rest)) d e folds = absurd d.4
      by_tree (node r below (node s under rest)) d e folds = absurd d.4

  token_in_front : (t : ℕ) (symbols : List Symbol) (first : T) (own : List T) (values : List A) → kind first ≡ t
      → Trees symbols own values → Trees (Token t ∷ symbols) (first ∷ own) values
  token_in_front t symbols first own values is others = record {
    trees = leaf t others.trees;
    derives = (refl, others.derives);
    leaves_are = ap (λ k. k ∷ leaves others.trees) (sym is) ∙ ap (λ l. kind first ∷ l) others.leaves_are;
    folds = others.folds;
  }

  trees_of : (symbols : List Symbol) (own : List T) (values : List A)
      → StandForTokens kind (HasValue value_of keeps kind rows) symbols own values → Trees symbols own values
  trees_of [] _ _ nothing = record { trees = empty; derives = tt; leaves_are = refl; folds = refl }
  trees_of (Token t ∷ symbols) _ values (token {tokens = own} first is others) =
      token_in_front t symbols first own values is (trees_of symbols own values others)
  trees_of (Part p ∷ symbols) _ _ (part {own = mine} {tokens = own} {value = value} {values = values} here others) =
      part_in_front p symbols mine own value values here (trees_of symbols own values others)

  pub closed : KeepsValues value_of keeps kind rows (HasValue value_of keeps kind rows)
  closed number row tokens values value is stands given =
      let it = trees_of row.right tokens values stands in
      let value_is : option_and_then (value_of number (first_if (tree_begins_kept keeps it.trees) tokens))
      (folded_trees value_of keeps it.trees tokens) ≡ Some value =
      ap (option_and_then (value_of number (first_if (tree_begins_kept keeps it.trees) tokens))) it.folds
      ∙ ap (λ (test : Bool). value_of number (first_if test tokens) values) (begin_alike keeps rows it.trees row.right it.derives)
      ∙ given in
      let whole = tree_in_front number row.left row it.trees empty tokens [] [] value [] is refl it.derives it.leaves_are value_is tt
      refl refl in (
        whole.trees,
        whole.derives,
        whole.leaves_are ∙ ap (map kind) (append-nil tokens),
        ap (folded_trees value_of keeps whole.trees) (sym (append-nil tokens)) ∙ whole.folds,
      )
