-- The fold over a derivation keeps of each part what is kept of what it means.
use Rattle.std.proofs.Common.{◌≡◌, ◌∙◌, ℕ, zero, suc, ◌+◌, Bool, true, List, [], ◌∷◌, map, length, take, drop, Some, None, refl, ap, sym, arith, eqb-true}
use Rattle.std.specs.Prelude.{Option, option_and_then, slice_get, ◌==◌}
use Rattle.std.specs.List.{list_all}
use Rattle.std.proofs.lemmas.Bool.{and_parts}
use Rattle.ll_engine.specs.declared.symbol.Symbol.{Symbol}
use Rattle.ll_engine.specs.declared.symbol.Symbol.TheVariants.{Token, Part}
use Rattle.ll_engine.specs.Derivation.{Production, Forest, empty, leaf, node, DerivesSymbols, leaves}
use Rattle.ll_engine.specs.Fold.{folded_trees, in_front, first_if, tree_begins_kept}
use Rattle.ll_engine.specs.Run.{count_parts}
use Rattle.lotos_lexer.specs.declared.tokens.Token as lexer
use Rattle.lotos_rows.specs.declared.row_names.RowName.{RowName}
use Rattle.lotos_rows.specs.Kept.{is_kept_kind}
use Rattle.lotos_rows.specs.Row.{GrammarRow}
use Rattle.lotos_rows.specs.Rows.{grammar_rows, row_names, rows}
use Rattle.tree_building.specs.Meaning.{Meaning}
use Rattle.tree_building.specs.RowMeaning.{numbered_row_means}
use Rattle.text_depth.specs.DepthPart.{depth_of}
use Rattle.text_depth.specs.RowDepth.{row_depth, numbered_row_depth}
use Rattle.text_depth.specs.DepthRowLaws.{DepthsAreThoseOfTheTrees}
use Rattle.text_depth.proofs.Inversions.{and_then_some}
use Rattle.text_depth.proofs.RowDepths.{arity, row_holds}

abbrev has_arity : GrammarRow → Bool
has_arity row = count_parts row.production.right == arity row.name

arities : list_all has_arity grammar_rows ≡ true
arities = refl

-- the row with a number and the name with it
same_place : (list : List GrammarRow) (number : ℕ) (row : Production) (name : RowName) → list_all has_arity list ≡ true →
    slice_get (map (λ it. it.production) list) number ≡ Some row → slice_get (map (λ it. it.name) list) number ≡ Some name →
    count_parts row.right ≡ arity name
same_place [] number row name all e f = let none : None ≡ Some row = e in absurd (cc)
same_place (first ∷ list) zero row name all e f =
    let one : first.production ≡ row = cc (e) in let two : first.name ≡ name = cc (f) in
    let here = and_parts (has_arity first) (list_all has_arity list) all in
    ap (λ it. count_parts it.right) (sym one) ∙ eqb-true (count_parts first.production.right) (arity first.name) here.0 ∙ ap arity two
same_place (first ∷ list) (suc number) row name all e f =
    same_place list number row name (and_parts (has_arity first) (list_all has_arity list) all).1 e f

row_and_name : (number : ℕ) (row : Production) (name : RowName) → slice_get rows number ≡ Some row
    → slice_get row_names number ≡ Some name →
    count_parts row.right ≡ arity name
unfolding rows row_names
row_and_name number row name e f = same_place grammar_rows number row name arities e f

in_front_some : {A : Type 0} (value : Option A) (others : Option (List A)) (all : List A) → in_front value others ≡ Some all →
    (first : A) × (after : List A) × (value ≡ Some first) × (others ≡ Some after) × (all ≡ first ∷ after)
in_front_some value others all e =
    let i = and_then_some others _ all e in
    let j = and_then_some value _ all i.2 in
    (j.0, i.0, j.1, i.1, (let same : j.0 ∷ i.0 ≡ all = cc (j.2) in sym same))

numbered_holds : (limit : ℕ) (text : List ℕ) (number : ℕ) (row : Production) (token : Option lexer.Token) (parts : List Meaning)
    (m : Meaning) →
    slice_get rows number ≡ Some row → length parts ≡ count_parts row.right → numbered_row_means text number token parts ≡ Some m →
    numbered_row_depth limit number token (map (depth_of limit) parts) ≡ Some (depth_of limit m)
numbered_holds limit text number row token parts m at n e =
    let i = and_then_some (slice_get row_names number) _ m e in
    ap (λ it. option_and_then (λ name. row_depth limit name token (map (depth_of limit) parts)) it) i.1
    ∙ row_holds limit text i.0 token parts m (n ∙ row_and_name number row i.0 at i.1) i.2

record Holds (limit : ℕ) (tree : Forest) (symbols : List Symbol) (tokens : List lexer.Token) (meanings : List Meaning) : Type 0 where
  pub count : length meanings ≡ count_parts symbols
  pub kept : folded_trees (numbered_row_depth limit) is_kept_kind tree tokens ≡ Some (map (depth_of limit) meanings)

more_parts : (n : ℕ) (count : ℕ) → n ≡ count → suc n ≡ count + 1
more_parts n count e = omega arith

holds : (limit : ℕ) (text : List ℕ) (tree : Forest) (symbols : List Symbol) (tokens : List lexer.Token) (meanings : List Meaning) →
    DerivesSymbols rows tree symbols → folded_trees (numbered_row_means text) is_kept_kind tree tokens ≡ Some meanings →
    Holds limit tree symbols tokens meanings
holds limit text empty [] tokens meanings derives e =
    let none : [] ≡ meanings = cc (e) in
    record { count = ap length (sym none); kept = ap (λ it. Some (map (depth_of limit) it)) none }
holds limit text empty (symbol ∷ symbols) tokens meanings derives e = absurd derives
holds limit text (leaf t rest) [] tokens meanings derives e = absurd derives
holds limit text (leaf t rest) (Token u ∷ symbols) tokens meanings derives e =
    let it = holds limit text rest symbols (drop 1 tokens) meanings derives.1 e in record { count = it.count; kept = it.kept }
holds limit text (leaf t rest) (Part p ∷ symbols) tokens meanings derives e = absurd derives
holds limit text (node number below rest) [] tokens meanings derives e = absurd derives
holds limit text (node number below rest) (Token u ∷ symbols) tokens meanings derives e = absurd derives
holds limit text (node number below rest) (Part p ∷ symbols) tokens meanings derives e =
    let own = take (length (leaves below)) tokens in
    let token = first_if (tree_begins_kept is_kept_kind below) own in
    let behind = drop (length (leaves below)) tokens in
    let split = in_front_some
    (option_and_then (numbered_row_means text number token) (folded_trees (numbered_row_means text) is_kept_kind below own))
    (folded_trees (numbered_row_means text) is_kept_kind rest behind) meanings e in
    let first = split.0 in
    let after = split.1 in
    let inside = and_then_some (folded_trees (numbered_row_means text) is_kept_kind below own) (numbered_row_means text number token) first
    split.2 in
    let under = holds limit text below derives.0.right own inside.0 derives.3 inside.1 in
    let next = holds limit text rest symbols behind after derives.4 split.3 in
    let here : option_and_then (numbered_row_depth limit number token) (folded_trees (numbered_row_depth limit) is_kept_kind below own)
    ≡ Some (depth_of limit first) =
    ap (option_and_then (numbered_row_depth limit number token)) under.kept
    ∙ numbered_holds limit text number derives.0 token inside.0 first derives.1 under.count inside.2 in
    record {
      count = ap length split.4 ∙ more_parts (length after) (count_parts symbols) next.count;
      kept =
          ap (λ it. in_front it (folded_trees (numbered_row_depth limit) is_kept_kind rest behind)) here
          ∙ ap (in_front (Some (depth_of limit first))) next.kept
          ∙ ap (λ it. Some (map (depth_of limit) it)) (sym split.4);
    }

pub depths_hold : DepthsAreThoseOfTheTrees
depths_hold limit text p tree tokens meaning derives e = (holds limit text tree (Part p ∷ []) tokens (meaning ∷ []) derives e).kept
