-- What the fold keeps of a whole text tells its first node that is too deep.
use Rattle.std.proofs.Common.{◌≡◌, ◌∙◌, ℕ, true, List, [], ◌∷◌, map, refl, ap, sym, subst}
use Rattle.std.specs.Prelude.{Option, Some, option_map, option_and_then}
use Rattle.lotos_base.specs.declared.places.Place.{Place}
use Rattle.lotos_base.specs.WrittenView.{text_place_of}
use Rattle.syntax_trees.specs.Depth.{first_deeper}
use Rattle.syntax_trees.specs.Firsts.{everywhere}
use Rattle.text_depth.specs.MeaningNodes.{nodes_in}
use Rattle.text_depth.proofs.Facts.{closable, closed_is}
use Rattle.text_depth.specs.declared.part.KeptPart.{KeptPart}
use Rattle.text_depth.specs.PartView.{kept_of}
use Rattle.ll_engine.specs.declared.symbol.Symbol.TheVariants.{Part}
use Rattle.ll_engine.specs.Derivation.{Production, Forest, DerivesSymbols, leaves}
use Rattle.ll_engine.specs.Language.{ContextFree}
use Rattle.ll_engine.proofs.Uniqueness.{one_tree}
use Rattle.ll_engine.specs.Fold.{first_value, value_of_tree}
use Rattle.lotos_lexer.specs.declared.tokens.Token.{Token}
use Rattle.lotos_rows.specs.Kept.{is_kept_kind}
use Rattle.lotos_rows.specs.Rows.{grammar_from}
use Rattle.tree_building.specs.Meaning.{Meaning}
use Rattle.tree_building.specs.Sentences.{kind_of, Derived}
use Rattle.text_depth.specs.DepthPart.{DepthPart, depth_of}
use Rattle.text_depth.specs.RowDepth.{closed_part, numbered_row_depth}
use Rattle.text_depth.proofs.FoldedDepths.{depths_hold}
use Rattle.tree_building.specs.LotosGrammar.{IsLotosGrammar}

pub value_is : (limit : ℕ) (text : List ℕ) (g : ContextFree) → IsLotosGrammar g → (tokens : List Token) (tree : Forest) →
    DerivesSymbols g.rows tree (Part g.start ∷ []) → leaves tree ≡ map kind_of tokens → (found : Meaning)
    → Derived text g.start tokens found →
    value_of_tree (numbered_row_depth limit) is_kept_kind tree tokens ≡ Some (depth_of limit found)
value_is limit text g is tokens tree derives leaves_are found derived =
    let other : DerivesSymbols g.rows derived.0 (Part g.start ∷ []) =
    subst (λ (all : List Production). DerivesSymbols all derived.0 (Part g.start ∷ [])) (sym is.lotos_rows) derived.1 in
    let same : tree ≡ derived.0 = one_tree g is.well_formed is.predictive tree derived.0 derives other (leaves_are ∙ sym derived.2) in
    ap (λ (it : Forest). value_of_tree (numbered_row_depth limit) is_kept_kind it tokens) same
    ∙ ap (option_and_then first_value) (depths_hold limit text g.start derived.0 tokens found derived.1 derived.3)

starts_at : (start : ℕ) → (grammar_from start).start ≡ start
unfolding grammar_from
starts_at start = refl

-- the tokens mean it as what the grammar begins with
pub derived_at : (g : ContextFree) (start : ℕ) (text : List ℕ) (tokens : List Token) (found : Meaning) → g ≡ grammar_from start →
    Derived text start tokens found → Derived text g.start tokens found
derived_at g start text tokens found e derived =
    subst (λ (p : ℕ). Derived text p tokens found) (sym (ap (λ it. it.start) e ∙ starts_at start)) derived

-- the first node that is too deep in a part that counts from its own root
pub deep_is : (limit : ℕ) (deep : Option Place) (m : Meaning) → closable m ≡ true →
    everywhere (option_map text_place_of deep) ≡ closed_part limit (depth_of limit m) →
    option_map text_place_of deep ≡ first_deeper limit (nodes_in m)
deep_is limit deep m h e = ap (λ it. it.rest) (e ∙ closed_is limit m h)

-- what is kept is what the tokens mean
pub kept_is : (part : KeptPart) (kept : DepthPart) → option_map kept_of (Some part) ≡ Some kept → kept_of part ≡ kept
kept_is part kept e = let both : Some (kept_of part) ≡ Some kept = e in cc
