-- Lists of kept parts while they are gone through.
use Rattle.std.proofs.Common.{◌≡◌, ◌∙◌, ℕ, ◌+◌, true, false, List, [], ◌∷◌, ◌++◌, map, length, Some, None, refl, ap, sym, arith}
use Rattle.std.specs.Prelude.{Option, option_map}
use Rattle.std.specs.Option.{is_some}
use Rattle.lotos_base.specs.declared.places.Place as code
use Rattle.lotos_base.specs.WrittenView.{text_place_of}
use Rattle.std.proofs.lemmas.List.{length-map, length-reverse}
use Rattle.lotos_base.specs.Equation.{Place}
use Rattle.ll_engine.specs.Run.{from_last}
use Rattle.ll_engine.proofs.Running.{length-from_last}
use Rattle.syntax_trees.specs.Grouping.{leftmost_grouping, grouped}
use Rattle.syntax_trees.specs.Firsts.{Firsts, firsts_between, everywhere, firsts_followed, firsts_below}
use Rattle.syntax_trees.specs.TreeFirsts.{names_firsts}
use Rattle.text_depth.specs.DepthPart.{DepthPart}
use Rattle.text_depth.specs.RowDepth.{both_depth_parts, closed_part, closed_parts, joined_parts}

pub joined_last : (parts : List DepthPart) (some others : DepthPart) →
    joined_parts (parts ++ some ∷ others ∷ []) ≡ joined_parts (parts ++ both_depth_parts some others ∷ [])
joined_last [] some others = refl
joined_last (part ∷ []) some others = refl
joined_last (part ∷ next ∷ parts) some others = ap (both_depth_parts part) (joined_last (next ∷ parts) some others)

-- a flat list with a sign too few or too many has no tree
no_leftmost : (operands : List Firsts) (strengths : List ℕ) → ¬ (length operands ≡ length strengths + 1) →
    leftmost_grouping (λ strength. strength) (λ strength. firsts_between) operands strengths ≡ None
no_leftmost [] strengths h = refl
no_leftmost (last ∷ []) [] h = absurd (h (omega arith))
no_leftmost (first ∷ second ∷ operands) [] h = refl
no_leftmost (first ∷ []) (sign ∷ strengths) h = refl
no_leftmost (first ∷ second ∷ operands) (sign ∷ strengths) h =
    ap (option_map _) (no_leftmost (second ∷ operands) strengths (λ e. h (omega arith)))

pub no_tree : (operands : List Firsts) (strengths : List ℕ) → ¬ (length operands ≡ length strengths + 1) →
    grouped (λ strength. strength) (λ strength. firsts_between) operands strengths ≡ None
no_tree operands strengths h = ap (option_map _) (no_leftmost operands strengths h)

found_stays : (found : Option code.Place) (others : Firsts) → is_some found ≡ true →
    firsts_followed (everywhere (option_map text_place_of found)) others ≡ everywhere (option_map text_place_of found)
found_stays None others e = let no : false ≡ true = e in absurd (cc)
found_stays (Some place) others e = refl

pub found_first : (limit : ℕ) (parts rest : List DepthPart) (part : DepthPart) (found : Option code.Place) → parts ≡ part ∷ rest →
    is_some found ≡ true → everywhere (option_map text_place_of found) ≡ closed_part limit part →
    everywhere (option_map text_place_of found) ≡ closed_parts limit parts
found_first limit parts rest part found e s f =
    sym (found_stays found (closed_parts limit rest) s) ∙ ap (λ it. firsts_followed it (closed_parts limit rest)) f
    ∙ sym (ap (closed_parts limit) e)

none_stays : (found : Option code.Place) (others : Firsts) → is_some found ≡ false →
    others ≡ firsts_followed (everywhere (option_map text_place_of found)) others
none_stays None others e = refl
none_stays (Some place) others e = let no : true ≡ false = e in absurd (cc)

pub none_first : (limit : ℕ) (parts rest : List DepthPart) (part : DepthPart) (found : Option code.Place) → parts ≡ part ∷ rest →
    is_some found ≡ false → everywhere (option_map text_place_of found) ≡ closed_part limit part →
    closed_parts limit rest ≡ closed_parts limit parts
none_first limit parts rest part found e s f =
    none_stays found (closed_parts limit rest) s ∙ ap (λ it. firsts_followed it (closed_parts limit rest)) f
    ∙ sym (ap (closed_parts limit) e)

pub names_firsts_append : (some others : List Place) (inside : Firsts) →
    names_firsts some (names_firsts others inside) ≡ names_firsts (some ++ others) inside
names_firsts_append [] others inside = refl
names_firsts_append (place ∷ some) others inside = ap (firsts_below place) (names_firsts_append some others inside)
