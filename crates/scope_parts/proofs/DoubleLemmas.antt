-- The first name of a list that one before it has, member by member.
use Rattle.std.proofs.Common.{◌≡◌, ℕ, suc, ◌+◌, ◌<◌, length, drop, get_or, arith, Bool, true, false, List, [], ◌∷◌, refl, ap, sym, ◌∙◌}
use Rattle.std.specs.Prelude.{Option, None, Some, MatchBool, map, if◌then◌else◌}
use Rattle.std.specs.List.{filter_map, cons_option}
use Rattle.std.specs.Option.{option_or}
use Rattle.std.proofs.Math.Seq.{drop-cons}
use Rattle.lotos_base.specs.WrittenTerm.{PlacedName}
use Rattle.scope_parts.specs.Scope.{Binding, bind, is_bound, double_from}
use Rattle.syntax_trees.specs.TreeViews.{written_variable_of, written_variables_of, lets_of, written_offer_of}
use Rattle.syntax_trees.specs.declared.named.VarText.{VarText}
use Rattle.syntax_trees.specs.declared.behaviours.OfferText.{OfferText}
use Rattle.syntax_trees.specs.declared.behaviours.OfferText.TheVariants.{Give, Ask}
use Rattle.lotos_base.specs.declared.written_terms.Written.{Written}
use Rattle.scope_parts.specs.Numbering.{asked_for}
use Rattle.scope_parts.specs.Terms.{let_names}
use Rattle.scope_parts.specs.Sorts.{placed_variable, placed_variables}
use Rattle.scope_parts.specs.Declares.{Enters, declared_variable, declared_binding, declared_offer}

pub double_step : (o : Option PlacedName) (names : List PlacedName) (old new : List Binding) (found : Option PlacedName)
    → Enters o old found new → double_from old (cons_option o names) ≡ option_or found (double_from new names)
double_step None names old new found enters =
    ap (λ (bs : List Binding). double_from bs names) (sym enters.1)
    ∙ ap (λ (f : Option PlacedName). option_or f (double_from new names)) (sym enters.0)
double_step (Some name) names old new found enters = go (is_bound old name.name) enters
  where
    go : (b : Bool) → MatchBool b (found ≡ Some name) ((found ≡ None) × (new ≡ bind name.name 0 old))
        → (if b then Some name else double_from (bind name.name 0 old) names) ≡ option_or found (double_from new names)
    go true is = ap (λ (f : Option PlacedName). option_or f (double_from new names)) (sym is)
    go false is =
        ap (λ (bs : List Binding). double_from bs names) (sym is.1)
        ∙ ap (λ (f : Option PlacedName). option_or f (double_from new names)) (sym is.0)

-- the names that lists of the code declare
pub variables_declared : (texts : List VarText) → filter_map declared_variable texts ≡ placed_variables (written_variables_of texts)
variables_declared [] = refl
variables_declared (text ∷ texts) = ap (λ names. placed_variable (written_variable_of text) ∷ names) (variables_declared texts)

pub bindings_declared : (texts : List (VarText × Written)) → filter_map declared_binding texts ≡ placed_variables
    (let_names (lets_of texts))
bindings_declared [] = refl
bindings_declared (text ∷ texts) = ap (λ names. placed_variable (written_variable_of text.0) ∷ names) (bindings_declared texts)

pub offers_declared : (texts : List OfferText) → filter_map declared_offer texts ≡ placed_variables (asked_for (map written_offer_of texts))
offers_declared [] = refl
offers_declared (Give term ∷ texts) = offers_declared texts
offers_declared (Ask text ∷ texts) = ap (λ names. placed_variable (written_variable_of text) ∷ names) (offers_declared texts)

-- the next member, whether a name is found there or not
pub double_next : {A : Type 0} (d : A → Option PlacedName) (items : List A) (i : ℕ) (x : A) (old new : List Binding)
    (found whole : Option PlacedName) → i < length items → x ≡ get_or items i x → Enters (d x) old found new
    → double_from old (filter_map d (drop i items)) ≡ whole
    → (found ≡ None → double_from new (filter_map d (drop (i + 1) items)) ≡ whole) × ((n : PlacedName) → found ≡ Some n → Some n ≡ whole)
double_next d items i x old new found whole within is enters so_far =
    let next : suc i ≡ i + 1 = omega arith in
    let here : drop i items ≡ x ∷ drop (suc i) items =
    drop-cons items i x within ∙ ap (λ y. y ∷ drop (suc i) items) (sym is) in
    let step : whole ≡ option_or found (double_from new (filter_map d (drop (suc i) items))) =
    sym so_far ∙ ap (λ xs. double_from old (filter_map d xs)) here
    ∙ double_step (d x) (filter_map d (drop (suc i) items)) old new found enters in (
      (λ none. ap (λ (j : ℕ). double_from new (filter_map d (drop j items))) (sym next)
          ∙ ap (λ (f : Option PlacedName). option_or f (double_from new (filter_map d (drop (suc i) items)))) (sym none) ∙ sym step),
      (λ n some. ap (λ (f : Option PlacedName). option_or f (double_from new (filter_map d (drop (suc i) items)))) (sym some) ∙ sym step),
    )
