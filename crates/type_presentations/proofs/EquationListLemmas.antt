-- An equation that comes to a list of equations.
use Rattle.std.proofs.Common.{◌≡◌, ℕ, Bool, true, false, List, [], ◌∷◌, ◌++◌, ◌+◌, inl, inr, map, refl, ap, sym, ◌∙◌, subst}
use Rattle.std.specs.Prelude.{not, slice_get}
use Rattle.std.specs.List.{list_any}
use Rattle.std.specs.Str.{bytes_eq}
use Rattle.std.proofs.lemmas.List.{map-append}
use Rattle.std.proofs.lemmas.Slice.Eq.{bytes_eq-Decides}
use Rattle.lotos_base.proofs.Members.{before_or_last}
use Rattle.lotos_base.specs.Signature.{Signature}
use Rattle.lotos_base.specs.Equation.{Equation}
use Rattle.sort_terms.specs.EquationView.{equation_of}
use Rattle.sort_terms.specs.declared.equations.Equation.{Equation as CodeEquation}
use Rattle.type_definitions.specs.Presentation.{with_new, is_same_equation}
use Rattle.type_presentations.proofs.KeyedLemmas.{any_by_key}
use Rattle.type_presentations.proofs.OnceLemmas.{came_once, grown_if_new, stays_if_old}
use Rattle.type_presentations.specs.EquationKeys.{equation_key}
use Rattle.type_presentations.specs.EquationListView.{HasSidesOver, HaveSidesOf}
use Rattle.type_presentations.proofs.EquationKeyLemmas.{equation_keys_tell}

-- ---- Keys.

pub record EquationCame (es : List Equation) (e : Equation) (keys : List (List ℕ)) (is_new : Bool) : Type 0 where
  pub appended : keys ≡ with_new bytes_eq [] (map equation_key (es ++ e ∷ []))
  pub unchanged : is_new ≡ false → keys ≡ with_new bytes_eq [] (map equation_key es)
  pub grown : is_new ≡ true → with_new is_same_equation es (e ∷ []) ≡ es ++ e ∷ []
  pub stays : is_new ≡ false → with_new is_same_equation es (e ∷ []) ≡ es

pub equation_came : (es : List Equation) (e : Equation) (key : List ℕ) (old new : List (List ℕ)) (is_new : Bool)
    → key ≡ equation_key e → old ≡ with_new bytes_eq [] (map equation_key es) → new ≡ with_new bytes_eq old (key ∷ [])
    → is_new ≡ not (list_any (bytes_eq key) old) → EquationCame es e new is_new
equation_came es e key old new is_new this before after told =
    let once =
    came_once bytes_eq (λ one other. (bytes_eq-Decides one other).0) (map equation_key es) (equation_key e) old new is_new before
    (after ∙ ap (λ (k : List ℕ). with_new bytes_eq old (k ∷ [])) this)
    (told ∙ ap (λ (k : List ℕ). not (list_any (bytes_eq k) old)) this) in
    let is : is_new ≡ not (list_any (is_same_equation e) es) =
    once.told ∙ ap not (any_by_key equation_key is_same_equation equation_keys_tell.equations e es) in record {
      appended = once.appended ∙ ap (λ (ks : List (List ℕ)). with_new bytes_eq [] ks) (sym (map-append equation_key es (e ∷ [])));
      unchanged = once.unchanged;
      grown = λ h. grown_if_new is_same_equation es e is_new is h;
      stays = λ h. stays_if_old is_same_equation es e is_new is h;
    }

-- what the code's list stands for once it got one more
pub pushed : (old new : List CodeEquation) (e : CodeEquation) → new ≡ old ++ e ∷ []
    → map equation_of new ≡ map equation_of old ++ equation_of e ∷ []
pushed old new e is = ap (λ (es : List CodeEquation). map equation_of es) is ∙ map-append equation_of old (e ∷ [])

-- ---- Sides.

pub sides_of_pushed : (signature : Signature) (old new : List CodeEquation) (e : CodeEquation) → new ≡ old ++ e ∷ []
    → HaveSidesOf signature old → HasSidesOver signature e → HaveSidesOf signature new
sides_of_pushed signature old new e is have has i other found =
    elim (before_or_last old e i other (ap (λ (es : List CodeEquation). slice_get es i) (sym is) ∙ found)) [
      | inl before ↦ have i other before
      | inr last ↦ subst (λ (x : CodeEquation). HasSidesOver signature x) last has
    ]
