-- One token is to blame at most.
use Rattle.std.proofs.Common.{◌≡◌, ◌∙◌, ℕ, zero, suc, ◌+◌, ◌<◌, ◌≤◌, List, [], ◌∷◌, ◌++◌, refl, length, take, drop, arith, ap, sym, subst, inl, inr, append_assoc}
use Rattle.std.proofs.lemmas.Bool.{cases_order}
use Rattle.std.proofs.lemmas.List.{take-append-drop}
use Rattle.lotos_lexer.specs.declared.tokens.Token.{Token}
use Rattle.tree_building.specs.Blame.{BeginsSomeText, IsBlamed}

-- what a beginning begins with is a beginning
pub begins_with : {A : Type 0} (one : List Token → A → Type 0) (tokens more : List Token) → BeginsSomeText one (tokens ++ more)
    → BeginsSomeText one tokens
begins_with one tokens more begins =
    (more ++ begins.0, begins.1, subst (λ it. one it begins.1) (append_assoc tokens more begins.0) begins.2)

-- fewer of the first of more
taken_again : {A : Type 0} (few : ℕ) (many : ℕ) (list : List A) → few ≤ many → take few (take many list) ≡ take few list
taken_again zero many list below = refl
taken_again (suc few) zero list below = absurd (omega arith)
taken_again (suc few) (suc many) [] below = refl
taken_again (suc few) (suc many) (first ∷ rest) below = ap (λ it. first ∷ it) (taken_again few many rest (omega arith))

not_before : {A : Type 0} (one : List Token → A → Type 0) (tokens : List Token) (at other : ℕ) → IsBlamed one tokens at →
    IsBlamed one tokens other → at < other → ⊥
not_before one tokens at other first second before =
    let shorter : take (at + 1) (take other tokens) ≡ take (at + 1) tokens = taken_again (at + 1) other tokens (omega arith) in
    let parts : take (at + 1) tokens ++ drop (at + 1) (take other tokens) ≡ take other tokens =
    ap (λ it. it ++ drop (at + 1) (take other tokens)) (sym shorter) ∙ take-append-drop (at + 1) (take other tokens) in
    first.not_with (let inside : other ≤ length tokens = second.in_range in omega arith)
    (begins_with one (take (at + 1) tokens) (drop (at + 1) (take other tokens))
    (subst (BeginsSomeText one) (sym parts) second.begins_before))

pub one_blamed : {A : Type 0} (one : List Token → A → Type 0) (tokens : List Token) (at other : ℕ) → IsBlamed one tokens at →
    IsBlamed one tokens other → at ≡ other
one_blamed one tokens at other first second =
    elim (cases_order at other) [
      | inl same ↦ same
      | inr apart ↦ elim apart [
        | inl before ↦ absurd (not_before one tokens at other first second before)
        | inr behind ↦ absurd (not_before one tokens other at second first behind)
      ]
    ]
