-- The operands and signs of a behaviour have a tree.
use Rattle.std.proofs.Common.{◌≡◌, ◌∙◌, ℕ, Bool, true, false, List, [], ◌∷◌, refl, ap}
use Rattle.std.specs.Prelude.{Some, option_map}
use Rattle.lotos_lexer.specs.declared.tokens.Token.{Token}
use Rattle.syntax_trees.specs.WrittenBehaviour.{WrittenBehaviour}
use Rattle.syntax_trees.specs.Strength.{PlacedSign, strength_of, joined_by_sign}
use Rattle.syntax_trees.specs.Grouping.{Leftmost, closed, sign_in_front, leftmost_grouping, grouped}
use Rattle.lotos_rows.specs.Behaviours.{before_first, AreOperands}
use Rattle.lotos_rows.specs.Behaviours as family

-- there is one operand more than signs
is_single : {A : Type 0} → List A → Bool
is_single [] = false
is_single (x ∷ []) = true
is_single (x ∷ y ∷ list) = false

fits : {A S : Type 0} → List A → List S → Bool
unfolding is_single
fits operands [] = is_single operands
fits [] (sign ∷ signs) = false
fits (first ∷ operands) (sign ∷ signs) = fits operands signs

fits-before_first : (prefix : WrittenBehaviour → WrittenBehaviour) (operands : List WrittenBehaviour) (signs : List PlacedSign) →
    fits (before_first prefix operands) signs ≡ fits operands signs
unfolding fits is_single
fits-before_first prefix [] [] = refl
fits-before_first prefix [] (sign ∷ signs) = refl
fits-before_first prefix (first ∷ []) [] = refl
fits-before_first prefix (first ∷ second ∷ operands) [] = refl
fits-before_first prefix (first ∷ operands) (sign ∷ signs) = refl

operands_fit : {text : List ℕ} {tokens : List Token} {operands : List WrittenBehaviour} {signs : List PlacedSign} →
    AreOperands text tokens operands signs →
    fits operands signs ≡ true
unfolding fits is_single
operands_fit (family.hiding word xs in_ inside) = refl
operands_fit (family.letting word values in_ inside) = refl
operands_fit (family.choosing_values word xs sign inside) = refl
operands_fit (family.choosing_gates word gates sign inside) = refl
operands_fit (family.parallel_over_gates word gates sign inside) = refl
operands_fit (family.inner_prefix {operands = operands} {signs = signs} word semicolon them) =
    fits-before_first _ operands signs ∙ operands_fit them
operands_fit (family.guarding {operands = operands} {signs = signs} left test right arrow them) =
    fits-before_first _ operands signs ∙ operands_fit them
operands_fit (family.acting {operands = operands} {signs = signs} gate semicolon them) =
    fits-before_first _ operands signs ∙ operands_fit them
operands_fit (family.offering {operands = operands} {signs = signs} gate first offers test semicolon them) =
    fits-before_first _ operands signs ∙ operands_fit them
operands_fit (family.last_operand it) = refl
operands_fit (family.before_sign it sign more) = operands_fit more

leftmost_some : {A S : Type 0} (strength : S → ℕ) (join : S → A → A → A) (operands : List A) (signs : List S) → fits operands signs ≡ true →
    (all : Leftmost A S) × (leftmost_grouping strength join operands signs ≡ Some all)
unfolding fits is_single
leftmost_some strength join [] [] fit = absurd (cc)
leftmost_some strength join [] (sign ∷ signs) fit = absurd (cc)
leftmost_some strength join (first ∷ []) [] fit = (_, refl)
leftmost_some strength join (first ∷ second ∷ operands) [] fit = absurd (cc)
leftmost_some strength join (first ∷ []) (sign ∷ signs) fit =
    let inner = leftmost_some strength join [] signs fit in (
      record { first = first; waiting = sign_in_front strength join sign inner.0.waiting inner.0.first },
      ap (option_map (λ rest. record { first = first; waiting = sign_in_front strength join sign rest.waiting rest.first })) inner.1,
    )
leftmost_some strength join (first ∷ second ∷ operands) (sign ∷ signs) fit =
    let inner = leftmost_some strength join (second ∷ operands) signs fit in (
      record { first = first; waiting = sign_in_front strength join sign inner.0.waiting inner.0.first },
      ap (option_map (λ rest. record { first = first; waiting = sign_in_front strength join sign rest.waiting rest.first })) inner.1,
    )

pub inside_of : (text : List ℕ) {tokens : List Token} {operands : List WrittenBehaviour} {signs : List PlacedSign} →
    AreOperands text tokens operands signs →
    (inside : WrittenBehaviour) × (grouped strength_of joined_by_sign operands signs ≡ Some inside)
inside_of text {operands = operands} {signs = signs} them =
    let all = leftmost_some strength_of joined_by_sign operands signs (operands_fit them) in
    (closed joined_by_sign all.0.waiting all.0.first, ap (option_map (λ found. closed joined_by_sign found.waiting found.first)) all.1)
