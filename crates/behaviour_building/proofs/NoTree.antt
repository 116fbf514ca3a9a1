-- A flat list that has not one operand more than signs has no tree.
use Rattle.std.proofs.Common.{◌≡◌, ◌∙◌, ℕ, ◌+◌, List, [], ◌∷◌, refl, ap, sym, arith, map}
use Rattle.std.specs.Prelude.{None, length, option_map}
use Rattle.std.proofs.lemmas.List.{length-map, length-reverse}
use Rattle.syntax_trees.specs.Grouping.{closed, sign_in_front, leftmost_grouping, grouped}
use Rattle.ll_engine.specs.Run.{from_last}
use Rattle.ll_engine.proofs.Running.{length-from_last}

module _ {A S : Type 0} (strength : S → ℕ) (join : S → A → A → A) where
  no_leftmost : (operands : List A) (signs : List S) → (length operands ≡ length signs + 1 → ⊥)
      → leftmost_grouping strength join operands signs ≡ None
  no_leftmost [] signs uneven = refl
  no_leftmost (last ∷ []) [] uneven = absurd (uneven refl)
  no_leftmost (last ∷ []) (sign ∷ signs) uneven = refl
  no_leftmost (first ∷ second ∷ operands) [] uneven = refl
  no_leftmost (first ∷ second ∷ operands) (sign ∷ signs) uneven =
      ap (option_map (λ rest. record { first = first; waiting = sign_in_front strength join sign rest.waiting rest.first }))
      (no_leftmost (second ∷ operands) signs (λ even. uneven (omega (arith, even))))

  no_grouped : (operands : List A) (signs : List S) → (length operands ≡ length signs + 1 → ⊥) → grouped strength join operands signs ≡ None
  no_grouped operands signs uneven = ap (option_map (λ all. closed join all.waiting all.first)) (no_leftmost operands signs uneven)

pub no_tree : {A S O G : Type 0} (strength : S → ℕ) (join : S → A → A → A) (plain : O → A) (plain_sign : G → S) (operands : List O)
    (signs : List G) →
    (length operands ≡ length signs + 1 → ⊥) → grouped strength join (from_last plain operands) (from_last plain_sign signs) ≡ None
no_tree strength join plain plain_sign operands signs uneven =
    no_grouped strength join (from_last plain operands) (from_last plain_sign signs)
    (λ even. uneven (sym (length-from_last plain operands) ∙ even ∙ ap (λ (n : ℕ). n + 1) (length-from_last plain_sign signs)))
