-- The entry that the table of places gives is the one of the definition.
use Rattle.std.proofs.Common.{◌≡◌, ℕ, List, map, slice_get, ap, sym, ◌∙◌}
use Rattle.std.specs.Prelude.{unwrap_or}
use Rattle.lotos_base.specs.Term.{variable}
use Rattle.lotos_base.specs.Substitution.{Substitution, substituted, renaming}
use Rattle.behaviour_semantics.specs.Replacement.{test_with}
use Rattle.behaviour_semantics.specs.Draft as plain
use Rattle.behaviour_semantics.specs.Draft.{label_with}
use Rattle.behaviour_semantics.specs.Solving as solving
use Rattle.behaviour_semantics.specs.Solving.{entry_of, variables_left, place_of_number}
use Rattle.draft_solving.specs.Variables.{leaf_sorts, places_by_sorts, found_sorts}
use Rattle.draft_solving.proofs.VariableLemmas.{renumbered_by_places, sorts_told}

module _ (draft : plain.Draft) (entry : solving.Entry) (places : List ℕ) (values : Substitution) where
  abbrev kept : List (ℕ × ℕ)
  kept = variables_left 0 draft.leaves draft.leaves

  abbrev renumbered : Substitution
  renumbered n s = variable (place_of_number 0 (variables_left 0 draft.leaves draft.leaves) n) s

  pub entry_is : values ≡ renaming (λ n s. unwrap_or (slice_get places n) n)
      → places ≡ places_by_sorts 0 0 (leaf_sorts 0 draft.leaves draft.leaves) → entry.shape ≡ draft.shape
      → entry.variables ≡ found_sorts (leaf_sorts 0 draft.leaves draft.leaves) → entry.label ≡ label_with values draft.label
      → entry.leaves ≡ map (substituted values) draft.leaves → entry.conditions ≡ map (test_with values) draft.conditions
      → entry ≡ entry_of draft
  entry_is renames told shape variables label leaves conditions =
      let same : values ≡ renumbered = renames ∙ places_renumber in
      let e_shape : entry.shape ≡ draft.shape = shape in
      let e_label : entry.label ≡ label_with renumbered draft.label = label ∙ ap (λ (v : Substitution). label_with v draft.label) same in
      let e_variables : entry.variables ≡ map (λ (v : ℕ × ℕ). v.1) (variables_left 0 draft.leaves draft.leaves) =
      variables ∙ sym (sorts_told 0 draft.leaves draft.leaves) in
      let e_leaves : entry.leaves ≡ map (substituted renumbered) draft.leaves =
      leaves ∙ ap (λ (v : Substitution). map (substituted v) draft.leaves) same in
      let e_conditions : entry.conditions ≡ map (test_with renumbered) draft.conditions =
      conditions ∙ ap (λ (v : Substitution). map (test_with v) draft.conditions) same in
      λ i. record { shape = e_shape i; label = e_label i; variables = e_variables i; leaves = e_leaves i; conditions = e_conditions i }
    where
      at : (n : ℕ) → unwrap_or (slice_get places n) n ≡ place_of_number 0 (variables_left 0 draft.leaves draft.leaves) n
      at n = ap (λ (ps : List ℕ). unwrap_or (slice_get ps n) n) told ∙ renumbered_by_places draft.leaves n

      places_renumber : renaming (λ n s. unwrap_or (slice_get places n) n) ≡ renumbered
      places_renumber = λ i n s. variable (at n i) s
