-- The marks of the parts that derive the empty list, and lists of symbols that do.
use Rattle.std.proofs.Common.{◌≡◌, ℕ, ◌<◌, Bool, true, false, List, [], ◌∷◌, refl, arith}
use Rattle.std.specs.Prelude.{Some, slice_get}
use Rattle.ll_engine.specs.declared.symbol.Symbol.{Symbol}
use Rattle.ll_engine.specs.declared.symbol.Symbol.TheVariants.{Part}
use Rattle.ll_engine.specs.declared.symbol.Row.{Row}
use Rattle.ll_engine.specs.Derivation.{Production, Forest, empty, leaf, node, DerivesSymbols, leaves}
use Rattle.ll_engine.specs.Prediction.{IsNullable}
use Rattle.ll_engine.specs.View.{productions}
use Rattle.ll_engine.specs.Computed.{is_marked, all_marked}
use Rattle.ll_engine.specs.Answers.{AreDeriving, HasPartsBelow}
use Rattle.ll_engine.proofs.MarkRounds.{DerivesPassing-all_marked, DerivesPassing-row, all_marked-DerivesPassing}

-- the test says which parts derive the empty list
pub record DecidesNullable (rows : List Production) (nullable : ℕ → Bool) : Type 0 where
  pub sound : (part : ℕ) → nullable part ≡ true → IsNullable rows (Part part ∷ [])
  pub complete : (part : ℕ) → IsNullable rows (Part part ∷ []) → nullable part ≡ true

part_below : (rows : List Row) (parts : ℕ) → HasPartsBelow rows parts → (tree : Forest) (part : ℕ)
    → DerivesSymbols (productions rows) tree (Part part ∷ []) → part < parts
part_below rows parts below empty part d = absurd d
part_below rows parts below (leaf t rest) part d = absurd d
part_below rows parts below (node r under rest) part d = let e = d.2 in let b = below r d.0 d.1 in omega arith

pub DecidesNullable-marks : (rows : List Row) (parts : ℕ) (marks : List Bool) → HasPartsBelow rows parts
    → AreDeriving rows parts false marks →
    DecidesNullable (productions rows) (is_marked marks)
DecidesNullable-marks rows parts marks below a = record {
  sound = λ part h. let d = a.sound part h in (d.0, d.1, d.2 refl);
  complete = λ part d. a.complete part (part_below rows parts below d.0 part d.1) (d.0, d.1, λ _. d.2);
}

module _ (rows : List Production) (nullable : ℕ → Bool) (decides : DecidesNullable rows nullable) where
  -- a list of symbols passes where it derives the empty list
  pub IsNullable-all_marked : (symbols : List Symbol) → all_marked nullable false symbols ≡ true → IsNullable rows symbols
  IsNullable-all_marked symbols h =
      let d = DerivesPassing-all_marked rows false nullable (λ part marked. let n = decides.sound part marked in (n.0, n.1, λ _. n.2))
      symbols h in
      (d.0, d.1, d.2 refl)

  pub nullable-row : (r : ℕ) (row : Production) → slice_get rows r ≡ Some row → all_marked nullable false row.right ≡ true
      → nullable row.left ≡ true
  nullable-row r row is h =
      let right = IsNullable-all_marked row.right h in
      let d = DerivesPassing-row rows false r row is (right.0, right.1, λ _. right.2) in
      decides.complete row.left (d.0, d.1, d.2 refl)

  pub all_marked-leaves : (f : Forest) (symbols : List Symbol) → DerivesSymbols rows f symbols → leaves f ≡ []
      → all_marked nullable false symbols ≡ true
  all_marked-leaves f symbols d e = all_marked-DerivesPassing rows false nullable nullable-row f symbols d (λ _. e)

  pub all_marked-IsNullable : (symbols : List Symbol) → IsNullable rows symbols → all_marked nullable false symbols ≡ true
  all_marked-IsNullable symbols n = all_marked-leaves n.0 symbols n.1 n.2
