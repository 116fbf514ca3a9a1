-- Tests that hold and tests that fail.
use Rattle.std.proofs.Common.{◌≡◌, List, [], ◌∷◌, None, Some, Bool, true, false, if◌then◌else◌, ap}
use Rattle.std.proofs.lemmas.Bool.{false_from_ne_true}
use Rattle.lotos_base.specs.Term.{Term}
use Rattle.lotos_base.specs.Tests.{term_eq}
use Rattle.lotos_base.proofs.TestLemmas.{Decides-term_eq}
use Rattle.behaviour_semantics.specs.Behaviour.{Test}
use Rattle.behaviour_semantics.specs.Fault.{Wrong, first_unmet, unmet}

module _ (canon : Term → Term) (test : Test) (rest : List Test) where
  pub met : canon test.left ≡ canon test.right → first_unmet canon (test ∷ rest) ≡ first_unmet canon rest
  met e =
      ap (λ (b : Bool). if b then first_unmet canon rest else Some (unmet (canon test.left) (canon test.right)))
      ((Decides-term_eq (canon test.left) (canon test.right)).1 e)

  pub differs : (canon test.left ≡ canon test.right → ⊥)
      → first_unmet canon (test ∷ rest) ≡ Some (unmet (canon test.left) (canon test.right))
  differs h =
      ap (λ (b : Bool). if b then first_unmet canon rest else Some (unmet (canon test.left) (canon test.right)))
      (false_from_ne_true (term_eq (canon test.left) (canon test.right))
      (λ e. h ((Decides-term_eq (canon test.left) (canon test.right)).0 e)))

  -- a test that fails alone fails before others
  pub carried : (w : Wrong) → first_unmet canon (test ∷ []) ≡ Some w → first_unmet canon (test ∷ rest) ≡ Some w
  carried w e = by (term_eq (canon test.left) (canon test.right)) e
    where
      by : (b : Bool) → (if b then None else Some (unmet (canon test.left) (canon test.right))) ≡ Some w
          → (if b then first_unmet canon rest else Some (unmet (canon test.left) (canon test.right))) ≡ Some w
      by true none = absurd (cc none)
      by false some = some
