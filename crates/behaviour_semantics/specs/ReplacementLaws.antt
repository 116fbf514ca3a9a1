-- What putting terms into behaviours obeys.
use Rattle.std.specs.Prelude.{◌≡◌, ◌≤◌, ◌⊎◌, ℕ}
use Rattle.lotos_base.specs.Term.{variable}
use Rattle.lotos_base.specs.Sorting.{Occurs}
use Rattle.lotos_base.specs.Substitution.{Substitution, followed_by}
use Rattle.behaviour_semantics.specs.Behaviour.{Behaviour}
use Rattle.behaviour_semantics.specs.Replacement.{with_values}
use Rattle.behaviour_semantics.specs.Draft.{above}

-- No binder with numbers below `base` catches a variable of the terms: each is the variable that it stands for, or has
-- variables from `base` on alone, as a ground term has.
abbrev pub IsApart : ℕ → Substitution → Type 0
IsApart base values = (n s : ℕ) → (values n s ≡ variable n s) ⊎ ((m r : ℕ) → Occurs m r (values n s) → base ≤ m)

-- Putting in each variable for itself changes nothing, and putting in terms and then others is putting in the terms with
-- the others in them, where no binder of the behaviour catches a variable of the first terms.
pub record ReplacementsCompose : Type 0 where
  pub identity : (b : Behaviour) → with_values variable b ≡ b
  pub twice :
      (base : ℕ) (first second : Substitution) (b : Behaviour) →
      above b ≤ base →
      IsApart base first →
      with_values second (with_values first b) ≡ with_values (followed_by first second) b
