-- Laws of canons, and what holds of data without equations.
use Rattle.std.specs.Prelude.{◌≡◌, ◌↔◌, ℕ, []}
use Rattle.lotos_base.specs.Term.{Term}
use Rattle.lotos_base.specs.Sorting.{IsTermOf, IsGroundOf}
use Rattle.lotos_base.specs.Substitution.{Substitution, substituted, renaming, KeepsSorts}
use Rattle.lotos_base.specs.Equation.{Data}
use Rattle.lotos_base.specs.Equality.{Equal}
use Rattle.lotos_base.specs.Canon.{KeepsApart, IsCanon}

-- where there are no equations, terms are equal exactly where they are identical
abbrev pub WithoutEquationsEqualIsIdentical : Type 0
WithoutEquationsEqualIsIdentical = (data_ : Data) (t u : Term) → data_.equations ≡ []
    → Equal data_ t u ↔ (t ≡ u)

-- where there are no equations, the identity function is a canon
abbrev pub WithoutEquationsIdentityIsCanon : Type 0
WithoutEquationsIdentityIsCanon = (data_ : Data) → data_.equations ≡ [] → IsCanon data_ (λ t. t)

-- the canon of a ground term is a ground term of the same sort that is equal to it
abbrev pub CanonsAreEqualToTheirTerms : Type 0
CanonsAreEqualToTheirTerms = (data_ : Data) (canon : Term → Term) (t : Term) (s : ℕ) → IsCanon data_ canon
    → IsGroundOf data_.signature s t → IsGroundOf data_.signature s (canon t) × Equal data_ (canon t) t

-- ground terms of one sort are equal exactly where their canons are identical
abbrev pub CanonsDecideEquality : Type 0
CanonsDecideEquality = (data_ : Data) (canon : Term → Term) (t u : Term) (s : ℕ) → IsCanon data_ canon
    → IsGroundOf data_.signature s t → IsGroundOf data_.signature s u → Equal data_ t u ↔ (canon t ≡ canon u)

-- a term may be put into its canon before or after terms are put for its variables
abbrev pub CanonsPassThroughInstances : Type 0
CanonsPassThroughInstances = (data_ : Data) (canon : Term → Term) (t : Term) (values : Substitution)
    → IsCanon data_ canon → IsTermOf data_.signature t → KeepsSorts data_.signature t values
    → canon (substituted values (canon t)) ≡ canon (substituted values t)

-- a term that is its own canon stays so when its variables are renamed apart
abbrev pub RenamedCanonsAreCanons : Type 0
RenamedCanonsAreCanons = (data_ : Data) (canon : Term → Term) (t : Term) (number : ℕ → ℕ → ℕ)
    → IsCanon data_ canon → IsTermOf data_.signature t → KeepsApart number t → canon t ≡ t
    → canon (substituted (renaming number) t) ≡ substituted (renaming number) t

-- two data call the same ground terms of a sort equal
abbrev pub HaveSameEquality : Data → Data → Type 0
HaveSameEquality data_ other = (t u : Term) (s : ℕ) → IsGroundOf data_.signature s t → IsGroundOf data_.signature s u
    → Equal data_ t u ↔ Equal other t u

-- a canon of data is one of any data with the same signature and the same equality
abbrev pub CanonsHangOnEqualityAlone : Type 0
CanonsHangOnEqualityAlone = (data_ other : Data) (canon : Term → Term) → data_.signature ≡ other.signature
    → HaveSameEquality data_ other → IsCanon data_ canon → IsCanon other canon
