-- What lists that agree one by one have at one place.
use Rattle.std.proofs.Common.{◌≡◌, ℕ, zero, suc, List, [], ◌∷◌, length, Option, None, Some, refl, ap, subst}
use Rattle.std.specs.Prelude.{slice_get}
use Rattle.lotos_base.specs.Signature.{Operation}
use Rattle.behaviour_semantics.specs.Behaviour.{Process}
use Rattle.behaviour_semantics.proofs.OptionLemmas.{some_value}
use Rattle.certificate_theory.specs.SameData.{AreSameOperations}
use Rattle.declaration_laws.specs.SameSpecification.{AreOneProcess, AreSameProcesses}

-- both are there and are related, or neither is there
abbrev pub Both : {X : Type 0} → (X → X → Type 0) → Option X → Option X → Type 0
Both R None None = Unit {0}
Both R (Some x) (Some y) = R x y
Both R _ _ = ⊥

-- what is found for the one has its like
pub like : {X : Type 0} (R : X → X → Type 0) (one other : Option X) → Both R one other → (x : X) → one ≡ Some x
    → (y : X) × (other ≡ Some y) × R x y
like R None None both x is = let none : None ≡ Some x = is in absurd cc
like R None (Some y) both x is = absurd both
like R (Some z) None both x is = absurd both
like R (Some z) (Some y) both x is = (y, refl, subst (λ (a : _). R a y) (some_value is) both)

pub as_many_operations : (operations others : List Operation) → AreSameOperations operations others → length operations ≡ length others
as_many_operations [] [] same = refl
as_many_operations (o ∷ operations) (p ∷ others) same = ap suc (as_many_operations operations others same.1)
as_many_operations [] (p ∷ others) same = absurd same
as_many_operations (o ∷ operations) [] same = absurd same

pub processes_found : (processes others : List Process) → AreSameProcesses processes others → (n : ℕ)
    → Both AreOneProcess (slice_get processes n) (slice_get others n)
processes_found [] [] same n = tt
processes_found (p ∷ processes) (q ∷ others) same zero = same.0
processes_found (p ∷ processes) (q ∷ others) same (suc n) = processes_found processes others same.1 n
processes_found [] (q ∷ others) same n = absurd same
processes_found (p ∷ processes) [] same n = absurd same
