-- What the test of identity obeys.
use Rattle.std.specs.Prelude.{◌≡◌, ◌↔◌, IsTrue}
use Rattle.lotos_base.specs.Substitution.{Substitution}
use Rattle.behaviour_semantics.specs.Behaviour.{Behaviour}
use Rattle.behaviour_semantics.specs.Replacement.{with_values}
use Rattle.certificate_theory.specs.Identity.{same_with, same_behaviour}

pub record IdentityOfBehavioursIsDecided : Type 0 where
  -- the test is true exactly where the two behaviours with terms put in are one behaviour
  pub put_in :
      (first second : Substitution) (b c : Behaviour) →
      IsTrue (same_with first second b c) ↔ (with_values first b ≡ with_values second c)
  -- and exactly where they are one as they are
  pub as_they_are : (b c : Behaviour) → IsTrue (same_behaviour b c) ↔ (b ≡ c)
