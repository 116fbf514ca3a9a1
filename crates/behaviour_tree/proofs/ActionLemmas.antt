-- Two actions are identical where their gates, offers, tests and the behaviours after them are.
use Rattle.std.proofs.Common.{◌≡◌, ◌↔◌, IsTrue, ℕ, List, Bool, false, Option, subst}
use Rattle.lotos_base.specs.Substitution.{Substitution}
use Rattle.behaviour_semantics.specs.Behaviour.{Behaviour, Offer, Test, action}
use Rattle.behaviour_semantics.specs.Replacement.{with_values}
use Rattle.behaviour_tree.specs.BehaviourView.{behaviour_of}
use Rattle.behaviour_tree.specs.declared.behaviours.Beh.{Beh}

pub same_actions : (g h : ℕ) (os ps : List Offer) (t u : Option Test) (b c : Behaviour) (r : Bool) → g ≡ h → os ≡ ps → t ≡ u
    → IsTrue r ↔ (b ≡ c) → IsTrue r ↔ (action g os t b ≡ action h ps u c)
same_actions g h os ps t u b c r e f k told = (
  (λ is. let inner : b ≡ c = told.0 is in λ i. action (e i) (f i) (k i) (inner i)),
  (λ same. let inner : b ≡ c = cc in told.1 inner),
)

pub other_actions : (g h : ℕ) (os ps : List Offer) (t u : Option Test) (b c : Behaviour) (r : Bool) → r ≡ false
    → IsTrue r ↔ (t ≡ u) → IsTrue r ↔ (action g os t b ≡ action h ps u c)
other_actions g h os ps t u b c r not told = (
  (λ is. absurd (cc (is, not))),
  (λ same. let tests : t ≡ u = cc in told.1 tests),
)

-- The same of behaviours that are found behind references.
pub behind : {r : Bool} (v w : Substitution) (x y x' y' : Beh) → x ≡ x' → y ≡ y'
    → IsTrue r ↔ (with_values v (behaviour_of x) ≡ with_values w (behaviour_of y))
    → IsTrue r ↔ (with_values v (behaviour_of x') ≡ with_values w (behaviour_of y'))
behind {r = r} v w x y x' y' e f told =
    subst (λ (z : Beh). IsTrue r ↔ (with_values v (behaviour_of z) ≡ with_values w (behaviour_of y'))) e
    (subst (λ (z : Beh). IsTrue r ↔ (with_values v (behaviour_of x) ≡ with_values w (behaviour_of z))) f told)
