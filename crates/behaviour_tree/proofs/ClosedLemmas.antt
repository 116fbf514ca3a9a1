-- What closes a node closes each copy of it.
use Rattle.std.proofs.Common.{◌≡◌, ℕ, zero, suc, List, [], ◌∷◌, map, slice_get, Some, ap, sym, ◌∙◌, subst, ◌++◌}
use Rattle.std.proofs.lemmas.Option.{same_Some, none-some}
use Rattle.lotos_base.specs.Term.{Term}
use Rattle.lotos_base.specs.Equation.{Variable}
use Rattle.lotos_base.specs.Sorting.{IsGround}
use Rattle.lotos_base.specs.Signature.{Signature}
use Rattle.behaviour_semantics.specs.Behaviour.{Behaviour}
use Rattle.behaviour_semantics.specs.WellFormed.{Every}
use Rattle.behaviour_semantics.proofs.ListLemmas.{Every-append}
use Rattle.sort_terms.specs.ProfiledTerm.{head_sort, ProfiledTerm, IsOf}
use Rattle.sort_terms.specs.SortedView.{profiled_in, term_in}
use Rattle.sort_terms.specs.declared.sorted.Sorted.{Sorted}
use Rattle.behaviour_tree.specs.BehaviourView.{terms_of}
use Rattle.behaviour_tree.specs.Closed.{AreGroundValues, IsClosedBy, IsClosedNode, IsClosedUnder, IsGivenOnce}
use Rattle.behaviour_tree.specs.declared.states.Node.{Node}
use Rattle.behaviour_tree.specs.StateView.{environment_of, environment_pair_of, pair_profile}
use Rattle.behaviour_tree.specs.Over.{AreTermsOf}

-- Environments with the same variables, values and profiles.
record AreAlike (made given : List (ℕ × Sorted)) : Type 0 where
  pub same : environment_of made ≡ environment_of given
  pub terms : map pair_profile made ≡ map pair_profile given

rest_alike : (p q : ℕ × Sorted) (made given : List (ℕ × Sorted)) → AreAlike (p ∷ made) (q ∷ given) → AreAlike made given
rest_alike p q made given h = record { same = cc h.same; terms = cc h.terms }

first_number : (p q : ℕ × Sorted) (made given : List (ℕ × Sorted)) → AreAlike (p ∷ made) (q ∷ given) → p.0 ≡ q.0
first_number p q made given h = let e : environment_pair_of p ≡ environment_pair_of q = cc h.same in ap (λ (pair : ℕ × Term). pair.0) e

first_profile : (p q : ℕ × Sorted) (made given : List (ℕ × Sorted)) → AreAlike (p ∷ made) (q ∷ given)
    → profiled_in p.1 ≡ profiled_in q.1
first_profile p q made given h = cc h.terms

alike_back : (made given : List (ℕ × Sorted)) → AreAlike made given → AreAlike given made
alike_back made given h = record { same = sym h.same; terms = sym h.terms }

-- The pair at a position of the one stands for that of the other.
record StandsThere (given : List (ℕ × Sorted)) (k n s : ℕ) : Type 0 where
  pub value : Sorted
  pub given_there : slice_get given k ≡ Some (n, value)
  pub sorted : head_sort (profiled_in value) ≡ s

stands_there : (made given : List (ℕ × Sorted)) → AreAlike made given → (k n : ℕ) (value : Sorted)
    → slice_get given k ≡ Some (n, value) → StandsThere made k n (head_sort (profiled_in value))
stands_there [] [] h k n value at = absurd (none-some (n, value) at)
stands_there [] (q ∷ given) h k n value at = absurd (cc h.same)
stands_there (p ∷ made) [] h k n value at = absurd (none-some (n, value) at)
stands_there (p ∷ made) (q ∷ given) h zero n value at = record {
  value = p.1;
  given_there = ap (λ (m : ℕ). let pair : ℕ × Sorted = (m, p.1) in Some pair)
      (first_number p q made given h ∙ ap (λ (pair : ℕ × Sorted). pair.0) is);
  sorted = ap head_sort (first_profile p q made given h ∙ ap (λ (pair : ℕ × Sorted). profiled_in pair.1) is);
}
  where
    is : q ≡ (n, value)
    is = same_Some q (n, value) at
stands_there (p ∷ made) (q ∷ given) h (suc k) n value at =
    let there : StandsThere made k n (head_sort (profiled_in value)) =
    stands_there made given (rest_alike p q made given h) k n value at in
    record { value = there.value; given_there = there.given_there; sorted = there.sorted }

given_alike : (made given : List (ℕ × Sorted)) → AreAlike made given → (n s : ℕ) → IsGivenOnce given n s → IsGivenOnce made n s
given_alike made given h n s once = record {
  position = once.position;
  value = there.value;
  given = there.given_there;
  sorted = there.sorted ∙ once.sorted;
  once = λ k other at.
      let back : StandsThere given k n (head_sort (profiled_in other)) =
      stands_there given made (alike_back made given h) k n other at in
      once.once k back.value back.given_there;
}
  where
    there : StandsThere made once.position n (head_sort (profiled_in once.value))
    there = stands_there made given h once.position n once.value once.given

ground_alike : (made given : List (ℕ × Sorted)) → AreAlike made given → AreGroundValues given → AreGroundValues made
ground_alike [] given h ground = tt
ground_alike (p ∷ made) [] h ground = absurd (cc h.same)
ground_alike (p ∷ made) (q ∷ given) h ground = (
  subst (λ (t : Term). IsGround t) (sym (ap (λ (pair : ℕ × Term). pair.1) is)) ground.0,
  ground_alike made given (rest_alike p q made given h) ground.1,
)
  where
    is : environment_pair_of p ≡ environment_pair_of q
    is = cc h.same

-- A behaviour with its environment.
pub closed_alike : (made given : List (ℕ × Sorted)) (copy b : Behaviour) → environment_of made ≡ environment_of given
    → map pair_profile made ≡ map pair_profile given → copy ≡ b → IsClosedBy given b → IsClosedBy made copy
closed_alike made given copy b same terms e closed =
    subst (λ (whole : Behaviour). IsClosedBy made whole) (sym e) (record {
      given = λ n s free. given_alike made given alike n s (closed.given n s free);
      grounded = ground_alike made given alike closed.grounded;
    })
  where
    alike : AreAlike made given
    alike = record { same = same; terms = terms }

-- The same below a binder.
pub closed_under_alike : (made given : List (ℕ × Sorted)) (bound variables : List Variable) (copy b : Behaviour)
    → environment_of made ≡ environment_of given → map pair_profile made ≡ map pair_profile given → bound ≡ variables → copy ≡ b
    → IsClosedUnder variables given b → IsClosedUnder bound made copy
closed_under_alike made given bound variables copy b same terms e f closed =
    subst (λ (binder : List Variable). IsClosedUnder binder made copy) (sym e)
    (subst (λ (whole : Behaviour). IsClosedUnder variables made whole) (sym f) (record {
      given = λ n s left free. given_alike made given alike n s (closed.given n s left free);
      grounded = ground_alike made given alike closed.grounded;
    }))
  where
    alike : AreAlike made given
    alike = record { same = same; terms = terms }

-- The values of a call.
pub values_alike : (made given : List Sorted) → terms_of made ≡ terms_of given
    → Every (λ (value : Sorted). IsGround (term_in value)) given → Every (λ (value : Sorted). IsGround (term_in value)) made
values_alike [] given e ground = tt
values_alike (v ∷ made) [] e ground = absurd (cc e)
values_alike (v ∷ made) (w ∷ given) e ground = (subst (λ (t : Term). IsGround t) (sym is) ground.0, values_alike made given (cc e) ground.1)
  where
    is : term_in v ≡ term_in w
    is = cc e

-- The node itself.
pub same_closed : (made given : Node) → made ≡ given → IsClosedNode given → IsClosedNode made
same_closed made given e closed = subst (λ (node : Node). IsClosedNode node) (sym e) closed

pub terms_both : (signature : Signature) (first second : List ProfiledTerm) → AreTermsOf signature first → AreTermsOf signature second
    → AreTermsOf signature (first ++ second)
terms_both signature first second h k = Every-append (IsOf signature) first second h k
