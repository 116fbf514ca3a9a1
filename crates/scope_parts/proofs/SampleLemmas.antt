-- The places of the sample rise: a test says so.
use Rattle.std.proofs.Common.{◌≡◌, List, [], ◌∷◌, Bool, true, ◌&&◌, inl, inr, refl, sym, subst}
use Rattle.std.specs.Cmp.{first_so, second_so}
use Rattle.lotos_base.specs.Equation.{Place}
use Rattle.behaviour_semantics.specs.WellFormed.{Every}
use Rattle.scope_parts.specs.ScopeFault.{stands_before}
use Rattle.scope_parts.specs.Order.{IsOneOfPlaces, StandWhollyBefore, InTurn, Rising}
use Rattle.scope_parts.specs.Sample.{column, sample_heading, sample_offer, sample_end, sample_body, SampleRises}
use Rattle.scope_parts.specs.PartPlaces.{OffersFollowOn}
use Rattle.scope_parts.specs.BehaviourPlaces.{behaviour_places, Follows}
use Rattle.scope_parts.specs.TextOrder.{HeadingFollows, definition_places, DefinitionFollows}

abbrev one_test : Place → List Place → Bool
one_test p [] = true
one_test p (q ∷ qs) = stands_before p q && one_test p qs

abbrev before_test : List Place → List Place → Bool
before_test [] qs = true
before_test (p ∷ ps) qs = one_test p qs && before_test ps qs

abbrev each_test : List Place → List (List Place) → Bool
each_test ps [] = true
each_test ps (qs ∷ rest) = before_test ps qs && each_test ps rest

abbrev turn_test : List (List Place) → Bool
turn_test [] = true
turn_test (ps ∷ rest) = each_test ps rest && turn_test rest

abbrev rising_test : List Place → Bool
rising_test [] = true
rising_test (p ∷ ps) = before_test (p ∷ []) ps && rising_test ps

one_tested : (p q : Place) (qs : List Place) → one_test p qs ≡ true → IsOneOfPlaces q qs → stands_before p q ≡ true
one_tested p q [] e is = absurd is
one_tested p q (r ∷ qs) e (inl is) =
    subst (λ (x : Place). stands_before p x ≡ true) (sym is) (first_so (stands_before p r) (one_test p qs) e)
one_tested p q (r ∷ qs) e (inr is) = one_tested p q qs (second_so (stands_before p r) (one_test p qs) e) is

before_tested : (ps qs : List Place) → before_test ps qs ≡ true → StandWhollyBefore ps qs
before_tested [] qs e p q here there = absurd here
before_tested (r ∷ ps) qs e p q (inl here) there =
    subst (λ (x : Place). stands_before x q ≡ true) (sym here)
    (one_tested r q qs (first_so (one_test r qs) (before_test ps qs) e) there)
before_tested (r ∷ ps) qs e p q (inr here) there =
    before_tested ps qs (second_so (one_test r qs) (before_test ps qs) e) p q here there

each_tested : (ps : List Place) (rest : List (List Place)) → each_test ps rest ≡ true → Every (StandWhollyBefore ps) rest
each_tested ps [] e = tt
each_tested ps (qs ∷ rest) e = (
  before_tested ps qs (first_so (before_test ps qs) (each_test ps rest) e),
  each_tested ps rest (second_so (before_test ps qs) (each_test ps rest) e),
)

turn_tested : (lists : List (List Place)) → turn_test lists ≡ true → InTurn lists
turn_tested [] e = tt
turn_tested (ps ∷ rest) e = (
  each_tested ps rest (first_so (each_test ps rest) (turn_test rest) e),
  turn_tested rest (second_so (each_test ps rest) (turn_test rest) e),
)

rising_tested : (ps : List Place) → rising_test ps ≡ true → Rising ps
rising_tested [] e = tt
rising_tested (p ∷ ps) e = (
  before_tested (p ∷ []) ps (first_so (before_test (p ∷ []) ps) (rising_test ps) e),
  rising_tested ps (second_so (before_test (p ∷ []) ps) (rising_test ps) e),
)

offers_follow : OffersFollowOn (sample_offer 43 ∷ sample_offer 46 ∷ [])
offers_follow = (rising_tested (column 43 ∷ column 46 ∷ []) refl, ((inl refl, tt), (tt, tt)))

end_follows : Follows sample_end
end_follows = (turn_tested ((column 54 ∷ []) ∷ [] ∷ [] ∷ [] ∷ []) refl, (tt, tt), tt)

body_follows : Follows sample_body
body_follows = (
  turn_tested
      ((column 40 ∷ []) ∷ (column 43 ∷ column 46 ∷ column 51 ∷ column 51 ∷ []) ∷ [] ∷ (column 54 ∷ []) ∷ []) refl,
  offers_follow,
  end_follows,
)

heading_follows : HeadingFollows sample_heading
heading_follows = (
  turn_tested ((column 18 ∷ []) ∷ [] ∷ [] ∷ []) refl,
  rising_tested (column 18 ∷ []) refl,
  (tt, tt),
  tt,
)

definition_follows : DefinitionFollows sample_heading sample_body
definition_follows = (
  turn_tested ((column 18 ∷ []) ∷ behaviour_places sample_body ∷ []) refl,
  heading_follows,
  body_follows,
)

pub sample_rises : SampleRises
sample_rises = (
  turn_tested (definition_places sample_heading sample_body ∷ [] ∷ []) refl,
  definition_follows,
  tt,
)
