-- A behaviour of the code with its form, of which the parts are read from their boxes.
use Rattle.std.proofs.Common.{◌≡◌, ◌<◌, ℕ, ◌+◌, ◌*◌, List, ◌++◌, ap, sym, ◌∙◌, subst}
use Rattle.lotos_base.specs.Equation.{Variable}
use Rattle.behaviour_semantics.specs.Behaviour as plain
use Rattle.behaviour_semantics.specs.Behaviour.{Behaviour, enable}
use Rattle.sort_terms.specs.ProfiledTerm.{ProfiledTerm}
use Rattle.behaviour_tree.specs.BehaviourTerms.{profiles_in}
use Rattle.behaviour_tree.specs.BehaviourView.{behaviour_of}
use Rattle.behaviour_tree.specs.declared.behaviours.Beh.{Beh}
use Rattle.draft_parts.specs.HandedOn.{Draft}
use Rattle.menu_builder.specs.Placed.{AreDraftsPlaced, Basis, IsPlaced}
use Rattle.menu_builder.proofs.ArmLemmas.{even_below_odd}
use Rattle.menu_builder.proofs.EffortLemmas.{effort}

module _ (basis : Basis) (first : ℕ) (pairs : List (ℕ × ProfiledTerm)) where
  -- what is placed or listed is so as another behaviour that is the same, with the same terms
  placed_as : (b c : Behaviour) (terms others : List ProfiledTerm) → b ≡ c → terms ≡ others → IsPlaced basis first b terms pairs
      → IsPlaced basis first c others pairs
  placed_as b c terms others is has p =
      subst (λ (ts : List ProfiledTerm). IsPlaced basis first c ts pairs) has
      (subst (λ (x : Behaviour). IsPlaced basis first x terms pairs) is p)

  listed_as : (b c : Behaviour) (terms others : List ProfiledTerm) → b ≡ c → terms ≡ others → (made : List Draft)
      → AreDraftsPlaced basis first c others pairs made → AreDraftsPlaced basis first b terms pairs made
  listed_as b c terms others is has made h =
      subst (λ (x : Behaviour). AreDraftsPlaced basis first x terms pairs made) (sym is)
      (subst (λ (ts : List ProfiledTerm). AreDraftsPlaced basis first c ts pairs made) (sym has) h)

  -- ---- One part.
  module _ (b : Beh) (form : Beh → Behaviour) (terms : Beh → List ProfiledTerm) (part read : Beh) (e : read ≡ part)
      (is : behaviour_of b ≡ form part) (has : profiles_in b ≡ terms part) where
    pub whole_placed : IsPlaced basis first (behaviour_of b) (profiles_in b) pairs → IsPlaced basis first (form read) (terms read) pairs
    whole_placed p =
        placed_as (behaviour_of b) (form read) (profiles_in b) (terms read) (is ∙ ap form (sym e)) (has ∙ ap terms (sym e)) p

    pub whole_listed : (made : List Draft) → AreDraftsPlaced basis first (form read) (terms read) pairs made
        → AreDraftsPlaced basis first (behaviour_of b) (profiles_in b) pairs made
    whole_listed made h =
        listed_as (behaviour_of b) (form read) (profiles_in b) (terms read) (is ∙ ap form (sym e)) (has ∙ ap terms (sym e)) made h

  -- ---- Two sides.
  module _ (b : Beh) (form : Beh → Beh → Behaviour) (left first_read right second_read : Beh) (e : first_read ≡ left)
      (f : second_read ≡ right) (is : behaviour_of b ≡ form left right)
      (has : profiles_in b ≡ profiles_in left ++ profiles_in right) where
    same_form : behaviour_of b ≡ form first_read second_read
    same_form = is ∙ ap (λ (x : Beh). form x right) (sym e) ∙ ap (form first_read) (sym f)

    same_terms : profiles_in b ≡ profiles_in first_read ++ profiles_in second_read
    same_terms =
        has ∙ ap (λ (x : Beh). profiles_in x ++ profiles_in right) (sym e)
        ∙ ap (λ (y : Beh). profiles_in first_read ++ profiles_in y) (sym f)

    pub both_placed : IsPlaced basis first (behaviour_of b) (profiles_in b) pairs
        → IsPlaced basis first (form first_read second_read) (profiles_in first_read ++ profiles_in second_read) pairs
    both_placed p =
        placed_as (behaviour_of b) (form first_read second_read) (profiles_in b) (profiles_in first_read ++ profiles_in second_read)
        same_form same_terms p

    pub both_listed : (made : List Draft)
        → AreDraftsPlaced basis first (form first_read second_read) (profiles_in first_read ++ profiles_in second_read) pairs made
        → AreDraftsPlaced basis first (behaviour_of b) (profiles_in b) pairs made
    both_listed made h =
        listed_as (behaviour_of b) (form first_read second_read) (profiles_in b) (profiles_in first_read ++ profiles_in second_read)
        same_form same_terms made h

-- an enabling whose left side is read from its box
pub enable_read : (basis : Basis) (first : ℕ) (pairs : List (ℕ × ProfiledTerm)) (part read : Beh) → read ≡ part
    → (variables : List Variable) (made : List Draft)
    → ((right : Behaviour) (terms : List ProfiledTerm)
    → AreDraftsPlaced basis first (enable (behaviour_of read) variables right) (profiles_in read ++ terms) pairs made)
    → (right : Behaviour) (terms : List ProfiledTerm)
    → AreDraftsPlaced basis first (enable (behaviour_of part) variables right) (profiles_in part ++ terms) pairs made
enable_read basis first pairs part read e variables made h right terms =
    subst (λ (x : Beh). AreDraftsPlaced basis first (enable (behaviour_of x) variables right) (profiles_in x ++ terms) pairs made) e
    (h right terms)

-- the form is less to list than the behaviour
pub whole_less : (rank : ℕ → ℕ) (processes : List plain.Process) (b : Beh) (form : Beh → Behaviour) (part read : Beh)
    → behaviour_of b ≡ form part → read ≡ part
    → 2 * effort rank processes (form read) < 2 * effort rank processes (behaviour_of b) + 1
whole_less rank processes b form part read is e =
    even_below_odd _ _ (ap (λ (c : Behaviour). effort rank processes c) (ap form e ∙ sym is))

pub both_less : (rank : ℕ → ℕ) (processes : List plain.Process) (b : Beh) (form : Beh → Beh → Behaviour)
    (left first_read right second_read : Beh) → behaviour_of b ≡ form left right → first_read ≡ left → second_read ≡ right
    → 2 * effort rank processes (form first_read second_read) < 2 * effort rank processes (behaviour_of b) + 1
both_less rank processes b form left first_read right second_read is e f =
    even_below_odd _ _
    (ap (λ (c : Behaviour). effort rank processes c)
    (ap (λ (x : Beh). form x second_read) e ∙ ap (form left) f ∙ sym is))
