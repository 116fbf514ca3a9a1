-- Drafts with the same outcomes: alike once tidied, or one a step of solving behind the other.
use Rattle.std.proofs.Common.{◌≡◌, ◌++◌, ℕ, List, [], ◌∷◌, map, Option, None, Some, Bool, true, false, ◌&&◌, ◌||◌, not, cond, refl, ap, sym, ◌∙◌, subst}
use Rattle.std.specs.Prelude.{◌↔◌}
use Rattle.std.proofs.lemmas.Bool.{and_parts}
use Rattle.lotos_base.specs.Term.{Term}
use Rattle.lotos_base.specs.Tests.{term_eq, is_ground}
use Rattle.lotos_base.specs.Equation.{Data}
use Rattle.lotos_base.specs.Substitution.{Substitution, substituted}
use Rattle.lotos_base.specs.Canon.{IsCanon}
use Rattle.lotos_base.proofs.SubstitutionLemmas.{substituted_ground}
use Rattle.lotos_base.proofs.TestLemmas.{Decides-term_eq, Decides-is_ground}
use Rattle.behaviour_semantics.specs.Behaviour.{Test}
use Rattle.behaviour_semantics.specs.Replacement.{test_with}
use Rattle.behaviour_semantics.specs.Draft.{Draft}
use Rattle.behaviour_semantics.specs.Solving.{Entry, entry_of, test_in, differing, has_closed, tidied, first_found, replacement_of, first_replacement, replaced, SolvesTo, unsolvable, settled, replacing}
use Rattle.behaviour_semantics.specs.SolvingLaws.{IsCanonical}
use Rattle.behaviour_semantics.specs.WellFormed.{Every}
use Rattle.behaviour_semantics.specs.DraftOrder.{IsInOrder}
use Rattle.behaviour_semantics.proofs.OptionLemmas.{some_value}
use Rattle.behaviour_semantics.proofs.SolvingLemmas.{determined}
use Rattle.behaviour_semantics.proofs.SolvedForms.{Tidy, tidy_tests}
use Rattle.behaviour_semantics.proofs.ReplacementsInOrder.{put_for}

-- ---- Conditions that are dropped.

-- Dropping the conditions with identical sides before a change of terms makes no difference once they are dropped after.
pub differing-before : (f : Term → Term) (tests : List Test) → differing (map (test_in f) (differing tests)) ≡ differing
    (map (test_in f) tests)
differing-before f [] = refl
differing-before f (test ∷ tests) = by (term_eq test.left test.right) refl (differing-before f tests)
  where
    abrupt : (same : Bool) → term_eq (f test.left) (f test.right) ≡ same → term_eq test.left test.right ≡ true → same ≡ true
    abrupt same e identical = sym e ∙ (Decides-term_eq (f test.left) (f test.right)).1
        (ap f ((Decides-term_eq test.left test.right).0 identical))

    by : (same : Bool) → term_eq test.left test.right ≡ same → differing (map (test_in f) (differing tests)) ≡ differing
        (map (test_in f) tests)
        → differing (map (test_in f) (cond (not same) (test ∷ differing tests) (differing tests))) ≡ differing
        (map (test_in f) (test ∷ tests))
    by true e rest =
        let gone : term_eq (f test.left) (f test.right) ≡ true = abrupt (term_eq (f test.left) (f test.right)) refl e in
        rest ∙ (let h : differing (map (test_in f) tests) ≡ differing (map (test_in f) (test ∷ tests)) = rw gone refl in h)
    by false e rest = ap (λ (more : List Test). cond (not (term_eq (f test.left) (f test.right))) (test_in f test ∷ more) more) rest

pub differing-append : (tests others : List Test) → differing (tests ++ others) ≡ differing tests ++ differing others
differing-append [] others = refl
differing-append (test ∷ tests) others = by (not (term_eq test.left test.right)) (differing-append tests others)
  where
    by : (keep : Bool) → differing (tests ++ others) ≡ differing tests ++ differing others
        → cond keep (test ∷ differing (tests ++ others)) (differing (tests ++ others)) ≡ cond keep (test ∷ differing tests)
        (differing tests) ++ differing others
    by true rest = ap (λ (more : List Test). test ∷ more) rest
    by false rest = rest

pub first_replacement-append : (tests others : List Test) → first_replacement (tests ++ others) ≡ first_found (first_replacement tests)
    (first_replacement others)
first_replacement-append [] others = refl
first_replacement-append (test ∷ tests) others = by (replacement_of test.left test.right) (first_replacement-append tests others)
  where
    by : (o : Option (ℕ × Term)) → first_replacement (tests ++ others) ≡ first_found (first_replacement tests) (first_replacement others)
        → first_found o (first_replacement (tests ++ others)) ≡ first_found (first_found o (first_replacement tests))
        (first_replacement others)
    by (Some found) rest = refl
    by None rest = rest

pub has_closed-append : (tests others : List Test) → has_closed (tests ++ others) ≡ (has_closed tests || has_closed others)
has_closed-append [] others = refl
has_closed-append (test ∷ tests) others = by (is_ground test.left && is_ground test.right) (has_closed-append tests others)
  where
    by : (b : Bool) → has_closed (tests ++ others) ≡ (has_closed tests || has_closed others)
        → (b || has_closed (tests ++ others)) ≡ ((b || has_closed tests) || has_closed others)
    by true rest = refl
    by false rest = rest

-- ---- The same outcomes.
abbrev pub SameOutcomes : (Term → Term) → Draft → Draft → Type 0
SameOutcomes canon draft other = (outcome : Option Entry) → SolvesTo canon draft outcome ↔ SolvesTo canon other outcome

pub same_then : {canon : Term → Term} {draft other last : Draft} → SameOutcomes canon draft other → SameOutcomes canon other last
    → SameOutcomes canon draft last
same_then h k outcome = ((λ s. (k outcome).0 ((h outcome).0 s)), (λ s. (h outcome).1 ((k outcome).1 s)))

pub same_draft : (canon : Term → Term) (draft other : Draft) → draft ≡ other → SameOutcomes canon draft other
same_draft canon draft other e outcome = (
  subst (λ (d : Draft). SolvesTo canon d outcome) e,
  subst (λ (d : Draft). SolvesTo canon d outcome) (sym e),
)

-- Solving begins with tidying.
from_tidied : {canon : Term → Term} {draft : Draft} {outcome : Option Entry} (other : Draft) → tidied canon draft ≡ tidied canon other
    → SolvesTo canon draft outcome → SolvesTo canon other outcome
from_tidied {canon = canon} other e (unsolvable draft closed) = unsolvable other
    (subst (λ (d : Draft). has_closed d.conditions ≡ true) e closed)
from_tidied {canon = canon} other e (settled draft not_closed none) =
    subst (λ (d : Draft). SolvesTo canon other (Some (entry_of d))) (sym e)
    (settled other (subst (λ (d : Draft). has_closed d.conditions ≡ false) e not_closed)
    (subst (λ (d : Draft). first_replacement d.conditions ≡ None) e none))
from_tidied {canon = canon} other e (replacing draft found outcome not_closed gives rest) =
    replacing other found outcome (subst (λ (d : Draft). has_closed d.conditions ≡ false) e not_closed)
    (subst (λ (d : Draft). first_replacement d.conditions ≡ Some found) e gives)
    (subst (λ (d : Draft). SolvesTo canon (replaced found d) outcome) e rest)

pub same_tidied : (canon : Term → Term) (draft other : Draft) → tidied canon draft ≡ tidied canon other → SameOutcomes canon draft other
same_tidied canon draft other e outcome = (from_tidied other e, from_tidied draft (sym e))

-- Both end with nothing.
pub both_closed : (canon : Term → Term) (draft other : Draft) → has_closed (tidied canon draft).conditions ≡ true
    → has_closed (tidied canon other).conditions ≡ true → SameOutcomes canon draft other
both_closed canon draft other closed closed' outcome = (
  (λ s. subst (SolvesTo canon other) (determined (unsolvable draft closed) s) (unsolvable other closed')),
  (λ s. subst (SolvesTo canon draft) (determined (unsolvable other closed') s) (unsolvable draft closed)),
)

-- A step of solving.
after_step : {canon : Term → Term} {draft : Draft} {outcome : Option Entry} (found : ℕ × Term)
    → has_closed (tidied canon draft).conditions ≡ false → first_replacement (tidied canon draft).conditions ≡ Some found
    → SolvesTo canon draft outcome → SolvesTo canon (replaced found (tidied canon draft)) outcome
after_step found not_yet gives (unsolvable draft closed) = absurd (cc (not_yet, closed))
after_step found not_yet gives (settled draft not_closed none) = absurd (cc (gives, none))
after_step {canon = canon} found not_yet gives (replacing draft other outcome not_closed gives' rest) =
    subst (λ (f : ℕ × Term). SolvesTo canon (replaced f (tidied canon draft)) outcome) (some_value (sym gives' ∙ gives)) rest

module _ (data_ : Data) (canon : Term → Term) (is_canon : IsCanon data_ canon) where
  -- A condition without variables stays as it is.
  closed_stays : (values : Substitution) (tests : List Test) → Every (Tidy canon) tests → has_closed tests ≡ true
      → has_closed (differing (map (test_in canon) (map (test_with values) tests))) ≡ true
  closed_stays values [] tidy closed = absurd (cc closed)
  closed_stays values (test ∷ tests) tidy closed = by (is_ground test.left && is_ground test.right) refl closed
      (closed_stays values tests tidy.1)
    where
      same_side : (t : Term) → is_ground t ≡ true → IsCanonical canon t → canon (substituted values t) ≡ t
      same_side t ground is = ap canon (substituted_ground values t ((Decides-is_ground t).0 ground)) ∙ is

      here : (is_ground test.left && is_ground test.right) ≡ true → has_closed
          (differing (map (test_in canon) (map (test_with values) (test ∷ tests)))) ≡ true
      here grounds =
          let parts : (is_ground test.left ≡ true) × (is_ground test.right ≡ true) =
          and_parts (is_ground test.left) (is_ground test.right) grounds in
          let left : canon (substituted values test.left) ≡ test.left = same_side test.left parts.0 tidy.0.canonical_left in
          let right : canon (substituted values test.right) ≡ test.right = same_side test.right parts.1 tidy.0.canonical_right in
          let kept : term_eq test.left test.right ≡ false = tidy.0.differ in
          rw (left, right, kept, parts.0, parts.1) refl

      later : (keep : Bool) → has_closed (differing (map (test_in canon) (map (test_with values) tests))) ≡ true
          → has_closed (cond keep (test_in canon (test_with values test) ∷ differing
          (map (test_in canon) (map (test_with values) tests))) (differing (map (test_in canon) (map (test_with values) tests))))
          ≡ true
      later true rest = or_true (is_ground (canon (substituted values test.left)) && is_ground (canon (substituted values test.right))) rest
        where
          or_true : (b : Bool) → has_closed (differing (map (test_in canon) (map (test_with values) tests))) ≡ true
              → (b || has_closed (differing (map (test_in canon) (map (test_with values) tests)))) ≡ true
          or_true true h = refl
          or_true false h = h
      later false rest = rest

      by : (b : Bool) → (is_ground test.left && is_ground test.right) ≡ b → (b || has_closed tests) ≡ true
          → (has_closed tests ≡ true → has_closed (differing (map (test_in canon) (map (test_with values) tests))) ≡ true)
          → has_closed (differing (map (test_in canon) (map (test_with values) (test ∷ tests)))) ≡ true
      by true e h rest = here e
      by false e h rest = later (not (term_eq (canon (substituted values test.left)) (canon (substituted values test.right)))) (rest h)

  -- A draft has the outcomes of what a step makes of it, also where it is closed and the step is not made.
  pub same_step : (draft : Draft) (found : ℕ × Term) → IsInOrder data_.signature draft
      → first_replacement (tidied canon draft).conditions ≡ Some found → SameOutcomes canon draft (replaced found (tidied canon draft))
  same_step draft found order gives = by (has_closed (tidied canon draft).conditions) refl
    where
      by : (closed : Bool) → has_closed (tidied canon draft).conditions ≡ closed
          → SameOutcomes canon draft (replaced found (tidied canon draft))
      by false e = λ outcome. (after_step found e gives, replacing draft found outcome e gives)
      by true e =
          both_closed canon draft (replaced found (tidied canon draft)) e
          (closed_stays (put_for found) (tidied canon draft).conditions
          (tidy_tests data_ canon is_canon draft.leaves draft.conditions order.conditions) e)
