-- The list of critical pairs decides confluence.
use Rattle.std.proofs.Common.{◌≡◌, ◌<◌, ℕ, zero, suc, List, [], ◌∷◌, Bool, true, false, refl, ap, ◌∙◌, subst, inl, inr, arith, sym}
use Rattle.std.specs.Prelude.{◌⊎◌, None, Some, slice_get}
use Rattle.std.proofs.lemmas.Option.{same_Some}
use Rattle.lotos_base.specs.Term.{Term}
use Rattle.lotos_base.specs.Tests.{term_eq}
use Rattle.lotos_base.proofs.TestLemmas.{Decides-term_eq}
use Rattle.rewriting_theory.specs.Rule.{Rule, AreWellFormedRules}
use Rattle.rewriting_theory.specs.Reduction.{Join}
use Rattle.rewriting_theory.specs.Rewriting.{Terminates, AreConfluent}
use Rattle.rewriting_theory.specs.ChosenForm.{Chosen}
use Rattle.rewriting_theory.specs.Step.{Step}
use Rattle.rewriting_theory.specs.CriticalPair.{CriticalPair, IsCriticalPair}
use Rattle.rewriting_theory.specs.PairList.{PairPlace, place_of_critical_pair, AreCriticalPairs, IsUnjoined, IsFirstUnjoined}
use Rattle.rewriting_theory.specs.PairListLaws.{RewritesToTwo}
use Rattle.rewriting_theory.proofs.ChosenLemmas.{chosen_one}
use Rattle.rewriting_theory.proofs.PairLemmas.{pair_at, PairThatJoins, PlacesJoin, places_confluent}
use Rattle.rewriting_theory.proofs.PublicLemmas.{join_by_steps, confluent_by_links, ends_by_steps, chosen_form, chosen_normal, same_chosen_join, confluent_agreeing, peak_reaches_left, peak_reaches_right}

-- No pair of the list is unjoined.
abbrev pub NoneUnjoined : List Rule → List CriticalPair → Type 0
NoneUnjoined rules pairs = (number : ℕ) (pair : CriticalPair) (left right : Term) → slice_get pairs number ≡ Some pair
    → ¬ IsUnjoined rules pair left right

-- Some pair is the first one that is.
abbrev pub SomeUnjoined : List Rule → List CriticalPair → Type 0
SomeUnjoined rules pairs = (number : ℕ) × (left : Term) × (right : Term) × IsFirstUnjoined rules pairs number left right

-- a pair whose chosen forms are identical is not unjoined
pub agreeing_joined : {rules : List Rule} (pair : CriticalPair) (left right t u : Term) → AreWellFormedRules rules
    → Chosen rules pair.left left
    → Chosen rules pair.right right → left ≡ right → ¬ IsUnjoined rules pair t u
agreeing_joined pair left right t u well one two same unjoined =
    unjoined.differ (chosen_one well unjoined.is_left one ∙ same ∙ chosen_one well two unjoined.is_right)

unjoined_later : {rules : List Rule} (pair : CriticalPair) (pairs : List CriticalPair) → ((t u : Term) → ¬ IsUnjoined rules pair t u)
    → SomeUnjoined rules pairs → SomeUnjoined rules (pair ∷ pairs)
unjoined_later {rules = rules} pair pairs joined later = (
  suc later.0,
  later.1,
  later.2,
  record {
    pair = later.3.pair;
    is_pair = later.3.is_pair;
    unjoined = later.3.unjoined;
    is_first = earlier;
  },
)
  where
    earlier : (k : ℕ) (other : CriticalPair) (t u : Term) → k < suc later.0 → slice_get (pair ∷ pairs) k ≡ Some other
        → ¬ IsUnjoined rules other t u
    earlier zero other t u less is = subst (λ (p : CriticalPair). ¬ IsUnjoined rules p t u) (same_Some pair other is) (joined t u)
    earlier (suc k) other t u less is = later.3.is_first k other t u (omega (arith, less)) is

pub none_unjoined_then : {rules : List Rule} (pair : CriticalPair) (pairs : List CriticalPair)
    → ((t u : Term) → ¬ IsUnjoined rules pair t u)
    → NoneUnjoined rules pairs → NoneUnjoined rules (pair ∷ pairs)
none_unjoined_then {rules = rules} pair pairs joined none zero other t u is =
    subst (λ (p : CriticalPair). ¬ IsUnjoined rules p t u) (same_Some pair other is) (joined t u)
none_unjoined_then pair pairs joined none (suc number) other t u is = none number other t u is

pub none_unjoined_nothing : (rules : List Rule) → NoneUnjoined rules []
none_unjoined_nothing rules number pair left right is unjoined = let none : None ≡ Some pair = is in cc

-- the first pair of a list is unjoined
pub first_of_list : (rules : List Rule) (pair : CriticalPair) (pairs : List CriticalPair) (left right : Term)
    → IsUnjoined rules pair left right → IsFirstUnjoined rules (pair ∷ pairs) 0 left right
first_of_list rules pair pairs left right unjoined = record {
  pair = pair;
  is_pair = refl;
  unjoined = unjoined;
  is_first = λ k other t u less is. absurd (omega (arith, less));
}

unjoined_here : {rules : List Rule} (pair : CriticalPair) (pairs : List CriticalPair) (left right : Term)
    → IsUnjoined rules pair left right
    → SomeUnjoined rules (pair ∷ pairs)
unjoined_here {rules = rules} pair pairs left right unjoined = (0, left, right, first_of_list rules pair pairs left right unjoined)

pub first_unjoined : (rules : List Rule) → AreWellFormedRules rules → Terminates rules → (pairs : List CriticalPair)
    → NoneUnjoined rules pairs ⊎ SomeUnjoined rules pairs
first_unjoined rules well ends [] = inl (none_unjoined_nothing rules)
first_unjoined rules well ends (pair ∷ pairs) =
    go (chosen_form rules ends pair.left).0 (chosen_form rules ends pair.right).0
    (chosen_form rules ends pair.left).1 (chosen_form rules ends pair.right).1
    (first_unjoined rules well ends pairs)
  where
    go : (left right : Term) → Chosen rules pair.left left → Chosen rules pair.right right
        → NoneUnjoined rules pairs ⊎ SomeUnjoined rules pairs
        → NoneUnjoined rules (pair ∷ pairs) ⊎ SomeUnjoined rules (pair ∷ pairs)
    go left right one two rest = by_test (term_eq left right) refl rest
      where
        by_test : (b : Bool) → term_eq left right ≡ b → NoneUnjoined rules pairs ⊎ SomeUnjoined rules pairs
            → NoneUnjoined rules (pair ∷ pairs) ⊎ SomeUnjoined rules (pair ∷ pairs)
        by_test true e (inl none) =
            inl (none_unjoined_then pair pairs
            (λ t u. agreeing_joined pair left right t u well one two ((Decides-term_eq left right).0 e)) none)
        by_test true e (inr some) =
            inr (unjoined_later pair pairs
            (λ t u. agreeing_joined pair left right t u well one two ((Decides-term_eq left right).0 e)) some)
        by_test false e rest =
            inr (unjoined_here pair pairs left right (record {
              is_left = one;
              is_right = two;
              differ = λ same. let other : term_eq left right ≡ true = (Decides-term_eq left right).1 same in cc;
            }))

-- where none is unjoined, some pair joins at each place where two left sides overlap
listed_join : (rules : List Rule) (pairs : List CriticalPair) → AreWellFormedRules rules → Terminates rules → AreCriticalPairs rules pairs
    → NoneUnjoined rules pairs → PlacesJoin rules
listed_join rules pairs well ends are none = λ first second path place overlap.
    let found = are.complete (record { first = first; second = second; path = path }) place overlap in
    joined first second path found.0 found.1 found.2 found.3
  where
    agree : (number : ℕ) (pair : CriticalPair) → slice_get pairs number ≡ Some pair → (left right : Term) → Chosen rules pair.left left
        → Chosen rules pair.right right → (b : Bool) → term_eq left right ≡ b → left ≡ right
    agree number pair is left right one two true e = (Decides-term_eq left right).0 e
    agree number pair is left right one two false e =
        absurd (none number pair left right is (record {
          is_left = one;
          is_right = two;
          differ = λ same. let other : term_eq left right ≡ true = (Decides-term_eq left right).1 same in cc;
        }))

    join : (number : ℕ) (pair : CriticalPair) → slice_get pairs number ≡ Some pair → Join (Step rules) pair.left pair.right
    join number pair is =
        let left = chosen_form rules ends pair.left in
        let right = chosen_form rules ends pair.right in
        join_by_steps (same_chosen_join left.1 right.1 (agree number pair is left.0 right.0 left.1 right.1 (term_eq left.0 right.0) refl))

    joined : (first second : ℕ) (path : List ℕ) (number : ℕ) (pair : CriticalPair) → slice_get pairs number ≡ Some pair
        → place_of_critical_pair pair ≡ record { first = first; second = second; path = path } → PairThatJoins rules first second path
    joined first second path number pair is stands =
        let same : pair ≡ pair_at first second path pair.peak pair.left pair.right =
        ap (λ (p : PairPlace). pair_at p.first p.second p.path pair.peak pair.left pair.right) stands in
        record {
          peak = pair.peak;
          left = pair.left;
          right = pair.right;
          is_pair = subst (λ (p : CriticalPair). IsCriticalPair rules p) same (are.critical number pair is);
          join = join number pair is;
        }

pub none_unjoined_confluent : (rules : List Rule) (pairs : List CriticalPair) → AreWellFormedRules rules → Terminates rules
    → AreCriticalPairs rules pairs → NoneUnjoined rules pairs → AreConfluent rules
none_unjoined_confluent rules pairs well ends are none =
    confluent_by_links rules (places_confluent rules well (ends_by_steps rules ends) (listed_join rules pairs well ends are none))

-- where some pair is unjoined, the rules are not confluent
pub unjoined_not_confluent : (rules : List Rule) (pair : CriticalPair) (left right : Term) → AreWellFormedRules rules
    → IsCriticalPair rules pair → IsUnjoined rules pair left right → ¬ AreConfluent rules
unjoined_not_confluent rules pair left right well is unjoined confluent =
    unjoined.differ (confluent_agreeing rules well confluent pair left right is unjoined.is_left unjoined.is_right)

pub unjoined_two : (rules : List Rule) (pair : CriticalPair) (left right : Term) → AreWellFormedRules rules
    → IsCriticalPair rules pair → IsUnjoined rules pair left right → RewritesToTwo rules pair.peak left right
unjoined_two rules pair left right well is unjoined = record {
  reaches_left = peak_reaches_left is unjoined.is_left;
  reaches_right = peak_reaches_right is unjoined.is_right;
  left_irreducible = chosen_normal well unjoined.is_left;
  right_irreducible = chosen_normal well unjoined.is_right;
  differ = unjoined.differ;
}

-- ---- The first unjoined pair is one

pub neither_less : (n m : ℕ) → (n < m → ⊥) → (m < n → ⊥) → n ≡ m
neither_less zero zero less more = refl
neither_less zero (suc m) less more = absurd (less (omega arith))
neither_less (suc n) zero less more = absurd (more (omega arith))
neither_less (suc n) (suc m) less more =
    ap (λ (k : ℕ). suc k) (neither_less n m (λ h. less (omega (arith, h))) (λ h. more (omega (arith, h))))

pub first_unjoined_once : (rules : List Rule) (pairs : List CriticalPair) (n m : ℕ) (t u v w : Term) → AreWellFormedRules rules
    → IsFirstUnjoined rules pairs n t u → IsFirstUnjoined rules pairs m v w → (n ≡ m) × (t ≡ v) × (u ≡ w)
first_unjoined_once rules pairs n m t u v w well one two =
    let number = neither_less n m
    (λ less. two.is_first n one.pair t u less one.is_pair one.unjoined)
    (λ less. one.is_first m two.pair v w less two.is_pair two.unjoined) in
    let pair : one.pair ≡ two.pair =
    same_Some _ _ (sym one.is_pair ∙ ap (λ (k : ℕ). slice_get pairs k) number ∙ two.is_pair) in (
      number,
      chosen_one well (subst (λ (p : CriticalPair). Chosen rules p.left t) pair one.unjoined.is_left) two.unjoined.is_left,
      chosen_one well (subst (λ (p : CriticalPair). Chosen rules p.right u) pair one.unjoined.is_right) two.unjoined.is_right,
    )

pub decided : (rules : List Rule) (pairs : List CriticalPair) → AreWellFormedRules rules → Terminates rules → AreCriticalPairs rules pairs
    → NoneUnjoined rules pairs ⊎ SomeUnjoined rules pairs → AreConfluent rules ⊎ (¬ AreConfluent rules)
decided rules pairs well ends are (inl none) = inl (none_unjoined_confluent rules pairs well ends are none)
decided rules pairs well ends are (inr (number, left, right, first)) =
    inr (unjoined_not_confluent rules first.pair left right well (are.critical number first.pair first.is_pair) first.unjoined)
