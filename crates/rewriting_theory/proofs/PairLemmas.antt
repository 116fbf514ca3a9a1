-- The critical pair lemma: rules are confluent exactly where their critical pairs join.
use Rattle.std.proofs.Common.{◌≡◌, ◌≤◌, ◌+◌, ℕ, List, refl, ap, sym, ◌∙◌, subst, inl, inr, arith}
use Rattle.std.proofs.lemmas.Option.{same_Some}
use Rattle.lotos_base.specs.Term.{Term, variable, node, Terms, no_terms, term_then}
use Rattle.lotos_base.specs.Sorting.{Occurs, OccursAmong}
use Rattle.lotos_base.specs.Path.{subterm, put_at}
use Rattle.lotos_base.specs.Substitution.{Substitution, substituted, followed_by, renaming}
use Rattle.lotos_base.specs.Canon.{KeepsApart}
use Rattle.lotos_base.proofs.PathLemmas.{put_at_possible}
use Rattle.lotos_base.proofs.SubstitutionLemmas.{substituted_twice, substituted_occurs, subterm-substituted}
use Rattle.rewriting_theory.specs.Rule.{Rule, AreWellFormedRules}
use Rattle.rewriting_theory.specs.Reduction.{Join, EndsFor, IsConfluent}
use Rattle.rewriting_theory.specs.Step.{Step, at_root}
use Rattle.rewriting_theory.specs.Unification.{IsMostGeneral, OccursInEither, AreApart}
use Rattle.rewriting_theory.specs.CriticalPair.{OverlapPlace, Overlaps, CriticalPair, IsCriticalPair}
use Rattle.rewriting_theory.proofs.NewmanLemmas.{newman, reaches_once}
use Rattle.rewriting_theory.proofs.PlaceLemmas.{step_at}
use Rattle.rewriting_theory.proofs.LocalLemmas.{OverlapsJoin, locally_confluent}
use Rattle.rewriting_theory.proofs.UnifyLemmas.{unifier_exists}
use Rattle.rewriting_theory.proofs.OverlapLemmas.{combined, combination_unifies, subterm_occurs, covered_joins}

-- ---- One place has one pair of rules and one part

pub record IsSamePlace {rules : List Rule} {first second : ℕ} {path : List ℕ}
    (one two : OverlapPlace rules first second path) : Type 0 where
  pub first_rules : one.first_rule ≡ two.first_rule
  pub second_rules : one.second_rule ≡ two.second_rule
  pub parts : one.part ≡ two.part

pub same_place : {rules : List Rule} {first second : ℕ} {path : List ℕ} (one two : OverlapPlace rules first second path)
    → IsSamePlace one two
same_place {path = path} one two =
    let firsts : one.first_rule ≡ two.first_rule = same_Some _ _ (sym one.is_first ∙ two.is_first) in
    record {
      first_rules = firsts;
      second_rules = same_Some _ _ (sym one.is_second ∙ two.is_second);
      parts = same_Some _ _ (sym one.is_part ∙ ap (λ (r : Rule). subterm path r.left) firsts ∙ two.is_part);
    }

moved : {rules : List Rule} {first second : ℕ} (path : List ℕ) (one two : OverlapPlace rules first second path)
    (values others : Substitution)
    → IsSamePlace one two
    → put_at path (substituted others one.second_rule.right) (substituted values one.first_rule.left)
    ≡ put_at path (substituted others two.second_rule.right) (substituted values two.first_rule.left)
moved path one two values others same =
    λ i. put_at path (substituted others (same.second_rules i).right) (substituted values (same.first_rules i).left)

-- The pair of two terms at a place.
abbrev pub pair_at : ℕ → ℕ → List ℕ → Term → Term → Term → CriticalPair
pair_at first second path peak left right =
    record { first = first; second = second; path = path; peak = peak; left = left; right = right }

-- At each place where two left sides overlap, some critical pair joins.
pub record PairThatJoins (rules : List Rule) (first second : ℕ) (path : List ℕ) : Type 0 where
  pub peak : Term
  pub left : Term
  pub right : Term
  pub is_pair : IsCriticalPair rules (pair_at first second path peak left right)
  pub join : Join (Step rules) left right

abbrev pub PlacesJoin : List Rule → Type 0
PlacesJoin rules = (first second : ℕ) (path : List ℕ) (place : OverlapPlace rules first second path) → Overlaps place
    → PairThatJoins rules first second path

pub places_overlaps : (rules : List Rule) → AreWellFormedRules rules → PlacesJoin rules → OverlapsJoin rules
places_overlaps rules well places = λ first second path place values others right same at.
    let pair = places first second path place (record { values = values; others = others; same = same }) in
    let one = same_place place pair.is_pair.place in
    subst (λ (r : Rule). Join (Step rules) (substituted values r.right) right) (sym one.first_rules)
    (covered_joins pair.is_pair values others right well
    (ap (substituted values) (sym one.parts) ∙ same ∙ ap (λ (r : Rule). substituted others r.left) one.second_rules)
    (sym (moved path place pair.is_pair.place values others one) ∙ at)
    pair.join)

-- so the rules are confluent, where rewriting ends
pub places_confluent : (rules : List Rule) → AreWellFormedRules rules → ((t : Term) → EndsFor (Step rules) t) → PlacesJoin rules
    → IsConfluent (Step rules)
places_confluent rules well ends places = newman ends (locally_confluent rules well (places_overlaps rules well places))

-- ---- There is a critical pair at each place where two left sides overlap

abbrev mutual
  -- a number that no number of a variable of the term exceeds
  above : Term → ℕ
  above (variable n s) = n
  above (node f ts) = above_all ts

  above_all : Terms → ℕ
  above_all no_terms = 0
  above_all (term_then t ts) = above t + above_all ts

mutual
  occurs_above : (n s : ℕ) (t : Term) → Occurs n s t → n ≤ above t
  occurs_above n s (variable m r) o = let same : m ≡ n = o.0 in omega (arith, same)
  occurs_above n s (node f ts) o = occurs_above_all n s ts o

  occurs_above_all : (n s : ℕ) (ts : Terms) → OccursAmong n s ts → n ≤ above_all ts
  occurs_above_all n s no_terms o = absurd o
  occurs_above_all n s (term_then t ts) (inl o) = let first = occurs_above n s t o in omega (arith, first)
  occurs_above_all n s (term_then t ts) (inr o) = let rest = occurs_above_all n s ts o in omega (arith, rest)

-- Numbers past those of the term.
abbrev pub past : Term → ℕ → ℕ → ℕ
past t n s = above t + n + 1

pub past_keeps : (s t : Term) → KeepsApart (past s) t
past_keeps s t = λ n m r o p e. omega (arith, e)

pub past_apart : (s t : Term) → AreApart s (substituted (renaming (past s)) t)
past_apart s t = λ n r o p.
    let from = substituted_occurs n r (renaming (past s)) t p in
    let small : n ≤ above s = occurs_above n r s o in
    let large : above s + from.number + 1 ≡ n = from.inside.0 in
    omega (arith, small, large)

-- What a critical pair at the place has.
pub record PairAt (rules : List Rule) (first second : ℕ) (path : List ℕ) : Type 0 where
  pub peak : Term
  pub left : Term
  pub right : Term
  pub is_pair : IsCriticalPair rules (pair_at first second path peak left right)

-- the second left side with its variables past those of the first one
abbrev pub moved_left : {rules : List Rule} {first second : ℕ} {path : List ℕ} → OverlapPlace rules first second path → Term
moved_left place = substituted (renaming (past place.first_rule.left)) place.second_rule.left

-- the pair of a most general unifier
pub pair_of : {rules : List Rule} {first second : ℕ} {path : List ℕ} (place : OverlapPlace rules first second path) (values : Substitution)
    → IsMostGeneral (OccursInEither place.first_rule.left (moved_left place)) place.part (moved_left place) values
    → PairAt rules first second path
pair_of {path = path} place values general =
    let peak = substituted values place.first_rule.left in
    let second = substituted values (substituted (renaming (past place.first_rule.left)) place.second_rule.right) in
    let whole = put_at_possible path second peak (substituted values place.part)
    (subterm-substituted path values place.first_rule.left place.part place.is_part) in
    record {
      peak = peak;
      left = substituted values place.first_rule.right;
      right = whole.0;
      is_pair = record {
        place = place;
        number = past place.first_rule.left;
        keeps = past_keeps place.first_rule.left place.second_rule.left;
        apart = past_apart place.first_rule.left place.second_rule.left;
        values = values;
        general = general;
        is_peak = refl;
        is_left = refl;
        is_right = whole.1;
      };
    }

pub pair_exists : {rules : List Rule} {first second : ℕ} {path : List ℕ} (place : OverlapPlace rules first second path) → Overlaps place
    → PairAt rules first second path
pair_exists {path = path} place overlap =
    let number = past place.first_rule.left in
    let unifies = combination_unifies number place.first_rule.left place.second_rule.left place.part overlap.values overlap.others
    (past_keeps place.first_rule.left place.second_rule.left)
    (past_apart place.first_rule.left place.second_rule.left)
    (λ n r o. subterm_occurs path place.first_rule.left place.part n r place.is_part o)
    overlap.same in
    let most = unifier_exists (OccursInEither place.first_rule.left (moved_left place)) place.part (moved_left place)
    (combined number place.second_rule.left overlap.values overlap.others) unifies in
    pair_of place most.0 most.1

-- ---- What the peak of a pair rewrites to

pub peak_left : {rules : List Rule} {pair : CriticalPair} → IsCriticalPair rules pair → Step rules pair.peak pair.left
peak_left {pair = pair} is = at_root (record {
  rule = is.place.first_rule;
  is_rule = (pair.first, is.place.is_first);
  step = record { values = is.values; old = is.is_peak; new = is.is_left };
})

pub peak_right : {rules : List Rule} {pair : CriticalPair} → IsCriticalPair rules pair → Step rules pair.peak pair.right
peak_right {pair = pair} is =
    step_at pair.path (substituted is.values is.place.part)
    (substituted is.values (substituted (renaming is.number) is.place.second_rule.right)) pair.peak pair.right
    (record {
      rule = is.place.second_rule;
      is_rule = (pair.second, is.place.is_second);
      step = record {
        values = followed_by (renaming is.number) is.values;
        old = sym (substituted_twice (renaming is.number) is.values is.place.second_rule.left) ∙ sym is.general.unifies;
        new = sym (substituted_twice (renaming is.number) is.values is.place.second_rule.right);
      };
    })
    (ap (λ (w : Term). subterm pair.path w) (sym is.is_peak)
    ∙ subterm-substituted pair.path is.values is.place.first_rule.left is.place.part is.place.is_part)
    is.is_right

-- where the rules are confluent, each critical pair joins
pub pair_joins : {rules : List Rule} {pair : CriticalPair} → IsConfluent (Step rules) → IsCriticalPair rules pair
    → Join (Step rules) pair.left pair.right
pair_joins {pair = pair} confluent is = confluent pair.peak pair.left pair.right (reaches_once (peak_left is))
    (reaches_once (peak_right is))

-- where each critical pair joins, some pair does at each place
pub places_join : {rules : List Rule} → ((pair : CriticalPair) → IsCriticalPair rules pair → Join (Step rules) pair.left pair.right)
    → PlacesJoin rules
places_join all = λ first second path place overlap.
    let pair = pair_exists place overlap in
    record {
      peak = pair.peak;
      left = pair.left;
      right = pair.right;
      is_pair = pair.is_pair;
      join = all (pair_at first second path pair.peak pair.left pair.right) pair.is_pair;
    }
