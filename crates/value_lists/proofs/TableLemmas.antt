-- The values with at most so many operations are all found, and in order.
use Rattle.std.proofs.Common.{◌≡◌, ℕ, zero, suc, ◌+◌, ◌-◌, ◌<◌, ◌≤◌, List, [], ◌∷◌, ◌++◌, length, map, Bool, true, nat_eq, refl, ap, sym, ◌∙◌, subst, inl, inr, arith}
use Rattle.std.specs.Prelude.{◌⊎◌}
use Rattle.std.specs.List.{filter}
use Rattle.std.proofs.lemmas.Bool.{eqb-true, eq-eqb}
use Rattle.std.proofs.lemmas.List.{length-append}
use Rattle.lotos_base.specs.Signature.{Signature, Operation, IsOperation}
use Rattle.lotos_base.specs.Sorting.{AreGround, IsGround}
use Rattle.lotos_base.specs.Term.{Term}
use Rattle.rewriting_theory.specs.Rule.{Rule}
use Rattle.rewriting_theory.specs.Rewriting.{IsNormal}
use Rattle.sort_terms.specs.ProfiledTerm.{ProfiledTerm, ProfiledTerms, profiled_variable, profiled_node, no_profiled_terms, profiled_term_then, bare, all_bare, head_sort, FitArguments, AreOf}
use Rattle.sort_terms.specs.TermView.{profiled_terms}
use Rattle.sort_terms.proofs.ProfiledTermLemmas.{fitting_has_sort}
use Rattle.value_lists.specs.RootTest.{no_rule_matches}
use Rattle.value_lists.specs.Search.{Trial, trial_applied, found_for, found_from, found_up_to}
use Rattle.value_lists.specs.TermOrder.{term_size, term_sizes, ComesBefore}
use Rattle.value_lists.specs.ValueList.{IsValueWithin, IsValueList, IsWholeList}
use Rattle.value_lists.proofs.NormalParts.{AreNormal, normal_root, normal_arguments, normal_node, test_sound, test_complete}
use Rattle.value_lists.proofs.OrderLemmas.{smaller_first}
use Rattle.value_lists.proofs.Profiles.{unlisted, listed, plain, IsProfiledValue, has_operation, profiled}
use Rattle.value_lists.proofs.RisingLists.{Among, Rises, among_left, among_right, among_either, rises_joined, among_map, from_map, rises_map, among_filter, from_filter, rises_filter, among_contains, contains_among, rises_pairs}
use Rattle.value_lists.proofs.SearchLemmas.{Before, Suit, suits_parts, suit_sizes, AllAmong, to_suit, IsFoundAmong, from_all, to_found, to_all, rises_all, trial_of}

-- The list has exactly the values with at most so many operations, of all sorts, and rises.
pub record IsTable (signature : Signature) (rules : List Rule) (size : ℕ) (values : List ProfiledTerm) : Type 0 where
  pub sound : (t : ProfiledTerm) → Among t values → IsProfiledValue signature rules t × (term_size (bare t) ≤ size)
  pub complete : (t : ProfiledTerm) → IsProfiledValue signature rules t → term_size (bare t) ≤ size → Among t values
  pub rising : Rises Before values

-- ---- Arguments

-- The terms are values, said of a list.
pub record AreProfiledValues (signature : Signature) (rules : List Rule) (sorts : List ℕ) (us : List ProfiledTerm) : Type 0 where
  pub is_of : AreOf signature (profiled_terms us)
  pub fits : FitArguments (profiled_terms us) sorts
  pub are_ground : AreGround (plain us)
  pub irreducible : AreNormal rules (plain us)

suit_values : (signature : Signature) (rules : List Rule) (size : ℕ) (values : List ProfiledTerm) (sorts : List ℕ) (left : ℕ)
    (us : List ProfiledTerm) → IsTable signature rules size values → Suit values sorts left us
    → AreProfiledValues signature rules sorts us
suit_values signature rules size values [] left [] table suit =
    record { is_of = tt; fits = tt; are_ground = tt; irreducible = tt }
suit_values signature rules size values [] left (u ∷ us) table suit = absurd suit
suit_values signature rules size values (s ∷ ss) left [] table suit = absurd suit
suit_values signature rules size values (s ∷ ss) left (u ∷ us) table suit =
    let first = (table.sound u suit.0).0 in
    let rest = suit_values signature rules size values ss (left - term_size (bare u)) us table suit.2 in
    record {
      is_of = (first.is_of, rest.is_of);
      fits = ((suits_parts s (length ss) left u suit.1).0, first.fits, rest.fits);
      are_ground = (first.is_ground, rest.are_ground);
      irreducible = (first.irreducible, rest.irreducible);
    }

arguments_among : (signature : Signature) (rules : List Rule) (size : ℕ) (values : List ProfiledTerm) (ts : ProfiledTerms)
    (sorts : List ℕ) → IsTable signature rules size values → AreOf signature ts → FitArguments ts sorts → AreGround (all_bare ts)
    → AreNormal rules (all_bare ts) → term_sizes (all_bare ts) ≤ size → AllAmong values ts
arguments_among signature rules size values no_profiled_terms sorts table is_of fits h normal small = tt
arguments_among signature rules size values (profiled_term_then t ts) [] table is_of fits h normal small = absurd fits
arguments_among signature rules size values (profiled_term_then t ts) (s ∷ ss) table is_of fits h normal small = (
  table.complete t
      (record { is_of = is_of.0; fits = fits.1; is_ground = h.0; irreducible = normal.0 }) (omega (arith, small)),
  arguments_among signature rules size values ts ss table is_of.1 fits.2 h.1 normal.1 (omega (arith, small)),
)

-- ---- One operation more

module _ (signature : Signature) (rules : List Rule) where
  abbrev pub keeps : ProfiledTerm → Bool
  keeps t = no_rule_matches rules (bare t)

  next_sound : (size : ℕ) (values : List ProfiledTerm) → IsTable signature rules size values → (t : ProfiledTerm)
      → IsFoundAmong keeps values size 0 signature.operations t
      → IsProfiledValue signature rules t × (term_size (bare t) ≡ suc size)
  next_sound size values table t h =
      let found = h.found in
      let number = h.is_number in
      let same : h.place ≡ h.number = omega (arith, number) in
      let there : IsOperation signature h.number h.operation =
      subst (λ (k : ℕ). IsOperation signature k h.operation) same h.is_there in
      let parts = suit_values signature rules size values h.operation.arguments size found.arguments table found.suit in
      subst (λ (u : ProfiledTerm). IsProfiledValue signature rules u × (term_size (bare u) ≡ suc size)) (sym found.same) (
        record {
          is_of = (there, parts.is_of);
          fits = parts.fits;
          is_ground = parts.are_ground;
          irreducible = normal_node rules h.number (plain found.arguments)
              (test_sound rules _ (ap (λ (u : ProfiledTerm). no_rule_matches rules (bare u)) (sym found.same) ∙ found.keeps))
              parts.irreducible;
        },
        ap (λ (n : ℕ). suc n) (suit_sizes values h.operation.arguments size found.arguments found.suit),
      )

  next_complete : (size : ℕ) (values : List ProfiledTerm) → IsTable signature rules size values → (t : ProfiledTerm)
      → IsProfiledValue signature rules t → term_size (bare t) ≡ suc size
      → Among t (found_from keeps values size 0 signature.operations)
  next_complete size values table (profiled_variable n s) h e = absurd h.is_ground
  next_complete size values table (profiled_node f operation ts) h e =
      to_all keeps values size 0 signature.operations f f operation (profiled_node f operation ts) h.is_of.0 (omega arith)
      (subst (λ (us : ProfiledTerms). Among (profiled_node f operation us) (found_for (trial_of keeps values f operation) size)) (listed ts)
      (to_found (trial_of keeps values f operation) [] operation.arguments size (unlisted ts) suit
      (ap (λ (us : ProfiledTerms). no_rule_matches rules (bare (profiled_node f operation us))) (listed ts)
      ∙ test_complete rules (bare (profiled_node f operation ts)) (normal_root rules (bare (profiled_node f operation ts)) h.irreducible))))
    where
      small : term_sizes (all_bare ts) ≡ size
      small = omega (arith, e)

      suit : Suit values operation.arguments size (unlisted ts)
      suit =
          to_suit values ts operation.arguments size
          (arguments_among signature rules size values ts operation.arguments table h.is_of.1 h.fits h.is_ground
          (normal_arguments rules f (all_bare ts) h.irreducible) (omega (arith, small)))
          h.fits h.is_ground small

  next_table : (size : ℕ) (values : List ProfiledTerm) → IsTable signature rules size values
      → IsTable signature rules (suc size) (values ++ found_from keeps values size 0 signature.operations)
  next_table size values table = record {
    sound = λ t h. one t (among_either values next t h);
    complete = λ t h small. all t h (split small);
    rising = rises_joined Before values next table.rising
        (rises_all keeps values size 0 signature.operations table.rising)
        (λ t u h k.
        let early = table.sound t h in
        let late = next_sound size values table u (from_all keeps values size 0 signature.operations u k) in
        let small = early.1 in
        let large = late.1 in
        smaller_first (bare t) (bare u) early.0.is_ground late.0.is_ground (omega (arith, small, large)));
  }
    where
      next : List ProfiledTerm
      next = found_from keeps values size 0 signature.operations

      one : (t : ProfiledTerm) → Among t values ⊎ Among t next → IsProfiledValue signature rules t × (term_size (bare t) ≤ suc size)
      one t (inl h) =
          let early = table.sound t h in
          let small = early.1 in
          (early.0, omega (arith, small))
      one t (inr h) =
          let late = next_sound size values table t (from_all keeps values size 0 signature.operations t h) in
          let large = late.1 in
          (late.0, omega (arith, large))

      split : {n : ℕ} → n ≤ suc size → (n ≤ size) ⊎ (n ≡ suc size)
      split {n = n} small = grind (arith, small)

      all : (t : ProfiledTerm) → IsProfiledValue signature rules t → (term_size (bare t) ≤ size) ⊎ (term_size (bare t) ≡ suc size)
          → Among t (values ++ next)
      all t h (inl small) = among_left values next t (table.complete t h small)
      all t h (inr same) = among_right values next t (next_complete size values table t h same)

  pub table_of : (size : ℕ) → IsTable signature rules size (found_up_to keeps signature.operations size)
  table_of zero = record {
    sound = λ t h. absurd h;
    complete = λ t h small. let one = has_operation t h.is_ground in absurd (omega (arith, one, small));
    rising = tt;
  }
  table_of (suc size) = next_table size (found_up_to keeps signature.operations size) (table_of size)

  -- ---- The lists of terms

  abbrev has_sort : ℕ → ProfiledTerm → Bool
  has_sort sort t = nat_eq (head_sort t) sort

  value_within : (size : ℕ) (t : ProfiledTerm) → IsProfiledValue signature rules t → term_size (bare t) ≤ size
      → IsValueWithin signature (IsNormal rules) size (head_sort t) (bare t)
  value_within size t h small = (
    record {
      is_ground = record { ground = h.is_ground; sorted = fitting_has_sort signature t h.is_of h.fits };
      irreducible = h.irreducible;
    },
    small,
  )

  -- a value stands in a table, with the sort that its head tells
  value_there : (size sort : ℕ) (values : List ProfiledTerm) (t : Term) → IsTable signature rules size values
      → IsValueWithin signature (IsNormal rules) size sort t → (u : ProfiledTerm) × Among u values × (bare u ≡ t) × (head_sort u ≡ sort)
  value_there size sort values t table h =
      let there = profiled signature t sort h.0.is_ground.sorted in (
        there.term,
        table.complete there.term
            (record {
              is_of = there.is_of;
              fits = there.fits;
              is_ground = subst IsGround (sym there.same) h.0.is_ground.ground;
              irreducible = subst (IsNormal rules) (sym there.same) h.0.irreducible;
            })
            (subst (λ (u : Term). term_size u ≤ size) (sym there.same) h.1),
        there.same,
        there.head,
      )

  pub value_list : (size sort : ℕ) (values : List ProfiledTerm) → IsTable signature rules size values
      → IsValueList signature (IsNormal rules) size sort (map bare (filter (λ t. nat_eq (head_sort t) sort) values))
  value_list size sort values table = record {
    exactly = λ t. (
      λ h.
          let there = from_map bare (filter (has_sort sort) values) t (contains_among _ t h) in
          let passed = from_filter (has_sort sort) values there.0 there.1 in
          let value = table.sound there.0 passed.0 in
          subst (λ (u : Term). IsValueWithin signature (IsNormal rules) size sort u) there.2
          (subst (λ (s : ℕ). IsValueWithin signature (IsNormal rules) size s (bare there.0)) (eqb-true (head_sort there.0) sort passed.1)
          (value_within size there.0 value.0 value.1)),
      λ h.
          let there = value_there size sort values t table h in
          among_contains (map bare (filter (has_sort sort) values)) t
          (subst (λ (u : Term). Among u (map bare (filter (has_sort sort) values))) there.2
          (among_map bare (filter (has_sort sort) values) there.0
          (among_filter (has_sort sort) values there.0 there.1 (eq-eqb (head_sort there.0) sort there.3)))),
    );
    rising = rises_pairs ComesBefore _ (rises_map ComesBefore bare (filter (has_sort sort) values)
        (rises_filter Before (has_sort sort) values table.rising));
  }

  pub whole_list : (size : ℕ) (values : List ProfiledTerm) → IsTable signature rules size values
      → IsWholeList signature (IsNormal rules) size (map bare values)
  whole_list size values table = record {
    exactly = λ t. (
      λ h.
          let there = from_map bare values t (contains_among _ t h) in
          let value = table.sound there.0 there.1 in
          subst (λ (u : Term). (sort : ℕ) × IsValueWithin signature (IsNormal rules) size sort u) there.2
          (head_sort there.0, value_within size there.0 value.0 value.1),
      λ h.
          let there = value_there size h.0 values t table h.1 in
          among_contains (map bare values) t
          (subst (λ (u : Term). Among u (map bare values)) there.2 (among_map bare values there.0 there.1)),
    );
    rising = rises_pairs ComesBefore _ (rises_map ComesBefore bare values table.rising);
  }
