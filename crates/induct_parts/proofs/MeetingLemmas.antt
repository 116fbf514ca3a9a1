-- A search for the sides of a lemma finds variables exactly where the two are the same up to the names of variables.
use Rattle.std.proofs.Common.{◌≡◌, ◌↔◌, ◌⊎◌, inl, inr, ◌<◌, ◌≤◌, ◌+◌, ℕ, zero, suc, length, List, [], ◌∷◌, ◌++◌, Bool, true, false, not, ◌&&◌, nat_eq, map, refl, ap, sym, ◌∙◌, subst, arith, IsTrue}
use Rattle.std.specs.Prelude.{Option, Some, None, slice_get, if◌then◌else◌}
use Rattle.std.specs.Option.{option_and_then}
use Rattle.std.proofs.lemmas.Option.{same_Some, none-some, slice_get_within}
use Rattle.std.proofs.lemmas.List.{length-map}
use Rattle.std.proofs.lemmas.Bool.{cases_lt, not-true, not_from_false}
use Rattle.std.proofs.lemmas.Bool.Decides.{Decides-eqb}
use Rattle.lotos_base.specs.Signature.{Operation, prefix_form}
use Rattle.lotos_base.specs.Sorting.{Occurs}
use Rattle.lotos_base.specs.Substitution.{Substitution, substituted, binding, renaming}
use Rattle.lotos_base.specs.Term.{Term, variable, node, Terms, no_terms, term_then}
use Rattle.lotos_base.proofs.Members.{at_map}
use Rattle.lotos_base.proofs.SubstitutionLemmas.{substituted_agree}
use Rattle.rewriting_theory.proofs.LocalLemmas.{values_same}
use Rattle.sort_terms.specs.ProfiledTerm.{ProfiledTerm, profiled_variable, profiled_node, no_profiled_terms, profiled_term_then, bare}
use Rattle.term_match.specs.Matched.{IsPair, IsMatchedBy, TermHasOneSortPerNumber}
use Rattle.term_match.specs.Numbers.{AreDistinctNumbers}
use Rattle.term_match.specs.ProfiledInstance.{bare_pairs}
use Rattle.term_match.specs.Search.{looked_up, searched, all_searched}
use Rattle.term_match.proofs.MatchLemmas.{numbers_of, search_is_match, search_is_distinct}
use Rattle.term_match.proofs.RoomLemmas.{distinct_rest}
use Rattle.term_match.proofs.SearchLemmas.{Pairs, search_complete, binding_agrees}
use Rattle.certificate_theory.specs.InductionCertificate.{Statement, Lemma}
use Rattle.certificate_theory.specs.Requirements.{OccursInSide, IsRenamedStatement, stated, IsMetBy, IsLeftOpen}
use Rattle.lotos_base.specs.Equation.{Equation as PlainEquation}
use Rattle.lotos_base.specs.Signature.{Signature}
use Rattle.sort_terms.specs.EquationView.{equation_of}
use Rattle.sort_terms.specs.TermView.{profiled_of}
use Rattle.sort_terms.specs.declared.equations.Equation.{Equation}
use Rattle.induct_parts.specs.CertificateView.{lemma_in, lemmas_in}
use Rattle.induct_parts.specs.SettingView.{IsKnownLemma}
use Rattle.induct_parts.specs.declared.certificates.StatedLemma.{StatedLemma}
use Rattle.induct_parts.specs.Meeting.{is_listed_sort, is_variable, is_seen, is_renamed, seen_with, are_renamed}

-- ---- Tests

passed : (b c : Bool) → (if b then c else false) ≡ true → (b ≡ true) × (c ≡ true)
passed true c e = (refl, e)
passed false c e = absurd (cc e)

passes : (b c : Bool) → b ≡ true → c ≡ true → (if b then c else false) ≡ true
passes true c e f = f
passes false c e f = absurd (cc e)

sort_is : (o : Option ℕ) (s : ℕ) → is_listed_sort o s ≡ true → o ≡ Some s
sort_is None s e = absurd (cc e)
sort_is (Some r) s e = ap (λ (k : ℕ). Some k) ((Decides-eqb r s).0 e)

is_sorted : (o : Option ℕ) (s : ℕ) → o ≡ Some s → is_listed_sort o s ≡ true
is_sorted None s e = absurd (none-some s e)
is_sorted (Some r) s e = (Decides-eqb r s).1 (same_Some r s e)

-- ---- What was seen

seen_last : (seen : List (ℕ × ℕ)) (m s : ℕ) → is_seen (seen ++ (m, s) ∷ []) m s ≡ true
seen_last [] m s =
    passes_else (is_variable (m, s) m s) false (both (nat_eq m m) (nat_eq s s) ((Decides-eqb m m).1 refl) ((Decides-eqb s s).1 refl))
  where
    both : (a b : Bool) → a ≡ true → b ≡ true → (a && b) ≡ true
    both true b e f = f
    both false b e f = absurd (cc e)

    passes_else : (b c : Bool) → b ≡ true → (if b then true else c) ≡ true
    passes_else true c e = refl
    passes_else false c e = absurd (cc e)
seen_last (k ∷ seen) m s = go (is_variable k m s) (seen_last seen m s)
  where
    go : (b : Bool) → is_seen (seen ++ (m, s) ∷ []) m s ≡ true → (if b then true else is_seen (seen ++ (m, s) ∷ []) m s) ≡ true
    go true e = refl
    go false e = e

-- what was not seen with another one was not seen before
seen_less : (seen : List (ℕ × ℕ)) (m s n r : ℕ) → is_seen (seen ++ (m, s) ∷ []) n r ≡ false → is_seen seen n r ≡ false
seen_less [] m s n r e = refl
seen_less (k ∷ seen) m s n r e = go (is_variable k n r) e (seen_less seen m s n r)
  where
    go : (b : Bool) → (if b then true else is_seen (seen ++ (m, s) ∷ []) n r) ≡ false
        → (is_seen (seen ++ (m, s) ∷ []) n r ≡ false → is_seen seen n r ≡ false)
        → (if b then true else is_seen seen n r) ≡ false
    go true h rest = h
    go false h rest = rest h

-- and one that is another one than the last is not seen with it
seen_more : (seen : List (ℕ × ℕ)) (m s n r : ℕ) → is_seen seen n r ≡ false → ((m ≡ n) → (s ≡ r) → ⊥)
    → is_seen (seen ++ (m, s) ∷ []) n r ≡ false
seen_more [] m s n r e other = go (nat_eq m n) (nat_eq s r) refl refl
  where
    go : (a b : Bool) → nat_eq m n ≡ a → nat_eq s r ≡ b → (if (a && b) then true else false) ≡ false
    go true true one two = absurd (other ((Decides-eqb m n).0 one) ((Decides-eqb s r).0 two))
    go true false one two = refl
    go false b one two = refl
seen_more (k ∷ seen) m s n r e other = go (is_variable k n r) e (λ h. seen_more seen m s n r h other)
  where
    go : (b : Bool) → (if b then true else is_seen seen n r) ≡ false
        → (is_seen seen n r ≡ false → is_seen (seen ++ (m, s) ∷ []) n r ≡ false)
        → (if b then true else is_seen (seen ++ (m, s) ∷ []) n r) ≡ false
    go true h rest = h
    go false h rest = rest h

-- ---- What the test of pairs says

-- a variable of the sort that is listed
record IsListedVariable (sorts : List ℕ) (n : ℕ) (u : ProfiledTerm) : Type 0 where
  number : ℕ
  sort : ℕ
  listed : slice_get sorts n ≡ Some sort
  is : u ≡ profiled_variable number sort

record AreListed (sorts : List ℕ) (seen : List (ℕ × ℕ)) (pairs : Pairs) : Type 0 where
  each : (i n : ℕ) (u : ProfiledTerm) → slice_get pairs i ≡ Some (n, u) → IsListedVariable sorts n u
  fresh : (i n m s : ℕ) → slice_get pairs i ≡ Some (n, profiled_variable m s) → is_seen seen m s ≡ false
  apart : (i j n k m s : ℕ) → slice_get pairs i ≡ Some (n, profiled_variable m s)
      → slice_get pairs j ≡ Some (k, profiled_variable m s) → i ≡ j

renamed_listed : (sorts : List ℕ) (seen : List (ℕ × ℕ)) (n : ℕ) (u : ProfiledTerm) → is_renamed sorts seen (n, u) ≡ true
    → (m : ℕ) × (s : ℕ) × (slice_get sorts n ≡ Some s) × (u ≡ profiled_variable m s) × (is_seen seen m s ≡ false)
    × (seen_with seen u ≡ seen ++ (m, s) ∷ [])
renamed_listed sorts seen n (profiled_variable m s) e =
    let both = passed (is_listed_sort (slice_get sorts n) s) (not (is_seen seen m s)) e in
    (m, s, sort_is (slice_get sorts n) s both.0, refl, not-true (is_seen seen m s) both.1, refl)
renamed_listed sorts seen n (profiled_node f operation ts) e = absurd (cc e)

listed_renamed : (sorts : List ℕ) (seen : List (ℕ × ℕ)) (n : ℕ) (u : ProfiledTerm) (m s : ℕ) → u ≡ profiled_variable m s
    → slice_get sorts n ≡ Some s → is_seen seen m s ≡ false → is_renamed sorts seen (n, u) ≡ true
listed_renamed sorts seen n u m s same listed fresh =
    subst (λ (v : ProfiledTerm). is_renamed sorts seen (n, v) ≡ true) (sym same)
    (passes (is_listed_sort (slice_get sorts n) s) (not (is_seen seen m s)) (is_sorted (slice_get sorts n) s listed)
    (not_from_false (is_seen seen m s) fresh))

pair_parts : (pair : ℕ × ProfiledTerm) (n : ℕ) (u : ProfiledTerm) → Some pair ≡ Some (n, u) → (pair.0 ≡ n) × (pair.1 ≡ u)
pair_parts pair n u e =
    let same = same_Some pair (n, u) e in
    (ap (λ (p : ℕ × ProfiledTerm). p.0) same, ap (λ (p : ℕ × ProfiledTerm). p.1) same)

tests_listed : (sorts : List ℕ) (seen : List (ℕ × ℕ)) (pairs : Pairs) → are_renamed sorts seen pairs ≡ true → AreListed sorts seen pairs
tests_listed sorts seen [] e = record {
  each = λ i n u at. absurd (none-some (n, u) at);
  fresh = λ i n m s at. absurd (none-some (n, profiled_variable m s) at);
  apart = λ i j n k m s at also. absurd (none-some (n, profiled_variable m s) at);
}
tests_listed sorts seen ((h, v) ∷ pairs) e =
    let both = passed (is_renamed sorts seen (h, v)) (are_renamed sorts (seen_with seen v) pairs) e in
    let here = renamed_listed sorts seen h v both.0 in
    let later = tests_listed sorts (seen_with seen v) pairs both.1 in
    let fresh_later : (i n m s : ℕ) → slice_get pairs i ≡ Some (n, profiled_variable m s)
    → is_seen (seen ++ (here.0, here.1) ∷ []) m s ≡ false =
    λ i n m s at. subst (λ (known : List (ℕ × ℕ)). is_seen known m s ≡ false) here.5 (later.fresh i n m s at) in
    let clash : (i n k m s : ℕ) → v ≡ profiled_variable m s → slice_get pairs i ≡ Some (k, profiled_variable m s) → ⊥ =
    λ i n k m s one at.
    let same : profiled_variable here.0 here.1 ≡ profiled_variable m s = sym here.3 ∙ one in
    let number : here.0 ≡ m = cc same in
    let sort : here.1 ≡ s = cc same in
    cc (
      seen_last seen m s,
      subst (λ (a : ℕ). is_seen (seen ++ (a, s) ∷ []) m s ≡ false) number
          (subst (λ (b : ℕ). is_seen (seen ++ (here.0, b) ∷ []) m s ≡ false) sort (fresh_later i k m s at)),
    ) in
    record {
      each = each_of here later.each;
      fresh = fresh_of here fresh_later;
      apart = apart_of later.apart clash;
    }
  where
    each_of : (here : (m : ℕ) × (s : ℕ) × (slice_get sorts h ≡ Some s) × (v ≡ profiled_variable m s) × (is_seen seen m s ≡ false)
        × (seen_with seen v ≡ seen ++ (m, s) ∷ []))
        → ((i n : ℕ) (u : ProfiledTerm) → slice_get pairs i ≡ Some (n, u) → IsListedVariable sorts n u)
        → (i n : ℕ) (u : ProfiledTerm) → slice_get ((h, v) ∷ pairs) i ≡ Some (n, u) → IsListedVariable sorts n u
    each_of here later zero n u at =
        let parts = pair_parts (h, v) n u at in
        record {
          number = here.0;
          sort = here.1;
          listed = subst (λ (k : ℕ). slice_get sorts k ≡ Some here.1) parts.0 here.2;
          is = sym parts.1 ∙ here.3;
        }
    each_of here later (suc i) n u at = later i n u at

    fresh_of : (here : (m : ℕ) × (s : ℕ) × (slice_get sorts h ≡ Some s) × (v ≡ profiled_variable m s) × (is_seen seen m s ≡ false)
        × (seen_with seen v ≡ seen ++ (m, s) ∷ []))
        → ((i n m s : ℕ) → slice_get pairs i ≡ Some (n, profiled_variable m s) → is_seen (seen ++ (here.0, here.1) ∷ []) m s ≡ false)
        → (i n m s : ℕ) → slice_get ((h, v) ∷ pairs) i ≡ Some (n, profiled_variable m s) → is_seen seen m s ≡ false
    fresh_of here later zero n m s at =
        let same : profiled_variable here.0 here.1 ≡ profiled_variable m s =
        sym here.3 ∙ (pair_parts (h, v) n (profiled_variable m s) at).1 in
        let number : here.0 ≡ m = cc same in
        let sort : here.1 ≡ s = cc same in
        subst (λ (a : ℕ). is_seen seen a s ≡ false) number (subst (λ (b : ℕ). is_seen seen here.0 b ≡ false) sort here.4)
    fresh_of here later (suc i) n m s at = seen_less seen here.0 here.1 m s (later i n m s at)

    apart_of : ((i j n k m s : ℕ) → slice_get pairs i ≡ Some (n, profiled_variable m s)
        → slice_get pairs j ≡ Some (k, profiled_variable m s) → i ≡ j)
        → ((i n k m s : ℕ) → v ≡ profiled_variable m s → slice_get pairs i ≡ Some (k, profiled_variable m s) → ⊥)
        → (i j n k m s : ℕ) → slice_get ((h, v) ∷ pairs) i ≡ Some (n, profiled_variable m s)
        → slice_get ((h, v) ∷ pairs) j ≡ Some (k, profiled_variable m s) → i ≡ j
    apart_of later clash zero zero n k m s at also = refl
    apart_of later clash zero (suc j) n k m s at also =
        absurd (clash j n k m s (pair_parts (h, v) n (profiled_variable m s) at).1 also)
    apart_of later clash (suc i) zero n k m s at also =
        absurd (clash i k n m s (pair_parts (h, v) k (profiled_variable m s) also).1 at)
    apart_of later clash (suc i) (suc j) n k m s at also = ap (λ (q : ℕ). suc q) (later i j n k m s at also)

listed_tests : (sorts : List ℕ) (seen : List (ℕ × ℕ)) (pairs : Pairs) → AreListed sorts seen pairs → are_renamed sorts seen pairs ≡ true
listed_tests sorts seen [] are = refl
listed_tests sorts seen ((h, v) ∷ pairs) are =
    let first = are.each zero h v refl in
    let there : Some (h, v) ≡ Some (h, profiled_variable first.number first.sort) = λ i. Some (h, first.is i) in
    let begun : seen_with seen v ≡ seen ++ (first.number, first.sort) ∷ [] = ap (seen_with seen) first.is in
    passes (is_renamed sorts seen (h, v)) (are_renamed sorts (seen_with seen v) pairs)
    (listed_renamed sorts seen h v first.number first.sort first.is first.listed
    (are.fresh zero h first.number first.sort there))
    (listed_tests sorts (seen_with seen v) pairs (record {
      each = λ i n u at. are.each (suc i) n u at;
      fresh = λ i n m s at.
          subst (λ (known : List (ℕ × ℕ)). is_seen known m s ≡ false) (sym begun)
          (seen_more seen first.number first.sort m s (are.fresh (suc i) n m s at)
          (λ number sort.
          let here : Some (h, v) ≡ Some (h, profiled_variable m s) = there ∙ (λ j. Some (h, profiled_variable (number j) (sort j))) in
          let clash : zero ≡ suc i = are.apart zero (suc i) h n m s here at in
          cc clash));
      apart = λ i j n k m s at also.
          let same : suc i ≡ suc j = are.apart (suc i) (suc j) n k m s at also in
          cc same;
    }))

-- ---- What is found for a variable

number_at : (pairs : Pairs) (i n : ℕ) (u : ProfiledTerm) → slice_get pairs i ≡ Some (n, u) → slice_get (numbers_of pairs) i ≡ Some n
number_at [] i n u at = absurd (none-some (n, u) at)
number_at (pair ∷ pairs) zero n u at = ap (λ (k : ℕ). Some k) (pair_parts pair n u at).0
number_at (pair ∷ pairs) (suc i) n u at = number_at pairs i n u at

found_there : (pairs : Pairs) (i n : ℕ) (u : ProfiledTerm) → AreDistinctNumbers (numbers_of pairs) → slice_get pairs i ≡ Some (n, u)
    → looked_up n pairs ≡ Some u
found_there [] i n u distinct at = absurd (none-some (n, u) at)
found_there (pair ∷ pairs) zero n u distinct at =
    let parts = pair_parts pair n u at in
    ap (λ (b : Bool). if b then Some pair.1 else looked_up n pairs) ((Decides-eqb pair.0 n).1 parts.0)
    ∙ ap (λ (v : ProfiledTerm). Some v) parts.1
found_there (pair ∷ pairs) (suc i) n u distinct at =
    go (nat_eq pair.0 n) refl (found_there pairs i n u (distinct_rest pair.0 (numbers_of pairs) distinct) at)
  where
    go : (b : Bool) → nat_eq pair.0 n ≡ b → looked_up n pairs ≡ Some u → (if b then Some pair.1 else looked_up n pairs) ≡ Some u
    go true test rest =
        let clash : zero ≡ suc i =
        distinct zero (suc i) n (ap (λ (k : ℕ). Some k) ((Decides-eqb pair.0 n).0 test)) (number_at pairs i n u at) in
        absurd (omega (arith, clash))
    go false test rest = rest

bound_there : (pairs : Pairs) (n s : ℕ) (u : ProfiledTerm) → AreDistinctNumbers (numbers_of pairs) → IsPair pairs n u
    → binding (bare_pairs pairs) n s ≡ bare u
bound_there pairs n s u distinct is = binding_agrees pairs n s u (found_there pairs is.0 n u distinct is.1)

-- ---- Both sides at once

-- an operation with two arguments, at which the two sides stand
abbrev pair_operation : Operation
pair_operation = record { name = []; form = prefix_form; arguments = []; result = 0; origin = [] }

abbrev both_sides : ProfiledTerm → ProfiledTerm → ProfiledTerm
both_sides l r = profiled_node 0 pair_operation (profiled_term_then l (profiled_term_then r no_profiled_terms))

abbrev plain_sides : Term → Term → Term
plain_sides l r = node 0 (term_then l (term_then r no_terms))

-- what the two searches find is what the search of both finds
searched_both : (l r t u : ProfiledTerm) (o : Option Pairs) → o ≡ option_and_then (searched r u) (searched l t [])
    → searched (both_sides l r) (both_sides t u) [] ≡ o
searched_both l r t u o is = go (searched l t []) ∙ sym is
  where
    back : (p : Option Pairs) → option_and_then (λ (found : Pairs). Some found) p ≡ p
    back None = refl
    back (Some found) = refl

    go : (p : Option Pairs)
        → option_and_then (all_searched (profiled_term_then r no_profiled_terms) (profiled_term_then u no_profiled_terms)) p
        ≡ option_and_then (searched r u) p
    go None = refl
    go (Some found) = back (searched r u found)

-- the number of a variable
abbrev number_of : Term → ℕ
number_of (variable m s) = m
number_of (node f ts) = 0

bare_is : (u : ProfiledTerm) (m s : ℕ) → bare u ≡ variable m s → u ≡ profiled_variable m s
bare_is (profiled_variable n r) m s e =
    let number : n ≡ m = cc e in
    let sort : r ≡ s = cc e in
    (λ i. profiled_variable (number i) (sort i))
bare_is (profiled_node f operation ts) m s e = absurd (cc e)

left_same : (a b c d : Term) → plain_sides a b ≡ plain_sides c d → a ≡ c
left_same a b c d e = cc e

right_same : (a b c d : Term) → plain_sides a b ≡ plain_sides c d → b ≡ d
right_same a b c d e = cc e

module _ (sorts : List ℕ) (l r t u : ProfiledTerm) where
  abbrev one : Statement
  one = record { left = bare l; right = bare r }

  abbrev other : Statement
  other = record { left = bare t; right = bare u }

  abbrev whole : Term
  whole = bare (both_sides l r)

  in_whole : (n s : ℕ) → OccursInSide one n s → Occurs n s whole
  in_whole n s (inl o) = inl o
  in_whole n s (inr o) = inr (inl o)

  in_side : (n s : ℕ) → Occurs n s whole → OccursInSide one n s
  in_side n s (inl o) = inl o
  in_side n s (inr (inl o)) = inr o
  in_side n s (inr (inr o)) = absurd o

  module _ (listed : (n s : ℕ) → OccursInSide one n s → slice_get sorts n ≡ Some s) where
    one_sort : TermHasOneSortPerNumber whole
    one_sort n q s o p = same_Some q s (sym (listed n q (in_side n q o)) ∙ listed n s (in_side n s p))

    module _ (pairs : Pairs) (is : searched (both_sides l r) (both_sides t u) [] ≡ Some pairs) where
      matched : IsMatchedBy (both_sides l r) (both_sides t u) pairs
      matched = search_is_match (both_sides l r) (both_sides t u) pairs is

      distinct : AreDistinctNumbers (numbers_of pairs)
      distinct = search_is_distinct (both_sides l r) (both_sides t u) pairs is

      -- where the pairs rename, the two are the same
      module _ (are : AreListed sorts [] pairs) where
        abbrev number : ℕ → ℕ → ℕ
        number n s = number_of (binding (bare_pairs pairs) n s)

        -- what stands at a variable that occurs
        at_variable : (n s : ℕ) → Occurs n s whole
            → (i : ℕ) × (slice_get pairs i ≡ Some (n, profiled_variable (number n s) s))
            × (binding (bare_pairs pairs) n s ≡ variable (number n s) s)
        at_variable n s o =
            let pair = matched.paired n (s, o) in
            let there = are.each pair.1.0 n pair.0 pair.1.1 in
            let sort : there.sort ≡ s = same_Some there.sort s (sym there.listed ∙ listed n s (in_side n s o)) in
            let value : binding (bare_pairs pairs) n s ≡ variable there.number s =
            bound_there pairs n s pair.0 distinct pair.1 ∙ ap bare there.is ∙ ap (λ (q : ℕ). variable there.number q) sort in
            let same : number n s ≡ there.number = ap number_of value in (
              pair.1.0,
              pair.1.1
                  ∙ (λ i. Some (n, there.is i))
                  ∙ (λ i. Some (n, profiled_variable (sym same i) (sort i))),
              value ∙ ap (λ (q : ℕ). variable q s) (sym same),
            )

        renamed_sides : substituted (renaming number) whole ≡ plain_sides (bare t) (bare u)
        renamed_sides =
            substituted_agree (renaming number) (binding (bare_pairs pairs)) whole (λ n s o. sym (at_variable n s o).2) ∙ matched.makes

        renamed_statement : IsRenamedStatement one other
        renamed_statement = record {
          number = number;
          apart = λ n m s o p same.
              let first = at_variable n s (in_whole n s o) in
              let second = at_variable m s (in_whole m s p) in
              let place : first.0 ≡ second.0 =
              are.apart first.0 second.0 n m (number n s) s first.1
              (second.1 ∙ (λ i. Some (m, profiled_variable (sym same i) s))) in
              let both : Some (n, profiled_variable (number n s) s) ≡ Some (m, profiled_variable (number m s) s) =
              sym first.1 ∙ ap (λ (i : ℕ). slice_get pairs i) place ∙ second.1 in
              (pair_parts (n, profiled_variable (number n s) s) m (profiled_variable (number m s) s) both).0;
          left =
              left_same (substituted (renaming number) (bare l)) (substituted (renaming number) (bare r)) (bare t) (bare u) renamed_sides;
          right =
              right_same (substituted (renaming number) (bare l)) (substituted (renaming number) (bare r)) (bare t) (bare u) renamed_sides;
        }

      -- and where the two are the same, the pairs rename
      module _ (same : IsRenamedStatement one other) where
        sides : substituted (renaming same.number) whole ≡ plain_sides (bare t) (bare u)
        sides = λ i. plain_sides (same.left i) (same.right i)

        value_there : (n s : ℕ) (v : ProfiledTerm) → Occurs n s whole → IsPair pairs n v → v ≡ profiled_variable (same.number n s) s
        value_there n s v o at =
            bare_is v (same.number n s) s
            (sym (bound_there pairs n s v distinct at)
            ∙ values_same (binding (bare_pairs pairs)) (renaming same.number) whole (matched.makes ∙ sym sides) n s o)

        pairs_listed : AreListed sorts [] pairs
        pairs_listed = record {
          each = λ i n v at.
              let o = matched.occurring n v (i, at) in record {
                number = same.number n o.0;
                sort = o.0;
                listed = listed n o.0 (in_side n o.0 o.1);
                is = value_there n o.0 v o.1 (i, at);
              };
          fresh = λ i n m s at. refl;
          apart = λ i j n k m s at also.
              let o = matched.occurring n (profiled_variable m s) (i, at) in
              let p = matched.occurring k (profiled_variable m s) (j, also) in
              let first : profiled_variable m s ≡ profiled_variable (same.number n o.0) o.0 =
              value_there n o.0 (profiled_variable m s) o.1 (i, at) in
              let second : profiled_variable m s ≡ profiled_variable (same.number k p.0) p.0 =
              value_there k p.0 (profiled_variable m s) p.1 (j, also) in
              let sort : s ≡ o.0 = cc first in
              let also_sort : s ≡ p.0 = cc second in
              let number : m ≡ same.number n o.0 = cc first in
              let also_number : m ≡ same.number k p.0 = cc second in
              let numbers : same.number n s ≡ same.number k s =
              ap (λ (q : ℕ). same.number n q) sort ∙ sym number ∙ also_number ∙ ap (λ (q : ℕ). same.number k q) (sym also_sort) in
              let one_number : n ≡ k =
              same.apart n k s (in_side n s (subst (λ (q : ℕ). Occurs n q whole) (sym sort) o.1))
              (in_side k s (subst (λ (q : ℕ). Occurs k q whole) (sym also_sort) p.1)) numbers in
              distinct i j n (number_at pairs i n (profiled_variable m s) at)
              (number_at pairs j k (profiled_variable m s) also ∙ ap (λ (q : ℕ). Some q) (sym one_number));
        }

    -- ---- What the code asks

    abbrev both_searched : Option Pairs
    both_searched = option_and_then (searched r u) (searched l t [])

    pub found_decides : (pairs : Pairs) (b : Bool) → Some pairs ≡ both_searched → b ≡ are_renamed sorts [] pairs
        → IsTrue b ↔ IsRenamedStatement one other
    found_decides pairs b found told =
        let is = searched_both l r t u (Some pairs) found in (
          λ yes. renamed_statement pairs is (tests_listed sorts [] pairs (sym told ∙ yes)),
          λ same. told ∙ listed_tests sorts [] pairs (pairs_listed pairs is same),
        )

    pub not_found : None ≡ both_searched → IsRenamedStatement one other → ⊥
    not_found none same =
        let is = searched_both l r t u None none in
        let there = search_complete whole (renaming same.number) one_sort (both_sides l r) (both_sides t u) [] (λ n s o. o)
        (λ i. plain_sides (same.left i) (same.right i)) (λ n s v o h. absurd (none-some v h)) in
        none-some there.0 (sym is ∙ there.1)

-- ---- The first lemma that is the same

abbrev pub NoneBefore : List StatedLemma → PlainEquation → ℕ → Type 0
NoneBefore lemmas equation i = (j : ℕ) (lemma : Lemma) → j < i → slice_get (lemmas_in lemmas) j ≡ Some lemma
    → ¬ IsRenamedStatement lemma.statement (stated equation)

pub met_here : (lemmas : List StatedLemma) (equation : PlainEquation) (i : ℕ) (lemma : StatedLemma) → slice_get lemmas i ≡ Some lemma
    → NoneBefore lemmas equation i → IsRenamedStatement (lemma_in lemma).statement (stated equation)
    → IsMetBy (lemmas_in lemmas) equation i
met_here lemmas equation i lemma at none same = record {
  lemma = lemma_in lemma;
  is_lemma = at_map lemma_in lemmas i lemma at;
  renamed = same;
  first = λ j earlier less there. none j earlier less there;
}

pub none_more : (lemmas : List StatedLemma) (equation : PlainEquation) (i : ℕ) (lemma : StatedLemma) → slice_get lemmas i ≡ Some lemma
    → NoneBefore lemmas equation i → ¬ IsRenamedStatement (lemma_in lemma).statement (stated equation)
    → NoneBefore lemmas equation (i + 1)
none_more lemmas equation i lemma at none not j other less there = by (cases_lt j i)
  where
    by : (j < i) ⊎ (i ≤ j) → ¬ IsRenamedStatement other.statement (stated equation)
    by (inl before) = none j other before there
    by (inr past) =
        let same : j ≡ i = omega (arith, past, less) in
        let is : lemma_in lemma ≡ other =
        same_Some (lemma_in lemma) other
        (sym (at_map lemma_in lemmas i lemma at) ∙ ap (λ (k : ℕ). slice_get (lemmas_in lemmas) k) (sym same) ∙ there) in
        subst (λ (l : Lemma). ¬ IsRenamedStatement l.statement (stated equation)) is not

pub none_at_all : (lemmas : List StatedLemma) (equation : PlainEquation) (i : ℕ) → length lemmas ≤ i → NoneBefore lemmas equation i
    → IsLeftOpen (lemmas_in lemmas) equation
none_at_all lemmas equation i past none j lemma there =
    let within = slice_get_within (lemmas_in lemmas) j lemma there in
    let count : length (lemmas_in lemmas) ≡ length lemmas = length-map lemmas lemma_in in
    none j lemma (omega (arith, within, count, past)) there

-- ---- One lemma

sides_listed : (signature : Signature) (lemma : StatedLemma) → IsKnownLemma signature lemma → (n s : ℕ)
    → OccursInSide (lemma_in lemma).statement n s → slice_get lemma.variables.items n ≡ Some s
sides_listed signature lemma known n s (inl o) = known.stated.left_listed n s o
sides_listed signature lemma known n s (inr o) = known.stated.right_listed n s o

abbrev pub searched_for : StatedLemma → Equation → Option Pairs
searched_for lemma equation =
    option_and_then (searched (profiled_of lemma.statement.right.term) (profiled_of equation.right.term))
    (searched (profiled_of lemma.statement.left.term) (profiled_of equation.left.term) [])

module _ (signature : Signature) (lemma : StatedLemma) (equation : Equation) (known : IsKnownLemma signature lemma) where
  pub same_decided : (pairs : Pairs) (b : Bool) → Some pairs ≡ searched_for lemma equation → b ≡ are_renamed lemma.variables.items [] pairs
      → IsTrue b ↔ IsRenamedStatement (lemma_in lemma).statement (stated (equation_of equation))
  same_decided pairs b found told =
      found_decides lemma.variables.items (profiled_of lemma.statement.left.term) (profiled_of lemma.statement.right.term)
      (profiled_of equation.left.term) (profiled_of equation.right.term) (sides_listed signature lemma known) pairs b found told

  pub not_same_there : None ≡ searched_for lemma equation
      → IsTrue false ↔ IsRenamedStatement (lemma_in lemma).statement (stated (equation_of equation))
  not_same_there none = (
    λ yes. absurd (cc yes),
    λ same. absurd (not_found lemma.variables.items (profiled_of lemma.statement.left.term) (profiled_of lemma.statement.right.term)
        (profiled_of equation.left.term) (profiled_of equation.right.term) (sides_listed signature lemma known) none same),
  )
