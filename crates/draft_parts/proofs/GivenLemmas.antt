-- Terms in a scope whose variables have got terms over leaves.
use Rattle.std.proofs.Common.{◌≡◌, ◌<◌, ◌≤◌, ℕ, suc, List, [], ◌∷◌, ◌++◌, map, length, Bool, true, false, nat_eq, if◌then◌else◌, Some, refl, ap, sym, ◌∙◌, subst, arith}
use Rattle.std.specs.Prelude.{zip}
use Rattle.lotos_base.specs.Signature.{Signature, IsSort}
use Rattle.lotos_base.specs.Term.{Term, variable}
use Rattle.lotos_base.specs.Sorting.{HasSort}
use Rattle.lotos_base.specs.Equation.{Data, Variable}
use Rattle.lotos_base.specs.Canon.{IsCanon}
use Rattle.lotos_base.specs.Substitution.{substituted, binding}
use Rattle.lotos_base.proofs.SubstitutionLemmas.{substituted_sort, substituted_occurs}
use Rattle.behaviour_semantics.specs.NumberingLaws.{IsOverLeaves}
use Rattle.behaviour_semantics.specs.WellFormed.{Every, sort_in, IsTermIn, AreTermsIn}
use Rattle.behaviour_semantics.proofs.OptionLemmas.{some_value}
use Rattle.draft_parts.specs.EnvironmentLaws.{ArePairsFrom}
use Rattle.draft_parts.specs.EnvironmentRaises.{GivesScope}

module _ (signature : Signature) (base limit : ℕ) where
  -- ---- What a variable in scope gets.
  pub given : (scope : List Variable) (pairs : List (ℕ × Term)) → GivesScope signature base limit scope pairs → (n s : ℕ)
      → sort_in scope n ≡ Some s → IsOverLeaves signature base limit s (binding pairs n s)
  given [] [] g n s e = absurd (cc e)
  given [] (pair ∷ pairs) g n s e = absurd g
  given (x ∷ scope) [] g n s e = absurd g
  given (x ∷ scope) (pair ∷ pairs) g n s e = by (nat_eq x.number n) refl (λ later. given scope pairs g.3 n s later)
    where
      at : (c : Bool) → nat_eq x.number n ≡ c → nat_eq pair.0 n ≡ c
      at c is = ap (λ (m : ℕ). nat_eq m n) g.0 ∙ is

      found : (c : Bool) → nat_eq x.number n ≡ c → (if c then Some x.sort else sort_in scope n) ≡ Some s
      found c is = sym (ap (λ (d : Bool). if d then Some x.sort else sort_in scope n) is) ∙ e

      by : (c : Bool) → nat_eq x.number n ≡ c → (sort_in scope n ≡ Some s → IsOverLeaves signature base limit s (binding pairs n s))
          → IsOverLeaves signature base limit s (if nat_eq pair.0 n then pair.1 else binding pairs n s)
      by true is rest =
          subst (λ (d : Bool). IsOverLeaves signature base limit s (if d then pair.1 else binding pairs n s)) (sym (at true is))
          (subst (λ (r : ℕ). IsOverLeaves signature base limit r pair.1) (some_value (found true is)) g.2)
      by false is rest =
          subst (λ (d : Bool). IsOverLeaves signature base limit s (if d then pair.1 else binding pairs n s)) (sym (at false is))
          (rest (found false is))

  -- the terms have no variables below the first leaf
  pub from_base : (scope : List Variable) (pairs : List (ℕ × Term)) → GivesScope signature base limit scope pairs → ArePairsFrom base pairs
  from_base [] [] g = tt
  from_base [] (pair ∷ pairs) g = absurd g
  from_base (x ∷ scope) [] g = absurd g
  from_base (x ∷ scope) (pair ∷ pairs) g = ((λ n s o. (g.2.leaves n s o).0), from_base scope pairs g.3)

  -- a leaf for one more variable
  pub with_leaf : (scope : List Variable) (pairs : List (ℕ × Term)) (x : Variable) (k : ℕ) → base ≤ k → k < limit
      → IsSort signature x.sort → GivesScope signature base limit scope pairs
      → GivesScope signature base limit (x ∷ scope) ((x.number, variable k x.sort) ∷ pairs)
  with_leaf scope pairs x k le lt sort g = (
    refl,
    sort,
    record {
      sorted = (refl, sort);
      leaves = λ n s o. (subst (λ (m : ℕ). base ≤ m) o.0 le, subst (λ (m : ℕ). m < limit) o.0 lt);
    },
    g,
  )

  -- a limit behind it
  pub widened : (later : ℕ) → limit ≤ later → (scope : List Variable) (pairs : List (ℕ × Term))
      → GivesScope signature base limit scope pairs → GivesScope signature base later scope pairs
  widened later le [] [] g = tt
  widened later le [] (pair ∷ pairs) g = absurd g
  widened later le (x ∷ scope) [] g = absurd g
  widened later le (x ∷ scope) (pair ∷ pairs) g = (
    g.0,
    g.1,
    record {
      sorted = g.2.sorted;
      leaves = λ n s o.
          let lt : n < limit = (g.2.leaves n s o).1 in
          ((g.2.leaves n s o).0, (let less : n < later = omega arith in less));
    },
    widened later le scope pairs g.3,
  )

-- ---- Terms with these put in.
module _ (data_ : Data) (canon : Term → Term) (is_canon : IsCanon data_ canon) (base limit : ℕ) (scope : List Variable)
    (pairs : List (ℕ × Term)) (g : GivesScope data_.signature base limit scope pairs) where
  put_sort : (s : ℕ) (t : Term) → IsTermIn data_.signature scope s t → HasSort data_.signature (substituted (binding pairs) t) s
  put_sort s t h = substituted_sort data_.signature (binding pairs) t s h.sorted
      (λ n r o. (given data_.signature base limit scope pairs g n r (h.bound n r o)).sorted)

  pub put_over : (s : ℕ) (t : Term) → IsTermIn data_.signature scope s t
      → IsOverLeaves data_.signature base limit s (canon (substituted (binding pairs) t))
  put_over s t h = record {
    sorted = is_canon.sorts (substituted (binding pairs) t) s (put_sort s t h);
    leaves = λ n r o.
        let from = substituted_occurs n r (binding pairs) t
        (is_canon.occurring (substituted (binding pairs) t) n r (s, put_sort s t h) o) in
        (given data_.signature base limit scope pairs g from.number from.sort (h.bound from.number from.sort from.occurs)).leaves n r
        from.inside;
  }

  -- the terms of a binder before those in scope
  pub puts_over : (outer : List Variable) (others : List (ℕ × Term)) → GivesScope data_.signature base limit outer others
      → (variables : List Variable) (terms : List Term) → Every (λ (x : Variable). IsSort data_.signature x.sort) variables
      → AreTermsIn data_.signature scope variables terms
      → GivesScope data_.signature base limit (variables ++ outer)
      (zip (map (λ (x : Variable). x.number) variables) (map canon (map (substituted (binding pairs)) terms)) ++ others)
  puts_over outer others o [] [] sorts h = o
  puts_over outer others o [] (t ∷ terms) sorts h = absurd h
  puts_over outer others o (x ∷ variables) [] sorts h = absurd h
  puts_over outer others o (x ∷ variables) (t ∷ terms) sorts h =
      (refl, sorts.0, put_over x.sort t h.0, puts_over outer others o variables terms sorts.1 h.1)

pub same_count : (signature : Signature) (scope parameters : List Variable) (terms : List Term)
    → AreTermsIn signature scope parameters terms → length terms ≡ length parameters
same_count signature scope [] [] h = refl
same_count signature scope [] (t ∷ terms) h = absurd h
same_count signature scope (x ∷ parameters) [] h = absurd h
same_count signature scope (x ∷ parameters) (t ∷ terms) h = ap suc (same_count signature scope parameters terms h.1)
