-- The order of all types: the beginning, one type more, the end.
use Rattle.std.proofs.Common.{◌≡◌, ℕ, zero, suc, ◌+◌, ◌-◌, ◌<◌, ◌≤◌, List, [], ◌∷◌, length, replicate, inl, inr, true, refl, sym, ap, subst, ◌∙◌, arith}
use Rattle.std.proofs.lemmas.Bool.{cases_lt}
use Rattle.type_definitions.specs.TypeGraph.{is_among, IsAcyclic}
use Rattle.type_definitions.specs.FlatteningOrder.{FlatteningComesTo, ComesToEach, none_left, next_come_to, counted_from, IsFlatteningOrder}
use Rattle.type_definitions.specs.Walking.{IsTypeWalk, IsSorted}
use Rattle.type_definitions.specs.Ordering.{IsOrdering}
use Rattle.type_definitions.specs.declared.walk.Progress.{Progress}
use Rattle.type_definitions.specs.declared.walk.Progress.TheVariants.{Unseen}
use Rattle.type_definitions.proofs.OrderLemmas.{stays_done, is_done, no_cycle}
use Rattle.type_definitions.proofs.MentionWalkLemmas.{nothing_walked}

pub ordering_begun : (graph : List (List ℕ)) (p : List Progress) (order : List ℕ) (n : ℕ) → n ≡ length graph
    → p ≡ replicate n Unseen → order ≡ [] → IsOrdering graph p order 0
ordering_begun graph p order n all is empty = subst (λ (xs : List ℕ). IsOrdering graph p xs 0) (sym empty)
    (subst (λ (ps : List Progress). IsOrdering graph ps [] 0) (sym is) (record {
      walk = nothing_walked graph n all;
      runs = λ xs each. subst (λ (k : ℕ). ComesToEach graph [] (counted_from 0 k) xs) whole each;
      before = λ i below. absurd (omega arith);
    }))
  where
    whole : length graph - 0 ≡ length graph
    whole = omega arith

pub ordering_more : (graph : List (List ℕ)) (p : List Progress) (order : List ℕ) (root : ℕ) (p' : List Progress) (order' : List ℕ)
    → IsOrdering graph p order root → root < length graph → IsTypeWalk graph p' order' [] → FlatteningComesTo graph order root order'
    → IsOrdering graph p' order' (root + 1)
ordering_more graph p order root p' order' o within w to = record {
  walk = w;
  runs = λ xs each.
      o.runs xs
      (subst (λ (ns : List ℕ). ComesToEach graph order ns xs) (sym cut)
      (next_come_to order order' xs root (counted_from (suc root) (length graph - (root + 1))) to
      (subst (λ (k : ℕ). ComesToEach graph order' (counted_from k (length graph - (root + 1))) xs) next each)));
  before = λ i below.
      elim (cases_lt i root) [
        | inl earlier ↦ stays_done graph order root order' i to (o.before i earlier)
        | inr as_far ↦
            let same : root ≡ i = omega arith in
            subst (λ (k : ℕ). is_among order' k ≡ true) same (is_done graph order root order' to)
      ];
}
  where
    next : root + 1 ≡ suc root
    next = omega arith

    rest : length graph - root ≡ suc (length graph - (root + 1))
    rest = omega arith

    cut : counted_from root (length graph - root) ≡ root ∷ counted_from (suc root) (length graph - (root + 1))
    cut = ap (λ (k : ℕ). counted_from root k) rest

pub ordering_done : (graph : List (List ℕ)) (p : List Progress) (order : List ℕ) (root : ℕ) → IsOrdering graph p order root
    → length graph ≤ root → IsAcyclic graph × IsFlatteningOrder graph order × IsSorted graph order
ordering_done graph p order root o past = (
  no_cycle graph order o.walk.sorted (λ i within. o.before i (omega arith)),
  o.runs order (subst (λ (k : ℕ). ComesToEach graph order (counted_from root k) order) (sym none) (none_left order)),
  o.walk.sorted,
)
  where
    none : length graph - root ≡ zero
    none = omega arith
