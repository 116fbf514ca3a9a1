-- A graph of mentions has one order of flattening.
use Rattle.std.proofs.Common.{refl, ap, sym, ◌≡◌, subst, ℕ, List, [], ◌∷◌, ◌++◌}
use Rattle.std.proofs.lemmas.Bool.{both_ways}
use Rattle.type_definitions.specs.TypeGraph.{is_among}
use Rattle.type_definitions.specs.FlatteningOrder.{FlatteningComesTo, flattened_already, flattened_now, ComesToEach, none_left, next_come_to, IsFlatteningOrder}

mutual
  comes_once : {graph : List (List ℕ)} {done one other : List ℕ} {i : ℕ} → FlatteningComesTo graph done i one
      → FlatteningComesTo graph done i other
      → one ≡ other
  comes_once (flattened_already done i told) (flattened_already _ _ also) = refl
  comes_once (flattened_already done i told) (flattened_now _ more _ untold each) = absurd (both_ways (is_among done i) untold told)
  comes_once (flattened_now done more i untold each) (flattened_already _ _ told) = absurd (both_ways (is_among done i) untold told)
  comes_once (flattened_now done more i untold each) (flattened_now _ other _ also too) =
      ap (λ (ns : List ℕ). ns ++ i ∷ []) (each_once each too)

  each_once : {graph : List (List ℕ)} {done one other numbers : List ℕ} → ComesToEach graph done numbers one
      → ComesToEach graph done numbers other → one ≡ other
  each_once (none_left done) (none_left _) = refl
  each_once {graph} {other = all} (next_come_to done more one i numbers first rest) (next_come_to _ also _ _ _ second later) =
      each_once rest (subst (λ (ns : List ℕ). ComesToEach graph ns numbers all) (sym (comes_once first second)) later)

pub order_once : (graph : List (List ℕ)) (one other : List ℕ) → IsFlatteningOrder graph one → IsFlatteningOrder graph other → one ≡ other
order_once graph one other is also = each_once is also
