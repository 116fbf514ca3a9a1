-- The order of values is strict, and total on the ground terms of a signature.
use Rattle.std.proofs.Common.{◌≡◌, ℕ, ◌+◌, ◌<◌, List, [], ◌∷◌, refl, sym, ◌∙◌, subst, inl, inr, arith}
use Rattle.std.specs.Prelude.{◌⊎◌}
use Rattle.std.proofs.lemmas.Option.{same_Some}
use Rattle.lotos_base.specs.Signature.{Signature, Operation, IsOperation}
use Rattle.lotos_base.specs.Sorting.{HasSort, HaveSorts, IsGround, AreGround}
use Rattle.lotos_base.specs.Term.{Term, variable, node, Terms, no_terms, term_then}
use Rattle.lotos_base.proofs.Numbers.{compared}
use Rattle.value_lists.specs.TermOrder.{term_size, term_sizes, ComesBefore, ComeBefore}

mutual
  pub not_before_itself : (t : Term) → ComesBefore t t → ⊥
  not_before_itself (variable n s) h = h
  not_before_itself (node f ts) (inl less) = omega (arith, less)
  not_before_itself (node f ts) (inr (same, inl less)) = omega (arith, less)
  not_before_itself (node f ts) (inr (same, inr (head, before))) = none_before_itself ts before

  pub none_before_itself : (ts : Terms) → ComeBefore ts ts → ⊥
  none_before_itself no_terms h = h
  none_before_itself (term_then t ts) (inl before) = not_before_itself t before
  none_before_itself (term_then t ts) (inr (same, before)) = none_before_itself ts before

mutual
  pub before_then : (t u v : Term) → ComesBefore t u → ComesBefore u v → ComesBefore t v
  before_then (variable n s) (variable m r) v h k = absurd h
  before_then (variable n s) (node g us) v h k = absurd h
  before_then (node f ts) (variable m r) v h k = absurd h
  before_then (node f ts) (node g us) (variable l q) h k = absurd k
  before_then (node f ts) (node g us) (node h vs) (inl less) (inl more) = inl (omega (arith, less, more))
  before_then (node f ts) (node g us) (node h vs) (inl less) (inr (same, heads)) = inl (omega (arith, less, same))
  before_then (node f ts) (node g us) (node h vs) (inr (same, heads)) (inl more) = inl (omega (arith, same, more))
  before_then (node f ts) (node g us) (node h vs) (inr (one, inl less)) (inr (two, inl more)) =
      inr (one ∙ two, inl (omega (arith, less, more)))
  before_then (node f ts) (node g us) (node h vs) (inr (one, inl less)) (inr (two, inr (head, before))) =
      inr (one ∙ two, inl (omega (arith, less, head)))
  before_then (node f ts) (node g us) (node h vs) (inr (one, inr (head, before))) (inr (two, inl more)) =
      inr (one ∙ two, inl (omega (arith, head, more)))
  before_then (node f ts) (node g us) (node h vs) (inr (one, inr (head, before))) (inr (two, inr (next, after))) =
      inr (one ∙ two, inr (head ∙ next, all_before_then ts us vs before after))

  pub all_before_then : (ts us vs : Terms) → ComeBefore ts us → ComeBefore us vs → ComeBefore ts vs
  all_before_then no_terms no_terms vs h k = absurd h
  all_before_then no_terms (term_then u us) vs h k = absurd h
  all_before_then (term_then t ts) no_terms vs h k = absurd h
  all_before_then (term_then t ts) (term_then u us) no_terms h k = absurd k
  all_before_then (term_then t ts) (term_then u us) (term_then v vs) (inl before) (inl after) = inl (before_then t u v before after)
  all_before_then (term_then t ts) (term_then u us) (term_then v vs) (inl before) (inr (same, after)) =
      inl (subst (λ w. ComesBefore t w) same before)
  all_before_then (term_then t ts) (term_then u us) (term_then v vs) (inr (same, before)) (inl after) =
      inl (subst (λ w. ComesBefore w v) (sym same) after)
  all_before_then (term_then t ts) (term_then u us) (term_then v vs) (inr (one, before)) (inr (two, after)) =
      inr (one ∙ two, all_before_then ts us vs before after)

pub smaller_first : (t u : Term) → IsGround t → IsGround u → term_size t < term_size u → ComesBefore t u
smaller_first (variable n s) u h k less = absurd h
smaller_first (node f ts) (variable m r) h k less = absurd k
smaller_first (node f ts) (node g us) h k less = inl (omega (arith, less))

-- ---- Of two ground terms of a signature that differ one comes first

abbrev Compares : Term → Term → Type 0
Compares t u = ComesBefore t u ⊎ ((t ≡ u) ⊎ ComesBefore u t)

abbrev Compare : Terms → Terms → Type 0
Compare ts us = ComeBefore ts us ⊎ ((ts ≡ us) ⊎ ComeBefore us ts)

by_arguments : (f g : ℕ) (ts us : Terms) → term_sizes ts ≡ term_sizes us → f ≡ g → Compare ts us → Compares (node f ts) (node g us)
by_arguments f g ts us same head (inl before) = inl (inr (same, inr (head, before)))
by_arguments f g ts us same head (inr (inl one)) = inr (inl (λ i. node (head i) (one i)))
by_arguments f g ts us same head (inr (inr after)) = inr (inr (inr (sym same, inr (sym head, after))))

by_rest : (t u : Term) (ts us : Terms) → t ≡ u → Compare ts us → Compare (term_then t ts) (term_then u us)
by_rest t u ts us same (inl before) = inl (inr (same, before))
by_rest t u ts us same (inr (inl one)) = inr (inl (λ i. term_then (same i) (one i)))
by_rest t u ts us same (inr (inr after)) = inr (inr (inr (sym same, after)))

mutual
  pub one_first : (signature : Signature) (t u : Term) (s r : ℕ) → HasSort signature t s → HasSort signature u r → IsGround t
      → IsGround u → Compares t u
  one_first signature (variable n q) u s r h k ground_t ground_u = absurd ground_t
  one_first signature (node f ts) (variable m q) s r h k ground_t ground_u = absurd ground_u
  one_first signature (node f ts) (node g us) s r h k ground_t ground_u =
      sizes (λ profile. all_first signature ts us h.0.arguments h.3 profile ground_t ground_u)
      (compared (term_sizes ts) (term_sizes us))
    where
      heads : (HaveSorts signature us h.0.arguments → Compare ts us) → term_sizes ts ≡ term_sizes us → (f < g) ⊎ ((f ≡ g) ⊎ (g < f))
          → Compares (node f ts) (node g us)
      heads rest same (inl less) = inl (inr (same, inl less))
      heads rest same (inr (inr more)) = inr (inr (inr (sym same, inl more)))
      heads rest same (inr (inl head)) =
          let operations : h.0 ≡ k.0 =
          same_Some _ _ (sym h.1 ∙ subst (λ (i : ℕ). IsOperation signature i k.0) (sym head) k.1) in
          by_arguments f g ts us same head
          (rest (subst (λ (o : Operation). HaveSorts signature us o.arguments) (sym operations) k.3))

      sizes : (HaveSorts signature us h.0.arguments → Compare ts us)
          → (term_sizes ts < term_sizes us) ⊎ ((term_sizes ts ≡ term_sizes us) ⊎ (term_sizes us < term_sizes ts))
          → Compares (node f ts) (node g us)
      sizes rest (inl less) = inl (inl less)
      sizes rest (inr (inr more)) = inr (inr (inl more))
      sizes rest (inr (inl same)) = heads rest same (compared f g)

  pub all_first : (signature : Signature) (ts us : Terms) (sorts : List ℕ) → HaveSorts signature ts sorts
      → HaveSorts signature us sorts → AreGround ts → AreGround us → Compare ts us
  all_first signature no_terms no_terms sorts h k ground_ts ground_us = inr (inl refl)
  all_first signature no_terms (term_then u us) [] h k ground_ts ground_us = absurd k
  all_first signature no_terms (term_then u us) (s ∷ ss) h k ground_ts ground_us = absurd h
  all_first signature (term_then t ts) no_terms [] h k ground_ts ground_us = absurd h
  all_first signature (term_then t ts) no_terms (s ∷ ss) h k ground_ts ground_us = absurd k
  all_first signature (term_then t ts) (term_then u us) [] h k ground_ts ground_us = absurd h
  all_first signature (term_then t ts) (term_then u us) (s ∷ ss) h k ground_ts ground_us =
      firsts (all_first signature ts us ss h.1 k.1 ground_ts.1 ground_us.1)
      (one_first signature t u s s h.0 k.0 ground_ts.0 ground_us.0)
    where
      firsts : Compare ts us → Compares t u → Compare (term_then t ts) (term_then u us)
      firsts rest (inl before) = inl (inl before)
      firsts rest (inr (inr after)) = inr (inr (inl after))
      firsts rest (inr (inl same)) = by_rest t u ts us same rest
