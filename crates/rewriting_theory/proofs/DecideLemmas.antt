-- Whether two terms have a unifier is decided: each variable that is bound leaves fewer variables, or nothing changes and
-- the rest is smaller.
use Rattle.std.proofs.Common.{◌≡◌, ◌≤◌, ◌<◌, ℕ, zero, suc, List, [], ◌∷◌, ◌++◌, length, Bool, true, false, nat_eq, refl, ap, sym, ◌∙◌, subst, inl, inr, arith}
use Rattle.std.specs.Prelude.{◌⊎◌, ◌&&◌, if◌then◌else◌}
use Rattle.std.proofs.lemmas.Bool.Decides.{Decides-eqb, Decides-and}
use Rattle.lotos_base.specs.Term.{Term, variable, node, Terms, no_terms, term_then}
use Rattle.lotos_base.specs.Sorting.{Occurs, OccursAmong}
use Rattle.lotos_base.specs.Tests.{term_eq, occurs}
use Rattle.lotos_base.specs.Substitution.{Substitution, substituted, all_substituted, followed_by}
use Rattle.lotos_base.proofs.TestLemmas.{Decides-term_eq, Decides-occurs}
use Rattle.lotos_base.proofs.SubstitutionLemmas.{substituted_occurs, all_substituted_occurs, all_substituted_agree, all_substituted_variables}
use Rattle.rewriting_theory.proofs.StepLemmas.{updated}
use Rattle.rewriting_theory.proofs.UnifyLemmas.{IsSolution, AreSolution, absorbed_instances, solution_same, solution_none, solution_variable, no_occurring_unifier, solution_back, solution_node, solution_then}
use Rattle.rewriting_theory.proofs.PlaceListLemmas.{IsIn, in_left, in_right}
use Rattle.rewriting_theory.proofs.UniqueLemmas.{variable_list, occurs_member}

-- ---- Lists of variables, and what is left without one

abbrev is_variable : ℕ → ℕ → ℕ × ℕ → Bool
is_variable n s v = nat_eq v.0 n && nat_eq v.1 s

abbrev left_out : ℕ → ℕ → List (ℕ × ℕ) → List (ℕ × ℕ)
left_out n s [] = []
left_out n s (v ∷ vs) = if is_variable n s v then left_out n s vs else v ∷ left_out n s vs

left_out_no_longer : (n s : ℕ) (vs : List (ℕ × ℕ)) → length (left_out n s vs) ≤ length vs
left_out_no_longer n s [] = omega arith
left_out_no_longer n s (v ∷ vs) = go (is_variable n s v) (left_out_no_longer n s vs)
  where
    go : (b : Bool) → length (left_out n s vs) ≤ length vs → length (if b then left_out n s vs else v ∷ left_out n s vs) ≤ suc (length vs)
    go true rest = omega (arith, rest)
    go false rest = omega (arith, rest)

left_out_shorter : (n s : ℕ) (vs : List (ℕ × ℕ)) → IsIn (n, s) vs → length (left_out n s vs) < length vs
left_out_shorter n s [] is = absurd is
left_out_shorter n s (v ∷ vs) is = go (is_variable n s v) refl is (left_out_no_longer n s vs) (left_out_shorter n s vs)
  where
    go : (b : Bool) → is_variable n s v ≡ b → IsIn (n, s) (v ∷ vs) → length (left_out n s vs) ≤ length vs
        → (IsIn (n, s) vs → length (left_out n s vs) < length vs)
        → length (if b then left_out n s vs else v ∷ left_out n s vs) < suc (length vs)
    go true e at no_longer later = omega (arith, no_longer)
    go false e (inl at) no_longer later =
        let same : is_variable n s v ≡ true =
        (Decides-and (nat_eq v.0 n) (nat_eq v.1 s) (Decides-eqb v.0 n) (Decides-eqb v.1 s)).1
        (ap (λ (w : ℕ × ℕ). w.0) at, ap (λ (w : ℕ × ℕ). w.1) at) in
        cc
    go false e (inr at) no_longer later = let less = later at in omega (arith, less)

left_out_keeps : (n s m r : ℕ) (vs : List (ℕ × ℕ)) → IsIn (m, r) vs → ((m ≡ n) × (r ≡ s) → ⊥) → IsIn (m, r) (left_out n s vs)
left_out_keeps n s m r [] is differ = absurd is
left_out_keeps n s m r (v ∷ vs) is differ = go (is_variable n s v) refl is (λ later. left_out_keeps n s m r vs later differ)
  where
    go : (b : Bool) → is_variable n s v ≡ b → IsIn (m, r) (v ∷ vs) → (IsIn (m, r) vs → IsIn (m, r) (left_out n s vs))
        → IsIn (m, r) (if b then left_out n s vs else v ∷ left_out n s vs)
    go true e (inl at) later =
        let is = (Decides-and (nat_eq v.0 n) (nat_eq v.1 s) (Decides-eqb v.0 n) (Decides-eqb v.1 s)).0 e in
        absurd (differ (sym (ap (λ (w : ℕ × ℕ). w.0) at) ∙ is.0, sym (ap (λ (w : ℕ × ℕ). w.1) at) ∙ is.1))
    go true e (inr at) later = later at
    go false e (inl at) later = inl at
    go false e (inr at) later = inr (later at)

-- All variables of the term are in the list.
abbrev Within : List (ℕ × ℕ) → Term → Type 0
Within vs t = (n s : ℕ) → Occurs n s t → IsIn (n, s) vs

abbrev AllWithin : List (ℕ × ℕ) → Terms → Type 0
AllWithin vs ts = (n s : ℕ) → OccursAmong n s ts → IsIn (n, s) vs

-- ---- What a solution leaves

-- The values of the variables of the list have their variables in another list, which is shorter, or nothing changes.
record IsKept (vs : List (ℕ × ℕ)) (values : Substitution) : Type 0 where
  left : List (ℕ × ℕ)
  inside : (n s m r : ℕ) → IsIn (n, s) vs → Occurs m r (values n s) → IsIn (m, r) left
  no_longer : length left ≤ length vs
  changed : ((n s : ℕ) → values n s ≡ variable n s) ⊎ (length left < length vs)

kept_same : (vs : List (ℕ × ℕ)) → IsKept vs variable
kept_same vs = record {
  left = vs;
  inside = λ n s m r is o. subst (λ (v : ℕ × ℕ). IsIn v vs) (λ i. (o.0 i, o.1 i)) is;
  no_longer = omega arith;
  changed = inl (λ n s. refl);
}

-- the updated substitution at a variable
updated_either : (values : Substitution) (n s : ℕ) (t : Term) (m r : ℕ)
    → (updated values n s t m r ≡ t) ⊎ (((m ≡ n) × (r ≡ s) → ⊥) × (updated values n s t m r ≡ values m r))
updated_either values n s t m r = go (nat_eq n m && nat_eq s r) refl
  where
    go : (b : Bool) → (nat_eq n m && nat_eq s r) ≡ b
        → ((if b then t else values m r) ≡ t) ⊎ (((m ≡ n) × (r ≡ s) → ⊥) × ((if b then t else values m r) ≡ values m r))
    go true e = inl refl
    go false e = inr (
      (λ same. let test : (nat_eq n m && nat_eq s r) ≡ true =
          (Decides-and (nat_eq n m) (nat_eq s r) (Decides-eqb n m) (Decides-eqb s r)).1 (sym same.0, sym same.1) in
          cc),
      refl,
    )

kept_updated : (vs : List (ℕ × ℕ)) (n s : ℕ) (t : Term) → IsIn (n, s) vs → Within vs t → (Occurs n s t → ⊥)
    → IsKept vs (updated variable n s t)
kept_updated vs n s t is within apart = record {
  left = left_out n s vs;
  inside = λ m r k q at o. go m r k q at o (updated_either variable n s t m r);
  no_longer = left_out_no_longer n s vs;
  changed = inr (left_out_shorter n s vs is);
}
  where
    differ : (k q : ℕ) → Occurs k q t → (k ≡ n) × (q ≡ s) → ⊥
    differ k q o same = apart (subst (λ (i : ℕ). Occurs i s t) same.0 (subst (λ (j : ℕ). Occurs k j t) same.1 o))

    go : (m r k q : ℕ) → IsIn (m, r) vs → Occurs k q (updated variable n s t m r)
        → (updated variable n s t m r ≡ t) ⊎ (((m ≡ n) × (r ≡ s) → ⊥) × (updated variable n s t m r ≡ variable m r))
        → IsIn (k, q) (left_out n s vs)
    go m r k q at o (inl e) =
        let inside = subst (λ (w : Term). Occurs k q w) e o in
        left_out_keeps n s k q vs (within k q inside) (differ k q inside)
    go m r k q at o (inr (other, e)) =
        let inside : (m ≡ k) × (r ≡ q) = subst (λ (w : Term). Occurs k q w) e o in
        subst (λ (v : ℕ × ℕ). IsIn v (left_out n s vs)) (λ i. (inside.0 i, inside.1 i)) (left_out_keeps n s m r vs at other)

-- the first substitution and then the second one
kept_then : (vs : List (ℕ × ℕ)) (first rest : Substitution) (kept : IsKept vs first) → length kept.left < length vs
    → IsKept kept.left rest → IsKept vs (followed_by first rest)
kept_then vs first rest kept shorter later =
    let no_longer = later.no_longer in
    record {
      left = later.left;
      inside = λ n s m r is o.
          let from = substituted_occurs m r rest (first n s) o in
          later.inside from.number from.sort m r (kept.inside n s from.number from.sort is from.occurs) from.inside;
      no_longer = omega (arith, no_longer, shorter);
      changed = inr (omega (arith, no_longer, shorter));
    }

-- a first substitution that changes nothing
kept_after : (vs : List (ℕ × ℕ)) (first rest : Substitution) → ((n s : ℕ) → first n s ≡ variable n s) → IsKept vs rest
    → IsKept vs (followed_by first rest)
kept_after vs first rest same kept = record {
  left = kept.left;
  inside = λ n s m r is o. kept.inside n s m r is (subst (λ (w : Term). Occurs m r (substituted rest w)) (same n s) o);
  no_longer = kept.no_longer;
  changed = go kept.changed;
}
  where
    go : ((n s : ℕ) → rest n s ≡ variable n s) ⊎ (length kept.left < length vs)
        → ((n s : ℕ) → followed_by first rest n s ≡ variable n s) ⊎ (length kept.left < length vs)
    go (inl none) = inl (λ n s. ap (substituted rest) (same n s) ∙ none n s)
    go (inr shorter) = inr shorter

-- ---- Decisions

-- A solution that is kept, or no unifier.
abbrev Decision : List (ℕ × ℕ) → Term → Term → Type 0
Decision vs s t = ((values : Substitution) × IsSolution s t values × IsKept vs values)
    ⊎ ((others : Substitution) → substituted others s ≡ substituted others t → ⊥)

abbrev Decisions : List (ℕ × ℕ) → Terms → Terms → Type 0
Decisions vs ts us = ((values : Substitution) × AreSolution ts us values × IsKept vs values)
    ⊎ ((others : Substitution) → all_substituted others ts ≡ all_substituted others us → ⊥)

-- Lists of terms over fewer variables than the number says are decided.
abbrev HaveDecisions : ℕ → Type 0
HaveDecisions zero = Unit {0}
HaveDecisions (suc n) = (vs : List (ℕ × ℕ)) → length vs ≤ n → (ts us : Terms) → AllWithin vs ts → AllWithin vs us → Decisions vs ts us

decide_shorter : (n : ℕ) → HaveDecisions n → (vs : List (ℕ × ℕ)) → length vs < n → (ts us : Terms) → AllWithin vs ts → AllWithin vs us
    → Decisions vs ts us
decide_shorter zero below vs less = absurd (omega (arith, less))
decide_shorter (suc n) below vs less = below vs (omega (arith, less))

-- a variable and a term
decide_variable : (vs : List (ℕ × ℕ)) (n s : ℕ) (t : Term) → IsIn (n, s) vs → Within vs t → Decision vs (variable n s) t
decide_variable vs n s t is within = go (term_eq (variable n s) t) refl
  where
    occurring : (w : Term) → Occurs n s w → (variable n s ≡ w → ⊥) → (others : Substitution) → others n s ≡ substituted others w → ⊥
    occurring (variable m r) o differ others e = differ (λ i. variable (sym (o.0) i) (sym (o.1) i))
    occurring (node f ts) o differ others e = no_occurring_unifier n s f ts others o e

    by_occurrence : (b : Bool) → occurs n s t ≡ b → (variable n s ≡ t → ⊥) → Decision vs (variable n s) t
    by_occurrence true e differ = inr (λ others same. occurring t ((Decides-occurs n s t).0 e) differ others same)
    by_occurrence false e differ =
        let apart : Occurs n s t → ⊥ = λ o. (let test : occurs n s t ≡ true = (Decides-occurs n s t).1 o in cc) in
        inl (updated variable n s t, solution_variable n s t apart, kept_updated vs n s t is within apart)

    go : (b : Bool) → term_eq (variable n s) t ≡ b → Decision vs (variable n s) t
    go true e = inl (variable, solution_same (variable n s) t ((Decides-term_eq (variable n s) t).0 e), kept_same vs)
    go false e =
        by_occurrence (occurs n s t) refl
        (λ same. let test : term_eq (variable n s) t ≡ true = (Decides-term_eq (variable n s) t).1 same in cc)

decision_back : (vs : List (ℕ × ℕ)) (s t : Term) → Decision vs s t → Decision vs t s
decision_back vs s t (inl (values, solution, kept)) = inl (values, solution_back s t values solution, kept)
decision_back vs s t (inr none) = inr (λ others same. none others (sym same))

-- operations, by their arguments
decide_node : (vs : List (ℕ × ℕ)) (f g : ℕ) (ts us : Terms) → Decisions vs ts us → Decision vs (node f ts) (node g us)
decide_node vs f g ts us decisions = go (nat_eq f g) refl decisions
  where
    go : (b : Bool) → nat_eq f g ≡ b → Decisions vs ts us → Decision vs (node f ts) (node g us)
    go true e (inl (values, all, kept)) = inl (values, solution_node f g ts us values ((Decides-eqb f g).0 e) all, kept)
    go true e (inr none) = inr (λ others same. none others cc)
    go false e all =
        inr (λ others same.
        let heads : f ≡ g = cc in
        let test : nat_eq f g ≡ true = (Decides-eqb f g).1 heads in
        cc)

-- lists, where the first members change nothing
decide_after : (vs : List (ℕ × ℕ)) (t u : Term) (ts us : Terms) (first : Substitution) → IsSolution t u first
    → ((n s : ℕ) → first n s ≡ variable n s) → Decisions vs ts us → Decisions vs (term_then t ts) (term_then u us)
decide_after vs t u ts us first solution same (inr none) = inr (λ others e. none others cc)
decide_after vs t u ts us first solution same (inl (rest, all, kept)) =
    inl (
      followed_by first rest,
      solution_then t u ts us first rest solution
          (subst (λ (ws : Terms). AreSolution ws (all_substituted first us) rest) (sym (stays ts))
          (subst (λ (ws : Terms). AreSolution ts ws rest) (sym (stays us)) all)),
      kept_after vs first rest same kept,
    )
  where
    stays : (ws : Terms) → all_substituted first ws ≡ ws
    stays ws = all_substituted_agree first variable ws (λ n s o. same n s) ∙ all_substituted_variables ws

-- and where they leave fewer variables
decide_then : (vs : List (ℕ × ℕ)) (t u : Term) (ts us : Terms) (first : Substitution) → IsSolution t u first → (kept : IsKept vs first)
    → length kept.left < length vs → Decisions kept.left (all_substituted first ts) (all_substituted first us)
    → Decisions vs (term_then t ts) (term_then u us)
decide_then vs t u ts us first solution kept shorter (inl (rest, all, later)) =
    inl (followed_by first rest, solution_then t u ts us first rest solution all, kept_then vs first rest kept shorter later)
decide_then vs t u ts us first solution kept shorter (inr none) = inr (λ others same.
    let heads : substituted others t ≡ substituted others u = cc in
    let tails : all_substituted others ts ≡ all_substituted others us = cc in
    let absorbs = solution.absorbed others heads in
    none others (absorbed_instances first others ts absorbs ∙ tails ∙ sym (absorbed_instances first others us absorbs)))

-- by what the first members come to
decide_rest : (n : ℕ) → HaveDecisions n → (vs : List (ℕ × ℕ)) → length vs ≤ n → (t u : Term) (ts us : Terms) → AllWithin vs ts
    → AllWithin vs us → Decision vs t u → Decisions vs ts us → Decisions vs (term_then t ts) (term_then u us)
decide_rest n below vs small t u ts us within also (inr none) rest = inr (λ others same. none others cc)
decide_rest n below vs small t u ts us within also (inl (first, solution, kept)) rest = go kept.changed
  where
    inner : (ws : Terms) → AllWithin vs ws → AllWithin kept.left (all_substituted first ws)
    inner ws inside = λ m r o.
        let from = all_substituted_occurs m r first ws o in
        kept.inside from.number from.sort m r (inside from.number from.sort from.occurs) from.inside

    go : ((n s : ℕ) → first n s ≡ variable n s) ⊎ (length kept.left < length vs) → Decisions vs (term_then t ts) (term_then u us)
    go (inl same) = decide_after vs t u ts us first solution same rest
    go (inr shorter) =
        decide_then vs t u ts us first solution kept shorter
        (decide_shorter n below kept.left (omega (arith, shorter, small)) (all_substituted first ts) (all_substituted first us)
        (inner ts within) (inner us also))

mutual
  decide_term : (n : ℕ) → HaveDecisions n → (vs : List (ℕ × ℕ)) → length vs ≤ n → (s t : Term) → Within vs s → Within vs t
      → Decision vs s t
  decide_term n below vs small (variable m r) t within also = decide_variable vs m r t (within m r (refl, refl)) also
  decide_term n below vs small (node f ts) (variable m r) within also =
      decision_back vs (variable m r) (node f ts) (decide_variable vs m r (node f ts) (also m r (refl, refl)) within)
  decide_term n below vs small (node f ts) (node g us) within also =
      decide_node vs f g ts us (decide_terms n below vs small ts us within also)

  decide_terms : (n : ℕ) → HaveDecisions n → (vs : List (ℕ × ℕ)) → length vs ≤ n → (ts us : Terms) → AllWithin vs ts
      → AllWithin vs us → Decisions vs ts us
  decide_terms n below vs small no_terms no_terms within also = inl (variable, solution_none, kept_same vs)
  decide_terms n below vs small no_terms (term_then u us) within also = inr (λ others same. cc)
  decide_terms n below vs small (term_then t ts) no_terms within also = inr (λ others same. cc)
  decide_terms n below vs small (term_then t ts) (term_then u us) within also =
      decide_rest n below vs small t u ts us (λ m r o. within m r (inr o)) (λ m r o. also m r (inr o))
      (decide_term n below vs small t u (λ m r o. within m r (inl o)) (λ m r o. also m r (inl o)))
      (decide_terms n below vs small ts us (λ m r o. within m r (inr o)) (λ m r o. also m r (inr o)))

all_decisions : (n : ℕ) → HaveDecisions n
all_decisions zero = tt
all_decisions (suc n) = λ vs small ts us within also. decide_terms n (all_decisions n) vs small ts us within also

-- two terms have a solution, or no unifier
pub decide_unifier : (s t : Term) → ((values : Substitution) × IsSolution s t values)
    ⊎ ((others : Substitution) → substituted others s ≡ substituted others t → ⊥)
decide_unifier s t =
    go (decide_term (length (variable_list s ++ variable_list t)) (all_decisions (length (variable_list s ++ variable_list t)))
    (variable_list s ++ variable_list t) (omega arith) s t
    (λ n r o. in_left (n, r) (variable_list s) (variable_list t) (occurs_member s n r o))
    (λ n r o. in_right (n, r) (variable_list s) (variable_list t) (occurs_member t n r o)))
  where
    go : Decision (variable_list s ++ variable_list t) s t
        → ((values : Substitution) × IsSolution s t values) ⊎ ((others : Substitution) → substituted others s ≡ substituted others t → ⊥)
    go (inl (values, solution, kept)) = inl (values, solution)
    go (inr none) = inr none
