-- Terms that one substitution makes one have a most general unifier.
use Rattle.std.proofs.Common.{◌≡◌, ◌≤◌, ◌+◌, ◌<◌, ℕ, zero, suc, Bool, true, false, refl, ap, sym, ◌∙◌, subst, inl, inr, arith}
use Rattle.std.specs.Prelude.{◌⊎◌, ◌||◌}
use Rattle.std.proofs.lemmas.Bool.Decides.{Decides-or}
use Rattle.lotos_base.specs.Term.{Term, variable, node, Terms, no_terms, term_then}
use Rattle.lotos_base.specs.Sorting.{Occurs, OccursAmong}
use Rattle.lotos_base.specs.Tests.{term_eq, occurs}
use Rattle.lotos_base.specs.Substitution.{Substitution, substituted, all_substituted, followed_by}
use Rattle.lotos_base.proofs.TestLemmas.{Decides-term_eq, Decides-occurs}
use Rattle.lotos_base.proofs.SubstitutionLemmas.{substituted_twice, all_substituted_twice, substituted_agree, all_substituted_agree, substituted_variables}
use Rattle.rewriting_theory.specs.Unification.{IsUnifier, IsMostGeneral, OccursInEither, KeepsTo}
use Rattle.rewriting_theory.proofs.StepLemmas.{updated, updated_cases, updated_here}

-- ---- Sizes of terms: the members of a list count one more each

abbrev mutual
  size : Term → ℕ
  size (variable n s) = 1
  size (node f ts) = suc (sizes ts)

  sizes : Terms → ℕ
  sizes no_terms = 0
  sizes (term_then t ts) = suc (size t + sizes ts)

mutual
  -- the value of a variable that occurs is no larger than the instance
  occurs_size : (values : Substitution) (n s : ℕ) (t : Term) → Occurs n s t → size (values n s) ≤ size (substituted values t)
  occurs_size values n s (variable m r) o =
      subst (λ (k : ℕ). size (values k s) ≤ size (values m r)) o.0
      (subst (λ (q : ℕ). size (values m q) ≤ size (values m r)) o.1 (omega arith))
  occurs_size values n s (node f ts) o = let below = occurs_sizes values n s ts o in omega (arith, below)

  -- and smaller than the instance of an operation
  occurs_sizes : (values : Substitution) (n s : ℕ) (ts : Terms) → OccursAmong n s ts
      → size (values n s) < sizes (all_substituted values ts)
  occurs_sizes values n s no_terms o = absurd o
  occurs_sizes values n s (term_then t ts) (inl o) = let first = occurs_size values n s t o in omega (arith, first)
  occurs_sizes values n s (term_then t ts) (inr o) = let rest = occurs_sizes values n s ts o in omega (arith, rest)

-- ---- Solutions

-- The second substitution makes the terms of the first one its own terms.
abbrev pub Absorbs : Substitution → Substitution → Type 0
Absorbs others values = (n s : ℕ) → substituted others (values n s) ≡ others n s

-- The substitution makes the two terms one, and each unifier absorbs it.
pub record IsSolution (s t : Term) (values : Substitution) : Type 0 where
  pub unifies : substituted values s ≡ substituted values t
  pub absorbed : (others : Substitution) → substituted others s ≡ substituted others t → Absorbs others values

-- The same of lists of terms.
pub record AreSolution (ts us : Terms) (values : Substitution) : Type 0 where
  pub unifies : all_substituted values ts ≡ all_substituted values us
  pub absorbed : (others : Substitution) → all_substituted others ts ≡ all_substituted others us → Absorbs others values

-- an instance of what an absorbed substitution makes
absorbed_instance : (values others : Substitution) (t : Term) → Absorbs others values
    → substituted others (substituted values t) ≡ substituted others t
absorbed_instance values others t absorbs =
    substituted_twice values others t ∙ substituted_agree (followed_by values others) others t (λ n s o. absorbs n s)

pub absorbed_instances : (values others : Substitution) (ts : Terms) → Absorbs others values
    → all_substituted others (all_substituted values ts) ≡ all_substituted others ts
absorbed_instances values others ts absorbs =
    all_substituted_twice values others ts ∙ all_substituted_agree (followed_by values others) others ts (λ n s o. absorbs n s)

-- identical terms are solved by the substitution that leaves each variable
pub solution_same : (s t : Term) → s ≡ t → IsSolution s t variable
solution_same s t e = record { unifies = ap (substituted variable) e; absorbed = λ others same n r. refl }

pub solution_none : AreSolution no_terms no_terms variable
solution_none = record { unifies = refl; absorbed = λ others same n r. refl }

-- a variable bound to a term in which it does not occur stays out of it
updated_apart : (n s : ℕ) (t u : Term) → (Occurs n s u → ⊥) → substituted (updated variable n s t) u ≡ u
updated_apart n s t u apart =
    substituted_agree (updated variable n s t) variable u
    (λ m r o. updated_cases (λ k q v. Occurs k q u → v ≡ variable k q) variable n s t (λ p. absurd (apart p)) (λ k q p. refl) m r o)
    ∙ substituted_variables u

pub solution_variable : (n s : ℕ) (t : Term) → (Occurs n s t → ⊥) → IsSolution (variable n s) t (updated variable n s t)
solution_variable n s t apart = record {
  unifies = updated_here variable n s t ∙ sym (updated_apart n s t t apart);
  absorbed = λ others same m r.
      updated_cases (λ k q v. substituted others v ≡ others k q) variable n s t (sym same) (λ k q. refl) m r;
}

-- a variable has no unifier with an operation in which it occurs
pub no_occurring_unifier : (n s f : ℕ) (ts : Terms) (given : Substitution) → OccursAmong n s ts
    → given n s ≡ substituted given (node f ts) → ⊥
no_occurring_unifier n s f ts given o e =
    let smaller : size (given n s) < sizes (all_substituted given ts) = occurs_sizes given n s ts o in
    let same : size (given n s) ≡ suc (sizes (all_substituted given ts)) = ap size e in
    absurd (omega (arith, smaller, same))

pub solution_back : (s t : Term) (values : Substitution) → IsSolution s t values → IsSolution t s values
solution_back s t values solution = record {
  unifies = sym solution.unifies;
  absorbed = λ others same. solution.absorbed others (sym same);
}

-- operations are solved by their arguments
pub solution_node : (f g : ℕ) (ts us : Terms) (values : Substitution) → f ≡ g → AreSolution ts us values
    → IsSolution (node f ts) (node g us) values
solution_node f g ts us values heads all = record {
  unifies = (λ i. node (heads i) (all.unifies i));
  absorbed = λ others same. all.absorbed others cc;
}

-- lists are solved by the first members, and then the others
pub solution_then : (t u : Term) (ts us : Terms) (first rest : Substitution) → IsSolution t u first
    → AreSolution (all_substituted first ts) (all_substituted first us) rest
    → AreSolution (term_then t ts) (term_then u us) (followed_by first rest)
solution_then t u ts us first rest head tail = record {
  unifies =
      let heads : substituted (followed_by first rest) t ≡ substituted (followed_by first rest) u =
      sym (substituted_twice first rest t) ∙ ap (substituted rest) head.unifies ∙ substituted_twice first rest u in
      let tails : all_substituted (followed_by first rest) ts ≡ all_substituted (followed_by first rest) us =
      sym (all_substituted_twice first rest ts) ∙ tail.unifies ∙ all_substituted_twice first rest us in
      (λ i. term_then (heads i) (tails i));
  absorbed = λ others same n s.
      let heads : substituted others t ≡ substituted others u = cc in
      let tails : all_substituted others ts ≡ all_substituted others us = cc in
      let one = head.absorbed others heads in
      let two = tail.absorbed others
      (absorbed_instances first others ts one ∙ tails ∙ sym (absorbed_instances first others us one)) in
      absorbed_instance rest others (first n s) two ∙ one n s;
}

-- ---- Solving terms with a common instance

-- Some substitution is a solution.
record Solved (s t : Term) : Type 0 where
  values : Substitution
  solution : IsSolution s t values

record AllSolved (ts us : Terms) : Type 0 where
  values : Substitution
  solution : AreSolution ts us values

-- a variable and a term that have one instance: they are identical, or the variable does not occur in the term
bound : (given : Substitution) (n s : ℕ) (t : Term) → given n s ≡ substituted given t → Solved (variable n s) t
bound given n s (variable m r) e = go (term_eq (variable n s) (variable m r)) refl
  where
    go : (b : Bool) → term_eq (variable n s) (variable m r) ≡ b → Solved (variable n s) (variable m r)
    go true same = record {
      values = variable;
      solution = solution_same (variable n s) (variable m r) ((Decides-term_eq (variable n s) (variable m r)).0 same);
    }
    go false other = record {
      values = updated variable n s (variable m r);
      solution = solution_variable n s (variable m r)
          (λ o. let same : term_eq (variable n s) (variable m r) ≡ true =
          (Decides-term_eq (variable n s) (variable m r)).1 (λ i. variable (sym (o.0) i) (sym (o.1) i)) in
          cc);
    }
bound given n s (node f ts) e = record {
  values = updated variable n s (node f ts);
  solution = solution_variable n s (node f ts) (λ o. no_occurring_unifier n s f ts given o e);
}

mutual
  -- terms with a common instance of a bounded size
  solve : (given : Substitution) (k : ℕ) (s t : Term) → substituted given s ≡ substituted given t
      → size (substituted given s) ≤ k → Solved s t
  solve given k (variable n s) t e small = bound given n s t e
  solve given k (node f ts) (variable n s) e small =
      let back = bound given n s (node f ts) (sym e) in
      record { values = back.values; solution = solution_back (variable n s) (node f ts) back.values back.solution }
  solve given zero (node f ts) (node g us) e small = absurd (omega (arith, small))
  solve given (suc k) (node f ts) (node g us) e small =
      let heads : f ≡ g = cc in
      let tails : all_substituted given ts ≡ all_substituted given us = cc in
      let all = solve_all given k ts us tails (omega (arith, small)) in
      record { values = all.values; solution = solution_node f g ts us all.values heads all.solution }

  solve_all : (given : Substitution) (k : ℕ) (ts us : Terms) → all_substituted given ts ≡ all_substituted given us
      → sizes (all_substituted given ts) ≤ k → AllSolved ts us
  solve_all given k no_terms no_terms e small = record { values = variable; solution = solution_none }
  solve_all given k no_terms (term_then u us) e small = cc
  solve_all given k (term_then t ts) no_terms e small = cc
  solve_all given zero (term_then t ts) (term_then u us) e small = absurd (omega (arith, small))
  solve_all given (suc k) (term_then t ts) (term_then u us) e small =
      let head : substituted given t ≡ substituted given u = cc in
      let tail : all_substituted given ts ≡ all_substituted given us = cc in
      let first = solve given k t u head (omega (arith, small)) in
      let one = first.solution.absorbed given head in
      let same = absorbed_instances first.values given ts one in
      let rest = solve_all given k (all_substituted first.values ts) (all_substituted first.values us)
      (same ∙ tail ∙ sym (absorbed_instances first.values given us one))
      (subst (λ (ws : Terms). sizes ws ≤ k) (sym same) (omega (arith, small))) in
      record {
        values = followed_by first.values rest.values;
        solution = solution_then t u ts us first.values rest.values first.solution rest.solution;
      }

-- a solution is a most general unifier, whatever variables matter
pub solution_general : (Matters : ℕ → ℕ → Type 0) (s t : Term) (values : Substitution) → IsSolution s t values
    → IsMostGeneral Matters s t values
solution_general Matters s t values solution = record {
  unifies = solution.unifies;
  general = λ others same. (others, λ n r matters. solution.absorbed others same n r);
}

-- so terms that a substitution makes one have a most general unifier
pub unifier_exists : (Matters : ℕ → ℕ → Type 0) (s t : Term) (given : Substitution) → IsUnifier s t given
    → (values : Substitution) × IsMostGeneral Matters s t values
unifier_exists Matters s t given e =
    let solution = solve given (size (substituted given s)) s t e (omega arith) in
    (solution.values, solution_general Matters s t solution.values solution.solution)

-- ---- Most general at other variables

-- the first substitution at the variables of the two terms, the second one elsewhere
abbrev inside_or : Bool → Term → Term → Term
inside_or true t u = t
inside_or false t u = u

abbrev spliced : Term → Term → Substitution → Substitution → Substitution
spliced s t rest others n r = inside_or (occurs n r s || occurs n r t) (rest n r) (others n r)

spliced_inside : (s t : Term) (rest others : Substitution) (n r : ℕ) → OccursInEither s t n r → spliced s t rest others n r ≡ rest n r
spliced_inside s t rest others n r o =
    ap (λ (b : Bool). inside_or b (rest n r) (others n r))
    ((Decides-or (occurs n r s) (occurs n r t) (Decides-occurs n r s) (Decides-occurs n r t)).1 o)

spliced_outside : (s t : Term) (rest others : Substitution) (n r : ℕ) → (OccursInEither s t n r → ⊥)
    → spliced s t rest others n r ≡ others n r
spliced_outside s t rest others n r apart = go (occurs n r s || occurs n r t) refl
  where
    go : (b : Bool) → (occurs n r s || occurs n r t) ≡ b → inside_or b (rest n r) (others n r) ≡ others n r
    go true e = absurd (apart ((Decides-or (occurs n r s) (occurs n r t) (Decides-occurs n r s) (Decides-occurs n r t)).0 e))
    go false e = refl

pub general_elsewhere : (s t u v : Term) (values : Substitution) → IsMostGeneral (OccursInEither s t) s t values → KeepsTo s t values
    → ((n r : ℕ) → OccursInEither u v n r → OccursInEither s t n r ⊎ ((q : ℕ) → ¬ OccursInEither s t n q))
    → IsMostGeneral (OccursInEither u v) s t values
general_elsewhere s t u v values is keeps either = record {
  unifies = is.unifies;
  general = λ others unifies.
      let more = is.general others unifies in
      (spliced s t more.0 others, λ n r o. makes others more.0 more.1 n r (either n r o));
}
  where
    makes : (others rest : Substitution) → ((n r : ℕ) → OccursInEither s t n r → substituted rest (values n r) ≡ others n r)
        → (n r : ℕ) → OccursInEither s t n r ⊎ ((q : ℕ) → ¬ OccursInEither s t n q)
        → substituted (spliced s t rest others) (values n r) ≡ others n r
    makes others rest made n r (inl o) =
        substituted_agree (spliced s t rest others) rest (values n r)
        (λ m q inner. spliced_inside s t rest others m q (keeps.inside n r m q o inner))
        ∙ made n r o
    makes others rest made n r (inr none) =
        ap (substituted (spliced s t rest others)) (keeps.others_stay n r none) ∙ spliced_outside s t rest others n r (none r)
