-- A unifier computed within a number of rounds, or the answer that there is none.
use Rattle.std.proofs.Common.{◌≡◌, ℕ, zero, suc, Bool, true, false, nat_eq, refl, sym, ◌∙◌}
use Rattle.std.specs.Prelude.{Option, Some, None, if◌then◌else◌}
use Rattle.std.proofs.lemmas.Bool.Decides.{Decides-eqb}
use Rattle.lotos_base.specs.Term.{Term, variable, node, Terms, no_terms, term_then}
use Rattle.lotos_base.specs.Sorting.{Occurs}
use Rattle.lotos_base.specs.Tests.{term_eq, occurs}
use Rattle.lotos_base.specs.Substitution.{Substitution, substituted, all_substituted, followed_by}
use Rattle.lotos_base.proofs.TestLemmas.{Decides-term_eq, Decides-occurs}
use Rattle.rewriting_theory.proofs.StepLemmas.{updated}
use Rattle.rewriting_theory.proofs.UnifyLemmas.{IsSolution, AreSolution, absorbed_instances, solution_same, solution_none, solution_variable, no_occurring_unifier, solution_back, solution_node, solution_then}

-- What comes of it: nothing within the rounds, no unifier, or one.
abbrev pub Unified : Type 0
Unified = Option (Option Substitution)

abbrev pub none_exists : Unified
none_exists = Some None

abbrev pub found : Substitution → Unified
found values = Some (Some values)

-- ---- The program

-- a variable and a term
abbrev bind : ℕ → ℕ → Term → Unified
bind n s t =
    if term_eq (variable n s) t then found variable else (if occurs n s t then none_exists else found (updated variable n s t))

-- the first members' unifier, and then that of the others
abbrev composed : Substitution → Unified → Unified
composed first None = None
composed first (Some None) = none_exists
composed first (Some (Some rest)) = found (followed_by first rest)

abbrev then_rest : Unified → (Substitution → Unified) → Unified
then_rest None rest = None
then_rest (Some None) rest = none_exists
then_rest (Some (Some first)) rest = composed first (rest first)

abbrev mutual
  pub unify_within : ℕ → Term → Term → Unified
  unify_within zero s t = None
  unify_within (suc k) (variable n s) t = bind n s t
  unify_within (suc k) (node f ts) (variable m r) = bind m r (node f ts)
  unify_within (suc k) (node f ts) (node g us) = if nat_eq f g then unify_all_within k ts us else none_exists

  unify_all_within : ℕ → Terms → Terms → Unified
  unify_all_within zero ts us = None
  unify_all_within (suc k) no_terms no_terms = found variable
  unify_all_within (suc k) no_terms (term_then u us) = none_exists
  unify_all_within (suc k) (term_then t ts) no_terms = none_exists
  unify_all_within (suc k) (term_then t ts) (term_then u us) =
      then_rest (unify_within k t u) (λ first. unify_all_within k (all_substituted first ts) (all_substituted first us))

-- ---- What its answers mean

abbrev pub Means : Term → Term → Unified → Type 0
Means s t None = Unit {0}
Means s t (Some None) = (others : Substitution) → substituted others s ≡ substituted others t → ⊥
Means s t (Some (Some values)) = IsSolution s t values

abbrev AllMean : Terms → Terms → Unified → Type 0
AllMean ts us None = Unit {0}
AllMean ts us (Some None) = (others : Substitution) → all_substituted others ts ≡ all_substituted others us → ⊥
AllMean ts us (Some (Some values)) = AreSolution ts us values

means_back : (s t : Term) (answer : Unified) → Means s t answer → Means t s answer
means_back s t None means = tt
means_back s t (Some None) means = λ others e. means others (sym e)
means_back s t (Some (Some values)) means = solution_back s t values means

-- a variable that occurs in another term has no unifier with it
occurring : (n s : ℕ) (t : Term) → Occurs n s t → (variable n s ≡ t → ⊥) → (others : Substitution)
    → others n s ≡ substituted others t → ⊥
occurring n s (variable m r) o differ others e = differ (λ i. variable (sym (o.0) i) (sym (o.1) i))
occurring n s (node f ts) o differ others e = no_occurring_unifier n s f ts others o e

bind_means : (n s : ℕ) (t : Term) → Means (variable n s) t (bind n s t)
bind_means n s t = go (term_eq (variable n s) t) refl
  where
    differ : term_eq (variable n s) t ≡ false → variable n s ≡ t → ⊥
    differ e same = let other : term_eq (variable n s) t ≡ true = (Decides-term_eq (variable n s) t).1 same in cc

    by_occurrence : (b : Bool) → occurs n s t ≡ b → (variable n s ≡ t → ⊥)
        → Means (variable n s) t (if b then none_exists else found (updated variable n s t))
    by_occurrence true e not = occurring n s t ((Decides-occurs n s t).0 e) not
    by_occurrence false e not =
        solution_variable n s t (λ o. let other : occurs n s t ≡ true = (Decides-occurs n s t).1 o in cc)

    go : (b : Bool) → term_eq (variable n s) t ≡ b
        → Means (variable n s) t
        (if b then found variable else (if occurs n s t then none_exists else found (updated variable n s t)))
    go true e = solution_same (variable n s) t ((Decides-term_eq (variable n s) t).0 e)
    go false e = by_occurrence (occurs n s t) refl (differ e)

-- the arguments' answer is that of the operations
node_means : (f g : ℕ) (ts us : Terms) (answer : Unified) → AllMean ts us answer → (b : Bool) → nat_eq f g ≡ b
    → Means (node f ts) (node g us) (if b then answer else none_exists)
node_means f g ts us None means true e = tt
node_means f g ts us (Some None) means true e = λ others same. means others cc
node_means f g ts us (Some (Some values)) means true e = solution_node f g ts us values ((Decides-eqb f g).0 e) means
node_means f g ts us answer means false e = λ others same.
    let heads : f ≡ g = cc in
    let other : nat_eq f g ≡ true = (Decides-eqb f g).1 heads in
    cc

-- that of the first members and of the others is that of the lists
rest_mean : (t u : Term) (ts us : Terms) (first : Substitution) → IsSolution t u first → (rest : Unified)
    → AllMean (all_substituted first ts) (all_substituted first us) rest → AllMean (term_then t ts) (term_then u us) (composed first rest)
rest_mean t u ts us first head None means = tt
rest_mean t u ts us first head (Some None) means = λ others same.
    let heads : substituted others t ≡ substituted others u = cc in
    let tails : all_substituted others ts ≡ all_substituted others us = cc in
    let one = head.absorbed others heads in
    means others (absorbed_instances first others ts one ∙ tails ∙ sym (absorbed_instances first others us one))
rest_mean t u ts us first head (Some (Some rest)) means = solution_then t u ts us first rest head means

then_means : (t u : Term) (ts us : Terms) (answer : Unified) → Means t u answer → (rest : Substitution → Unified)
    → ((first : Substitution) → AllMean (all_substituted first ts) (all_substituted first us) (rest first))
    → AllMean (term_then t ts) (term_then u us) (then_rest answer rest)
then_means t u ts us None means rest later = tt
then_means t u ts us (Some None) means rest later = λ others same. means others cc
then_means t u ts us (Some (Some first)) means rest later = rest_mean t u ts us first means (rest first) (later first)

mutual
  pub unify_means : (k : ℕ) (s t : Term) → Means s t (unify_within k s t)
  unify_means zero s t = tt
  unify_means (suc k) (variable n s) t = bind_means n s t
  unify_means (suc k) (node f ts) (variable m r) =
      means_back (variable m r) (node f ts) (bind m r (node f ts)) (bind_means m r (node f ts))
  unify_means (suc k) (node f ts) (node g us) =
      node_means f g ts us (unify_all_within k ts us) (unify_all_mean k ts us) (nat_eq f g) refl

  unify_all_mean : (k : ℕ) (ts us : Terms) → AllMean ts us (unify_all_within k ts us)
  unify_all_mean zero ts us = tt
  unify_all_mean (suc k) no_terms no_terms = solution_none
  unify_all_mean (suc k) no_terms (term_then u us) = λ others same. cc
  unify_all_mean (suc k) (term_then t ts) no_terms = λ others same. cc
  unify_all_mean (suc k) (term_then t ts) (term_then u us) =
      then_means t u ts us (unify_within k t u) (unify_means k t u)
      (λ first. unify_all_within k (all_substituted first ts) (all_substituted first us))
      (λ first. unify_all_mean k (all_substituted first ts) (all_substituted first us))
