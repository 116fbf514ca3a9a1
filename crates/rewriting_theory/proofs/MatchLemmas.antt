-- Matching is decided, and so is which rule is the first that matches.
use Rattle.std.proofs.Common.{◌≡◌, ◌<◌, ℕ, zero, suc, List, [], ◌∷◌, Bool, true, false, nat_eq, refl, ap, sym, ◌∙◌, subst, inl, inr, arith}
use Rattle.std.specs.Prelude.{Option, Some, None, ◌⊎◌, ◌&&◌, if◌then◌else◌, slice_get}
use Rattle.std.proofs.lemmas.Option.{same_Some}
use Rattle.std.proofs.lemmas.Bool.Decides.{Decides-eqb, Decides-and}
use Rattle.lotos_base.specs.Term.{Term, variable, node, Terms, no_terms, term_then}
use Rattle.lotos_base.specs.Sorting.{Occurs, OccursAmong}
use Rattle.lotos_base.specs.Tests.{term_eq}
use Rattle.lotos_base.specs.Substitution.{Substitution, substituted, all_substituted}
use Rattle.lotos_base.proofs.TestLemmas.{Decides-term_eq}
use Rattle.lotos_base.proofs.SubstitutionLemmas.{substituted_agree}
use Rattle.rewriting_theory.specs.Rule.{Rule, IsRuleAt, AreWellFormedRules}
use Rattle.rewriting_theory.specs.Step.{IsRootStep, RootStep}
use Rattle.rewriting_theory.specs.Matching.{Matches, NoMatch, FirstStep}
use Rattle.rewriting_theory.proofs.LocalLemmas.{root_once}

-- ---- What a term has at the first place of a variable of the pattern

abbrev or_else : Option Term → Option Term → Option Term
or_else (Some t) other = Some t
or_else None other = other

abbrev or_term : Option Term → Term → Term
or_term (Some t) other = t
or_term None other = other

abbrev mutual
  extracted : Term → Term → ℕ → ℕ → Option Term
  extracted (variable m r) t n s = if nat_eq m n && nat_eq r s then Some t else None
  extracted (node f ls) (variable m r) n s = None
  extracted (node f ls) (node g ts) n s = extracted_among ls ts n s

  extracted_among : Terms → Terms → ℕ → ℕ → Option Term
  extracted_among no_terms ts n s = None
  extracted_among (term_then l ls) no_terms n s = None
  extracted_among (term_then l ls) (term_then t ts) n s = or_else (extracted l t n s) (extracted_among ls ts n s)

-- The substitution that makes the pattern the term, if there is one.
abbrev pub matching : Term → Term → Substitution
matching l t n s = or_term (extracted l t n s) (variable n s)

mutual
  -- of an instance it is the value of the variable, or nothing
  extracted_sound : (values : Substitution) (l : Term) (n s : ℕ) (t : Term) → extracted l (substituted values l) n s ≡ Some t
      → t ≡ values n s
  extracted_sound values (variable m r) n s t e = go (nat_eq m n && nat_eq r s) refl e
    where
      go : (b : Bool) → (nat_eq m n && nat_eq r s) ≡ b → (if b then Some (values m r) else None) ≡ Some t → t ≡ values n s
      go true test h =
          let is = (Decides-and (nat_eq m n) (nat_eq r s) (Decides-eqb m n) (Decides-eqb r s)).0 test in
          sym (same_Some _ _ h) ∙ (λ i. values (is.0 i) (is.1 i))
      go false test h = cc
  extracted_sound values (node f ls) n s t e = extracted_sound_among values ls n s t e

  extracted_sound_among : (values : Substitution) (ls : Terms) (n s : ℕ) (t : Term)
      → extracted_among ls (all_substituted values ls) n s ≡ Some t → t ≡ values n s
  extracted_sound_among values no_terms n s t e = cc
  extracted_sound_among values (term_then l ls) n s t e =
      go (extracted l (substituted values l) n s) refl e
      (λ found. extracted_sound values l n s t found) (λ found. extracted_sound_among values ls n s t found)
    where
      go : (o : Option Term) → extracted l (substituted values l) n s ≡ o
          → or_else o (extracted_among ls (all_substituted values ls) n s) ≡ Some t
          → (extracted l (substituted values l) n s ≡ Some t → t ≡ values n s)
          → (extracted_among ls (all_substituted values ls) n s ≡ Some t → t ≡ values n s) → t ≡ values n s
      go (Some u) found h first rest = first (found ∙ h)
      go None found h first rest = rest h

mutual
  -- where the variable occurs, it is something
  extracted_finds : (values : Substitution) (l : Term) (n s : ℕ) → Occurs n s l
      → (t : Term) × (extracted l (substituted values l) n s ≡ Some t)
  extracted_finds values (variable m r) n s o = go (nat_eq m n && nat_eq r s) refl
    where
      go : (b : Bool) → (nat_eq m n && nat_eq r s) ≡ b → (t : Term) × ((if b then Some (values m r) else None) ≡ Some t)
      go true test = (values m r, refl)
      go false test =
          let is = (Decides-and (nat_eq m n) (nat_eq r s) (Decides-eqb m n) (Decides-eqb r s)).1 (o.0, o.1) in
          cc
  extracted_finds values (node f ls) n s o = extracted_finds_among values ls n s o

  extracted_finds_among : (values : Substitution) (ls : Terms) (n s : ℕ) → OccursAmong n s ls
      → (t : Term) × (extracted_among ls (all_substituted values ls) n s ≡ Some t)
  extracted_finds_among values no_terms n s o = absurd o
  extracted_finds_among values (term_then l ls) n s (inl o) =
      let first = extracted_finds values l n s o in
      (first.0, ap (λ p. or_else p (extracted_among ls (all_substituted values ls) n s)) first.1)
  extracted_finds_among values (term_then l ls) n s (inr o) =
      go (extracted l (substituted values l) n s) (extracted_finds_among values ls n s o)
    where
      go : (p : Option Term) → (t : Term) × (extracted_among ls (all_substituted values ls) n s ≡ Some t)
          → (t : Term) × (or_else p (extracted_among ls (all_substituted values ls) n s) ≡ Some t)
      go (Some u) rest = (u, refl)
      go None rest = rest

-- so it is the value of each variable that occurs
matching_agrees : (values : Substitution) (l : Term) (n s : ℕ) → Occurs n s l → matching l (substituted values l) n s ≡ values n s
matching_agrees values l n s o =
    let found = extracted_finds values l n s o in
    ap (λ p. or_term p (variable n s)) found.1 ∙ extracted_sound values l n s found.0 found.1

pub matching_matches : (values : Substitution) (l t : Term) → substituted values l ≡ t → substituted (matching l t) l ≡ t
matching_matches values l t e =
    subst (λ (w : Term). substituted (matching l w) l ≡ w) e
    (substituted_agree (matching l (substituted values l)) values l (λ n s o. matching_agrees values l n s o))

-- ---- Matching is decided

pub decide_match : (l t : Term) → Matches l t ⊎ (¬ Matches l t)
decide_match l t = go (term_eq (substituted (matching l t) l) t) refl
  where
    go : (b : Bool) → term_eq (substituted (matching l t) l) t ≡ b → Matches l t ⊎ (¬ Matches l t)
    go true e = inl (matching l t, (Decides-term_eq (substituted (matching l t) l) t).0 e)
    go false e =
        inr (λ found. let same : term_eq (substituted (matching l t) l) t ≡ true =
        (Decides-term_eq (substituted (matching l t) l) t).1 (matching_matches found.0 l t found.1) in
        cc)

-- no rule matches behind one that does not, if none of the others does
pub no_match_then : (rule : Rule) (rules : List Rule) (t : Term) → (¬ Matches rule.left t) → NoMatch rules t → NoMatch (rule ∷ rules) t
no_match_then rule rules t first rest = λ other is. go other is.0 is.1
  where
    go : (other : Rule) (number : ℕ) → IsRuleAt (rule ∷ rules) number other → ¬ Matches other.left t
    go other zero is = subst (λ (r : Rule). ¬ Matches r.left t) (same_Some rule other is) first
    go other (suc number) is = rest other (number, is)

pub first_step_later : (rule : Rule) (rules : List Rule) (t u : Term) → (¬ Matches rule.left t) → FirstStep rules t u
    → FirstStep (rule ∷ rules) t u
first_step_later rule rules t u first later = record {
  number = suc later.number;
  rule = later.rule;
  is_rule = later.is_rule;
  step = later.step;
  is_first = earlier;
}
  where
    earlier : (k : ℕ) (other : Rule) → k < suc later.number → IsRuleAt (rule ∷ rules) k other → ¬ Matches other.left t
    earlier zero other less is = subst (λ (r : Rule). ¬ Matches r.left t) (same_Some rule other is) first
    earlier (suc k) other less is = later.is_first k other (omega (arith, less)) is

pub first_step_here : (rule : Rule) (rules : List Rule) (t : Term) (found : Matches rule.left t)
    → FirstStep (rule ∷ rules) t (substituted found.0 rule.right)
first_step_here rule rules t found = record {
  number = 0;
  rule = rule;
  is_rule = refl;
  step = record { values = found.0; old = found.1; new = refl };
  is_first = λ k other less is. absurd (omega (arith, less));
}

-- either some rule matches and makes some term, or none does
pub decide_first : (rules : List Rule) (t : Term) → ((u : Term) × FirstStep rules t u) ⊎ NoMatch rules t
decide_first [] t = inr (λ rule is found. let none : None ≡ Some rule = is.1 in cc)
decide_first (rule ∷ rules) t = go (decide_match rule.left t) (decide_first rules t)
  where
    go : Matches rule.left t ⊎ (¬ Matches rule.left t) → ((u : Term) × FirstStep rules t u) ⊎ NoMatch rules t
        → ((u : Term) × FirstStep (rule ∷ rules) t u) ⊎ NoMatch (rule ∷ rules) t
    go (inl found) rest = inl (substituted found.0 rule.right, first_step_here rule rules t found)
    go (inr none) (inl later) = inl (later.0, first_step_later rule rules t later.0 none later.1)
    go (inr none) (inr rest) = inr (no_match_then rule rules t none rest)

-- ---- The first step is a step, and makes one term

pub root_of_first : {rules : List Rule} {t u : Term} → FirstStep rules t u → RootStep rules t u
root_of_first first = record { rule = first.rule; is_rule = (first.number, first.is_rule); step = first.step }

pub first_matches : {rules : List Rule} {t u : Term} → FirstStep rules t u → ¬ NoMatch rules t
first_matches first = λ none. none first.rule (first.number, first.is_rule) (first.step.values, first.step.old)

first_number : {rules : List Rule} {t u v : Term} (one : FirstStep rules t u) (two : FirstStep rules t v) → one.number ≡ two.number
first_number one two =
    let not_less : one.number < two.number → ⊥ =
    λ less. two.is_first one.number one.rule less one.is_rule (one.step.values, one.step.old) in
    let not_more : two.number < one.number → ⊥ =
    λ less. one.is_first two.number two.rule less two.is_rule (two.step.values, two.step.old) in
    go one.number two.number not_less not_more
  where
    go : (n m : ℕ) → (n < m → ⊥) → (m < n → ⊥) → n ≡ m
    go zero zero less more = refl
    go zero (suc m) less more = absurd (less (omega arith))
    go (suc n) zero less more = absurd (more (omega arith))
    go (suc n) (suc m) less more = ap (λ (k : ℕ). suc k) (go n m (λ h. less (omega (arith, h))) (λ h. more (omega (arith, h))))

pub first_step_once : {rules : List Rule} {t u v : Term} → AreWellFormedRules rules → FirstStep rules t u → FirstStep rules t v → u ≡ v
first_step_once {rules = rules} {t = t} {u = u} {v = v} well one two =
    let same : one.rule ≡ two.rule =
    same_Some _ _ (sym one.is_rule ∙ ap (λ (k : ℕ). slice_get rules k) (first_number one two) ∙ two.is_rule) in
    root_once one.rule t u v (well one.rule (one.number, one.is_rule)).occurring one.step
    (subst (λ (r : Rule). IsRootStep r t v) (sym same) two.step)

-- no rule matches where there is none
pub no_rule : (t : Term) → NoMatch [] t
no_rule t rule is found = let none : None ≡ Some rule = is.1 in cc
