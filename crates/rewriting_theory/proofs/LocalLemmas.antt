-- Where each overlap of two left sides can be joined, any two steps of one term can be joined.
use Rattle.std.proofs.Common.{◌≡◌, ℕ, List, [], ◌∷◌, Bool, true, false, nat_eq, refl, ap, sym, ◌∙◌, subst, inl, inr}
use Rattle.std.specs.Prelude.{Some, ◌⊎◌, slice_get}
use Rattle.std.proofs.lemmas.Option.{same_Some}
use Rattle.std.proofs.lemmas.Bool.Decides.{Decides-eqb}
use Rattle.lotos_base.specs.Term.{Term, variable, node, Terms, no_terms, term_then}
use Rattle.lotos_base.specs.Sorting.{Occurs, OccursAmong}
use Rattle.lotos_base.specs.Path.{subterm, put_at}
use Rattle.lotos_base.specs.Substitution.{Substitution, substituted, all_substituted}
use Rattle.lotos_base.proofs.SubstitutionLemmas.{substituted_agree}
use Rattle.rewriting_theory.specs.Rule.{Rule, IsRule, IsRuleAt, AreWellFormedRules}
use Rattle.rewriting_theory.specs.Reduction.{reached_already, Join, IsLocallyConfluent}
use Rattle.rewriting_theory.specs.Step.{IsRootStep, RootStep, Step, at_root, in_arguments, StepAmong, here, there}
use Rattle.rewriting_theory.specs.CriticalPair.{OverlapPlace}
use Rattle.rewriting_theory.proofs.NewmanLemmas.{reaches_then, reaches_once, join_map, join_back}
use Rattle.rewriting_theory.proofs.StepLemmas.{InPart, BelowVariable, in_instance, values_reach}

-- ---- One rule twice at one root

mutual
  -- where two instances of a term are identical, the two substitutions agree on its variables
  pub values_same : (values others : Substitution) (t : Term) → substituted values t ≡ substituted others t
      → (n s : ℕ) → Occurs n s t → values n s ≡ others n s
  values_same values others (variable m r) e n s o =
      subst (λ (k : ℕ). values k s ≡ others k s) o.0 (subst (λ (q : ℕ). values m q ≡ others m q) o.1 e)
  values_same values others (node f ts) e n s o =
      let inner : all_substituted values ts ≡ all_substituted others ts = cc in
      all_values_same values others ts inner n s o

  pub all_values_same : (values others : Substitution) (ts : Terms) → all_substituted values ts ≡ all_substituted others ts
      → (n s : ℕ) → OccursAmong n s ts → values n s ≡ others n s
  all_values_same values others no_terms e n s o = absurd o
  all_values_same values others (term_then t ts) e n s (inl o) =
      let first : substituted values t ≡ substituted others t = cc in
      values_same values others t first n s o
  all_values_same values others (term_then t ts) e n s (inr o) =
      let rest : all_substituted values ts ≡ all_substituted others ts = cc in
      all_values_same values others ts rest n s o

-- a rule makes one term of a term at its root
pub root_once : (rule : Rule) (t u v : Term) → ((n s : ℕ) → Occurs n s rule.right → Occurs n s rule.left)
    → IsRootStep rule t u → IsRootStep rule t v → u ≡ v
root_once rule t u v occurring one two =
    sym one.new
    ∙ substituted_agree one.values two.values rule.right
    (λ n s o. values_same one.values two.values rule.left (one.old ∙ sym two.old) n s (occurring n s o))
    ∙ two.new

-- ---- Overlaps

-- At each place where the left sides have a common instance, what the two rules make of that instance can be joined.
abbrev pub OverlapsJoin : List Rule → Type 0
OverlapsJoin rules = (first second : ℕ) (path : List ℕ) (place : OverlapPlace rules first second path)
    (values others : Substitution) (right : Term) → substituted values place.part ≡ substituted others place.second_rule.left
    → put_at path (substituted others place.second_rule.right) (substituted values place.first_rule.left) ≡ Some right
    → Join (Step rules) (substituted values place.first_rule.right) right

join_same : {rules : List Rule} (t u : Term) → t ≡ u → Join (Step rules) t u
join_same {rules = rules} t u e = subst (λ (w : Term). Join (Step rules) t w) e
    (record { meeting = t; first = reached_already; second = reached_already })

-- a step at the root of an instance of a part of the first left side
part_joins : {rules : List Rule} (first : ℕ) (rule : Rule) (values : Substitution) (v : Term) → AreWellFormedRules rules
    → OverlapsJoin rules
    → IsRuleAt rules first rule → InPart rules values rule.left v → Join (Step rules) (substituted values rule.right) v
part_joins {rules = rules} first rule values v well joins is_first part =
    go (nat_eq first part.step.is_rule.0) refl part.path part.is_part part.is_whole
  where
    overlap : (path : List ℕ) → subterm path rule.left ≡ Some part.part → put_at path part.result (substituted values rule.left) ≡ Some v
        → (first ≡ part.step.is_rule.0 → path ≡ [] → ⊥) → Join (Step rules) (substituted values rule.right) v
    overlap path is_part is_whole apart =
        joins first part.step.is_rule.0 path
        (record {
          first_rule = rule;
          second_rule = part.step.rule;
          part = part.part;
          is_first = is_first;
          is_second = part.step.is_rule.1;
          is_part = is_part;
          no_variable = part.no_variable;
          no_same_root = apart;
        })
        values part.step.step.values v (sym part.step.step.old)
        (ap (λ (w : Term). put_at path w (substituted values rule.left)) part.step.step.new ∙ is_whole)

    itself : first ≡ part.step.is_rule.0 → subterm [] rule.left ≡ Some part.part → put_at [] part.result (substituted values rule.left)
        ≡ Some v
        → Join (Step rules) (substituted values rule.right) v
    itself e is_part is_whole =
        let same : part.step.rule ≡ rule =
        same_Some _ _ (sym part.step.is_rule.1 ∙ ap (λ (k : ℕ). slice_get rules k) (sym e) ∙ is_first) in
        let root : part.part ≡ rule.left = sym (same_Some _ _ is_part) in
        let inner : IsRootStep rule (substituted values rule.left) part.result =
        subst (λ (r : Rule). IsRootStep r (substituted values rule.left) part.result) same
        (subst (λ (w : Term). IsRootStep part.step.rule (substituted values w) part.result) root part.step.step) in
        join_same (substituted values rule.right) v
        (root_once rule (substituted values rule.left) (substituted values rule.right) part.result
        (well rule (first, is_first)).occurring
        (record { values = values; old = refl; new = refl })
        inner
        ∙ same_Some _ _ is_whole)

    go : (b : Bool) → nat_eq first part.step.is_rule.0 ≡ b → (path : List ℕ) → subterm path rule.left ≡ Some part.part
        → put_at path part.result (substituted values rule.left) ≡ Some v → Join (Step rules) (substituted values rule.right) v
    go true e [] is_part is_whole = itself ((Decides-eqb first part.step.is_rule.0).0 e) is_part is_whole
    go false e [] is_part is_whole =
        overlap [] is_part is_whole (λ same nil. let other : nat_eq first part.step.is_rule.0
        ≡ true = (Decides-eqb first part.step.is_rule.0).1 same in cc)
    go b e (k ∷ path) is_part is_whole = overlap (k ∷ path) is_part is_whole (λ same nil. cc)

-- a step in a value
below_joins : {rules : List Rule} (rule : Rule) (values : Substitution) (v : Term) → IsRule rules rule
    → BelowVariable rules values rule.left v → Join (Step rules) (substituted values rule.right) v
below_joins rule values v is_rule below = record {
  meeting = substituted below.others rule.right;
  first = values_reach values below.others below.reach rule.right;
  second =
      reaches_then below.result
      (reaches_once (at_root (record {
        rule = rule;
        is_rule = is_rule;
        step = record { values = below.others; old = refl; new = refl };
      })));
}

-- a step at the root and any other step
root_first : {rules : List Rule} (t u v : Term) → AreWellFormedRules rules → OverlapsJoin rules → RootStep rules t u → Step rules t v
    → Join (Step rules) u v
root_first {rules = rules} t u v well joins root step =
    subst (λ (w : Term). Join (Step rules) w v) root.step.new
    (go (in_instance root.step.values root.rule.left v (subst (λ (w : Term). Step rules w v) (sym root.step.old) step)))
  where
    go : InPart rules root.step.values root.rule.left v ⊎ BelowVariable rules root.step.values root.rule.left v
        → Join (Step rules) (substituted root.step.values root.rule.right) v
    go (inl part) = part_joins root.is_rule.0 root.rule root.step.values v well joins root.is_rule.1 part
    go (inr below) = below_joins root.rule root.step.values v root.is_rule below

mutual
  pub local : {rules : List Rule} {t u v : Term} → AreWellFormedRules rules → OverlapsJoin rules → Step rules t u → Step rules t v
      → Join (Step rules) u v
  local {t = t} {u = u} {v = v} well joins (at_root one) two = root_first t u v well joins one two
  local well joins (in_arguments {f = f} {ts = ts} {us = us} one) (at_root {u = v} two) =
      join_back (root_first (node f ts) v (node f us) well joins two (in_arguments one))
  local well joins (in_arguments {f = f} one) (in_arguments {us = vs} two) =
      join_map (λ ws. node f ws) (λ v w step. in_arguments step) (local_among well joins one two)

  local_among : {rules : List Rule} {ts us vs : Terms} → AreWellFormedRules rules → OverlapsJoin rules → StepAmong rules ts us
      → StepAmong rules ts vs → Join (StepAmong rules) us vs
  local_among well joins (here {ts = ts} one) (here two) =
      join_map (λ w. term_then w ts) (λ v w step. here step) (local well joins one two)
  local_among well joins (here {u = u} one) (there {us = vs} two) =
      record { meeting = term_then u vs; first = reaches_once (there two); second = reaches_once (here one) }
  local_among well joins (there {us = us} one) (here {u = v} two) =
      record { meeting = term_then v us; first = reaches_once (here two); second = reaches_once (there one) }
  local_among well joins (there {t = t} one) (there two) =
      join_map (λ ws. term_then t ws) (λ v w step. there step) (local_among well joins one two)

-- so steps are locally confluent
pub locally_confluent : (rules : List Rule) → AreWellFormedRules rules → OverlapsJoin rules → IsLocallyConfluent (Step rules)
locally_confluent rules well joins = λ t u v one two. local well joins one two
