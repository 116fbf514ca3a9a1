-- A line comes to one thing, or is wrong in one way, and never both.
use Rattle.std.proofs.Common.{◌≡◌, ℕ, List, [], ◌∷◌, ap, sym, ◌∙◌, subst, inl, inr}
use Rattle.std.specs.Prelude.{◌⊎◌, None}
use Rattle.std.proofs.lemmas.Option.{same_Some}
use Rattle.lotos_base.specs.Signature.{Signature}
use Rattle.lotos_base.specs.Term.{Term, variable, node, Terms, no_terms, term_then}
use Rattle.lotos_base.specs.Sorting.{Occurs, OccursAmong}
use Rattle.lotos_base.specs.Path.{put_at}
use Rattle.lotos_base.specs.Substitution.{Substitution, substituted, all_substituted}
use Rattle.lotos_base.proofs.SubstitutionLemmas.{substituted_agree}
use Rattle.rewriting_theory.specs.Rule.{Rule}
use Rattle.certificate_theory.specs.InductionCertificate.{Cover, TreeLine, split_pattern, leaf_here, Statement, Source, by_lemma, by_hypothesis, Use, ProofLine, split_variable, use_it, same_sides}
use Rattle.certificate_theory.specs.Covers.{cover_of}
use Rattle.certificate_theory.specs.Faults.{InductionFault}
use Rattle.certificate_theory.specs.Patterns.{Pattern, split_patterns, PatternComesTo, IsWrongAtPattern}
use Rattle.certificate_theory.specs.Splits.{Theory, Case, Proving, cases_of_split, with_goal}
use Rattle.certificate_theory.specs.Uses.{taken_side, placed_side, side_at, with_side, IsOfSource, StandsForItself, IsUsed}
use Rattle.certificate_theory.specs.Proofs.{CaseComesTo, IsWrongAtCase}

-- ---- trees

variable_number : (n s m r : ℕ) → variable n s ≡ variable m r → n ≡ m
variable_number n s m r e = cc

variable_sort : (n s m r : ℕ) → variable n s ≡ variable m r → s ≡ r
variable_sort n s m r e = cc

pub patterns_once : (signature : Signature) (rules : List Rule) (covers : List Cover) (pattern : Pattern) (line : TreeLine)
    (parts others : List Pattern) → PatternComesTo signature rules covers pattern line parts
    → PatternComesTo signature rules covers pattern line others → parts ≡ others
patterns_once signature rules covers pattern leaf_here parts others h k = h.1 ∙ sym k.1
patterns_once signature rules covers pattern (split_pattern path) parts others h k =
    let same : variable h.0 h.1 ≡ variable k.0 k.1 = same_Some (variable h.0 h.1) (variable k.0 k.1) (sym h.3 ∙ k.3) in
    let number = variable_number h.0 h.1 k.0 k.1 same in
    let sort = variable_sort h.0 h.1 k.0 k.1 same in
    let operations : h.2 ≡ k.2 = same_Some h.2 k.2 (sym h.4 ∙ (ap (λ (s : ℕ). cover_of covers s) sort ∙ k.4)) in
    h.5 ∙ ((λ i. split_patterns signature pattern (number i) (sort i) (operations i)) ∙ sym k.5)

pub pattern_faults_once : (rules : List Rule) (covers : List Cover) (pattern : Pattern) (line : TreeLine)
    (fault other : InductionFault) → IsWrongAtPattern rules covers pattern line fault
    → IsWrongAtPattern rules covers pattern line other → fault ≡ other
pattern_faults_once rules covers pattern leaf_here fault other h k = h.1 ∙ sym k.1
pattern_faults_once rules covers pattern (split_pattern path) fault other (inl h) (inl k) = h.1 ∙ sym k.1
pattern_faults_once rules covers pattern (split_pattern path) fault other (inl h) (inr k) = absurd (h.0 k.0 k.1 k.2)
pattern_faults_once rules covers pattern (split_pattern path) fault other (inr h) (inl k) = absurd (k.0 h.0 h.1 h.2)
pattern_faults_once rules covers pattern (split_pattern path) fault other (inr h) (inr k) = h.4 ∙ sym k.4

pub pattern_right_or_wrong : (signature : Signature) (rules : List Rule) (covers : List Cover) (pattern : Pattern) (line : TreeLine)
    (parts : List Pattern) (fault : InductionFault) → PatternComesTo signature rules covers pattern line parts
    → IsWrongAtPattern rules covers pattern line fault → ⊥
pattern_right_or_wrong signature rules covers pattern leaf_here parts fault h k = k.0 h.0.0 h.0.1 h.0.2
pattern_right_or_wrong signature rules covers pattern (split_pattern path) parts fault h (inl k) = k.0 h.0 h.1 h.3
pattern_right_or_wrong signature rules covers pattern (split_pattern path) parts fault h (inr k) =
    let same : variable h.0 h.1 ≡ variable k.0 k.1 = same_Some (variable h.0 h.1) (variable k.0 k.1) (sym h.3 ∙ k.2) in
    let sort = variable_sort h.0 h.1 k.0 k.1 same in
    let none : cover_of covers h.1 ≡ None = ap (λ (s : ℕ). cover_of covers s) sort ∙ k.3 in
    let some = h.4 in
    cc (none, some)

-- ---- uses

mutual
  -- substitutions that make one instance agree on the variables that occur
  pub instances_agree : (values others : Substitution) (t : Term) → substituted values t ≡ substituted others t → (n s : ℕ)
      → Occurs n s t → values n s ≡ others n s
  instances_agree values others (variable m r) e n s o =
      subst (λ (k : ℕ). values k s ≡ others k s) o.0 (subst (λ (q : ℕ). values m q ≡ others m q) o.1 e)
  instances_agree values others (node f ts) e n s o = all_instances_agree values others ts (cc e) n s o

  all_instances_agree : (values others : Substitution) (ts : Terms) → all_substituted values ts ≡ all_substituted others ts
      → (n s : ℕ) → OccursAmong n s ts → values n s ≡ others n s
  all_instances_agree values others no_terms e n s o = absurd o
  all_instances_agree values others (term_then t ts) e n s (inl o) =
      let first : substituted values t ≡ substituted others t = cc e in instances_agree values others t first n s o
  all_instances_agree values others (term_then t ts) e n s (inr o) =
      let rest : all_substituted values ts ≡ all_substituted others ts = cc e in all_instances_agree values others ts rest n s o

pub source_once : (proving : Proving) (point : Case) (source : Source) (one other : Statement) → IsOfSource proving point source one
    → IsOfSource proving point source other → one ≡ other
source_once proving point (by_lemma k) one other h j = same_Some one other (sym h ∙ j)
source_once proving point (by_hypothesis k) one other h j = same_Some one other (sym h ∙ j)

-- the instance that is put in is one
placed_once : (proving : Proving) (source : Source) (taken placed : Term) (values others : Substitution)
    → ((n s : ℕ) → StandsForItself proving source n → values n s ≡ variable n s)
    → ((n s : ℕ) → StandsForItself proving source n → others n s ≡ variable n s)
    → ((n s : ℕ) → Occurs n s placed → StandsForItself proving source n ⊎ Occurs n s taken)
    → substituted values taken ≡ substituted others taken → substituted values placed ≡ substituted others placed
placed_once proving source taken placed values others fixed fixed_others closed same =
    substituted_agree values others placed (λ n s o. go n s (closed n s o))
  where
    go : (n s : ℕ) → StandsForItself proving source n ⊎ Occurs n s taken → values n s ≡ others n s
    go n s (inl stands) = fixed n s stands ∙ sym (fixed_others n s stands)
    go n s (inr o) = instances_agree values others taken same n s o

-- so a use has one result
pub uses_once : (theory : Theory) (proving : Proving) (point : Case) (use_ : Use) (result other : Statement)
    → IsUsed theory proving point use_ result → IsUsed theory proving point use_ other → result ≡ other
uses_once theory proving point use_ result other h k =
    let statement : k.statement ≡ h.statement =
    source_once proving point use_.source k.statement h.statement k.is_there h.is_there in
    let taken : substituted h.values (taken_side use_.direction h.statement)
    ≡ substituted k.values (taken_side use_.direction h.statement) =
    same_Some (substituted h.values (taken_side use_.direction h.statement))
    (substituted k.values (taken_side use_.direction k.statement)) (sym h.old ∙ k.old)
    ∙ ap (λ (st : Statement). substituted k.values (taken_side use_.direction st)) statement in
    let placed : substituted h.values (placed_side use_.direction h.statement)
    ≡ substituted k.values (placed_side use_.direction k.statement) =
    placed_once proving use_.source (taken_side use_.direction h.statement) (placed_side use_.direction h.statement) h.values k.values
    h.fixed k.fixed h.closed taken
    ∙ ap (λ (st : Statement). substituted k.values (placed_side use_.direction st)) (sym statement) in
    let after : h.after ≡ k.after =
    same_Some h.after k.after
    (sym h.new ∙ (ap (λ (part : Term). put_at use_.path part (side_at use_.side point.goal)) placed ∙ k.new)) in
    h.is_result ∙ (ap (λ (t : Term). with_side use_.side t point.goal) after ∙ sym k.is_result)

-- ---- proofs

pub cases_once : (theory : Theory) (covers : List Cover) (proving : Proving) (point : Case) (line : ProofLine)
    (parts others : List Case) → CaseComesTo theory covers proving point line parts
    → CaseComesTo theory covers proving point line others → parts ≡ others
cases_once theory covers proving point same_sides parts others h k = h.1 ∙ sym k.1
cases_once theory covers proving point (use_it use_) parts others h k =
    h.2 ∙ (ap (λ (goal : Statement). with_goal theory point goal ∷ []) (uses_once theory proving point use_ h.0 k.0 h.1 k.1) ∙ sym k.2)
cases_once theory covers proving point (split_variable n) parts others h k =
    let sort : h.0 ≡ k.0 = same_Some h.0 k.0 (sym h.2.0 ∙ k.2.0) in
    let operations : h.1 ≡ k.1 = same_Some h.1 k.1 (sym h.3 ∙ (ap (λ (s : ℕ). cover_of covers s) sort ∙ k.3)) in
    h.4 ∙ ((λ i. cases_of_split theory proving point n (sort i) (operations i)) ∙ sym k.4)

pub case_faults_once : (theory : Theory) (covers : List Cover) (proving : Proving) (point : Case) (line : ProofLine)
    (fault other : InductionFault) → IsWrongAtCase theory covers proving point line fault
    → IsWrongAtCase theory covers proving point line other → fault ≡ other
case_faults_once theory covers proving point same_sides fault other h k = h.1 ∙ sym k.1
case_faults_once theory covers proving point (use_it use_) fault other h k = h.1 ∙ sym k.1
case_faults_once theory covers proving point (split_variable n) fault other (inl h) (inl k) = h.1 ∙ sym k.1
case_faults_once theory covers proving point (split_variable n) fault other (inl h) (inr k) = absurd (h.0 k.0 k.1)
case_faults_once theory covers proving point (split_variable n) fault other (inr h) (inl k) = absurd (k.0 h.0 h.1)
case_faults_once theory covers proving point (split_variable n) fault other (inr h) (inr k) = h.3 ∙ sym k.3

pub case_right_or_wrong : (theory : Theory) (covers : List Cover) (proving : Proving) (point : Case) (line : ProofLine)
    (parts : List Case) (fault : InductionFault) → CaseComesTo theory covers proving point line parts
    → IsWrongAtCase theory covers proving point line fault → ⊥
case_right_or_wrong theory covers proving point same_sides parts fault h k = k.0 h.0
case_right_or_wrong theory covers proving point (use_it use_) parts fault h k = k.0 h.0 h.1
case_right_or_wrong theory covers proving point (split_variable n) parts fault h (inl k) = k.0 h.0 h.2
case_right_or_wrong theory covers proving point (split_variable n) parts fault h (inr k) =
    let sort : h.0 ≡ k.0 = same_Some h.0 k.0 (sym h.2.0 ∙ k.1.0) in
    let none : cover_of covers h.0 ≡ None = ap (λ (s : ℕ). cover_of covers s) sort ∙ k.2 in
    let some = h.3 in
    cc (none, some)
