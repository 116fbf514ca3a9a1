-- Steps keep the sort of a term and bring in no variable.
use Rattle.std.proofs.Common.{◌≡◌, ℕ, List, [], ◌∷◌, ap, sym, ◌∙◌, subst, inl, inr}
use Rattle.std.proofs.lemmas.Option.{same_Some}
use Rattle.lotos_base.specs.Signature.{Signature, Operation}
use Rattle.lotos_base.specs.Term.{Term, variable, node, Terms, no_terms, term_then}
use Rattle.lotos_base.specs.Sorting.{HasSort, HaveSorts, Occurs, OccursAmong}
use Rattle.lotos_base.specs.Substitution.{Substitution, substituted, all_substituted, KeepsSorts}
use Rattle.lotos_base.specs.Equation.{Equation, Data, HasOneSort, HasSortedSides}
use Rattle.lotos_base.specs.Equality.{Direction, forward, backward}
use Rattle.lotos_base.proofs.SubstitutionLemmas.{substituted_sort, substituted_occurs, occurs_substituted}
use Rattle.rewriting_theory.specs.Rule.{Rule, IsRule, IsNode, IsWellFormedRule, AreWellFormedRules, IsTurned, AreRulesOf}
use Rattle.rewriting_theory.specs.Reduction.{Reaches, reached_already, reached_after}
use Rattle.rewriting_theory.specs.Step.{Step, at_root, in_arguments, StepAmong, here, there}

-- ---- values of sorted instances

mutual
  -- where a term and its instance have one sort, the values keep sorts
  pub keeps_back : (signature : Signature) (values : Substitution) (l : Term) (sort : ℕ) → HasSort signature l sort
      → HasSort signature (substituted values l) sort → KeepsSorts signature l values
  keeps_back signature values (variable m r) sort h k n s o =
      let same : s ≡ sort = sym o.1 ∙ h.0 in
      subst (λ (q : ℕ). HasSort signature (values n q) s) o.1
      (subst (λ (i : ℕ). HasSort signature (values i r) s) o.0 (subst (λ (q : ℕ). HasSort signature (values m r) q) (sym same) k))
  keeps_back signature values (node f ls) sort h k n s o =
      let one : k.0 ≡ h.0 = same_Some k.0 h.0 (sym k.1 ∙ h.1) in
      all_keep_back signature values ls h.0.arguments h.3
      (subst (λ (operation : Operation). HaveSorts signature (all_substituted values ls) operation.arguments) one k.3) n s o

  all_keep_back : (signature : Signature) (values : Substitution) (ls : Terms) (sorts : List ℕ) → HaveSorts signature ls sorts
      → HaveSorts signature (all_substituted values ls) sorts
      → (n s : ℕ) → OccursAmong n s ls → HasSort signature (values n s) s
  all_keep_back signature values no_terms sorts h k n s o = absurd o
  all_keep_back signature values (term_then l ls) [] h k n s o = absurd h
  all_keep_back signature values (term_then l ls) (sort ∷ sorts) h k n s (inl o) = keeps_back signature values l sort h.0 k.0 n s o
  all_keep_back signature values (term_then l ls) (sort ∷ sorts) h k n s (inr o) = all_keep_back signature values ls sorts h.1 k.1 n s o

-- the head of an operation's instance gives the operation's sort
instance_sort : (signature : Signature) (values : Substitution) (l : Term) (q s : ℕ) → IsNode l → HasSort signature l q
    → HasSort signature (substituted values l) s → q ≡ s
instance_sort signature values (variable m r) q s is h k = absurd is
instance_sort signature values (node f ls) q s is h k =
    sym h.2 ∙ ap (λ (operation : Operation). operation.result) (same_Some h.0 k.0 (sym h.1 ∙ k.1)) ∙ k.2

-- ---- rules of data with sorted sides

-- The two sides of a rule have one sort.
pub record SortedRule (signature : Signature) (rule : Rule) : Type 0 where
  pub sort : ℕ
  pub left : HasSort signature rule.left sort
  pub right : HasSort signature rule.right sort

turned_sorted : (signature : Signature) (direction : Direction) (equation : Equation) (rule : Rule)
    → HasOneSort signature equation → IsTurned direction equation rule → SortedRule signature rule
turned_sorted signature forward equation rule one turned = record {
  sort = one.sort;
  left = subst (λ (t : Term). HasSort signature t one.sort) (sym turned.left) one.left;
  right = subst (λ (t : Term). HasSort signature t one.sort) (sym turned.right) one.right;
}
turned_sorted signature backward equation rule one turned = record {
  sort = one.sort;
  left = subst (λ (t : Term). HasSort signature t one.sort) (sym turned.left) one.right;
  right = subst (λ (t : Term). HasSort signature t one.sort) (sym turned.right) one.left;
}

pub sorted_rule : (data_ : Data) (rules : List Rule) → HasSortedSides data_ → AreRulesOf data_ rules → (rule : Rule)
    → IsRule rules rule → SortedRule data_.signature rule
sorted_rule data_ rules sorted of rule is =
    let from = of.rules_turned rule is in
    turned_sorted data_.signature from.1 from.0 rule (sorted from.0 from.2) from.3

-- What a sorted instance of a rule's left side tells.
pub record SortedStep (signature : Signature) (rule : Rule) (values : Substitution) (s : ℕ) : Type 0 where
  pub keeps : KeepsSorts signature rule.left values
  pub right : HasSort signature (substituted values rule.right) s

pub root_sort : (signature : Signature) (rule : Rule) (values : Substitution) (s : ℕ) → IsWellFormedRule rule
    → SortedRule signature rule → HasSort signature (substituted values rule.left) s → SortedStep signature rule values s
root_sort signature rule values s fine sorted h =
    let same : sorted.sort ≡ s = instance_sort signature values rule.left sorted.sort s fine.left_node sorted.left h in
    let keeps : KeepsSorts signature rule.left values =
    keeps_back signature values rule.left s (subst (λ (q : ℕ). HasSort signature rule.left q) same sorted.left) h in
    record {
      keeps = keeps;
      right = substituted_sort signature values rule.right s
          (subst (λ (q : ℕ). HasSort signature rule.right q) same sorted.right)
          (λ n r o. keeps n r (fine.occurring n r o));
    }

-- ---- steps keep sorts

mutual
  pub step_sort : {rules : List Rule} (data_ : Data) → HasSortedSides data_ → AreRulesOf data_ rules → AreWellFormedRules rules
      → {t u : Term} (s : ℕ) → Step rules t u → HasSort data_.signature t s → HasSort data_.signature u s
  step_sort {rules = rules} data_ sorted of fine s (at_root step) h =
      let signature = data_.signature in
      let before = subst (λ (w : Term). HasSort data_.signature w s) (sym step.step.old) h in
      let after = root_sort data_.signature step.rule step.step.values s (fine step.rule step.is_rule)
      (sorted_rule data_ rules sorted of step.rule step.is_rule) before in
      subst (λ (w : Term). HasSort data_.signature w s) step.step.new after.right
  step_sort data_ sorted of fine s (in_arguments step) h =
      (h.0, h.1, h.2, step_among_sorts data_ sorted of fine h.0.arguments step h.3)

  step_among_sorts : {rules : List Rule} (data_ : Data) → HasSortedSides data_ → AreRulesOf data_ rules
      → AreWellFormedRules rules → {ts us : Terms} (sorts : List ℕ) → StepAmong rules ts us
      → HaveSorts data_.signature ts sorts → HaveSorts data_.signature us sorts
  step_among_sorts data_ sorted of fine [] (here step) h = absurd h
  step_among_sorts data_ sorted of fine (s ∷ ss) (here step) h = (step_sort data_ sorted of fine s step h.0, h.1)
  step_among_sorts data_ sorted of fine [] (there step) h = absurd h
  step_among_sorts data_ sorted of fine (s ∷ ss) (there step) h = (h.0, step_among_sorts data_ sorted of fine ss step h.1)

pub reaches_sort : {rules : List Rule} (data_ : Data) → HasSortedSides data_ → AreRulesOf data_ rules
    → AreWellFormedRules rules → {t u : Term} (s : ℕ) → Reaches (Step rules) t u → HasSort data_.signature t s
    → HasSort data_.signature u s
reaches_sort data_ sorted of fine s reached_already h = h
reaches_sort data_ sorted of fine s (reached_after step chain) h =
    reaches_sort data_ sorted of fine s chain (step_sort data_ sorted of fine s step h)

-- ---- steps bring in no variable

mutual
  pub step_occurs : {rules : List Rule} → AreWellFormedRules rules → {t u : Term} (n s : ℕ) → Step rules t u → Occurs n s u
      → Occurs n s t
  step_occurs fine n s (at_root step) o =
      let from = substituted_occurs n s step.step.values step.rule.right (subst (λ (w : Term). Occurs n s w) (sym step.step.new) o) in
      subst (λ (w : Term). Occurs n s w) step.step.old
      (occurs_substituted n s from.number from.sort step.step.values step.rule.left
      ((fine step.rule step.is_rule).occurring from.number from.sort from.occurs) from.inside)
  step_occurs fine n s (in_arguments step) o = step_among_occurs fine n s step o

  step_among_occurs : {rules : List Rule} → AreWellFormedRules rules → {ts us : Terms} (n s : ℕ) → StepAmong rules ts us
      → OccursAmong n s us → OccursAmong n s ts
  step_among_occurs fine n s (here step) (inl o) = inl (step_occurs fine n s step o)
  step_among_occurs fine n s (here step) (inr o) = inr o
  step_among_occurs fine n s (there step) (inl o) = inl o
  step_among_occurs fine n s (there step) (inr o) = inr (step_among_occurs fine n s step o)

pub reaches_occurs : {rules : List Rule} → AreWellFormedRules rules → {t u : Term} (n s : ℕ) → Reaches (Step rules) t u
    → Occurs n s u → Occurs n s t
reaches_occurs fine n s reached_already o = o
reaches_occurs fine n s (reached_after step chain) o = step_occurs fine n s step (reaches_occurs fine n s chain o)
