-- Hypotheses behind a split as the code makes them, one after another.
use Rattle.std.proofs.Common.{◌≡◌, ◌<◌, ◌≤◌, ℕ, ◌+◌, List, [], ◌∷◌, ◌++◌, Bool, true, false, nat_eq, length, map, drop, get_or, refl, ap, sym, ◌∙◌, subst, arith}
use Rattle.std.proofs.lemmas.Bool.Decides.{Decides-eqb}
use Rattle.std.proofs.lemmas.List.{append_assoc, append-nil}
use Rattle.std.proofs.lemmas.Option.{slice_get_read}
use Rattle.std.proofs.Math.ListN.{drop_of_length-le}
use Rattle.lotos_base.proofs.Pieces.{next_member}
use Rattle.lotos_base.specs.Signature.{Signature, IsSort}
use Rattle.lotos_base.specs.Substitution.{substituted}
use Rattle.lotos_base.specs.Term.{Term, variable}
use Rattle.sort_terms.specs.Operations.{operation_of}
use Rattle.sort_terms.specs.ProfiledTerm.{profiled_variable, bare, head_sort, IsOf}
use Rattle.sort_terms.specs.SortedView.{profiled_in, term_in}
use Rattle.sort_terms.specs.TermView.{profiled_of}
use Rattle.sort_terms.specs.declared.sorted.Sorted.{Sorted}
use Rattle.sort_terms.specs.declared.terms.Term.{Term as CodeTerm}
use Rattle.sort_terms.specs.declared.terms.Term.TheVariants.{Var}
use Rattle.sort_terms.proofs.BuiltLists.{profiled_Var}
use Rattle.certificate_theory.specs.InductionCertificate.{Statement as PlainStatement}
use Rattle.certificate_theory.specs.Patterns.{put_for, operation_on}
use Rattle.certificate_theory.specs.Requirements.{OccursInSide}
use Rattle.certificate_theory.specs.Splits.{in_both, hypotheses_for, hypotheses_behind}
use Rattle.induct_parts.specs.StatementView.{statement_of, profiled_sides_of}
use Rattle.induct_parts.specs.SettingView.{setting_signature, proving_in}
use Rattle.induct_parts.specs.CaseView.{case_in, IsKnownCase}
use Rattle.induct_parts.specs.PutView.{IsPut, numbered_in}
use Rattle.induct_parts.specs.declared.statements.Statement.{Statement}
use Rattle.induct_parts.specs.declared.setting.Setting.{Setting}
use Rattle.induct_parts.specs.declared.setting.Proving.{Proving}
use Rattle.induct_parts.specs.declared.cases.Case.{Case}
use Rattle.induct_parts.specs.declared.hypotheses.Put.{Put}
use Rattle.induct_parts.proofs.CaseSteps.{goal_sort, hypothesis_sort, copies_same}
use Rattle.induct_parts.proofs.PatternLemmas.{operation_term, operation_sort, operation_over}
use Rattle.induct_parts.proofs.ScopeFacts.{behind_free, behind_fixed}
use Rattle.induct_parts.proofs.StepLemmas.{IsMadeSoFar, one_more, all_made, hypotheses_make, if_sorted, hypothesis_first}

-- ---- a variable as a term

variable_profiled : (t : Sorted) (n s : ℕ) → t.term ≡ Var n s → profiled_in t ≡ profiled_variable n s
variable_profiled t n s e = ap (λ (u : CodeTerm). profiled_of u) e ∙ profiled_Var n s

pub variable_sort : (t : Sorted) (n s : ℕ) → t.term ≡ Var n s → t.sort ≡ s
variable_sort t n s e = sym t.headed ∙ ap head_sort (variable_profiled t n s e)

pub variable_term : (t : Sorted) (n s : ℕ) → t.term ≡ Var n s → term_in t ≡ variable n s
variable_term t n s e = ap bare (variable_profiled t n s e)

pub variable_over : (signature : Signature) (t : Sorted) (n s : ℕ) → t.term ≡ Var n s → IsSort signature s
    → IsOf signature (profiled_in t)
variable_over signature t n s e known = subst (IsOf signature) (sym (variable_profiled t n s e)) known

-- what is put for the variable is the variable of this number
pub put_variable : (n s m : ℕ) (t : Sorted) (goal : PlainStatement) (made : Statement) → t.term ≡ Var m s
    → statement_of made ≡ in_both (substituted (put_for n t.sort (term_in t))) goal
    → statement_of made ≡ in_both (substituted (put_for n s (variable m s))) goal
put_variable n s m t goal made is e =
    e ∙ (λ i. in_both (substituted (put_for n (variable_sort t m s is i) (variable_term t m s is i))) goal)

-- ---- those of a free variable

pub hypotheses_begin : (goal : PlainStatement) (n s next : ℕ) (arguments : List ℕ) (made old : List Statement)
    → map profiled_sides_of made ≡ map profiled_sides_of old
    → IsMadeSoFar (hypotheses_make goal n s next) arguments (map statement_of old ++ hypotheses_for goal n s next arguments) 0
    (map statement_of made)
hypotheses_begin goal n s next arguments made old e =
    ap (λ (hs : List PlainStatement). hs ++ hypotheses_for goal n s (next + 0) arguments) (copies_same made old e)
    ∙ ap (λ (k : ℕ). map statement_of old ++ hypotheses_for goal n s k arguments) on
  where
    on : next + 0 ≡ next
    on = omega arith

pub hypotheses_go_on : (goal : PlainStatement) (n s next i r : ℕ) (arguments : List ℕ) (made more whole : List PlainStatement)
    → i < length arguments → r ≡ get_or arguments i r → more ≡ made ++ if_sorted goal n s next i r
    → IsMadeSoFar (hypotheses_make goal n s next) arguments whole i made
    → IsMadeSoFar (hypotheses_make goal n s next) arguments whole (i + 1) more
hypotheses_go_on goal n s next i r arguments made more whole within is added so_far =
    one_more (hypotheses_make goal n s next) (if_sorted goal n s next) arguments whole (hypothesis_first goal n s next) i r made more within
    is
    added so_far

pub hypotheses_end : (goal : PlainStatement) (n s next i : ℕ) (arguments : List ℕ) (made whole : List PlainStatement)
    → length arguments ≤ i → IsMadeSoFar (hypotheses_make goal n s next) arguments whole i made → made ≡ whole
hypotheses_end goal n s next i arguments made whole past so_far =
    all_made (hypotheses_make goal n s next) (if_sorted goal n s next) arguments whole (λ k. refl) i made past so_far

pub other_sort : (s r : ℕ) → ¬ (r ≡ s) → nat_eq s r ≡ false
other_sort s r differ = go (nat_eq s r) refl
  where
    go : (b : Bool) → nat_eq s r ≡ b → b ≡ false
    go true e = absurd (differ (sym ((Decides-eqb s r).0 e)))
    go false e = refl

pub one_sort : (s r : ℕ) → r ≡ s → nat_eq s r ≡ true
one_sort s r e = (Decides-eqb s r).1 (sym e)

-- ---- those of a fixed one

pub changed_more : (f : PlainStatement → PlainStatement) (hypotheses : List Statement) (k : ℕ) (h : Statement)
    (made more whole : List PlainStatement) → k < length hypotheses → h ≡ get_or hypotheses k h → more ≡ made ++ f (statement_of h) ∷ []
    → made ++ map f (map statement_of (drop k hypotheses)) ≡ whole → more ++ map f (map statement_of (drop (k + 1) hypotheses)) ≡ whole
changed_more f hypotheses k h made more whole within is added so_far =
    ap (λ (hs : List PlainStatement). hs ++ map f (map statement_of (drop (k + 1) hypotheses))) added
    ∙ (append_assoc made (f (statement_of h) ∷ []) (map f (map statement_of (drop (k + 1) hypotheses)))
    ∙ (ap (λ (hs : List Statement). made ++ map f (map statement_of hs)) (sym (next_member hypotheses k h within is)) ∙ so_far))

pub changed_end : (f : PlainStatement → PlainStatement) (hypotheses : List Statement) (k : ℕ) (made whole : List PlainStatement)
    → length hypotheses ≤ k → made ++ map f (map statement_of (drop k hypotheses)) ≡ whole → made ≡ whole
changed_end f hypotheses k made whole past so_far =
    sym (append-nil made)
    ∙ (ap (λ (hs : List Statement). made ++ map f (map statement_of hs)) (sym (drop_of_length-le hypotheses past)) ∙ so_far)

-- ---- what is put in

module _ (setting : Setting) (point : Case) (put : Put) (is : IsPut setting point put) where
  pub put_sort : put.term.now.sort ≡ put.op.now.result
  put_sort = operation_sort put.operation (length point.sorts.items) (operation_of put.op.now) put.term.now is.term

  pub put_term : term_in put.term.now ≡ operation_on (numbered_in put) (length point.sorts.items)
  put_term = operation_term put.operation (length point.sorts.items) (operation_of put.op.now) put.term.now is.term

  pub put_over : IsOf (setting_signature setting) (profiled_in put.term.now)
  put_over =
      operation_over (setting_signature setting) put.operation (length point.sorts.items) (operation_of put.op.now) put.term.now
      setting.signature.now.well_formed is.is_operation is.term

  pub put_result_sort : IsSort (setting_signature setting) put.op.now.result
  put_result_sort =
      setting.signature.now.well_formed.results put.operation (operation_of put.op.now) is.is_operation

  -- in the goal and in the hypotheses the variable has the sort of the operation's result
  pub put_in_goal : (free : ℕ) → IsKnownCase (setting_signature setting) free point → (s : ℕ)
      → OccursInSide (statement_of point.goal) put.variable s → s ≡ put.op.now.result
  put_in_goal free known s o =
      goal_sort (setting_signature setting) free point put.variable put.op.now.result known is.scope s o

  pub put_in_hypothesis : (free : ℕ) → IsKnownCase (setting_signature setting) free point → (k : ℕ) (h : Statement)
      → k < length point.hypotheses.items → h ≡ get_or point.hypotheses.items k h → (s : ℕ)
      → OccursInSide (statement_of h) put.variable s → s ≡ put.term.now.sort
  put_in_hypothesis free known k h within at s o =
      hypothesis_sort (setting_signature setting) free point k h put.variable put.op.now.result known
      (slice_get_read point.hypotheses.items (length point.hypotheses.items) k h refl within at) is.scope s o
      ∙ sym put_sort

  -- the hypotheses behind a split
  pub free_behind : (proving : Proving) (made : List PlainStatement) → put.variable < proving.free
      → made ≡ map statement_of point.hypotheses.items
      ++ hypotheses_for (statement_of point.goal) put.variable put.op.now.result (length point.sorts.items) put.op.now.arguments.items
      → made ≡ hypotheses_behind (proving_in proving) (case_in point) put.variable put.op.now.result (numbered_in put)
  free_behind proving made less e =
      e ∙ sym (behind_free (proving_in proving) (case_in point) put.variable put.op.now.result (numbered_in put) less)

  pub fixed_behind : (proving : Proving) (made : List PlainStatement) → proving.free ≤ put.variable
      → made ≡ map (in_both (substituted (put_for put.variable put.op.now.result (term_in put.term.now))))
      (map statement_of point.hypotheses.items)
      → made ≡ hypotheses_behind (proving_in proving) (case_in point) put.variable put.op.now.result (numbered_in put)
  fixed_behind proving made past e =
      e ∙ (ap (λ (t : Term). map (in_both (substituted (put_for put.variable put.op.now.result t)))
      (map statement_of point.hypotheses.items))
      put_term
      ∙ sym (behind_fixed (proving_in proving) (case_in point) put.variable put.op.now.result (numbered_in put) past))
