-- The tests of lines say what a line comes to, or what is wrong with it.
use Rattle.std.proofs.Common.{◌≡◌, ℕ, zero, suc, List, [], ◌∷◌, ◌++◌, Bool, true, false, nat_eq, nat_lt, length, refl, ap, sym, ◌∙◌, subst, inl, inr, le-leb, leb-true}
use Rattle.std.specs.Prelude.{◌⊎◌, ◌&&◌, ◌||◌, Option, None, Some, slice_get, if◌then◌else◌}
use Rattle.std.specs.Option.{option_map, option_and_then}
use Rattle.std.specs.Bool.{Decides}
use Rattle.std.proofs.lemmas.Bool.Decides.{Decides-eqb, Decides-ltb, Decides-and, Decides-or, Decides-like, not_from_Decides}
use Rattle.std.proofs.lemmas.Option.{same_Some}
use Rattle.lotos_base.specs.Signature.{Signature, Operation}
use Rattle.lotos_base.specs.Term.{Term, variable, node, Terms, no_terms, term_then}
use Rattle.lotos_base.specs.Sorting.{HasSort, HaveSorts, Occurs, OccursAmong}
use Rattle.lotos_base.specs.Tests.{term_eq, occurs}
use Rattle.lotos_base.specs.Path.{subterm, put_at}
use Rattle.lotos_base.specs.Substitution.{Substitution, substituted, KeepsSorts, is_listed}
use Rattle.lotos_base.proofs.Options.{none_and_some}
use Rattle.lotos_base.proofs.PathLemmas.{put_at_possible}
use Rattle.lotos_base.proofs.TestLemmas.{Decides-occurs, Decides-term_eq}
use Rattle.lotos_base.proofs.SubstitutionLemmas.{substituted_agree}
use Rattle.rewriting_theory.specs.Rule.{Rule, IsRule}
use Rattle.rewriting_theory.specs.Matching.{Matches}
use Rattle.rewriting_theory.proofs.MatchLemmas.{matching, matching_matches}
use Rattle.certificate_theory.specs.InductionCertificate.{Cover, TreeLine, split_pattern, leaf_here, Statement, Source, by_lemma, by_hypothesis, Use, ProofLine, split_variable, use_it, same_sides}
use Rattle.certificate_theory.specs.Lines.{DealsWith, nothing_left, line_then, FailsToDeal, line_missing, line_surplus, line_wrong, line_later}
use Rattle.certificate_theory.specs.Covers.{cover_of}
use Rattle.certificate_theory.specs.Faults.{InductionFault, bad_line, no_variable, not_reducible, not_same}
use Rattle.certificate_theory.specs.Patterns.{Pattern, PatternComesTo, IsWrongAtPattern}
use Rattle.certificate_theory.specs.Splits.{Theory, Case, Proving}
use Rattle.certificate_theory.specs.Uses.{taken_side, placed_side, side_at, with_side, IsOfSource, StandsForItself, IsUsed}
use Rattle.certificate_theory.specs.Proofs.{CaseComesTo, IsWrongAtCase}
use Rattle.certificate_theory.proofs.OnceLemmas.{instances_agree, source_once}
use Rattle.certificate_theory.proofs.CertificateTests.{with_profile, has_sort, have_sorts, each_variable, each_variable_among, LineOutcome, comes_to, is_wrong, some_match, split_or, part_split, pattern_outcome, stands, masked, candidate, statement_at, matches_with, used_at, use_result, use_or, cases_or, scope_split, case_outcome, Found, one_later, go_on, first_failing}

-- ---- sorts and variables

mutual
  pub Decides-has_sort : (signature : Signature) (t : Term) (s : ℕ) → Decides (has_sort signature t s) (HasSort signature t s)
  Decides-has_sort signature (variable n q) s =
      Decides-and (nat_eq q s) (nat_lt q (length signature.sorts)) (Decides-eqb q s) (Decides-ltb q (length signature.sorts))
  Decides-has_sort signature (node f ts) s =
      go (slice_get signature.operations f) refl (λ ss. Decides-have_sorts signature ts ss)
    where
      go : (o : Option Operation) → slice_get signature.operations f ≡ o
          → ((ss : List ℕ) → Decides (have_sorts signature ts ss) (HaveSorts signature ts ss))
          → Decides (with_profile o s (λ ss. have_sorts signature ts ss)) (HasSort signature (node f ts) s)
      go None e have = ((λ h. absurd (cc h)), (λ h. absurd (none_and_some (slice_get signature.operations f) h.0 e h.1)))
      go (Some o) e have =
          Decides-like (nat_eq o.result s && have_sorts signature ts o.arguments) joined parted
          (Decides-and (nat_eq o.result s) (have_sorts signature ts o.arguments) (Decides-eqb o.result s) (have o.arguments))
        where
          joined : (o.result ≡ s) × HaveSorts signature ts o.arguments → HasSort signature (node f ts) s
          joined h = (o, e, h.0, h.1)

          parted : HasSort signature (node f ts) s → (o.result ≡ s) × HaveSorts signature ts o.arguments
          parted h =
              let same : h.0 ≡ o = same_Some h.0 o (sym h.1 ∙ e) in
              (subst (λ (p : Operation). p.result ≡ s) same h.2, subst (λ (p : Operation). HaveSorts signature ts p.arguments) same h.3)

  Decides-have_sorts : (signature : Signature) (ts : Terms) (ss : List ℕ)
      → Decides (have_sorts signature ts ss) (HaveSorts signature ts ss)
  Decides-have_sorts signature no_terms [] = ((λ h. tt), (λ h. refl))
  Decides-have_sorts signature no_terms (s ∷ ss) = ((λ h. absurd (cc h)), (λ h. absurd h))
  Decides-have_sorts signature (term_then t ts) [] = ((λ h. absurd (cc h)), (λ h. absurd h))
  Decides-have_sorts signature (term_then t ts) (s ∷ ss) =
      Decides-and (has_sort signature t s) (have_sorts signature ts ss) (Decides-has_sort signature t s)
      (Decides-have_sorts signature ts ss)

mutual
  pub Decides-each : (P : ℕ → ℕ → Type 0) (test : ℕ → ℕ → Bool) → ((n s : ℕ) → Decides (test n s) (P n s)) → (t : Term)
      → Decides (each_variable test t) ((n s : ℕ) → Occurs n s t → P n s)
  Decides-each P test decide (variable m r) = (
    (λ e n s o. subst (λ (k : ℕ). P k s) o.0 (subst (λ (q : ℕ). P m q) o.1 ((decide m r).0 e))),
    (λ all. (decide m r).1 (all m r (refl, refl))),
  )
  Decides-each P test decide (node f ts) = Decides-each_among P test decide ts

  Decides-each_among : (P : ℕ → ℕ → Type 0) (test : ℕ → ℕ → Bool) → ((n s : ℕ) → Decides (test n s) (P n s)) → (ts : Terms)
      → Decides (each_variable_among test ts) ((n s : ℕ) → OccursAmong n s ts → P n s)
  Decides-each_among P test decide no_terms = ((λ e n s o. absurd o), (λ all. refl))
  Decides-each_among P test decide (term_then t ts) =
      Decides-like (each_variable test t && each_variable_among test ts) joined
      (λ all. ((λ n s o. all n s (inl o)), (λ n s o. all n s (inr o))))
      (Decides-and (each_variable test t) (each_variable_among test ts) (Decides-each P test decide t)
      (Decides-each_among P test decide ts))
    where
      joined : ((n s : ℕ) → Occurs n s t → P n s) × ((n s : ℕ) → OccursAmong n s ts → P n s)
          → (n s : ℕ) → OccursAmong n s (term_then t ts) → P n s
      joined h n s (inl o) = h.0 n s o
      joined h n s (inr o) = h.1 n s o

-- ---- what an outcome means

abbrev pub LineMeans : {X L : Type 0} → (X → L → List X → Type 0) → (X → L → InductionFault → Type 0) → X → L
    → LineOutcome X → Type 0
LineMeans ComesTo IsWrong x line (comes_to parts) = ComesTo x line parts
LineMeans ComesTo IsWrong x line (is_wrong fault) = IsWrong x line fault

-- ---- lines of trees

-- Some rule matches the term.
abbrev SomeMatch : List Rule → Term → Type 0
SomeMatch rules t = (rule : Rule) × IsRule rules rule × Matches rule.left t

Decides-some_match : (rules : List Rule) (t : Term) → Decides (some_match rules t) (SomeMatch rules t)
Decides-some_match [] t = ((λ e. absurd (cc e)), none)
  where
    none : SomeMatch [] t → false ≡ true
    none (rule, (k, at), match) = absurd (cc at)
Decides-some_match (rule ∷ rules) t =
    Decides-like (term_eq (substituted (matching rule.left t) rule.left) t || some_match rules t) joined parted
    (Decides-or (term_eq (substituted (matching rule.left t) rule.left) t) (some_match rules t) first (Decides-some_match rules t))
  where
    first : Decides (term_eq (substituted (matching rule.left t) rule.left) t) (Matches rule.left t)
    first = (
      (λ e. (matching rule.left t, (Decides-term_eq (substituted (matching rule.left t) rule.left) t).0 e)),
      (λ m. (Decides-term_eq (substituted (matching rule.left t) rule.left) t).1 (matching_matches m.0 rule.left t m.1)),
    )

    joined : Matches rule.left t ⊎ SomeMatch rules t → SomeMatch (rule ∷ rules) t
    joined (inl match) = (rule, (0, refl), match)
    joined (inr (other, (k, at), match)) = (other, (suc k, at), match)

    parted : SomeMatch (rule ∷ rules) t → Matches rule.left t ⊎ SomeMatch rules t
    parted (other, (zero, at), match) = inl (subst (λ (r : Rule). Matches r.left t) (sym (same_Some rule other at)) match)
    parted (other, (suc k, at), match) = inr (other, (k, at), match)

node_not_variable : (f n s : ℕ) (ts : Terms) → node f ts ≡ variable n s → ⊥
node_not_variable f n s ts e = let differ : false ≡ true = cc e in absurd (cc differ)

pub pattern_means : (signature : Signature) (rules : List Rule) (covers : List Cover) (pattern : Pattern) (line : TreeLine)
    → LineMeans (PatternComesTo signature rules covers) (IsWrongAtPattern rules covers) pattern line
    (pattern_outcome signature rules covers pattern line)
pattern_means signature rules covers pattern leaf_here = go (some_match rules pattern.term) refl
  where
    go : (b : Bool) → some_match rules pattern.term ≡ b
        → LineMeans (PatternComesTo signature rules covers) (IsWrongAtPattern rules covers) pattern leaf_here
        (if b then comes_to [] else is_wrong not_reducible)
    go true e = ((Decides-some_match rules pattern.term).0 e, refl)
    go false e =
        let never = not_from_Decides (some_match rules pattern.term) (Decides-some_match rules pattern.term) e in
        ((λ rule is match. never (rule, is, match)), refl)
pattern_means signature rules covers pattern (split_pattern path) = go (subterm path pattern.term) refl
  where
    by_cover : (n s : ℕ) → subterm path pattern.term ≡ Some (variable n s) → (o : Option (List ℕ)) → cover_of covers s ≡ o
        → LineMeans (PatternComesTo signature rules covers) (IsWrongAtPattern rules covers) pattern (split_pattern path)
        (split_or signature pattern n s o)
    by_cover n s at None c = inr (n, s, at, c, refl)
    by_cover n s at (Some operations) c = (n, s, operations, at, c, refl)

    no_node : (f n s : ℕ) (ts : Terms) → node f ts ≡ variable n s → ⊥
    no_node f n s ts e = node_not_variable f n s ts e

    go : (o : Option Term) → subterm path pattern.term ≡ o
        → LineMeans (PatternComesTo signature rules covers) (IsWrongAtPattern rules covers) pattern (split_pattern path)
        (part_split signature covers pattern o)
    go None e = inl ((λ n s at. none_and_some (subterm path pattern.term) (variable n s) e at), refl)
    go (Some (variable n s)) e = by_cover n s e (cover_of covers s) refl
    go (Some (node f ts)) e = inl ((λ n s at. no_node f n s ts (same_Some (node f ts) (variable n s) (sym e ∙ at))), refl)

-- ---- uses

pub stands_decided : (proving : Proving) (source : Source) (n : ℕ) → Decides (stands proving source n) (StandsForItself proving source n)
stands_decided proving (by_lemma k) n = ((λ e. absurd (cc e)), (λ h. absurd h))
stands_decided proving (by_hypothesis k) n = ((λ e. leb-true proving.free n e), (λ h. le-leb proving.free n h))

pub masked_fixed : (proving : Proving) (source : Source) (values : Substitution) (n s : ℕ) → StandsForItself proving source n
    → masked proving source values n s ≡ variable n s
masked_fixed proving source values n s h = rw ((stands_decided proving source n).1 h) refl

pub masked_same : (proving : Proving) (source : Source) (values others : Substitution) (n s : ℕ)
    → (StandsForItself proving source n → values n s ≡ variable n s) → values n s ≡ others n s
    → values n s ≡ masked proving source others n s
masked_same proving source values others n s fixed same = go (stands proving source n) refl
  where
    go : (b : Bool) → stands proving source n ≡ b → values n s ≡ (if b then variable n s else others n s)
    go true e = fixed ((stands_decided proving source n).0 e)
    go false e = same

pub is_of : (proving : Proving) (point : Case) (source : Source) (statement : Statement)
    → statement_at proving point source ≡ Some statement → IsOfSource proving point source statement
is_of proving point (by_lemma k) statement e = e
is_of proving point (by_hypothesis k) statement e = e

pub of_is : (proving : Proving) (point : Case) (source : Source) (statement : Statement) → IsOfSource proving point source statement
    → statement_at proving point source ≡ Some statement
of_is proving point (by_lemma k) statement h = h
of_is proving point (by_hypothesis k) statement h = h

-- What a use tells of the statement and of the part that stands at the path.
pub record UseTells (theory : Theory) (proving : Proving) (use_ : Use) (statement : Statement) (part : Term) : Type 0 where
  pub values : Substitution
  pub fixed : (n s : ℕ) → StandsForItself proving use_.source n → values n s ≡ variable n s
  pub sorted : KeepsSorts theory.data_.signature (taken_side use_.direction statement) values
  pub closed : (n s : ℕ) → Occurs n s (placed_side use_.direction statement)
      → StandsForItself proving use_.source n ⊎ Occurs n s (taken_side use_.direction statement)
  pub old : substituted values (taken_side use_.direction statement) ≡ part

pub tells : (theory : Theory) (proving : Proving) (point : Case) (use_ : Use) (result : Statement) (statement : Statement) (part : Term)
    → IsOfSource proving point use_.source statement → subterm use_.path (side_at use_.side point.goal) ≡ Some part
    → IsUsed theory proving point use_ result → UseTells theory proving use_ statement part
tells theory proving point use_ result statement part is at used =
    let same : used.statement ≡ statement = source_once proving point use_.source used.statement statement used.is_there is in
    record {
      values = used.values;
      fixed = used.fixed;
      sorted = subst (λ (st : Statement). KeepsSorts theory.data_.signature (taken_side use_.direction st) used.values) same used.sorted;
      closed = subst (λ (st : Statement). (n s : ℕ) → Occurs n s (placed_side use_.direction st)
          → StandsForItself proving use_.source n ⊎ Occurs n s (taken_side use_.direction st)) same used.closed;
      old = subst (λ (st : Statement). substituted used.values (taken_side use_.direction st) ≡ part) same
          (same_Some (substituted used.values (taken_side use_.direction used.statement)) part (sym used.old ∙ at));
    }

pub told_values : (theory : Theory) (proving : Proving) (use_ : Use) (statement : Statement) (part : Term)
    → (told : UseTells theory proving use_ statement part) → (n s : ℕ) → Occurs n s (taken_side use_.direction statement)
    → told.values n s ≡ candidate proving use_ statement part n s
told_values theory proving use_ statement part told n s o =
    masked_same proving use_.source told.values (matching (taken_side use_.direction statement) part) n s (told.fixed n s)
    (instances_agree told.values (matching (taken_side use_.direction statement) part) (taken_side use_.direction statement)
    (told.old ∙ sym (matching_matches told.values (taken_side use_.direction statement) part told.old)) n s o)

-- The candidate makes a use.
abbrev MatchesWith : Theory → Proving → Use → Statement → Term → Type 0
MatchesWith theory proving use_ statement part =
    ((substituted (candidate proving use_ statement part) (taken_side use_.direction statement) ≡ part)
    × ((n s : ℕ) → Occurs n s (taken_side use_.direction statement)
    → HasSort theory.data_.signature (candidate proving use_ statement part n s) s))
    × ((n s : ℕ) → Occurs n s (placed_side use_.direction statement)
    → StandsForItself proving use_.source n ⊎ Occurs n s (taken_side use_.direction statement))

Decides-matches_with : (theory : Theory) (proving : Proving) (use_ : Use) (statement : Statement) (part : Term)
    → Decides (matches_with theory proving use_ statement part) (MatchesWith theory proving use_ statement part)
Decides-matches_with theory proving use_ statement part =
    Decides-and
    (term_eq (substituted (candidate proving use_ statement part) (taken_side use_.direction statement)) part
    && each_variable (λ n s. has_sort theory.data_.signature (candidate proving use_ statement part n s) s)
    (taken_side use_.direction statement))
    (each_variable (λ n s. stands proving use_.source n || occurs n s (taken_side use_.direction statement))
    (placed_side use_.direction statement))
    (Decides-and (term_eq (substituted (candidate proving use_ statement part) (taken_side use_.direction statement)) part)
    (each_variable (λ n s. has_sort theory.data_.signature (candidate proving use_ statement part n s) s)
    (taken_side use_.direction statement))
    (Decides-term_eq (substituted (candidate proving use_ statement part) (taken_side use_.direction statement)) part)
    (Decides-each (λ n s. HasSort theory.data_.signature (candidate proving use_ statement part n s) s)
    (λ n s. has_sort theory.data_.signature (candidate proving use_ statement part n s) s)
    (λ n s. Decides-has_sort theory.data_.signature (candidate proving use_ statement part n s) s)
    (taken_side use_.direction statement)))
    (Decides-each (λ n s. StandsForItself proving use_.source n ⊎ Occurs n s (taken_side use_.direction statement))
    (λ n s. stands proving use_.source n || occurs n s (taken_side use_.direction statement))
    (λ n s. Decides-or (stands proving use_.source n) (occurs n s (taken_side use_.direction statement))
    (stands_decided proving use_.source n) (Decides-occurs n s (taken_side use_.direction statement)))
    (placed_side use_.direction statement))

-- what a use tells makes the candidate match
told_matches : (theory : Theory) (proving : Proving) (use_ : Use) (statement : Statement) (part : Term)
    → UseTells theory proving use_ statement part → MatchesWith theory proving use_ statement part
told_matches theory proving use_ statement part told = (
  (
    sym (substituted_agree told.values (candidate proving use_ statement part) (taken_side use_.direction statement)
        (told_values theory proving use_ statement part told)) ∙ told.old,
    (λ n s o. subst (λ (t : Term). HasSort theory.data_.signature t s) (told_values theory proving use_ statement part told n s o)
        (told.sorted n s o)),
  ),
  told.closed,
)

-- What it means that a use has this result, or none.
abbrev UseMeans : Theory → Proving → Case → Use → Option Statement → Type 0
UseMeans theory proving point use_ None = (result : Statement) → ¬ IsUsed theory proving point use_ result
UseMeans theory proving point use_ (Some result) = IsUsed theory proving point use_ result

use_means : (theory : Theory) (proving : Proving) (point : Case) (use_ : Use)
    → UseMeans theory proving point use_ (use_result theory proving point use_)
use_means theory proving point use_ = by_source (statement_at proving point use_.source) refl
  where
    by_put : (statement : Statement) → IsOfSource proving point use_.source statement → (part : Term)
        → subterm use_.path (side_at use_.side point.goal) ≡ Some part → MatchesWith theory proving use_ statement part
        → (o : Option Term)
        → put_at use_.path (substituted (candidate proving use_ statement part) (placed_side use_.direction statement))
        (side_at use_.side point.goal) ≡ o
        → UseMeans theory proving point use_ (option_map (λ (after : Term). with_side use_.side after point.goal) o)
    by_put statement is part at match None e =
        let put = put_at_possible use_.path
        (substituted (candidate proving use_ statement part) (placed_side use_.direction statement)) (side_at use_.side point.goal)
        part at in
        absurd (none_and_some (put_at use_.path
        (substituted (candidate proving use_ statement part) (placed_side use_.direction statement)) (side_at use_.side point.goal))
        put.0 e put.1)
    by_put statement is part at match (Some after) e = record {
      statement = statement;
      is_there = is;
      values = candidate proving use_ statement part;
      fixed = λ n s h. masked_fixed proving use_.source (matching (taken_side use_.direction statement) part) n s h;
      sorted = match.0.1;
      closed = match.1;
      old = at ∙ ap (λ (t : Term). Some t) (sym match.0.0);
      after = after;
      new = e;
      is_result = refl;
    }

    by_match : (statement : Statement) → IsOfSource proving point use_.source statement → (part : Term)
        → subterm use_.path (side_at use_.side point.goal) ≡ Some part → (b : Bool)
        → matches_with theory proving use_ statement part ≡ b
        → UseMeans theory proving point use_ (if b
        then option_map (λ (after : Term). with_side use_.side after point.goal)
        (put_at use_.path (substituted (candidate proving use_ statement part) (placed_side use_.direction statement))
        (side_at use_.side point.goal))
        else None)
    by_match statement is part at true e =
        by_put statement is part at ((Decides-matches_with theory proving use_ statement part).0 e)
        (put_at use_.path (substituted (candidate proving use_ statement part) (placed_side use_.direction statement))
        (side_at use_.side point.goal)) refl
    by_match statement is part at false e = λ result used.
        not_from_Decides (matches_with theory proving use_ statement part) (Decides-matches_with theory proving use_ statement part) e
        (told_matches theory proving use_ statement part (tells theory proving point use_ result statement part is at used))

    by_part : (statement : Statement) → IsOfSource proving point use_.source statement → (o : Option Term)
        → subterm use_.path (side_at use_.side point.goal) ≡ o
        → UseMeans theory proving point use_
        (option_and_then (λ (part : Term). used_at theory proving point use_ statement part) o)
    by_part statement is None e = λ result used.
        none_and_some (subterm use_.path (side_at use_.side point.goal))
        (substituted used.values (taken_side use_.direction used.statement)) e used.old
    by_part statement is (Some part) e = by_match statement is part e (matches_with theory proving use_ statement part) refl

    by_source : (o : Option Statement) → statement_at proving point use_.source ≡ o
        → UseMeans theory proving point use_
        (option_and_then (λ (statement : Statement).
        option_and_then (λ (part : Term). used_at theory proving point use_ statement part)
        (subterm use_.path (side_at use_.side point.goal))) o)
    by_source None e = λ result used.
        none_and_some (statement_at proving point use_.source) used.statement e
        (of_is proving point use_.source used.statement used.is_there)
    by_source (Some statement) e =
        by_part statement (is_of proving point use_.source statement e) (subterm use_.path (side_at use_.side point.goal)) refl

-- ---- lines of proofs

pub case_means : (theory : Theory) (covers : List Cover) (proving : Proving) (point : Case) (line : ProofLine)
    → LineMeans (CaseComesTo theory covers proving) (IsWrongAtCase theory covers proving) point line
    (case_outcome theory covers proving point line)
case_means theory covers proving point same_sides = go (term_eq point.goal.left point.goal.right) refl
  where
    go : (b : Bool) → term_eq point.goal.left point.goal.right ≡ b
        → LineMeans (CaseComesTo theory covers proving) (IsWrongAtCase theory covers proving) point same_sides
        (if b then comes_to [] else is_wrong (not_same point.goal))
    go true e = ((Decides-term_eq point.goal.left point.goal.right).0 e, refl)
    go false e =
        (not_from_Decides (term_eq point.goal.left point.goal.right) (Decides-term_eq point.goal.left point.goal.right) e, refl)
case_means theory covers proving point (use_it use_) = go (use_result theory proving point use_) (use_means theory proving point use_)
  where
    go : (o : Option Statement) → UseMeans theory proving point use_ o
        → LineMeans (CaseComesTo theory covers proving) (IsWrongAtCase theory covers proving) point (use_it use_) (use_or theory point o)
    go None means = (means, refl)
    go (Some result) means = (result, means, refl)
case_means theory covers proving point (split_variable n) = by_number (slice_get point.sorts n) refl
  where
    by_cover : (s : ℕ) → slice_get point.sorts n ≡ Some s → is_listed point.gone n ≡ false → (o : Option (List ℕ))
        → cover_of covers s ≡ o
        → LineMeans (CaseComesTo theory covers proving) (IsWrongAtCase theory covers proving) point (split_variable n)
        (cases_or theory proving point n s o)
    by_cover s at here None c = inr (s, (at, here), c, refl)
    by_cover s at here (Some operations) c = (s, operations, (at, here), c, refl)

    not_both : is_listed point.gone n ≡ true → is_listed point.gone n ≡ false → ⊥
    not_both e h = let differ : true ≡ false = sym e ∙ h in absurd (cc differ)

    by_scope : (s : ℕ) → slice_get point.sorts n ≡ Some s → (b : Bool) → is_listed point.gone n ≡ b
        → LineMeans (CaseComesTo theory covers proving) (IsWrongAtCase theory covers proving) point (split_variable n)
        (if b then is_wrong no_variable else cases_or theory proving point n s (cover_of covers s))
    by_scope s at true e = inl ((λ r scope. not_both e scope.1), refl)
    by_scope s at false e = by_cover s at e (cover_of covers s) refl

    by_number : (o : Option ℕ) → slice_get point.sorts n ≡ o
        → LineMeans (CaseComesTo theory covers proving) (IsWrongAtCase theory covers proving) point (split_variable n)
        (scope_split theory covers proving point n o)
    by_number None e = inl ((λ s scope. none_and_some (slice_get point.sorts n) s e scope.0), refl)
    by_number (Some s) e = by_scope s e (is_listed point.gone n) refl

-- ---- all lines

-- What it means that lines fail there, or nowhere.
abbrev pub DealMeans : {X L : Type 0} → (X → L → List X → Type 0) → (X → L → InductionFault → Type 0) → List X → List L
    → Found → Type 0
DealMeans ComesTo IsWrong xs lines None = DealsWith ComesTo xs lines
DealMeans ComesTo IsWrong xs lines (Some at) = FailsToDeal ComesTo IsWrong bad_line xs lines at.0 at.1

pub deals_means : {X L : Type 0} (ComesTo : X → L → List X → Type 0) (IsWrong : X → L → InductionFault → Type 0)
    (outcome_of : X → L → LineOutcome X) → ((x : X) (line : L) → LineMeans ComesTo IsWrong x line (outcome_of x line))
    → (xs : List X) (lines : List L) → DealMeans ComesTo IsWrong xs lines (first_failing outcome_of xs lines)
deals_means ComesTo IsWrong outcome_of means [] [] = nothing_left
deals_means ComesTo IsWrong outcome_of means [] (line ∷ lines) = line_surplus refl
deals_means ComesTo IsWrong outcome_of means (x ∷ xs) [] = line_missing refl
deals_means {X = X} ComesTo IsWrong outcome_of means (x ∷ xs) (line ∷ lines) =
    go (outcome_of x line) (means x line) (λ parts. deals_means ComesTo IsWrong outcome_of means (parts ++ xs) lines)
  where
    later : (parts : List X) → ComesTo x line parts → (found : Found) → DealMeans ComesTo IsWrong (parts ++ xs) lines found
        → DealMeans ComesTo IsWrong (x ∷ xs) (line ∷ lines) (one_later found)
    later parts comes None rest = line_then comes rest
    later parts comes (Some at) rest = line_later comes rest

    go : (o : LineOutcome X) → LineMeans ComesTo IsWrong x line o
        → ((parts : List X) → DealMeans ComesTo IsWrong (parts ++ xs) lines (first_failing outcome_of (parts ++ xs) lines))
        → DealMeans ComesTo IsWrong (x ∷ xs) (line ∷ lines) (go_on o (λ parts. first_failing outcome_of (parts ++ xs) lines))
    go (comes_to parts) comes rest = later parts comes (first_failing outcome_of (parts ++ xs) lines) (rest parts)
    go (is_wrong fault) wrong rest = line_wrong wrong
