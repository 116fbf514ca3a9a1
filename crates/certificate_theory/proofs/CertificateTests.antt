-- Tests that compute: what a line comes to, where the lines of a tree or of a proof fail, and the first fault of a certificate.
use Rattle.std.specs.Prelude.{ℕ, zero, suc, ◌+◌, ◌&&◌, ◌||◌, not, Bool, true, false, List, [], ◌∷◌, ◌++◌, Option, None, Some, length, slice_get, nat_eq, nat_lt, nat_le, if◌then◌else◌}
use Rattle.std.specs.Option.{option_map, option_and_then}
use Rattle.lotos_base.specs.Signature.{Signature, Operation}
use Rattle.lotos_base.specs.Term.{Term, variable, node, Terms, no_terms, term_then}
use Rattle.lotos_base.specs.Path.{subterm, put_at}
use Rattle.lotos_base.specs.Substitution.{Substitution, substituted, is_listed}
use Rattle.lotos_base.specs.Tests.{term_eq, occurs}
use Rattle.rewriting_theory.specs.Rule.{Rule}
use Rattle.rewriting_theory.proofs.MatchLemmas.{matching}
use Rattle.certificate_theory.specs.InductionCertificate.{Cover, TreeLine, split_pattern, leaf_here, PatternTree, Statement, Source, by_lemma, by_hypothesis, Use, ProofLine, split_variable, use_it, same_sides, Lemma, Certificate}
use Rattle.certificate_theory.specs.Covers.{cover_of}
use Rattle.certificate_theory.specs.Faults.{InductionFault, bad_line, no_variable, no_cover, no_tree, not_reducible, bad_use, not_same}
use Rattle.certificate_theory.specs.Patterns.{Pattern, first_pattern, split_patterns}
use Rattle.certificate_theory.specs.Splits.{Theory, Case, Proving, cases_of_split, with_goal, first_case}
use Rattle.certificate_theory.specs.Uses.{taken_side, placed_side, side_at, with_side}
use Rattle.certificate_theory.specs.Certified.{with_trees, proving_of, lines_of_cover, lines_of_tree, lines_of_lemma, lines_of_trees}

-- ---- sorts and variables

abbrev pub with_profile : Option Operation → ℕ → (List ℕ → Bool) → Bool
with_profile None s have = false
with_profile (Some o) s have = nat_eq o.result s && have o.arguments

abbrev mutual
  -- Whether the term has the sort.
  pub has_sort : Signature → Term → ℕ → Bool
  has_sort signature (variable n q) s = nat_eq q s && nat_lt q (length signature.sorts)
  has_sort signature (node f ts) s = with_profile (slice_get signature.operations f) s (λ ss. have_sorts signature ts ss)

  pub have_sorts : Signature → Terms → List ℕ → Bool
  have_sorts signature no_terms [] = true
  have_sorts signature no_terms (s ∷ ss) = false
  have_sorts signature (term_then t ts) [] = false
  have_sorts signature (term_then t ts) (s ∷ ss) = has_sort signature t s && have_sorts signature ts ss

abbrev mutual
  -- Whether the test is true of each variable that occurs in the term.
  pub each_variable : (ℕ → ℕ → Bool) → Term → Bool
  each_variable test (variable n s) = test n s
  each_variable test (node f ts) = each_variable_among test ts

  pub each_variable_among : (ℕ → ℕ → Bool) → Terms → Bool
  each_variable_among test no_terms = true
  each_variable_among test (term_then t ts) = each_variable test t && each_variable_among test ts

-- ---- lines

-- What a line comes to, or what is wrong with it.
pub data LineOutcome (X : Type 0) : Type 0 where
  comes_to : List X → LineOutcome X
  is_wrong : InductionFault → LineOutcome X

-- Whether the left side of some rule matches the term.
abbrev pub some_match : List Rule → Term → Bool
some_match [] t = false
some_match (rule ∷ rules) t = term_eq (substituted (matching rule.left t) rule.left) t || some_match rules t

abbrev pub split_or : Signature → Pattern → ℕ → ℕ → Option (List ℕ) → LineOutcome Pattern
split_or signature pattern n s None = is_wrong no_cover
split_or signature pattern n s (Some operations) = comes_to (split_patterns signature pattern n s operations)

abbrev pub part_split : Signature → List Cover → Pattern → Option Term → LineOutcome Pattern
part_split signature covers pattern None = is_wrong no_variable
part_split signature covers pattern (Some (variable n s)) = split_or signature pattern n s (cover_of covers s)
part_split signature covers pattern (Some (node f ts)) = is_wrong no_variable

-- What a line of a tree comes to.
abbrev pub pattern_outcome : Signature → List Rule → List Cover → Pattern → TreeLine → LineOutcome Pattern
pattern_outcome signature rules covers pattern leaf_here =
    if some_match rules pattern.term then comes_to [] else is_wrong not_reducible
pattern_outcome signature rules covers pattern (split_pattern path) =
    part_split signature covers pattern (subterm path pattern.term)

-- Whether a variable stands for itself in what is used.
abbrev pub stands : Proving → Source → ℕ → Bool
stands proving (by_lemma k) n = false
stands proving (by_hypothesis k) n = nat_le proving.free n

-- The values with each variable that stands for itself at itself.
abbrev pub masked : Proving → Source → Substitution → Substitution
masked proving source values n s = if stands proving source n then variable n s else values n s

-- The one candidate for the values of a use.
abbrev pub candidate : Proving → Use → Statement → Term → Substitution
candidate proving use_ statement part n s = masked proving use_.source (matching (taken_side use_.direction statement) part) n s

-- The lemma or hypothesis with the number, if it is there.
abbrev pub statement_at : Proving → Case → Source → Option Statement
statement_at proving point (by_lemma k) = slice_get proving.earlier k
statement_at proving point (by_hypothesis k) = slice_get point.hypotheses k

-- Whether the candidate makes a use.
abbrev pub matches_with : Theory → Proving → Use → Statement → Term → Bool
matches_with theory proving use_ statement part =
    (term_eq (substituted (candidate proving use_ statement part) (taken_side use_.direction statement)) part
    && each_variable (λ n s. has_sort theory.data_.signature (candidate proving use_ statement part n s) s)
    (taken_side use_.direction statement))
    && each_variable (λ n s. stands proving use_.source n || occurs n s (taken_side use_.direction statement))
    (placed_side use_.direction statement)

abbrev pub used_at : Theory → Proving → Case → Use → Statement → Term → Option Statement
used_at theory proving point use_ statement part =
    if matches_with theory proving use_ statement part
    then option_map (λ (after : Term). with_side use_.side after point.goal)
    (put_at use_.path (substituted (candidate proving use_ statement part) (placed_side use_.direction statement))
    (side_at use_.side point.goal))
    else None

-- The goal that a use makes, if it has a result.
abbrev pub use_result : Theory → Proving → Case → Use → Option Statement
use_result theory proving point use_ =
    option_and_then (λ (statement : Statement).
    option_and_then (λ (part : Term). used_at theory proving point use_ statement part) (subterm use_.path (side_at use_.side point.goal)))
    (statement_at proving point use_.source)

abbrev pub use_or : Theory → Case → Option Statement → LineOutcome Case
use_or theory point None = is_wrong bad_use
use_or theory point (Some result) = comes_to (with_goal theory point result ∷ [])

abbrev pub cases_or : Theory → Proving → Case → ℕ → ℕ → Option (List ℕ) → LineOutcome Case
cases_or theory proving point n s None = is_wrong no_cover
cases_or theory proving point n s (Some operations) = comes_to (cases_of_split theory proving point n s operations)

abbrev pub scope_split : Theory → List Cover → Proving → Case → ℕ → Option ℕ → LineOutcome Case
scope_split theory covers proving point n None = is_wrong no_variable
scope_split theory covers proving point n (Some s) =
    if is_listed point.gone n then is_wrong no_variable else cases_or theory proving point n s (cover_of covers s)

-- What a line of a proof comes to.
abbrev pub case_outcome : Theory → List Cover → Proving → Case → ProofLine → LineOutcome Case
case_outcome theory covers proving point same_sides =
    if term_eq point.goal.left point.goal.right then comes_to [] else is_wrong (not_same point.goal)
case_outcome theory covers proving point (use_it use_) = use_or theory point (use_result theory proving point use_)
case_outcome theory covers proving point (split_variable n) =
    scope_split theory covers proving point n (slice_get point.sorts n)

-- A fault at a line, or none.
abbrev pub Found : Type 0
Found = Option (ℕ × InductionFault)

abbrev pub one_later : Found → Found
one_later None = None
one_later (Some at) = Some (suc at.0, at.1)

abbrev pub go_on : {X : Type 0} → LineOutcome X → (List X → Found) → Found
go_on (comes_to parts) rest = one_later (rest parts)
go_on (is_wrong fault) rest = Some (zero, fault)

-- Where the lines fail to deal with what is left.
abbrev pub first_failing : {X L : Type 0} → (X → L → LineOutcome X) → List X → List L → Found
first_failing outcome_of [] [] = None
first_failing outcome_of [] (line ∷ lines) = Some (zero, bad_line)
first_failing outcome_of (x ∷ xs) [] = Some (zero, bad_line)
first_failing outcome_of (x ∷ xs) (line ∷ lines) = go_on (outcome_of x line) (λ parts. first_failing outcome_of (parts ++ xs) lines)

-- ---- things one after another

abbrev pub or_else : ℕ → Found → Found → Found
or_else begin None rest = rest
or_else begin (Some at) rest = Some (begin + at.0, at.1)

-- The first thing that is wrong, where the test says of each what is wrong behind those before it.
abbrev pub first_wrong : {X : Type 0} → (List X → X → Found) → (X → ℕ) → ℕ → List X → List X → Found
first_wrong judge length_of begin earlier [] = None
first_wrong judge length_of begin earlier (x ∷ xs) =
    or_else begin (judge earlier x) (first_wrong judge length_of (begin + length_of x) (earlier ++ x ∷ []) xs)

abbrev pub is_none_yet : Option (List ℕ) → Bool
is_none_yet None = true
is_none_yet (Some operations) = false

abbrev pub result_is : ℕ → Option Operation → Bool
result_is sort None = false
result_is sort (Some o) = nat_eq o.result sort

-- Whether each operation has the sort as result, and whether each number is listed once.
abbrev pub all_results : Signature → ℕ → List ℕ → Bool
all_results signature sort [] = true
all_results signature sort (f ∷ fs) = result_is sort (slice_get signature.operations f) && all_results signature sort fs

abbrev pub all_once : List ℕ → Bool
all_once [] = true
all_once (f ∷ fs) = not (is_listed fs f) && all_once fs

abbrev pub is_right_cover : Signature → List Cover → Cover → Bool
is_right_cover signature earlier cover =
    (is_none_yet (cover_of earlier cover.sort) && all_results signature cover.sort cover.operations) && all_once cover.operations

abbrev pub cover_found_wrong : Signature → List Cover → Cover → Found
cover_found_wrong signature earlier cover = if is_right_cover signature earlier cover then None else Some (zero, bad_line)

abbrev pub lines_of_operation : Theory → List Cover → PatternTree → Option Operation → Found
lines_of_operation theory covers tree None = Some (zero, bad_line)
lines_of_operation theory covers tree (Some operation) =
    one_later (first_failing (pattern_outcome theory.data_.signature theory.rules covers)
    (first_pattern (record { number = tree.operation; operation = operation }) ∷ []) tree.lines)

abbrev pub tree_found_wrong : Theory → List Cover → List PatternTree → PatternTree → Found
tree_found_wrong theory covers earlier tree =
    if is_listed (with_trees earlier) tree.operation
    then Some (zero, bad_line)
    else lines_of_operation theory covers tree (slice_get theory.data_.signature.operations tree.operation)

abbrev pub three_later : Found → Found
three_later None = None
three_later (Some at) = Some (3 + at.0, at.1)

abbrev pub lemma_found_wrong : Theory → List Cover → List Lemma → Lemma → Found
lemma_found_wrong theory covers earlier lemma =
    three_later (first_failing (case_outcome theory covers (proving_of earlier lemma)) (first_case theory lemma ∷ []) lemma.lines)

-- ---- operations without a tree

abbrev pub first_or : (ℕ → Bool) → ℕ → Option ℕ → Option ℕ
first_or test n (Some f) = Some f
first_or test n None = if test n then Some n else None

-- The first number below a bound of which the test is true.
abbrev pub first_below : (ℕ → Bool) → ℕ → Option ℕ
first_below test zero = None
first_below test (suc n) = first_or test n (first_below test n)

abbrev pub lacks_with : List PatternTree → Cover → ℕ → Option Operation → Bool
lacks_with trees cover f None = false
lacks_with trees cover f (Some o) =
    (nat_eq o.result cover.sort && not (is_listed cover.operations f)) && not (is_listed (with_trees trees) f)

abbrev pub lacks_tree : Signature → List PatternTree → Cover → ℕ → Bool
lacks_tree signature trees cover f = lacks_with trees cover f (slice_get signature.operations f)

abbrev pub first_lacking : Signature → List PatternTree → Cover → Option ℕ
first_lacking signature trees cover = first_below (lacks_tree signature trees cover) (length signature.operations)

abbrev pub lack_or : ℕ → Option ℕ → Option (ℕ × ℕ) → Option (ℕ × ℕ)
lack_or i (Some f) rest = Some (i, f)
lack_or i None rest = rest

-- The first cover that lacks a tree, from this index on, with the first operation.
abbrev pub first_lack : Signature → List PatternTree → ℕ → List Cover → Option (ℕ × ℕ)
first_lack signature trees i [] = None
first_lack signature trees i (cover ∷ covers) = lack_or i (first_lacking signature trees cover) (first_lack signature trees (suc i) covers)

-- ---- certificates

abbrev pub then_look : Found → Found → Found
then_look None rest = rest
then_look (Some at) rest = Some at

abbrev pub of_lack : Option (ℕ × ℕ) → Found
of_lack None = None
of_lack (Some at) = Some (suc at.0, no_tree at.1)

-- The first fault of a certificate.
abbrev pub certificate_found_wrong : Theory → Certificate → Found
certificate_found_wrong theory certificate =
    then_look
    (first_wrong (cover_found_wrong theory.data_.signature) lines_of_cover 1 [] certificate.covers)
    (then_look
    (first_wrong (tree_found_wrong theory certificate.covers) lines_of_tree (1 + length certificate.covers) [] certificate.trees)
    (then_look (of_lack (first_lack theory.data_.signature certificate.trees zero certificate.covers))
    (first_wrong (lemma_found_wrong theory certificate.covers) lines_of_lemma
    (1 + length certificate.covers + lines_of_trees certificate.trees) [] certificate.lemmas)))
