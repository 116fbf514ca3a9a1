-- The index of rules by the operations in their left sides.
use Rattle.std.proofs.Common.{◌≡◌, ℕ, suc, ◌+◌, ◌<◌, ◌≤◌, List, [], ◌∷◌, ◌++◌, length, get_or, drop, Bool, ap, sym, ◌∙◌, subst, arith, append_assoc, append-nil}
use Rattle.std.specs.Prelude.{if◌then◌else◌}
use Rattle.std.proofs.Math.ListN.{drop_of_length-le}
use Rattle.std.proofs.Math.Seq.{drop-cons}
use Rattle.std.proofs.lemmas.List.{length-map}
use Rattle.std.proofs.lemmas.Option.{slice_get_within}
use Rattle.lotos_base.specs.Signature.{Signature}
use Rattle.lotos_base.specs.Term.{Term}
use Rattle.sort_terms.specs.Operations.{operation_of}
use Rattle.sort_terms.specs.ProfiledTerm.{ProfiledTerm, ProfiledTerms, profiled_variable, profiled_node, no_profiled_terms, profiled_term_then, bare, all_bare, IsOf, AreOf}
use Rattle.sort_terms.specs.SortedView.{term_in}
use Rattle.path_order.specs.RuleView.{plain_rules}
use Rattle.path_order.specs.RulesView.{signature_in}
use Rattle.path_order.specs.RuleSides.{sides_of}
use Rattle.path_order.specs.declared.rule.Rule.{Rule}
use Rattle.path_order.specs.declared.rules.Rules.{Rules}
use Rattle.term_rewriter.specs.FirstHead.{first_head, numbered_where}
use Rattle.term_rewriter.specs.FirstIndexView.{IsBelowNumber, IsKeyBelow}
use Rattle.term_rewriter.proofs.FirstLemmas.{at_index, rule_over}

-- one rule more
pub where_more : (test : Term → Bool) (i : ℕ) (xs : List Rule) (x : Rule) (before after whole : List ℕ) → i < length xs → x ≡ get_or xs i x
    → after ≡ before ++ (if test (term_in x.left) then i ∷ [] else [])
    → before ++ numbered_where test i (plain_rules (drop i xs)) ≡ whole
    → after ++ numbered_where test (i + 1) (plain_rules (drop (i + 1) xs)) ≡ whole
where_more test i xs x before after whole within is added so_far =
    let next : suc i ≡ i + 1 = omega arith in
    let opened : drop i xs ≡ x ∷ drop (i + 1) xs =
    drop-cons xs i x within ∙ (λ j. sym is j ∷ drop (next j) xs) in
    ap (λ (ns : List ℕ). ns ++ numbered_where test (i + 1) (plain_rules (drop (i + 1) xs))) added
    ∙ append_assoc before (if test (term_in x.left) then i ∷ [] else []) (numbered_where test (i + 1) (plain_rules (drop (i + 1) xs)))
    ∙ ap (λ (n : ℕ). before ++ ((if test (term_in x.left) then i ∷ [] else []) ++ numbered_where test n (plain_rules (drop (i + 1) xs))))
    (sym next)
    ∙ ap (λ (ys : List Rule). before ++ numbered_where test i (plain_rules ys)) (sym opened)
    ∙ so_far

-- and all of them
pub where_end : (test : Term → Bool) (n : ℕ) (xs : List Rule) (have whole : List ℕ) → length xs ≤ n
    → have ++ numbered_where test n (plain_rules (drop n xs)) ≡ whole → have ≡ whole
where_end test n xs have whole past so_far =
    sym (append-nil have) ∙ ap (λ (ys : List Rule). have ++ numbered_where test n (plain_rules ys)) (sym (drop_of_length-le xs past))
    ∙ so_far

-- the operations of a term of a signature are below the number of its operations
first_below : (signature : Signature) (ts : ProfiledTerms) → AreOf signature ts
    → IsBelowNumber (length signature.operations) (first_head (all_bare ts))
first_below signature no_profiled_terms h = tt
first_below signature (profiled_term_then (profiled_variable n s) ts) h = tt
first_below signature (profiled_term_then (profiled_node g operation us) ts) h =
    slice_get_within signature.operations g operation h.0.0

key_below : (signature : Signature) (t : ProfiledTerm) → IsOf signature t → IsKeyBelow (length signature.operations) (bare t)
key_below signature (profiled_variable n s) h = tt
key_below signature (profiled_node f operation ts) h =
    (slice_get_within signature.operations f operation h.0, first_below signature ts h.1)

pub rule_key_below : (rules : Rules) (i : ℕ) (x : Rule) → i < length rules.rules.items → x ≡ get_or rules.rules.items i x
    → IsKeyBelow (length rules.signature.ops.items) (term_in x.left)
rule_key_below rules i x within is =
    subst (λ (n : ℕ). IsKeyBelow n (term_in x.left)) (length-map rules.signature.ops.items operation_of)
    (key_below (signature_in rules) (sides_of x).left (rule_over rules i x (at_index rules.rules.items i x within is)).left_is_of)
