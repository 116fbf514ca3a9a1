-- What the first rule that matches a term makes of it, by numbers.
use Rattle.std.proofs.Common.{◌≡◌, ◌<◌, ℕ, List, length, Option, None, Some, ap, sym, ◌∙◌, subst}
use Rattle.std.specs.Prelude.{slice_get, MatchOption}
use Rattle.std.proofs.lemmas.Option.{same_Some}
use Rattle.rewriting_theory.specs.Rule.{Rule as PlainRule}
use Rattle.rewriting_theory.specs.Matching.{Matches, FirstStep}
use Rattle.sort_terms.specs.ProfiledTerm.{bare, IsOf}
use Rattle.sort_terms.specs.SortedView.{profiled_in}
use Rattle.sort_terms.specs.TermView.{profiled_of}
use Rattle.sort_terms.specs.declared.terms.Term.{Term}
use Rattle.path_order.specs.RulesView.{signature_in, plain_rules_in}
use Rattle.path_order.specs.declared.rule.Rule.{Rule}
use Rattle.path_order.specs.declared.rules.Rules.{Rules}
use Rattle.term_rewriter.proofs.FirstLemmas.{code_at}
use Rattle.term_rewriter.proofs.FormLemmas.{first_step, right_is_of}
use Rattle.term_rewriter.specs.Form.{by_pairs}
use Rattle.term_store.specs.Cells.{HaveTermsOf}
use Rattle.term_store.specs.FirstRule.{NoRule, IsFirstRuleAt}
use Rattle.term_store.specs.Numbered.{term_at, numbered_pairs, TakesIn, IsInstanceOf, numbered_substitution}
use Rattle.term_store.specs.Turns.{CannotStep, StepsTo}
use Rattle.term_store.proofs.CellLemmas.{grown_stays}

pub no_step : (rules : Rules) (keys : List (List ℕ)) (n : ℕ) (pairs : List (ℕ × ℕ)) (o : Option ℕ) → o ≡ None
    → MatchOption o (NoRule rules keys n) (λ rule. IsFirstRuleAt rules keys n rule pairs) → CannotStep rules keys n
no_step rules keys n pairs (Some found) is none = cc
no_step rules keys n pairs None is none = λ rule there.
    let from = code_at rules.rules.items there.0 rule there.1 in
    subst (λ (r : PlainRule). ¬ Matches r.left (bare (term_at (signature_in rules) keys n))) from.2 (none there.0 from.0 from.1)

pub found_rule : (rules : Rules) (keys : List (List ℕ)) (n number : ℕ) (pairs : List (ℕ × ℕ)) (o : Option ℕ) → o ≡ Some number
    → MatchOption o (NoRule rules keys n) (λ rule. IsFirstRuleAt rules keys n rule pairs) → IsFirstRuleAt rules keys n number pairs
found_rule rules keys n number pairs None is first = cc
found_rule rules keys n number pairs (Some found) is first =
    subst (λ (rule : ℕ). IsFirstRuleAt rules keys n rule pairs) (same_Some found number is) first

-- the terms that are there once the instance of the right side is
pub right_kept : (rules : Rules) (before after : List (List ℕ)) (number : ℕ) (rule : Rule) (right : Term)
    → slice_get rules.rules.items number ≡ Some rule → right ≡ rule.right.term → TakesIn (profiled_of right) before after
    → HaveTermsOf (signature_in rules) before → HaveTermsOf (signature_in rules) after
right_kept rules before after number rule right is same takes have =
    takes.have (signature_in rules)
    (subst (λ (t : Term). IsOf (signature_in rules) (profiled_of t)) (sym same) (right_is_of rules number rule is)) have

pub right_made : (rules : Rules) (before after : List (List ℕ)) (n number next : ℕ) (pairs : List (ℕ × ℕ)) (rule : Rule) (right : Term)
    → HaveTermsOf (signature_in rules) before → n < length before → IsFirstRuleAt rules before n number pairs
    → slice_get rules.rules.items number ≡ Some rule → right ≡ rule.right.term → TakesIn (profiled_of right) before after
    → IsInstanceOf (numbered_substitution pairs before) (profiled_of right) before after next → StepsTo rules after n next
right_made rules before after n number next pairs rule right have inside it is same takes made =
    let signature = signature_in rules in
    let first = it.is_first in
    let one : first.rule ≡ rule = same_Some first.rule rule (sym first.is_at ∙ is) in
    let of : IsOf signature (profiled_of right) =
    subst (λ (t : Term). IsOf signature (profiled_of t)) (sym same) (right_is_of rules number rule is) in
    let there : right ≡ first.rule.right.term = same ∙ ap (λ (r : Rule). r.right.term) (sym one) in
    let result : bare (by_pairs (numbered_pairs signature before pairs) (profiled_in first.rule.right))
    ≡ bare (term_at signature after next) =
    ap (λ (t : Term). bare (by_pairs (numbered_pairs signature before pairs) (profiled_of t))) (sym there)
    ∙ ap bare (sym (made.term signature of have)) in
    let step = first_step rules (term_at signature before n) number (numbered_pairs signature before pairs) first in
    let stays : bare (term_at signature before n) ≡ bare (term_at signature after n) =
    ap bare (sym (grown_stays signature before after n takes.grows inside)) in
    record {
      within = made.within;
      first = subst (λ t. FirstStep (plain_rules_in rules) t (bare (term_at signature after next))) stays
          (subst (λ t. FirstStep (plain_rules_in rules) (bare (term_at signature before n)) t) result step);
    }
