use Rattle.std.proofs.Common.{◌≡◌, ℕ, List, ap, ◌∙◌, subst}
use Rattle.std.proofs.lemmas.Result.{IfOk-weaker}
use Rattle.sort_terms.specs.TermView.{term_of}
use Rattle.term_match.specs.Appearance.{appearances, noted}
use Rattle.term_match.specs.NewNumbers.{AreFresh}
use Rattle.rewriting_theory.specs.Numbering.{variable_numbers}
use Rattle.term_match.proofs.NumberLemmas.{fresh_clear}
use Rattle.term_match.proofs.numbers.apart.Goals as goal

pub returns : goal.returns
returns c =
    let taken : c.as_slice.result.now ≡ appearances (term_of c.args.first.now) =
    c.as_slice.ensures.value ∙ c.in_ok-taken.ensures
    ∙ ap (λ (seen : List ℕ). noted seen (variable_numbers (term_of c.args.first.now))) c.new.ensures.items in
    let own : c.as_slice-2.result.now ≡ appearances (term_of c.args.second.now) =
    c.as_slice-2.ensures.value ∙ c.in_ok-own.ensures
    ∙ ap (λ (seen : List ℕ). noted seen (variable_numbers (term_of c.args.second.now))) c.new-2.ensures.items in
    IfOk-weaker c.fresh.result _ _
    (λ pairs fresh.
    fresh_clear (term_of c.args.first.now) (term_of c.args.second.now) pairs.items
    (subst (λ (ns : List ℕ). AreFresh ns (appearances (term_of c.args.second.now)) pairs.items) taken
    (subst (λ (ns : List ℕ). AreFresh c.as_slice.result.now ns pairs.items) own fresh)))
    c.fresh.ensures
