use Rattle.std.proofs.Common.{◌≡◌, ℕ, List, ap, sym, ◌∙◌, subst}
use Rattle.std.proofs.lemmas.Result.{IfOk-weaker}
use Rattle.sort_terms.specs.TermView.{term_of}
use Rattle.term_match.specs.Appearance.{appearances, counted, noted}
use Rattle.rewriting_theory.specs.Numbering.{variable_numbers}
use Rattle.term_match.specs.NewNumbers.{IsByFirstAppearance}
use Rattle.term_match.specs.Renumbering.{new_number}
use Rattle.term_match.proofs.AppearanceLemmas.{positions_number}
use Rattle.term_match.proofs.numbers.by_appearance.Goals as goal

pub returns : goal.returns
returns c =
    let seen : c.as_slice.result.now ≡ appearances (term_of c.args.term.now) =
    c.as_slice.ensures.value ∙ c.in_ok-seen.ensures
    ∙ ap (λ (before : List ℕ). noted before (variable_numbers (term_of c.args.term.now))) c.new.ensures.items in
    IfOk-weaker c.positions.result _ _
    (λ pairs is.
    subst (λ (ps : List (ℕ × ℕ)). IsByFirstAppearance (new_number ps) (term_of c.args.term.now))
    (sym (is ∙ ap (counted 0) seen)) (positions_number (term_of c.args.term.now)))
    c.positions.ensures
