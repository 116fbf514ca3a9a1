use Rattle.std.proofs.Common.{◌≡◌, ℕ, inl, inr, false, ap, sym, ◌∙◌}
use Rattle.sort_terms.specs.SortedView.{profiled_in}
use Rattle.sort_terms.specs.TermView.{profiled_of}
use Rattle.sort_terms.specs.declared.terms.Term.{Term}
use Rattle.term_match.proofs.AgreeLemmas.{has_number_true}
use Rattle.term_match.specs.Disagreement.{has_number}
use Rattle.draft_solving.specs.Conditions.{OccursInCondition}
use Rattle.event_offers.specs.OfferView.{condition_of}
use Rattle.draft_solving.proofs.putting.has_variable.Goals as goal

pub returns : goal.returns
returns c = record { lacks = λ none s o. by none s o }
  where
    by : c.occurs-2.result ≡ false → (s : ℕ) → OccursInCondition c.args.number s (condition_of c.args.condition.now) → ⊥
    by none s (inl o) =
        let left : has_number c.args.number (profiled_in c.args.condition.now.0) ≡ false =
        ap (λ (t : Term). has_number c.args.number (profiled_of t)) (sym c.term.ensures)
        ∙ (sym c.occurs.ensures ∙ c.if-occurs.false) in
        cc (left, has_number_true c.args.number s (profiled_in c.args.condition.now.0) o)
    by none s (inr o) =
        let right : has_number c.args.number (profiled_in c.args.condition.now.1) ≡ false =
        ap (λ (t : Term). has_number c.args.number (profiled_of t)) (sym c.term-2.ensures)
        ∙ (sym c.occurs-2.ensures ∙ none) in
        cc (right, has_number_true c.args.number s (profiled_in c.args.condition.now.1) o)
