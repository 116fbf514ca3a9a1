use Rattle.std.proofs.Common.{ℕ, ap, ◌∙◌}
use Rattle.sort_terms.specs.declared.terms.Term.{Term}
use Rattle.term_rewriter.proofs.WantedLemmas.{is_place}
use Rattle.term_rewriter.proofs.wanting.place_of.Goals as goal

pub returns-then-values-i : goal.returns-then-values-i
returns-then-values-i c =
    is_place c.args.values.now c.loop-i.i c.args.number c.index-values-i.result c.loop-i-test.true c.index-values-i.is
    (ap (λ (pair : ℕ × Term). pair.0) c.index-values-i.is ∙ c.if-values-i.true)
    c.loop-i.invariant
