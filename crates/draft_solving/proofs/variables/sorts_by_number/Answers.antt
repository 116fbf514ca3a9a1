use Rattle.std.proofs.Common.{arith, ap, ◌∙◌, sym}
use Rattle.sort_terms.specs.SortedView.{term_in}
use Rattle.sort_terms.specs.TermView.{term_of}
use Rattle.sort_terms.specs.declared.terms.Term.{Term}
use Rattle.draft_solving.specs.Variables.{sort_noted}
use Rattle.draft_solving.proofs.VariableLemmas.{table_step}
use Rattle.draft_solving.proofs.variables.sorts_by_number.Goals as goal

pub loop-i-preserved : goal.loop-i-preserved
loop-i-preserved c = (
  c.note.ensures
      ∙ ap (λ (t : Term). sort_noted (term_of t) c.loop-i.sorts.items) c.term.ensures
      ∙ ap (sort_noted (term_in c.index.result.now)) c.loop-i.invariant.0
      ∙ sym (table_step c.args.leaves.now.items c.loop-i.i c.index.result.now (omega arith) c.loop-i.invariant.1 c.index.ensures),
  omega arith,
)
