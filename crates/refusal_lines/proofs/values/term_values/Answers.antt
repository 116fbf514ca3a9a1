use Rattle.std.proofs.Common.{ap, arith, sym, subst, ◌∙◌, ◌+◌, ◌∷◌, [], List, ℕ, map}
use Rattle.std.proofs.lemmas.List.{map-append}
use Rattle.behaviour_tree.specs.BehaviourTerms.{profiles_of}
use Rattle.behaviour_tree.specs.BehaviourView.{terms_of}
use Rattle.behaviour_tree.specs.Over.{AreTermsOf}
use Rattle.sort_terms.specs.ReaderView.{signature_read}
use Rattle.sort_terms.specs.SortedView.{term_in}
use Rattle.sort_terms.specs.declared.sorted.Sorted.{Sorted}
use Rattle.refusal_lines.specs.StartValues.{WordTerm}
use Rattle.refusal_lines.specs.StartView.{parameter_sorts, word_term_of}
use Rattle.refusal_lines.proofs.ValueLemmas.{ValuedSoFar, next_sort, next_term, one_of_more, one_valued, sorts_at, terms_at, valued_whole}
use Rattle.refusal_lines.proofs.values.term_values.Goals as goal

-- one value more
pub loop-index-preserved : goal.loop-index-preserved
loop-index-preserved c =
    let signature = signature_read c.args.reader.now in
    let sorts = parameter_sorts c.args.parameters.now in
    let terms = map word_term_of c.args.terms.now in
    let parameter = c.index-parameters-index.result in
    let given = c.index-terms-index.result in
    let before = c.loop-index.values.items in
    let value = c.in_ok-value.field-0 in
    let after = c.push.new.self.items in (
      one_valued signature sorts terms parameter.sort (sorts_at (c.loop-index.index + 1) c.args.parameters.now) (word_term_of given)
          (terms_at (c.loop-index.index + 1) c.args.terms.now) (terms_of before) (terms_of after) (term_in value)
          (subst (λ (ss : List ℕ). ValuedSoFar signature sorts terms ss
          (word_term_of given ∷ terms_at (c.loop-index.index + 1) c.args.terms.now) (terms_of before))
          (next_sort c.args.parameters.now c.loop-index.index parameter (omega (arith, c.requires.counted)) c.index-parameters-index.is)
          (subst (λ (ts : List WordTerm).
          ValuedSoFar signature sorts terms (sorts_at c.loop-index.index c.args.parameters.now) ts (terms_of before))
          (next_term c.args.terms.now c.loop-index.index given (omega arith) c.index-terms-index.is) c.loop-index.invariant.0))
          c.in_ok-value.ensures.read
          (ap terms_of c.in_ok-push.ensures.items ∙ map-append term_in before (value ∷ [])),
      subst (λ (vs : List Sorted). AreTermsOf signature (profiles_of vs)) (sym c.in_ok-push.ensures.items)
          (one_of_more signature before value c.loop-index.invariant.1 c.in_ok-value.ensures.profiles),
    )

pub returns-clause-read : goal.returns-clause-read
returns-clause-read c =
    valued_whole _ c.args.parameters.now c.args.terms.now c.loop-index.index _ (omega arith) c.requires.counted c.loop-index.invariant.0
