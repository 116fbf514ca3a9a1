use Rattle.behaviour_tree.specs.BehaviourTerms.{profiles_of}
use Rattle.behaviour_tree.specs.BehaviourView.{terms_of}
use Rattle.behaviour_tree.specs.Over.{AreTermsOf}
use Rattle.sort_terms.specs.ReaderView.{signature_read}
use Rattle.std.proofs.Common.{map}
use Rattle.refusal_lines.specs.StartView.{word_term_of, parameter_sorts}
use Rattle.refusal_lines.proofs.ValueLemmas.{ValuedSoFar, sorts_at, terms_at}
use Rattle.refusal_lines.proofs.values.term_values.Given as goal

-- the terms before this one have values
abbrev pub invariant-loop-index : goal.invariant-loop-index
invariant-loop-index l =
    ValuedSoFar (signature_read l.reader) (parameter_sorts l.parameters) (map word_term_of l.terms) (sorts_at l.index l.parameters)
    (terms_at l.index l.terms) (terms_of l.values.items)
    × AreTermsOf (signature_read l.reader) (profiles_of l.values.items)
