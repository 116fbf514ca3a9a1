use Rattle.std.proofs.Common.{arith, length}
use Rattle.refusal_lines.specs.WordLimits.{words_of}
use Rattle.refusal_lines.proofs.ValueLemmas.{miscounted_whole, values_whole}
use Rattle.refusal_lines.proofs.values.start_values.Goals as goal

pub returns-then-len-parameters-clause-read : goal.returns-then-len-parameters-clause-read
returns-then-len-parameters-clause-read c =
    miscounted_whole c.args.signature.now c.args.parameters.now (words_of c.args.words.now) c.in_ok-terms.terms.items
    (length c.args.parameters.now) c.len-then-len-parameters.result c.in_ok-miscounted.field-0 c.in_ok-terms.ensures (omega arith)
    (omega arith) (λ same. absurd (omega (arith, same))) c.in_ok-miscounted.ensures

pub returns-clause-read : goal.returns-clause-read
returns-clause-read c =
    values_whole c.args.signature.now _ c.args.parameters.now (words_of c.args.words.now) c.in_ok-terms.terms.items c.as_slice.result.now
    c.term_values.result c.in_ok-terms.ensures c.as_slice.ensures.value (omega arith) c.in_ok-reader.ensures c.term_values.ensures.read
