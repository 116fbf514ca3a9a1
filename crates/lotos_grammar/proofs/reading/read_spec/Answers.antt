use Rattle.std.proofs.Common.{subst, sym}
use Rattle.text_depth.specs.HandedOn.starts
use Rattle.text_depth.specs.HandedOn.{grammar_from, IsWrittenSpecification}
use Rattle.text_depth.proofs.HandedOn.{rows_have, specification_readable}
use Rattle.syntax_trees.specs.Depth.{nodes_of_specification}
use Rattle.lotos_grammar.proofs.Readings.{too_deep}
use Rattle.lotos_grammar.proofs.reading.read_spec.Goals as goal

pub returns-in-Some-clause-answer : goal.returns-in-Some-clause-answer
returns-in-Some-clause-answer c =
    let tokens = c.in_ok-tokens.field-0.tokens.items in
    let fault =
    too_deep (IsWrittenSpecification c.args.text.now) nodes_of_specification c.args.number c.args.text.now (grammar_from starts.SPEC) tokens
    c.in_ok-tokens.field-0.rows.items c.in_ok-deep.deep c.in-Some.place
    (rows_have.specification c.args.text.now tokens)
    c.in_ok-tokens.ensures.derived.cut_into c.in_ok-tokens.ensures.derived.derivation
    (λ tree is.
    c.in_ok-deep.ensures c.args.text.now tree
    (subst (λ it. IsWrittenSpecification c.args.text.now it tree) (sym c.deref.ensures.value) is))
    c.in-Some.is in
    (c.in_ok-within_limit.ensures.short, fault)

pub returns-clause-readable : goal.returns-clause-readable
returns-clause-readable c = specification_readable c.in_ok-spec.ensures
