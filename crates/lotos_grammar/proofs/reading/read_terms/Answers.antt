use Rattle.std.proofs.Common.{subst, sym}
use Rattle.text_depth.specs.HandedOn.starts
use Rattle.text_depth.specs.HandedOn.{grammar_from, AreOptionalTerms}
use Rattle.text_depth.proofs.HandedOn.{rows_have}
use Rattle.syntax_trees.specs.Depth.{nodes_of_terms}
use Rattle.lotos_grammar.proofs.Readings.{too_deep}
use Rattle.lotos_grammar.proofs.reading.read_terms.Goals as goal

pub returns-in-Some : goal.returns-in-Some
returns-in-Some c =
    let tokens = c.in_ok-tokens.field-0.tokens.items in
    let fault =
    too_deep (AreOptionalTerms c.args.text.now) nodes_of_terms c.args.number c.args.text.now (grammar_from starts.TERMS) tokens
    c.in_ok-tokens.field-0.rows.items c.in_ok-deep.deep c.in-Some.place
    (rows_have.terms c.args.text.now tokens)
    c.in_ok-tokens.ensures.derived.cut_into c.in_ok-tokens.ensures.derived.derivation
    (λ tree is.
    c.in_ok-deep.ensures c.args.text.now tree
    (subst (λ it. AreOptionalTerms c.args.text.now it tree) (sym c.deref.ensures.value) is))
    c.in-Some.is in
    fault
