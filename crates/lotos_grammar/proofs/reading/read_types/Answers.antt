use Rattle.std.proofs.Common.{subst, sym}
use Rattle.text_depth.specs.HandedOn.starts
use Rattle.text_depth.proofs.HandedOn.{rows_have, items_readable}
use Rattle.text_depth.specs.HandedOn.{nodes_of_items, grammar_from, AreItems}
use Rattle.lotos_grammar.proofs.Readings.{too_deep}
use Rattle.lotos_grammar.proofs.reading.read_types.Goals as goal

pub returns-in-Some-clause-answer : goal.returns-in-Some-clause-answer
returns-in-Some-clause-answer c =
    let tokens = c.in_ok-tokens.field-0.tokens.items in
    let fault =
    too_deep (AreItems c.args.text.now) nodes_of_items c.args.number c.args.text.now (grammar_from starts.TYPETEXT) tokens
    c.in_ok-tokens.field-0.rows.items c.in_ok-deep.deep c.in-Some.place
    (rows_have.items c.args.text.now tokens)
    c.in_ok-tokens.ensures.derived.cut_into c.in_ok-tokens.ensures.derived.derivation
    (λ tree is.
    c.in_ok-deep.ensures c.args.text.now tree
    (subst (λ it. AreItems c.args.text.now it tree) (sym c.deref.ensures.value) is))
    c.in-Some.is in
    (c.in_ok-within_limit.ensures.short, fault)

pub returns-clause-readable : goal.returns-clause-readable
returns-clause-readable c = items_readable c.in_ok-items.ensures
