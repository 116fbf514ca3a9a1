use Rattle.std.proofs.Common.{◌∙◌}
use Rattle.sort_terms.proofs.WellFormedLemmas.{tested, well_formed_test, not_well_formed}
use Rattle.sort_terms.proofs.signatures.Signature.checked.Goals as goal

pub of-requires-clause-well_formed : goal.of-requires-clause-well_formed
of-requires-clause-well_formed c =
    well_formed_test _
    (tested c.args.sorts.items _ c.args.ops.items _ c.make_a_signature.result c.deref.ensures.value c.deref-2.ensures.value
    c.make_a_signature.ensures ∙ c.if-make_a_signature.true)

pub returns-else-make_a_signature : goal.returns-else-make_a_signature
returns-else-make_a_signature c =
    not_well_formed _
    (tested c.args.sorts.items _ c.args.ops.items _ c.make_a_signature.result c.deref.ensures.value c.deref-2.ensures.value
    c.make_a_signature.ensures ∙ c.if-make_a_signature.false)
