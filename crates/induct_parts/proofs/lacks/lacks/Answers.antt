use Rattle.std.proofs.Common.{ap, sym, ◌∙◌}
use Rattle.std.specs.Prelude.{IsTrue}
use Rattle.lotos_base.specs.Substitution.{is_listed}
use Rattle.sort_terms.specs.SignatureView.{signature_of}
use Rattle.induct_parts.specs.CertificateView.{cover_in, trees_in}
use Rattle.induct_parts.proofs.CoverFacts.{says_no}
use Rattle.induct_parts.proofs.LackLemmas.{lacks_by_tests, lack_has_result, listed_lacks_none}
use Rattle.induct_parts.proofs.lacks.lacks.Goals as goal

pub returns-then-not-has_result : goal.returns-then-not-has_result
returns-then-not-has_result c =
    says_no (λ lack.
    let t : IsTrue c.has_result.result =
    c.has_result.ensures.1 (lack_has_result (signature_of c.args.signature.now) (trees_in c.args.trees.now) (cover_in c.args.cover.now)
    c.args.operation lack) in
    absurd (cc (t, c.if-not-has_result.true)))

pub returns-then-is_listed : goal.returns-then-is_listed
returns-then-is_listed c =
    says_no (listed_lacks_none (signature_of c.args.signature.now) (trees_in c.args.trees.now) (cover_in c.args.cover.now) c.args.operation
    (ap (λ fs. is_listed fs c.args.operation) (sym c.as_slice.ensures.value) ∙ (sym c.is_listed.ensures ∙ c.if-is_listed.true)))

pub returns : goal.returns
returns c =
    lacks_by_tests (signature_of c.args.signature.now) (trees_in c.args.trees.now) (cover_in c.args.cover.now) c.args.operation
    c.has_tree.result (c.has_result.ensures.0 (cc c.if-not-has_result.false))
    (ap (λ fs. is_listed fs c.args.operation) (sym c.as_slice.ensures.value) ∙ (sym c.is_listed.ensures ∙ c.if-is_listed.false))
    c.has_tree.ensures
