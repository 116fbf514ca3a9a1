use Rattle.std.proofs.Common.{sym, ◌∙◌, subst}
use Rattle.type_definitions.proofs.FaultLemmas.{few_members}
use Rattle.lotos_base.specs.Signature.{Signature, IsWellFormedSignature}
use Rattle.sort_terms.specs.Operations.{operation_of, sort_of}
use Rattle.type_presentations.proofs.SizeLemmas.{within_limits}
use Rattle.type_presentations.specs.PresentationView.{presentation_of}
use Rattle.type_equations.proofs.SignatureLemmas.{listing_is}
use Rattle.type_equations.proofs.signatures.signature_copy.Goals as goal

pub of-requires-clause-well_formed : goal.of-requires-clause-well_formed
of-requires-clause-well_formed c =
    subst (λ (s : Signature). IsWellFormedSignature s)
    (sym (listing_is c.in_ok-sorts.sorts.items c.in_ok-ops.ops.items _ _ (c.in_ok-sorts.ensures ∙ c.sorts.ensures)
    (c.in_ok-ops.ensures ∙ c.ops.ensures)))
    c.requires.sound.data_.signature

pub of-requires-clause-few_sorts : goal.of-requires-clause-few_sorts
of-requires-clause-few_sorts c =
    few_members sort_of c.in_ok-sorts.sorts.items _ (c.in_ok-sorts.ensures ∙ c.sorts.ensures)
    (within_limits (presentation_of c.args.presentation.now) c.requires.within).sorts

pub of-requires-clause-few_ops : goal.of-requires-clause-few_ops
of-requires-clause-few_ops c =
    few_members operation_of c.in_ok-ops.ops.items _ (c.in_ok-ops.ensures ∙ c.ops.ensures)
    (within_limits (presentation_of c.args.presentation.now) c.requires.within).operations

pub returns : goal.returns
returns c =
    c.of.ensures
    ∙ listing_is c.in_ok-sorts.sorts.items c.in_ok-ops.ops.items _ _ (c.in_ok-sorts.ensures ∙ c.sorts.ensures)
    (c.in_ok-ops.ensures ∙ c.ops.ensures)
