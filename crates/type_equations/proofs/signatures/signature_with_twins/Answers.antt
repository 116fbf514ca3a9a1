use Rattle.std.proofs.Common.{sym, ◌∙◌, subst}
use Rattle.type_definitions.proofs.FaultLemmas.{few_members}
use Rattle.lotos_base.specs.Signature.{Signature, IsWellFormedSignature}
use Rattle.sort_terms.specs.Operations.{operation_of, sort_of}
use Rattle.type_presentations.proofs.SizeLemmas.{within_limits}
use Rattle.type_presentations.specs.PresentationView.{presentation_of}
use Rattle.type_equations.proofs.SignatureLemmas.{listing_is}
use Rattle.type_equations.proofs.signatures.signature_with_twins.Goals as goal

pub marked-requires-clause-well_formed : goal.marked-requires-clause-well_formed
marked-requires-clause-well_formed c =
    subst (λ (s : Signature). IsWellFormedSignature s)
    (sym (listing_is c.in_ok-sorts.sorts.items c.in_ok-ops.ops.items _ _ (c.in_ok-sorts.ensures ∙ c.sorts.ensures)
    (c.in_ok-ops.ensures ∙ c.ops.ensures)))
    c.requires.sound.data_.signature

pub marked-requires-clause-few_sorts : goal.marked-requires-clause-few_sorts
marked-requires-clause-few_sorts c =
    few_members sort_of c.in_ok-sorts.sorts.items _ (c.in_ok-sorts.ensures ∙ c.sorts.ensures)
    (within_limits (presentation_of c.args.presentation.now) c.requires.within).sorts

pub marked-requires-clause-few_ops : goal.marked-requires-clause-few_ops
marked-requires-clause-few_ops c =
    few_members operation_of c.in_ok-ops.ops.items _ (c.in_ok-ops.ensures ∙ c.ops.ensures)
    (within_limits (presentation_of c.args.presentation.now) c.requires.within).operations

pub returns-clause-lists : goal.returns-clause-lists
returns-clause-lists c =
    c.marked.ensures.lists
    ∙ listing_is c.in_ok-sorts.sorts.items c.in_ok-ops.ops.items _ _ (c.in_ok-sorts.ensures ∙ c.sorts.ensures)
    (c.in_ok-ops.ensures ∙ c.ops.ensures)
