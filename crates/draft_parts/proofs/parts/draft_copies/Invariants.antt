use Rattle.std.proofs.Common.{◌≡◌, ◌++◌, drop}
use Rattle.lotos_base.specs.Signature.{Signature}
use Rattle.behaviour_semantics.specs.WellFormed.{Every}
use Rattle.draft_parts.specs.DraftTerms.{HasTermsOf}
use Rattle.draft_parts.specs.Lists.{plain_drafts}
use Rattle.draft_parts.proofs.parts.draft_copies.Given as goal

abbrev pub invariant-loop-draft : goal.invariant-loop-draft
invariant-loop-draft l = record {
  same : plain_drafts l.made.items ++ plain_drafts (drop l.draft-index l.draft-items) ≡ plain_drafts l.draft-items;
  over : (signature : Signature) → Every (HasTermsOf signature) l.draft-items → Every (HasTermsOf signature) l.made.items;
  left : (signature : Signature) → Every (HasTermsOf signature) l.draft-items
      → Every (HasTermsOf signature) (drop l.draft-index l.draft-items);
}
