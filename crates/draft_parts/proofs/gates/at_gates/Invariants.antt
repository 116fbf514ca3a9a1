use Rattle.std.proofs.Common.{drop}
use Rattle.lotos_base.specs.Signature.{Signature}
use Rattle.behaviour_semantics.specs.WellFormed.{Every}
use Rattle.draft_parts.specs.DraftTerms.{HasTermsOf}
use Rattle.draft_parts.specs.Lists.{plain_drafts}
use Rattle.draft_parts.specs.HasDrafts.{gate_drafts}
use Rattle.draft_parts.proofs.MadeLemmas.{AreAtGates}
use Rattle.draft_parts.proofs.gates.at_gates.Given as goal

abbrev pub invariant-loop-gate : goal.invariant-loop-gate
invariant-loop-gate l =
    (signature : Signature) → Every (HasTermsOf signature) l.part.items
    → AreAtGates signature l.formal l.position (drop l.gate-index l.gate-items) (plain_drafts l.part.items)
    (gate_drafts l.formal 0 l.gate-items (plain_drafts l.part.items)) l.made.items
