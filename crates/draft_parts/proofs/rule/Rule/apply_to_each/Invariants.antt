use Rattle.std.proofs.Common.{length}
use Rattle.lotos_base.specs.Signature.{Signature}
use Rattle.behaviour_semantics.specs.WellFormed.{Every}
use Rattle.draft_parts.specs.DraftTerms.{HasTermsOf}
use Rattle.draft_parts.specs.RuleView.{IsDraftRuleOver, made_by}
use Rattle.draft_parts.proofs.ListLemmas.{IsHalfMade}
use Rattle.draft_parts.proofs.rule.Rule.apply_to_each.Given as goal

abbrev pub invariant-loop-draft : goal.invariant-loop-draft
invariant-loop-draft l =
    (signature : Signature) → IsDraftRuleOver signature l.self → Every (HasTermsOf signature) l.fn.drafts.items
    → IsHalfMade signature (made_by signature l.self) l.fn.drafts.items l.rest.items l.made.items

abbrev pub decreases-loop-draft : goal.decreases-loop-draft
decreases-loop-draft l = length l.rest.items
