-- What a rule of the code makes of a draft.
use Rattle.std.specs.Prelude.{Option, Some}
use Rattle.lotos_base.specs.Signature.{Signature}
use Rattle.behaviour_semantics.specs.Behaviour.{sorts_of}
use Rattle.behaviour_semantics.specs.Draft as plain
use Rattle.sort_terms.specs.ProfiledTerm.{IsOf}
use Rattle.sort_terms.specs.SortedView.{profiled_in, term_in}
use Rattle.behaviour_tree.specs.BehaviourView.{meet_of, variables_of}
use Rattle.event_offers.specs.OfferView.{condition_of}
use Rattle.draft_parts.specs.DraftRules.{draft_within, alone_draft, hidden_draft, relabelled_draft, guarded_draft, valued_draft, enable_draft}
use Rattle.draft_parts.specs.VariantView.{variant_of}
use Rattle.draft_parts.specs.declared.rule.Rule.{Rule}
use Rattle.draft_parts.specs.declared.rule.Rule.TheVariants.{Below, Alone, Hidden, Relabelled, Guarded, Valued, Enabled}

-- the draft that the rule makes of a draft, if it makes one
abbrev pub made_by : Signature → Rule → plain.Draft → Option plain.Draft
made_by signature (Below variant) d = Some (draft_within (variant_of variant) d)
made_by signature (Alone meet variant) d = alone_draft (meet_of meet.now) (variant_of variant) d
made_by signature (Hidden gates) d = Some (hidden_draft gates.now d)
made_by signature (Relabelled pairs variant) d = Some (relabelled_draft (variant_of variant) pairs.now d)
made_by signature (Guarded left right) d = Some (guarded_draft (condition_of (left.now, right.now)) d)
made_by signature (Valued leaf) d = Some (valued_draft (term_in leaf.now) d)
made_by signature (Enabled variables) d = enable_draft signature (sorts_of (variables_of variables.now.items)) d

-- The terms that the rule puts into drafts are of the signature.
abbrev pub IsDraftRuleOver : Signature → Rule → Type 0
IsDraftRuleOver signature (Below variant) = Unit {0}
IsDraftRuleOver signature (Alone meet variant) = Unit {0}
IsDraftRuleOver signature (Hidden gates) = Unit {0}
IsDraftRuleOver signature (Relabelled pairs variant) = Unit {0}
IsDraftRuleOver signature (Guarded left right) = IsOf signature (profiled_in left.now) × IsOf signature (profiled_in right.now)
IsDraftRuleOver signature (Valued leaf) = IsOf signature (profiled_in leaf.now)
IsDraftRuleOver signature (Enabled variables) = Unit {0}
