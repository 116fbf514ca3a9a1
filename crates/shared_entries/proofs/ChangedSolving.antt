-- What a rule makes of a draft has the outcome that the rule makes of the draft's outcome.
use Rattle.std.proofs.Common.{◌≡◌, [], ◌∷◌, Option, None, Some, option_map, if◌then◌else◌, ap, sym, ◌∙◌, subst}
use Rattle.lotos_base.specs.Signature.{Signature}
use Rattle.lotos_base.specs.Term.{Term}
use Rattle.lotos_base.specs.Substitution.{Substitution, substituted, binding}
use Rattle.behaviour_semantics.specs.Label.{Label}
use Rattle.behaviour_semantics.specs.Draft.{Draft, label_with}
use Rattle.behaviour_semantics.specs.Solving.{Entry, entry_of, label_in, tidied, replaced, SolvesTo, unsolvable, settled, replacing}
use Rattle.behaviour_semantics.proofs.SettledEntries.{renumbered}
use Rattle.behaviour_semantics.proofs.DraftsInOrder.{label_with-in}
use Rattle.shared_entries.specs.PartRule.{PartRule, changed}
use Rattle.shared_entries.proofs.RuleLabels.{IsFair}

-- The draft below the rule.
abbrev pub changed_draft : PartRule → Draft → Draft
changed_draft rule draft = record draft { shape = rule.variant draft.shape; label = rule.label draft.label }

abbrev pub draft_by_rule : PartRule → Draft → Option Draft
draft_by_rule rule draft = if rule.applies draft.label then Some (changed_draft rule draft) else None

module _ (signature : Signature) (rule : PartRule) (fair : IsFair signature rule) where
  pub natural_with : (values : Substitution) (label : Label) → label_with values (rule.label label) ≡ rule.label (label_with values label)
  natural_with values label =
      sym (label_with-in values (rule.label label))
      ∙ (sym (fair.natural (substituted values) label) ∙ ap rule.label (label_with-in values label))

  pub solved_change : {canon : Term → Term} {draft : Draft} {outcome : Option Entry} → SolvesTo canon draft outcome
      → SolvesTo canon (changed_draft rule draft) (option_map (changed rule) outcome)
  solved_change (unsolvable draft closed) = unsolvable (changed_draft rule draft) closed
  solved_change {canon = canon} (settled draft not_closed none) =
      subst (λ (e : Entry). SolvesTo canon (changed_draft rule draft) (Some e))
      (ap (λ (label : Label). record (changed rule (entry_of (tidied canon draft))) { label = label })
      (ap (label_with (renumbered (tidied canon draft).leaves)) (sym (fair.natural canon draft.label))
      ∙ natural_with (renumbered (tidied canon draft).leaves) (label_in canon draft.label)))
      (settled (changed_draft rule draft) not_closed none)
  solved_change {canon = canon} (replacing draft found outcome not_closed some rest) =
      replacing (changed_draft rule draft) found (option_map (changed rule) outcome) not_closed some
      (subst (λ (d : Draft). SolvesTo canon d (option_map (changed rule) outcome))
      (sym (ap (λ (label : Label). record (changed_draft rule (replaced found (tidied canon draft))) { label = label })
      (ap (label_with (binding (found ∷ []))) (sym (fair.natural canon draft.label))
      ∙ natural_with (binding (found ∷ [])) (label_in canon draft.label))))
      (solved_change rest))
