-- The drafts of choices, gathered side by side.
use Rattle.std.proofs.Common.{◌≡◌, ℕ, List, ◌++◌, ap, sym, ◌∙◌, subst}
use Rattle.lotos_base.specs.Signature.{Signature}
use Rattle.lotos_base.specs.Substitution.{binding}
use Rattle.behaviour_semantics.specs.Behaviour.{Behaviour, choice}
use Rattle.behaviour_semantics.specs.Replacement.{with_values}
use Rattle.behaviour_semantics.specs.WellFormed.{Every}
use Rattle.sort_terms.specs.ProfiledTerm.{ProfiledTerm}
use Rattle.term_match.specs.ProfiledInstance.{bare_pairs}
use Rattle.menu_builder.specs.Choices.{EntersSide, GathersDrafts, IsGathering, IsNothingGathered, Leaves}
use Rattle.draft_parts.specs.DraftTerms.{HasTermsOf}
use Rattle.draft_parts.specs.HandedOn.{Draft}
use Rattle.draft_parts.specs.HasDrafts.{either_drafts}
use Rattle.draft_parts.specs.Lists.{plain_drafts}
use Rattle.menu_builder.specs.declared.choices.ChoiceDrafts.{ChoiceDrafts}
use Rattle.menu_builder.specs.SharedShapes.{AreShared}
use Rattle.draft_parts.specs.declared.variants.Variant.{Variant}
use Rattle.draft_parts.specs.declared.variants.Variant.TheVariants.{Left, Right}
use Rattle.menu_builder.proofs.ChoiceLemmas.{all_gathered, all_over, both_gathered, side_gathered}
use Rattle.draft_parts.proofs.FormLemmas.{forms}
use Rattle.menu_builder.specs.Placed.{AreDraftsPlaced, AreSidesGathered, Basis, HasPlacedDrafts, setting_on_basis}
use Rattle.menu_builder.proofs.PlaceLemmas.{choice_left, choice_right}

-- ---- The shapes that are kept stay as they are told.
pub entered_gathering : (side : Variant) (before after : ChoiceDrafts) → EntersSide side before after → IsGathering before
    → IsGathering after
entered_gathering side before after e h = subst AreShared (sym e.shapes) h

pub left_gathering : (before after : ChoiceDrafts) → Leaves before after → IsGathering before → IsGathering after
left_gathering before after l h = subst AreShared (sym l.shapes) h

module _ (basis : Basis) (first : ℕ) (pairs : List (ℕ × ProfiledTerm)) where
  -- the drafts of a behaviour that were listed
  pub listed_gathered : (b : Behaviour) (terms : List ProfiledTerm) (made : List Draft) (before after : ChoiceDrafts)
      → AreDraftsPlaced basis first b terms pairs made
      → ((signature : Signature) → Every (HasTermsOf signature) made → GathersDrafts signature (plain_drafts made) before after)
      → AreSidesGathered basis first b terms pairs before after
  listed_gathered b terms made before after h gathers = record {
    part = plain_drafts made;
    placed = h.drafts;
    gathered = gathers basis.data_.signature h.over;
  }

  -- both sides of a choice
  pub choice_gathered : (b c : Behaviour) (terms others : List ProfiledTerm) (before lefts left between rights right after : ChoiceDrafts)
      → EntersSide Left before lefts → AreSidesGathered basis first b terms pairs lefts left → Leaves left between
      → EntersSide Right between rights → AreSidesGathered basis first c others pairs rights right → Leaves right after
      → AreSidesGathered basis first (choice b c) (terms ++ others) pairs before after
  choice_gathered b c terms others before lefts left between rights right after e h l f k m = record {
    part = either_drafts h.part k.part;
    placed = λ at numbered stands.
        forms.of_choice (setting_on_basis basis) at.base at.next (with_values (binding (bare_pairs pairs)) b)
        (with_values (binding (bare_pairs pairs)) c) h.part k.part
        (h.placed at numbered (choice_left basis at pairs b c terms others stands))
        (k.placed at numbered (choice_right basis at pairs b c terms others stands));
    gathered = both_gathered basis.data_.signature h.part k.part before between after
        (side_gathered basis.data_.signature Left h.part before lefts left between e h.gathered l)
        (side_gathered basis.data_.signature Right k.part between rights right after f k.gathered m);
  }

  -- a choice all of whose drafts were gathered
  pub gathered_listed : (b : Behaviour) (terms : List ProfiledTerm) (before after : ChoiceDrafts) (made : List Draft)
      → IsNothingGathered before → AreSidesGathered basis first b terms pairs before after → made ≡ after.drafts.items
      → AreDraftsPlaced basis first b terms pairs made
  gathered_listed b terms before after made n h is =
      let same : plain_drafts made ≡ h.part =
      ap plain_drafts is ∙ all_gathered basis.data_.signature h.part before after n h.gathered in
      record {
        drafts = subst (HasPlacedDrafts basis first b terms pairs) (sym same) h.placed;
        over = subst (λ (ds : List Draft). Every (HasTermsOf basis.data_.signature) ds) (sym is)
            (all_over basis.data_.signature h.part before after n h.gathered);
      }
