-- Drafts of choices that are gathered: a list of drafts more, and both sides of a choice.
use Rattle.std.proofs.Common.{◌≡◌, ◌++◌, List, [], ◌∷◌, Some, refl, ap, sym, ◌∙◌, subst, append_assoc}
use Rattle.std.proofs.lemmas.List.{map-append}
use Rattle.lotos_base.specs.Signature.{Signature}
use Rattle.behaviour_semantics.specs.Draft as plain
use Rattle.behaviour_semantics.specs.Shape.{Shape, left_side, right_side}
use Rattle.behaviour_semantics.specs.WellFormed.{Every}
use Rattle.behaviour_semantics.proofs.ListLemmas.{Every-append}
use Rattle.draft_parts.specs.HandedOn.{plain_draft}
use Rattle.draft_parts.specs.HandedOn.{Draft}
use Rattle.menu_builder.specs.Choices.{EntersSide, GathersDrafts, IsNothingGathered, Leaves}
use Rattle.draft_parts.specs.DraftRules.{draft_within}
use Rattle.draft_parts.specs.DraftTerms.{HasTermsOf}
use Rattle.draft_parts.specs.HasDrafts.{all_within, either_drafts}
use Rattle.draft_parts.specs.Lists.{AreMadeBy, plain_drafts}
use Rattle.menu_builder.specs.SharedShapes.{AreShared, below_all}
use Rattle.draft_parts.specs.VariantView.{variant_of}
use Rattle.menu_builder.specs.declared.choices.ChoiceDrafts.{ChoiceDrafts}
use Rattle.draft_parts.specs.declared.variants.Variant.{Variant}

-- a list of drafts more
pub gathered_also : (signature : Signature) (given made : List Draft) (before after : ChoiceDrafts) → AreShared after.shapes.items
    → after.path.items ≡ before.path.items → after.drafts.items ≡ before.drafts.items ++ made
    → AreMadeBy signature (λ (d : plain.Draft). Some (draft_within (below_all before.path.items) d)) given made
    → GathersDrafts signature (plain_drafts given) before after
gathered_also signature given made before after shared path is h = record {
  gathering = shared;
  path = path;
  drafts = ap plain_drafts is
      ∙ (map-append plain_draft before.drafts.items made
      ∙ ap (λ (ds : List plain.Draft). plain_drafts before.drafts.items ++ ds) h.same);
  over = λ k. subst (λ (ds : List Draft). Every (HasTermsOf signature) ds) (sym is)
      (Every-append (HasTermsOf signature) before.drafts.items made k h.over);
}

-- ---- Below sides.
within_none : (ds : List plain.Draft) → all_within (λ (s : Shape). s) ds ≡ ds
within_none [] = refl
within_none (d ∷ ds) = ap (λ (es : List plain.Draft). d ∷ es) (within_none ds)

within_joined : (variant : Shape → Shape) (ds es : List plain.Draft)
    → all_within variant (ds ++ es) ≡ all_within variant ds ++ all_within variant es
within_joined variant [] es = refl
within_joined variant (d ∷ ds) es = ap (λ (fs : List plain.Draft). draft_within variant d ∷ fs) (within_joined variant ds es)

within_last : (path : List Variant) (side : Variant) (ds : List plain.Draft)
    → all_within (below_all (path ++ side ∷ [])) ds ≡ all_within (below_all path) (all_within (variant_of side) ds)
within_last path side [] = refl
within_last path side (d ∷ ds) =
    ap (λ (s : Shape). record d { shape = s } ∷ all_within (below_all (path ++ side ∷ [])) ds) (below path)
    ∙ ap (λ (fs : List plain.Draft). record d { shape = below_all path (variant_of side d.shape) } ∷ fs) (within_last path side ds)
  where
    below : (vs : List Variant) → below_all (vs ++ side ∷ []) d.shape ≡ below_all vs (variant_of side d.shape)
    below [] = refl
    below (v ∷ vs) = ap (variant_of v) (below vs)

-- ---- A side of a choice, entered and left.
pub side_gathered : (signature : Signature) (side : Variant) (part : List plain.Draft) (before entered gathered after : ChoiceDrafts)
    → EntersSide side before entered → GathersDrafts signature part entered gathered → Leaves gathered after
    → GathersDrafts signature (all_within (variant_of side) part) before after
side_gathered signature side part before entered gathered after e h l = record {
  gathering = subst AreShared (sym l.shapes) h.gathering;
  path = l.path before.path.items side (h.path ∙ e.path);
  drafts = ap plain_drafts l.drafts
      ∙ (h.drafts
      ∙ (ap (λ (ds : List Draft). plain_drafts ds ++ all_within (below_all entered.path.items) part) e.drafts
      ∙ (ap (λ (vs : List Variant). plain_drafts before.drafts.items ++ all_within (below_all vs) part) e.path
      ∙ ap (λ (ds : List plain.Draft). plain_drafts before.drafts.items ++ ds) (within_last before.path.items side part))));
  over = λ k. subst (λ (ds : List Draft). Every (HasTermsOf signature) ds) (sym l.drafts)
      (h.over (subst (λ (ds : List Draft). Every (HasTermsOf signature) ds) (sym e.drafts) k));
}

-- both sides, one after the other
pub both_gathered : (signature : Signature) (lefts rights : List plain.Draft) (before between after : ChoiceDrafts)
    → GathersDrafts signature (all_within left_side lefts) before between
    → GathersDrafts signature (all_within right_side rights) between after
    → GathersDrafts signature (either_drafts lefts rights) before after
both_gathered signature lefts rights before between after h k = record {
  gathering = k.gathering;
  path = k.path ∙ h.path;
  drafts = k.drafts
      ∙ (ap (λ (vs : List Variant). plain_drafts between.drafts.items ++ all_within (below_all vs) (all_within right_side rights)) h.path
      ∙ (ap (λ (ds : List plain.Draft). ds ++ all_within (below_all before.path.items) (all_within right_side rights)) h.drafts
      ∙ (append_assoc (plain_drafts before.drafts.items) (all_within (below_all before.path.items) (all_within left_side lefts))
      (all_within (below_all before.path.items) (all_within right_side rights))
      ∙ ap (λ (ds : List plain.Draft). plain_drafts before.drafts.items ++ ds)
      (sym (within_joined (below_all before.path.items) (all_within left_side lefts) (all_within right_side rights))))));
  over = λ over. k.over (h.over over);
}

-- what is gathered where nothing was before
pub all_gathered : (signature : Signature) (part : List plain.Draft) (before after : ChoiceDrafts) → IsNothingGathered before
    → GathersDrafts signature part before after → plain_drafts after.drafts.items ≡ part
all_gathered signature part before after n h =
    h.drafts
    ∙ (ap (λ (ds : List Draft). plain_drafts ds ++ all_within (below_all before.path.items) part) n.drafts
    ∙ (ap (λ (vs : List Variant). all_within (below_all vs) part) n.path ∙ within_none part))

pub all_over : (signature : Signature) (part : List plain.Draft) (before after : ChoiceDrafts) → IsNothingGathered before
    → GathersDrafts signature part before after → Every (HasTermsOf signature) after.drafts.items
all_over signature part before after n h =
    h.over (subst (λ (ds : List Draft). Every (HasTermsOf signature) ds) (sym n.drafts) tt)
