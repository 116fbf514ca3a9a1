-- The drafts of choices whose sides are choices again, gathered side by side.
use Rattle.std.specs.Prelude.{◌≡◌, ◌++◌, List, [], ◌∷◌}
use Rattle.lotos_base.specs.Signature.{Signature}
use Rattle.behaviour_semantics.specs.Draft as plain
use Rattle.behaviour_semantics.specs.WellFormed.{Every}
use Rattle.draft_parts.specs.DraftTerms.{HasTermsOf}
use Rattle.draft_parts.specs.HasDrafts.{all_within}
use Rattle.draft_parts.specs.Lists.{plain_drafts}
use Rattle.menu_builder.specs.SharedShapes.{AreShared, below_all}
use Rattle.menu_builder.specs.declared.choices.ChoiceDrafts.{ChoiceDrafts}
use Rattle.draft_parts.specs.declared.variants.Variant.{Variant}

-- The shapes that are kept are what they are told to be.
abbrev pub IsGathering : ChoiceDrafts → Type 0
IsGathering gathered = AreShared gathered.shapes.items

-- Nothing is gathered, and the next drafts stand below no side.
pub record IsNothingGathered (gathered : ChoiceDrafts) : Type 0 where
  pub gathering : IsGathering gathered
  pub path : gathered.path.items ≡ []
  pub drafts : gathered.drafts.items ≡ []

-- The next drafts stand below one more side, and nothing else is changed.
pub record EntersSide (side : Variant) (before after : ChoiceDrafts) : Type 0 where
  pub path : after.path.items ≡ before.path.items ++ side ∷ []
  pub shapes : after.shapes.items ≡ before.shapes.items
  pub drafts : after.drafts.items ≡ before.drafts.items

-- They stand below one side less.
pub record Leaves (before after : ChoiceDrafts) : Type 0 where
  pub path : (outer : List Variant) (side : Variant) → before.path.items ≡ outer ++ side ∷ [] → after.path.items ≡ outer
  pub shapes : after.shapes.items ≡ before.shapes.items
  pub drafts : after.drafts.items ≡ before.drafts.items

-- These drafts are gathered behind the others, each below the sides below which drafts stand.
pub record GathersDrafts (signature : Signature) (part : List plain.Draft) (before after : ChoiceDrafts) : Type 0 where
  pub gathering : IsGathering after
  pub path : after.path.items ≡ before.path.items
  pub drafts : plain_drafts after.drafts.items
      ≡ plain_drafts before.drafts.items ++ all_within (below_all before.path.items) part
  pub over : Every (HasTermsOf signature) before.drafts.items → Every (HasTermsOf signature) after.drafts.items
