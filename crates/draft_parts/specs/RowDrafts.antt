-- The draft that a row of drafts makes, which stand side by side and all meet.
use Rattle.std.specs.Prelude.{◌≡◌, ◌+◌, ℕ, List, [], ◌∷◌, length, true}
use Rattle.lotos_base.specs.Signature.{Signature}
use Rattle.behaviour_semantics.specs.Behaviour.{SynchronisationSet}
use Rattle.behaviour_semantics.specs.Draft as plain
use Rattle.behaviour_semantics.specs.Draft.{draft_with}
use Rattle.behaviour_semantics.specs.Join.{both_drafts, raised_from}
use Rattle.behaviour_semantics.specs.WellFormed.{Every}
use Rattle.event_offers.specs.OfferView.{plain_draft}
use Rattle.event_offers.specs.declared.drafts.Draft.{Draft}
use Rattle.draft_parts.specs.DraftTerms.{HasTermsOf}
use Rattle.draft_parts.specs.Lists.{plain_drafts}
use Rattle.draft_parts.specs.Meeting.{meet_told}
use Rattle.draft_parts.specs.MetDrafts.{both_with}
use Rattle.draft_parts.specs.declared.rows.Row.{Row}
use Rattle.draft_parts.specs.declared.rows.Side.{Side}
use Rattle.draft_parts.specs.declared.rows.Side.TheVariants.{Drafts, Met}

-- What left drafts, from right to left, make with a right one. Each time the right variables from a first one on are raised
-- by the number of the left leaves.
abbrev pub row_draft : ℕ → plain.Draft → List plain.Draft → plain.Draft
row_draft first right [] = right
row_draft first right (left ∷ lefts) = row_draft first (both_with left (raised_from first (length left.leaves)) right) lefts

-- how many leaves the drafts have
abbrev pub number_of_row_leaves : List plain.Draft → ℕ
number_of_row_leaves [] = 0
number_of_row_leaves (d ∷ drafts) = length d.leaves + number_of_row_leaves drafts

-- What left drafts, from right to left, make with a right one whose variables are raised by the number of all their leaves.
-- The variables of each left one are raised by the number of leaves of those on its left, and by no more.
abbrev pub joined_drafts : ℕ → plain.Draft → List plain.Draft → plain.Draft
joined_drafts first right [] = right
joined_drafts first right (left ∷ lefts) =
    joined_drafts first (both_drafts (draft_with (raised_from first (number_of_row_leaves lefts)) left) right) lefts

-- the leftmost draft of a row
abbrev pub leftmost_in_row : Draft → List Draft → Draft
leftmost_in_row right [] = right
leftmost_in_row right (left ∷ lefts) = leftmost_in_row left lefts

-- the draft of a row
abbrev pub draft_of_row : ℕ → Row → plain.Draft
draft_of_row first row = row_draft first (plain_draft row.right) (plain_drafts row.lefts.items)

-- The terms of all drafts of the row are of the signature.
pub record IsRowOf (signature : Signature) (row : Row) : Type 0 where
  pub right : HasTermsOf signature row.right
  pub lefts : Every (HasTermsOf signature) row.lefts.items

-- There is one left draft, and it meets the label of the leftmost one.
abbrev pub IsOneMet : SynchronisationSet → Row → List Draft → Type 0
IsOneMet meet row [] = ⊥
IsOneMet meet row (left ∷ []) = meet_told meet left.label (leftmost_in_row row.right row.lefts.items).label ≡ true
IsOneMet meet row (left ∷ other ∷ lefts) = ⊥

-- the drafts of a side
abbrev pub side_drafts : ℕ → Side → List plain.Draft
side_drafts first (Drafts drafts) = plain_drafts drafts.items
side_drafts first (Met row) = draft_of_row first row ∷ []

abbrev pub IsRowSideOf : Signature → Side → Type 0
IsRowSideOf signature (Drafts drafts) = Every (HasTermsOf signature) drafts.items
IsRowSideOf signature (Met row) = IsRowOf signature row

-- The side has the expected drafts, and their terms are of the signature.
pub record IsThisSide (signature : Signature) (first : ℕ) (expected : List plain.Draft) (side : Side) : Type 0 where
  pub same : side_drafts first side ≡ expected
  pub over : IsRowSideOf signature side
