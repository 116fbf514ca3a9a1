-- The drafts of the moves of a behaviour, whatever the depth to which the moves are listed.
use Rattle.std.specs.Prelude.{◌≡◌, ℕ, suc, ◌+◌, List, [], ◌∷◌, ◌++◌, map, filter_map, Some}
use Rattle.behaviour_semantics.specs.Behaviour.{Behaviour, SynchronisationSet, Relabelling}
use Rattle.behaviour_semantics.specs.Draft as plain
use Rattle.behaviour_semantics.specs.Draft.{leaves_from}
use Rattle.behaviour_semantics.specs.Listing.{ShapedMove, listed_moves}
use Rattle.behaviour_semantics.specs.Move.{Setting}
use Rattle.behaviour_semantics.specs.Shape.{Shape, left_side, right_side, at_gate}
use Rattle.lotos_base.specs.Signature.{Signature}
use Rattle.draft_parts.specs.HigherLists.{raised_move}
use Rattle.draft_parts.specs.DraftRules.{draft_within, alone_draft, relabelled_draft}
use Rattle.draft_parts.specs.Lists.{both_lists}
use Rattle.draft_parts.specs.ListLaws.{AreDraftsOf}

-- The drafts are those of the moves of the behaviour, with leaves numbered from `base + next` on.
abbrev pub HasDrafts : Setting → ℕ → ℕ → Behaviour → List plain.Draft → Type 0
HasDrafts setting base next b drafts = (depth : ℕ) → AreDraftsOf base next (listed_moves setting (leaves_from base) depth next b) drafts

-- The moves with higher leaves are the moves with the variables raised.
abbrev pub Raises : Setting → ℕ → ℕ → Behaviour → Type 0
Raises setting base next b =
    (depth shift : ℕ) (moves others : List ShapedMove) →
    listed_moves setting (leaves_from base) depth next b ≡ Some moves →
    listed_moves setting (leaves_from base) depth (next + shift) b ≡ Some others →
    others ≡ map (raised_move (base + next) shift) moves

-- each draft, below a variant
abbrev pub all_within : (Shape → Shape) → List plain.Draft → List plain.Draft
all_within variant drafts = filter_map (λ (d : plain.Draft). Some (draft_within variant d)) drafts

-- each draft, relabelled
abbrev pub all_relabelled : (Shape → Shape) → Relabelling → List plain.Draft → List plain.Draft
all_relabelled variant pairs drafts = filter_map (λ (d : plain.Draft). Some (relabelled_draft variant pairs d)) drafts

-- the drafts of a choice and of a disabling
abbrev pub either_drafts : List plain.Draft → List plain.Draft → List plain.Draft
either_drafts lefts rights = all_within left_side lefts ++ all_within right_side rights

-- the drafts of a parallel
abbrev pub beside_drafts : Signature → SynchronisationSet → ℕ → List plain.Draft → List plain.Draft → List plain.Draft
beside_drafts signature meet first lefts rights =
    (filter_map (alone_draft meet left_side) lefts ++ filter_map (alone_draft meet right_side) rights)
    ++ both_lists signature meet first lefts rights

-- the drafts of a gate choice, from a position on
abbrev pub gate_drafts : ℕ → ℕ → List ℕ → List plain.Draft → List plain.Draft
gate_drafts g k [] drafts = []
gate_drafts g k (a ∷ gates) drafts = all_relabelled (at_gate k) ((g, a) ∷ []) drafts ++ gate_drafts g (suc k) gates drafts

-- the drafts of behaviours side by side, grouped to the right
abbrev pub row_drafts : Signature → SynchronisationSet → ℕ → List (List plain.Draft) → List plain.Draft
row_drafts signature meet first [] = []
row_drafts signature meet first (drafts ∷ []) = drafts
row_drafts signature meet first (drafts ∷ others ∷ rest) =
    beside_drafts signature meet first drafts (row_drafts signature meet first (others ∷ rest))
