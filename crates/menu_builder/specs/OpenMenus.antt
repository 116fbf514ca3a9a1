-- The drafts of a closed behaviour, with their variables numbered from 0, are in order, and solved one by one they are its
-- exact menu.
use Rattle.std.specs.Prelude.{◌≤◌, ℕ, List, map}
use Rattle.lotos_base.specs.Term.{Term}
use Rattle.lotos_base.specs.Equation.{Data}
use Rattle.behaviour_semantics.specs.Behaviour.{Behaviour, Specification}
use Rattle.behaviour_semantics.specs.Draft as plain
use Rattle.behaviour_semantics.specs.Draft.{draft_with, first_apart, numbered_from_zero}
use Rattle.behaviour_semantics.specs.DraftOrder.{IsInOrder}
use Rattle.behaviour_semantics.specs.Guardedness.{IsGuarded}
use Rattle.behaviour_semantics.specs.Listing.{AllSolveTo}
use Rattle.behaviour_semantics.specs.Menu.{Exact}
use Rattle.behaviour_semantics.specs.Solving.{Entry}
use Rattle.behaviour_semantics.specs.WellFormed.{Every, AreOver}
use Rattle.draft_parts.specs.HasDrafts.{HasDrafts}
use Rattle.draft_parts.specs.RowLaws.{setting_over}

-- the drafts, with the variables from `base` on numbered from 0
abbrev pub lowered_drafts : ℕ → List plain.Draft → List plain.Draft
lowered_drafts base drafts = map (draft_with (numbered_from_zero base)) drafts

-- The drafts are those of the moves of a closed behaviour whose recursion is guarded, with leaves from a number on that is
-- apart from all its variables.
pub record AreOpenDrafts (data_ : Data) (canon : Term → Term) (specification : Specification) (b : Behaviour) (base : ℕ)
    (drafts : List plain.Draft) : Type 0 where
  pub over : AreOver data_ canon specification b
  pub guarded : IsGuarded specification.processes
  pub apart : first_apart specification.processes b ≤ base
  pub listed : HasDrafts (setting_over data_ canon specification) base 0 b drafts

-- whatever that number is, the drafts numbered from 0 are in order, and solved one by one they are the exact menu
pub record OpenListsMakeMenus : Type 0 where
  pub in_order :
      (data_ : Data) (canon : Term → Term) (specification : Specification) (b : Behaviour) (base : ℕ) (drafts : List plain.Draft) →
      AreOpenDrafts data_ canon specification b base drafts →
      Every (IsInOrder data_.signature) (lowered_drafts base drafts)
  pub exact :
      (data_ : Data) (canon : Term → Term) (specification : Specification) (b : Behaviour) (base : ℕ) (drafts : List plain.Draft)
      (entries : List Entry) →
      AreOpenDrafts data_ canon specification b base drafts →
      AllSolveTo canon (lowered_drafts base drafts) entries →
      Exact data_ canon specification.processes b entries
