-- What a part of a behaviour is listed under: an environment for the variables in scope, and where its leaves begin.
use Rattle.std.specs.Prelude.{◌≡◌, ◌+◌, ℕ, List}
use Rattle.lotos_base.specs.Term.{Term}
use Rattle.lotos_base.specs.Equation.{Data, Variable}
use Rattle.lotos_base.specs.Substitution.{binding}
use Rattle.behaviour_semantics.specs.Behaviour.{Behaviour, Specification}
use Rattle.behaviour_semantics.specs.Draft as plain
use Rattle.behaviour_semantics.specs.Move.{Setting}
use Rattle.behaviour_semantics.specs.Replacement.{with_values}
use Rattle.behaviour_semantics.specs.WellFormed.{Every}
use Rattle.sort_terms.specs.ProfiledTerm.{ProfiledTerm}
use Rattle.term_match.specs.ProfiledInstance.{bare_pairs}
use Rattle.behaviour_tree.specs.DefinitionView.{specification_of}
use Rattle.behaviour_tree.specs.Over.{AreTermsOf}
use Rattle.behaviour_tree.specs.declared.definitions.Spec.{Spec}
use Rattle.draft_parts.specs.HandedOn.{Draft}
use Rattle.menu_builder.specs.Choices.{GathersDrafts}
use Rattle.draft_parts.specs.DraftTerms.{HasTermsOf}
use Rattle.draft_parts.specs.Lists.{plain_drafts}
use Rattle.draft_parts.specs.Environments.{ArePairsOf}
use Rattle.draft_parts.specs.HasDrafts.{HasDrafts}
use Rattle.draft_parts.specs.RowLaws.{IsWellFormedBelow, setting_over}
use Rattle.menu_builder.specs.declared.choices.ChoiceDrafts.{ChoiceDrafts}

-- What moves are listed over: data with a canon, and a specification.
pub record Basis : Type 0 where
  pub data_ : Data
  pub canon : Term → Term
  pub specification : Specification

abbrev pub menu_basis_of : Data → (Term → Term) → Spec → Basis
menu_basis_of data_ canon spec = record { data_ = data_; canon = canon; specification = specification_of spec }

abbrev pub setting_on_basis : Basis → Setting
setting_on_basis basis = setting_over basis.data_ basis.canon basis.specification

-- Where a part stands: the leaf with number `k` is the variable `base + k`, the first leaf of the part has the number
-- `next`, and these variables are in scope, the innermost first.
pub record Position : Type 0 where
  pub base : ℕ
  pub next : ℕ
  pub scope : List Variable

-- The behaviour is well formed in the scope, the pairs give its variables terms over the leaves before the next one, and all
-- terms are of the signature.
pub record StandsAt (basis : Basis) (at : Position) (b : Behaviour) (terms : List ProfiledTerm)
    (pairs : List (ℕ × ProfiledTerm)) : Type 0 where
  pub below : IsWellFormedBelow basis.data_ basis.canon basis.specification at.scope (bare_pairs pairs) at.base at.next b
  pub values : ArePairsOf basis.data_.signature pairs
  pub profiles : AreTermsOf basis.data_.signature terms

-- So it stands somewhere, where its first leaf is the variable with this number.
pub record IsPlaced (basis : Basis) (first : ℕ) (b : Behaviour) (terms : List ProfiledTerm) (pairs : List (ℕ × ProfiledTerm)) : Type 0 where
  pub at : Position
  pub numbered : first ≡ at.base + at.next
  pub stands : StandsAt basis at b terms pairs

-- The drafts are those of the moves of the behaviour with the terms of the pairs put in, wherever it stands with this
-- first leaf.
abbrev pub HasPlacedDrafts : Basis → ℕ → Behaviour → List ProfiledTerm → List (ℕ × ProfiledTerm) → List plain.Draft → Type 0
HasPlacedDrafts basis first b terms pairs drafts =
    (at : Position) →
    first ≡ at.base + at.next →
    StandsAt basis at b terms pairs →
    HasDrafts (setting_on_basis basis) at.base at.next (with_values (binding (bare_pairs pairs)) b) drafts

-- The drafts of the code are those, and their terms are of the signature.
pub record AreDraftsPlaced (basis : Basis) (first : ℕ) (b : Behaviour) (terms : List ProfiledTerm)
    (pairs : List (ℕ × ProfiledTerm)) (made : List Draft) : Type 0 where
  pub drafts : HasPlacedDrafts basis first b terms pairs (plain_drafts made)
  pub over : Every (HasTermsOf basis.data_.signature) made

-- Those of the behaviour are gathered too, each below the sides below which drafts stand.
pub record AreSidesGathered (basis : Basis) (first : ℕ) (b : Behaviour) (terms : List ProfiledTerm)
    (pairs : List (ℕ × ProfiledTerm)) (before after : ChoiceDrafts) : Type 0 where
  pub part : List plain.Draft
  pub placed : HasPlacedDrafts basis first b terms pairs part
  pub gathered : GathersDrafts basis.data_.signature part before after
