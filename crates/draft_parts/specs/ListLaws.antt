-- The lists of drafts are those of the lists of moves.
use Rattle.std.specs.Prelude.{◌≡◌, ℕ, suc, ◌+◌, List, map, filter_map, Option, Some}
use Rattle.lotos_base.specs.Signature.{Signature}
use Rattle.lotos_base.specs.Term.{variable}
use Rattle.lotos_base.specs.Equation.{Variable}
use Rattle.behaviour_semantics.specs.Behaviour.{Behaviour, Test, SynchronisationSet, Relabelling, sorts_of}
use Rattle.behaviour_semantics.specs.Draft as plain
use Rattle.behaviour_semantics.specs.Shape.{Shape, guarded, hidden, with_value}
use Rattle.behaviour_semantics.specs.Move.{Move, asking, alone, hiding, disabling, relabelling, after_leaf}
use Rattle.behaviour_semantics.specs.Listing.{ShapedMove, each_below, below_enable, both_below}
use Rattle.draft_parts.specs.HigherLists.{raised_move}
use Rattle.std.specs.Option.{option_map}
use Rattle.draft_parts.specs.DraftRules.{open_draft, draft_within, guarded_draft, alone_draft, hidden_draft, enable_draft, valued_draft, relabelled_draft}
use Rattle.draft_parts.specs.Lists.{both_lists}

-- The drafts of the moves of a list whose leaves are numbered from `next` on are these.
abbrev pub AreDraftsOf : ℕ → ℕ → Option (List ShapedMove) → List plain.Draft → Type 0
AreDraftsOf base next listed drafts = (moves : List ShapedMove) → listed ≡ Some moves → drafts ≡ map (open_draft base next) moves

-- where the drafts are those of the moves of a part, what the rule makes of them are the drafts of the moves that it makes
pub record RuleListsAreTheDrafts : Type 0 where
  pub kept :
      (base next : ℕ) (variant : Shape → Shape) (listed : Option (List ShapedMove)) (drafts : List plain.Draft) →
      AreDraftsOf base next listed drafts →
      AreDraftsOf base next (each_below variant (λ (m : Move). Some m) listed)
      (filter_map (λ (d : plain.Draft). Some (draft_within variant d)) drafts)
  pub disabled :
      (base next : ℕ) (variant : Shape → Shape) (c : Behaviour) (listed : Option (List ShapedMove)) (drafts : List plain.Draft) →
      AreDraftsOf base next listed drafts →
      AreDraftsOf base next (each_below variant (λ (m : Move). Some (disabling c m)) listed)
      (filter_map (λ (d : plain.Draft). Some (draft_within variant d)) drafts)
  pub guards :
      (base next : ℕ) (test : Test) (listed : Option (List ShapedMove)) (drafts : List plain.Draft) →
      AreDraftsOf base next listed drafts →
      AreDraftsOf base next (each_below guarded (λ (m : Move). Some (asking test m)) listed)
      (filter_map (λ (d : plain.Draft). Some (guarded_draft test d)) drafts)
  pub sides :
      (base next : ℕ) (meet : SynchronisationSet) (variant : Shape → Shape) (beside : Behaviour → Behaviour)
      (listed : Option (List ShapedMove)) (drafts : List plain.Draft) →
      AreDraftsOf base next listed drafts →
      AreDraftsOf base next (each_below variant (alone meet beside) listed) (filter_map (alone_draft meet variant) drafts)
  pub hides :
      (base next : ℕ) (gates : List ℕ) (listed : Option (List ShapedMove)) (drafts : List plain.Draft) →
      AreDraftsOf base next listed drafts →
      AreDraftsOf base next (each_below hidden (λ (m : Move). Some (hiding gates m)) listed)
      (filter_map (λ (d : plain.Draft). Some (hidden_draft gates d)) drafts)
  pub enables :
      (base next : ℕ) (signature : Signature) (variables : List Variable) (c : Behaviour) (listed : Option (List ShapedMove))
      (drafts : List plain.Draft) →
      AreDraftsOf base next listed drafts →
      AreDraftsOf base next (option_map (filter_map (below_enable signature variables c)) listed)
      (filter_map (enable_draft signature (sorts_of variables)) drafts)
  pub values :
      (base next sort : ℕ) (listed : Option (List ShapedMove)) (drafts : List plain.Draft) →
      AreDraftsOf base (suc next) listed drafts →
      AreDraftsOf base next (each_below with_value (λ (m : Move). Some (after_leaf sort m)) listed)
      (filter_map (λ (d : plain.Draft). Some (valued_draft (variable (base + next) sort) d)) drafts)
  pub relabels :
      (base next : ℕ) (variant : Shape → Shape) (pairs : Relabelling) (listed : Option (List ShapedMove)) (drafts : List plain.Draft) →
      AreDraftsOf base next listed drafts →
      AreDraftsOf base next (each_below variant (λ (m : Move). Some (relabelling pairs m)) listed)
      (filter_map (λ (d : plain.Draft). Some (relabelled_draft variant pairs d)) drafts)

-- where the moves of the right side with higher leaves are those with the variables raised, what both sides make of their
-- drafts are the drafts of the moves that they make together
abbrev pub BothListsAreTheDrafts : Type 0
BothListsAreTheDrafts =
    (base next : ℕ) (signature : Signature) (meet : SynchronisationSet) (rights_at : ℕ → Option (List ShapedMove))
    (lefts rights : List ShapedMove) →
    ((shift : ℕ) (moves : List ShapedMove) → rights_at (next + shift) ≡ Some moves → moves ≡ map (raised_move (base + next) shift) rights) →
    AreDraftsOf base next (both_below signature meet next rights_at lefts)
    (both_lists signature meet (base + next) (map (open_draft base next) lefts) (map (open_draft base next) rights))
