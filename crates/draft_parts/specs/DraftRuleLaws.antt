-- The rules on drafts are those of the list of moves.
use Rattle.std.specs.Prelude.{◌≡◌, ℕ, suc, ◌+◌, ◌∷◌, [], List, map, filter_map, length, Some}
use Rattle.lotos_base.specs.Signature.{Signature}
use Rattle.lotos_base.specs.Term.{variable}
use Rattle.lotos_base.specs.Equation.{Variable}
use Rattle.behaviour_semantics.specs.Behaviour.{Behaviour, Test, SynchronisationSet, Relabelling, sorts_of}
use Rattle.behaviour_semantics.specs.Shape.{Shape, guarded, both_sides, hidden, with_value}
use Rattle.behaviour_semantics.specs.Move.{Move, asking, alone, together, hiding, disabling, relabelling, after_leaf}
use Rattle.behaviour_semantics.specs.Listing.{ShapedMove, below, below_enable}
use Rattle.draft_parts.specs.DraftRules.{open_draft, draft_within, guarded_draft, alone_draft, together_draft, hidden_draft, enable_draft, valued_draft, relabelled_draft}

-- the drafts of the moves that a rule makes of the moves of a part are what the rule on drafts makes of the drafts of these
pub record RulesMakeTheDrafts : Type 0 where
  pub kept :
      (base next : ℕ) (variant : Shape → Shape) (moves : List ShapedMove) →
      map (open_draft base next) (filter_map (below variant (λ (m : Move). Some m)) moves) ≡ map (draft_within variant) (map (open_draft
      base
      next) moves)
  pub disabled :
      (base next : ℕ) (variant : Shape → Shape) (c : Behaviour) (moves : List ShapedMove) →
      map (open_draft base next) (filter_map (below variant (λ (m : Move). Some (disabling c m))) moves) ≡ map (draft_within variant) (map
      (open_draft base next) moves)
  pub guards :
      (base next : ℕ) (test : Test) (moves : List ShapedMove) →
      map (open_draft base next) (filter_map (below guarded (λ (m : Move). Some (asking test m))) moves)
      ≡ map (guarded_draft test) (map (open_draft base next) moves)
  pub sides :
      (base next : ℕ) (meet : SynchronisationSet) (variant : Shape → Shape) (beside : Behaviour → Behaviour) (moves : List ShapedMove) →
      map (open_draft base next) (filter_map (below variant (alone meet beside)) moves)
      ≡ filter_map (alone_draft meet variant) (map (open_draft base next) moves)
  pub both :
      (base next : ℕ) (signature : Signature) (meet : SynchronisationSet) (x : ShapedMove) (moves : List ShapedMove) →
      map (open_draft base next) (filter_map (below (both_sides x.shape) (together signature meet x.move)) moves)
      ≡ filter_map (together_draft signature meet (open_draft base next x)) (map (open_draft base (next + length x.move.sorts)) moves)
  pub hides :
      (base next : ℕ) (gates : List ℕ) (moves : List ShapedMove) →
      map (open_draft base next) (filter_map (below hidden (λ (m : Move). Some (hiding gates m))) moves)
      ≡ map (hidden_draft gates) (map (open_draft base next) moves)
  pub enables :
      (base next : ℕ) (signature : Signature) (variables : List Variable) (c : Behaviour) (moves : List ShapedMove) →
      map (open_draft base next) (filter_map (below_enable signature variables c) moves)
      ≡ filter_map (enable_draft signature (sorts_of variables)) (map (open_draft base next) moves)
  pub values :
      (base next sort : ℕ) (moves : List ShapedMove) →
      map (open_draft base next) (filter_map (below with_value (λ (m : Move). Some (after_leaf sort m))) moves)
      ≡ map (valued_draft (variable (base + next) sort)) (map (open_draft base (suc next)) moves)
  pub relabels :
      (base next : ℕ) (variant : Shape → Shape) (pairs : Relabelling) (moves : List ShapedMove) →
      map (open_draft base next) (filter_map (below variant (λ (m : Move). Some (relabelling pairs m))) moves)
      ≡ map (relabelled_draft variant pairs) (map (open_draft base next) moves)
