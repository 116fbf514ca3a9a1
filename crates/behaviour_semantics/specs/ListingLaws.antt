-- What the lists of moves and of drafts obey.
use Rattle.std.specs.Prelude.{◌≡◌, ℕ, List, Some}
use Rattle.lotos_base.specs.Term.{Term}
use Rattle.lotos_base.specs.Equation.{Data}
use Rattle.lotos_base.specs.Substitution.{Substitution}
use Rattle.behaviour_semantics.specs.Behaviour.{Behaviour, Process, Specification}
use Rattle.behaviour_semantics.specs.Shape.{Shape}
use Rattle.behaviour_semantics.specs.Move.{Setting, move_of}
use Rattle.behaviour_semantics.specs.Draft.{Draft, draft_of}
use Rattle.behaviour_semantics.specs.Solving.{Entry}
use Rattle.behaviour_semantics.specs.Menu.{Exact}
use Rattle.behaviour_semantics.specs.WellFormed.{AreOver}
use Rattle.behaviour_semantics.specs.Guardedness.{IsGuarded}
use Rattle.behaviour_semantics.specs.Listing.{ShapedMove, IsAmong, ShapesRise, shapes_of_moves, shapes_of_drafts, listed_moves, listed_drafts, AllSolveTo}

-- a list of moves has the moves of the table and no others, in the order of shapes
pub record ListedMovesAreTheMoves : Type 0 where
  pub sound :
      (setting : Setting) (leaves : Substitution) (depth next : ℕ) (b : Behaviour) (moves : List ShapedMove) →
      listed_moves setting leaves depth next b ≡ Some moves →
      (x : ShapedMove) →
      IsAmong x moves →
      move_of setting leaves x.shape next b ≡ Some x.move
  pub complete :
      (setting : Setting) (leaves : Substitution) (depth next : ℕ) (b : Behaviour) (moves : List ShapedMove) →
      listed_moves setting leaves depth next b ≡ Some moves →
      (x : ShapedMove) →
      move_of setting leaves x.shape next b ≡ Some x.move →
      IsAmong x moves
  pub rising :
      (setting : Setting) (leaves : Substitution) (depth next : ℕ) (b : Behaviour) (moves : List ShapedMove) →
      listed_moves setting leaves depth next b ≡ Some moves →
      ShapesRise (shapes_of_moves moves)
  -- two depths give no two lists
  pub determined :
      (setting : Setting) (leaves : Substitution) (depth other next : ℕ) (b : Behaviour) (moves others : List ShapedMove) →
      listed_moves setting leaves depth next b ≡ Some moves →
      listed_moves setting leaves other next b ≡ Some others →
      moves ≡ others

-- a list of drafts has the drafts of the shapes that fit and no others, in the order of shapes
pub record ListedDraftsAreTheDrafts : Type 0 where
  pub sound :
      (data_ : Data) (canon : Term → Term) (processes : List Process) (depth : ℕ) (b : Behaviour) (drafts : List Draft) →
      listed_drafts data_ canon processes depth b ≡ Some drafts →
      (draft : Draft) →
      IsAmong draft drafts →
      draft_of data_ canon processes draft.shape b ≡ Some draft
  pub complete :
      (data_ : Data) (canon : Term → Term) (processes : List Process) (depth : ℕ) (b : Behaviour) (drafts : List Draft) →
      listed_drafts data_ canon processes depth b ≡ Some drafts →
      (shape : Shape) (draft : Draft) →
      draft_of data_ canon processes shape b ≡ Some draft →
      IsAmong draft drafts
  pub rising :
      (data_ : Data) (canon : Term → Term) (processes : List Process) (depth : ℕ) (b : Behaviour) (drafts : List Draft) →
      listed_drafts data_ canon processes depth b ≡ Some drafts →
      ShapesRise (shapes_of_drafts drafts)

-- the drafts of a list, solved one by one, are the exact menu
abbrev pub SolvedListsAreExact : Type 0
SolvedListsAreExact =
    (data_ : Data) (canon : Term → Term) (specification : Specification) (b : Behaviour) (depth : ℕ) (drafts : List Draft)
    (entries : List Entry) →
    AreOver data_ canon specification b →
    listed_drafts data_ canon specification.processes depth b ≡ Some drafts →
    AllSolveTo canon drafts entries →
    Exact data_ canon specification.processes b entries

-- where the recursion of the processes is guarded, each behaviour has a list of its moves at some depth
abbrev pub GuardedListsEnd : Type 0
GuardedListsEnd =
    (setting : Setting) (leaves : Substitution) (next : ℕ) (b : Behaviour) →
    IsGuarded setting.processes →
    (depth : ℕ) × (moves : List ShapedMove) × (listed_moves setting leaves depth next b ≡ Some moves)

-- and so, over data with a canon, an exact menu
abbrev pub GuardedBehavioursHaveAMenu : Type 0
GuardedBehavioursHaveAMenu =
    (data_ : Data) (canon : Term → Term) (specification : Specification) (b : Behaviour) →
    AreOver data_ canon specification b →
    IsGuarded specification.processes →
    (entries : List Entry) × Exact data_ canon specification.processes b entries
