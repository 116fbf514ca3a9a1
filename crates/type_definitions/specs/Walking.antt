-- How far the walk has come that puts types in their order.
use Rattle.std.specs.Prelude.{◌≡◌, ◌+◌, ◌*◌, ◌<◌, ◌≤◌, ℕ, true, List, [], ◌∷◌, ◌++◌, length, map, drop, slice_index_or}
use Rattle.std.specs.List.{All, count_by}
use Rattle.type_definitions.specs.TypeGraph.{mentioned_by, is_among, Mentions, MentionsLead}
use Rattle.type_definitions.specs.FlatteningOrder.{FlatteningComesTo, ComesToEach}
use Rattle.type_definitions.specs.ProgressTests.{is_unseen}
use Rattle.type_definitions.specs.declared.walk.Progress.{Progress}
use Rattle.type_definitions.specs.declared.walk.Progress.TheVariants.{Unseen, Open, Done}
use Rattle.type_definitions.specs.declared.walk.Frame.{Frame}

abbrev pub progress_at : List Progress → ℕ → Progress
progress_at progress i = slice_index_or progress i Unseen

-- twice the types that were not come to, and those that wait for others
abbrev pub work_left : List Progress → List Frame → ℕ
work_left progress stack = 2 * count_by is_unseen progress + length stack

-- Each type of the list stands behind all that it mentions.
pub data IsSorted (graph : List (List ℕ)) : List ℕ → Type 0 where
  none_sorted : IsSorted graph []
  one_sorted : (done : List ℕ) (i : ℕ) → IsSorted graph done → ((j : ℕ) → Mentions graph i j → is_among done j ≡ true)
      → IsSorted graph (done ++ i ∷ [])

-- the first mentions of a type that waits are done
pub record IsFrame (graph : List (List ℕ)) (order : List ℕ) (frame : Frame) : Type 0 where
  pub is_type : frame.number < length graph
  pub passed : (k : ℕ) → k < frame.next → k < length (mentioned_by graph frame.number)
      → is_among order (slice_index_or (mentioned_by graph frame.number) k 0) ≡ true

-- each number leads to all behind it
abbrev pub IsChain : List (List ℕ) → List ℕ → Type 0
IsChain graph [] = Unit {0}
IsChain graph (i ∷ is) = ((j : ℕ) → is_among is j ≡ true → MentionsLead graph i j) × IsChain graph is

abbrev pub waiting_numbers : List Frame → List ℕ
waiting_numbers stack = map (λ (frame : Frame). frame.number) stack

pub record IsTypeWalk (graph : List (List ℕ)) (progress : List Progress) (order : List ℕ) (stack : List Frame) : Type 0 where
  pub covers : length progress ≡ length graph
  pub sorted : IsSorted graph order
  pub done : (i : ℕ) → progress_at progress i ≡ Done → is_among order i ≡ true
  pub finished : (i : ℕ) → is_among order i ≡ true → progress_at progress i ≡ Done
  pub opened : (i : ℕ) → progress_at progress i ≡ Open → is_among (waiting_numbers stack) i ≡ true
  pub frames : All (IsFrame graph order) stack
  pub chain : IsChain graph (waiting_numbers stack)

-- what is left of a type that waits is come to, and then the type itself is done
abbrev pub Finishes : List (List ℕ) → List ℕ → Frame → List ℕ → Type 0
Finishes graph done frame all =
    (more : List ℕ) × ComesToEach graph done (drop frame.next (mentioned_by graph frame.number)) more
    × (more ++ frame.number ∷ [] ≡ all)

-- the same for each type that waits, the last one first
abbrev pub Runs : List (List ℕ) → List ℕ → List Frame → List ℕ → Type 0
Runs graph done [] all = done ≡ all
Runs graph done (frame ∷ frames) all = (middle : List ℕ) × Runs graph done frames middle × Finishes graph middle frame all

-- the walk begins with this type: what comes of the types that wait comes of it
pub record WalkStarts (graph : List (List ℕ)) (progress : List Progress) (order : List ℕ) (root : ℕ) (stack : List Frame) : Type 0 where
  pub walk : IsTypeWalk graph progress order stack
  pub runs : (all : List ℕ) → Runs graph order stack all → FlatteningComesTo graph order root all

-- one step: less is left, and what comes of it comes of what was there before
pub record GoesOn (graph : List (List ℕ)) (progress : List Progress) (order : List ℕ) (stack : List Frame)
    (progress' : List Progress) (order' : List ℕ) (stack' : List Frame) : Type 0 where
  pub walk : IsTypeWalk graph progress' order' stack'
  pub runs : (all : List ℕ) → Runs graph order' stack' all → Runs graph order stack all
  pub less : work_left progress' stack' < work_left progress stack

-- the position of the first mention from a position on that is not done
pub record IsNextMention (mentioned : List ℕ) (progress : List Progress) (from position : ℕ) : Type 0 where
  pub not_before : from ≤ position
  pub within : position < length mentioned
  pub waits : ¬ (progress_at progress (slice_index_or mentioned position 0) ≡ Done)
  pub passed : (k : ℕ) → from ≤ k → k < position → progress_at progress (slice_index_or mentioned k 0) ≡ Done

abbrev pub HasNoNext : List ℕ → List Progress → ℕ → Type 0
HasNoNext mentioned progress from =
    (k : ℕ) → from ≤ k → k < length mentioned → progress_at progress (slice_index_or mentioned k 0) ≡ Done
