-- How many processes each process of a `where` declares, and how they are counted from the last one of the text to the first.
use Rattle.std.specs.Prelude.{◌≡◌, ℕ, suc, ◌+◌, ◌-◌, List, [], ◌∷◌, ◌++◌, length, drop, Option, None, Some}
use Rattle.syntax_trees.specs.WrittenDefinition.{WrittenInner, WrittenInners, inner_item, process, no_inner, inner_then}
use Rattle.scope_parts.specs.Numbering.{processes_count}

abbrev mutual
  -- for each process, in the order of the text, how many processes it declares, itself among them
  pub definition_sizes : WrittenInner → List ℕ
  definition_sizes (inner_item item) = []
  definition_sizes (process heading body inner) = suc (processes_count inner) ∷ sizes_of_all inner

  pub sizes_of_all : WrittenInners → List ℕ
  sizes_of_all no_inner = []
  sizes_of_all (inner_then inner others) = definition_sizes inner ++ sizes_of_all others

abbrev mutual
  -- how many steps it takes to go over what a `where` declares, at any depth
  pub steps_over : WrittenInner → ℕ
  steps_over (inner_item item) = 1
  steps_over (process heading body inner) = suc (suc (steps_over_all inner))

  pub steps_over_all : WrittenInners → ℕ
  steps_over_all no_inner = 0
  steps_over_all (inner_then inner others) = steps_over inner + steps_over_all others

-- The declarations of a `where` that are not counted yet, and how many sizes there were when its process was come to. The
-- `where` of the specification has no process.
pub record Uncounted : Type 0 where
  pub inners : WrittenInners
  pub behind : Option ℕ

-- the sizes once those of a `where` are there: that of its process stands before them
abbrev pub with_own_size : Option ℕ → List ℕ → List ℕ
with_own_size None sizes = sizes
with_own_size (Some behind) sizes = suc (length sizes - behind) ∷ sizes

-- the sizes once all is counted, the innermost `where` first
abbrev pub counted_out : List Uncounted → List ℕ → List ℕ
counted_out [] sizes = sizes
counted_out (open_ ∷ others) sizes = counted_out others (with_own_size open_.behind (sizes_of_all open_.inners ++ sizes))

abbrev pub steps_left : List Uncounted → ℕ
steps_left [] = 0
steps_left (open_ ∷ others) = suc (steps_over_all open_.inners) + steps_left others

-- with the `where` of a process open too
abbrev pub with_own_open : WrittenInner → ℕ → List Uncounted → List Uncounted
with_own_open (inner_item item) behind others = others
with_own_open (process heading body inner) behind others = record { inners = inner; behind = Some behind } ∷ others

-- the list begins so at a position
abbrev pub BeginsAt : List ℕ → ℕ → List ℕ → Type 0
BeginsAt first position sizes = (rest : List ℕ) × (drop position sizes ≡ first ++ rest)
