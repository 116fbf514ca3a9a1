-- Certificates of induction over plain values. A certificate has covers, which say what an irreducible ground term of a
-- sort begins with, trees of patterns, which show the covers, and lemmas with their proofs. A tree and a proof are written
-- line by line, in preorder: each line deals with the first pattern or case that is left.
use Rattle.std.specs.Prelude.{ℕ, List}
use Rattle.lotos_base.specs.Term.{Term}
use Rattle.lotos_base.specs.Equality.{Direction}

-- A sort with the operations that are said to cover it.
pub record Cover : Type 0 where
  pub sort : ℕ
  pub operations : List ℕ

-- A line of a tree: the variable at a path is replaced by each operation of the cover of its sort, or the pattern is one
-- that some rule rewrites.
pub data TreeLine : Type 0 where
  split_pattern : List ℕ → TreeLine
  leaf_here : TreeLine

-- The tree of an operation: its lines begin with the operation on different variables.
pub record PatternTree : Type 0 where
  pub operation : ℕ
  pub lines : List TreeLine

-- Two sides that are said to be equal.
pub record Statement : Type 0 where
  pub left : Term
  pub right : Term

-- One of the two sides.
pub data Side : Type 0 where
  left_side right_side : Side

-- What a use takes: an earlier lemma or a hypothesis, by its number from 0.
pub data Source : Type 0 where
  by_lemma : ℕ → Source
  by_hypothesis : ℕ → Source

-- A use replaces the term at a path of one side of the goal, an instance of one side of a lemma or a hypothesis, by the
-- instance of its other side.
pub record Use : Type 0 where
  pub source : Source
  pub side : Side
  pub path : List ℕ
  pub direction : Direction

-- A line of a proof: a split of a variable, by its number, a use, or the end of a case, where both sides are identical.
pub data ProofLine : Type 0 where
  split_variable : ℕ → ProofLine
  use_it : Use → ProofLine
  same_sides : ProofLine

-- A lemma lists the sorts of its variables, whose numbers are their positions from 0, and has a statement and a proof.
pub record Lemma : Type 0 where
  pub variables : List ℕ
  pub statement : Statement
  pub lines : List ProofLine

-- A certificate has covers, then trees, then lemmas.
pub record Certificate : Type 0 where
  pub covers : List Cover
  pub trees : List PatternTree
  pub lemmas : List Lemma
