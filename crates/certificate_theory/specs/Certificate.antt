-- Certificates of bisimulation: lines that name states of two specifications and list pairs of them.
use Rattle.std.specs.Prelude.{◌≡◌, ℕ, suc, List, [], ◌∷◌, ◌++◌, Some, slice_get}
use Rattle.lotos_base.specs.Term.{Term}
use Rattle.lotos_base.specs.Equation.{Data}
use Rattle.behaviour_semantics.specs.Behaviour.{Behaviour, Specification}

-- A line: `l P N` names the next state on the left, the target of entry `N` of the left state `P`; `r P N` does so on the
-- right; `p I J` lists the left state `I` with the right state `J`. State 0 is the start of its side, and the further states
-- are numbered in the order of their lines. Entries of a menu are numbered from 1.
pub data CertificateLine : Type 0 where
  names_left : ℕ → ℕ → CertificateLine
  names_right : ℕ → ℕ → CertificateLine
  lists_pair : ℕ → ℕ → CertificateLine

-- Why a certificate is refused. Lines are numbered from 1, and so are the entries of a menu.
pub data CertificateFault : Type 0 where
  -- the line uses a state that no line before it names
  no_state : ℕ → CertificateFault
  -- the state of the line has no entry with the number of the line
  no_entry : ℕ → CertificateFault
  -- the entry of the line has a variable, or a state of its pair has such an entry
  open_menu : ℕ → CertificateFault
  -- no line is `p 0 0`
  no_start_pair : CertificateFault
  -- for the pair of the line, this entry of the left state is not matched by the right state
  unmatched_left : ℕ → ℕ → CertificateFault
  -- for the pair of the line, this entry of the right state is not matched by the left state
  unmatched_right : ℕ → ℕ → CertificateFault

-- What a certificate comes to: it is accepted with its number of listed pairs, or refused for a fault.
pub data CertificateOutcome : Type 0 where
  accepted : ℕ → CertificateOutcome
  refused : CertificateFault → CertificateOutcome

-- What is compared: two specifications over the same data, by a canon of these, and the start behaviour of each.
pub record Comparison : Type 0 where
  pub data_ : Data
  pub canon : Term → Term
  pub left : Specification
  pub right : Specification
  pub left_start : Behaviour
  pub right_start : Behaviour

-- One side of a comparison: the data, a canon of them, and the specification of that side.
pub record ComparedSide : Type 0 where
  pub data_ : Data
  pub canon : Term → Term
  pub specification : Specification

abbrev pub compared_side_of : Data → (Term → Term) → Specification → ComparedSide
compared_side_of data_ canon specification = record { data_ = data_; canon = canon; specification = specification }

abbrev pub left_side_of : Comparison → ComparedSide
left_side_of c = compared_side_of c.data_ c.canon c.left

abbrev pub right_side_of : Comparison → ComparedSide
right_side_of c = compared_side_of c.data_ c.canon c.right

-- A listed pair, with the number of its line.
pub record ListedPair : Type 0 where
  pub line : ℕ
  pub left : Behaviour
  pub right : Behaviour

-- What the lines so far have given: the states of each side in the order of their numbers, and the pairs that are listed.
pub record Reading : Type 0 where
  pub lefts : List Behaviour
  pub rights : List Behaviour
  pub pairs : List ListedPair

-- Before the first line, each side has its start, and no pair is listed.
abbrev pub first_reading : Comparison → Reading
first_reading c = record { lefts = c.left_start ∷ []; rights = c.right_start ∷ []; pairs = [] }

-- The reading with one more state on the left, on the right, and with one more pair.
abbrev pub with_left : Reading → Behaviour → Reading
with_left r b = record r { lefts = r.lefts ++ (b ∷ []) }

abbrev pub with_right : Reading → Behaviour → Reading
with_right r b = record r { rights = r.rights ++ (b ∷ []) }

abbrev pub with_pair : Reading → ListedPair → Reading
with_pair r pair = record r { pairs = r.pairs ++ (pair ∷ []) }

-- The two behaviours are listed: they are the left and the right state of a listed pair.
pub record AreListed (pairs : List ListedPair) (b c : Behaviour) : Type 0 where
  pub place : ℕ
  pub pair : ListedPair
  pub there : slice_get pairs place ≡ Some pair
  pub left : pair.left ≡ b
  pub right : pair.right ≡ c

-- Some line is `p 0 0`.
abbrev pub ListsTheStarts : List CertificateLine → Type 0
ListsTheStarts lines = (place : ℕ) × (slice_get lines place ≡ Some (lists_pair 0 0))

-- The number of lines that list a pair.
abbrev pub number_of_pairs : List CertificateLine → ℕ
number_of_pairs [] = 0
number_of_pairs (names_left from number ∷ lines) = number_of_pairs lines
number_of_pairs (names_right from number ∷ lines) = number_of_pairs lines
number_of_pairs (lists_pair i j ∷ lines) = suc (number_of_pairs lines)
