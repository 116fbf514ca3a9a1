-- What is known of terms without a look at them: that they have no variable, how large they are, and by 64 bits which
-- operations stand in them.
use Rattle.std.specs.Prelude.{◌≡◌, ℕ, suc, ◌+◌, ◌-◌, ◌^◌, ◌%◌, Bool, true, false, ◌&&◌, ◌||◌, min, max, nat_eq, bit_or, IsTrue}
use Rattle.std.specs.Int.{bit_at}
use Rattle.lotos_base.specs.Sorting.{IsGround, AreGround}
use Rattle.lotos_base.specs.Term.{Term, Terms, variable, node, no_terms, term_then}
use Rattle.sort_terms.specs.declared.facts.Facts.{Facts}

abbrev mutual
  -- how many variables and operations a term has
  pub nodes_of : Term → ℕ
  nodes_of (variable n s) = 1
  nodes_of (node f ts) = suc (all_nodes_of ts)

  pub all_nodes_of : Terms → ℕ
  all_nodes_of no_terms = 0
  all_nodes_of (term_then t ts) = nodes_of t + all_nodes_of ts

-- the bit of an operation is set
abbrev pub HasBit : ℕ → ℕ → Type 0
HasBit bits f = bit_at bits (f % 64) ≡ 1

abbrev mutual
  -- the bit of each operation of a term is set
  pub HasBits : ℕ → Term → Type 0
  HasBits bits (variable n s) = Unit {0}
  HasBits bits (node f ts) = HasBit bits f × HaveBits bits ts

  pub HaveBits : ℕ → Terms → Type 0
  HaveBits bits no_terms = Unit {0}
  HaveBits bits (term_then t ts) = HasBits bits t × HaveBits bits ts

-- A size that is told is the size. The last number of 64 bits tells none.
abbrev pub TellsSize : ℕ → ℕ → Type 0
TellsSize told size = ¬ (told ≡ 2 ^ 64 - 1) → told ≡ size

-- The facts hold of a term.
abbrev pub HoldOf : Facts → Term → Type 0
HoldOf facts t = (IsTrue facts.is_ground → IsGround t) × TellsSize facts.size (nodes_of t) × HasBits facts.heads t

-- The facts hold of the terms of a list.
abbrev pub HoldOfAll : Facts → Terms → Type 0
HoldOfAll facts ts = (IsTrue facts.is_ground → AreGround ts) × TellsSize facts.size (all_nodes_of ts) × HaveBits facts.heads ts

-- nothing, and what is known of no terms and of a variable
abbrev pub nothing_known : Facts
nothing_known = record { is_ground = false; size = 2 ^ 64 - 1; heads = 2 ^ 64 - 1; levels = 2 ^ 64 - 1 }

abbrev pub no_terms_known : Facts
no_terms_known = record { is_ground = true; size = 0; heads = 0; levels = 0 }

abbrev pub variable_known : Facts
variable_known = record { is_ground = false; size = 1; heads = 0; levels = 0 }

-- the levels of a term in a list where it is the last one or not
abbrev pub levels_among : Facts → Bool → ℕ
levels_among facts true = facts.levels
levels_among facts false = min (facts.levels + 1) (2 ^ 64 - 1)

-- what is known of a list with one term more, the last one or not
abbrev pub known_with : Facts → Facts → Bool → Facts
known_with facts other is_last = record {
  is_ground = facts.is_ground && other.is_ground;
  size = min (facts.size + other.size) (2 ^ 64 - 1);
  heads = bit_or facts.heads other.heads;
  levels = max facts.levels (levels_among other is_last);
}

-- what is known of an operation where this is known of its arguments
abbrev pub known_above : ℕ → Facts → Facts
known_above f facts = record {
  is_ground = facts.is_ground;
  size = min (facts.size + 1) (2 ^ 64 - 1);
  heads = bit_or facts.heads (2 ^ (f % 64));
  levels = facts.levels;
}

-- whether two terms can be one by their sizes
abbrev pub may_be_one : Facts → Facts → Bool
may_be_one facts other =
    nat_eq facts.size other.size || (nat_eq facts.size (2 ^ 64 - 1) || nat_eq other.size (2 ^ 64 - 1))
