-- Sets of tokens by which a grammar is shown to be one that one token ahead decides: what each part may begin with and be
-- followed by, which parts may be empty, a rank for each part that falls along the first parts of its rows, and a
-- derivation of each part. The sets are computed from the rows; that the rows keep to them is computed too.
use Rattle.std.specs.Prelude.{◌≡◌, ℕ, zero, suc, ◌+◌, max, Bool, true, false, cond, not, ◌&&◌, ◌||◌, List, [], ◌∷◌, ◌++◌, nat_lt, ◌==◌, Option, Some, None, option_map, option_and_then, slice_get, slice_set, slice_index_or, replicate}
use Rattle.std.specs.List.{list_all, list_any}
use Rattle.ll_engine.specs.declared.symbol.Symbol.{Symbol}
use Rattle.ll_engine.specs.declared.symbol.Symbol.TheVariants.{Token, Part}
use Rattle.ll_engine.specs.Derivation.{Production, Forest, empty, leaf, node}
use Rattle.ll_engine.specs.Language.{ContextFree}
use Rattle.ll_engine.specs.Prediction.{IsPredictive}

-- what is claimed of the parts
pub record Sets : Type 0 where
  pub nullable : ℕ → Bool
  pub first : ℕ → List ℕ
  pub follow : ℕ → List ℕ
  pub rank : ℕ → ℕ

abbrev pub has : List ℕ → ℕ → Bool
has list number = list_any (λ (n : ℕ). n == number) list

abbrev pub within : List ℕ → List ℕ → Bool
within small large = list_all (has large) small

abbrev pub apart : List ℕ → List ℕ → Bool
apart left right = list_all (λ (n : ℕ). not (has right n)) left

-- what symbols may begin with, and whether they may be empty
abbrev pub all_nullable : Sets → List Symbol → Bool
all_nullable sets [] = true
all_nullable sets (Token t ∷ symbols) = false
all_nullable sets (Part p ∷ symbols) = sets.nullable p && all_nullable sets symbols

abbrev pub first_tokens_of : Sets → List Symbol → List ℕ
first_tokens_of sets [] = []
first_tokens_of sets (Token t ∷ symbols) = t ∷ []
first_tokens_of sets (Part p ∷ symbols) = sets.first p ++ cond (sets.nullable p) (first_tokens_of sets symbols) []

abbrev pub predicting : Sets → Production → List ℕ
predicting sets row = first_tokens_of sets row.right ++ cond (all_nullable sets row.right) (sets.follow row.left) []

-- a row keeps to the sets
abbrev pub keeps_nullable : Sets → Production → Bool
keeps_nullable sets row = not (all_nullable sets row.right) || sets.nullable row.left

abbrev pub keeps_first : Sets → Production → Bool
keeps_first sets row = within (first_tokens_of sets row.right) (sets.first row.left)

abbrev pub keeps_follow : Sets → ℕ → List Symbol → Bool
keeps_follow sets left [] = true
keeps_follow sets left (Token t ∷ symbols) = keeps_follow sets left symbols
keeps_follow sets left (Part p ∷ symbols) =
    (within (first_tokens_of sets symbols) (sets.follow p)
    && (not (all_nullable sets symbols) || within (sets.follow left) (sets.follow p)))
    && keeps_follow sets left symbols

abbrev pub falls : Sets → ℕ → List Symbol → Bool
falls sets limit [] = true
falls sets limit (Token t ∷ symbols) = true
falls sets limit (Part p ∷ symbols) = nat_lt (sets.rank p) limit && (not (sets.nullable p) || falls sets limit symbols)

abbrev pub keeps : Sets → Production → Bool
keeps sets row =
    (keeps_nullable sets row && keeps_first sets row) && (keeps_follow sets row.left row.right && falls sets (sets.rank row.left) row.right)

-- no two rows of one part are predicted by one token
abbrev pub is_apart_from : Sets → Production → Production → Bool
is_apart_from sets row other = not (row.left == other.left) || apart (predicting sets row) (predicting sets other)

abbrev pub all_apart : Sets → List Production → Bool
all_apart sets [] = true
all_apart sets (row ∷ rows) = list_all (is_apart_from sets row) rows && all_apart sets rows

abbrev pub has_left : Option Production → ℕ → Bool
has_left None p = false
has_left (Some row) p = row.left == p

abbrev pub right_of : Option Production → List Symbol
right_of None = []
right_of (Some row) = row.right

-- the trees are a derivation of the symbols
abbrev pub derives_by : List Production → Forest → List Symbol → Bool
derives_by rows empty [] = true
derives_by rows empty (symbol ∷ symbols) = false
derives_by rows (leaf t rest) [] = false
derives_by rows (leaf t rest) (Token u ∷ symbols) = (t == u) && derives_by rows rest symbols
derives_by rows (leaf t rest) (Part p ∷ symbols) = false
derives_by rows (node r below rest) [] = false
derives_by rows (node r below rest) (Token u ∷ symbols) = false
derives_by rows (node r below rest) (Part p ∷ symbols) =
    (has_left (slice_get rows r) p && derives_by rows below (right_of (slice_get rows r))) && derives_by rows rest symbols

abbrev pub passes_below : (ℕ → Bool) → ℕ → Bool
passes_below test zero = true
passes_below test (suc n) = passes_below test n && test n

-- what the checks say of the rows of a grammar
pub record ChecksHold (g : ContextFree) (sets : Sets) (tree : ℕ → Forest) : Type 0 where
  pub rows_keep : list_all (keeps sets) g.rows ≡ true
  pub end_follows : has (sets.follow g.start) g.tokens ≡ true
  pub rows_apart : all_apart sets g.rows ≡ true
  pub derived : passes_below (λ part. derives_by g.rows (tree part) (Part part ∷ [])) g.parts ≡ true

-- what is known of a part: a derivation of it, by its first row and the trees of that row's right side, and its sets
pub record PartSets : Type 0 where
  pub derived : Option (ℕ × Forest)
  pub nullable : Bool
  pub first : List ℕ
  pub follow : List ℕ
  pub rank : ℕ

abbrev pub no_parts_known : PartSets
no_parts_known = record { derived = None; nullable = false; first = []; follow = []; rank = 0 }

abbrev pub known_of : List PartSets → ℕ → PartSets
known_of table part = slice_index_or table part no_parts_known

abbrev pub sets_of : List PartSets → Sets
sets_of table = record {
  nullable = λ part. (known_of table part).nullable;
  first = λ part. (known_of table part).first;
  follow = λ part. (known_of table part).follow;
  rank = λ part. (known_of table part).rank;
}

abbrev pub derived_in_front : Option (ℕ × Forest) → Forest → Option Forest
derived_in_front None trees = None
derived_in_front (Some derived) trees = Some (node derived.0 derived.1 trees)

abbrev pub tree_of : List PartSets → ℕ → Forest
tree_of table part = forest (derived_in_front (known_of table part).derived empty)
  where
    forest : Option Forest → Forest
    forest None = empty
    forest (Some trees) = trees

-- derivations of symbols, where each part has one
abbrev pub trees_of : List PartSets → List Symbol → Option Forest
trees_of table [] = Some empty
trees_of table (Token t ∷ symbols) = option_map (leaf t) (trees_of table symbols)
trees_of table (Part p ∷ symbols) = option_and_then (derived_in_front (known_of table p).derived) (trees_of table symbols)

-- the numbers of both lists, each once where each stands once in the first
abbrev pub put : ℕ → List ℕ → List ℕ
put number numbers = cond (has numbers number) numbers (number ∷ numbers)

abbrev pub union_of_numbers : List ℕ → List ℕ → List ℕ
union_of_numbers numbers [] = numbers
union_of_numbers numbers (number ∷ others) = union_of_numbers (put number numbers) others

-- a rank above those of the parts with which the symbols may begin
abbrev pub rank_above : Sets → List Symbol → ℕ
rank_above sets [] = 0
rank_above sets (Token t ∷ symbols) = 0
rank_above sets (Part p ∷ symbols) = max (sets.rank p + 1) (cond (sets.nullable p) (rank_above sets symbols) 0)

abbrev pub either : {A : Type 0} → Option A → Option A → Option A
either None other = other
either (Some one) other = Some one

-- the part with what a row of it, of this number, adds
abbrev pub learned : List PartSets → ℕ → List Symbol → PartSets → PartSets
learned table number right known = record {
  derived = either known.derived (option_map (λ trees. (number, trees)) (trees_of table right));
  nullable = known.nullable || all_nullable (sets_of table) right;
  first = union_of_numbers known.first (first_tokens_of (sets_of table) right);
  follow = known.follow;
  rank = max known.rank (rank_above (sets_of table) right);
}

abbrev pub part_changed : (PartSets → PartSets) → ℕ → List PartSets → List PartSets
part_changed change part table = slice_set table part (change (known_of table part))

-- the part with what may stand behind it in a row of `left`, where these symbols do
abbrev pub with_follow_set : List PartSets → ℕ → List Symbol → PartSets → PartSets
with_follow_set table left symbols known =
    record known {
      follow = union_of_numbers (union_of_numbers known.follow (first_tokens_of (sets_of table) symbols))
          (cond (all_nullable (sets_of table) symbols) (known_of table left).follow []);
    }

abbrev pub learn_follow : ℕ → List Symbol → List PartSets → List PartSets
learn_follow left [] table = table
learn_follow left (Token t ∷ symbols) table = learn_follow left symbols table
learn_follow left (Part p ∷ symbols) table = learn_follow left symbols (part_changed (with_follow_set table left symbols) p table)

abbrev pub learn_row : ℕ → Production → List PartSets → List PartSets
learn_row number row table = learn_follow row.left row.right (part_changed (learned table number row.right) row.left table)

-- what is known after going over the rows once, and after so many rounds
abbrev pub learning_round : ℕ → List Production → List PartSets → List PartSets
learning_round number [] table = table
learning_round number (row ∷ rows) table = learning_round (number + 1) rows (learn_row number row table)

abbrev pub rounds : ℕ → List Production → List PartSets → List PartSets
rounds zero rows table = table
rounds (suc n) rows table = rounds n rows (learning_round 0 rows table)

-- at first it is known that the end may follow the start part
abbrev pub first_known : ContextFree → List PartSets
first_known g = part_changed (λ known. record known { follow = g.tokens ∷ [] }) g.start (replicate g.parts no_parts_known)

abbrev pub known_after : ℕ → ContextFree → List PartSets
known_after n g = rounds n g.rows (first_known g)

-- the rows keep to what is known
abbrev pub are_kept : ContextFree → List PartSets → Bool
are_kept g table =
    (list_all (keeps (sets_of table)) g.rows && has ((sets_of table).follow g.start) g.tokens)
    && (all_apart (sets_of table) g.rows && passes_below (λ part. derives_by g.rows (tree_of table part) (Part part ∷ [])) g.parts)

-- the rows keep to what is known after so many rounds; each part's rank has to be reached
abbrev pub is_predictive_after : ℕ → ContextFree → Bool
is_predictive_after n g = are_kept g (known_after n g)

-- Whatever sets the rows keep to, one token ahead decides.
abbrev pub KeptSetsDecide : Type 0
KeptSetsDecide = (g : ContextFree) (sets : Sets) (tree : ℕ → Forest) → ChecksHold g sets tree → IsPredictive g

abbrev pub ComputedSetsDecide : Type 0
ComputedSetsDecide = (n : ℕ) (g : ContextFree) → is_predictive_after n g ≡ true → IsPredictive g
