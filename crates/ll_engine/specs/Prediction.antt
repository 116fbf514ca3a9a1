-- What a grammar has to keep clear of so that one token ahead decides which row comes next.
-- Source of the notions: Aho, Lam, Sethi and Ullman, "Compilers", on first and follow sets and predictive parsing.
use Rattle.std.specs.Prelude.{◌≡◌, ◌≢◌, ℕ, ◌<◌, ◌≤◌, ◌⊎◌, List, [], ◌∷◌, ◌++◌, Some, slice_get}
use Rattle.ll_engine.specs.declared.symbol.Symbol.{Symbol}
use Rattle.ll_engine.specs.declared.symbol.Symbol.TheVariants.{Part}
use Rattle.ll_engine.specs.Derivation.{Production, Forest, DerivesSymbols, leaves}
use Rattle.ll_engine.specs.Language.{ContextFree}

-- the symbols derive the empty list
abbrev pub IsNullable : List Production → List Symbol → Type 0
IsNullable rows symbols = (trees : Forest) × DerivesSymbols rows trees symbols × (leaves trees ≡ [])

-- the symbols derive a list of tokens that begins with the token
abbrev pub CanBeginWith : List Production → List Symbol → ℕ → Type 0
CanBeginWith rows symbols token = (trees : Forest) × (rest : List ℕ) × DerivesSymbols rows trees symbols × (leaves trees ≡ token ∷ rest)

-- the part derives no list of tokens
abbrev pub IsBarren : List Production → ℕ → Type 0
IsBarren rows part = (tree : Forest) → DerivesSymbols rows tree (Part part ∷ []) → ⊥

-- one step of a derivation: a part somewhere in the list is replaced by the right side of one of its rows
pub record RewritesSymbols (rows : List Production) (old new : List Symbol) : Type 0 where
  pub front : List Symbol
  pub back : List Symbol
  pub number : ℕ
  pub row : Production
  pub is_row : slice_get rows number ≡ Some row
  pub old_is : old ≡ front ++ Part row.left ∷ back
  pub new_is : new ≡ front ++ row.right ++ back

-- one step or more
pub data RewritesInSteps (rows : List Production) : List Symbol → List Symbol → Type 0 where
  one : {old new : List Symbol} → RewritesSymbols rows old new → RewritesInSteps rows old new
  more : {old next new : List Symbol} → RewritesSymbols rows old next → RewritesInSteps rows next new → RewritesInSteps rows old new

-- the part derives, in one step or more, a list of symbols that begins with itself
abbrev pub IsLeftCyclic : List Production → ℕ → Type 0
IsLeftCyclic rows part = (back : List Symbol) × RewritesInSteps rows (Part part ∷ []) (Part part ∷ back)

-- The token may follow the part. The end, the number `tokens`, may follow the start part.
pub data MayFollow (g : ContextFree) : ℕ → ℕ → Type 0 where
  ends : MayFollow g g.start g.tokens
  before : (number : ℕ) (row : Production) (front back : List Symbol) (part token : ℕ) →
      slice_get g.rows number ≡ Some row → row.right ≡ front ++ Part part ∷ back →
      CanBeginWith g.rows back token → MayFollow g part token
  behind : (number : ℕ) (row : Production) (front back : List Symbol) (part token : ℕ) →
      slice_get g.rows number ≡ Some row → row.right ≡ front ++ Part part ∷ back →
      IsNullable g.rows back → MayFollow g row.left token → MayFollow g part token

-- The token predicts the row: its right side derives a list that begins with the token, or the empty list where the
-- token may follow the row's part.
abbrev pub IsPredictedBy : ContextFree → Production → ℕ → Type 0
IsPredictedBy g row token =
    CanBeginWith g.rows row.right token ⊎ (IsNullable g.rows row.right × MayFollow g row.left token)

-- two rows of the part are predicted by the token, or by the end
pub record IsConflict (g : ContextFree) (part token : ℕ) : Type 0 where
  pub in_range : token ≤ g.tokens
  pub first : ℕ
  pub second : ℕ
  pub first_row : Production
  pub second_row : Production
  pub apart : first ≢ second
  pub is_first : slice_get g.rows first ≡ Some first_row
  pub is_second : slice_get g.rows second ≡ Some second_row
  pub first_left : first_row.left ≡ part
  pub second_left : second_row.left ≡ part
  pub first_predicted : IsPredictedBy g first_row token
  pub second_predicted : IsPredictedBy g second_row token

-- some part is barren, is left-cyclic, has a conflict
abbrev pub HasBarren : ContextFree → Type 0
HasBarren g = (part : ℕ) × (part < g.parts) × IsBarren g.rows part

abbrev pub HasLeftCycle : ContextFree → Type 0
HasLeftCycle g = (part : ℕ) × (part < g.parts) × IsLeftCyclic g.rows part

abbrev pub HasConflict : ContextFree → Type 0
HasConflict g = (part : ℕ) × (part < g.parts) × ((token : ℕ) × IsConflict g part token)

-- Every part derives some list of tokens, none has a left cycle and none a conflict: one token ahead decides.
pub record IsPredictive (g : ContextFree) : Type 0 where
  pub productive : (part : ℕ) → part < g.parts → (tree : Forest) × DerivesSymbols g.rows tree (Part part ∷ [])
  pub not_left_cyclic : ¬ HasLeftCycle g
  pub no_conflict : ¬ HasConflict g

-- the least number of which the fact holds
pub record IsLeast (P : ℕ → Type 0) (n : ℕ) : Type 0 where
  pub here : P n
  pub none_below : (m : ℕ) → m < n → ¬ P m

-- the least barren part; the least left-cyclic part where none is barren; the conflict at the least part, and of that
-- part at the least token, where no part is barren or left-cyclic
abbrev pub IsFirstBarren : ContextFree → ℕ → Type 0
IsFirstBarren g part = (part < g.parts) × IsLeast (IsBarren g.rows) part

abbrev pub IsFirstLeftCyclic : ContextFree → ℕ → Type 0
IsFirstLeftCyclic g part = (¬ HasBarren g) × (part < g.parts) × IsLeast (IsLeftCyclic g.rows) part

abbrev pub IsFirstConflict : ContextFree → ℕ → ℕ → Type 0
IsFirstConflict g part token =
    (¬ HasBarren g) × (¬ HasLeftCycle g) × (part < g.parts) × IsLeast (λ p. (t : ℕ) × IsConflict g p t) part
    × IsLeast (IsConflict g part) token
