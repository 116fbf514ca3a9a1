-- The closed relation of the parts to what stands behind them says which tokens may follow a part.
use Rattle.std.proofs.Common.{◌≡◌, ℕ, ◌<◌, ◌≤◌, ◌==◌, Bool, true, false, ◌&&◌, List, [], ◌∷◌, ◌++◌, refl, ap, sym, ◌∙◌, subst, arith, inl, inr}
use Rattle.std.specs.Prelude.{nat_lt, Some, slice_get}
use Rattle.std.specs.List.{list_all, list_any}
use Rattle.std.proofs.lemmas.Bool.{false≢true, or_cases, or_left, or_right, and_parts, and_from, eqb-true, eq-eqb, ltb-true, lt-ltb}
use Rattle.std.proofs.lemmas.Map.Keys.{any_passes_from_place}
use Rattle.lotos_base.proofs.Tests.{list_any-at}
use Rattle.lotos_base.proofs.Members.{from_map, at_map}
use Rattle.ll_engine.specs.declared.symbol.Symbol.{Symbol}
use Rattle.ll_engine.specs.declared.symbol.Symbol.TheVariants.{Token, Part}
use Rattle.ll_engine.specs.declared.symbol.Row.{Row}
use Rattle.ll_engine.specs.declared.relation.Relation.{Relation}
use Rattle.ll_engine.specs.Derivation.{Production}
use Rattle.ll_engine.specs.Prediction.{CanBeginWith, MayFollow, ends, before, behind}
use Rattle.ll_engine.specs.View.{is_in_range, production_of, productions, grammar_of}
use Rattle.ll_engine.specs.Computed.{part_column, all_marked, begins, continues, is_part, follows_in, has_follower}
use Rattle.ll_engine.specs.Related.{related, HasCells, RelationLeads, here, through, IsClosureOf}
use Rattle.ll_engine.proofs.Closure.{related-bounds, related-HasCells}
use Rattle.ll_engine.proofs.Ranges.{InRange, left-below, right-InRange, list_all-split, AllProductive, AreTokens-leaves}
use Rattle.ll_engine.proofs.Nullable.{IsNullable-all_marked, all_marked-IsNullable}
use Rattle.ll_engine.proofs.FirstSets.{IsFirstOf, begins-Begins, Begins-begins}

-- where the test is met: behind a place of the part
pub record FollowsAt (nullable : ℕ → Bool) (first : ℕ → ℕ → Bool) (tokens left part column : ℕ) (symbols : List Symbol) : Type 0 where
  pub front : List Symbol
  pub back : List Symbol
  pub split : symbols ≡ front ++ Part part ∷ back
  pub goes_on : continues nullable first tokens left column back ≡ true

pub FollowsAt-follows_in : (nullable : ℕ → Bool) (first : ℕ → ℕ → Bool) (tokens left part column : ℕ) (symbols : List Symbol) →
    follows_in nullable first tokens left part column symbols ≡ true → FollowsAt nullable first tokens left part column symbols
FollowsAt-follows_in nullable first tokens left part column [] h = absurd (false≢true h)
FollowsAt-follows_in nullable first tokens left part column (Token t ∷ symbols) h =
    let at = FollowsAt-follows_in nullable first tokens left part column symbols h in
    record { front = Token t ∷ at.front; back = at.back; split = ap (λ (xs : List Symbol). Token t ∷ xs) at.split; goes_on = at.goes_on }
FollowsAt-follows_in nullable first tokens left part column (Part p ∷ symbols) h =
    elim (or_cases ((p == part) && continues nullable first tokens left column symbols)
    (follows_in nullable first tokens left part column symbols) h) [
      | inl at ↦
          let both = and_parts (p == part) (continues nullable first tokens left column symbols) at in
          record { front = []; back = symbols; split = ap (λ (q : ℕ). Part q ∷ symbols) (eqb-true p part both.0); goes_on = both.1 }
      | inr later ↦
          let at = FollowsAt-follows_in nullable first tokens left part column symbols later in
          record {
            front = Part p ∷ at.front;
            back = at.back;
            split = ap (λ (xs : List Symbol). Part p ∷ xs) at.split;
            goes_on = at.goes_on;
          }
    ]

pub follows_in-at : (nullable : ℕ → Bool) (first : ℕ → ℕ → Bool) (tokens left part column : ℕ) (front back : List Symbol) →
    continues nullable first tokens left column back ≡ true
    → follows_in nullable first tokens left part column (front ++ Part part ∷ back) ≡ true
follows_in-at nullable first tokens left part column [] back h =
    or_left ((part == part) && continues nullable first tokens left column back) (follows_in nullable first tokens left part column back)
    (and_from (part == part) (continues nullable first tokens left column back) (eq-eqb part part refl) h)
follows_in-at nullable first tokens left part column (symbol ∷ front) back h =
    or_right (is_part part symbol && continues nullable first tokens left column (front ++ Part part ∷ back))
    (follows_in nullable first tokens left part column (front ++ Part part ∷ back))
    (follows_in-at nullable first tokens left part column front back h)

-- what the relation was made of
pub record IsFollowOf (rows : List Row) (parts tokens start : ℕ) (nullable : ℕ → Bool) (first base follow : Relation) : Type 0 where
  pub start_below : start < parts
  pub base_is : HasCells base (has_follower rows nullable (related first) tokens start) parts tokens
  pub closed : IsClosureOf base follow

module _ (rows : List Row) (parts tokens start : ℕ) (nullable : ℕ → Bool) (none : ℕ → ℕ → Bool) (corners first base follow : Relation)
    (made : IsFirstOf rows parts tokens nullable none corners first)
    (follows : IsFollowOf rows parts tokens start nullable first base follow)
    (productive : AllProductive (productions rows) parts) where
  related-base : (part column : ℕ) → part < parts → column < part_column tokens parts
      → related base part column ≡ has_follower rows nullable (related first) tokens start part column
  related-base part column p c = related-HasCells base (has_follower rows nullable (related first) tokens start) parts tokens part column
      follows.base_is p c

  -- a place of a part in a row whose rest goes on with the column
  from_row : (r : ℕ) (row : Production) (front back : List Symbol) (part column : ℕ) → slice_get (productions rows) r ≡ Some row
      → row.right ≡ front ++ Part part ∷ back →
      column < part_column tokens parts → continues nullable (related first) tokens row.left column back ≡ true
      → related base part column ≡ true
  from_row r row front back part column is e c h =
      let all = right-InRange made.ranges r row is in
      let from_part = (list_all-split (is_in_range parts tokens) front (Part part ∷ back) (rw e at all)).1 in
      let p = ltb-true part parts (and_parts (nat_lt part parts) (list_all (is_in_range parts tokens) back) from_part).0 in
      let at = from_map production_of rows r row is in
      let left : at.0.left ≡ row.left = ap (λ (x : Production). x.left) at.2 in
      let right : at.0.right.items ≡ row.right = ap (λ (x : Production). x.right) at.2 in
      let found : follows_in nullable (related first) tokens at.0.left part column at.0.right.items ≡ true =
      ap (λ (x : Production). follows_in nullable (related first) tokens x.left part column x.right) at.2
      ∙ ap (follows_in nullable (related first) tokens row.left part column) e
      ∙ follows_in-at nullable (related first) tokens row.left part column front back h in
      related-base part column p c
      ∙ or_right ((part == start) && (column == tokens)) (list_any
      (λ (x : Row). follows_in nullable (related first) tokens x.left part column x.right.items) rows)
      (any_passes_from_place
      (λ (x : Row). follows_in nullable (related first) tokens x.left part column x.right.items) rows r at.0 at.1 found)

  -- what the base holds, and why
  pub data Reason (part column : ℕ) : Type 0 where
    at_end : part ≡ start → column ≡ tokens → Reason part column
    in_row : (r : ℕ) (row : Production) (front back : List Symbol) → slice_get (productions rows) r ≡ Some row
        → row.right ≡ front ++ Part part ∷ back →
        continues nullable (related first) tokens row.left column back ≡ true → Reason part column

  reason : (part column : ℕ) → related base part column ≡ true → Reason part column
  reason part column h =
      let b = related-bounds base part column h in
      let p : part < parts = let e = follows.base_is.same_parts in omega arith in
      let c : column < part_column tokens parts = let e = follows.base_is.same_parts in let t =
      follows.base_is.same_tokens in omega arith in
      elim (or_cases ((part == start) && (column == tokens))
      (list_any (λ (x : Row). follows_in nullable (related first) tokens x.left part column x.right.items) rows)
      (sym (related-base part column p c) ∙ h)) [
        | inl last ↦
            let both = and_parts (part == start) (column == tokens) last in
            at_end (eqb-true part start both.0) (eqb-true column tokens both.1)
        | inr in_some ↦
            let found = list_any-at (λ (x : Row). follows_in nullable (related first) tokens x.left part column x.right.items) rows
            in_some in
            let at = FollowsAt-follows_in nullable (related first) tokens found.1.left part column found.1.right.items found.3 in
            in_row found.0 (production_of found.1) at.front at.back (at_map production_of rows found.0 found.1 found.2) at.split at.goes_on
      ]

  back_in_range : (r : ℕ) (row : Production) (front back : List Symbol) (part : ℕ) → slice_get (productions rows) r ≡ Some row
      → row.right ≡ front ++ Part part ∷ back → InRange parts tokens back
  back_in_range r row front back part is e =
      let all = right-InRange made.ranges r row is in
      let from_part = (list_all-split (is_in_range parts tokens) front (Part part ∷ back) (rw e at all)).1 in
      (and_parts (nat_lt part parts) (list_all (is_in_range parts tokens) back) from_part).1

  MayFollow-reason : (part column : ℕ) → column ≤ tokens → Reason part column → MayFollow (grammar_of rows parts tokens start) part column
  MayFollow-reason part column le (at_end is_start is_end) =
      subst (λ (p : ℕ). MayFollow (grammar_of rows parts tokens start) p column) (sym is_start)
      (subst (λ (c : ℕ). MayFollow (grammar_of rows parts tokens start) start c) (sym is_end) ends)
  MayFollow-reason part column le (in_row r row front back is e h) =
      elim (or_cases (nat_lt column tokens && begins nullable (related first) tokens column back)
      ((part_column tokens row.left == column) && all_marked nullable false back) h) [
        | inl goes_on ↦
            let both = and_parts (nat_lt column tokens) (begins nullable (related first) tokens column back) goes_on in
            before r row front back part column is e
            (Begins-begins rows parts tokens nullable none corners first made productive back column
            (back_in_range r row front back part is e) le both.1)
        | inr led ↦
            let same = eqb-true (part_column tokens row.left) column
            (and_parts (part_column tokens row.left == column) (all_marked nullable false back) led).0 in
            absurd (omega arith)
      ]

  -- a part's followers come from another part whose followers they are
  MayFollow-through : (part middle column : ℕ) → Reason part (part_column base.tokens middle) →
      MayFollow (grammar_of rows parts tokens start) middle column → MayFollow (grammar_of rows parts tokens start) part column
  MayFollow-through part middle column (at_end is_start is_end) m = let t = follows.base_is.same_tokens in absurd (omega arith)
  MayFollow-through part middle column (in_row r row front back is e h) m =
      let t = follows.base_is.same_tokens in
      elim (or_cases (nat_lt (part_column base.tokens middle) tokens
      && begins nullable (related first) tokens (part_column base.tokens middle) back)
      ((part_column tokens row.left == part_column base.tokens middle) && all_marked nullable false back) h) [
        | inl goes_on ↦
            let lt = ltb-true (part_column base.tokens middle) tokens
            (and_parts (nat_lt (part_column base.tokens middle) tokens)
            (begins nullable (related first) tokens (part_column base.tokens middle) back) goes_on).0 in
            absurd (omega arith)
        | inr led ↦
            let both = and_parts (part_column tokens row.left == part_column base.tokens middle) (all_marked nullable false back) led in
            let columns = eqb-true (part_column tokens row.left) (part_column base.tokens middle) both.0 in
            let same : middle ≡ row.left = omega arith in
            behind r row front back part column is e (IsNullable-all_marked (productions rows) nullable made.decides back both.1)
            (subst (λ (p : ℕ). MayFollow (grammar_of rows parts tokens start) p column) same m)
      ]

  MayFollow-Leads : (part column : ℕ) → RelationLeads base part column → column ≤ tokens
      → MayFollow (grammar_of rows parts tokens start) part column
  MayFollow-Leads part column (here p c h) le = MayFollow-reason p c le (reason p c h)
  MayFollow-Leads part column (through p m c h rest) le =
      MayFollow-through p m c (reason p (part_column base.tokens m) h) (MayFollow-Leads m c rest le)

  pub MayFollow-related : (part column : ℕ) → column ≤ tokens → related follow part column ≡ true
      → MayFollow (grammar_of rows parts tokens start) part column
  MayFollow-related part column le h = MayFollow-Leads part column (follows.closed.sound part column h) le

  -- what begins a list in range is a token in range
  token_below : (symbols : List Symbol) (token : ℕ) → InRange parts tokens symbols → CanBeginWith (productions rows) symbols token
      → token < tokens
  token_below symbols token in_range b =
      let all = AreTokens-leaves made.ranges b.0 symbols b.2 in_range in
      let own = ap (list_all (λ (t : ℕ). nat_lt t tokens)) (sym b.3) ∙ all in
      ltb-true token tokens (and_parts (nat_lt token tokens) (list_all (λ (t : ℕ). nat_lt t tokens) b.1) own).0

  pub Leads-MayFollow : (part column : ℕ) → MayFollow (grammar_of rows parts tokens start) part column → RelationLeads base part column
  Leads-MayFollow part column ends =
      here start tokens (related-base start tokens follows.start_below (omega arith)
      ∙ or_left ((start == start) && (tokens == tokens)) (list_any
      (λ (x : Row). follows_in nullable (related first) tokens x.left start tokens x.right.items) rows)
      (and_from (start == start) (tokens == tokens) (eq-eqb start start refl) (eq-eqb tokens tokens refl)))
  Leads-MayFollow part column (before r row front back p t is e b) =
      let lt = token_below back t (back_in_range r row front back p is e) b in
      here p t (from_row r row front back p t is e (omega arith)
      (or_left (nat_lt t tokens && begins nullable (related first) tokens t back)
      ((part_column tokens row.left == t) && all_marked nullable false back)
      (and_from (nat_lt t tokens) (begins nullable (related first) tokens t back) (lt-ltb t tokens lt)
      (begins-Begins rows parts tokens nullable none corners first made back t b))))
  Leads-MayFollow part column (behind r row front back p t is e nothing m) =
      let below = left-below made.ranges r row is in
      let step = from_row r row front back p (part_column tokens row.left) is e (omega arith)
      (or_right (nat_lt (part_column tokens row.left) tokens && begins nullable (related first) tokens (part_column tokens row.left) back)
      ((part_column tokens row.left == part_column tokens row.left) && all_marked nullable false back)
      (and_from (part_column tokens row.left == part_column tokens row.left) (all_marked nullable false back)
      (eq-eqb (part_column tokens row.left) (part_column tokens row.left) refl)
      (all_marked-IsNullable (productions rows) nullable made.decides back nothing))) in
      through p row.left t (subst (λ (k : ℕ). related base p (part_column k row.left) ≡ true) (sym follows.base_is.same_tokens) step)
      (Leads-MayFollow row.left t m)

  pub related-MayFollow : (part column : ℕ) → MayFollow (grammar_of rows parts tokens start) part column → related follow part column ≡ true
  related-MayFollow part column m = follows.closed.complete part column (Leads-MayFollow part column m)
