-- The closed relation of the parts to the symbols with which their rows begin says what lists of symbols begin with.
use Rattle.std.proofs.Common.{◌≡◌, ℕ, ◌<◌, ◌≤◌, ◌==◌, Bool, true, false, ◌||◌, ◌&&◌, List, [], ◌∷◌, ◌++◌, refl, ap, sym, ◌∙◌, subst, arith, inl, inr, append_assoc}
use Rattle.std.specs.Prelude.{Some, slice_get, ◌⊎◌}
use Rattle.std.specs.List.{list_all}
use Rattle.std.proofs.lemmas.List.{append-nil}
use Rattle.std.proofs.lemmas.Bool.{or_cases, or_left, or_right, and_parts, and_from, both_ways, eqb-true, eq-eqb, ltb-true}
use Rattle.std.proofs.lemmas.Map.Keys.{any_passes_from_place}
use Rattle.lotos_base.proofs.Tests.{list_any-at}
use Rattle.lotos_base.proofs.Members.{from_map, at_map}
use Rattle.ll_engine.specs.declared.symbol.Symbol.{Symbol}
use Rattle.ll_engine.specs.declared.symbol.Symbol.TheVariants.{Token, Part}
use Rattle.ll_engine.specs.declared.symbol.Row.{Row}
use Rattle.ll_engine.specs.declared.relation.Relation.{Relation}
use Rattle.ll_engine.specs.Derivation.{Production, Forest, empty, leaf, node, DerivesSymbols, leaves}
use Rattle.ll_engine.specs.Prediction.{CanBeginWith}
use Rattle.ll_engine.specs.View.{is_in_range, production_of, productions}
use Rattle.ll_engine.specs.Computed.{part_column, all_marked, begins, has_corner}
use Rattle.ll_engine.specs.Related.{related, HasCells, RelationLeads, here, through, IsClosureOf}
use Rattle.ll_engine.proofs.Forests.{beside, leaves-beside, Derives-beside}
use Rattle.ll_engine.proofs.Closure.{related-bounds, related-HasCells}
use Rattle.ll_engine.proofs.Ranges.{RowsInRange, InRange, left-below, right-InRange, list_all-split, AllProductive, trees_of}
use Rattle.ll_engine.proofs.Nullable.{DecidesNullable, IsNullable-all_marked}
use Rattle.ll_engine.proofs.Begins.{starts_symbol, BeginsAt-begins, begins-at}

-- what the relation was made of
pub record IsFirstOf (rows : List Row) (parts tokens : ℕ) (nullable : ℕ → Bool) (none : ℕ → ℕ → Bool) (base first : Relation) : Type 0 where
  pub ranges : RowsInRange (productions rows) parts tokens
  pub decides : DecidesNullable (productions rows) nullable
  pub none_is : (part column : ℕ) → none part column ≡ false
  pub base_is : HasCells base (has_corner rows nullable none tokens) parts tokens
  pub closed : IsClosureOf base first

-- a row of the part begins with the column's symbol, behind a nullable front
pub record IsCorner (rows : List Production) (nullable : ℕ → Bool) (part : ℕ) (symbol : Symbol) : Type 0 where
  pub number : ℕ
  pub row : Production
  pub is_row : slice_get rows number ≡ Some row
  pub left_is : row.left ≡ part
  pub front : List Symbol
  pub back : List Symbol
  pub split : row.right ≡ front ++ symbol ∷ back
  pub nullable_front : all_marked nullable false front ≡ true

-- which of two joined lists the first element is from
append_cons : (t : ℕ) (r : List ℕ) (xs ys : List ℕ) → xs ++ ys ≡ t ∷ r → ((xs ≡ []) × (ys ≡ t ∷ r)) ⊎ ((zs : List ℕ) × (xs ≡ t ∷ zs))
append_cons t r [] ys e = inl (refl, e)
append_cons t r (x ∷ xs) ys e = let same : x ≡ t = cc in inr (xs, ap (λ (y : ℕ). y ∷ xs) same)

module _ (rows : List Row) (parts tokens : ℕ) (nullable : ℕ → Bool) (none : ℕ → ℕ → Bool) (base first : Relation)
    (made : IsFirstOf rows parts tokens nullable none base first) where
  -- the number of columns in front of the parts' is that of the relation
  base_tokens : base.tokens ≡ tokens
  base_tokens = made.base_is.same_tokens

  related-base : (part column : ℕ) → part < parts → column < part_column tokens parts
      → related base part column ≡ has_corner rows nullable none tokens part column
  related-base part column p c = related-HasCells base (has_corner rows nullable none tokens) parts tokens part column made.base_is p c

  base-from_row : (r : ℕ) (row : Production) (column : ℕ) → slice_get (productions rows) r ≡ Some row → column < part_column tokens parts →
      begins nullable none tokens column row.right ≡ true → related base row.left column ≡ true
  base-from_row r row column is c h =
      let at = from_map production_of rows r row is in
      let left : at.0.left ≡ row.left = ap (λ (x : Production). x.left) at.2 in
      let right : at.0.right.items ≡ row.right = ap (λ (x : Production). x.right) at.2 in
      related-base row.left column (left-below made.ranges r row is) c
      ∙ any_passes_from_place (λ (x : Row). (x.left == row.left) && begins nullable none tokens column x.right.items) rows r at.0 at.1
      (and_from (at.0.left == row.left) (begins nullable none tokens column at.0.right.items) (eq-eqb at.0.left row.left left)
      (ap (begins nullable none tokens column) right ∙ h))

  base-row : (part column : ℕ) → related base part column ≡ true →
      (r : ℕ) × (row : Production) × (slice_get (productions rows) r ≡ Some row) × (row.left ≡ part)
      × (begins nullable none tokens column row.right ≡ true)
  base-row part column h =
      let b = related-bounds base part column h in
      let p : part < parts = let e = made.base_is.same_parts in omega arith in
      let c : column < part_column tokens parts = let e = made.base_is.same_parts in let t = made.base_is.same_tokens in omega arith in
      let any = sym (related-base part column p c) ∙ h in
      let at = list_any-at (λ (x : Row). (x.left == part) && begins nullable none tokens column x.right.items) rows any in
      let both = and_parts (at.1.left == part) (begins nullable none tokens column at.1.right.items) at.3 in
      (at.0, production_of at.1, at_map production_of rows at.0 at.1 at.2, eqb-true at.1.left part both.0, both.1)

  -- a row that begins with a column: its part has the column
  pub first-row : (r : ℕ) (row : Production) (column : ℕ) → slice_get (productions rows) r ≡ Some row →
      begins nullable (related first) tokens column row.right ≡ true → related first row.left column ≡ true
  first-row r row column is h =
      let at = BeginsAt-begins nullable (related first) tokens column row.right h in
      by_symbol at.front at.symbol at.back at.split at.nullable_front at.starts
    where
      in_range : (front : List Symbol) (symbol : Symbol) (back : List Symbol) → row.right ≡ front ++ symbol ∷ back
          → is_in_range parts tokens symbol ≡ true
      in_range front symbol back e =
          let all = right-InRange made.ranges r row is in
          let behind = (list_all-split (is_in_range parts tokens) front (symbol ∷ back) (rw e at all)).1 in
          (and_parts (is_in_range parts tokens symbol) (list_all (is_in_range parts tokens) back) behind).0

      from_base : (front : List Symbol) (symbol : Symbol) (back : List Symbol) (c : ℕ) → c < part_column tokens parts
          → row.right ≡ front ++ symbol ∷ back → all_marked nullable false front ≡ true →
          starts_symbol none tokens c symbol ≡ true → related base row.left c ≡ true
      from_base front symbol back c lt e front_null starts =
          base-from_row r row c is lt (ap (begins nullable none tokens c) e
          ∙ begins-at nullable none tokens c front symbol back front_null starts)

      by_symbol : (front : List Symbol) (symbol : Symbol) (back : List Symbol) → row.right ≡ front ++ symbol ∷ back
          → all_marked nullable false front ≡ true →
          starts_symbol (related first) tokens column symbol ≡ true → related first row.left column ≡ true
      by_symbol front (Token t) back e front_null starts =
          let lt = ltb-true t tokens (in_range front (Token t) back e) in
          let same = eqb-true t column starts in
          made.closed.complete row.left column (here row.left column
          (from_base front (Token t) back column (omega arith) e front_null starts))
      by_symbol front (Part p) back e front_null starts =
          let lt = ltb-true p parts (in_range front (Part p) back e) in
          elim (or_cases (part_column tokens p == column) (related first p column) starts) [
            | inl is_column ↦
                let same = eqb-true (part_column tokens p) column is_column in
                made.closed.complete row.left column (here row.left column
                (from_base front (Part p) back column (omega arith) e front_null
                (or_left (part_column tokens p == column) (none p column) is_column)))
            | inr led ↦
                let step = from_base front (Part p) back (part_column tokens p) (omega arith) e front_null
                (or_left (part_column tokens p == part_column tokens p) (none p (part_column tokens p))
                (eq-eqb (part_column tokens p) (part_column tokens p) refl)) in
                made.closed.complete row.left column
                (through row.left p column (subst (λ (k : ℕ). related base row.left (part_column k p) ≡ true) (sym base_tokens) step)
                (made.closed.sound p column led))
          ]

  -- what a list of symbols derives: the test says with what that begins
  pub begins-leaves : (f : Forest) (symbols : List Symbol) (token : ℕ) (rest : List ℕ) → DerivesSymbols (productions rows) f symbols
      → leaves f ≡ token ∷ rest →
      begins nullable (related first) tokens token symbols ≡ true
  begins-leaves empty symbols token rest d e = absurd (cc)
  begins-leaves (leaf t after) [] token rest d e = absurd d
  begins-leaves (leaf t after) (Token u ∷ symbols) token rest d e = let same : t ≡ token = cc in eq-eqb u token (sym d.0 ∙ same)
  begins-leaves (leaf t after) (Part p ∷ symbols) token rest d e = absurd d
  begins-leaves (node r below after) [] token rest d e = absurd d
  begins-leaves (node r below after) (Token u ∷ symbols) token rest d e = absurd d
  begins-leaves (node r below after) (Part p ∷ symbols) token rest d e =
      elim (append_cons token rest (leaves below) (leaves after) e) [
        | inl behind ↦
            let later = begins-leaves after symbols token rest d.4 behind.1 in
            let lower = made.decides.complete p (node r below empty, (d.0, d.1, d.2, d.3, tt), ap (λ (xs : List ℕ). xs ++ []) behind.0) in
            or_right ((part_column tokens p == token) || related first p token)
            (nullable p && begins nullable (related first) tokens token symbols)
            (and_from (nullable p) (begins nullable (related first) tokens token symbols) lower later)
        | inr within ↦
            let row = begins-leaves below d.0.right token within.0 d.3 within.1 in
            let led = first-row r d.0 token d.1 row in
            or_left ((part_column tokens p == token) || related first p token)
            (nullable p && begins nullable (related first) tokens token symbols)
            (or_right (part_column tokens p == token) (related first p token) (ap (λ (q : ℕ). related first q token) (sym d.2) ∙ led))
      ]

  pub begins-Begins : (symbols : List Symbol) (token : ℕ) → CanBeginWith (productions rows) symbols token
      → begins nullable (related first) tokens token symbols ≡ true
  begins-Begins symbols token b = begins-leaves b.0 symbols token b.1 b.2 b.3

  -- the corners that the relation was made of
  pub corner-base : (part column : ℕ) → related base part column ≡ true →
      (symbol : Symbol) × IsCorner (productions rows) nullable part symbol × (starts_symbol none tokens column symbol ≡ true)
  corner-base part column h =
      let row = base-row part column h in
      let at = BeginsAt-begins nullable none tokens column row.1.right row.4 in (
        at.symbol,
        record {
          number = row.0;
          row = row.1;
          is_row = row.2;
          left_is = row.3;
          front = at.front;
          back = at.back;
          split = at.split;
          nullable_front = at.nullable_front;
        },
        at.starts,
      )

  corner_in_range : (part : ℕ) (symbol : Symbol) → IsCorner (productions rows) nullable part symbol → is_in_range parts tokens symbol ≡ true
  corner_in_range part symbol corner =
      let all = right-InRange made.ranges corner.number corner.row corner.is_row in
      let behind = (list_all-split (is_in_range parts tokens) corner.front (symbol ∷ corner.back) (rw corner.split at all)).1 in
      (and_parts (is_in_range parts tokens symbol) (list_all (is_in_range parts tokens) corner.back) behind).0

  pub corner-part : (part middle : ℕ) → related base part (part_column base.tokens middle) ≡ true
      → IsCorner (productions rows) nullable part (Part middle)
  corner-part part middle h =
      let corner = corner-base part (part_column base.tokens middle) h in
      by_symbol corner.0 corner.1 corner.2
    where
      by_symbol : (symbol : Symbol) → IsCorner (productions rows) nullable part symbol
          → starts_symbol none tokens (part_column base.tokens middle) symbol ≡ true →
          IsCorner (productions rows) nullable part (Part middle)
      by_symbol (Token t) corner starts =
          let lt = ltb-true t tokens (corner_in_range part (Token t) corner) in
          let same = eqb-true t (part_column base.tokens middle) starts in
          let e = base_tokens in
          absurd (omega arith)
      by_symbol (Part p) corner starts =
          elim (or_cases (part_column tokens p == part_column base.tokens middle) (none p (part_column base.tokens middle)) starts) [
            | inl is_column ↦
                let same = eqb-true (part_column tokens p) (part_column base.tokens middle) is_column in
                let e = base_tokens in
                let equal : p ≡ middle = omega arith in
                subst (λ (q : ℕ). IsCorner (productions rows) nullable part (Part q)) equal corner
            | inr empty_relation ↦ absurd (both_ways (none p (part_column base.tokens middle))
                (made.none_is p (part_column base.tokens middle)) empty_relation)
          ]

  -- the other way, where every part derives something
  module _ (productive : AllProductive (productions rows) parts) where
    -- what a corner's symbol begins with, the list does
    Begins-at : (front : List Symbol) (symbol : Symbol) (back symbols : List Symbol) (token : ℕ) → symbols ≡ front ++ symbol ∷ back →
        InRange parts tokens symbols → all_marked nullable false front ≡ true → CanBeginWith (productions rows) (symbol ∷ []) token
        → CanBeginWith (productions rows) symbols token
    Begins-at front symbol back symbols token e in_range front_null b =
        let empties = IsNullable-all_marked (productions rows) nullable made.decides front front_null in
        let ranges = (list_all-split (is_in_range parts tokens) (front ++ symbol ∷ []) back (rw append_assoc (rw e at in_range))).1 in
        let after = trees_of (productions rows) parts tokens productive back ranges in
        let middle = Derives-beside (productions rows) b.0 after.0 (symbol ∷ []) back b.2 after.1 in
        let whole = Derives-beside (productions rows) empties.0 (beside b.0 after.0) front (symbol ∷ back) empties.1 middle in (
          beside empties.0 (beside b.0 after.0),
          b.1 ++ leaves after.0,
          subst (λ (xs : List Symbol). DerivesSymbols (productions rows) (beside empties.0 (beside b.0 after.0)) xs) (sym e) whole,
          leaves-beside empties.0 (beside b.0 after.0)
              ∙ ap (λ (xs : List ℕ). xs ++ leaves (beside b.0 after.0)) empties.2
              ∙ leaves-beside b.0 after.0
              ∙ ap (λ (xs : List ℕ). xs ++ leaves after.0) b.3,
        )

    Begins-row : (r : ℕ) (row : Production) (token : ℕ) → slice_get (productions rows) r ≡ Some row
        → CanBeginWith (productions rows) row.right token → CanBeginWith (productions rows) (Part row.left ∷ []) token
    Begins-row r row token is b = (
      node r b.0 empty,
      b.1,
      (row, is, refl, b.2, tt),
      ap (λ (xs : List ℕ). xs ++ []) b.3 ∙ append-nil (token ∷ b.1),
    )

    Begins-corner : (part : ℕ) (symbol : Symbol) (token : ℕ) → IsCorner (productions rows) nullable part symbol →
        CanBeginWith (productions rows) (symbol ∷ []) token → CanBeginWith (productions rows) (Part part ∷ []) token
    Begins-corner part symbol token corner b =
        let right = Begins-at corner.front symbol corner.back corner.row.right token corner.split
        (right-InRange made.ranges corner.number corner.row corner.is_row) corner.nullable_front b in
        subst (λ (p : ℕ). CanBeginWith (productions rows) (Part p ∷ []) token) corner.left_is
        (Begins-row corner.number corner.row token corner.is_row right)

    Begins-symbol : (column : ℕ) (symbol : Symbol) → column ≤ tokens → starts_symbol none tokens column symbol ≡ true
        → CanBeginWith (productions rows) (symbol ∷ []) column
    Begins-symbol column (Token t) le starts = (leaf t empty, [], (refl, tt), ap (λ (x : ℕ). x ∷ []) (eqb-true t column starts))
    Begins-symbol column (Part p) le starts =
        elim (or_cases (part_column tokens p == column) (none p column) starts) [
          | inl is_column ↦ let same = eqb-true (part_column tokens p) column is_column in absurd (omega arith)
          | inr empty_relation ↦ absurd (both_ways (none p column) (made.none_is p column) empty_relation)
        ]

    -- the column of a token, or of the end
    Begins-Leads : (part token : ℕ) → RelationLeads base part token → token ≤ tokens
        → CanBeginWith (productions rows) (Part part ∷ []) token
    Begins-Leads part token (here p c h) le =
        let corner = corner-base p c h in
        Begins-corner p corner.0 c corner.1 (Begins-symbol c corner.0 le corner.2)
    Begins-Leads part token (through p m c h rest) le =
        Begins-corner p (Part m) c (corner-part p m h) (Begins-Leads m c rest le)

    -- what the test finds, the list begins with
    pub Begins-begins : (symbols : List Symbol) (token : ℕ) → InRange parts tokens symbols → token ≤ tokens →
        begins nullable (related first) tokens token symbols ≡ true → CanBeginWith (productions rows) symbols token
    Begins-begins symbols token in_range le h =
        let at = BeginsAt-begins nullable (related first) tokens token symbols h in
        Begins-at at.front at.symbol at.back symbols token at.split in_range at.nullable_front (by_symbol at.symbol at.starts)
      where
        by_symbol : (symbol : Symbol) → starts_symbol (related first) tokens token symbol ≡ true
            → CanBeginWith (productions rows) (symbol ∷ []) token
        by_symbol (Token t) starts = (leaf t empty, [], (refl, tt), ap (λ (x : ℕ). x ∷ []) (eqb-true t token starts))
        by_symbol (Part p) starts =
            elim (or_cases (part_column tokens p == token) (related first p token) starts) [
              | inl is_column ↦ let same = eqb-true (part_column tokens p) token is_column in absurd (omega arith)
              | inr led ↦ Begins-Leads p token (made.closed.sound p token led) le
            ]
