-- Grammars whose numbers are in range: their trees have tokens in range, and where every part derives something, so does every list.
use Rattle.std.proofs.Common.{◌≡◌, ℕ, ◌<◌, Bool, true, ◌&&◌, List, [], ◌∷◌, ◌++◌, refl, ap, ◌∙◌}
use Rattle.std.specs.Prelude.{nat_lt, Some, slice_get}
use Rattle.std.specs.List.{list_all}
use Rattle.std.proofs.lemmas.Bool.{and_parts, and_from, ltb-true}
use Rattle.lotos_base.proofs.Tests.{list_all-at}
use Rattle.ll_engine.specs.declared.symbol.Symbol.{Symbol}
use Rattle.ll_engine.specs.declared.symbol.Symbol.TheVariants.{Token, Part}
use Rattle.ll_engine.specs.Derivation.{Production, Forest, empty, leaf, node, DerivesSymbols, leaves}
use Rattle.ll_engine.specs.Language.{ContextFree}
use Rattle.ll_engine.specs.View.{is_in_range, is_row_in_range, is_well_formed}
use Rattle.ll_engine.proofs.Forests.{beside, Derives-beside}

pub list_all-split : {X : Type 0} (p : X → Bool) (xs ys : List X) → list_all p (xs ++ ys) ≡ true → (list_all p xs ≡ true)
    × (list_all p ys ≡ true)
list_all-split p [] ys h = (refl, h)
list_all-split p (x ∷ xs) ys h =
    let parts = and_parts (p x) (list_all p (xs ++ ys)) h in
    let rest = list_all-split p xs ys parts.1 in
    (and_from (p x) (list_all p xs) parts.0 rest.0, rest.1)

pub list_all-join : {X : Type 0} (p : X → Bool) (xs ys : List X) → list_all p xs ≡ true → list_all p ys ≡ true
    → list_all p (xs ++ ys) ≡ true
list_all-join p [] ys h g = g
list_all-join p (x ∷ xs) ys h g =
    let parts = and_parts (p x) (list_all p xs) h in
    and_from (p x) (list_all p (xs ++ ys)) parts.0 (list_all-join p xs ys parts.1 g)

-- each row has its numbers in range
pub record RowsInRange (rows : List Production) (parts tokens : ℕ) : Type 0 where
  pub each : (r : ℕ) (row : Production) → slice_get rows r ≡ Some row → is_row_in_range parts tokens row ≡ true

abbrev pub InRange : ℕ → ℕ → List Symbol → Type 0
InRange parts tokens symbols = list_all (is_in_range parts tokens) symbols ≡ true

pub left-below : {rows : List Production} {parts tokens : ℕ} → RowsInRange rows parts tokens → (r : ℕ) (row : Production)
    → slice_get rows r ≡ Some row → row.left < parts
left-below {rows} {parts} {tokens} ranges r row is =
    ltb-true row.left parts (and_parts (nat_lt row.left parts) (list_all (is_in_range parts tokens) row.right) (ranges.each r row is)).0

pub right-InRange : {rows : List Production} {parts tokens : ℕ} → RowsInRange rows parts tokens → (r : ℕ) (row : Production)
    → slice_get rows r ≡ Some row → InRange parts tokens row.right
right-InRange {rows} {parts} {tokens} ranges r row is =
    (and_parts (nat_lt row.left parts) (list_all (is_in_range parts tokens) row.right) (ranges.each r row is)).1

pub RowsInRange-well_formed : (g : ContextFree) → is_well_formed g ≡ true → RowsInRange g.rows g.parts g.tokens
RowsInRange-well_formed g h = record {
  each = λ r row is.
      list_all-at (is_row_in_range g.parts g.tokens) g.rows r row
      (and_parts (list_all (is_row_in_range g.parts g.tokens) g.rows) (nat_lt g.start g.parts && nat_lt g.tokens 65535) h).0 is;
}

pub start-below : (g : ContextFree) → is_well_formed g ≡ true → g.start < g.parts
start-below g h =
    let rest = (and_parts (list_all (is_row_in_range g.parts g.tokens) g.rows) (nat_lt g.start g.parts && nat_lt g.tokens 65535) h).1 in
    ltb-true g.start g.parts (and_parts (nat_lt g.start g.parts) (nat_lt g.tokens 65535) rest).0

-- the tokens that are derived are in range
abbrev pub AreTokens : ℕ → List ℕ → Type 0
AreTokens tokens list = list_all (λ (t : ℕ). nat_lt t tokens) list ≡ true

pub AreTokens-leaves : {rows : List Production} {parts tokens : ℕ} → RowsInRange rows parts tokens → (f : Forest) (symbols : List Symbol) →
    DerivesSymbols rows f symbols → InRange parts tokens symbols → AreTokens tokens (leaves f)
AreTokens-leaves ranges empty symbols d h = refl
AreTokens-leaves ranges (leaf t rest) [] d h = absurd d
AreTokens-leaves {rows} {parts} {tokens} ranges (leaf t rest) (Token u ∷ symbols) d h =
    let own = and_parts (nat_lt u tokens) (list_all (is_in_range parts tokens) symbols) h in
    and_from (nat_lt t tokens) (list_all (λ (x : ℕ). nat_lt x tokens) (leaves rest)) (ap (λ (x : ℕ). nat_lt x tokens) d.0 ∙ own.0)
    (AreTokens-leaves ranges rest symbols d.1 own.1)
AreTokens-leaves ranges (leaf t rest) (Part p ∷ symbols) d h = absurd d
AreTokens-leaves ranges (node r below rest) [] d h = absurd d
AreTokens-leaves ranges (node r below rest) (Token u ∷ symbols) d h = absurd d
AreTokens-leaves {rows} {parts} {tokens} ranges (node r below rest) (Part p ∷ symbols) d h =
    let own = and_parts (nat_lt p parts) (list_all (is_in_range parts tokens) symbols) h in
    list_all-join (λ (x : ℕ). nat_lt x tokens) (leaves below) (leaves rest)
    (AreTokens-leaves ranges below d.0.right d.3 (right-InRange ranges r d.0 d.1))
    (AreTokens-leaves ranges rest symbols d.4 own.1)

-- where every part derives something, every list in range does
abbrev pub AllProductive : List Production → ℕ → Type 0
AllProductive rows parts = (part : ℕ) → part < parts → (tree : Forest) × DerivesSymbols rows tree (Part part ∷ [])

pub trees_of : (rows : List Production) (parts tokens : ℕ) → AllProductive rows parts → (symbols : List Symbol)
    → InRange parts tokens symbols → (f : Forest) × DerivesSymbols rows f symbols
trees_of rows parts tokens productive [] h = (empty, tt)
trees_of rows parts tokens productive (Token t ∷ symbols) h =
    let own = and_parts (nat_lt t tokens) (list_all (is_in_range parts tokens) symbols) h in
    let rest = trees_of rows parts tokens productive symbols own.1 in
    (leaf t rest.0, (refl, rest.1))
trees_of rows parts tokens productive (Part p ∷ symbols) h =
    let own = and_parts (nat_lt p parts) (list_all (is_in_range parts tokens) symbols) h in
    let tree = productive p (ltb-true p parts own.0) in
    let rest = trees_of rows parts tokens productive symbols own.1 in
    (beside tree.0 rest.0, Derives-beside rows tree.0 rest.0 (Part p ∷ []) symbols tree.1 rest.1)
