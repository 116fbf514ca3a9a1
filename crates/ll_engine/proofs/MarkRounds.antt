-- The rounds that mark parts: what they mark derives, and once a round marks nothing more, what derives is marked.
use Rattle.std.proofs.Common.{◌≡◌, ℕ, zero, suc, ◌<◌, ◌≤◌, ◌==◌, Bool, true, false, ◌&&◌, List, [], ◌∷◌, ◌++◌, length, refl, ap, sym, ◌∙◌, arith, map, replicate}
use Rattle.std.specs.Prelude.{Some, slice_get}
use Rattle.std.specs.List.{range_with_len}
use Rattle.std.proofs.lemmas.Bool.{false≢true, or_cases, or_left, or_right, and_parts, and_from, eqb-true, eq-eqb, both_ways, cases_lt}
use Rattle.std.proofs.Common.{inl, inr}
use Rattle.std.proofs.lemmas.List.FromFn.{get_or-map-range_with_len, length-map-range_with_len}
use Rattle.std.proofs.lemmas.List.{get_or_past, get_or-replicate, length-replicate}
use Rattle.std.proofs.lemmas.Map.Keys.{any_passes_from_place}
use Rattle.lotos_base.proofs.Tests.{list_any-at}
use Rattle.lotos_base.proofs.Members.{from_map, at_map}
use Rattle.ll_engine.specs.declared.symbol.Symbol.{Symbol}
use Rattle.ll_engine.specs.declared.symbol.Symbol.TheVariants.{Token, Part}
use Rattle.ll_engine.specs.declared.symbol.Row.{Row}
use Rattle.ll_engine.specs.Derivation.{Production, Forest, empty, leaf, node, DerivesSymbols, leaves}
use Rattle.ll_engine.specs.View.{production_of, productions}
use Rattle.ll_engine.specs.Computed.{is_marked, all_marked, has_marked_row, next_mark}
use Rattle.ll_engine.specs.Answers.{DerivesPassing, AreDeriving, HasPartsBelow}
use Rattle.ll_engine.proofs.Forests.{beside, leaves-beside, Derives-beside}
use Rattle.ll_engine.proofs.Lists.{IsWithin, set_count, set_count-le, same_from_set_count}

-- two lists joined are empty only where both are
pub append_nil : {X : Type 0} (xs ys : List X) → xs ++ ys ≡ [] → (xs ≡ []) × (ys ≡ [])
append_nil [] ys e = (refl, e)
append_nil (x ∷ xs) ys e = absurd (cc)

-- what passes symbol by symbol derives
pub DerivesPassing-all_marked : (rows : List Production) (passing : Bool) (marked : ℕ → Bool) →
    ((part : ℕ) → marked part ≡ true → DerivesPassing rows passing (Part part ∷ [])) →
    (symbols : List Symbol) → all_marked marked passing symbols ≡ true → DerivesPassing rows passing symbols
DerivesPassing-all_marked rows passing marked sound [] h = (empty, tt, λ _. refl)
DerivesPassing-all_marked rows passing marked sound (Token t ∷ symbols) h =
    let parts = and_parts passing (all_marked marked passing symbols) h in
    let d = DerivesPassing-all_marked rows passing marked sound symbols parts.1 in
    (leaf t d.0, (refl, d.1), λ none. absurd (both_ways passing none parts.0))
DerivesPassing-all_marked rows passing marked sound (Part p ∷ symbols) h =
    let parts = and_parts (marked p) (all_marked marked passing symbols) h in
    let here = sound p parts.0 in
    let d = DerivesPassing-all_marked rows passing marked sound symbols parts.1 in (
      beside here.0 d.0,
      Derives-beside rows here.0 d.0 (Part p ∷ []) symbols here.1 d.1,
      λ none. leaves-beside here.0 d.0 ∙ (let a : leaves here.0 ≡ [] = here.2 none in let b : leaves d.0 ≡ [] = d.2 none in rw (a, b)),
    )

-- a row whose right side derives: its part does
pub DerivesPassing-row : (rows : List Production) (passing : Bool) (r : ℕ) (row : Production) → slice_get rows r ≡ Some row →
    DerivesPassing rows passing row.right → DerivesPassing rows passing (Part row.left ∷ [])
DerivesPassing-row rows passing r row is d =
    (node r d.0 empty, (row, is, refl, d.1, tt), λ none. ap (λ xs. xs ++ []) (d.2 none))

-- a test of rows that some row passes
pub Row-has_marked_row : (rows : List Row) (marked : ℕ → Bool) (passing : Bool) (part : ℕ)
    → has_marked_row rows marked passing part ≡ true →
    (r : ℕ) × (row : Production) × (slice_get (productions rows) r ≡ Some row) × (row.left ≡ part)
    × (all_marked marked passing row.right ≡ true)
Row-has_marked_row rows marked passing part h =
    let at = list_any-at (λ (row : Row). (row.left == part) && all_marked marked passing row.right.items) rows h in
    let parts = and_parts (at.1.left == part) (all_marked marked passing at.1.right.items) at.3 in
    (at.0, production_of at.1, at_map production_of rows at.0 at.1 at.2, eqb-true at.1.left part parts.0, parts.1)

pub has_marked_row-from_row : (rows : List Row) (marked : ℕ → Bool) (passing : Bool) (r : ℕ) (row : Production) →
    slice_get (productions rows) r ≡ Some row → all_marked marked passing row.right ≡ true
    → has_marked_row rows marked passing row.left ≡ true
has_marked_row-from_row rows marked passing r row is h =
    let at = from_map production_of rows r row is in
    let left : at.0.left ≡ row.left = ap (λ (x : Production). x.left) at.2 in
    let right : at.0.right.items ≡ row.right = ap (λ (x : Production). x.right) at.2 in
    any_passes_from_place (λ (x : Row). (x.left == row.left) && all_marked marked passing x.right.items) rows r at.0 at.1
    (and_from (at.0.left == row.left) (all_marked marked passing at.0.right.items) (eq-eqb at.0.left row.left left)
    (ap (all_marked marked passing) right ∙ h))

-- one round keeps the marks sound
pub DerivesPassing-next_mark : (rows : List Row) (marks : List Bool) (passing : Bool) →
    ((part : ℕ) → is_marked marks part ≡ true → DerivesPassing (productions rows) passing (Part part ∷ [])) →
    (part : ℕ) → next_mark rows marks passing part ≡ true → DerivesPassing (productions rows) passing (Part part ∷ [])
DerivesPassing-next_mark rows marks passing sound part h =
    elim (or_cases (is_marked marks part) (has_marked_row rows (is_marked marks) passing part) h) [
      | inl old ↦ sound part old
      | inr new ↦
          let row = Row-has_marked_row rows (is_marked marks) passing part new in
          let d = DerivesPassing-row (productions rows) passing row.0 row.1 row.2
          (DerivesPassing-all_marked (productions rows) passing (is_marked marks) sound row.1.right row.4) in
          rw row.3 at d
    ]

-- where each row that passes has its part marked, all that derives passes
pub all_marked-DerivesPassing : (rows : List Production) (passing : Bool) (marked : ℕ → Bool) →
    ((r : ℕ) (row : Production) → slice_get rows r ≡ Some row → all_marked marked passing row.right ≡ true → marked row.left ≡ true) →
    (trees : Forest) (symbols : List Symbol) → DerivesSymbols rows trees symbols → (passing ≡ false → leaves trees ≡ [])
    → all_marked marked passing symbols ≡ true
all_marked-DerivesPassing rows passing marked closed empty [] d none = refl
all_marked-DerivesPassing rows passing marked closed empty (x ∷ symbols) d none = absurd d
all_marked-DerivesPassing rows passing marked closed (leaf t rest) [] d none = absurd d
all_marked-DerivesPassing rows true marked closed (leaf t rest) (Token u ∷ symbols) d none =
    all_marked-DerivesPassing rows true marked closed rest symbols d.1 (λ e. absurd (false≢true (sym e)))
all_marked-DerivesPassing rows false marked closed (leaf t rest) (Token u ∷ symbols) d none =
    let e = none refl in absurd (cc)
all_marked-DerivesPassing rows passing marked closed (leaf t rest) (Part p ∷ symbols) d none = absurd d
all_marked-DerivesPassing rows passing marked closed (node r below rest) [] d none = absurd d
all_marked-DerivesPassing rows passing marked closed (node r below rest) (Token u ∷ symbols) d none = absurd d
all_marked-DerivesPassing rows passing marked closed (node r below rest) (Part p ∷ symbols) d none =
    let lower = all_marked-DerivesPassing rows passing marked closed below d.0.right d.3
    (λ e. (append_nil (leaves below) (leaves rest) (none e)).0) in
    and_from (marked p) (all_marked marked passing symbols)
    (ap marked (sym d.2) ∙ closed r d.0 d.1 lower)
    (all_marked-DerivesPassing rows passing marked closed rest symbols d.4 (λ e. (append_nil (leaves below) (leaves rest) (none e)).1))

-- the marks after some rounds: one for each part, and each is right
pub record AreSound (rows : List Row) (parts : ℕ) (passing : Bool) (marks : List Bool) : Type 0 where
  pub one_each : length marks ≡ parts
  pub sound : (part : ℕ) → is_marked marks part ≡ true → DerivesPassing (productions rows) passing (Part part ∷ [])

abbrev pub next_round : List Row → ℕ → Bool → List Bool → List Bool
next_round rows parts passing marks = map (next_mark rows marks passing) (range_with_len 0 parts)

pub is_marked-next_round : (rows : List Row) (parts : ℕ) (passing : Bool) (marks : List Bool) (part : ℕ) → part < parts →
    is_marked (next_round rows parts passing marks) part ≡ next_mark rows marks passing part
is_marked-next_round rows parts passing marks part lt =
    get_or-map-range_with_len (next_mark rows marks passing) 0 parts part part false lt (omega arith)

pub is_marked-within : (marks : List Bool) (part : ℕ) → is_marked marks part ≡ true → part < length marks
is_marked-within marks part h =
    elim (cases_lt part (length marks)) [
      | inl lt ↦ lt
      | inr ge ↦ absurd (both_ways (is_marked marks part) (get_or_past marks part false ge) h)
    ]

pub next_round-length : (rows : List Row) (parts : ℕ) (passing : Bool) (marks : List Bool)
    → length (next_round rows parts passing marks) ≡ parts
next_round-length rows parts passing marks = length-map-range_with_len (next_mark rows marks passing) 0 parts

pub IsWithin-next_round : (rows : List Row) (parts : ℕ) (passing : Bool) (marks : List Bool) → length marks ≡ parts
    → IsWithin marks (next_round rows parts passing marks)
IsWithin-next_round rows parts passing marks len part h =
    let lt = is_marked-within marks part h in
    is_marked-next_round rows parts passing marks part (omega arith)
    ∙ or_left (is_marked marks part) (has_marked_row rows (is_marked marks) passing part) h

pub AreSound-next_round : (rows : List Row) (parts : ℕ) (passing : Bool) (marks : List Bool) → AreSound rows parts passing marks
    → AreSound rows parts passing (next_round rows parts passing marks)
AreSound-next_round rows parts passing marks s = record {
  one_each = next_round-length rows parts passing marks;
  sound = λ part h.
      let lt = is_marked-within (next_round rows parts passing marks) part h in
      let below : part < parts = omega (arith, next_round-length rows parts passing marks) in
      DerivesPassing-next_mark rows marks passing s.sound part (sym (is_marked-next_round rows parts passing marks part below) ∙ h);
}

-- no round loses a mark
pub set_count-next_round : (rows : List Row) (parts : ℕ) (passing : Bool) (marks : List Bool) → length marks ≡ parts →
    set_count marks ≤ set_count (next_round rows parts passing marks)
set_count-next_round rows parts passing marks len =
    set_count-le marks (next_round rows parts passing marks) (len ∙ sym (next_round-length rows parts passing marks))
    (IsWithin-next_round rows parts passing marks len)

-- where a round adds no mark, all that derives is marked
pub AreDeriving-from_same_count : (rows : List Row) (parts : ℕ) (passing : Bool) (marks : List Bool) → HasPartsBelow rows parts
    → AreSound rows parts passing marks →
    set_count marks ≡ set_count (next_round rows parts passing marks) → AreDeriving rows parts passing marks
AreDeriving-from_same_count rows parts passing marks below s e =
    let same : marks ≡ next_round rows parts passing marks = same_from_set_count marks (next_round rows parts passing marks)
    (s.one_each ∙ sym (next_round-length rows parts passing marks)) (IsWithin-next_round rows parts passing marks s.one_each) e in
    let closed = λ (r : ℕ) (row : Production) (is : slice_get (productions rows) r
    ≡ Some row) (h : all_marked (is_marked marks) passing row.right ≡ true).
    ap (λ (m : List Bool). is_marked m row.left) same
    ∙ is_marked-next_round rows parts passing marks row.left (below r row is)
    ∙ or_right (is_marked marks row.left) (has_marked_row rows (is_marked marks) passing row.left)
    (has_marked_row-from_row rows (is_marked marks) passing r row is h) in
    record {
      one_each = s.one_each;
      sound = s.sound;
      complete = λ part lt d.
          (and_parts (is_marked marks part) true (all_marked-DerivesPassing (productions rows) passing (is_marked marks) closed d.0
          (Part part ∷ []) d.1 d.2)).0;
    }

-- before the first round nothing is marked
pub AreSound-replicate : (rows : List Row) (parts : ℕ) (passing : Bool) → AreSound rows parts passing (replicate parts false)
AreSound-replicate rows parts passing = record {
  one_each = length-replicate parts false;
  sound = λ part h. absurd (both_ways (is_marked (replicate parts false) part) (unmarked part) h);
}
  where
    unmarked : (part : ℕ) → is_marked (replicate parts false) part ≡ false
    unmarked part = elim (cases_lt part parts) [
      | inl lt ↦ get_or-replicate parts part false false lt
      | inr ge ↦ get_or_past (replicate parts false) part false (let e = length-replicate parts false in omega arith)
    ]

pub set_count-replicate : (n : ℕ) → set_count (replicate n false) ≡ 0
set_count-replicate zero = refl
set_count-replicate (suc n) = set_count-replicate n
