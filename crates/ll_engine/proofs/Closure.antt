-- The rounds that close a relation: what they add the relation leads to, and once a round adds nothing, all of it is there.
use Rattle.std.proofs.Common.{◌≡◌, ℕ, ◌+◌, ◌*◌, ◌/◌, ◌%◌, ◌<◌, ◌≤◌, Bool, true, false, List, length, get_or, refl, ap, sym, ◌∙◌, arith, inl, inr, subst}
use Rattle.std.specs.Prelude.{nat_lt}
use Rattle.std.proofs.lemmas.Bool.{or_cases, or_left, or_right, and_parts, and_from, both_ways, cases_lt, ltb-true, lt-ltb}
use Rattle.std.proofs.lemmas.List.{get_or_past}
use Rattle.std.proofs.lemmas.List.FromFn.{get_or-map-range_with_len, length-map-range_with_len}
use Rattle.std.proofs.lemmas.Nat.{div-mul-add, mod-mul-add, mul-add-lt}
use Rattle.std.proofs.Math.Nat.{mul-le-mul_right, mod-add-div', mod-lt}
use Rattle.ll_engine.specs.declared.relation.Relation.{Relation}
use Rattle.ll_engine.specs.Computed.{holds, part_column, leads, leads_by}
use Rattle.ll_engine.specs.Related.{width_of, related, cells, HasCells, next_related, RelationLeads, here, through, IsClosureOf}
use Rattle.ll_engine.proofs.Lists.{any_below-at, any_below-from_at, IsWithin, set_count, set_count-le, set_count-le-length, same_from_set_count}

-- a bit that is set stands in a column, and in a row of a part
pub holds-column : (bits : List Bool) (width part column : ℕ) → holds bits width part column ≡ true → column < width
holds-column bits width part column h =
    ltb-true column width (and_parts (nat_lt column width) (get_or bits (part * width + column) false) h).0

pub holds-bit : (bits : List Bool) (width part column : ℕ) → holds bits width part column ≡ true
    → get_or bits (part * width + column) false ≡ true
holds-bit bits width part column h = (and_parts (nat_lt column width) (get_or bits (part * width + column) false) h).1

within : (bits : List Bool) (i : ℕ) → get_or bits i false ≡ true → i < length bits
within bits i h =
    elim (cases_lt i (length bits)) [ inl lt ↦ lt | inr ge ↦ absurd (both_ways (get_or bits i false) (get_or_past bits i false ge) h) ]

pub holds-part : (bits : List Bool) (width parts part column : ℕ) → length bits ≡ parts * width → holds bits width part column ≡ true
    → part < parts
holds-part bits width parts part column len h =
    elim (cases_lt part parts) [
      | inl lt ↦ lt
      | inr ge ↦
          let inside : part * width + column < length bits = within bits (part * width + column) (holds-bit bits width part column h) in
          let more : parts * width ≤ part * width = mul-le-mul_right width ge in
          absurd (omega arith)
    ]

-- the bits of a test hold where the test does
pub length-cells : (test : ℕ → ℕ → Bool) (parts width : ℕ) → length (cells test parts width) ≡ parts * width
length-cells test parts width = length-map-range_with_len (λ (cell : ℕ). test (cell / width) (cell % width)) 0 (parts * width)

cell_at : (test : ℕ → ℕ → Bool) (parts width part column : ℕ) → part < parts → column < width →
    get_or (cells test parts width) (part * width + column) false ≡ test part column
cell_at test parts width part column p c =
    get_or-map-range_with_len (λ (cell : ℕ). test (cell / width) (cell % width)) 0 (parts * width) (part * width + column)
    (part * width + column) false (let below = mul-add-lt part width column parts p c in omega arith) (omega arith)
    ∙ rw (div-mul-add, mod-mul-add) refl

pub holds-cells : (test : ℕ → ℕ → Bool) (parts width part column : ℕ) → part < parts → column < width →
    holds (cells test parts width) width part column ≡ test part column
holds-cells test parts width part column p c =
    rw (lt-ltb column width c) (cell_at test parts width part column p c)

-- what holds stands among the parts and the columns
pub related-bounds : (r : Relation) (part column : ℕ) → related r part column ≡ true → (part < r.parts) × (column < width_of r)
related-bounds r part column h = (
  holds-part r.bits.items (width_of r) r.parts part column (sym r.bits.ok.0 ∙ r.full) h,
  holds-column r.bits.items (width_of r) part column h,
)

pub related-HasCells : (r : Relation) (test : ℕ → ℕ → Bool) (parts tokens part column : ℕ) → HasCells r test parts tokens →
    part < parts → column < part_column tokens parts → related r part column ≡ test part column
related-HasCells r test parts tokens part column h p c =
    rw (h.same_parts, h.same_tokens, h.bits_are) (holds-cells test parts (part_column tokens parts) part column p c)

-- one lead after another is a lead
Leads-after : (r : Relation) (part column : ℕ) → RelationLeads r part column → (middle last : ℕ) → column ≡ part_column r.tokens middle
    → RelationLeads r middle last → RelationLeads r part last
Leads-after r part column (here p c h) middle last e l = through p middle last (ap (related r p) (sym e) ∙ h) l
Leads-after r part column (through p m c h rest) middle last e l = through p m last h (Leads-after r m c rest middle last e l)

pub Leads-join : (r : Relation) (part middle last : ℕ) → RelationLeads r part (part_column r.tokens middle) → RelationLeads r middle last
    → RelationLeads r part last
Leads-join r part middle last first l = Leads-after r part (part_column r.tokens middle) first middle last refl l

-- a relation on the way from the old one to its closure
pub record IsOnTheWay (old r : Relation) : Type 0 where
  pub same_parts : r.parts ≡ old.parts
  pub same_tokens : r.tokens ≡ old.tokens
  pub sound : (part column : ℕ) → related r part column ≡ true → RelationLeads old part column
  pub grown : (part column : ℕ) → related old part column ≡ true → related r part column ≡ true

pub IsOnTheWay-start : (old : Relation) → IsOnTheWay old old
IsOnTheWay-start old = record {
  same_parts = refl;
  same_tokens = refl;
  sound = λ part column h. here part column h;
  grown = λ part column h. h;
}

-- what a round adds
next_related-cases : (old r : Relation) → IsOnTheWay old r → (part column : ℕ) → next_related r part column ≡ true
    → RelationLeads old part column
next_related-cases old r way part column h =
    elim (or_cases (related r part column) (leads (related r) r.tokens r.parts part column) h) [
      | inl kept ↦ way.sound part column kept
      | inr led ↦
          let at = any_below-at (leads_by (related r) r.tokens part column) r.parts led in
          let parts = and_parts (related r part (part_column r.tokens at.0)) (related r at.0 column) at.2 in
          let first = way.sound part (part_column r.tokens at.0) parts.0 in
          Leads-join old part at.0 column (subst (λ (t : ℕ). RelationLeads old part (part_column t at.0)) way.same_tokens first)
          (way.sound at.0 column parts.1)
    ]

module _ (r next : Relation) (cells_are : HasCells next (next_related r) r.parts r.tokens) where
  related-next : (part column : ℕ) → part < r.parts → column < width_of r → related next part column ≡ next_related r part column
  related-next part column p c = related-HasCells next (next_related r) r.parts r.tokens part column cells_are p c

  next-bounds : (part column : ℕ) → related next part column ≡ true → (part < r.parts) × (column < width_of r)
  next-bounds part column h =
      let b = related-bounds next part column h in
      let p = cells_are.same_parts in
      let t = cells_are.same_tokens in
      (omega arith, omega arith)

  pub IsOnTheWay-next : (old : Relation) → IsOnTheWay old r → IsOnTheWay old next
  IsOnTheWay-next old way = record {
    same_parts = cells_are.same_parts ∙ way.same_parts;
    same_tokens = cells_are.same_tokens ∙ way.same_tokens;
    sound = λ part column h.
        let b = next-bounds part column h in
        next_related-cases old r way part column (sym (related-next part column b.0 b.1) ∙ h);
    grown = λ part column h.
        let was = way.grown part column h in
        let b = related-bounds r part column was in
        related-next part column b.0 b.1 ∙ or_left (related r part column) (leads (related r) r.tokens r.parts part column) was;
  }

  next_length : length next.bits.items ≡ r.parts * width_of r
  next_length = ap length cells_are.bits_are ∙ length-cells (next_related r) r.parts (width_of r)

  same_length : length r.bits.items ≡ length next.bits.items
  same_length = sym r.bits.ok.0 ∙ r.full ∙ sym next_length

  bits-within : IsWithin r.bits.items next.bits.items
  bits-within i h =
      let lt : i < r.parts * width_of r = let w = within r.bits.items i h in let l = same_length in let m = next_length in omega arith in
      let positive : 0 < width_of r = omega arith in
      let place : i / width_of r * width_of r + i % width_of r ≡ i = let e = mod-add-div' i (width_of r) in omega arith in
      let was : related r (i / width_of r) (i % width_of r) ≡ true =
      and_from (nat_lt (i % width_of r) (width_of r)) (get_or r.bits.items (i / width_of r * width_of r + i % width_of r) false)
      (lt-ltb (i % width_of r) (width_of r) (mod-lt i positive))
      (ap (λ (k : ℕ). get_or r.bits.items k false) place ∙ h) in
      ap (λ (bits : List Bool). get_or bits i false) cells_are.bits_are
      ∙ get_or-map-range_with_len (λ (cell : ℕ). next_related r (cell / width_of r) (cell % width_of r)) 0 (r.parts * width_of r) i i false
      lt (omega arith)
      ∙ or_left (related r (i / width_of r) (i % width_of r)) (leads (related r) r.tokens r.parts (i / width_of r) (i % width_of r)) was

  pub set_count-next : set_count r.bits.items ≤ set_count next.bits.items
  set_count-next = set_count-le r.bits.items next.bits.items same_length bits-within

  pub set_count-next-le : set_count next.bits.items ≤ r.parts * width_of r
  set_count-next-le = omega (arith, set_count-le-length next.bits.items, next_length)

  closed : r.bits.items ≡ next.bits.items → (part middle column : ℕ) →
      related r part (part_column r.tokens middle) ≡ true → related r middle column ≡ true → related r part column ≡ true
  closed same part middle column first second =
      let b = related-bounds r part (part_column r.tokens middle) first in
      let m = related-bounds r middle column second in
      let led = any_below-from_at (leads_by (related r) r.tokens part column) r.parts middle m.0
      (and_from (related r part (part_column r.tokens middle)) (related r middle column) first second) in
      ap (λ (bits : List Bool). holds bits (width_of r) part column) same
      ∙ ap (λ (bits : List Bool). holds bits (width_of r) part column) cells_are.bits_are
      ∙ holds-cells (next_related r) r.parts (width_of r) part column b.0 m.1
      ∙ or_right (related r part column) (leads (related r) r.tokens r.parts part column) led

  complete : r.bits.items ≡ next.bits.items → (old : Relation) → IsOnTheWay old r → (part column : ℕ) → RelationLeads old part column
      → related r part column ≡ true
  complete same old way part column (here p c h) = way.grown p c h
  complete same old way part column (through p m c h rest) =
      closed same p m c (ap (λ (t : ℕ). related r p (part_column t m)) way.same_tokens ∙ way.grown p (part_column old.tokens m) h)
      (complete same old way m c rest)

  pub IsClosureOf-same_count : (old : Relation) → IsOnTheWay old r → set_count r.bits.items ≡ set_count next.bits.items → IsClosureOf old r
  IsClosureOf-same_count old way e = record {
    same_parts = way.same_parts;
    same_tokens = way.same_tokens;
    sound = way.sound;
    complete = complete (same_from_set_count r.bits.items next.bits.items same_length bits-within e) old way;
  }
