-- What is known of terms without a look at them.
use Rattle.std.proofs.Common.{arith, refl, ap, sym, ◌∙◌, ◌≡◌, ◌<◌, ℕ, suc, List, length, get_or, take, subst, ◌+◌, ◌-◌, ◌^◌, ◌%◌, Bool, true, false, ◌&&◌, ◌||◌, min, max, bit_or}
use Rattle.std.specs.Int.{bit_at}
use Rattle.std.proofs.lemmas.Nat.Bits.{bit_at_or, bit_at_ones, bit_at-lt, bit_at-pow_same}
use Rattle.lotos_base.specs.Sorting.{IsGround, AreGround}
use Rattle.lotos_base.specs.Tests.{occurs, occurs_among}
use Rattle.lotos_base.specs.Term.{Term, Terms, variable, node, no_terms, term_then}
use Rattle.lotos_base.proofs.Pieces.{take_member}
use Rattle.sort_terms.specs.Known.{nodes_of, all_nodes_of, HasBit, HasBits, HaveBits, HoldOf, HoldOfAll, nothing_known, no_terms_known, variable_known, known_with, known_above}
use Rattle.sort_terms.specs.declared.facts.Facts.{Facts}
use Rattle.sort_terms.specs.TermView.{term_of, bare_terms_of}
use Rattle.sort_terms.specs.declared.terms.Term.{Term as CodeTerm}
use Rattle.sort_terms.proofs.TermListLemmas.{with_last, terms_of-append}

-- ---- Bits

below_64 : (f : ℕ) → f % 64 < 64
below_64 f = omega arith

greater_is_one : (x y : ℕ) → x ≡ 1 → y < 2 → max x y ≡ 1
greater_is_one x y e l = grind arith

other_is_one : (x y : ℕ) → x < 2 → y ≡ 1 → max x y ≡ 1
other_is_one x y l e = grind arith

pub bit_left : (a b f : ℕ) → HasBit a f → HasBit (bit_or a b) f
bit_left a b f h = bit_at_or a b (f % 64) ∙ greater_is_one (bit_at a (f % 64)) (bit_at b (f % 64)) h (bit_at-lt b (f % 64))

pub bit_right : (a b f : ℕ) → HasBit b f → HasBit (bit_or a b) f
bit_right a b f h = bit_at_or a b (f % 64) ∙ other_is_one (bit_at a (f % 64)) (bit_at b (f % 64)) (bit_at-lt a (f % 64)) h

own_bit : (f : ℕ) → HasBit (2 ^ (f % 64)) f
own_bit f = bit_at-pow_same (f % 64)

-- bits that have those of others
abbrev pub Widens : ℕ → ℕ → Type 0
Widens bits more = (f : ℕ) → HasBit bits f → HasBit more f

mutual
  pub bits_widened : (a b : ℕ) → Widens a b → (t : Term) → HasBits a t → HasBits b t
  bits_widened a b wider (variable n s) h = tt
  bits_widened a b wider (node f ts) h = (wider f h.0, all_bits_widened a b wider ts h.1)

  pub all_bits_widened : (a b : ℕ) → Widens a b → (ts : Terms) → HaveBits a ts → HaveBits b ts
  all_bits_widened a b wider no_terms h = tt
  all_bits_widened a b wider (term_then t ts) h = (bits_widened a b wider t h.0, all_bits_widened a b wider ts h.1)

mutual
  all_bits : (t : Term) → HasBits (2 ^ 64 - 1) t
  all_bits (variable n s) = tt
  all_bits (node f ts) = (bit_at_ones 64 (f % 64) (below_64 f), all_bits_each ts)

  all_bits_each : (ts : Terms) → HaveBits (2 ^ 64 - 1) ts
  all_bits_each no_terms = tt
  all_bits_each (term_then t ts) = (all_bits t, all_bits_each ts)

-- ---- Facts of no terms, of a variable and of any term

pub nothing_holds_all : (ts : Terms) → HoldOfAll nothing_known ts
nothing_holds_all ts = ((λ is. let no : false ≡ true = is in cc), (λ told. absurd (told refl)), all_bits_each ts)

pub no_terms_hold : HoldOfAll no_terms_known no_terms
no_terms_hold = ((λ is. tt), (λ told. refl), tt)

pub variable_holds : (n s : ℕ) → HoldOf variable_known (variable n s)
variable_holds n s = ((λ is. let no : false ≡ true = is in cc), (λ told. refl), tt)

-- ---- One term more

both_true : (a b : Bool) → (a && b) ≡ true → (a ≡ true) × (b ≡ true)
both_true true true e = (refl, refl)
both_true true false e = cc
both_true false b e = cc

ground_last : (ts : Terms) (t : Term) → AreGround ts → IsGround t → AreGround (with_last ts t)
ground_last no_terms t all one = (one, tt)
ground_last (term_then u us) t all one = (all.0, ground_last us t all.1 one)

nodes_last : (ts : Terms) (t : Term) → all_nodes_of (with_last ts t) ≡ all_nodes_of ts + nodes_of t
nodes_last no_terms t = omega arith
nodes_last (term_then u us) t = let e = nodes_last us t in omega arith

bits_last : (bits : ℕ) (ts : Terms) (t : Term) → HaveBits bits ts → HasBits bits t → HaveBits bits (with_last ts t)
bits_last bits no_terms t all one = (one, tt)
bits_last bits (term_then u us) t all one = (all.0, bits_last bits us t all.1 one)

-- a sum that is told tells both sizes
sum_told : (a b size other top : ℕ) → (¬ (a ≡ top) → a ≡ size) → (¬ (b ≡ top) → b ≡ other)
    → ¬ (min (a + b) top ≡ top) → min (a + b) top ≡ size + other
sum_told a b size other top first second told =
    let small : a + b < top = below in
    let one : a ≡ size = first (λ e. absurd (omega (arith, e, small))) in
    let two : b ≡ other = second (λ e. absurd (omega (arith, e, small))) in
    omega (arith, small, one, two)
  where
    below : a + b < top
    below = grind arith

pub known_more : (facts other : Facts) (last : Bool) (ts : Terms) (t : Term) → HoldOfAll facts ts → HoldOf other t
    → HoldOfAll (known_with facts other last) (with_last ts t)
known_more facts other last ts t all one = (
  (λ is. let parts = both_true facts.is_ground other.is_ground is in ground_last ts t (all.0 parts.0) (one.0 parts.1)),
  (λ told. sum_told facts.size other.size (all_nodes_of ts) (nodes_of t) (2 ^ 64 - 1) all.1 one.1 told ∙ sym (nodes_last ts t)),
  bits_last (bit_or facts.heads other.heads) ts t
      (all_bits_widened facts.heads _ (λ f. bit_left facts.heads other.heads f) ts all.2)
      (bits_widened other.heads _ (λ f. bit_right facts.heads other.heads f) t one.2),
)

-- an operation on the terms
pub known_node : (facts : Facts) (f : ℕ) (ts : Terms) → HoldOfAll facts ts → HoldOf (known_above f facts) (node f ts)
known_node facts f ts all = (
  all.0,
  (λ told. sum_told facts.size 1 (all_nodes_of ts) 1 (2 ^ 64 - 1) all.1 (λ differ. refl) told ∙ plus_one (all_nodes_of ts)),
  (
    bit_right facts.heads (2 ^ (f % 64)) f (own_bit f),
    all_bits_widened facts.heads _ (λ g. bit_left facts.heads (2 ^ (f % 64)) g) ts all.2,
  ),
)
  where
    plus_one : (n : ℕ) → n + 1 ≡ suc n
    plus_one n = omega arith

-- ---- A list of the code

-- one term of the list more
pub next_known : (facts other : Facts) (last : Bool) (xs : List CodeTerm) (i : ℕ) (x : CodeTerm) → i < length xs → x ≡ get_or xs i x
    → HoldOfAll facts (bare_terms_of (take i xs)) → HoldOf other (term_of x)
    → HoldOfAll (known_with facts other last) (bare_terms_of (take (i + 1) xs))
next_known facts other last xs i x within is before one =
    subst (HoldOfAll (known_with facts other last))
    (sym (ap bare_terms_of (take_member xs i x within is) ∙ terms_of-append (take i xs) x))
    (known_more facts other last (bare_terms_of (take i xs)) (term_of x) before one)

-- ---- A ground term holds no variable

mutual
  pub ground_lacks : (number sort : ℕ) (t : Term) → IsGround t → occurs number sort t ≡ false
  ground_lacks number sort (variable n s) ground = absurd ground
  ground_lacks number sort (node f ts) ground = all_ground_lack number sort ts ground

  all_ground_lack : (number sort : ℕ) (ts : Terms) → AreGround ts → occurs_among number sort ts ≡ false
  all_ground_lack number sort no_terms ground = refl
  all_ground_lack number sort (term_then t ts) ground =
      (λ i. ground_lacks number sort t ground.0 i || all_ground_lack number sort ts ground.1 i)
