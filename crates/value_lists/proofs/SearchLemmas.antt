-- What is found for one operation, and for all operations: the members, and that they rise.
use Rattle.std.proofs.Common.{◌≡◌, ℕ, zero, suc, ◌+◌, ◌-◌, ◌<◌, ◌≤◌, List, [], ◌∷◌, ◌++◌, length, Bool, true, false, nat_eq, refl, ap, sym, ◌∙◌, subst, inl, inr, arith}
use Rattle.std.specs.Prelude.{◌⊎◌, Some, slice_get, nat_le, ◌&&◌, if◌then◌else◌}
use Rattle.std.specs.List.{flat_map}
use Rattle.std.proofs.lemmas.Bool.{and_parts, and_from, eqb-true, eq-eqb, leb-true, le-leb}
use Rattle.std.proofs.lemmas.List.{append-nil, append_assoc}
use Rattle.lotos_base.specs.Signature.{Operation}
use Rattle.lotos_base.specs.Sorting.{IsGround, AreGround}
use Rattle.sort_terms.specs.ProfiledTerm.{ProfiledTerm, ProfiledTerms, profiled_node, no_profiled_terms, profiled_term_then, bare, all_bare, head_sort, FitArguments}
use Rattle.sort_terms.specs.TermView.{profiled_terms}
use Rattle.value_lists.specs.Search.{Trial, trial_applied, suits, kept, found_behind, found_with, found_for, found_from}
use Rattle.value_lists.specs.TermOrder.{term_size, term_sizes, ComesBefore}
use Rattle.value_lists.proofs.Profiles.{unlisted, plain, sizes_joined, before_joined, have_operations}
use Rattle.value_lists.proofs.RisingLists.{Among, Rises, among_left, among_right, among_either, rises_joined, among_piece, from_piece, rises_pieces}

-- The first term comes before the second one.
abbrev pub Before : ProfiledTerm → ProfiledTerm → Type 0
Before t u = ComesBefore (bare t) (bare u)

-- ---- Lists of arguments

-- The terms are values of the list with these sorts, one by one, and what is left is their sizes together.
abbrev pub Suit : List ProfiledTerm → List ℕ → ℕ → List ProfiledTerm → Type 0
Suit smaller [] left [] = left ≡ 0
Suit smaller [] left (u ∷ us) = ⊥
Suit smaller (s ∷ ss) left [] = ⊥
Suit smaller (s ∷ ss) left (u ∷ us) =
    Among u smaller × (suits s (length ss) left u ≡ true) × Suit smaller ss (left - term_size (bare u)) us

pub suits_parts : (s behind left : ℕ) (t : ProfiledTerm) → suits s behind left t ≡ true
    → (head_sort t ≡ s) × (term_size (bare t) + behind ≤ left)
suits_parts s behind left t h =
    let parts = and_parts (nat_eq (head_sort t) s) (nat_le (term_size (bare t) + behind) left) h in
    (eqb-true (head_sort t) s parts.0, leb-true (term_size (bare t) + behind) left parts.1)

pub suits_from : (s behind left : ℕ) (t : ProfiledTerm) → head_sort t ≡ s → term_size (bare t) + behind ≤ left
    → suits s behind left t ≡ true
suits_from s behind left t sort small =
    and_from (nat_eq (head_sort t) s) (nat_le (term_size (bare t) + behind) left)
    (eq-eqb (head_sort t) s sort) (le-leb (term_size (bare t) + behind) left small)

pub suit_sizes : (smaller : List ProfiledTerm) (sorts : List ℕ) (left : ℕ) (us : List ProfiledTerm) → Suit smaller sorts left us
    → term_sizes (plain us) ≡ left
suit_sizes smaller [] left [] h = sym h
suit_sizes smaller [] left (u ∷ us) h = absurd h
suit_sizes smaller (s ∷ ss) left [] h = absurd h
suit_sizes smaller (s ∷ ss) left (u ∷ us) h =
    let small = (suits_parts s (length ss) left u h.1).1 in
    let rest = suit_sizes smaller ss (left - term_size (bare u)) us h.2 in
    omega (arith, small, rest)

-- Each of the terms is one of the list.
abbrev pub AllAmong : List ProfiledTerm → ProfiledTerms → Type 0
AllAmong smaller no_profiled_terms = Unit {0}
AllAmong smaller (profiled_term_then t ts) = Among t smaller × AllAmong smaller ts

pub to_suit : (smaller : List ProfiledTerm) (ts : ProfiledTerms) (sorts : List ℕ) (left : ℕ) → AllAmong smaller ts
    → FitArguments ts sorts → AreGround (all_bare ts) → term_sizes (all_bare ts) ≡ left → Suit smaller sorts left (unlisted ts)
to_suit smaller no_profiled_terms [] left among fits h e = sym e
to_suit smaller no_profiled_terms (s ∷ ss) left among fits h e = absurd fits
to_suit smaller (profiled_term_then t ts) [] left among fits h e = absurd fits
to_suit smaller (profiled_term_then t ts) (s ∷ ss) left among fits h e =
    let enough = have_operations ts ss fits.2 h.1 in (
      among.0,
      suits_from s (length ss) left t fits.0 (omega (arith, enough, e)),
      to_suit smaller ts ss (left - term_size (bare t)) among.1 fits.2 h.1 (omega (arith, e)),
    )

-- ---- What is found for one operation

-- The term is the operation on such arguments behind those that are chosen, and it is kept.
pub record IsFound (trial : Trial) (chosen : List ProfiledTerm) (sorts : List ℕ) (left : ℕ) (t : ProfiledTerm) : Type 0 where
  pub arguments : List ProfiledTerm
  pub suit : Suit trial.smaller sorts left arguments
  pub same : t ≡ trial_applied trial (chosen ++ arguments)
  pub keeps : trial.keeps t ≡ true

from_kept : (trial : Trial) (chosen : List ProfiledTerm) (left : ℕ) (t : ProfiledTerm) → Among t (kept trial chosen left)
    → IsFound trial chosen [] left t
from_kept trial chosen left t h = go (nat_eq left 0) refl (trial.keeps (trial_applied trial chosen)) refl h
  where
    go : (b : Bool) → nat_eq left 0 ≡ b → (k : Bool) → trial.keeps (trial_applied trial chosen) ≡ k
        → Among t (if b then (if k then trial_applied trial chosen ∷ [] else []) else []) → IsFound trial chosen [] left t
    go true none true keeps (inl e) = record {
      arguments = [];
      suit = eqb-true left 0 none;
      same = sym e ∙ ap (trial_applied trial) (sym (append-nil chosen));
      keeps = ap trial.keeps (sym e) ∙ keeps;
    }
    go true none true keeps (inr k) = absurd k
    go true none false keeps k = absurd k
    go false none b keeps k = absurd k

to_kept : (trial : Trial) (chosen : List ProfiledTerm) (left : ℕ) → left ≡ 0 → trial.keeps (trial_applied trial chosen) ≡ true
    → Among (trial_applied trial chosen) (kept trial chosen left)
to_kept trial chosen left none keeps = go (nat_eq left 0) (eq-eqb left 0 none) (trial.keeps (trial_applied trial chosen)) keeps
  where
    go : (b : Bool) → b ≡ true → (k : Bool) → k ≡ true
        → Among (trial_applied trial chosen) (if b then (if k then trial_applied trial chosen ∷ [] else []) else [])
    go true e true k = inl refl
    go true e false k = absurd (cc k)
    go false e b k = absurd (cc e)

-- one more argument
abbrev found_before : (trial : Trial) (chosen : List ProfiledTerm) (s : ℕ) (ss : List ℕ) (left : ℕ) (u t : ProfiledTerm)
    → Among u trial.smaller → suits s (length ss) left u ≡ true
    → IsFound trial (chosen ++ u ∷ []) ss (left - term_size (bare u)) t → IsFound trial chosen (s ∷ ss) left t
found_before trial chosen s ss left u t among is found = record {
  arguments = u ∷ found.arguments;
  suit = (among, is, found.suit);
  same = found.same ∙ ap (trial_applied trial) (append_assoc chosen (u ∷ []) found.arguments);
  keeps = found.keeps;
}

from_with : (trial : Trial) (chosen : List ProfiledTerm) (s : ℕ) (ss : List ℕ) (left : ℕ) (u t : ProfiledTerm)
    → Among u trial.smaller → (Among t (found_behind trial (chosen ++ u ∷ []) ss (left - term_size (bare u)))
    → IsFound trial (chosen ++ u ∷ []) ss (left - term_size (bare u)) t) → (b : Bool) → suits s (length ss) left u ≡ b
    → Among t (if b then found_behind trial (chosen ++ u ∷ []) ss (left - term_size (bare u)) else [])
    → IsFound trial chosen (s ∷ ss) left t
from_with trial chosen s ss left u t among rest true is h = found_before trial chosen s ss left u t among is (rest h)
from_with trial chosen s ss left u t among rest false is h = absurd h

mutual
  pub from_found : (trial : Trial) (chosen : List ProfiledTerm) (sorts : List ℕ) (left : ℕ) (t : ProfiledTerm)
      → Among t (found_behind trial chosen sorts left) → IsFound trial chosen sorts left t
  from_found trial chosen [] left t h = from_kept trial chosen left t h
  from_found trial chosen (s ∷ ss) left t h =
      let piece = from_piece (found_with trial chosen s ss left) trial.smaller t h in
      from_with trial chosen s ss left piece.0 t piece.1
      (λ k. from_found trial (chosen ++ piece.0 ∷ []) ss (left - term_size (bare piece.0)) t k)
      (suits s (length ss) left piece.0) refl piece.2

pub to_found : (trial : Trial) (chosen : List ProfiledTerm) (sorts : List ℕ) (left : ℕ) (us : List ProfiledTerm)
    → Suit trial.smaller sorts left us → trial.keeps (trial_applied trial (chosen ++ us)) ≡ true
    → Among (trial_applied trial (chosen ++ us)) (found_behind trial chosen sorts left)
to_found trial chosen [] left [] suit keeps =
    subst (λ (ts : List ProfiledTerm). Among (trial_applied trial ts) (kept trial chosen left)) (sym (append-nil chosen))
    (to_kept trial chosen left suit
    (ap (λ (ts : List ProfiledTerm). trial.keeps (trial_applied trial ts)) (sym (append-nil chosen)) ∙ keeps))
to_found trial chosen [] left (u ∷ us) suit keeps = absurd suit
to_found trial chosen (s ∷ ss) left [] suit keeps = absurd suit
to_found trial chosen (s ∷ ss) left (u ∷ us) suit keeps =
    among_piece (found_with trial chosen s ss left) trial.smaller u (trial_applied trial (chosen ++ u ∷ us)) suit.0
    (go (subst (λ (ts : List ProfiledTerm). Among (trial_applied trial ts)
    (found_behind trial (chosen ++ u ∷ []) ss (left - term_size (bare u)))) (append_assoc chosen (u ∷ []) us)
    (to_found trial (chosen ++ u ∷ []) ss (left - term_size (bare u)) us suit.2
    (ap (λ (ts : List ProfiledTerm). trial.keeps (trial_applied trial ts)) (append_assoc chosen (u ∷ []) us) ∙ keeps)))
    (suits s (length ss) left u) suit.1)
  where
    go : Among (trial_applied trial (chosen ++ u ∷ us)) (found_behind trial (chosen ++ u ∷ []) ss (left - term_size (bare u)))
        → (b : Bool) → b ≡ true
        → Among (trial_applied trial (chosen ++ u ∷ us))
        (if b then found_behind trial (chosen ++ u ∷ []) ss (left - term_size (bare u)) else [])
    go inner true e = inner
    go inner false e = absurd (cc e)

-- ---- It rises

-- two found terms of one trial, whose first different argument is the next one
apart : (trial : Trial) (chosen : List ProfiledTerm) (s : ℕ) (ss : List ℕ) (left : ℕ) (u v t w : ProfiledTerm)
    → Among u trial.smaller → Among v trial.smaller → Before u v → suits s (length ss) left u ≡ true
    → suits s (length ss) left v ≡ true → IsFound trial (chosen ++ u ∷ []) ss (left - term_size (bare u)) t
    → IsFound trial (chosen ++ v ∷ []) ss (left - term_size (bare v)) w → Before t w
apart trial chosen s ss left u v t w among_u among_v before is_u is_v found_t found_w =
    let one = found_before trial chosen s ss left u t among_u is_u found_t in
    let two = found_before trial chosen s ss left v w among_v is_v found_w in
    let size_one = suit_sizes trial.smaller (s ∷ ss) left one.arguments one.suit in
    let size_two = suit_sizes trial.smaller (s ∷ ss) left two.arguments two.suit in
    let joined_one = sizes_joined chosen one.arguments in
    let joined_two = sizes_joined chosen two.arguments in
    subst (λ (x : ProfiledTerm). Before x w) (sym one.same)
    (subst (λ (x : ProfiledTerm). Before (trial_applied trial (chosen ++ one.arguments)) x) (sym two.same)
    (inr (
      joined_one ∙ ap (λ (n : ℕ). term_sizes (plain chosen) + n) (size_one ∙ sym size_two) ∙ sym joined_two,
      inr (refl, before_joined chosen one.arguments two.arguments (inl before)),
    )))

pub rises_found : (trial : Trial) (chosen : List ProfiledTerm) (sorts : List ℕ) (left : ℕ) → Rises Before trial.smaller
    → Rises Before (found_behind trial chosen sorts left)
rises_found trial chosen [] left rise = go (nat_eq left 0) (trial.keeps (trial_applied trial chosen))
  where
    go : (b k : Bool) → Rises Before (if b then (if k then trial_applied trial chosen ∷ [] else []) else [])
    go true true = (λ y h. absurd h, tt)
    go true false = tt
    go false k = tt
rises_found trial chosen (s ∷ ss) left rise =
    rises_pieces Before Before (found_with trial chosen s ss left) trial.smaller rise
    (λ u among. each u (rises_found trial (chosen ++ u ∷ []) ss (left - term_size (bare u)) rise) (suits s (length ss) left u))
    (λ u v t w among_u among_v before h k.
    across u v t w among_u among_v before (suits s (length ss) left u) refl (suits s (length ss) left v) refl h k)
  where
    each : (u : ProfiledTerm) → Rises Before (found_behind trial (chosen ++ u ∷ []) ss (left - term_size (bare u))) → (b : Bool)
        → Rises Before (if b then found_behind trial (chosen ++ u ∷ []) ss (left - term_size (bare u)) else [])
    each u rest true = rest
    each u rest false = tt

    across : (u v t w : ProfiledTerm) → Among u trial.smaller → Among v trial.smaller → Before u v
        → (b : Bool) → suits s (length ss) left u ≡ b → (c : Bool) → suits s (length ss) left v ≡ c
        → Among t (if b then found_behind trial (chosen ++ u ∷ []) ss (left - term_size (bare u)) else [])
        → Among w (if c then found_behind trial (chosen ++ v ∷ []) ss (left - term_size (bare v)) else []) → Before t w
    across u v t w among_u among_v before true is_u true is_v h k =
        apart trial chosen s ss left u v t w among_u among_v before is_u is_v
        (from_found trial (chosen ++ u ∷ []) ss (left - term_size (bare u)) t h)
        (from_found trial (chosen ++ v ∷ []) ss (left - term_size (bare v)) w k)
    across u v t w among_u among_v before true is_u false is_v h k = absurd k
    across u v t w among_u among_v before false is_u c is_v h k = absurd h

-- ---- All operations

abbrev pub trial_of : (ProfiledTerm → Bool) → List ProfiledTerm → ℕ → Operation → Trial
trial_of keeps smaller f operation = record { keeps = keeps; smaller = smaller; number = f; operation = operation }

-- The term is found for one of the operations, of which the first one has this number.
pub record IsFoundAmong (keeps : ProfiledTerm → Bool) (smaller : List ProfiledTerm) (left first : ℕ) (operations : List Operation)
    (t : ProfiledTerm) : Type 0 where
  pub place : ℕ
  pub number : ℕ
  pub is_number : number ≡ first + place
  pub operation : Operation
  pub is_there : slice_get operations place ≡ Some operation
  pub found : IsFound (trial_of keeps smaller number operation) [] operation.arguments left t

pub from_all : (keeps : ProfiledTerm → Bool) (smaller : List ProfiledTerm) (left first : ℕ) (operations : List Operation)
    (t : ProfiledTerm) → Among t (found_from keeps smaller left first operations)
    → IsFoundAmong keeps smaller left first operations t
from_all keeps smaller left first [] t h = absurd h
from_all keeps smaller left first (operation ∷ operations) t h =
    go (λ k. from_all keeps smaller left (suc first) operations t k)
    (among_either (found_for (trial_of keeps smaller first operation) left)
    (found_from keeps smaller left (suc first) operations) t h)
  where
    go : (Among t (found_from keeps smaller left (suc first) operations) → IsFoundAmong keeps smaller left (suc first) operations t)
        → Among t (found_for (trial_of keeps smaller first operation) left) ⊎ Among t (found_from keeps smaller left (suc first) operations)
        → IsFoundAmong keeps smaller left first (operation ∷ operations) t
    go behind (inl k) = record {
      place = 0;
      number = first;
      is_number = omega arith;
      operation = operation;
      is_there = refl;
      found = from_found (trial_of keeps smaller first operation) [] operation.arguments left t k;
    }
    go behind (inr k) =
        let rest = behind k in
        let number = rest.is_number in
        record {
          place = suc rest.place;
          number = rest.number;
          is_number = omega (arith, number);
          operation = rest.operation;
          is_there = rest.is_there;
          found = rest.found;
        }

pub to_all : (keeps : ProfiledTerm → Bool) (smaller : List ProfiledTerm) (left first : ℕ) (operations : List Operation)
    (place number : ℕ) (operation : Operation) (t : ProfiledTerm) → slice_get operations place ≡ Some operation
    → number ≡ first + place → Among t (found_for (trial_of keeps smaller number operation) left)
    → Among t (found_from keeps smaller left first operations)
to_all keeps smaller left first [] place number operation t there is h = absurd (cc there)
to_all keeps smaller left first (one ∷ operations) zero number operation t there is h =
    let same : one ≡ operation = cc in
    let numbers : number ≡ first = omega (arith, is) in
    among_left (found_for (trial_of keeps smaller first one) left) (found_from keeps smaller left (suc first) operations) t
    (subst (λ (f : ℕ). Among t (found_for (trial_of keeps smaller f one) left)) numbers
    (subst (λ (o : Operation). Among t (found_for (trial_of keeps smaller number o) left)) (sym same) h))
to_all keeps smaller left first (one ∷ operations) (suc place) number operation t there is h =
    among_right (found_for (trial_of keeps smaller first one) left) (found_from keeps smaller left (suc first) operations) t
    (to_all keeps smaller left (suc first) operations place number operation t there (omega (arith, is)) h)

-- what is found for a later operation comes later
later : (keeps : ProfiledTerm → Bool) (smaller : List ProfiledTerm) (left f g : ℕ) (one other : Operation) (t w : ProfiledTerm)
    → f < g → IsFound (trial_of keeps smaller f one) [] one.arguments left t
    → IsFound (trial_of keeps smaller g other) [] other.arguments left w → Before t w
later keeps smaller left f g one other t w less found_t found_w =
    let size_t = suit_sizes smaller one.arguments left found_t.arguments found_t.suit in
    let size_w = suit_sizes smaller other.arguments left found_w.arguments found_w.suit in
    subst (λ (x : ProfiledTerm). Before x w) (sym found_t.same)
    (subst (λ (x : ProfiledTerm). Before (trial_applied (trial_of keeps smaller f one) found_t.arguments) x) (sym found_w.same)
    (inr (size_t ∙ sym size_w, inl less)))

pub rises_all : (keeps : ProfiledTerm → Bool) (smaller : List ProfiledTerm) (left first : ℕ) (operations : List Operation)
    → Rises Before smaller → Rises Before (found_from keeps smaller left first operations)
rises_all keeps smaller left first [] rise = tt
rises_all keeps smaller left first (operation ∷ operations) rise =
    rises_joined Before (found_for (trial_of keeps smaller first operation) left)
    (found_from keeps smaller left (suc first) operations)
    (rises_found (trial_of keeps smaller first operation) [] operation.arguments left rise)
    (rises_all keeps smaller left (suc first) operations rise)
    (λ t w h k.
    let one = from_found (trial_of keeps smaller first operation) [] operation.arguments left t h in
    let other = from_all keeps smaller left (suc first) operations w k in
    let number = other.is_number in
    later keeps smaller left first other.number operation other.operation t w (omega (arith, number)) one other.found)
