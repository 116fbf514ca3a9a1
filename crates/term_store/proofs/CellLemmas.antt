-- Terms that are kept once have one number.
use Rattle.std.proofs.Common.{arith, refl, ap, sym, ◌∙◌, ◌≡◌, ◌<◌, ◌+◌, subst, ℕ, zero, suc, List, [], ◌∷◌, ◌++◌, length, get_or, append_assoc, append-nil}
use Rattle.std.proofs.lemmas.List.{length-append, get_or_append_left}
use Rattle.std.proofs.Math.Seq.{get_or-append_seam}
use Rattle.lotos_base.specs.Signature.{Signature}
use Rattle.sort_terms.specs.ProfiledTerm.{ProfiledTerm, ProfiledTerms, profiled_node, profiled_term_then, bare, all_bare}
use Rattle.term_store.specs.Cells.{no_such_term, operation_at, members, key_term, with_key_terms, key_terms, AreBelow, IsCell, AreCells, IsOnceEach, Grows}

-- ---- One key more

pub with_last : (signature : Signature) (terms : List ProfiledTerm) (keys : List (List ℕ)) (key : List ℕ)
    → with_key_terms signature terms (keys ++ key ∷ [])
    ≡ with_key_terms signature terms keys ++ key_term signature (with_key_terms signature terms keys) key ∷ []
with_last signature terms [] key = refl
with_last signature terms (first ∷ keys) key = with_last signature (terms ++ key_term signature terms first ∷ []) keys key

pub with_length : (signature : Signature) (terms : List ProfiledTerm) (keys : List (List ℕ))
    → length (with_key_terms signature terms keys) ≡ length terms + length keys
with_length signature terms [] = omega arith
with_length signature terms (key ∷ keys) =
    let inner = with_length signature (terms ++ key_term signature terms key ∷ []) keys in
    let more = length-append terms (key_term signature terms key ∷ []) in
    omega (arith, inner, more)

pub cells_last : (bound : ℕ) (keys : List (List ℕ)) (key : List ℕ) → AreCells bound keys → IsCell (bound + length keys) key
    → AreCells bound (keys ++ key ∷ [])
cells_last bound [] key cells cell = (subst (λ (k : ℕ). IsCell k key) (omega arith) cell, tt)
cells_last bound (first ∷ keys) key cells cell =
    (cells.0, cells_last (suc bound) keys key cells.1 (subst (λ (k : ℕ). IsCell k key) (omega arith) cell))

-- ---- The terms before stay

pub stays : (signature : Signature) (terms : List ProfiledTerm) (keys : List (List ℕ)) (n : ℕ) → n < length terms
    → get_or (with_key_terms signature terms keys) n no_such_term ≡ get_or terms n no_such_term
stays signature terms [] n below = refl
stays signature terms (key ∷ keys) n below =
    let last = key_term signature terms key ∷ [] in
    let more = length-append terms last in
    stays signature (terms ++ last) keys n (omega (arith, below, more)) ∙ get_or_append_left terms last no_such_term n below

members_stay : (signature : Signature) (terms : List ProfiledTerm) (keys : List (List ℕ)) (ns : List ℕ)
    → AreBelow (length terms) ns → members (with_key_terms signature terms keys) ns ≡ members terms ns
members_stay signature terms keys [] below = refl
members_stay signature terms keys (n ∷ ns) below =
    let here = stays signature terms keys n below.0 in
    let there = members_stay signature terms keys ns below.1 in
    λ i. profiled_term_then (here i) (there i)

pub cell_stays : (signature : Signature) (terms : List ProfiledTerm) (keys : List (List ℕ)) (key : List ℕ) → IsCell (length terms) key
    → key_term signature (with_key_terms signature terms keys) key ≡ key_term signature terms key
cell_stays signature terms keys [] cell = refl
cell_stays signature terms keys (zero ∷ ns) cell = refl
cell_stays signature terms keys (suc m ∷ []) cell = absurd cell
cell_stays signature terms keys (suc m ∷ f ∷ ns) cell =
    ap (λ (ts : ProfiledTerms). profiled_node f (operation_at signature f) ts) (members_stay signature terms keys ns cell.1)

-- ---- Each term is that of its key

pub term_of_key : (signature : Signature) (terms : List ProfiledTerm) (keys : List (List ℕ)) (n : ℕ) → AreCells (length terms) keys
    → n < length keys
    → get_or (with_key_terms signature terms keys) (length terms + n) no_such_term
    ≡ key_term signature (with_key_terms signature terms keys) (get_or keys n [])
term_of_key signature terms [] n cells below = absurd (omega (arith, below))
term_of_key signature terms (key ∷ keys) zero cells below =
    let last = key_term signature terms key in
    let more = length-append terms (last ∷ []) in
    let inside : length terms < length (terms ++ last ∷ []) = omega (arith, more) in
    let place : length terms + zero ≡ length terms = omega arith in
    ap (λ (k : ℕ). get_or (with_key_terms signature (terms ++ last ∷ []) keys) k no_such_term) place
    ∙ stays signature (terms ++ last ∷ []) keys (length terms) inside ∙ get_or-append_seam terms last [] no_such_term
    ∙ sym (cell_stays signature terms (key ∷ keys) key cells.0)
term_of_key signature terms (key ∷ keys) (suc n) cells below =
    let last = key_term signature terms key in
    let more = length-append terms (last ∷ []) in
    let many : length (terms ++ last ∷ []) ≡ suc (length terms) = omega (arith, more) in
    let inner = term_of_key signature (terms ++ last ∷ []) keys n (subst (λ (k : ℕ). AreCells k keys) (sym many) cells.1)
    (omega (arith, below)) in
    let place : length terms + suc n ≡ length (terms ++ last ∷ []) + n = omega (arith, more) in
    ap (λ (k : ℕ). get_or (with_key_terms signature (terms ++ last ∷ []) keys) k no_such_term) place ∙ inner

-- the same from the first key on
pub first_term_of_key : (signature : Signature) (keys : List (List ℕ)) (n : ℕ) → AreCells 0 keys → n < length keys
    → get_or (key_terms signature keys) n no_such_term ≡ key_term signature (key_terms signature keys) (get_or keys n [])
first_term_of_key signature keys n cells below =
    let place : n ≡ 0 + n = omega arith in
    ap (λ (k : ℕ). get_or (key_terms signature keys) k no_such_term) place ∙ term_of_key signature [] keys n cells below

-- ---- A term has one number

pub cell_at : (bound : ℕ) (keys : List (List ℕ)) (n : ℕ) → AreCells bound keys → n < length keys → IsCell (bound + n) (get_or keys n [])
cell_at bound [] n cells below = absurd (omega (arith, below))
cell_at bound (key ∷ keys) zero cells below = subst (λ (k : ℕ). IsCell k key) (omega arith) cells.0
cell_at bound (key ∷ keys) (suc n) cells below =
    subst (λ (k : ℕ). IsCell k (get_or keys n [])) (omega arith) (cell_at (suc bound) keys n cells.1 (omega (arith, below)))

pub first_cell_at : (keys : List (List ℕ)) (n : ℕ) → AreCells 0 keys → n < length keys → IsCell n (get_or keys n [])
first_cell_at keys n cells below = subst (λ (k : ℕ). IsCell k (get_or keys n [])) (omega arith) (cell_at 0 keys n cells below)

-- a list of two numbers
of_two : (ns : List ℕ) → length ns ≡ 2 → ns ≡ get_or ns 0 0 ∷ get_or ns 1 0 ∷ []
of_two [] two = absurd (omega (arith, two))
of_two (n ∷ []) two = absurd (omega (arith, two))
of_two (n ∷ s ∷ []) two = refl
of_two (n ∷ s ∷ m ∷ ns) two = absurd (omega (arith, two))

-- Terms below the number that are one have one number.
abbrev HaveOneNumber : List ProfiledTerm → ℕ → ℕ → Type 0
HaveOneNumber terms i many = (n m : ℕ) → n < i → m < many → bare (get_or terms n no_such_term) ≡ bare (get_or terms m no_such_term) → n ≡ m

same_numbers : (terms : List ProfiledTerm) (i j many : ℕ) (ns ms : List ℕ) → HaveOneNumber terms i many → j < many
    → AreBelow i ns → AreBelow j ms → all_bare (members terms ns) ≡ all_bare (members terms ms) → ns ≡ ms
same_numbers terms i j many [] [] one inside below under same = refl
same_numbers terms i j many [] (m ∷ ms) one inside below under same = cc
same_numbers terms i j many (n ∷ ns) [] one inside below under same = cc
same_numbers terms i j many (n ∷ ns) (m ∷ ms) one inside below under same =
    let first : bare (get_or terms n no_such_term) ≡ bare (get_or terms m no_such_term) = cc in
    let others : all_bare (members terms ns) ≡ all_bare (members terms ms) = cc in
    let m_below = under.0 in
    let here = one n m below.0 (omega (arith, m_below, inside)) first in
    let there = same_numbers terms i j many ns ms one inside below.1 under.1 others in
    λ k. here k ∷ there k

same_key : (signature : Signature) (terms : List ProfiledTerm) (i j many : ℕ) (k l : List ℕ) → HaveOneNumber terms i many → j < many
    → IsCell i k → IsCell j l → bare (key_term signature terms k) ≡ bare (key_term signature terms l) → k ≡ l
same_key signature terms i j many [] l one inside cell other same = absurd cell
same_key signature terms i j many (zero ∷ ns) [] one inside cell other same = absurd other
same_key signature terms i j many (zero ∷ ns) (zero ∷ ms) one inside cell other same =
    let first : get_or ns 0 0 ≡ get_or ms 0 0 = cc in
    let second : get_or ns 1 0 ≡ get_or ms 1 0 = cc in
    let both : get_or ns 0 0 ∷ get_or ns 1 0 ∷ [] ≡ get_or ms 0 0 ∷ get_or ms 1 0 ∷ [] = (λ m. first m ∷ second m ∷ []) in
    ap (λ (qs : List ℕ). zero ∷ qs) (of_two ns cell ∙ both ∙ sym (of_two ms other))
same_key signature terms i j many (zero ∷ ns) (suc m ∷ ms) one inside cell other same = cc
same_key signature terms i j many (suc m ∷ ns) [] one inside cell other same = absurd other
same_key signature terms i j many (suc m ∷ ns) (zero ∷ ms) one inside cell other same = cc
same_key signature terms i j many (suc m ∷ []) (suc q ∷ ms) one inside cell other same = absurd cell
same_key signature terms i j many (suc m ∷ f ∷ ns) (suc q ∷ []) one inside cell other same = absurd other
same_key signature terms i j many (suc m ∷ f ∷ ns) (suc q ∷ g ∷ ms) one inside cell other same =
    let heads : f ≡ g = cc in
    let lists : all_bare (members terms ns) ≡ all_bare (members terms ms) = cc in
    let signs : m ≡ q = cell.0 ∙ sym other.0 in
    let numbers = same_numbers terms i j many ns ms one inside cell.1 other.1 lists in
    λ k. suc (signs k) ∷ heads k ∷ numbers k

below_one : (signature : Signature) (keys : List (List ℕ)) (bound : ℕ) → AreCells 0 keys → IsOnceEach keys
    → (i j : ℕ) → i < bound → i < length keys → j < length keys
    → bare (get_or (key_terms signature keys) i no_such_term) ≡ bare (get_or (key_terms signature keys) j no_such_term) → i ≡ j
below_one signature keys zero cells once i j low inside other same = absurd (omega (arith, low))
below_one signature keys (suc bound) cells once i j low inside other same =
    let terms = key_terms signature keys in
    let one_of : HaveOneNumber terms i (length keys) = (λ n m below within equal.
    below_one signature keys bound cells once n m (omega (arith, below, low)) (omega (arith, below, inside)) within equal) in
    let first = first_term_of_key signature keys i cells inside in
    let second = first_term_of_key signature keys j cells other in
    let equal : bare (key_term signature terms (get_or keys i [])) ≡ bare (key_term signature terms (get_or keys j [])) =
    ap bare (sym first) ∙ same ∙ ap bare second in
    once i j inside other
    (same_key signature terms i j (length keys) (get_or keys i []) (get_or keys j []) one_of other (first_cell_at keys i cells inside)
    (first_cell_at keys j cells other) equal)

pub one_number : (signature : Signature) (keys : List (List ℕ)) → AreCells 0 keys → IsOnceEach keys → (i j : ℕ) → i < length keys
    → j < length keys → bare (get_or (key_terms signature keys) i no_such_term)
    ≡ bare (get_or (key_terms signature keys) j no_such_term) → i ≡ j
one_number signature keys cells once i j inside other same =
    below_one signature keys (suc i) cells once i j (omega arith) inside other same

-- ---- Growing

pub grown_keys : (signature : Signature) (terms : List ProfiledTerm) (keys more : List (List ℕ))
    → with_key_terms signature terms (keys ++ more) ≡ with_key_terms signature (with_key_terms signature terms keys) more
grown_keys signature terms [] more = refl
grown_keys signature terms (key ∷ keys) more = grown_keys signature (terms ++ key_term signature terms key ∷ []) keys more

pub grown_stays : (signature : Signature) (before after : List (List ℕ)) (n : ℕ) → Grows before after → n < length before
    → get_or (key_terms signature after) n no_such_term ≡ get_or (key_terms signature before) n no_such_term
grown_stays signature before after n grows inside =
    let many = with_length signature [] before in
    ap (λ (keys : List (List ℕ)). get_or (key_terms signature keys) n no_such_term) grows.1
    ∙ ap (λ (ts : List ProfiledTerm). get_or ts n no_such_term) (grown_keys signature [] before grows.0)
    ∙ stays signature (key_terms signature before) grows.0 n (omega (arith, many, inside))

pub grows_on : (first second third : List (List ℕ)) → Grows first second → Grows second third → Grows first third
grows_on first second third one two =
    (one.0 ++ two.0, two.1 ∙ ap (λ (keys : List (List ℕ)). keys ++ two.0) one.1 ∙ append_assoc first one.0 two.0)

pub grows_not : (keys : List (List ℕ)) → Grows keys keys
grows_not keys = ([], sym (append-nil keys))
