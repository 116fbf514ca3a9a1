-- Keys in a set that keeps their order.
use Rattle.std.proofs.Common.{arith, ◌≡◌, ◌<◌, ◌||◌, ◌&&◌, ℕ, zero, suc, Bool, true, false, List, [], ◌∷◌, ◌++◌, map, length, get_or, drop, refl, ap, sym, ◌∙◌, inl, inr, nat_eq}
use Rattle.std.specs.Prelude.{Some, nat_lt, slice_get, if◌then◌else◌}
use Rattle.std.specs.List.{list_any}
use Rattle.std.specs.Str.{bytes_eq}
use Rattle.std.proofs.lemmas.Bool.Decides.{Decides-eqb}
use Rattle.std.proofs.lemmas.List.{map-append}
use Rattle.std.proofs.lemmas.Option.{same_Some}
use Rattle.std.proofs.lemmas.Slice.Eq.{bytes_eq-Decides}
use Rattle.term_store.specs.Cells.{variable_key, numbered_operation_key, HasOneMore}
use Rattle.term_store.specs.KeyView.{unless, words_of}
use Rattle.term_store.specs.declared.key.Key.{Key}
use Rattle.term_store.specs.declared.key.Key.TheVariants.{Variable, Constant, Unary, Binary, Ternary, Many}
use Rattle.term_store.specs.contracts.key.KeyPartialEq.TheImpl.{eq-value}

-- whether two keys are equal
abbrev is_same : Key → Key → Bool
is_same a b = eq-value.it a b

both : (a b : Bool) → (a && b) ≡ true → (a ≡ true) × (b ≡ true)
both true true is = (refl, refl)
both true false is = cc
both false b is = cc

as_one : (a b : Bool) → a ≡ true → b ≡ true → (a && b) ≡ true
as_one true true one other = refl
as_one true false one other = cc
as_one false b one other = cc

-- two numbers with their lists
both_equal : (f g : ℕ) (ns ms : List ℕ) → (nat_eq f g && bytes_eq ns ms) ≡ true
    → ◌≡◌ {A = ℕ × List ℕ} (f, ns) (g, ms)
both_equal f g ns ms is =
    let parts = both (nat_eq f g) (bytes_eq ns ms) is in
    let head = (Decides-eqb f g).0 parts.0 in
    let rest = (bytes_eq-Decides ns ms).0 parts.1 in
    λ i. (head i, rest i)

both_found : (f g k m : ℕ) (ns ms : List ℕ) → (k ∷ f ∷ ns) ≡ (m ∷ g ∷ ms) → (nat_eq f g && bytes_eq ns ms) ≡ true
both_found f g k m ns ms is =
    as_one (nat_eq f g) (bytes_eq ns ms) ((Decides-eqb f g).1 (ap (λ (ws : List ℕ). get_or ws 1 0) is))
    ((bytes_eq-Decides ns ms).1 (ap (λ (ws : List ℕ). drop 2 ws) is))

-- ---- Equal keys have the same words

same_words : (a b : Key) → is_same a b ≡ true → words_of a ≡ words_of b
same_words (Variable s n) (Variable t m) is =
    let parts = both (nat_eq s t) (nat_eq n m) is in
    let sorts = (Decides-eqb s t).0 parts.0 in
    let numbers = (Decides-eqb n m).0 parts.1 in
    λ i. variable_key (numbers i) (sorts i)
same_words (Constant f) (Constant g) is = ap (λ (h : ℕ). numbered_operation_key h []) ((Decides-eqb f g).0 is)
same_words (Unary f ns) (Unary g ms) is =
    ap (λ (p : ℕ × List ℕ). suc (unless (nat_eq (length p.1) 1) 1) ∷ p.0 ∷ p.1) (both_equal f g ns ms is)
same_words (Binary f ns) (Binary g ms) is =
    ap (λ (p : ℕ × List ℕ). suc (unless (nat_eq (length p.1) 2) 2) ∷ p.0 ∷ p.1) (both_equal f g ns ms is)
same_words (Ternary f ns) (Ternary g ms) is =
    ap (λ (p : ℕ × List ℕ). suc (unless (nat_eq (length p.1) 3) 3) ∷ p.0 ∷ p.1) (both_equal f g ns ms is)
same_words (Many f ns) (Many g ms) is =
    ap (λ (p : ℕ × List ℕ). suc (unless (nat_lt 3 (length p.1)) 4) ∷ p.0 ∷ p.1) (both_equal f g ns.value.items ms.value.items is)
same_words a b is = cc

-- ---- Keys with the same words are equal

abbrev kind : Key → ℕ
kind (Variable s n) = 5
kind (Constant f) = 0
kind (Unary f ns) = 1
kind (Binary f ns) = 2
kind (Ternary f ns) = 3
kind (Many f ns) = 4

abbrev counted : ℕ → ℕ
counted n = if nat_lt 3 n then 4 else n

abbrev kind_in : List ℕ → ℕ
kind_in [] = 6
kind_in (zero ∷ ns) = 5
kind_in (suc zero ∷ ns) = counted (length (drop 1 ns))
kind_in (suc (suc k) ∷ ns) = suc k

kind_by : (k f : ℕ) (ns : List ℕ) (fits : Bool) → (fits ≡ true → counted (length ns) ≡ suc k)
    → suc k ≡ kind_in (suc (unless fits (suc k)) ∷ f ∷ ns)
kind_by k f ns true is = sym (is refl)
kind_by k f ns false is = refl

kind_is : (a : Key) → kind a ≡ kind_in (words_of a)
kind_is (Variable s n) = refl
kind_is (Constant f) = refl
kind_is (Unary f ns) = kind_by 0 f ns (nat_eq (length ns) 1) (λ is. ap counted ((Decides-eqb (length ns) 1).0 is))
kind_is (Binary f ns) = kind_by 1 f ns (nat_eq (length ns) 2) (λ is. ap counted ((Decides-eqb (length ns) 2).0 is))
kind_is (Ternary f ns) = kind_by 2 f ns (nat_eq (length ns) 3) (λ is. ap counted ((Decides-eqb (length ns) 3).0 is))
kind_is (Many f ns) =
    kind_by 3 f ns.value.items (nat_lt 3 (length ns.value.items)) (λ is. ap (λ (b : Bool). if b then 4 else length ns.value.items) is)

same_by : (a b : Key) → kind a ≡ kind b → words_of a ≡ words_of b → is_same a b ≡ true
same_by (Variable s n) (Variable t m) kinds is =
    as_one (nat_eq s t) (nat_eq n m) ((Decides-eqb s t).1 (ap (λ (ns : List ℕ). get_or ns 2 0) is))
    ((Decides-eqb n m).1 (ap (λ (ns : List ℕ). get_or ns 1 0) is))
same_by (Constant f) (Constant g) kinds is = (Decides-eqb f g).1 (ap (λ (ns : List ℕ). get_or ns 1 0) is)
same_by (Unary f ns) (Unary g ms) kinds is = both_found f g _ _ ns ms is
same_by (Binary f ns) (Binary g ms) kinds is = both_found f g _ _ ns ms is
same_by (Ternary f ns) (Ternary g ms) kinds is = both_found f g _ _ ns ms is
same_by (Many f ns) (Many g ms) kinds is = both_found f g _ _ ns.value.items ms.value.items is
same_by a b kinds is = cc

same_key : (a b : Key) → words_of a ≡ words_of b → is_same a b ≡ true
same_key a b is = same_by a b (kind_is a ∙ ap kind_in is ∙ sym (kind_is b)) is

-- ---- One more key

present : (keys : List Key) (key : Key) (n : ℕ) → n < length (map words_of keys) → get_or (map words_of keys) n [] ≡ words_of key
    → list_any (is_same key) keys ≡ true
present [] key n below is = absurd (omega (arith, below))
present (first ∷ keys) key zero below is = ap (λ (b : Bool). b || list_any (is_same key) keys) (same_key key first (sym is))
present (first ∷ keys) key (suc n) below is =
    go (is_same key first) (present keys key n (omega (arith, below)) is)
  where
    go : (b : Bool) → list_any (is_same key) keys ≡ true → (b || list_any (is_same key) keys) ≡ true
    go true later = refl
    go false later = later

pub one_more : (keys new : List Key) (key : Key) → new ≡ (if list_any (is_same key) keys then keys else keys ++ key ∷ [])
    → HasOneMore (map words_of keys) (words_of key) (map words_of new)
one_more keys new key is = go (list_any (is_same key) keys) refl is
  where
    go : (b : Bool) → list_any (is_same key) keys ≡ b → new ≡ (if b then keys else keys ++ key ∷ [])
        → HasOneMore (map words_of keys) (words_of key) (map words_of new)
    go true there same = inl (ap (map words_of) same)
    go false absent same =
        inr (
          ap (map words_of) same ∙ map-append words_of keys (key ∷ []),
          λ n below equal. let wrong : true ≡ false = sym (present keys key n below equal) ∙ absent in cc,
        )

at_number : (keys : List Key) (n : ℕ) (found : Key) → slice_get keys n ≡ Some found → get_or (map words_of keys) n [] ≡ words_of found
at_number [] n found is = cc
at_number (key ∷ keys) zero found is = ap words_of (same_Some key found is)
at_number (key ∷ keys) (suc n) found is = at_number keys n found is

pub stored_key : (keys : List Key) (key : Key) (n : ℕ) → (found : Key) × (slice_get keys n ≡ Some found) × (is_same key found ≡ true)
    → get_or (map words_of keys) n [] ≡ words_of key
stored_key keys key n stored = at_number keys n stored.0 stored.1 ∙ sym (same_words key stored.0 stored.2)
