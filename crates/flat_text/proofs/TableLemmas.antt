-- Tables of names, and the least numbers that are found in them.
use Rattle.std.proofs.Common.{◌≡◌, ◌+◌, ◌<◌, ◌≤◌, ◌^◌, ℕ, suc, List, [], ◌∷◌, length, map, Bool, true, false, if◌then◌else◌, refl, ap, sym, ◌∙◌, inl, inr, arith}
use Rattle.std.specs.Prelude.{◌⊎◌, ◌||◌, Some, is_some}
use Rattle.std.specs.Char.{to_ascii_lowercase}
use Rattle.std.specs.Str.{bytes_eq}
use Rattle.std.proofs.lemmas.Bool.{false≢true, true≢false, or_left, or_right}
use Rattle.std.proofs.lemmas.List.{length-map}
use Rattle.std.proofs.lemmas.Str.Ascii.{lowercase-lowercase}
use Rattle.lotos_base.specs.Names.{folded}
use Rattle.lotos_base.proofs.Bytes.{same_bytes, bytes_same}
use Rattle.lotos_base.proofs.Numbers.{compared}
use Rattle.scope_parts.specs.Scope.{Binding, bind, bound_to, is_bound}
use Rattle.sort_terms.specs.ReadingOutcome.{one_name}
use Rattle.flat_text.specs.FreeNames.{has_name, with_number, least_free}
use Rattle.flat_text.specs.NameLaws.{IsLeastFree}
use Rattle.flat_text.specs.WritingView.{HasTheseNames, IsLeastUnbound}
use Rattle.flat_text.proofs.NumberedNames.{enough, least_is_free}

-- what is bound after one more name
pub bound_more : (name : List ℕ) (number : ℕ) (bindings : List Binding) (q : List ℕ)
    → is_bound (bind name number bindings) q ≡ (one_name q name || is_bound bindings q)
bound_more name number bindings q = by (bytes_eq (folded q) (folded name))
  where
    by : (b : Bool) → is_some (if b then Some number else bound_to bindings (folded q)) ≡ (b || is_some (bound_to bindings (folded q)))
    by true = refl
    by false = refl

pub names_more : (name : List ℕ) (number : ℕ) (bindings : List Binding) (names : List (List ℕ)) → HasTheseNames bindings names
    → HasTheseNames (bind name number bindings) (name ∷ names)
names_more name number bindings names has = record {
  same = λ q. bound_more name number bindings q ∙ ap (λ (b : Bool). one_name q name || b) (has.same q);
  as_many = ap suc has.as_many;
}

pub no_names : HasTheseNames [] []
no_names = record { same = λ q. refl; as_many = refl }

-- The least number that is not bound is the least free one.
pub unbound_free : (bindings : List Binding) (names : List (List ℕ)) (word : List ℕ) (number found : ℕ) → HasTheseNames bindings names
    → IsLeastUnbound bindings word number found → IsLeastFree names word number found
unbound_free bindings names word number found has least = record {
  from = least.from;
  free = sym (has.same (with_number word found)) ∙ least.free;
  least = λ k low high. sym (has.same (with_number word k)) ∙ least.least k low high;
}

-- There is one least number.
one_least : (names : List (List ℕ)) (word : List ℕ) (number one other : ℕ) → IsLeastFree names word number one
    → IsLeastFree names word number other → one < other → ⊥
one_least names word number one other first second less = true≢false (sym (second.least one first.from less) ∙ first.free)

pub least_is_one : (names : List (List ℕ)) (word : List ℕ) (number one other : ℕ) → IsLeastFree names word number one
    → IsLeastFree names word number other → one ≡ other
least_is_one names word number one other first second = by (compared one other)
  where
    by : (one < other) ⊎ ((one ≡ other) ⊎ (other < one)) → one ≡ other
    by (inl less) = absurd (one_least names word number one other first second less)
    by (inr (inl same)) = same
    by (inr (inr more)) = absurd (one_least names word number other one second first more)

-- What is found in a table of the taken names is the least free number.
pub least_found : (bindings : List Binding) (names : List (List ℕ)) (word : List ℕ) (number found : ℕ) → HasTheseNames bindings names
    → IsLeastUnbound bindings word number found → number + suc (length bindings) < 2 ^ 64 → found ≡ least_free names word number
least_found bindings names word number found has least room =
    least_is_one names word number found (least_free names word number)
    (unbound_free bindings names word number found has least)
    (least_is_free names word number (omega (arith, room, has.as_many)))

-- Numbers that were tried already give taken names, so the search may go on behind them.
pub tried_before : (names : List (List ℕ)) (word : List ℕ) (first from found : ℕ)
    → ((k : ℕ) → first ≤ k → k < from → has_name names (with_number word k) ≡ true) → first ≤ from
    → IsLeastFree names word from found → IsLeastFree names word first found
tried_before names word first from found tried low least = record {
  from = omega (arith, low, least.from);
  free = least.free;
  least = λ k here there. by k here there (compared k from);
}
  where
    by : (k : ℕ) → first ≤ k → k < found → (k < from) ⊎ ((k ≡ from) ⊎ (from < k)) → has_name names (with_number word k) ≡ true
    by k here there (inl less) = tried k here less
    by k here there (inr (inl same)) = least.least k (omega (arith, same)) there
    by k here there (inr (inr more)) = least.least k (omega (arith, more)) there

-- ---- Names that are bound one after another.

-- the table has the names that are not left any more
pub record HasAllBut (bindings : List Binding) (left all : List (List ℕ)) : Type 0 where
  same : (q : List ℕ) → (is_bound bindings q || has_name left q) ≡ has_name all q
  as_many : length bindings + length left ≡ length all

pub none_bound : (bindings : List Binding) (all : List (List ℕ)) → bindings ≡ [] → HasAllBut bindings all all
none_bound [] all e = record { same = λ q. refl; as_many = let counted : 0 + length all ≡ length all = omega arith in counted }
none_bound (b ∷ bindings) all e = absurd (cc e)

moved : (one bound rest : Bool) → ((one || bound) || rest) ≡ (bound || (one || rest))
moved true true rest = refl
moved true false rest = refl
moved false bound rest = refl

pub one_bound : (bindings next : List Binding) (name : List ℕ) (number : ℕ) (left all : List (List ℕ))
    → HasAllBut bindings (name ∷ left) all → next ≡ bind name number bindings → HasAllBut next left all
one_bound bindings next name number left all has is = record {
  same = λ q. ap (λ (bs : List Binding). is_bound bs q || has_name left q) is
      ∙ ap (λ (b : Bool). b || has_name left q) (bound_more name number bindings q)
      ∙ moved (one_name q name) (is_bound bindings q) (has_name left q)
      ∙ has.same q;
  as_many = let counted : length bindings + suc (length left) ≡ length all = has.as_many in
      let longer : length next ≡ suc (length bindings) = ap length is in
      omega (arith, counted, longer);
}

no_more : (b : Bool) → (b || false) ≡ b
no_more true = refl
no_more false = refl

pub all_bound : (bindings : List Binding) (left all : List (List ℕ)) → HasAllBut bindings left all → left ≡ [] → HasTheseNames bindings all
all_bound bindings [] all has e = record {
  same = λ q. sym (no_more (is_bound bindings q)) ∙ has.same q;
  as_many = let counted : length bindings + 0 ≡ length all = has.as_many in omega (arith, counted);
}
all_bound bindings (name ∷ left) all has e = absurd (cc e)

-- ---- Of so many numbers one gives a name that is not in the table.

-- the keys of a table
abbrev keys : List Binding → List (List ℕ)
keys bindings = map (λ (b : Binding). b.key) bindings

folded_twice : (name : List ℕ) → folded (folded name) ≡ folded name
folded_twice [] = refl
folded_twice (c ∷ name) =
    ap (λ (d : ℕ). d ∷ folded (folded name)) (lowercase-lowercase c)
    ∙ ap (λ (rest : List ℕ). to_ascii_lowercase c ∷ rest) (folded_twice name)

key_there : (bindings : List Binding) (q : List ℕ) → is_bound bindings q ≡ true → has_name (keys bindings) q ≡ true
key_there [] q h = absurd (false≢true h)
key_there (b ∷ bindings) q h = by (bytes_eq (folded q) b.key) refl h (key_there bindings q)
  where
    by : (same : Bool) → bytes_eq (folded q) b.key ≡ same
        → is_some (if same then Some b.number else bound_to bindings (folded q)) ≡ true
        → (is_bound bindings q ≡ true → has_name (keys bindings) q ≡ true)
        → has_name (keys (b ∷ bindings)) q ≡ true
    by true is there rest =
        or_left (one_name q b.key) (has_name (keys bindings) q)
        (bytes_same (folded q) (folded b.key)
        (sym (folded_twice q) ∙ ap folded (same_bytes (folded q) b.key is)))
    by false is there rest = or_right (one_name q b.key) (has_name (keys bindings) q) (rest there)

pub not_all_bound : (bindings : List Binding) (word : List ℕ) (from : ℕ) → from + suc (length bindings) < 2 ^ 64
    → ((k : ℕ) → from ≤ k → k < from + suc (length bindings) → is_bound bindings (with_number word k) ≡ true) → ⊥
not_all_bound bindings word from few each =
    let counted : length (keys bindings) ≡ length bindings = length-map bindings (λ (b : Binding). b.key) in
    let many : suc (length bindings) ≤ length (keys bindings) =
    enough (keys bindings) word from (suc (length bindings)) few
    (λ k low high. key_there bindings (with_number word k) (each k low high)) in
    absurd (omega (arith, many, counted))

-- all of them were tried
pub all_tried : (bindings : List Binding) (word : List ℕ) (from number end : ℕ) → end ≡ from + suc (length bindings) → end < 2 ^ 64
    → end ≤ number → ((k : ℕ) → from ≤ k → k < number → is_bound bindings (with_number word k) ≡ true) → ⊥
all_tried bindings word from number end is few past tried =
    not_all_bound bindings word from (omega (arith, is, few)) (λ k low high. tried k low (omega (arith, high, is, past)))
