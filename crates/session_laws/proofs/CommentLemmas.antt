-- A comment ends with the first `*)` behind its `(*`.
use Rattle.std.proofs.Common.{◌≡◌, ◌≢◌, ℕ, suc, Bool, true, false, if◌then◌else◌, List, [], ◌∷◌, ◌++◌, take, drop, length, codes, Option, None, Some, option_map, refl, ap, sym, ◌∙◌, arith}
use Rattle.std.proofs.lemmas.List.{length-append, take-append-drop, nil_from_length}
use Rattle.lotos_lexer.specs.Bytes.{begins_with}
use Rattle.lotos_lexer.specs.Pieces.{close_at}
use Rattle.session_laws.proofs.LongestLemmas.{fails, begins_so, so_begins}

-- no earlier end stands in what is ended
abbrev pub IsFirst : List ℕ → Type 0
IsFirst inner = (front back : List ℕ) → inner ++ codes "*)" ≡ front ++ (codes "*)" ++ back) → back ≡ []

first_none : IsFirst []
first_none front back is =
    let long = ap (λ (bs : List ℕ). length bs) is in
    let parts = length-append front (codes "*)" ++ back) in
    nil_from_length back (omega (arith, long, parts))

first_less : (byte : ℕ) (inner : List ℕ) → IsFirst (byte ∷ inner) → IsFirst inner
first_less byte inner first front back is = first (byte ∷ front) back (ap (λ (bs : List ℕ). byte ∷ bs) is)

-- two bytes are the same with more behind them
two_same : (byte : ℕ) (inner back : List ℕ) → take 2 (byte ∷ (inner ++ codes "*)")) ≡ take 2 (byte ∷ (inner ++ (codes "*)" ++ back)))
two_same byte [] back = refl
two_same byte (next ∷ inner) back = refl

pub rest_of : (sign : List ℕ) (bytes : List ℕ) → take (length sign) bytes ≡ sign → bytes ≡ sign ++ drop (length sign) bytes
rest_of sign bytes is =
    sym (take-append-drop (length sign) bytes) ∙ ap (λ (bs : List ℕ). bs ++ drop (length sign) bytes) is

first_more : (byte : ℕ) (inner : List ℕ) → begins_with (codes "*)") (byte ∷ (inner ++ codes "*)")) ≡ false → IsFirst inner
    → IsFirst (byte ∷ inner)
first_more byte inner later first [] back is =
    absurd (fails (begins_with (codes "*)") (byte ∷ (inner ++ codes "*)"))) (ap (begins_with (codes "*)")) is) later)
first_more byte inner later first (next ∷ front) back is = first front back (ap (drop 1) is)

pub close_of : (inner back : List ℕ) → IsFirst inner → close_at (inner ++ (codes "*)" ++ back)) ≡ Some (suc (suc (length inner)))
close_of [] back first = refl
close_of (byte ∷ inner) back first =
    by (begins_with (codes "*)") (byte ∷ (inner ++ (codes "*)" ++ back)))) refl (close_of inner back (first_less byte inner first))
  where
    never : begins_with (codes "*)") (byte ∷ (inner ++ (codes "*)" ++ back))) ≡ true → ⊥
    never is =
        let two : take 2 (byte ∷ (inner ++ codes "*)")) ≡ codes "*)" =
        two_same byte inner back ∙ begins_so (codes "*)") (byte ∷ (inner ++ (codes "*)" ++ back))) is in
        let none : drop 2 (byte ∷ (inner ++ codes "*)")) ≡ [] =
        first [] (drop 2 (byte ∷ (inner ++ codes "*)"))) (rest_of (codes "*)") (byte ∷ (inner ++ codes "*)")) two) in
        let all : byte ∷ (inner ++ codes "*)") ≡ codes "*)" =
        rest_of (codes "*)") (byte ∷ (inner ++ codes "*)")) two ∙ ap (λ (bs : List ℕ). codes "*)" ++ bs) none in
        let long = ap (λ (bs : List ℕ). length bs) all in
        let more = length-append inner (codes "*)") in
        omega (arith, long, more)

    by : (begins : Bool) → begins_with (codes "*)") (byte ∷ (inner ++ (codes "*)" ++ back))) ≡ begins
        → close_at (inner ++ (codes "*)" ++ back)) ≡ Some (suc (suc (length inner)))
        → (if begins then Some 2 else option_map suc (close_at (inner ++ (codes "*)" ++ back)))) ≡ Some (suc (suc (suc (length inner))))
    by true begins rest = absurd (never begins)
    by false begins rest = ap (option_map suc) rest

-- where an end is found, what stands before it has no earlier one
pub record IsClosed (bytes : List ℕ) (count : ℕ) : Type 0 where
  pub inner : List ℕ
  pub back : List ℕ
  pub made_up : bytes ≡ inner ++ (codes "*)" ++ back)
  pub count_is : count ≡ suc (suc (length inner))
  pub first : IsFirst inner

pub close_found : (bytes : List ℕ) (count : ℕ) → close_at bytes ≡ Some count → IsClosed bytes count
close_found [] count found = absurd (cc found)
close_found (byte ∷ rest) count found =
    by (begins_with (codes "*)") (byte ∷ rest)) refl (close_at rest) refl found (λ n is. close_found rest n is)
  where
    more : (n : ℕ) → begins_with (codes "*)") (byte ∷ rest) ≡ false → IsClosed rest n → suc n ≡ count → IsClosed (byte ∷ rest) count
    more n later closed same = record {
      inner = byte ∷ closed.inner;
      back = closed.back;
      made_up = ap (λ (bs : List ℕ). byte ∷ bs) closed.made_up;
      count_is = sym same ∙ ap suc closed.count_is;
      first = first_more byte closed.inner not_yet closed.first;
    }
      where
        by_two : (begins : Bool) → begins_with (codes "*)") (byte ∷ (closed.inner ++ codes "*)")) ≡ begins → begins ≡ false
        by_two true is =
            let two : take 2 (byte ∷ rest) ≡ codes "*)" =
            ap (λ (bs : List ℕ). take 2 (byte ∷ bs)) closed.made_up
            ∙ (sym (two_same byte closed.inner closed.back) ∙ begins_so (codes "*)") (byte ∷ (closed.inner ++ codes "*)")) is) in
            absurd (fails (begins_with (codes "*)") (byte ∷ rest)) (so_begins (codes "*)") (byte ∷ rest) two) later)
        by_two false is = refl

        not_yet : begins_with (codes "*)") (byte ∷ (closed.inner ++ codes "*)")) ≡ false
        not_yet = let it = by_two (begins_with (codes "*)") (byte ∷ (closed.inner ++ codes "*)"))) refl in it

    by : (begins : Bool) → begins_with (codes "*)") (byte ∷ rest) ≡ begins → (later : Option ℕ) → close_at rest ≡ later
        → (if begins then Some 2 else option_map suc later) ≡ Some count → ((n : ℕ) → close_at rest ≡ Some n → IsClosed rest n)
        → IsClosed (byte ∷ rest) count
    by true begins later is same below = record {
      inner = [];
      back = drop 2 (byte ∷ rest);
      made_up = rest_of (codes "*)") (byte ∷ rest) (begins_so (codes "*)") (byte ∷ rest) begins);
      count_is = cc same;
      first = first_none;
    }
    by false begins None is same below = absurd (cc same)
    by false begins (Some n) is same below = more n begins (below n is) (cc same)

-- an end that stands somewhere is found
pub close_none : (front back : List ℕ) → close_at (front ++ (codes "*)" ++ back)) ≢ None
close_none [] back is = cc is
close_none (byte ∷ front) back is =
    by (begins_with (codes "*)") (byte ∷ (front ++ (codes "*)" ++ back)))) (close_at (front ++ (codes "*)" ++ back))) is
    (close_none front back)
  where
    by : (begins : Bool) (later : Option ℕ) → (if begins then Some 2 else option_map suc later) ≡ None → later ≢ None → ⊥
    by true later h rest = cc h
    by false None h rest = rest refl
    by false (Some n) h rest = cc h
