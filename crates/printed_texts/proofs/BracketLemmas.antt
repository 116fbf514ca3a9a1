use Rattle.std.proofs.Common.{◌≡◌, ◌<◌, ◌≤◌, ℕ, ◌+◌, zero, suc, List, [], ◌∷◌, ◌++◌, Bool, true, false, codes, map, length, get_or, take, drop, refl, sym, ◌∙◌, ap, append_assoc, add-one, arith, drop-cons}
use Rattle.std.proofs.Math.Seq.{take-append_seam, drop-append_seam, drop-length}
use Rattle.std.proofs.lemmas.List.{append-nil}
use Rattle.printed_texts.specs.Brackets.{round, bracketed, opening, with_closing_bracket, commas, after_commas, separator, listed, spaced}

-- brackets that are closed behind what was written since they were opened
pub closed_brackets :
    (needed : Bool) (head text : List ℕ) → with_closing_bracket needed (length (head ++ opening needed))
    ((head ++ opening needed) ++ text) ≡ head
    ++ bracketed needed text
closed_brackets true head text =
    rw (take-append_seam (head ++ codes "(") text) (rw (drop-append_seam (head ++ codes "(") text)
    (ap (λ xs. xs ++ codes ")") (append_assoc head (codes "(") (spaced 42 text))
    ∙ append_assoc head (codes "(" ++ spaced 42 text) (codes ")")))
closed_brackets false head text = ap (λ xs. xs ++ text) (append-nil head)

-- the same, where the parts are known by equations
pub closed_text :
    (needed : Bool) (head opened written end text : List ℕ) (position : ℕ) →
    opened ≡ head ++ opening needed →
    position ≡ length opened →
    written ≡ opened ++ text →
    end ≡ with_closing_bracket needed position written →
    end ≡ head ++ bracketed needed text
closed_text needed head opened written end text position is_opened at is_written is_end =
    is_end
    ∙ ap (λ xs. with_closing_bracket needed position xs) (is_written ∙ ap (λ xs. xs ++ text) is_opened)
    ∙ ap (λ n. with_closing_bracket needed n ((head ++ opening needed) ++ text)) (at ∙ ap length is_opened)
    ∙ closed_brackets needed head text

-- the next text of a list
pub listed_next : (number : ℕ) (text : List ℕ) (texts : List (List ℕ))
    → listed number (text ∷ texts) ≡ separator number ++ text ++ listed (number + 1) texts
listed_next zero text texts = refl
listed_next (suc number) text texts = rw (add-one (suc number)) refl

-- nothing is left of a list
pub listed_nothing : (number : ℕ) → listed number [] ≡ []
listed_nothing zero = refl
listed_nothing (suc number) = refl

-- one more member of a list is written
pub listed_more :
    {X : Type 0} (text_of : X → List ℕ) (members : List X) (number : ℕ) (member : X) (was comma now start : List ℕ) →
    number < length members →
    member ≡ get_or members number member →
    was ++ listed number (map text_of (drop number members)) ≡ start →
    comma ≡ was ++ separator number →
    now ≡ comma ++ text_of member →
    now ++ listed (number + 1) (map text_of (drop (number + 1) members)) ≡ start
listed_more text_of members number member was comma now start below is before with_comma with_text =
    let next : suc number ≡ number + 1 = omega arith in
    let split : drop number members ≡ get_or members number member ∷ drop (suc number) members = drop-cons members number member below in
    let cut : drop number members ≡ member ∷ drop (number + 1) members = cc in
    let texts : listed number (map text_of (drop number members))
    ≡ separator number ++ text_of member ++ listed (number + 1) (map text_of (drop (number + 1) members))
    = ap (λ ms. listed number (map text_of ms)) cut ∙ listed_next number _ _ in
    ap (λ xs. xs ++ listed (number + 1) (map text_of (drop (number + 1) members))) (with_text ∙ ap (λ xs. xs ++ text_of member) with_comma)
    ∙ ap (λ xs. xs ++ listed (number + 1) (map text_of (drop (number + 1) members))) (append_assoc was (separator number) (text_of member))
    ∙ append_assoc was (separator number ++ text_of member) _
    ∙ ap (λ xs. was ++ xs) (sym texts)
    ∙ before

-- all members of a list are written
pub listed_all :
    {X : Type 0} (text_of : X → List ℕ) (members : List X) (number : ℕ) (now start : List ℕ) →
    length members ≤ number →
    number ≤ length members →
    now ++ listed number (map text_of (drop number members)) ≡ start ++ commas (map text_of members) →
    now ≡ start ++ commas (map text_of members)
listed_all text_of members number now start over below written =
    let same : number ≡ length members = omega arith in
    let nothing : listed number (map text_of (drop number members)) ≡ []
    = ap (λ n. listed number (map text_of (drop n members))) same ∙ ap (λ ms. listed number (map text_of ms)) (drop-length members)
    ∙ listed_nothing number in
    sym (append-nil now) ∙ ap (λ xs. now ++ xs) (sym nothing) ∙ written
