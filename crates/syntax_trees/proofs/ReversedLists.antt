-- Lists that are held from the last to the first.
use Rattle.std.proofs.Common.{◌≡◌, ◌∙◌, ℕ, zero, suc, true, false, ◌+◌, ◌-◌, List, [], ◌∷◌, ◌++◌, map, reverse, take, drop, length, Some, None, refl, ap, sym, arith, length-drop}
use Rattle.std.specs.Prelude.{Option, option_map, slice_get}
use Rattle.std.specs.Option.{is_some}
use Rattle.std.specs.List.{drop-map}
use Rattle.std.proofs.lemmas.List.{length-map, length-reverse, map-append, reverse-append, take-append-drop}
use Rattle.std.proofs.Math.Seq.{drop-append_seam}
use Rattle.lotos_base.specs.declared.places.Place.{Place}
use Rattle.lotos_base.specs.WrittenView.{text_place_of}
use Rattle.syntax_trees.specs.Firsts.{Firsts, firsts_followed_by}

pub map-reversed : {A B : Type 0} (f : A → B) (xs : List A) → reverse (map f xs) ≡ map f (reverse xs)
map-reversed f [] = refl
map-reversed f (x ∷ xs) =
    reverse-append (f x ∷ []) (map f xs) ∙ ap (λ it. it ++ f x ∷ []) (map-reversed f xs) ∙ sym (map-append f (reverse xs) (x ∷ []))
    ∙ ap (map f) (sym (reverse-append (x ∷ []) xs))

-- the first part of a list, from the last
pub reversed_front : {A : Type 0} (xs : List A) (many few : ℕ) → many + few ≡ length xs → reverse (take many xs) ≡ drop few (reverse xs)
reversed_front xs many few e =
    let behind = reverse (drop many xs) in
    let count : length behind ≡ few = length-reverse (drop many xs) ∙ length-drop many xs ∙ (omega arith) in
    let parts : reverse xs ≡ behind ++ reverse (take many xs) =
    ap reverse (sym (take-append-drop many xs)) ∙ reverse-append (take many xs) (drop many xs) in
    sym (drop-append_seam behind (reverse (take many xs))) ∙ ap (drop (length behind)) (sym parts) ∙ ap (λ it. drop it (reverse xs)) count

-- a list over another, both from the last
pub overlaid : {A : Type 0} (over under : List A) (many : ℕ) → many + length over ≡ length under →
    reverse (take many under ++ over) ≡ reverse over ++ drop (length over) (reverse under)
overlaid over under many e =
    reverse-append (take many under) over ∙ ap (λ it. reverse over ++ it) (reversed_front under many (length over) e)

seen_over : (over under places : List Place) → reverse places ≡ reverse over ++ drop (length over) (reverse under) →
    reverse (map text_place_of places)
    ≡ reverse (map text_place_of over) ++ drop (length (reverse (map text_place_of over))) (reverse (map text_place_of under))
seen_over over under places e =
    let count : length (reverse (map text_place_of over)) ≡ length over =
    length-reverse (map text_place_of over) ∙ length-map over text_place_of in
    map-reversed text_place_of places ∙ ap (map text_place_of) e
    ∙ map-append text_place_of (reverse over) (drop (length over) (reverse under))
    ∙ ap (λ it. it ++ map text_place_of (drop (length over) (reverse under))) (sym (map-reversed text_place_of over))
    ∙ ap (λ it. reverse (map text_place_of over) ++ it)
    (sym (drop-map text_place_of (length over) (reverse under)) ∙ ap (drop (length over)) (sym (map-reversed text_place_of under))
    ∙ ap (λ it. drop it (reverse (map text_place_of under))) (sym count))

-- the code's first nodes of one part and then of another
pub seen_followed : (over under places : List Place) (gone rest : Option Place) → gone ≡ None →
    reverse places ≡ reverse over ++ drop (length over) (reverse under) →
    (let all : Firsts = record { places = reverse (map text_place_of places); rest = option_map text_place_of rest } in all)
    ≡ firsts_followed_by (reverse (map text_place_of over)) (option_map text_place_of gone)
    (record { places = reverse (map text_place_of under); rest = option_map text_place_of rest })
seen_followed over under places (Some place) rest none e = let both : Some place ≡ None = none in cc
seen_followed over under places None rest none e =
    ap (λ it. let all : Firsts = record { places = it; rest = option_map text_place_of rest } in all) (seen_over over under places e)

-- the last of a list is the first from the last
pub seen_last : (places front : List Place) (place : Place) → places ≡ front ++ place ∷ [] →
    reverse (map text_place_of places) ≡ text_place_of place ∷ reverse (map text_place_of front)
seen_last places front place e =
    ap (λ it. reverse (map text_place_of it)) e ∙ ap reverse (map-append text_place_of front (place ∷ []))
    ∙ reverse-append (map text_place_of front) (text_place_of place ∷ [])

last_split : (places : List Place) (at : ℕ) (place : Place) → at + 1 ≡ length places → Some place ≡ slice_get places at →
    (front : List Place) × (places ≡ front ++ place ∷ [])
last_split [] at place e f = absurd (omega arith)
last_split (first ∷ []) zero place e f = ([], (let same : place ≡ first = cc in ap (λ it. it ∷ []) (sym same)))
last_split (first ∷ []) (suc at) place e f = absurd (omega arith)
last_split (first ∷ second ∷ rest) zero place e f = absurd (omega arith)
last_split (first ∷ second ∷ rest) (suc at) place e f =
    let it = last_split (second ∷ rest) at place (omega arith) f in (first ∷ it.0, ap (λ l. first ∷ l) it.1)

-- the last place and those in front of it
pub last_of : (places : List Place) (place : Place) → Some place ≡ slice_get places (length places - 1) →
    (front : List Place) × (places ≡ front ++ place ∷ [])
last_of [] place f = let none : Some place ≡ None = f in cc
last_of (first ∷ rest) place f = last_split (first ∷ rest) (length (first ∷ rest) - 1) place (omega arith) f

pub no_some : (rest : Option Place) → is_some rest ≡ false → rest ≡ None
no_some None e = refl
no_some (Some place) e = let both : true ≡ false = e in cc
