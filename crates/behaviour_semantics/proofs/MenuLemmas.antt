-- Lists of entries that rise and have the same members are the same list.
use Rattle.std.proofs.Common.{◌≡◌, ◌<◌, zero, suc, List, [], ◌∷◌, refl, ap, sym, ◌∙◌, arith, subst}
use Rattle.behaviour_semantics.specs.Shape.{Before}
use Rattle.behaviour_semantics.specs.Solving.{Entry}
use Rattle.behaviour_semantics.specs.Menu.{IsEntry, Rise}
use Rattle.behaviour_semantics.proofs.OptionLemmas.{some_value}
use Rattle.behaviour_semantics.proofs.OrderLemmas.{Before-irrefl, Before-trans}

abbrev Within : List Entry → List Entry → Type 0
Within menu other = (x : Entry) → IsEntry menu x → IsEntry other x

Rise-tail : (e : Entry) (es : List Entry) → Rise (e ∷ es) → Rise es
Rise-tail e es rise i j x y lt at at' = rise (suc i) (suc j) x y (let h : suc i < suc j = omega arith in h) at at'

-- The first entry of a list that rises comes before each later one.
first_before : (e : Entry) (es : List Entry) (x : Entry) → Rise (e ∷ es) → IsEntry es x → Before e.shape x.shape
first_before e es x rise (k, at) = rise 0 (suc k) e x (omega arith) refl at

same_heads : (e f : Entry) (es fs : List Entry) → Rise (e ∷ es) → Rise (f ∷ fs) → IsEntry (f ∷ fs) e → IsEntry (e ∷ es) f → e ≡ f
same_heads e f es fs rise rise' (zero, at) at' = sym (some_value at)
same_heads e f es fs rise rise' (suc k, at) (zero, at') = some_value at'
same_heads e f es fs rise rise' (suc k, at) (suc j, at') =
    absurd (Before-irrefl e.shape (Before-trans e.shape f.shape e.shape (first_before e es f rise (j, at'))
    (first_before f fs e rise' (k, at))))

in_tail : (e f : Entry) (es fs : List Entry) (x : Entry) → e ≡ f → Rise (e ∷ es) → IsEntry es x → IsEntry (f ∷ fs) x → IsEntry fs x
in_tail e f es fs x same rise inside (zero, at) =
    let h : x ≡ e = sym (some_value at) ∙ sym same in
    absurd (Before-irrefl e.shape (subst (λ y. Before e.shape y.shape) h (first_before e es x rise inside)))
in_tail e f es fs x same rise inside (suc k, at) = (k, at)

pub same_members : (menu other : List Entry) → Rise menu → Rise other → Within menu other → Within other menu → menu ≡ other
same_members [] [] rise rise' w w' = refl
same_members [] (f ∷ fs) rise rise' w w' = let h : IsEntry [] f = w' f (0, refl) in absurd (cc h.1)
same_members (e ∷ es) [] rise rise' w w' = let h : IsEntry [] e = w e (0, refl) in absurd (cc h.1)
same_members (e ∷ es) (f ∷ fs) rise rise' w w' =
    let heads : e ≡ f = same_heads e f es fs rise rise' (w e (0, refl)) (w' f (0, refl)) in
    let tails : es ≡ fs = same_members es fs (Rise-tail e es rise) (Rise-tail f fs rise')
    (λ x inside. in_tail e f es fs x heads rise inside (w x (suc inside.0, inside.1)))
    (λ x inside. in_tail f e fs es x (sym heads) rise' inside (w' x (suc inside.0, inside.1))) in
    ap (λ x. x ∷ es) heads ∙ ap (λ xs. f ∷ xs) tails
