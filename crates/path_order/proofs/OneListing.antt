-- An item of an order lists one list of operations.
use Rattle.std.proofs.Common.{refl, sym, ◌≡◌, ◌<◌, subst, ℕ, zero, suc, List, [], ◌∷◌, None, Some, slice_get, arith}
use Rattle.std.proofs.lemmas.Option.{same_Some}
use Rattle.lotos_base.specs.Signature.{Signature}
use Rattle.lotos_base.specs.WrittenTerm.{ListedOperation}
use Rattle.path_order.specs.Listed.{AreListedBy}

-- ---- Falling lists with the same members are one

abbrev Falls : List ℕ → Type 0
Falls fs = (i j f g : ℕ) → slice_get fs i ≡ Some f → slice_get fs j ≡ Some g → i < j → g < f

abbrev HasMember : List ℕ → ℕ → Type 0
HasMember fs f = (j : ℕ) × (slice_get fs j ≡ Some f)

falls_behind : (f : ℕ) (fs : List ℕ) → Falls (f ∷ fs) → Falls fs
falls_behind f fs falls i j g h at there less = falls (suc i) (suc j) g h at there (omega (arith, less))

below_first : (f : ℕ) (fs : List ℕ) → Falls (f ∷ fs) → (j g : ℕ) → slice_get fs j ≡ Some g → g < f
below_first f fs falls j g there = falls zero (suc j) f g refl there (omega arith)

one_first : (f g : ℕ) (fs gs : List ℕ) → Falls (f ∷ fs) → Falls (g ∷ gs) → (j k : ℕ) → slice_get (g ∷ gs) j ≡ Some f
    → slice_get (f ∷ fs) k ≡ Some g → f ≡ g
one_first f g fs gs falls also zero k there back = sym (same_Some g f there)
one_first f g fs gs falls also (suc j) zero there back = same_Some f g back
one_first f g fs gs falls also (suc j) (suc k) there back =
    absurd (omega (arith, below_first g gs also j f there, below_first f fs falls k g back))

member_behind : (g h : ℕ) (gs : List ℕ) (j : ℕ) → slice_get (g ∷ gs) j ≡ Some h → h < g → HasMember gs h
member_behind g h gs zero there less = absurd (omega (arith, less, same_Some g h there))
member_behind g h gs (suc j) there less = (j, there)

none_there : (f j : ℕ) → slice_get [] j ≡ Some f → ⊥
none_there f j there = let none : None ≡ Some f = there in cc

falling_once : (fs gs : List ℕ) → Falls fs → Falls gs → ((f : ℕ) → HasMember fs f → HasMember gs f)
    → ((f : ℕ) → HasMember gs f → HasMember fs f) → fs ≡ gs
falling_once [] [] falls also there back = refl
falling_once [] (g ∷ gs) falls also there back = let is = back g (zero, refl) in absurd (none_there g is.0 is.1)
falling_once (f ∷ fs) [] falls also there back = let is = there f (zero, refl) in absurd (none_there f is.0 is.1)
falling_once (f ∷ fs) (g ∷ gs) falls also there back =
    let one = there f (zero, refl) in
    let two = back g (zero, refl) in
    let same : f ≡ g = one_first f g fs gs falls also one.0 two.0 one.1 two.1 in
    let rest : fs ≡ gs = falling_once fs gs (falls_behind f fs falls) (falls_behind g gs also)
    (λ h is.
    let at = there h (suc is.0, is.1) in
    member_behind g h gs at.0 at.1 (subst (λ (k : ℕ). h < k) same (below_first f fs falls is.0 h is.1)))
    (λ h is.
    let at = back h (suc is.0, is.1) in
    member_behind f h fs at.0 at.1 (subst (λ (k : ℕ). h < k) (sym same) (below_first g gs also is.0 h is.1))) in
    (λ i. same i ∷ rest i)

-- ---- The operations of an item

pub listed_by_once : (signature : Signature) (item : ListedOperation) (fs gs : List ℕ) → AreListedBy signature item fs
    → AreListedBy signature item gs → fs ≡ gs
listed_by_once signature item fs gs one also =
    falling_once fs gs one.latest_first also.latest_first (λ f is. also.all f (one.listed is.0 f is.1))
    (λ f is. one.all f (also.listed is.0 f is.1))
