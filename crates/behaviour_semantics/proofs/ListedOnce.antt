-- Two depths give no two lists of moves.
use Rattle.std.proofs.Common.{◌≡◌, inl, inr, ℕ, List, [], ◌∷◌, Some, refl, ap, sym, ◌∙◌, subst}
use Rattle.lotos_base.specs.Substitution.{Substitution}
use Rattle.behaviour_semantics.specs.Behaviour.{Behaviour}
use Rattle.behaviour_semantics.specs.Shape.{Before}
use Rattle.behaviour_semantics.specs.Move.{Setting, move_of}
use Rattle.behaviour_semantics.specs.Listing.{ShapedMove, IsAmong, listed_moves}
use Rattle.behaviour_semantics.proofs.OrderLemmas.{Before-irrefl, Before-trans}
use Rattle.behaviour_semantics.proofs.ListLemmas.{EachOf, Within, Every-among}
use Rattle.behaviour_semantics.proofs.ListingLemmas.{listed}
use Rattle.behaviour_semantics.proofs.ListingSoundness.{are_moves}
use Rattle.behaviour_semantics.proofs.ListingOrder.{Earlier, Rising, RisingIn, moves_rise}

abbrev pub Inside : List ShapedMove → List ShapedMove → Type 0
Inside xs ys = (x : ShapedMove) → IsAmong x xs → IsAmong x ys

pub same_heads : (x y : ShapedMove) (xs ys : List ShapedMove) → Rising (x ∷ xs) → Rising (y ∷ ys) → IsAmong x (y ∷ ys) → IsAmong y (x ∷ xs)
    → x ≡ y
same_heads x y xs ys h k (inl same) b = sym same
same_heads x y xs ys h k (inr a) (inl same) = same
same_heads x y xs ys h k (inr a) (inr b) =
    absurd (Before-irrefl x.shape (Before-trans x.shape y.shape x.shape (Every-among (Earlier x) xs y h.0 b)
    (Every-among (Earlier y) ys x k.0 a)))

-- what is behind the head of one list is behind the head of the other
pub behind : (x y z : ShapedMove) (xs ys : List ShapedMove) → x ≡ y → Rising (x ∷ xs) → IsAmong z xs → IsAmong z (y ∷ ys) → IsAmong z ys
behind x y z xs ys heads h a (inl same) =
    absurd (Before-irrefl z.shape (subst (λ (w : ShapedMove). Before w.shape z.shape) (heads ∙ same) (Every-among (Earlier x) xs z h.0 a)))
behind x y z xs ys heads h a (inr b) = b

pub same_lists : (xs ys : List ShapedMove) → Rising xs → Rising ys → Inside xs ys → Inside ys xs → xs ≡ ys
same_lists [] [] h k i j = refl
same_lists [] (y ∷ ys) h k i j = absurd (j y (inl refl))
same_lists (x ∷ xs) [] h k i j = absurd (i x (inl refl))
same_lists (x ∷ xs) (y ∷ ys) h k i j =
    let heads : x ≡ y = same_heads x y xs ys h k (i x (inl refl)) (j y (inl refl)) in
    let tails : xs ≡ ys = same_lists xs ys h.1 k.1 (λ z a. behind x y z xs ys heads h a (i z (inr a)))
    (λ z a. behind y x z ys xs (sym heads) k a (j z (inr a))) in
    ap (λ (z : ShapedMove). z ∷ xs) heads ∙ ap (λ (zs : List ShapedMove). y ∷ zs) tails

module _ (setting : Setting) (leaves : Substitution) (next : ℕ) (b : Behaviour) where
  inside : (depth other : ℕ) (moves others : List ShapedMove) → listed_moves setting leaves depth next b ≡ Some moves
      → listed_moves setting leaves other next b ≡ Some others → Inside moves others
  inside depth other moves others e e' x a =
      subst (Within x) e' (listed setting leaves other x.shape next b x.move
      (Every-among (λ (y : ShapedMove). move_of setting leaves y.shape next b ≡ Some y.move) moves x
      (subst (EachOf (λ (y : ShapedMove). move_of setting leaves y.shape next b ≡ Some y.move)) e
      (are_moves setting leaves depth next b)) a))

  pub one_list : (depth other : ℕ) (moves others : List ShapedMove) → listed_moves setting leaves depth next b ≡ Some moves
      → listed_moves setting leaves other next b ≡ Some others → moves ≡ others
  one_list depth other moves others e e' =
      same_lists moves others (subst RisingIn e (moves_rise setting leaves depth next b))
      (subst RisingIn e' (moves_rise setting leaves other next b))
      (inside depth other moves others e e') (inside other depth others moves e' e)
