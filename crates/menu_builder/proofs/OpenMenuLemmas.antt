-- Whatever number above all variables the leaves begin at, the drafts with their variables numbered from 0 are the same.
use Rattle.std.proofs.Common.{◌≡◌, ◌≤◌, inl, inr, ℕ, List, [], ◌∷◌, map, Some, option_map, refl, ap, sym, ◌∙◌, subst}
use Rattle.lotos_base.proofs.Options.{mapped}
use Rattle.lotos_base.specs.Term.{Term}
use Rattle.lotos_base.specs.Equation.{Data}
use Rattle.behaviour_semantics.specs.Behaviour.{Behaviour, Specification}
use Rattle.behaviour_semantics.specs.Draft.{Draft, draft_by, draft_of, first_apart, leaves_from}
use Rattle.behaviour_semantics.specs.DraftOrder.{IsInOrder}
use Rattle.behaviour_semantics.specs.Guardedness.{IsGuarded}
use Rattle.behaviour_semantics.specs.Listing.{ShapedMove, IsAmong, ShapesRise, AllSolveTo, shapes_of_moves, shapes_of_drafts, listed_moves, listed_drafts}
use Rattle.behaviour_semantics.specs.Move.{Setting, Move, move_of}
use Rattle.behaviour_semantics.specs.Shape.{Shape, Before}
use Rattle.behaviour_semantics.specs.WellFormed.{Every, AreOver}
use Rattle.behaviour_semantics.proofs.OrderLemmas.{Before-irrefl, Before-trans}
use Rattle.behaviour_semantics.proofs.ListLemmas.{EachOf, Within, Every-among}
use Rattle.behaviour_semantics.proofs.ListingLemmas.{listed}
use Rattle.behaviour_semantics.proofs.ListingSoundness.{are_moves}
use Rattle.behaviour_semantics.proofs.ListingOrder.{shapes_rise}
use Rattle.behaviour_semantics.proofs.ListedDrafts.{sound_drafts, complete_drafts, drafts_rise, among_map, map_among}
use Rattle.behaviour_semantics.proofs.ListedMenus.{exact_list}
use Rattle.behaviour_semantics.proofs.GuardedLists.{guarded_list}
use Rattle.behaviour_semantics.proofs.DraftFineness.{FineDraft, fine_draft}
use Rattle.behaviour_semantics.proofs.RaisedDrafts.{same_drafts}
use Rattle.draft_parts.specs.HasDrafts.{HasDrafts}
use Rattle.draft_parts.specs.RowLaws.{setting_over}
use Rattle.menu_builder.specs.OpenMenus.{lowered_drafts, OpenListsMakeMenus}

-- ---- Lists of drafts whose shapes rise and that have the same members are the same.
abbrev Inside : List Draft → List Draft → Type 0
Inside xs ys = (x : Draft) → IsAmong x xs → IsAmong x ys

abbrev Rising : List Draft → Type 0
Rising xs = ShapesRise (shapes_of_drafts xs)

before_all : (s : Shape) (xs : List Draft) (x : Draft) → Every (Before s) (shapes_of_drafts xs) → IsAmong x xs → Before s x.shape
before_all s [] x h a = absurd a
before_all s (y ∷ xs) x h (inl same) = subst (λ (z : Draft). Before s z.shape) same h.0
before_all s (y ∷ xs) x h (inr a) = before_all s xs x h.1 a

same_heads : (x y : Draft) (xs ys : List Draft) → Rising (x ∷ xs) → Rising (y ∷ ys) → IsAmong x (y ∷ ys) → IsAmong y (x ∷ xs) → x ≡ y
same_heads x y xs ys h k (inl same) b = sym same
same_heads x y xs ys h k (inr a) (inl same) = same
same_heads x y xs ys h k (inr a) (inr b) =
    absurd (Before-irrefl x.shape (Before-trans x.shape y.shape x.shape (before_all x.shape xs y h.0 b) (before_all y.shape ys x k.0 a)))

behind : (x y z : Draft) (xs ys : List Draft) → x ≡ y → Rising (x ∷ xs) → IsAmong z xs → IsAmong z (y ∷ ys) → IsAmong z ys
behind x y z xs ys heads h a (inl same) =
    absurd (Before-irrefl z.shape (subst (λ (w : Draft). Before w.shape z.shape) (heads ∙ same) (before_all x.shape xs z h.0 a)))
behind x y z xs ys heads h a (inr b) = b

same_lists : (xs ys : List Draft) → Rising xs → Rising ys → Inside xs ys → Inside ys xs → xs ≡ ys
same_lists [] [] h k i j = refl
same_lists [] (y ∷ ys) h k i j = absurd (j y (inl refl))
same_lists (x ∷ xs) [] h k i j = absurd (i x (inl refl))
same_lists (x ∷ xs) (y ∷ ys) h k i j =
    let heads : x ≡ y = same_heads x y xs ys h k (i x (inl refl)) (j y (inl refl)) in
    let tails : xs ≡ ys = same_lists xs ys h.1 k.1 (λ z a. behind x y z xs ys heads h a (i z (inr a)))
    (λ z a. behind y x z ys xs (sym heads) k a (j z (inr a))) in
    ap (λ (z : Draft). z ∷ xs) heads ∙ ap (λ (zs : List Draft). y ∷ zs) tails

map_twice : {X Y Z : Type 0} (f : X → Y) (g : Y → Z) (h : X → Z) → ((x : X) → g (f x) ≡ h x) → (xs : List X) → map g (map f xs) ≡ map h xs
map_twice f g h same [] = refl
map_twice {Z = Z} f g h same (x ∷ xs) =
    let here : g (f x) ≡ h x = same x in
    let rest : map g (map f xs) ≡ map h xs = map_twice f g h same xs in
    ap (λ (z : Z). z ∷ map g (map f xs)) here ∙ ap (λ (zs : List Z). h x ∷ zs) rest

module _ (data_ : Data) (canon : Term → Term) (specification : Specification) (b : Behaviour)
    (over : AreOver data_ canon specification b) (guarded : IsGuarded specification.processes) where
  abbrev setting : Setting
  setting = setting_over data_ canon specification

  -- the drafts of the moves with leaves from a number on
  abbrev drafts_by : ℕ → List ShapedMove → List Draft
  drafts_by base moves = map (λ (x : ShapedMove). draft_by x.shape base x.move) moves

  found : (base : ℕ) → (depth : ℕ) × (moves : List ShapedMove) × (listed_moves setting (leaves_from base) depth 0 b ≡ Some moves)
  found base = guarded_list setting (leaves_from base) 0 b guarded

  module _ (base : ℕ) (le : first_apart specification.processes b ≤ base) (depth : ℕ) (moves : List ShapedMove)
      (is : listed_moves setting (leaves_from base) depth 0 b ≡ Some moves) (other : ℕ) (drafts : List Draft)
      (at : listed_drafts data_ canon specification.processes other b ≡ Some drafts) where
    same_shapes : (xs : List ShapedMove) → shapes_of_moves xs ≡ shapes_of_drafts (drafts_by base xs)
    same_shapes [] = refl
    same_shapes (x ∷ xs) = ap (λ (shapes : List Shape). x.shape ∷ shapes) (same_shapes xs)

    moves_rise : Rising (drafts_by base moves)
    moves_rise = subst ShapesRise (same_shapes moves) (shapes_rise setting (leaves_from base) depth 0 b moves is)

    from_drafts : Inside drafts (drafts_by base moves)
    from_drafts d a =
        let fits : draft_of data_ canon specification.processes d.shape b ≡ Some d =
        sound_drafts data_ canon specification.processes b other drafts at d a in
        let p : (m : Move) × (move_of setting (leaves_from base) d.shape 0 b ≡ Some m) × (draft_by d.shape base m ≡ d) =
        mapped (draft_by d.shape base) (move_of setting (leaves_from base) d.shape 0 b)
        (sym (same_drafts data_ canon specification b over base d.shape le) ∙ fits) in
        let here : IsAmong (record { shape = d.shape; move = p.0 }) moves =
        subst (Within (record { shape = d.shape; move = p.0 })) is (listed setting (leaves_from base) depth d.shape 0 b p.0 p.1) in
        subst (λ (e : Draft). IsAmong e (drafts_by base moves)) p.2
        (map_among (λ (x : ShapedMove). draft_by x.shape base x.move) moves (record { shape = d.shape; move = p.0 }) here)

    from_moves : Inside (drafts_by base moves) drafts
    from_moves d a =
        let p : (x : ShapedMove) × IsAmong x moves × (draft_by x.shape base x.move ≡ d) =
        among_map (λ (x : ShapedMove). draft_by x.shape base x.move) moves d a in
        let move : move_of setting (leaves_from base) p.0.shape 0 b ≡ Some p.0.move =
        Every-among (λ (y : ShapedMove). move_of setting (leaves_from base) y.shape 0 b ≡ Some y.move) moves p.0
        (subst (EachOf (λ (y : ShapedMove). move_of setting (leaves_from base) y.shape 0 b ≡ Some y.move)) is
        (are_moves setting (leaves_from base) depth 0 b)) p.1 in
        complete_drafts data_ canon specification.processes b other drafts at p.0.shape d
        (same_drafts data_ canon specification b over base p.0.shape le
        ∙ (ap (option_map (draft_by p.0.shape base)) move ∙ ap (λ (e : Draft). Some e) p.2))

    same_drafts_by : drafts_by base moves ≡ drafts
    same_drafts_by =
        same_lists (drafts_by base moves) drafts moves_rise (drafts_rise data_ canon specification.processes b other drafts at) from_moves
        from_drafts

  are_listed : listed_drafts data_ canon specification.processes (found (first_apart specification.processes b)).0 b
      ≡ Some (drafts_by (first_apart specification.processes b) (found (first_apart specification.processes b)).1)
  are_listed =
      ap (option_map (drafts_by (first_apart specification.processes b))) (found (first_apart specification.processes b)).2

  lowered_are : (base : ℕ) (drafts : List Draft) → first_apart specification.processes b ≤ base → HasDrafts setting base 0 b drafts
      → lowered_drafts base drafts ≡ drafts_by (first_apart specification.processes b) (found (first_apart specification.processes b)).1
  lowered_are base drafts le has =
      ap (lowered_drafts base) (has (found base).0 (found base).1 (found base).2)
      ∙ (map_twice _ _ (λ (x : ShapedMove). draft_by x.shape base x.move) (λ x. refl) (found base).1
      ∙ same_drafts_by base le (found base).0 (found base).1 (found base).2 (found (first_apart specification.processes b)).0
      (drafts_by (first_apart specification.processes b) (found (first_apart specification.processes b)).1) are_listed)

  every_in_order : (drafts : List Draft) → ((d : Draft) → IsAmong d drafts → IsInOrder data_.signature d)
      → Every (IsInOrder data_.signature) drafts
  every_in_order [] h = tt
  every_in_order (d ∷ drafts) h = (h d (inl refl), every_in_order drafts (λ e a. h e (inr a)))

  listed_in_order : (depth : ℕ) (drafts : List Draft) → listed_drafts data_ canon specification.processes depth b ≡ Some drafts
      → Every (IsInOrder data_.signature) drafts
  listed_in_order depth drafts at = every_in_order drafts (λ d a.
      let fine : FineDraft data_ d = fine_draft data_ canon specification b over d.shape d
      (sound_drafts data_ canon specification.processes b depth drafts at d a) in fine.order)

pub open_menus : OpenListsMakeMenus
open_menus = record {
  in_order = λ data_ canon specification b base drafts h.
      subst (Every (IsInOrder data_.signature))
      (sym (lowered_are data_ canon specification b h.over h.guarded base drafts h.apart h.listed))
      (listed_in_order data_ canon specification b h.over h.guarded _ _ (are_listed data_ canon specification b h.over h.guarded));
  exact = λ data_ canon specification b base drafts entries h solved.
      exact_list data_ canon specification b _ _ entries h.over (are_listed data_ canon specification b h.over h.guarded)
      (subst (λ (ds : List Draft). AllSolveTo canon ds entries)
      (lowered_are data_ canon specification b h.over h.guarded base drafts h.apart h.listed) solved);
}
