-- The listed drafts are those of the shapes that fit, in order.
use Rattle.std.proofs.Common.{◌≡◌, inl, inr, ℕ, List, [], ◌∷◌, map, Some, option_map, refl, ap, sym, ◌∙◌, subst}
use Rattle.lotos_base.proofs.Options.{mapped}
use Rattle.lotos_base.specs.Term.{Term}
use Rattle.lotos_base.specs.Equation.{Data}
use Rattle.behaviour_semantics.specs.Behaviour.{Behaviour, Process}
use Rattle.behaviour_semantics.specs.Shape.{Shape}
use Rattle.behaviour_semantics.specs.Move.{Setting, Move, move_of}
use Rattle.behaviour_semantics.specs.Draft.{Draft, draft_of, draft_by, first_apart, leaves_from}
use Rattle.behaviour_semantics.specs.Listing.{ShapedMove, listed_moves, listed_drafts}
use Rattle.behaviour_semantics.specs.Listing.{IsAmong, ShapesRise, shapes_of_moves, shapes_of_drafts}
use Rattle.behaviour_semantics.proofs.ListLemmas.{EachOf, Within, Every-among}
use Rattle.behaviour_semantics.proofs.ListingLemmas.{shaped, listed}
use Rattle.behaviour_semantics.proofs.ListingSoundness.{are_moves}
use Rattle.behaviour_semantics.proofs.ListingOrder.{shapes_rise}

pub among_map : {X Y : Type 0} (f : X → Y) (xs : List X) (y : Y) → IsAmong y (map f xs) → (x : X) × IsAmong x xs × (f x ≡ y)
among_map f [] y a = absurd a
among_map f (x ∷ xs) y (inl same) = (x, inl refl, same)
among_map f (x ∷ xs) y (inr a) = let p : _ = among_map f xs y a in (p.0, inr p.1, p.2)

pub map_among : {X Y : Type 0} (f : X → Y) (xs : List X) (x : X) → IsAmong x xs → IsAmong (f x) (map f xs)
map_among f [] x a = absurd a
map_among f (y ∷ xs) x (inl same) = inl (ap f same)
map_among f (y ∷ xs) x (inr a) = inr (map_among f xs x a)

module _ (data_ : Data) (canon : Term → Term) (processes : List Process) (b : Behaviour) where
  abbrev setting : Setting
  setting = record { signature = data_.signature; represent = canon; processes = processes }

  abbrev base : ℕ
  base = first_apart processes b

  abbrev as_draft : ShapedMove → Draft
  as_draft x = draft_by x.shape base x.move

  -- The moves that a list of drafts came from.
  from_moves : (depth : ℕ) (drafts : List Draft) → listed_drafts data_ canon processes depth b ≡ Some drafts → (moves : List ShapedMove)
      × (listed_moves setting (leaves_from base) depth 0 b ≡ Some moves) × (map as_draft moves ≡ drafts)
  from_moves depth drafts e = mapped (map as_draft) (listed_moves setting (leaves_from base) depth 0 b) e

  pub sound_drafts : (depth : ℕ) (drafts : List Draft) → listed_drafts data_ canon processes depth b ≡ Some drafts → (draft : Draft)
      → IsAmong draft drafts → draft_of data_ canon processes draft.shape b ≡ Some draft
  sound_drafts depth drafts e draft a =
      let p : _ = from_moves depth drafts e in
      let q : (x : ShapedMove) × IsAmong x p.0 × (as_draft x ≡ draft) = among_map as_draft p.0 draft (subst (IsAmong draft) (sym p.2) a) in
      let move : move_of setting (leaves_from base) q.0.shape 0 b ≡ Some q.0.move =
      Every-among (λ (y : ShapedMove). move_of setting (leaves_from base) y.shape 0 b ≡ Some y.move) p.0 q.0
      (subst (EachOf (λ (y : ShapedMove). move_of setting (leaves_from base) y.shape 0 b ≡ Some y.move)) p.1
      (are_moves setting (leaves_from base) depth 0 b)) q.1 in
      subst (λ (d : Draft). draft_of data_ canon processes d.shape b ≡ Some d) q.2 (ap (option_map (draft_by q.0.shape base)) move)

  pub complete_drafts : (depth : ℕ) (drafts : List Draft) → listed_drafts data_ canon processes depth b ≡ Some drafts
      → (shape : Shape) (draft : Draft) → draft_of data_ canon processes shape b ≡ Some draft → IsAmong draft drafts
  complete_drafts depth drafts e shape draft fits =
      let p : _ = from_moves depth drafts e in
      let q : (m : Move) × (move_of setting (leaves_from base) shape 0 b ≡ Some m)
      × (draft_by shape base m ≡ draft) = mapped (draft_by shape base) (move_of setting (leaves_from base) shape 0 b) fits in
      let a : IsAmong (shaped shape q.0) p.0 = subst (Within (shaped shape q.0)) p.1
      (listed setting (leaves_from base) depth shape 0 b q.0 q.1) in
      subst (λ (ds : List Draft). IsAmong draft ds) p.2 (subst (λ (d : Draft). IsAmong d (map as_draft p.0)) q.2
      (map_among as_draft p.0 (shaped shape q.0) a))

  same_shapes : (moves : List ShapedMove) → shapes_of_moves moves ≡ shapes_of_drafts (map as_draft moves)
  same_shapes [] = refl
  same_shapes (x ∷ moves) = ap (λ (shapes : List Shape). x.shape ∷ shapes) (same_shapes moves)

  pub drafts_rise : (depth : ℕ) (drafts : List Draft) → listed_drafts data_ canon processes depth b ≡ Some drafts
      → ShapesRise (shapes_of_drafts drafts)
  drafts_rise depth drafts e =
      let p : _ = from_moves depth drafts e in
      subst ShapesRise (same_shapes p.0 ∙ ap shapes_of_drafts p.2) (shapes_rise setting (leaves_from base) depth 0 b p.0 p.1)
