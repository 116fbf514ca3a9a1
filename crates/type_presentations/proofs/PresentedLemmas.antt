-- Types found by their names, and mentions of them.
use Rattle.std.proofs.Common.{◌≡◌, ℕ, suc, Bool, true, false, List, [], ◌∷◌, ◌++◌, inl, inr, map, refl, ap, sym, ◌∙◌, subst, append_assoc}
use Rattle.std.specs.Prelude.{Option, None, Some, slice_get, ◌||◌, if◌then◌else◌}
use Rattle.std.specs.List.{list_any}
use Rattle.std.proofs.lemmas.List.{map-append}
use Rattle.std.specs.Option.{option_map}
use Rattle.std.proofs.lemmas.Option.{none-some, slice_get-map}
use Rattle.lotos_base.proofs.Members.{before_or_last}
use Rattle.sort_terms.specs.ReadingOutcome.{one_name}
use Rattle.type_definitions.specs.Presentation.{Presentation, nothing, first_position}
use Rattle.type_definitions.specs.Union.{Mentioned}
use Rattle.type_definitions.specs.Flattened.{presentation_named}
use Rattle.type_presentations.specs.PositionOfName.{position_of_name}
use Rattle.type_presentations.specs.NamesView.{HasNames}
use Rattle.type_presentations.specs.MentionView.{AreSoundMentions}
use Rattle.type_presentations.specs.declared.mentions.Mention.{Mention}
use Rattle.type_presentations.specs.PresentationView.{presentation_of, IsSound, IsWithinLimits}
use Rattle.type_presentations.specs.declared.presentations.Presentation.{Presentation as CodePresentation}
use Rattle.type_presentations.specs.PresentedView.{presentation_at, presented_of, presented_in, IsSoundPresentation, AreSoundTypes}
use Rattle.type_presentations.specs.declared.presented.PresentedType.{PresentedType}
use Rattle.type_presentations.specs.declared.presented.PresentedTypes.{PresentedTypes}

-- ---- By name.

abbrev pub names_of : List Mentioned → List (List ℕ)
names_of types = map (λ (t : Mentioned). t.at.name) types

-- what a name has by its first position
abbrev by_position : List Mentioned → Option ℕ → Presentation
by_position types None = nothing
by_position types (Some n) = presentation_at (slice_get types n)

pub named_by_position : (types : List Mentioned) (name : List ℕ)
    → presentation_named types name ≡ by_position types (position_of_name (names_of types) name)
named_by_position [] name = refl
named_by_position (t ∷ ts) name = go (one_name t.at.name name) (list_any (λ n. one_name n name) (names_of ts)) refl
    (named_by_position ts name)
  where
    go : (b c : Bool) → list_any (λ n. one_name n name) (names_of ts) ≡ c
        → presentation_named ts name ≡ by_position ts (position_of_name (names_of ts) name)
        → (if b then t.presentation else presentation_named ts name)
        ≡ by_position (t ∷ ts) (if b || c then Some (if b then 0 else suc (first_position (λ (n : List ℕ). one_name n name) (names_of ts)))
        else None)
    go true c is later = refl
    go false true is later =
        later
        ∙ ap (λ (d : Bool).
        by_position ts (if d then Some (first_position (λ (n : List ℕ). one_name n name) (names_of ts)) else None)) is
    go false false is later =
        later
        ∙ ap (λ (d : Bool).
        by_position ts (if d then Some (first_position (λ (n : List ℕ). one_name n name) (names_of ts)) else None)) is

pub named_here : (types : List Mentioned) (name : List ℕ) (found : Option ℕ) (n : ℕ) (p : Presentation)
    → found ≡ position_of_name (names_of types) name → found ≡ Some n → p ≡ presentation_at (slice_get types n)
    → p ≡ presentation_named types name
named_here types name found n p is at here =
    here ∙ ap (λ (o : Option ℕ). by_position types o) (sym at ∙ is) ∙ sym (named_by_position types name)

pub named_nowhere : (types : List Mentioned) (name : List ℕ) (found : Option ℕ) (p : Presentation)
    → found ≡ position_of_name (names_of types) name → found ≡ None → p ≡ nothing
    → p ≡ presentation_named types name
named_nowhere types name found p is none here =
    here ∙ ap (λ (o : Option ℕ). by_position types o) (sym none ∙ is) ∙ sym (named_by_position types name)

-- ---- Lists that grow.

-- what is so of each member and of one more
pub each_and_last : {A : Type 0} (P : A → Type 0) (old new : List A) (y : A) → new ≡ old ++ y ∷ []
    → ((i : ℕ) (x : A) → slice_get old i ≡ Some x → P x) → P y → (i : ℕ) (x : A) → slice_get new i ≡ Some x → P x
each_and_last {A = A} P old new y is each last i x found =
    elim (before_or_last old y i x (ap (λ (xs : List A). slice_get xs i) (sym is) ∙ found)) [
      | inl before ↦ each i x before
      | inr at_end ↦ subst P at_end last
    ]

pub mapped_and_last : {A B : Type 0} (f : A → B) (old new : List A) (y : A) (z : B) → new ≡ old ++ y ∷ [] → f y ≡ z
    → map f new ≡ map f old ++ z ∷ []
mapped_and_last {A = A} {B = B} f old new y z is one =
    ap (λ (xs : List A). map f xs) is ∙ map-append f old (y ∷ []) ∙ ap (λ (w : B). map f old ++ w ∷ []) one

pub none_mentioned : {A : Type 0} (P : A → Type 0) (xs : List A) → xs ≡ [] → (i : ℕ) (x : A) → slice_get xs i ≡ Some x → P x
none_mentioned {A = A} P xs is i x found =
    absurd (none-some x (sym (ap (λ (ys : List A). slice_get ys i) is) ∙ found))

-- ---- One more type.

pub with_one_more : (old new : PresentedTypes) (x : PresentedType) → new.types.items ≡ old.types.items ++ x ∷ []
    → HasNames new.names (names_of (presented_in old) ++ (presented_of x).at.name ∷ []) → new.nothing ≡ old.nothing
    → AreSoundTypes old → IsSoundPresentation x.presentation → AreSoundTypes new
with_one_more old new x grown named same sound fine =
    let listed : presented_in new ≡ presented_in old ++ presented_of x ∷ [] =
    mapped_and_last presented_of old.types.items new.types.items x (presented_of x) grown refl in record {
      names = subst (λ (ns : List (List ℕ)). HasNames new.names ns)
          (sym (ap names_of listed ∙ map-append (λ (t : Mentioned). t.at.name) (presented_in old) (presented_of x ∷ []))) named;
      each = each_and_last (λ (t : PresentedType). IsSoundPresentation t.presentation) old.types.items new.types.items x grown sound.each
          fine;
      nothing_there = ap presentation_of same ∙ sound.nothing_there;
      nothing_sound = subst (λ (p : CodePresentation). IsSoundPresentation p) (sym same) sound.nothing_sound;
    }

-- ---- By number.

pub at_no_number : (items : List PresentedType) (n : ℕ) (p : Presentation) → slice_get items n ≡ None → p ≡ nothing
    → p ≡ presentation_at (slice_get (map presented_of items) n)
at_no_number items n p none is =
    is
    ∙ sym (ap presentation_at (slice_get-map presented_of items n
    ∙ ap (λ (o : Option PresentedType). option_map presented_of o) none))

-- ---- Mentions that are made one by one.

pub one_mention_more : (old new : List Mention) (m : Mention) → new ≡ old ++ m ∷ [] → AreSoundMentions old
    → IsSoundPresentation m.presentation.now → AreSoundMentions new
one_mention_more old new m is are sound = record {
  sound = each_and_last (λ (x : Mention). IsSound x.presentation.now) old new m is are.sound sound.0;
  within = each_and_last (λ (x : Mention). IsWithinLimits x.presentation.now) old new m is are.within sound.1;
}

-- what is left of a list that is made from the front
pub made_so_far : {A : Type 0} (old new due rest whole : List A) (x : A) → new ≡ old ++ x ∷ [] → due ≡ x ∷ rest
    → old ++ due ≡ whole → new ++ rest ≡ whole
made_so_far {A = A} old new due rest whole x grown is so_far =
    ap (λ (xs : List A). xs ++ rest) grown ∙ append_assoc old (x ∷ []) rest ∙ ap (λ (xs : List A). old ++ xs) (sym is) ∙ so_far
