-- Drafts that are solved one by one, and lists of joins.
use Rattle.std.proofs.Common.{◌≡◌, ◌<◌, ◌≤◌, ◌++◌, ◌+◌, ℕ, List, [], ◌∷◌, drop, get_or, length, map, Bool, true, false, Option, None, Some, option_to_list, if◌then◌else◌, ◌&&◌, refl, ap, sym, ◌∙◌, subst, append_assoc, append-nil}
use Rattle.std.specs.List.{cons_option}
use Rattle.std.proofs.Math.ListN.{drop_of_length-le}
use Rattle.lotos_base.specs.Term.{Term}
use Rattle.lotos_base.specs.Equation.{Data}
use Rattle.lotos_base.specs.Signature.{Signature}
use Rattle.behaviour_semantics.specs.Behaviour.{SynchronisationSet, all_gates}
use Rattle.behaviour_semantics.specs.Draft as plain
use Rattle.behaviour_semantics.specs.Draft.{draft_with}
use Rattle.behaviour_semantics.specs.DraftOrder.{as_draft}
use Rattle.behaviour_semantics.specs.Join.{both_drafts, join_of_drafts, meets_with, raised}
use Rattle.behaviour_semantics.specs.Listing.{AllSolveTo, none_left, entry_then, nothing_then}
use Rattle.behaviour_semantics.specs.Rule.{move_together}
use Rattle.behaviour_semantics.specs.Solving.{Entry, SolvesTo}
use Rattle.behaviour_tree.specs.Over.{AreTermsOf}
use Rattle.behaviour_tree.specs.MoveView.{label_of}
use Rattle.behaviour_tree.specs.declared.moves.Label.{Label}
use Rattle.event_offers.specs.Joining.{like_labels}
use Rattle.event_offers.specs.OfferView.{label_profiles}
use Rattle.menu_builder.specs.HandedOn.{may_be_met}
use Rattle.menu_builder.proofs.HandedOn.{together_told}
use Rattle.shared_entries.specs.PartMenus.{joins, joins_of}
use Rattle.shared_entries.specs.Items.{plain_item}
use Rattle.shared_entries.specs.Joined.{SolvesMore}
use Rattle.shared_entries.specs.declared.items.Item.{Item}
use Rattle.lotos_base.proofs.Pieces.{next_member}

module _ (canon : Term → Term) where
  one_solved : (draft : plain.Draft) (o : Option Entry) → SolvesTo canon draft o → AllSolveTo canon (draft ∷ []) (option_to_list o)
  one_solved draft None solves = nothing_then solves none_left
  one_solved draft (Some e) solves = entry_then solves none_left

  solved_append : {xs : List plain.Draft} {es : List Entry} (ys : List plain.Draft) (fs : List Entry) → AllSolveTo canon xs es
      → AllSolveTo canon ys fs → AllSolveTo canon (xs ++ ys) (es ++ fs)
  solved_append ys fs none_left k = k
  solved_append ys fs (entry_then solves rest) k = entry_then solves (solved_append ys fs rest k)
  solved_append ys fs (nothing_then solves rest) k = nothing_then solves (solved_append ys fs rest k)

  -- ---- More drafts, solved behind others.
  pub nothing_more : (items : List Item) → SolvesMore canon items items []
  nothing_more items = λ drafts h. subst (λ (ds : List plain.Draft). AllSolveTo canon ds (map plain_item items)) (sym (append-nil drafts)) h

  pub no_more : (items : List Item) (drafts : List plain.Draft) → drafts ≡ [] → SolvesMore canon items items drafts
  no_more items drafts e = subst (λ (ds : List plain.Draft). SolvesMore canon items items ds) (sym e) (nothing_more items)

  pub one_more : (earlier later : List Item) (draft : plain.Draft) (o : Option Entry)
      → map plain_item later ≡ map plain_item earlier ++ option_to_list o → SolvesTo canon draft o
      → SolvesMore canon earlier later (draft ∷ [])
  one_more earlier later draft o e solves = λ drafts h.
      subst (λ (es : List Entry). AllSolveTo canon (drafts ++ draft ∷ []) es) (sym e)
      (solved_append (draft ∷ []) (option_to_list o) h (one_solved draft o solves))

  pub more_in_turn : (first next last : List Item) (xs ys : List plain.Draft) → SolvesMore canon first next xs
      → SolvesMore canon next last ys → SolvesMore canon first last (xs ++ ys)
  more_in_turn first next last xs ys h k = λ drafts solved.
      subst (λ (ds : List plain.Draft). AllSolveTo canon ds (map plain_item last)) (append_assoc drafts xs ys)
      (k (drafts ++ xs) (h drafts solved))

  -- from nothing
  pub all_more : (later : List Item) (drafts : List plain.Draft) → SolvesMore canon [] later drafts
      → AllSolveTo canon drafts (map plain_item later)
  all_more later drafts h = h [] none_left

  -- What is done so far, when what is left makes the whole with it.
  abbrev pub IsHalfSolved : List Item → List Item → List plain.Draft → List plain.Draft → Type 0
  IsHalfSolved earlier now left whole =
      (later : List Item) → SolvesMore canon now later left → SolvesMore canon earlier later whole

  pub half_next : (earlier now next : List Item) (step left whole : List plain.Draft) → IsHalfSolved earlier now (step ++ left) whole
      → SolvesMore canon now next step → IsHalfSolved earlier next left whole
  half_next earlier now next step left whole h k = λ later rest. h later (more_in_turn now next later step left k rest)

  pub half_end : (earlier now : List Item) (left whole : List plain.Draft) → left ≡ [] → IsHalfSolved earlier now left whole
      → SolvesMore canon earlier now whole
  half_end earlier now left whole e h = h now (no_more now left e)

-- ---- Joins.
pub list_cons : {X : Type 0} (o : Option X) (xs : List X) → cons_option o xs ≡ option_to_list o ++ xs
list_cons None xs = refl
list_cons (Some x) xs = refl

module _ (data_ : Data) (meet : SynchronisationSet) (left : Entry) where
  pub no_joins : (rights : List Entry) → meets_with meet left.label ≡ false → joins_of data_ meet left rights ≡ []
  no_joins [] e = refl
  no_joins (right ∷ rights) e =
      ap (λ (b : Bool). cons_option (if b then join_of_drafts data_.signature (as_draft left) (as_draft right) else None)
      (joins_of data_ meet left rights)) e ∙ no_joins rights e

  pub join_here : (right : Entry) (rights : List Entry) → meets_with meet left.label ≡ true
      → joins_of data_ meet left (right ∷ rights)
      ≡ option_to_list (join_of_drafts data_.signature (as_draft left) (as_draft right)) ++ joins_of data_ meet left rights
  join_here right rights e =
      ap (λ (b : Bool). cons_option (if b then join_of_drafts data_.signature (as_draft left) (as_draft right) else None)
      (joins_of data_ meet left rights)) e
      ∙ list_cons (join_of_drafts data_.signature (as_draft left) (as_draft right)) (joins_of data_ meet left rights)

-- labels that are not alike have no join
pub unlike : (signature : Signature) (left right : plain.Draft) (l r : Label) → left.label ≡ label_of l → right.label ≡ label_of r
    → like_labels l r ≡ false → AreTermsOf signature (label_profiles l) → AreTermsOf signature (label_profiles r)
    → join_of_drafts signature left right ≡ None
unlike signature left right l r e f apart h k =
    let t : move_together signature all_gates left.label right.label ≡ false =
    (ap (λ x. move_together signature all_gates x right.label) e ∙ ap (move_together signature all_gates (label_of l)) f)
    ∙ (together_told signature all_gates l r h k ∙ ap (λ (b : Bool). b && may_be_met all_gates l) apart) in
    ap (λ (b : Bool). if b then Some (both_drafts left (draft_with (raised (length left.leaves)) right)) else None) t

-- ---- The joins of one left item with the right ones, one by one, and those of all left items.
module _ (canon : Term → Term) (data_ : Data) (meet : SynchronisationSet) where
  pub joins_more : (left : Entry) (rights : List Item) (i : ℕ) (right : Item) (earlier now next : List Item) (whole : List plain.Draft)
      → meets_with meet left.label ≡ true → i < length rights → right ≡ get_or rights i right
      → SolvesMore canon now next (option_to_list (join_of_drafts data_.signature (as_draft left) (as_draft (plain_item right))))
      → IsHalfSolved canon earlier now (joins_of data_ meet left (map plain_item (drop i rights))) whole
      → IsHalfSolved canon earlier next (joins_of data_ meet left (map plain_item (drop (i + 1) rights))) whole
  joins_more left rights i right earlier now next whole e within is solved half =
      half_next canon earlier now next (option_to_list (join_of_drafts data_.signature (as_draft left) (as_draft (plain_item right))))
      (joins_of data_ meet left (map plain_item (drop (i + 1) rights))) whole
      (subst (λ (ds : List plain.Draft). IsHalfSolved canon earlier now ds whole)
      (ap (λ (xs : List Item). joins_of data_ meet left (map plain_item xs)) (next_member rights i right within is)
      ∙ join_here data_ meet left (plain_item right) (map plain_item (drop (i + 1) rights)) e) half) solved

  pub joins_end : (left : Entry) (rights : List Item) (i : ℕ) (earlier now : List Item) (whole : List plain.Draft) → length rights ≤ i
      → IsHalfSolved canon earlier now (joins_of data_ meet left (map plain_item (drop i rights))) whole
      → SolvesMore canon earlier now whole
  joins_end left rights i earlier now whole behind half =
      half_end canon earlier now (joins_of data_ meet left (map plain_item (drop i rights))) whole
      (ap (λ (xs : List Item). joins_of data_ meet left (map plain_item xs)) (drop_of_length-le rights behind)) half

  pub lefts_more : (lefts : List Item) (i : ℕ) (left : Item) (rights : List Entry) (earlier now next : List Item) (whole : List plain.Draft)
      → i < length lefts → left ≡ get_or lefts i left
      → SolvesMore canon now next (joins_of data_ meet (plain_item left) rights)
      → IsHalfSolved canon earlier now (joins data_ meet (map plain_item (drop i lefts)) rights) whole
      → IsHalfSolved canon earlier next (joins data_ meet (map plain_item (drop (i + 1) lefts)) rights) whole
  lefts_more lefts i left rights earlier now next whole within is solved half =
      half_next canon earlier now next (joins_of data_ meet (plain_item left) rights)
      (joins data_ meet (map plain_item (drop (i + 1) lefts)) rights) whole
      (subst (λ (ds : List plain.Draft). IsHalfSolved canon earlier now ds whole)
      (ap (λ (xs : List Item). joins data_ meet (map plain_item xs) rights) (next_member lefts i left within is)) half) solved

  pub lefts_end : (lefts : List Item) (i : ℕ) (rights : List Entry) (now : List Item) (whole : List plain.Draft) → length lefts ≤ i
      → IsHalfSolved canon [] now (joins data_ meet (map plain_item (drop i lefts)) rights) whole
      → AllSolveTo canon whole (map plain_item now)
  lefts_end lefts i rights now whole behind half =
      all_more canon now whole (half_end canon [] now (joins data_ meet (map plain_item (drop i lefts)) rights) whole
      (ap (λ (xs : List Item). joins data_ meet (map plain_item xs) rights) (drop_of_length-le lefts behind)) half)
