-- Signs that are taken from the end of those that wait.
use Rattle.std.proofs.Common.{◌≡◌, ◌∙◌, inl, inr, ℕ, ◌<◌, ◌≤◌, List, [], ◌∷◌, ◌++◌, refl, ap, sym, subst, append_assoc, arith, map}
use Rattle.std.specs.Prelude.{All, Some, length}
use Rattle.std.proofs.lemmas.List.{append-nil, map-append}
use Rattle.std.proofs.lemmas.List.Elements.{All-nil, All-cons, All-head, All-tail, All-append, All-map}
use Rattle.syntax_trees.specs.Grouping.{Leftmost, closed, sign_in_front, leftmost_grouping}
use Rattle.syntax_trees.specs.Waiting.{EndsWeaker, Takes, StrengthRises, grouped_onto}
use Rattle.syntax_trees.proofs.Groupings.{stays, all_closed, more_is, Among, more}

module _ {W S A : Type 0} (binds : W → ℕ) (view : W → S × A) (join : S → A → A → A) (strength : ℕ) where
  -- nothing is taken yet
  pub takes_nothing : (waiting : List W) (first : A) → Takes binds view join strength waiting waiting first first
  takes_nothing waiting first =
      record { taken = []; falls = sym (append-nil waiting); no_weaker = All-nil (λ w. strength ≤ binds w); tree_is = refl }

  -- one more is taken
  pub takes_more : (before after rest : List W) (last : W) (first tree next : A) → Takes binds view join strength before after first tree →
      after ≡ rest ++ last ∷ [] → strength ≤ binds last → next ≡ join (view last).0 tree (view last).1 →
      Takes binds view join strength before rest first next
  takes_more before after rest last first tree next so_far falls no_weaker is = record {
    taken = last ∷ so_far.taken;
    falls = so_far.falls ∙ ap (λ (l : List W). l ++ so_far.taken) falls ∙ append_assoc rest (last ∷ []) so_far.taken;
    no_weaker = All-cons (λ w. strength ≤ binds w) last so_far.taken no_weaker so_far.no_weaker;
    tree_is = is ∙ ap (λ (t : A). join (view last).0 t (view last).1) so_far.tree_is;
  }

-- what stands at the end of a list is the last
not_before_end : {W : Type 0} (binds : W → ℕ) (strength : ℕ) (first : W) (waiting : List W)
    → EndsWeaker binds strength (first ∷ waiting) → (second : W) (rest : List W) → waiting ≡ second ∷ rest →
    EndsWeaker binds strength waiting
not_before_end binds strength first waiting ends second rest is front last same = ends (first ∷ front) last (ap (λ l. first ∷ l) same)

-- where the last of the signs is weaker, all are
all_weaker : {W : Type 0} (binds : W → ℕ) (strength : ℕ) (waiting : List W) → StrengthRises binds waiting
    → EndsWeaker binds strength waiting
    → All (λ w. binds w < strength) waiting
all_weaker binds strength [] rises ends = All-nil (λ w. binds w < strength)
all_weaker binds strength (first ∷ []) rises ends = All-cons (λ w. binds w < strength) first [] (ends [] first refl)
    (All-nil (λ w. binds w < strength))
all_weaker binds strength (first ∷ second ∷ rest) rises ends =
    let behind = all_weaker binds strength (second ∷ rest) rises.1 (not_before_end binds strength first
    (second ∷ rest) ends second rest refl) in
    let here = All-head (λ later. binds first < binds later) second rest rises.0 in
    let next = All-head (λ w. binds w < strength) second rest behind in
    All-cons (λ w. binds w < strength) first (second ∷ rest) (omega (arith, here, next)) behind

rises_front : {W : Type 0} (binds : W → ℕ) (waiting more : List W) → StrengthRises binds (waiting ++ more) → StrengthRises binds waiting
rises_front binds [] more rises = tt
rises_front {W} binds (first ∷ waiting) more rises = (
  all_front (λ later. binds first < binds later) waiting more rises.0,
  rises_front binds waiting more rises.1,
)
  where
    all_front : (P : W → Type 0) (xs ys : List W) → All P (xs ++ ys) → All P xs
    all_front P [] ys all = All-nil P
    all_front P (x ∷ xs) ys all = All-cons P x xs (All-head P x (xs ++ ys) all) (all_front P xs ys (All-tail P x (xs ++ ys) all))

rises_more : {W : Type 0} (binds : W → ℕ) (waiting : List W) (last : W) → StrengthRises binds waiting
    → All (λ w. binds w < binds last) waiting
    → StrengthRises binds (waiting ++ last ∷ [])
rises_more binds [] last rises weaker = (All-nil (λ later. binds last < binds later), tt)
rises_more binds (first ∷ waiting) last rises weaker = (
  All-append (λ later. binds first < binds later) waiting (last ∷ []) rises.0
      (All-cons (λ later. binds first < binds later) last [] (All-head (λ w. binds w < binds last) first waiting weaker)
      (All-nil (λ later. binds first < binds later))),
  rises_more binds waiting last rises.1 (All-tail (λ w. binds w < binds last) first waiting weaker),
)

nothing_weaker : {W : Type 0} (binds : W → ℕ) (waiting : List W) → StrengthRises binds waiting → EndsWeaker binds 0 waiting → waiting ≡ []
nothing_weaker binds [] rises ends = refl
nothing_weaker binds (first ∷ waiting) rises ends =
    let all = all_weaker binds 0 (first ∷ waiting) rises ends in
    let none = All-head (λ w. binds w < 0) first waiting all in
    absurd (omega (arith, none))

module _ {W S A : Type 0} (strength : S → ℕ) (join : S → A → A → A) (view : W → S × A) where
  abbrev binding : W → ℕ
  binding w = strength (view w).0

  stay_before : (sign : S) (after : List W) (behind : List (S × A)) (first : A) → All (λ w. binding w < strength sign) after →
      sign_in_front strength join sign (map view after ++ behind) first ≡ map view after ++ sign_in_front strength join sign behind first
  stay_before sign [] behind first weaker = refl
  stay_before sign (w ∷ after) behind first weaker =
      stays strength join sign (view w) (map view after ++ behind) first (All-head (λ w. binding w < strength sign) w after weaker)
      ∙ ap (λ (l : List (S × A)). view w ∷ l) (stay_before sign after behind first
      (All-tail (λ w. binding w < strength sign) w after weaker))

  among_view : (P : S → Type 0) (taken : List W) → All (λ w. P (view w).0) taken → Among strength join P (map view taken)
  unfolding Among
  among_view P taken all = All-map (λ (e : S × A). P e.0) view taken all

  -- a further sign is put in front by closing those that bind at least as strongly
  pub put_in_front : (sign : S) (before after : List W) (first right : A) → StrengthRises binding before
      → Takes binding view join (strength sign) before after first right →
      EndsWeaker binding (strength sign) after →
      sign_in_front strength join sign (map view before) first ≡ map view after ++ (sign, right) ∷ []
  put_in_front sign before after first right rises takes ends =
      let weaker = all_weaker binding (strength sign) after (rises_front binding after takes.taken
      (subst (StrengthRises binding) takes.falls rises)) ends in
      ap (λ (l : List (S × A)). sign_in_front strength join sign l first) (ap (map view) takes.falls ∙ map-append view after takes.taken)
      ∙ stay_before sign after (map view takes.taken) first weaker
      ∙ ap (λ (l : List (S × A)). map view after ++ l)
      (all_closed strength join sign (map view takes.taken) first (among_view
      (λ later. strength sign ≤ strength later) takes.taken takes.no_weaker)
      ∙ ap (λ (t : A). (sign, t) ∷ []) (sym takes.tree_is))

  pub still_rises : (sign : S) (before after : List W) (first right : A) (last : W) → StrengthRises binding before
      → Takes binding view join (strength sign) before after first right →
      EndsWeaker binding (strength sign) after → (view last).0 ≡ sign → StrengthRises binding (after ++ last ∷ [])
  still_rises sign before after first right last rises takes ends is =
      let front = rises_front binding after takes.taken (subst (StrengthRises binding) takes.falls rises) in
      let weaker = all_weaker binding (strength sign) after front ends in
      rises_more binding after last front (subst (λ (s : S). All (λ w. binding w < strength s) after) (sym is) weaker)

  -- a further operand and sign at the end of those that are still to be put in front
  pub onto_more : (operands : List A) (signs : List S) (operand : A) (sign : S) (so_far : Leftmost A S) → length operands ≡ length signs →
      grouped_onto strength join (operands ++ operand ∷ []) (signs ++ sign ∷ []) so_far ≡ grouped_onto strength join operands signs
      (more strength join operand sign so_far)
  onto_more [] [] operand sign so_far same = refl
  onto_more [] (s ∷ signs) operand sign so_far same = absurd (omega (arith, same))
  onto_more (a ∷ operands) [] operand sign so_far same = absurd (omega (arith, same))
  onto_more (a ∷ operands) (s ∷ signs) operand sign so_far same =
      ap (more strength join a s) (onto_more operands signs operand sign so_far (omega (arith, same)))

  pub onto_last : (operands : List A) (signs : List S) (last : A) → length operands ≡ length signs →
      leftmost_grouping strength join (operands ++ last ∷ []) signs ≡ Some (grouped_onto strength join operands signs
      (record { first = last; waiting = [] }))
  onto_last [] [] last same = refl
  onto_last [] (s ∷ signs) last same = absurd (omega (arith, same))
  onto_last (a ∷ operands) [] last same = absurd (omega (arith, same))
  onto_last (a ∷ operands) (s ∷ signs) last same =
      more_is strength join a (operands ++ last ∷ []) s signs (grouped_onto strength join operands signs
      (record { first = last; waiting = [] }))
      (onto_last operands signs last (omega (arith, same)))

  -- at the end all that waits is closed
  pub all_is_closed : (before after : List W) (first tree : A) → StrengthRises binding before
      → Takes binding view join 0 before after first tree → EndsWeaker binding 0 after →
      closed join (map view before) first ≡ tree
  all_is_closed before after first tree rises takes ends =
      let none = nothing_weaker binding after (rises_front binding after takes.taken (subst (StrengthRises binding) takes.falls rises))
      ends in
      ap (λ (l : List W). closed join (map view l) first) (takes.falls ∙ ap (λ (l : List W). l ++ takes.taken) none) ∙ sym takes.tree_is
