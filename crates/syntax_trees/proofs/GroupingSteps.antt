-- The steps of the grouping of a flat list from its end.
use Rattle.std.proofs.Common.{◌≡◌, ◌∙◌, ℕ, ◌+◌, List, [], ◌∷◌, ◌++◌, refl, ap, sym, subst, arith, map}
use Rattle.std.specs.Prelude.{Option, Some, None, length, option_map, Result, Ok, Err, IfOk, OnOk}
use Rattle.std.proofs.lemmas.List.{map-append, length-map, length-append}
use Rattle.syntax_trees.specs.Grouping.{Leftmost, closed, leftmost_grouping, grouped}
use Rattle.syntax_trees.specs.Waiting.{EndsWeaker, Takes, StrengthRises, grouped_onto}
use Rattle.syntax_trees.proofs.Closing.{put_in_front, still_rises, onto_more, onto_last, all_is_closed}

module _ {A S O G : Type 0} (strength : S → ℕ) (join : S → A → A → A) (plain : O → A) (plain_sign : G → S) where
  abbrev viewed : G × O → S × A
  viewed w = (plain_sign w.0, plain w.1)

  abbrev binding : G × O → ℕ
  binding w = strength (plain_sign w.0)

  abbrev so_far : O → List (G × O) → Leftmost A S
  so_far tree waiting = record { first = plain tree; waiting = map viewed waiting }

  -- the operands and signs that are left, put in front of what is grouped so far, are the whole list
  abbrev pub SoFar : List O → List G → List O → List G → O → List (G × O) → Type 0
  SoFar all_operands all_signs operands signs tree waiting =
      (length operands ≡ length signs)
      × (leftmost_grouping strength join (map plain all_operands) (map plain_sign all_signs)
      ≡ Some (grouped_onto strength join (map plain operands) (map plain_sign signs)
      (record { first = plain tree; waiting = map (λ w. (plain_sign w.0, plain w.1)) waiting })))
      × StrengthRises (λ w. strength (plain_sign w.0)) waiting

  same_lengths : (operands : List O) (signs : List G) → length operands ≡ length signs
      → length (map plain operands) ≡ length (map plain_sign signs)
  same_lengths operands signs same = length-map operands plain ∙ same ∙ sym (length-map signs plain_sign)

  one_less : {X Y : Type 0} (xs : List X) (x : X) (ys : List Y) (y : Y) → length (xs ++ x ∷ []) ≡ length (ys ++ y ∷ [])
      → length xs ≡ length ys
  one_less xs x ys y same =
      let a = length-append xs (x ∷ []) in
      let b = length-append ys (y ∷ []) in
      omega (arith, a, b, same)

  pub begin : (all_operands operands : List O) (signs : List G) (tree : O) (waiting : List (G × O))
      → length all_operands ≡ length signs + 1 → all_operands ≡ operands ++ tree ∷ [] → waiting ≡ [] →
      SoFar all_operands signs operands signs tree waiting
  begin all_operands operands signs tree waiting lengths are none =
      let whole = ap length are in
      let longer = length-append operands (tree ∷ []) in
      let same : length operands ≡ length signs = omega (arith, lengths, whole, longer) in
      subst (SoFar all_operands signs operands signs tree) (sym none) (
        same,
        ap (λ (l : List A). leftmost_grouping strength join l (map plain_sign signs))
            (ap (map plain) are ∙ map-append plain operands (tree ∷ []))
            ∙ onto_last {W = G × O} strength join viewed (map plain operands) (map plain_sign signs) (plain tree)
            (same_lengths operands signs same),
        tt,
      )

  pub further : (all_operands : List O) (all_signs : List G) (before operands : List O) (signs_before signs : List G)
      (left tree right : O) (sign : G) (waiting after new : List (G × O)) (s : ℕ) →
      SoFar all_operands all_signs before signs_before tree waiting → before ≡ operands ++ left ∷ [] → signs_before ≡ signs ++ sign ∷ []
      → s ≡ strength (plain_sign sign) →
      Takes binding viewed join s waiting after (plain tree) (plain right) → EndsWeaker binding s after
      → new ≡ after ++ (sign, right) ∷ [] →
      SoFar all_operands all_signs operands signs left new
  further all_operands all_signs before operands signs_before signs left tree right sign waiting after new s inv operands_are signs_are
      strength_is takes ends new_is =
      let takes_it = subst (λ (n : ℕ). Takes binding viewed join n waiting after (plain tree) (plain right)) strength_is takes in
      let ends_so = subst (λ (n : ℕ). EndsWeaker binding n after) strength_is ends in
      let same = one_less operands left signs sign (sym (ap length operands_are) ∙ inv.0 ∙ ap length signs_are) in
      let in_front_is = put_in_front strength join viewed (plain_sign sign) waiting after (plain tree)
      (plain right) inv.2 takes_it ends_so in
      let waiting_is : map viewed new ≡ map viewed after ++ (plain_sign sign, plain right) ∷ [] = ap (map viewed) new_is
      ∙ map-append viewed after ((sign, right) ∷ []) in (
        same,
        inv.1
            ∙ ap (λ (l : List A). Some (grouped_onto strength join l (map plain_sign signs_before) (so_far tree waiting)))
            (ap (map plain) operands_are ∙ map-append plain operands (left ∷ []))
            ∙ ap (λ (l : List S). Some (grouped_onto strength join (map plain operands ++ plain left ∷ []) l (so_far tree waiting)))
            (ap (map plain_sign) signs_are ∙ map-append plain_sign signs (sign ∷ []))
            ∙ ap (λ (it : Leftmost A S). Some it)
            (onto_more {W = G × O} strength join viewed (map plain operands) (map plain_sign signs) (plain left) (plain_sign sign)
            (so_far tree waiting) (same_lengths operands signs same))
            ∙ ap (λ (w : List (S × A)). Some (grouped_onto strength join (map plain operands) (map plain_sign signs)
            (record { first = plain left; waiting = w })))
            (in_front_is ∙ sym waiting_is),
        subst (StrengthRises binding) (sym new_is) (still_rises strength join viewed (plain_sign sign) waiting after (plain tree)
            (plain right)
            (sign, right) inv.2 takes_it ends_so refl),
      )

  no_operands : (operands : List O) → length operands ≡ 0 → operands ≡ []
  no_operands [] same = refl
  no_operands (x ∷ operands) same = absurd (omega (arith, same))

  pub finish : (all_operands : List O) (all_signs : List G) (operands : List O) (signs : List G) (tree whole : O)
      (waiting after : List (G × O)) →
      SoFar all_operands all_signs operands signs tree waiting → signs ≡ [] →
      Takes binding viewed join 0 waiting after (plain tree) (plain whole) → EndsWeaker binding 0 after →
      grouped strength join (map plain all_operands) (map plain_sign all_signs) ≡ Some (plain whole)
  finish all_operands all_signs operands signs tree whole waiting after inv none takes ends =
      let no_more = no_operands operands (inv.0 ∙ ap length none) in
      ap (option_map (λ all. closed join all.waiting all.first))
      (inv.1 ∙ ap (λ (l : List O). Some (grouped_onto strength join (map plain l) (map plain_sign signs) (so_far tree waiting))) no_more)
      ∙ ap Some (all_is_closed strength join viewed waiting after (plain tree) (plain whole) inv.2 takes ends)

  pub finish_ok : {E : Type 0} (all_operands : List O) (all_signs : List G) (operands : List O) (signs : List G) (tree : O)
      (waiting after : List (G × O)) (result : Result O E) →
      SoFar all_operands all_signs operands signs tree waiting → signs ≡ [] →
      IfOk result (λ whole. Takes (λ w. strength (plain_sign w.0)) (λ w. (plain_sign w.0, plain w.1)) join 0 waiting after (plain tree)
      (plain whole)) →
      OnOk result (EndsWeaker (λ w. strength (plain_sign w.0)) 0 after) →
      IfOk result (λ whole. grouped strength join (map plain all_operands) (map plain_sign all_signs) ≡ Some (plain whole))
  finish_ok all_operands all_signs operands signs tree waiting after (Ok whole) inv none takes ends =
      finish all_operands all_signs operands signs tree whole waiting after inv none takes ends
  finish_ok all_operands all_signs operands signs tree waiting after (Err fault) inv none takes ends = tt
