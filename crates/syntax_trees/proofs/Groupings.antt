-- The tree that is computed from a flat list is the one that the flat list is grouped to.
use Rattle.std.proofs.Common.{◌≡◌, ◌∙◌, inl, inr, ℕ, ◌<◌, ◌≤◌, cond, Bool, true, false, List, [], ◌∷◌, ◌++◌, refl, ap, sym, subst, arith}
use Rattle.std.specs.Prelude.{All, Option, Some, None, option_map, nat_lt}
use Rattle.std.proofs.lemmas.Bool.{cases_lt, lt-ltb, le-ltb}
use Rattle.std.proofs.lemmas.List.Elements.{All-nil, All-cons, All-head, All-tail, All-append, All-weaker}
use Rattle.syntax_trees.specs.Grouping.{IsGrouped, alone, split, Leftmost, closed, sign_in_front, leftmost_grouping, grouped}

module _ {A S : Type 0} (strength : S → ℕ) (join : S → A → A → A) where
  -- a sign stays on the way where it is weaker
  pub stays : (sign : S) (root : S × A) (inner : List (S × A)) (first : A) → strength root.0 < strength sign →
      sign_in_front strength join sign (root ∷ inner) first ≡ root ∷ sign_in_front strength join sign inner first
  stays sign root inner first weaker =
      ap (λ (b : Bool). cond b (root ∷ sign_in_front strength join sign inner first) ((sign, closed join (root ∷ inner) first) ∷ []))
      (lt-ltb (strength root.0) (strength sign) weaker)

  closes : (sign : S) (root : S × A) (inner : List (S × A)) (first : A) → strength sign ≤ strength root.0 →
      sign_in_front strength join sign (root ∷ inner) first ≡ (sign, closed join (root ∷ inner) first) ∷ []
  closes sign root inner first no_weaker =
      ap (λ (b : Bool). cond b (root ∷ sign_in_front strength join sign inner first) ((sign, closed join (root ∷ inner) first) ∷ []))
      (le-ltb (strength root.0) (strength sign) no_weaker)

  -- the flat list falls into its first operand and the signs from the root to it with their right sides
  data Falls : List A → List S → A → List (S × A) → Type 0 where
    at_operand : {first : A} → Falls (first ∷ []) [] first []
    at_sign : {operands others : List A} {before behind : List S} {sign : S} {right first : A} {inner : List (S × A)} →
        All (λ earlier. strength sign < strength earlier) before → All (λ later. strength sign ≤ strength later) behind →
        Falls operands before first inner → IsGrouped strength join others behind right →
        Falls (operands ++ others) (before ++ sign ∷ behind) first ((sign, right) ∷ inner)

  closed_is_grouped : {operands : List A} {signs : List S} {first : A} {waiting : List (S × A)} →
      Falls operands signs first waiting → IsGrouped strength join operands signs (closed join waiting first)
  closed_is_grouped at_operand = alone
  closed_is_grouped (at_sign stronger no_weaker falls right) = split stronger no_weaker (closed_is_grouped falls) right

  no_weaker_at_all : (sign : S) (root : S) (before behind : List S) → strength sign ≤ strength root →
      All (λ earlier. strength root < strength earlier) before → All (λ later. strength root ≤ strength later) behind →
      All (λ later. strength sign ≤ strength later) (before ++ root ∷ behind)
  no_weaker_at_all sign root before behind least stronger no_weaker =
      All-append (λ later. strength sign ≤ strength later) before (root ∷ behind)
      (All-weaker (λ earlier. strength root < strength earlier) (λ later. strength sign ≤ strength later)
      (λ e l. omega (arith, least, l)) before stronger)
      (All-cons (λ later. strength sign ≤ strength later) root behind least
      (All-weaker (λ later. strength root ≤ strength later) (λ later. strength sign ≤ strength later)
      (λ e l. omega (arith, least, l)) behind no_weaker))

  alone_in_front : {operands : List A} {signs : List S} {tree : A} (another : A) (sign : S)
      → All (λ later. strength sign ≤ strength later) signs →
      IsGrouped strength join operands signs tree → Falls (another ∷ operands) (sign ∷ signs) another ((sign, tree) ∷ [])
  alone_in_front another sign no_weaker is = at_sign (All-nil (λ earlier. strength sign < strength earlier)) no_weaker at_operand is

  one_in_front : {operands : List A} {signs : List S} {first : A} {waiting : List (S × A)} (another : A) (sign : S) →
      Falls operands signs first waiting → Falls (another ∷ operands) (sign ∷ signs) another
      (sign_in_front strength join sign waiting first)
  one_in_front another sign (at_operand {first = first}) = alone_in_front another sign
      (All-nil (λ later. strength sign ≤ strength later)) alone
  one_in_front another sign (at_sign {operands = operands} {others = others} {before = before} {behind = behind} {sign = root} {right =
      right} {first = first} {inner = inner} stronger no_weaker falls is) =
      elim (cases_lt (strength root) (strength sign)) [
        | inl weaker ↦
            subst (Falls (another ∷ (operands ++ others)) (sign ∷ (before ++ root ∷ behind)) another)
            (sym (stays sign (root, right) inner first weaker))
            (at_sign (All-cons (λ earlier. strength root < strength earlier) sign before weaker stronger) no_weaker
            (one_in_front another sign falls) is)
        | inr least ↦
            subst (Falls (another ∷ (operands ++ others)) (sign ∷ (before ++ root ∷ behind)) another)
            (sym (closes sign (root, right) inner first least))
            (alone_in_front another sign (no_weaker_at_all sign root before behind least stronger no_weaker)
            (closed_is_grouped (at_sign stronger no_weaker falls is)))
      ]

  -- what is computed falls so
  abbrev LeftmostFalls : List A → List S → Option (Leftmost A S) → Type 0
  LeftmostFalls operands signs None = Unit {0}
  LeftmostFalls operands signs (Some it) = Falls operands signs it.first it.waiting

  falls_more : (first second : A) (operands : List A) (sign : S) (signs : List S) (rest : Option (Leftmost A S))
      → LeftmostFalls (second ∷ operands) signs rest →
      LeftmostFalls (first ∷ second ∷ operands) (sign ∷ signs) (option_map
      (λ it. record { first = first; waiting = sign_in_front strength join sign it.waiting it.first }) rest)
  falls_more first second operands sign signs None is = tt
  falls_more first second operands sign signs (Some it) is = one_in_front first sign is

  leftmost_falls : (operands : List A) (signs : List S) → LeftmostFalls operands signs (leftmost_grouping strength join operands signs)
  leftmost_falls [] signs = tt
  leftmost_falls (last ∷ []) [] = at_operand
  leftmost_falls (last ∷ []) (sign ∷ signs) = tt
  leftmost_falls (first ∷ second ∷ operands) [] = tt
  leftmost_falls (first ∷ second ∷ operands) (sign ∷ signs) =
      falls_more first second operands sign signs (leftmost_grouping strength join (second ∷ operands) signs)
      (leftmost_falls (second ∷ operands) signs)

  grouped_from : (operands : List A) (signs : List S) (tree : A) (rest : Option (Leftmost A S)) → LeftmostFalls operands signs rest →
      option_map (λ all. closed join all.waiting all.first) rest ≡ Some tree → IsGrouped strength join operands signs tree
  grouped_from operands signs tree None is same = absurd (cc)
  grouped_from operands signs tree (Some it) is same = subst (IsGrouped strength join operands signs)
      (let e : closed join it.waiting it.first ≡ tree = cc in e) (closed_is_grouped is)

  -- the computed tree is the one that the flat list is grouped to
  pub grouped_is : (operands : List A) (signs : List S) (tree : A) → grouped strength join operands signs ≡ Some tree
      → IsGrouped strength join operands signs tree
  grouped_is operands signs tree same = grouped_from operands signs tree (leftmost_grouping strength join operands signs)
      (leftmost_falls operands signs) same

  -- each sign on the way is one of the list
  unfoldable pub Among : (S → Type 0) → List (S × A) → Type 0
  Among P waiting = All (λ (e : S × A). P e.0) waiting

  in_front_among : (P : S → Type 0) (sign : S) (waiting : List (S × A)) (first : A) → P sign → Among P waiting
      → Among P (sign_in_front strength join sign waiting first)
  unfolding Among
  in_front_among P sign [] first here among = All-cons (λ (e : S × A). P e.0) (sign, first) [] here among
  in_front_among P sign (root ∷ inner) first here among =
      elim (cases_lt (strength root.0) (strength sign)) [
        | inl weaker ↦
            subst (Among P) (sym (stays sign root inner first weaker))
            (All-cons (λ (e : S × A). P e.0) root (sign_in_front strength join sign inner first)
            (All-head (λ (e : S × A). P e.0) root inner among)
            (in_front_among P sign inner first here (All-tail (λ (e : S × A). P e.0) root inner among)))
        | inr least ↦
            subst (Among P) (sym (closes sign root inner first least))
            (All-cons (λ (e : S × A). P e.0) (sign, closed join (root ∷ inner) first) [] here (All-nil (λ (e : S × A). P e.0)))
      ]

  -- the computed list in front of which a further operand is put
  abbrev pub more : A → S → Leftmost A S → Leftmost A S
  more first sign rest = record { first = first; waiting = sign_in_front strength join sign rest.waiting rest.first }

  abbrev LeftmostAmong : (S → Type 0) → Option (Leftmost A S) → Type 0
  LeftmostAmong P None = Unit {0}
  LeftmostAmong P (Some it) = Among P it.waiting

  among_more : (P : S → Type 0) (first : A) (sign : S) (rest : Option (Leftmost A S)) → P sign → LeftmostAmong P rest
      → LeftmostAmong P (option_map (more first sign) rest)
  among_more P first sign None here among = tt
  among_more P first sign (Some it) here among = in_front_among P sign it.waiting it.first here among

  leftmost_among : (P : S → Type 0) (operands : List A) (signs : List S) → All P signs
      → LeftmostAmong P (leftmost_grouping strength join operands signs)
  unfolding Among
  leftmost_among P [] signs all = tt
  leftmost_among P (last ∷ []) [] all = All-nil (λ (e : S × A). P e.0)
  leftmost_among P (last ∷ []) (sign ∷ signs) all = tt
  leftmost_among P (first ∷ second ∷ operands) [] all = tt
  leftmost_among P (first ∷ second ∷ operands) (sign ∷ signs) all =
      among_more P first sign (leftmost_grouping strength join (second ∷ operands) signs) (All-head P sign signs all)
      (leftmost_among P (second ∷ operands) signs (All-tail P sign signs all))

  -- where no sign on the way is weaker, all of it is the right side of the new sign
  pub all_closed : (sign : S) (waiting : List (S × A)) (first : A) → Among (λ later. strength sign ≤ strength later) waiting →
      sign_in_front strength join sign waiting first ≡ (sign, closed join waiting first) ∷ []
  unfolding Among
  all_closed sign [] first no_weaker = refl
  all_closed sign (root ∷ inner) first no_weaker = closes sign root inner first
      (All-head (λ (e : S × A). strength sign ≤ strength e.0) root inner no_weaker)

  record Computed (operands : List A) (signs : List S) (tree : A) : Type 0 where
    it : Leftmost A S
    is : leftmost_grouping strength join operands signs ≡ Some it
    tree_is : closed join it.waiting it.first ≡ tree

  -- the computed list of a right side with a weaker sign before it, and of what stands before that
  record Split (operands others : List A) (before behind : List S) (sign : S) (right : A) (front : Leftmost A S) : Type 0 where
    is : leftmost_grouping strength join (operands ++ others) (before ++ sign ∷ behind) ≡ Some
        (record { first = front.first; waiting = (sign, right) ∷ front.waiting })

  some_more : (first : A) (sign : S) (rest : Option (Leftmost A S)) (it : Leftmost A S) → rest ≡ Some it
      → option_map (more first sign) rest ≡ Some (more first sign it)
  some_more first sign rest it is = ap (option_map (more first sign)) is

  pub more_is : (first : A) (operands : List A) (sign : S) (signs : List S) (it : Leftmost A S)
      → leftmost_grouping strength join operands signs ≡ Some it →
      leftmost_grouping strength join (first ∷ operands) (sign ∷ signs) ≡ Some (more first sign it)
  more_is first [] sign signs it is = absurd (cc)
  more_is first (second ∷ operands) sign signs it is =
      some_more first sign (leftmost_grouping strength join (second ∷ operands) signs) it is

  -- the first of a list that is computed is there, and so is the rest
  record Rest (first : A) (operands : List A) (sign : S) (signs : List S) (it : Leftmost A S) : Type 0 where
    rest : Leftmost A S
    is : leftmost_grouping strength join operands signs ≡ Some rest
    whole : more first sign rest ≡ it

  rest_from : (first : A) (sign : S) (found : Option (Leftmost A S)) (it : Leftmost A S) → option_map (more first sign) found ≡ Some it →
      (rest : Leftmost A S) × (found ≡ Some rest) × (more first sign rest ≡ it)
  rest_from first sign None it same = absurd (cc)
  rest_from first sign (Some rest) it same = (rest, refl, cc)

  rest_of : (first : A) (operands : List A) (sign : S) (signs : List S) (it : Leftmost A S)
      → leftmost_grouping strength join (first ∷ operands) (sign ∷ signs) ≡ Some it → Rest first operands sign signs it
  rest_of first [] sign signs it same = absurd (cc)
  rest_of first (second ∷ operands) sign signs it same =
      let found = rest_from first sign (leftmost_grouping strength join (second ∷ operands) signs) it same in
      record { rest = found.0; is = found.1; whole = found.2 }

  split_at_sign : (operands others : List A) (before behind : List S) (sign : S) (right : A) (front it : Leftmost A S)
      → leftmost_grouping strength join others behind ≡ Some it →
      closed join it.waiting it.first ≡ right → All (λ later. strength sign ≤ strength later) behind
      → All (λ earlier. strength sign < strength earlier) before →
      leftmost_grouping strength join operands before ≡ Some front →
      leftmost_grouping strength join (operands ++ others) (before ++ sign ∷ behind) ≡ Some
      (record { first = front.first; waiting = (sign, right) ∷ front.waiting })
  unfolding Among
  split_at_sign [] others before behind sign right front it is tree_is no_weaker stronger front_is = absurd (cc)
  split_at_sign (last ∷ []) others [] behind sign right front it is tree_is no_weaker stronger front_is =
      let among = subst (LeftmostAmong (λ later. strength sign ≤ strength later)) is
      (leftmost_among (λ later. strength sign ≤ strength later) others behind no_weaker) in
      let at : record { first = last; waiting = [] } ≡ front = cc in
      more_is last others sign behind it is
      ∙ ap (λ (w : List (S × A)). Some (record { first = last; waiting = w })) (all_closed sign it.waiting it.first among
      ∙ ap (λ (r : A). (sign, r) ∷ []) tree_is)
      ∙ ap (λ (f : Leftmost A S). Some (record { first = f.first; waiting = (sign, right) ∷ f.waiting })) at
  split_at_sign (last ∷ []) others (earlier ∷ before) behind sign right front it is tree_is no_weaker stronger front_is = absurd (cc)
  split_at_sign (first ∷ second ∷ operands) others [] behind sign right front it is tree_is no_weaker stronger front_is = absurd (cc)
  split_at_sign (first ∷ second ∷ operands) others (earlier ∷ before) behind sign right front it is tree_is no_weaker stronger front_is =
      let rest = rest_of first (second ∷ operands) earlier before front front_is in
      let below = split_at_sign (second ∷ operands) others before behind sign right rest.rest it is tree_is no_weaker
      (All-tail (λ earlier. strength sign < strength earlier) earlier before stronger) rest.is in
      more_is first (second ∷ (operands ++ others)) earlier (before ++ sign ∷ behind)
      (record { first = rest.rest.first; waiting = (sign, right) ∷ rest.rest.waiting }) below
      ∙ ap (λ (w : List (S × A)). Some (record { first = first; waiting = w }))
      (stays earlier (sign, right) rest.rest.waiting rest.rest.first (All-head
      (λ earlier. strength sign < strength earlier) earlier before stronger))
      ∙ ap (λ (f : Leftmost A S). Some (record { first = f.first; waiting = (sign, right) ∷ f.waiting })) rest.whole

  is_computed : {operands : List A} {signs : List S} {tree : A} → IsGrouped strength join operands signs tree → Computed operands signs tree
  is_computed (alone {operand = operand}) = record { it = record { first = operand; waiting = [] }; is = refl; tree_is = refl }
  is_computed (split {operands = operands} {others = others} {before = before} {behind = behind} {sign = sign} {left = left} {right =
      right} stronger no_weaker left_is right_is) =
      let front = is_computed left_is in
      let back = is_computed right_is in
      record {
        it = record { first = front.it.first; waiting = (sign, right) ∷ front.it.waiting };
        is = split_at_sign operands others before behind sign right front.it back.it back.is back.tree_is no_weaker stronger front.is;
        tree_is = ap (λ (l : A). join sign l right) front.tree_is;
      }

  -- the tree that a flat list is grouped to is the computed one, so there is one at most
  pub is_grouped : {operands : List A} {signs : List S} {tree : A} → IsGrouped strength join operands signs tree
      → grouped strength join operands signs ≡ Some tree
  is_grouped is =
      let it = is_computed is in
      ap (option_map (λ all. closed join all.waiting all.first)) it.is ∙ ap Some it.tree_is
