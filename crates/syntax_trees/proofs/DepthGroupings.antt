-- What is made of trees part by part goes with their grouping.
use Rattle.std.proofs.Common.{◌≡◌, ◌∙◌, ℕ, nat_lt, true, false, List, [], ◌∷◌, map, Some, None, refl, ap}
use Rattle.std.specs.Prelude.{Option, cond, option_map}
use Rattle.syntax_trees.specs.Grouping.{Leftmost, closed, sign_in_front, leftmost_grouping, grouped}
use Rattle.syntax_trees.specs.Strength.{strength_of, joined_by_sign}
use Rattle.syntax_trees.specs.DepthLaws.{FirstsAreGrouped}
use Rattle.syntax_trees.specs.Firsts.{firsts_between}
use Rattle.syntax_trees.specs.TreeFirsts.{behaviour_firsts}

module _ {A B S : Type 0} (made : A → B) (strength : S → ℕ) (join : S → A → A → A) (make : B → B → B)
    (makes : (sign : S) (left right : A) → made (join sign left right) ≡ make (made left) (made right)) where
  abbrev weigh : S × A → ℕ × B
  weigh pair = (strength pair.0, made pair.1)

  abbrev joins : ℕ → B → B → B
  joins sign left right = make left right

  closed_made : (waiting : List (S × A)) (first : A) → made (closed join waiting first) ≡ closed joins (map weigh waiting) (made first)
  closed_made [] first = refl
  closed_made (root ∷ inner) first =
      makes root.0 (closed join inner first) root.1 ∙ ap (λ it. make it (made root.1)) (closed_made inner first)

  in_front_made : (sign : S) (waiting : List (S × A)) (first : A) →
      map weigh (sign_in_front strength join sign waiting first)
      ≡ sign_in_front (λ it. it) joins (strength sign) (map weigh waiting) (made first)
  in_front_made sign [] first = refl
  in_front_made sign (root ∷ inner) first =
      elim (nat_lt (strength root.0) (strength sign)) as (λ b. map weigh (cond b (root ∷ sign_in_front strength join sign inner first)
      ((sign, closed join (root ∷ inner) first) ∷ []))
      ≡ cond b (weigh root ∷ sign_in_front (λ it. it) joins (strength sign) (map weigh inner) (made first))
      ((strength sign, closed joins (weigh root ∷ map weigh inner) (made first)) ∷ [])) [
        | true ↦ ap (λ it. weigh root ∷ it) (in_front_made sign inner first)
        | false ↦ ap (λ it. (strength sign, it) ∷ []) (closed_made (root ∷ inner) first)
      ]

  abbrev made_leftmost : Leftmost A S → Leftmost B ℕ
  made_leftmost all = record { first = made all.first; waiting = map weigh all.waiting }

  abbrev put : A → S → Leftmost A S → Leftmost A S
  put first sign rest = record { first = first; waiting = sign_in_front strength join sign rest.waiting rest.first }

  abbrev put_made : B → ℕ → Leftmost B ℕ → Leftmost B ℕ
  put_made first sign rest = record { first = first; waiting = sign_in_front (λ it. it) joins sign rest.waiting rest.first }

  put_is : (first : A) (sign : S) (rest : Option (Leftmost A S)) (other : Option (Leftmost B ℕ)) →
      option_map made_leftmost rest ≡ other →
      option_map made_leftmost (option_map (put first sign) rest) ≡ option_map (put_made (made first) (strength sign)) other
  put_is first sign None other e = ap (option_map (put_made (made first) (strength sign))) e
  put_is first sign (Some rest) other e =
      let same : made_leftmost (put first sign rest) ≡ put_made (made first) (strength sign) (made_leftmost rest) =
      ap
      (λ it. let leftmost_of : List (ℕ × B) → Leftmost B ℕ = λ waiting. record { first = made first; waiting = waiting } in leftmost_of it)
      (in_front_made sign rest.waiting rest.first) in
      ap Some same ∙ ap (option_map (put_made (made first) (strength sign))) e

  leftmost_made : (operands : List A) (signs : List S) →
      option_map made_leftmost (leftmost_grouping strength join operands signs)
      ≡ leftmost_grouping (λ it. it) joins (map made operands) (map strength signs)
  leftmost_made [] signs = refl
  leftmost_made (last ∷ []) [] = refl
  leftmost_made (first ∷ second ∷ operands) [] = refl
  leftmost_made (first ∷ []) (sign ∷ signs) =
      put_is first sign (leftmost_grouping strength join [] signs) (leftmost_grouping (λ it. it) joins [] (map strength signs))
      (leftmost_made [] signs)
  leftmost_made (first ∷ second ∷ operands) (sign ∷ signs) =
      put_is first sign (leftmost_grouping strength join (second ∷ operands) signs)
      (leftmost_grouping (λ it. it) joins (map made (second ∷ operands)) (map strength signs)) (leftmost_made (second ∷ operands) signs)

  close_is : (all : Option (Leftmost A S)) (other : Option (Leftmost B ℕ)) → option_map made_leftmost all ≡ other →
      option_map made (option_map (λ it. closed join it.waiting it.first) all) ≡ option_map (λ it. closed joins it.waiting it.first) other
  close_is None other e = ap (option_map (λ it. closed joins it.waiting it.first)) e
  close_is (Some all) other e = ap Some (closed_made all.waiting all.first) ∙ ap (option_map (λ it. closed joins it.waiting it.first)) e

  pub grouped_made : (operands : List A) (signs : List S) →
      option_map made (grouped strength join operands signs) ≡ grouped (λ it. it) joins (map made operands) (map strength signs)
  grouped_made operands signs =
      close_is (leftmost_grouping strength join operands signs)
      (leftmost_grouping (λ it. it) joins (map made operands) (map strength signs))
      (leftmost_made operands signs)

pub firsts_grouped : FirstsAreGrouped
firsts_grouped limit operands signs =
    grouped_made (behaviour_firsts limit) strength_of joined_by_sign firsts_between (λ sign left right. refl) operands signs
