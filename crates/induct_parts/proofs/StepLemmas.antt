-- Lists that are made one after another: what is made so far, and what the rest makes.
use Rattle.std.proofs.Common.{◌≡◌, ◌<◌, ◌≤◌, ℕ, suc, ◌+◌, List, [], ◌∷◌, ◌++◌, Bool, true, false, nat_eq, length, map, drop, get_or, refl, ap, sym, ◌∙◌, arith, subst}
use Rattle.std.specs.Prelude.{◌||◌, if◌then◌else◌}
use Rattle.std.proofs.lemmas.List.{append_assoc, append-nil, map-append}
use Rattle.lotos_base.proofs.Each.{Each, each_join}
use Rattle.std.proofs.Math.ListN.{drop_of_length-le}
use Rattle.lotos_base.specs.Signature.{Operation}
use Rattle.lotos_base.specs.Substitution.{substituted, is_listed}
use Rattle.lotos_base.specs.Term.{variable}
use Rattle.lotos_base.specs.Tests.{occurs}
use Rattle.lotos_base.proofs.Pieces.{next_member}
use Rattle.certificate_theory.specs.InductionCertificate.{Statement}
use Rattle.certificate_theory.specs.Covers.{Numbered, listed_from}
use Rattle.certificate_theory.specs.Patterns.{put_for}
use Rattle.certificate_theory.specs.Splits.{in_both, hypotheses_for, absent_from}

-- What the rest makes, behind what is made so far, is the whole.
abbrev pub IsMadeSoFar : {A Y : Type 0} → (ℕ → List A → List Y) → List A → List Y → ℕ → List Y → Type 0
IsMadeSoFar makes all whole n made = made ++ makes n (drop n all) ≡ whole

module _ {A Y : Type 0} (makes : ℕ → List A → List Y) (one : ℕ → A → List Y) (all : List A) (whole : List Y) where
  pub one_more : ((n : ℕ) (x : A) (xs : List A) → makes n (x ∷ xs) ≡ one n x ++ makes (suc n) xs) → (n : ℕ) (x : A) (made more : List Y)
      → n < length all → x ≡ get_or all n x → more ≡ made ++ one n x → IsMadeSoFar makes all whole n made
      → IsMadeSoFar makes all whole (n + 1) more
  one_more first n x made more within is added so_far =
      ap (λ (ys : List Y). ys ++ makes (n + 1) (drop (n + 1) all)) added
      ∙ (append_assoc made (one n x) (makes (n + 1) (drop (n + 1) all))
      ∙ (ap (λ (k : ℕ). made ++ (one n x ++ makes k (drop (n + 1) all))) on
      ∙ (ap (λ (ys : List Y). made ++ ys) (sym (ap (makes n) (next_member all n x within is) ∙ first n x (drop (n + 1) all)))
      ∙ so_far)))
    where
      on : n + 1 ≡ suc n
      on = omega arith

  pub all_made : ((n : ℕ) → makes n [] ≡ []) → (n : ℕ) (made : List Y) → length all ≤ n → IsMadeSoFar makes all whole n made
      → made ≡ whole
  all_made none n made past so_far =
      sym (append-nil made)
      ∙ (ap (λ (ys : List Y). made ++ ys) (sym (ap (makes n) (drop_of_length-le all past) ∙ none n)) ∙ so_far)

-- ---- what is added where a test holds, or where it does not

pub kept_unless : {A : Type 0} (b : Bool) (xs ys : List A) → b ≡ false → xs ≡ xs ++ (if b then ys else [])
kept_unless true xs ys e = absurd (cc e)
kept_unless false xs ys e = sym (append-nil xs)

pub added_where : {A : Type 0} (b : Bool) (old ys new : List A) → b ≡ true → new ≡ old ++ ys → new ≡ old ++ (if b then ys else [])
added_where true old ys new e added = added
added_where false old ys new e added = absurd (cc e)

-- the views of what is pushed
pub pushed : {A Y : Type 0} (view : A → Y) (old new : List A) (x : A) → new ≡ old ++ x ∷ [] → map view new ≡ map view old ++ view x ∷ []
pushed view old new x e = ap (map view) e ∙ map-append view old (x ∷ [])

pub each_pushed : {A : Type 0} (P : A → Type 0) (old new : List A) (x : A) → new ≡ old ++ x ∷ [] → P x → Each P old → Each P new
each_pushed P old new x e h each = subst (Each P) (sym e) (each_join P old (x ∷ []) each (h, tt))

-- ---- what operations of a list make, in the order of the signature

abbrev pub listed_makes : {Y : Type 0} → (Numbered → Y) → List ℕ → ℕ → List Operation → List Y
listed_makes make numbers n os = map make (listed_from numbers n os)

abbrev pub if_listed : {Y : Type 0} → (Numbered → Y) → List ℕ → ℕ → Operation → List Y
if_listed make numbers n o = if is_listed numbers n then make (record { number = n; operation = o }) ∷ [] else []

pub listed_first : {Y : Type 0} (make : Numbered → Y) (numbers : List ℕ) (n : ℕ) (o : Operation) (os : List Operation)
    → listed_makes make numbers n (o ∷ os) ≡ if_listed make numbers n o ++ listed_makes make numbers (suc n) os
listed_first {Y = Y} make numbers n o os = go (is_listed numbers n)
  where
    go : (b : Bool)
        → map make (if b then record { number = n; operation = o } ∷ listed_from numbers (suc n) os else listed_from numbers (suc n) os)
        ≡ (if b then make (record { number = n; operation = o }) ∷ [] else []) ++ map make (listed_from numbers (suc n) os)
    go true = refl
    go false = refl

-- ---- hypotheses for arguments

abbrev pub hypotheses_make : Statement → ℕ → ℕ → ℕ → ℕ → List ℕ → List Statement
hypotheses_make goal n s next i rs = hypotheses_for goal n s (next + i) rs

abbrev pub if_sorted : Statement → ℕ → ℕ → ℕ → ℕ → ℕ → List Statement
if_sorted goal n s next i r =
    if nat_eq s r then in_both (substituted (put_for n s (variable (next + i) s))) goal ∷ [] else []

pub hypothesis_first : (goal : Statement) (n s next i r : ℕ) (rs : List ℕ)
    → hypotheses_make goal n s next i (r ∷ rs) ≡ if_sorted goal n s next i r ++ hypotheses_make goal n s next (suc i) rs
hypothesis_first goal n s next i r rs =
    go (nat_eq s r) ∙ ap (λ (k : ℕ). if_sorted goal n s next i r ++ hypotheses_for goal n s k rs) on
  where
    on : suc (next + i) ≡ next + suc i
    on = omega arith

    go : (b : Bool)
        → (if b
        then in_both (substituted (put_for n s (variable (next + i) s))) goal ∷ hypotheses_for goal n s (suc (next + i)) rs
        else hypotheses_for goal n s (suc (next + i)) rs)
        ≡ (if b then in_both (substituted (put_for n s (variable (next + i) s))) goal ∷ [] else [])
        ++ hypotheses_for goal n s (suc (next + i)) rs
    go true = refl
    go false = refl

-- ---- variables that occur in neither side

abbrev pub if_absent : Statement → ℕ → ℕ → List ℕ
if_absent statement n s = if occurs n s statement.left || occurs n s statement.right then [] else n ∷ []

pub absent_first : (statement : Statement) (n s : ℕ) (ss : List ℕ)
    → absent_from statement n (s ∷ ss) ≡ if_absent statement n s ++ absent_from statement (suc n) ss
absent_first statement n s ss = go (occurs n s statement.left || occurs n s statement.right)
  where
    go : (b : Bool) → (if b then absent_from statement (suc n) ss else n ∷ absent_from statement (suc n) ss)
        ≡ (if b then [] else n ∷ []) ++ absent_from statement (suc n) ss
    go true = refl
    go false = refl
