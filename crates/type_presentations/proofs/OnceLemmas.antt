-- A set that has each member of a list once.
use Rattle.std.proofs.Common.{◌≡◌, Bool, true, false, List, [], ◌∷◌, ◌++◌, refl, ap, sym, ◌∙◌}
use Rattle.std.specs.Prelude.{◌||◌, not, if◌then◌else◌}
use Rattle.std.specs.List.{list_any}
use Rattle.std.proofs.lemmas.List.Folds.{list_any-append}
use Rattle.type_definitions.specs.Presentation.{with_new}
use Rattle.type_presentations.proofs.KeptLemmas.{then_one}

or_twice : (a b c : Bool) → ((a || (b || false)) || c) ≡ (a || (b || c))
or_twice true b c = refl
or_twice false true c = refl
or_twice false false c = refl

absorbed : (a b c : Bool) → (b ≡ true → a ≡ true) → (a || c) ≡ (a || (b || c))
absorbed true b c h = refl
absorbed false true c h = let e : false ≡ true = h refl in cc
absorbed false false c h = refl

pub any_once : {A : Type 0} (same : A → A → Bool) → ((x y : A) → same x y ≡ true → x ≡ y) → (x : A) (kept xs : List A)
    → list_any (same x) (with_new same kept xs) ≡ (list_any (same x) kept || list_any (same x) xs)
any_once same sound x kept [] = none (list_any (same x) kept)
  where
    none : (a : Bool) → a ≡ (a || false)
    none true = refl
    none false = refl
any_once {A = A} same sound x kept (y ∷ ys) =
    go (list_any (same y) kept) refl (λ (more : List A). any_once same sound x more ys)
  where
    there : list_any (same y) kept ≡ true → same x y ≡ true → list_any (same x) kept ≡ true
    there h is =
        let one : x ≡ y = sound x y is in
        ap (λ (z : A). list_any (same z) kept) one ∙ h

    go : (b : Bool) → list_any (same y) kept ≡ b
        → ((more : List A) → list_any (same x) (with_new same more ys) ≡ (list_any (same x) more || list_any (same x) ys))
        → list_any (same x) (with_new same (if b then kept else kept ++ y ∷ []) ys)
        ≡ (list_any (same x) kept || (same x y || list_any (same x) ys))
    go true is rest = rest kept ∙ absorbed (list_any (same x) kept) (same x y) (list_any (same x) ys) (there is)
    go false is rest =
        rest (kept ++ y ∷ [])
        ∙ ap (λ (b : Bool). b || list_any (same x) ys) (list_any-append (same x) kept (y ∷ []))
        ∙ or_twice (list_any (same x) kept) (same x y) (list_any (same x) ys)

-- ---- One that comes to the set.

pub record CameOnce {A : Type 0} (same : A → A → Bool) (xs : List A) (x : A) (new : List A) (is_new : Bool) : Type 0 where
  pub appended : new ≡ with_new same [] (xs ++ x ∷ [])
  pub told : is_new ≡ not (list_any (same x) xs)
  pub unchanged : is_new ≡ false → new ≡ with_new same [] xs

pub came_once : {A : Type 0} (same : A → A → Bool) → ((x y : A) → same x y ≡ true → x ≡ y) → (xs : List A) (x : A)
    (old new : List A) (is_new : Bool) → old ≡ with_new same [] xs → new ≡ with_new same old (x ∷ [])
    → is_new ≡ not (list_any (same x) old) → CameOnce same xs x new is_new
came_once {A = A} same sound xs x old new is_new before after told =
    let any : list_any (same x) old ≡ list_any (same x) xs =
    ap (λ (ys : List A). list_any (same x) ys) before ∙ any_once same sound x [] xs in record {
      appended =
          after ∙ ap (λ (ys : List A). with_new same ys (x ∷ [])) before
          ∙ sym (then_one same [] xs x);
      told = told ∙ ap not any;
      unchanged = λ h.
          after ∙ ap (λ (b : Bool). if b then old else old ++ x ∷ []) (there (list_any (same x) old) is_new told h) ∙ before;
    }
  where
    there : (b c : Bool) → c ≡ not b → c ≡ false → b ≡ true
    there true c e h = refl
    there false c e h = let f : false ≡ true = sym h ∙ e in cc

-- what a test of a new one says of the list that keeps first appearances
pub grown_if_new : {A : Type 0} (same : A → A → Bool) (xs : List A) (x : A) (is_new : Bool) → is_new ≡ not (list_any (same x) xs)
    → is_new ≡ true → with_new same xs (x ∷ []) ≡ xs ++ x ∷ []
grown_if_new same xs x is_new told h =
    ap (λ (b : Bool). if b then xs else xs ++ x ∷ []) (none (list_any (same x) xs) is_new told h)
  where
    none : (b c : Bool) → c ≡ not b → c ≡ true → b ≡ false
    none true c e h' = let f : true ≡ false = sym h' ∙ e in cc
    none false c e h' = refl

pub stays_if_old : {A : Type 0} (same : A → A → Bool) (xs : List A) (x : A) (is_new : Bool) → is_new ≡ not (list_any (same x) xs)
    → is_new ≡ false → with_new same xs (x ∷ []) ≡ xs
stays_if_old same xs x is_new told h =
    ap (λ (b : Bool). if b then xs else xs ++ x ∷ []) (one (list_any (same x) xs) is_new told h)
  where
    one : (b c : Bool) → c ≡ not b → c ≡ false → b ≡ true
    one true c e h' = refl
    one false c e h' = let f : false ≡ true = sym h' ∙ e in cc
