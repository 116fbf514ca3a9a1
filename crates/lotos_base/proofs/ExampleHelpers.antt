-- What the computed cases need: members of short lists that differ, ill-sorted operations, values for the variables of a term.
use Rattle.std.proofs.Common.{◌≡◌, ℕ, zero, suc, Bool, true, false, ◌&&◌, not, List, [], ◌∷◌, refl, ap, sym, ◌∙◌, subst, inl, inr}
use Rattle.std.specs.Prelude.{◌||◌, Some, slice_get}
use Rattle.std.specs.List.{list_any}
use Rattle.std.specs.Str.{bytes_eq}
use Rattle.std.proofs.lemmas.Slice.Eq.{bytes_eq-Decides}
use Rattle.std.proofs.lemmas.Option.{same_Some}
use Rattle.lotos_base.proofs.Each.{Each, each_member}
use Rattle.lotos_base.specs.Names.{folded, AreOneName}
use Rattle.lotos_base.specs.Signature.{Signature, Operation, IsOperation}
use Rattle.lotos_base.specs.Term.{Term, variable, node, Terms, no_terms, term_then}
use Rattle.lotos_base.specs.Sorting.{HaveSorts, IsTermOf, IsGroundOf, OccursAmong}
use Rattle.lotos_base.specs.Substitution.{Substitution, IsGrounding}

-- no two members are alike
abbrev pub Apart : {X : Type 0} → (X → X → Type 0) → List X → Type 0
Apart Alike [] = Unit {0}
Apart Alike (x ∷ xs) = Each (λ y. (Alike x y → ⊥) × (Alike y x → ⊥)) xs × Apart Alike xs

-- so two that are alike stand at one position
pub one_position : {X : Type 0} (Alike : X → X → Type 0) (xs : List X) (i j : ℕ) (x y : X) → Apart Alike xs
    → slice_get xs i ≡ Some x → slice_get xs j ≡ Some y → Alike x y → i ≡ j
one_position Alike [] i j x y h e d a = cc
one_position Alike (z ∷ zs) zero zero x y h e d a = refl
one_position Alike (z ∷ zs) zero (suc j) x y h e d a =
    absurd ((each_member (λ w. (Alike z w → ⊥) × (Alike w z → ⊥)) zs j y h.0 d).0 (subst (λ w. Alike w y) (sym (same_Some z x e)) a))
one_position Alike (z ∷ zs) (suc i) zero x y h e d a =
    absurd ((each_member (λ w. (Alike z w → ⊥) × (Alike w z → ⊥)) zs i x h.0 e).1 (subst (λ w. Alike x w) (sym (same_Some z y d)) a))
one_position Alike (z ∷ zs) (suc i) (suc j) x y h e d a = ap (λ (k : ℕ). suc k) (one_position Alike zs i j x y h.1 e d a)

-- no term has an operation with arguments that do not fit its profile
pub unfit : (signature : Signature) (f : ℕ) (ts : Terms) (o : Operation) → IsOperation signature f o
    → (HaveSorts signature ts o.arguments → ⊥) → IsTermOf signature (node f ts) → ⊥
unfit signature f ts o is bad h =
    bad (subst (λ (p : Operation). HaveSorts signature ts p.arguments) (same_Some h.1.0 o (sym h.1.1 ∙ is)) h.1.3)

-- whether no two members have one name
abbrev pub are_named_apart : {X : Type 0} → (X → List ℕ) → List X → Bool
are_named_apart name [] = true
are_named_apart name (x ∷ xs) = not (list_any (λ y. bytes_eq (folded (name x)) (folded (name y))) xs) && are_named_apart name xs

-- a member that passes a test, where none does
passes_none : {X : Type 0} (test : X → Bool) (xs : List X) (i : ℕ) (x : X) → list_any test xs ≡ false
    → slice_get xs i ≡ Some x → test x ≡ true → ⊥
passes_none test [] i x none at passes = cc
passes_none test (y ∷ ys) zero x none at passes =
    let first : test y ≡ true = subst (λ z. test z ≡ true) (sym (same_Some y x at)) passes in
    let any : list_any test (y ∷ ys) ≡ true = rw first refl in
    cc
passes_none test (y ∷ ys) (suc i) x none at passes = passes_none test ys i x (later (test y) none) at passes
  where
    later : (b : Bool) → b || list_any test ys ≡ false → list_any test ys ≡ false
    later true h = cc
    later false h = h

-- the first member has a name of its own, and so have the others among themselves
first_apart : {X : Type 0} (name : X → List ℕ) (x : X) (xs : List X) → are_named_apart name (x ∷ xs) ≡ true
    → (list_any (λ y. bytes_eq (folded (name x)) (folded (name y))) xs ≡ false) × (are_named_apart name xs ≡ true)
first_apart name x xs h = parts (list_any (λ y. bytes_eq (folded (name x)) (folded (name y))) xs) (are_named_apart name xs) h
  where
    parts : (a b : Bool) → not a && b ≡ true → (a ≡ false) × (b ≡ true)
    parts true b h = cc
    parts false b h = (refl, h)

-- so two members of one name stand at one position
pub one_named : {X : Type 0} (name : X → List ℕ) (xs : List X) (i j : ℕ) (x y : X) → are_named_apart name xs ≡ true
    → slice_get xs i ≡ Some x → slice_get xs j ≡ Some y → AreOneName (name x) (name y) → i ≡ j
one_named name [] i j x y apart e d same = cc
one_named name (z ∷ zs) zero zero x y apart e d same = refl
one_named name (z ∷ zs) zero (suc j) x y apart e d same =
    absurd (passes_none (λ w. bytes_eq (folded (name z)) (folded (name w))) zs j y (first_apart name z zs apart).0 d
    ((bytes_eq-Decides (folded (name z)) (folded (name y))).1 (subst (λ w. AreOneName (name w) (name y)) (sym (same_Some z x e)) same)))
one_named name (z ∷ zs) (suc i) zero x y apart e d same =
    absurd (passes_none (λ w. bytes_eq (folded (name z)) (folded (name w))) zs i x (first_apart name z zs apart).0 e
    ((bytes_eq-Decides (folded (name z)) (folded (name x))).1
    (sym (subst (λ w. AreOneName (name x) (name w)) (sym (same_Some z y d)) same))))
one_named name (z ∷ zs) (suc i) (suc j) x y apart e d same =
    ap (λ (k : ℕ). suc k) (one_named name zs i j x y (first_apart name z zs apart).1 e d same)

abbrev mutual
  -- the values of the variables that occur are ground terms of their sorts, one by one
  pub Grounds : Signature → Substitution → Term → Type 0
  Grounds signature values (variable n s) = IsGroundOf signature s (values n s)
  Grounds signature values (node f ts) = AllGround signature values ts

  pub AllGround : Signature → Substitution → Terms → Type 0
  AllGround signature values no_terms = Unit {0}
  AllGround signature values (term_then t ts) = Grounds signature values t × AllGround signature values ts

mutual
  pub grounding : (signature : Signature) (values : Substitution) (t : Term) → Grounds signature values t
      → IsGrounding signature t values
  grounding signature values (variable m r) h n s o =
      subst (λ (k : ℕ). IsGroundOf signature s (values k s)) o.0 (subst (λ (q : ℕ). IsGroundOf signature q (values m q)) o.1 h)
  grounding signature values (node f ts) h n s o = groundings signature values ts h n s o

  pub groundings : (signature : Signature) (values : Substitution) (ts : Terms)
      → AllGround signature values ts → (n s : ℕ) → OccursAmong n s ts → IsGroundOf signature s (values n s)
  groundings signature values no_terms h n s o = absurd o
  groundings signature values (term_then t ts) h n s (inl o) = grounding signature values t h.0 n s o
  groundings signature values (term_then t ts) h n s (inr o) = groundings signature values ts h.1 n s o
