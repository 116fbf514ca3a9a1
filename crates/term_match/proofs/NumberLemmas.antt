-- New numbers by a list of pairs: what is found, and what tells variables apart.
use Rattle.std.proofs.Common.{◌≡◌, ◌≤◌, ◌<◌, ◌+◌, ℕ, zero, suc, List, [], ◌∷◌, ◌++◌, length, get_or, drop, Bool, true, false, nat_eq, refl, ap, sym, ◌∙◌, subst, inl, inr, arith, drop-cons, add-one, append-nil, append_assoc}
use Rattle.std.specs.Prelude.{if◌then◌else◌, Some, slice_get}
use Rattle.std.proofs.lemmas.Option.{same_Some}
use Rattle.std.proofs.lemmas.Bool.Decides.{Decides-eqb}
use Rattle.lotos_base.specs.Term.{Term, variable, node, Terms, no_terms, term_then}
use Rattle.lotos_base.specs.Sorting.{Occurs, OccursAmong}
use Rattle.lotos_base.specs.Substitution.{substituted, renaming, is_listed}
use Rattle.rewriting_theory.specs.Numbering.{variable_numbers, all_variable_numbers}
use Rattle.rewriting_theory.proofs.PlaceListLemmas.{IsIn, in_left, in_right}
use Rattle.sort_terms.specs.ProfiledTerm.{ProfiledTerm, bare, FitsProfiles}
use Rattle.sort_terms.specs.TermView.{bare_terms_of, term_of}
use Rattle.sort_terms.specs.declared.terms.Term.{Term as CodeTerm}
use Rattle.term_match.specs.Numbers.{AreDistinctNumbers}
use Rattle.term_match.specs.ProfiledInstance.{profiled_instance}
use Rattle.term_match.proofs.InstanceLemmas.{instance_bare, instance_fits}
use Rattle.term_match.specs.Appearance.{noted, appearances}
use Rattle.term_match.specs.Renumbering.{new_number, profiled_renaming, old_numbers, new_numbers}
use Rattle.term_match.specs.NewNumbers.{KeepsClear, AreFresh}

-- ---- Members

pub listed_in : (n : ℕ) (ns : List ℕ) → is_listed ns n ≡ true → IsIn n ns
listed_in n [] e = cc
listed_in n (m ∷ ns) e = go (nat_eq m n) refl e (listed_in n ns)
  where
    go : (b : Bool) → nat_eq m n ≡ b → (if b then true else is_listed ns n) ≡ true → (is_listed ns n ≡ true → IsIn n ns)
        → IsIn n (m ∷ ns)
    go true test h rest = inl ((Decides-eqb m n).0 test)
    go false test h rest = inr (rest h)

pub in_listed : (n : ℕ) (ns : List ℕ) → IsIn n ns → is_listed ns n ≡ true
in_listed n [] is = absurd is
in_listed n (m ∷ ns) is = go (nat_eq m n) refl is (in_listed n ns)
  where
    go : (b : Bool) → nat_eq m n ≡ b → IsIn n (m ∷ ns) → (IsIn n ns → is_listed ns n ≡ true) → (if b then true else is_listed ns n) ≡ true
    go true test h rest = refl
    go false test (inl same) rest =
        let yes : nat_eq m n ≡ true = (Decides-eqb m n).1 same in let clash : true ≡ false = sym yes ∙ test in cc
    go false test (inr at) rest = rest at

-- ---- Numbers noted

pub noted-append : (seen xs ys : List ℕ) → noted seen (xs ++ ys) ≡ noted (noted seen xs) ys
noted-append seen [] ys = refl
noted-append seen (n ∷ xs) ys = noted-append (if is_listed seen n then seen else seen ++ n ∷ []) xs ys

-- what was noted stays, with more after it
pub noted_extends : (seen ns : List ℕ) → (more : List ℕ) × (noted seen ns ≡ seen ++ more)
noted_extends seen [] = ([], sym (append-nil seen))
noted_extends seen (n ∷ ns) = go (is_listed seen n) (noted_extends seen ns) (noted_extends (seen ++ n ∷ []) ns)
  where
    go : (b : Bool) → ((more : List ℕ) × (noted seen ns ≡ seen ++ more))
        → ((more : List ℕ) × (noted (seen ++ n ∷ []) ns ≡ (seen ++ n ∷ []) ++ more))
        → (more : List ℕ) × (noted (if b then seen else seen ++ n ∷ []) ns ≡ seen ++ more)
    go true old new = old
    go false old new = (n ∷ new.0, new.1 ∙ append_assoc seen (n ∷ []) new.0)

in_seen : (n : ℕ) (seen ns : List ℕ) → IsIn n seen → IsIn n (noted seen ns)
in_seen n seen ns is =
    let more = noted_extends seen ns in
    subst (λ (ms : List ℕ). IsIn n ms) (sym more.1) (in_left n seen more.0 is)

pub in_noted : (n : ℕ) (seen ns : List ℕ) → IsIn n ns → IsIn n (noted seen ns)
in_noted n seen [] is = absurd is
in_noted n seen (m ∷ ns) (inl same) =
    in_seen n (if is_listed seen m then seen else seen ++ m ∷ []) ns (go (is_listed seen m) refl)
  where
    go : (b : Bool) → is_listed seen m ≡ b → IsIn n (if b then seen else seen ++ m ∷ [])
    go true test = subst (λ (k : ℕ). IsIn k seen) same (listed_in m seen test)
    go false test = in_right n seen (m ∷ []) (inl same)
in_noted n seen (m ∷ ns) (inr at) = in_noted n (if is_listed seen m then seen else seen ++ m ∷ []) ns at

-- the number of a variable that occurs stands among those of the term
mutual
  pub occurs_in : (n s : ℕ) (t : Term) → Occurs n s t → IsIn n (variable_numbers t)
  occurs_in n s (variable m r) o = inl o.0
  occurs_in n s (node f ts) o = occurs_among_in n s ts o

  pub occurs_among_in : (n s : ℕ) (ts : Terms) → OccursAmong n s ts → IsIn n (all_variable_numbers ts)
  occurs_among_in n s no_terms o = absurd o
  occurs_among_in n s (term_then t ts) (inl o) = in_left n (variable_numbers t) (all_variable_numbers ts) (occurs_in n s t o)
  occurs_among_in n s (term_then t ts) (inr o) = in_right n (variable_numbers t) (all_variable_numbers ts) (occurs_among_in n s ts o)

pub appears : (n s : ℕ) (t : Term) → Occurs n s t → IsIn n (appearances t)
appears n s t o = in_noted n [] (variable_numbers t) (occurs_in n s t o)

-- one more term of a list of the code
pub note_more : (xs : List CodeTerm) (i : ℕ) (x : CodeTerm) (whole seen more : List ℕ) → i < length xs → x ≡ get_or xs i x
    → whole ≡ noted seen (all_variable_numbers (bare_terms_of (drop i xs))) → more ≡ noted seen (variable_numbers (term_of x))
    → whole ≡ noted more (all_variable_numbers (bare_terms_of (drop (i + 1) xs)))
note_more xs i x whole seen more h e so_far is =
    so_far
    ∙ ap (λ (ys : List CodeTerm). noted seen (all_variable_numbers (bare_terms_of ys))) (drop-cons xs i x h)
    ∙ ap (λ (y : CodeTerm). noted seen (all_variable_numbers (bare_terms_of (y ∷ drop (suc i) xs)))) (sym e)
    ∙ noted-append seen (variable_numbers (term_of x)) (all_variable_numbers (bare_terms_of (drop (suc i) xs)))
    ∙ (λ j. noted (sym is j) (all_variable_numbers (bare_terms_of (drop (suc i) xs))))
    ∙ ap (λ (k : ℕ). noted more (all_variable_numbers (bare_terms_of (drop k xs)))) (sym (add-one i))

-- ---- What a pair gives

-- A pair with the number stands in the list, and its new number is the one that the variable gets.
pub record IsGiven (pairs : List (ℕ × ℕ)) (n s : ℕ) : Type 0 where
  pub place : ℕ
  pub pair_at : slice_get pairs place ≡ Some (n, new_number pairs n s)

pub given : (pairs : List (ℕ × ℕ)) (n s : ℕ) → IsIn n (old_numbers pairs) → IsGiven pairs n s
given [] n s is = absurd is
given (pair ∷ pairs) n s is = go (nat_eq pair.0 n) refl is (given pairs n s)
  where
    at_first : pair.0 ≡ n → (b : Bool) → b ≡ true
        → slice_get (pair ∷ pairs) 0 ≡ Some (n, (if b then pair.1 else new_number pairs n s))
    at_first same true test = λ i. Some (same i, pair.1)
    at_first same false test = cc

    later : (rest : IsGiven pairs n s) (b : Bool) → b ≡ false
        → slice_get (pair ∷ pairs) (suc rest.place) ≡ Some (n, (if b then pair.1 else new_number pairs n s))
    later rest true test = cc
    later rest false test = rest.pair_at

    go : (b : Bool) → nat_eq pair.0 n ≡ b → IsIn n (old_numbers (pair ∷ pairs)) → (IsIn n (old_numbers pairs) → IsGiven pairs n s)
        → IsGiven (pair ∷ pairs) n s
    go true test at more = record { place = 0; pair_at = at_first ((Decides-eqb pair.0 n).0 test) (nat_eq pair.0 n) test }
    go false test (inl same) more =
        let yes : nat_eq pair.0 n ≡ true = (Decides-eqb pair.0 n).1 same in let clash : true ≡ false = sym yes ∙ test in cc
    go false test (inr at) more =
        let rest = more at in
        record { place = suc rest.place; pair_at = later rest (nat_eq pair.0 n) test }

pub new_at : (pairs : List (ℕ × ℕ)) (i n k : ℕ) → slice_get pairs i ≡ Some (n, k) → slice_get (new_numbers pairs) i ≡ Some k
new_at [] i n k e = cc
new_at (pair ∷ pairs) zero n k e = ap (λ (m : ℕ). Some m) (ap (λ (p : ℕ × ℕ). p.1) (same_Some pair (n, k) e))
new_at (pair ∷ pairs) (suc i) n k e = new_at pairs i n k e

-- different new numbers tell the variables apart that have a pair
pub distinct_tells : (pairs : List (ℕ × ℕ)) → AreDistinctNumbers (new_numbers pairs) → (n r m s : ℕ) → IsIn n (old_numbers pairs)
    → IsIn m (old_numbers pairs) → new_number pairs n r ≡ new_number pairs m s → n ≡ m
distinct_tells pairs distinct n r m s one two same =
    let first = given pairs n r one in
    let second = given pairs m s two in
    let places : first.place ≡ second.place =
    distinct first.place second.place (new_number pairs m s)
    (new_at pairs first.place n (new_number pairs n r) first.pair_at ∙ ap (λ (k : ℕ). Some k) same)
    (new_at pairs second.place m (new_number pairs m s) second.pair_at) in
    ap (λ (p : ℕ × ℕ). p.0) (same_Some (n, new_number pairs n r) (m, new_number pairs m s)
    (sym first.pair_at ∙ ap (slice_get pairs) places ∙ second.pair_at))

-- fresh numbers for all variables of a term keep clear of those of another one
pub fresh_clear : (first second : Term) (pairs : List (ℕ × ℕ)) → AreFresh (appearances first) (appearances second) pairs
    → KeepsClear (new_number pairs) first second
fresh_clear first second pairs fresh = record {
  tells_apart = λ n r m s o p e.
      distinct_tells pairs fresh.distinct n r m s (own n r o) (own m s p) e;
  clear = λ n r q o p.
      let is = given pairs n r (own n r o) in
      let no : is_listed (appearances first) (new_number pairs n r) ≡ false =
      fresh.free is.place (new_number pairs n r) (new_at pairs is.place n (new_number pairs n r) is.pair_at) in
      let yes : is_listed (appearances first) (new_number pairs n r) ≡ true =
      in_listed (new_number pairs n r) (appearances first) (appears (new_number pairs n r) q first p) in
      let clash : true ≡ false = sym yes ∙ no in
      cc;
}
  where
    own : (n r : ℕ) → Occurs n r second → IsIn n (old_numbers pairs)
    own n r o = subst (λ (ns : List ℕ). IsIn n ns) (sym fresh.olds_are) (appears n r second o)

-- ---- Lists with one more

-- each member has the property
abbrev pub EachMember : (ℕ → Type 0) → List ℕ → Type 0
EachMember P ns = (i n : ℕ) → slice_get ns i ≡ Some n → P n

pub each_more : (P : ℕ → Type 0) (n : ℕ) (ns : List ℕ) → EachMember P ns → P n → EachMember P (ns ++ n ∷ [])
each_more P n [] each p zero m e = subst P (same_Some n m e) p
each_more P n [] each p (suc i) m e = cc
each_more P n (k ∷ ns) each p zero m e = each zero m e
each_more P n (k ∷ ns) each p (suc i) m e = each_more P n ns (λ j q f. each (suc j) q f) p i m e

pub new_numbers-append : (pairs : List (ℕ × ℕ)) (n k : ℕ) → new_numbers (pairs ++ (n, k) ∷ []) ≡ new_numbers pairs ++ k ∷ []
new_numbers-append [] n k = refl
new_numbers-append (pair ∷ pairs) n k = ap (λ ns. pair.1 ∷ ns) (new_numbers-append pairs n k)

pub old_numbers-append : (pairs : List (ℕ × ℕ)) (n k : ℕ) → old_numbers (pairs ++ (n, k) ∷ []) ≡ old_numbers pairs ++ n ∷ []
old_numbers-append [] n k = refl
old_numbers-append (pair ∷ pairs) n k = ap (λ ns. pair.0 ∷ ns) (old_numbers-append pairs n k)

-- ---- Renumbered terms

pub renumbered_plain : (number : ℕ → ℕ → ℕ) (t : ProfiledTerm)
    → bare (profiled_instance (profiled_renaming number) t) ≡ substituted (renaming number) (bare t)
renumbered_plain number t = instance_bare (profiled_renaming number) t

pub renumbered_fits : (number : ℕ → ℕ → ℕ) (t : ProfiledTerm) → FitsProfiles t
    → FitsProfiles (profiled_instance (profiled_renaming number) t)
renumbered_fits number t fits = instance_fits (profiled_renaming number) t fits (λ n s o. (tt, refl))

-- ---- Fresh numbers, one more

-- a fresh number was not given before, since all before are smaller
pub fresh_absent : (new next : ℕ) (ns : List ℕ) → EachMember (λ n. n < next) ns → next ≤ new
    → (i : ℕ) → slice_get ns i ≡ Some new → ⊥
fresh_absent new next ns below from i e = let less : new < next = below i new e in omega (arith, less, from)

-- one more old number has its new one
pub olds_more : (made new : List (ℕ × ℕ)) (olds : List ℕ) (i k : ℕ) → i < length olds → new ≡ made ++ (get_or olds i 0, k) ∷ []
    → old_numbers made ++ drop i olds ≡ olds → old_numbers new ++ drop (i + 1) olds ≡ olds
olds_more made new olds i k h is so_far =
    ap (λ (ps : List (ℕ × ℕ)). old_numbers ps ++ drop (i + 1) olds) is
    ∙ ap (λ (ns : List ℕ). ns ++ drop (i + 1) olds) (old_numbers-append made (get_or olds i 0) k)
    ∙ append_assoc (old_numbers made) (get_or olds i 0 ∷ []) (drop (i + 1) olds)
    ∙ ap (λ (j : ℕ). old_numbers made ++ (get_or olds i 0 ∷ drop j olds)) (add-one i)
    ∙ ap (λ (ns : List ℕ). old_numbers made ++ ns) (sym (drop-cons olds i 0 h))
    ∙ so_far

-- and so have the new numbers
pub news_more : (made new : List (ℕ × ℕ)) (old k : ℕ) → new ≡ made ++ (old, k) ∷ [] → new_numbers new ≡ new_numbers made ++ k ∷ []
news_more made new old k is = ap new_numbers is ∙ new_numbers-append made old k

pub below_next : (new next after : ℕ) (ns more : List ℕ) → more ≡ ns ++ new ∷ [] → EachMember (λ n. n < next) ns → next ≤ new
    → after ≡ new + 1 → EachMember (λ n. n < after) more
below_next new next after ns more is below from e =
    subst (λ (ms : List ℕ). EachMember (λ n. n < after) ms) (sym is)
    (each_more (λ n. n < after) new ns
    (λ i n at. let less : n < next = below i n at in omega (arith, less, from, e)) (omega (arith, e)))
