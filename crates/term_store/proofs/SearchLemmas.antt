-- A pattern is matched by numbers as it is matched with terms.
use Rattle.std.proofs.Common.{arith, refl, ap, sym, ◌∙◌, ◌≡◌, ◌<◌, ◌≤◌, subst, ℕ, zero, suc, List, [], ◌∷◌, ◌++◌, length, get_or, Option, None, Some, Bool, true, false, nat_eq}
use Rattle.std.specs.Prelude.{if◌then◌else◌}
use Rattle.std.specs.Option.{option_map, option_and_then}
use Rattle.std.proofs.lemmas.List.{map-append}
use Rattle.std.proofs.lemmas.Bool.Decides.{Decides-eqb}
use Rattle.std.proofs.lemmas.Option.{same_Some}
use Rattle.lotos_base.specs.Signature.{Signature, Operation}
use Rattle.lotos_base.specs.Tests.{term_eq}
use Rattle.lotos_base.proofs.TestLemmas.{Decides-term_eq}
use Rattle.sort_terms.specs.ProfiledTerm.{ProfiledTerm, ProfiledTerms, profiled_variable, profiled_node, no_profiled_terms, profiled_term_then, bare}
use Rattle.sort_terms.specs.TermView.{profiled_of, all_profiled}
use Rattle.sort_terms.specs.declared.terms.Term.{Term as CodeTerm}
use Rattle.term_match.specs.Search.{looked_up, bound, searched, all_searched}
use Rattle.term_store.specs.Cells.{members, key_term, key_terms, AreBelow, IsCell, AreCells, IsOnceEach, operation_in}
use Rattle.term_store.specs.Numbered.{term_at, numbered_pair, numbered_pairs, numbers_in}
use Rattle.term_store.specs.NumberSearch.{number_under, number_bound, arguments_under, number_searched, all_number_searched}
use Rattle.term_store.proofs.CellLemmas.{first_term_of_key, first_cell_at, one_number}

-- ---- What pairs have

pub pairs_under : (signature : Signature) (keys : List (List ℕ)) (n : ℕ) (pairs : List (ℕ × ℕ))
    → option_map (term_at signature keys) (number_under n pairs) ≡ looked_up n (numbered_pairs signature keys pairs)
pairs_under signature keys n [] = refl
pairs_under signature keys n (pair ∷ pairs) = go (nat_eq pair.0 n) (pairs_under signature keys n pairs)
  where
    go : (b : Bool) → option_map (term_at signature keys) (number_under n pairs) ≡ looked_up n (numbered_pairs signature keys pairs)
        → option_map (term_at signature keys) (if b then Some pair.1 else number_under n pairs)
        ≡ (if b then Some (term_at signature keys pair.1) else looked_up n (numbered_pairs signature keys pairs))
    go true later = refl
    go false later = later

-- what a pair has is below the bound
pub record IsBelow (bound : ℕ) (found : Option ℕ) : Type 0 where
  pub below : (k : ℕ) → found ≡ Some k → k < bound

pub under_below : (limit n : ℕ) (pairs : List (ℕ × ℕ)) → AreBelow limit (numbers_in pairs) → IsBelow limit (number_under n pairs)
under_below limit n [] below = record { below = λ k is. cc }
under_below limit n (pair ∷ pairs) below = go (nat_eq pair.0 n) (under_below limit n pairs below.1)
  where
    go : (b : Bool) → IsBelow limit (number_under n pairs) → IsBelow limit (if b then Some pair.1 else number_under n pairs)
    go true later = record { below = λ k is. subst (λ (m : ℕ). m < limit) (same_Some pair.1 k is) below.0 }
    go false later = later

pub below_append : (bound : ℕ) (ns : List ℕ) (n : ℕ) → AreBelow bound ns → n < bound → AreBelow bound (ns ++ n ∷ [])
below_append bound [] n below last = (last, tt)
below_append bound (m ∷ ns) n below last = (below.0, below_append bound ns n below.1 last)

pub below_more : (bound more : ℕ) (ns : List ℕ) → bound ≤ more → AreBelow bound ns → AreBelow more ns
below_more bound more [] long below = tt
below_more bound more (n ∷ ns) long below = ((let low = below.0 in omega (arith, low, long)), below_more bound more ns long below.1)

-- ---- The search

-- terms that are kept are one exactly where their numbers are
pub same_terms : (signature : Signature) (keys : List (List ℕ)) (k m : ℕ) → AreCells 0 keys → IsOnceEach keys → k < length keys
    → m < length keys → term_eq (bare (term_at signature keys k)) (bare (term_at signature keys m)) ≡ nat_eq k m
same_terms signature keys k m cells once low under =
    go (nat_eq k m) (term_eq (bare (term_at signature keys k)) (bare (term_at signature keys m))) refl refl
  where
    go : (b c : Bool) → nat_eq k m ≡ b → term_eq (bare (term_at signature keys k)) (bare (term_at signature keys m)) ≡ c → c ≡ b
    go true true is same = refl
    go false false is same = refl
    go true false is same =
        let one : k ≡ m = (Decides-eqb k m).0 is in
        let wrong : true ≡ false =
        sym ((Decides-term_eq (bare (term_at signature keys k)) (bare (term_at signature keys m))).1
        (ap (λ (n : ℕ). bare (term_at signature keys n)) one)) ∙ same in
        cc
    go false true is same =
        let one = one_number signature keys cells once k m low under
        ((Decides-term_eq (bare (term_at signature keys k)) (bare (term_at signature keys m))).0 same) in
        let wrong : true ≡ false = sym ((Decides-eqb k m).1 one) ∙ is in
        cc

-- What is found by numbers is what is found with the terms, and all numbers are those of terms.
pub record IsSearched (signature : Signature) (keys : List (List ℕ)) (found : Option (List (ℕ × ℕ)))
    (terms : Option (List (ℕ × ProfiledTerm))) : Type 0 where
  pub same : option_map (numbered_pairs signature keys) found ≡ terms
  pub within : (pairs : List (ℕ × ℕ)) → found ≡ Some pairs → AreBelow (length keys) (numbers_in pairs)

none_searched : (signature : Signature) (keys : List (List ℕ)) → IsSearched signature keys None None
none_searched signature keys = record { same = refl; within = λ pairs is. cc }

bound_searched : (signature : Signature) (keys : List (List ℕ)) (n m : ℕ) (found : List (ℕ × ℕ)) (o : Option ℕ) → AreCells 0 keys
    → IsOnceEach keys → m < length keys → AreBelow (length keys) (numbers_in found) → IsBelow (length keys) o
    → IsSearched signature keys (number_bound n m found o)
    (bound n (term_at signature keys m) (numbered_pairs signature keys found) (option_map (term_at signature keys) o))
bound_searched signature keys n m found None cells once under below inside = record {
  same = ap (λ (pairs : List (ℕ × ProfiledTerm)). Some pairs) (map-append (numbered_pair signature keys) found ((n, m) ∷ []));
  within = λ pairs is.
      let whole : found ++ (n, m) ∷ [] ≡ pairs = same_Some (found ++ (n, m) ∷ []) pairs is in
      subst (λ (ps : List (ℕ × ℕ)). AreBelow (length keys) (numbers_in ps)) whole
      (subst (λ (ns : List ℕ). AreBelow (length keys) ns) (sym (map-append (λ (pair : ℕ × ℕ). pair.1) found ((n, m) ∷ [])))
      (below_append (length keys) (numbers_in found) m below under));
}
bound_searched signature keys n m found (Some k) cells once under below inside =
    subst (λ (b : Bool). IsSearched signature keys (if nat_eq k m then Some found else None)
    (if b then Some (numbered_pairs signature keys found) else None))
    (sym (same_terms signature keys k m cells once (inside.below k refl) under)) (go (nat_eq k m))
  where
    go : (b : Bool) → IsSearched signature keys (if b then Some found else None)
        (if b then Some (numbered_pairs signature keys found) else None)
    go true = record {
      same = refl;
      within = λ pairs is. subst (λ (ps : List (ℕ × ℕ)). AreBelow (length keys) (numbers_in ps)) (same_Some found pairs is) below;
    }
    go false = none_searched signature keys

eq_both : (n m : ℕ) → nat_eq n m ≡ nat_eq m n
eq_both n m = go (nat_eq n m) (nat_eq m n) refl refl
  where
    go : (b c : Bool) → nat_eq n m ≡ b → nat_eq m n ≡ c → b ≡ c
    go true true one other = refl
    go false false one other = refl
    go true false one other = let wrong : true ≡ false = sym ((Decides-eqb m n).1 (sym ((Decides-eqb n m).0 one))) ∙ other in cc
    go false true one other = let wrong : true ≡ false = sym ((Decides-eqb n m).1 (sym ((Decides-eqb m n).0 other))) ∙ one in cc

key_search_is : (signature : Signature) (keys : List (List ℕ)) (f : ℕ) (operation : Operation) (ls : ProfiledTerms) (key : List ℕ)
    (m : ℕ) (found : List (ℕ × ℕ)) → m ≤ length keys → IsCell m key
    → ((ns : List ℕ) → AreBelow (length keys) ns → IsSearched signature keys (all_number_searched keys ls ns found)
    (all_searched ls (members (key_terms signature keys) ns) (numbered_pairs signature keys found)))
    → IsSearched signature keys
    (option_and_then (λ ns. all_number_searched keys ls ns found) (arguments_under f (operation_in key)))
    (searched (profiled_node f operation ls) (key_term signature (key_terms signature keys) key) (numbered_pairs signature keys found))
key_search_is signature keys f operation ls [] m found under cell inner = absurd cell
key_search_is signature keys f operation ls (zero ∷ ns) m found under cell inner = none_searched signature keys
key_search_is signature keys f operation ls (suc q ∷ []) m found under cell inner = absurd cell
key_search_is signature keys f operation ls (suc q ∷ g ∷ ns) m found under cell inner =
    both (nat_eq g f) (nat_eq f g) (eq_both g f) (inner ns (below_more m (length keys) ns under cell.1))
  where
    both : (b c : Bool) → b ≡ c
        → IsSearched signature keys (all_number_searched keys ls ns found)
        (all_searched ls (members (key_terms signature keys) ns) (numbered_pairs signature keys found))
        → IsSearched signature keys
        (option_and_then (λ ns. all_number_searched keys ls ns found) (if b then Some ns else None))
        (if c then all_searched ls (members (key_terms signature keys) ns) (numbered_pairs signature keys found) else None)
    both true true same inner = inner
    both false false same inner = none_searched signature keys
    both true false same inner = cc
    both false true same inner = cc

mutual
  pub search_is : (signature : Signature) (keys : List (List ℕ)) (l : ProfiledTerm) (m : ℕ) (found : List (ℕ × ℕ)) → AreCells 0 keys
      → IsOnceEach keys → m < length keys → AreBelow (length keys) (numbers_in found)
      → IsSearched signature keys (number_searched keys l m found)
      (searched l (term_at signature keys m) (numbered_pairs signature keys found))
  search_is signature keys (profiled_variable n s) m found cells once under below =
      subst (λ (o : Option ProfiledTerm). IsSearched signature keys (number_bound n m found (number_under n found))
      (bound n (term_at signature keys m) (numbered_pairs signature keys found) o))
      (pairs_under signature keys n found)
      (bound_searched signature keys n m found (number_under n found) cells once under below (under_below (length keys) n found below))
  search_is signature keys (profiled_node f operation ls) m found cells once under below =
      subst (λ (t : ProfiledTerm). IsSearched signature keys
      (option_and_then (λ ns. all_number_searched keys ls ns found) (arguments_under f (operation_in (get_or keys m []))))
      (searched (profiled_node f operation ls) t (numbered_pairs signature keys found)))
      (sym (first_term_of_key signature keys m cells under))
      (key_search_is signature keys f operation ls (get_or keys m []) m found (omega (arith, under)) (first_cell_at keys m cells under)
      (λ ns inside. all_search_is signature keys ls ns found cells once inside below))

  all_search_is : (signature : Signature) (keys : List (List ℕ)) (ls : ProfiledTerms) (ns : List ℕ) (found : List (ℕ × ℕ))
      → AreCells 0 keys → IsOnceEach keys → AreBelow (length keys) ns → AreBelow (length keys) (numbers_in found)
      → IsSearched signature keys (all_number_searched keys ls ns found)
      (all_searched ls (members (key_terms signature keys) ns) (numbered_pairs signature keys found))
  all_search_is signature keys no_profiled_terms [] found cells once under below = record {
    same = refl;
    within = λ pairs is. subst (λ (ps : List (ℕ × ℕ)). AreBelow (length keys) (numbers_in ps)) (same_Some found pairs is) below;
  }
  all_search_is signature keys no_profiled_terms (n ∷ ns) found cells once under below = none_searched signature keys
  all_search_is signature keys (profiled_term_then l ls) [] found cells once under below = none_searched signature keys
  all_search_is signature keys (profiled_term_then l ls) (n ∷ ns) found cells once under below =
      go (λ more within. all_search_is signature keys ls ns more cells once under.1 within) (number_searched keys l n found)
      (search_is signature keys l n found cells once under.0 below)
    where
      go : ((more : List (ℕ × ℕ)) → AreBelow (length keys) (numbers_in more)
          → IsSearched signature keys (all_number_searched keys ls ns more)
          (all_searched ls (members (key_terms signature keys) ns) (numbered_pairs signature keys more)))
          → (o : Option (List (ℕ × ℕ)))
          → IsSearched signature keys o (searched l (term_at signature keys n) (numbered_pairs signature keys found))
          → IsSearched signature keys (option_and_then (all_number_searched keys ls ns) o)
          (option_and_then (all_searched ls (members (key_terms signature keys) ns))
          (searched l (term_at signature keys n) (numbered_pairs signature keys found)))
      go later None inner =
          subst (λ (o : Option (List (ℕ × ProfiledTerm))). IsSearched signature keys None
          (option_and_then (all_searched ls (members (key_terms signature keys) ns)) o)) inner.same (none_searched signature keys)
      go later (Some more) inner =
          subst (λ (o : Option (List (ℕ × ProfiledTerm))). IsSearched signature keys (all_number_searched keys ls ns more)
          (option_and_then (all_searched ls (members (key_terms signature keys) ns)) o)) inner.same
          (later more (inner.within more refl))

-- ---- What the code asks

pub members_below : (keys : List (List ℕ)) (n f : ℕ) (ns : List ℕ) → AreCells 0 keys → n < length keys
    → Some (f, ns) ≡ operation_in (get_or keys n []) → AreBelow (length keys) ns
members_below keys n f ns cells inside is = go (get_or keys n []) (first_cell_at keys n cells inside) (sym is)
  where
    go : (key : List ℕ) → IsCell n key → operation_in key ≡ Some (f, ns) → AreBelow (length keys) ns
    go [] cell same = cc
    go (zero ∷ ms) cell same = cc
    go (suc m ∷ []) cell same = cc
    go (suc m ∷ g ∷ ms) cell same =
        let low : n ≤ length keys = omega (arith, inside) in
        let pair : (g, ms) ≡ (f, ns) = same_Some (g, ms) (f, ns) same in
        subst (λ (qs : List ℕ). AreBelow (length keys) qs) (ap (λ (p : ℕ × List ℕ). p.1) pair)
        (below_more n (length keys) ms low cell.1)

pub member_below : (bound : ℕ) (ns : List ℕ) (i d : ℕ) → AreBelow bound ns → i < length ns → get_or ns i d < bound
member_below bound [] i d below inside = absurd (omega (arith, inside))
member_below bound (n ∷ ns) zero d below inside = below.0
member_below bound (n ∷ ns) (suc i) d below inside = member_below bound ns i d below.1 (omega (arith, inside))

-- as many patterns as numbers are wanted
pub none_and_then : {X Y : Type 0} (f : X → Option Y) (o : Option X) → ((x : X) → None ≡ f x) → None ≡ option_and_then f o
none_and_then f None none = refl
none_and_then f (Some x) none = none x

pub counts_differ : (keys : List (List ℕ)) (patterns : List CodeTerm) (ns : List ℕ) (found : List (ℕ × ℕ))
    → ¬ (length patterns ≡ length ns) → None ≡ all_number_searched keys (all_profiled patterns) ns found
counts_differ keys [] [] found differ = absurd (differ refl)
counts_differ keys [] (n ∷ ns) found differ = refl
counts_differ keys (l ∷ ls) [] found differ = refl
counts_differ keys (l ∷ ls) (n ∷ ns) found differ =
    none_and_then (all_number_searched keys (all_profiled ls) ns) (number_searched keys (profiled_of l) n found)
    (λ more. counts_differ keys ls ns more (λ same. differ (ap suc same)))
