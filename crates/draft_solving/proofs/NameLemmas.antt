-- Names of numbers: each its own, and a replacement of a variable by a variable turned round.
use Rattle.std.proofs.Common.{◌≡◌, ℕ, zero, suc, List, [], ◌∷◌, ◌++◌, length, slice_get, slice_set, refl, ap, sym, ◌∙◌, subst, Global}
use Rattle.std.specs.Prelude.{unwrap_or}
use Rattle.std.specs.declared.rc.Rc.{Rc}
use Rattle.lotos_base.specs.Term.{Term, variable}
use Rattle.sort_terms.specs.ProfiledTerm.{ProfiledTerms, all_bare}
use Rattle.sort_terms.specs.SortedView.{term_in}
use Rattle.sort_terms.specs.TermView.{term_of}
use Rattle.sort_terms.specs.declared.operations.Op.{Op}
use Rattle.sort_terms.specs.declared.sorted.Sorted.{Sorted}
use Rattle.sort_terms.specs.declared.terms.Term.TheVariants.{Var, Node}
use Rattle.draft_solving.specs.Changing.{found_of}
use Rattle.draft_solving.specs.Naming.{name_for, smaller, TurnsRound, operation_put, first_replaced, second_replaced}

-- The numbers below the count, each named by itself.
pub record AreOwnUpTo (count : ℕ) (names : List ℕ) : Type 0 where
  pub size : length names ≡ count
  pub own : (n : ℕ) → name_for names n ≡ n

-- ---- A replacement turned round.
pub turned_second : (names now : List ℕ) (a b s : ℕ) (name x y : ℕ) (t : Sorted) → x ≡ name_for names a → y ≡ name_for names b
    → name ≡ smaller x y → now ≡ slice_set names a name → t.term ≡ Var a s → TurnsRound names (a, variable b s) now (found_of (b, t))
turned_second names now a b s name x y t first second least set is =
    let named : now ≡ slice_set names a (smaller (name_for names a) (name_for names b)) =
    set ∙ ap (λ (n : ℕ). slice_set names a n) (least ∙ (λ j. smaller (first j) (second j))) in
    subst (λ (ns : List ℕ). TurnsRound names (a, variable b s) ns (b, term_in t)) (sym named)
    (subst (λ (u : Term). TurnsRound names (a, variable b s) (slice_set names a (smaller (name_for names a) (name_for names b))) (b, u))
    (sym (ap term_of is)) (second_replaced a b s))

pub turned_first : (names now : List ℕ) (a b s : ℕ) (name x y : ℕ) (t : Sorted) → x ≡ name_for names a → y ≡ name_for names b
    → name ≡ smaller x y → now ≡ slice_set names b name → t.term ≡ Var b s → TurnsRound names (a, variable b s) now (found_of (a, t))
turned_first names now a b s name x y t first second least set is =
    let named : now ≡ slice_set names b (smaller (name_for names a) (name_for names b)) =
    set ∙ ap (λ (n : ℕ). slice_set names b n) (least ∙ (λ j. smaller (first j) (second j))) in
    subst (λ (ns : List ℕ). TurnsRound names (a, variable b s) ns (a, term_in t)) (sym named)
    (subst (λ (u : Term). TurnsRound names (a, variable b s) (slice_set names b (smaller (name_for names a) (name_for names b))) (a, u))
    (sym (ap term_of is)) (first_replaced a b s))

pub operation_stays : (names : List ℕ) (found : ℕ × Sorted) (op : ℕ) (profile : Rc Op Global) (arguments : ProfiledTerms)
    → found.1.term ≡ Node op profile arguments → TurnsRound names (found_of found) names (found_of found)
operation_stays names found op profile arguments is =
    subst (λ (u : Term). TurnsRound names (found.0, u) names (found.0, u)) (sym (ap term_of is))
    (operation_put found.0 op (all_bare arguments))
