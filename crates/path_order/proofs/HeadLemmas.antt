-- A term is greater than what is below the operation at its head.
use Rattle.std.proofs.Common.{◌≡◌, ℕ, Bool, true, false, nat_eq, refl, subst, sym}
use Rattle.std.specs.Prelude.{◌&&◌, ◌||◌, ◌↔◌, IsTrue, nat_lt}
use Rattle.lotos_base.specs.Term.{Term, variable, node, Terms, no_terms, term_then}
use Rattle.rewriting_theory.specs.Precedence.{Precedence}
use Rattle.rewriting_theory.specs.OrderTest.{is_greater, node_exceeds, node_exceeds_all}
use Rattle.rewriting_theory.specs.PathOrder.{IsGreater}
use Rattle.rewriting_theory.proofs.OrderLemmas.{greater_asymmetric, greater_decided}
use Rattle.path_order.specs.Heads.{below_head, all_terms_below}

both_true : (a b c d : Bool) → (a && b) ≡ true → (a ≡ true → c ≡ true) → (b ≡ true → d ≡ true) → (c && d) ≡ true
both_true true b c d e one two = go c (one refl)
  where
    go : (x : Bool) → x ≡ true → (x && d) ≡ true
    go true h = two e
    go false h = cc
both_true false b c d e one two = cc

by_rank_true : (a b c d e : Bool) → (a && b) ≡ true → (b ≡ true → d ≡ true) → (c || (d && (a || e))) ≡ true
by_rank_true true b true d e h two = refl
by_rank_true true b false d e h two = go d (two h)
  where
    go : (x : Bool) → x ≡ true → (x && true) ≡ true
    go true k = refl
    go false k = cc
by_rank_true false b c d e h two = cc

mutual
  below_exceeds : (p : Precedence) (f : ℕ) (ts : Terms) (reaches : Term → Bool) (exceed : Terms → Bool) (u : Term)
      → below_head p f (node f ts) u ≡ true → node_exceeds p f ts reaches exceed u ≡ true
  below_exceeds p f ts reaches exceed (variable n s) e = e
  below_exceeds p f ts reaches exceed (node g us) e =
      by_rank_true (nat_lt (p.rank g) (p.rank f)) (all_terms_below p f (node f ts) us) (reaches (node g us))
      (node_exceeds_all p f ts reaches exceed us)
      (nat_eq f g && exceed us) e (λ h. all_below_exceed p f ts reaches exceed us h)

  all_below_exceed : (p : Precedence) (f : ℕ) (ts : Terms) (reaches : Term → Bool) (exceed : Terms → Bool) (us : Terms)
      → all_terms_below p f (node f ts) us ≡ true → node_exceeds_all p f ts reaches exceed us ≡ true
  all_below_exceed p f ts reaches exceed no_terms e = refl
  all_below_exceed p f ts reaches exceed (term_then u us) e =
      both_true (below_head p f (node f ts) u) (all_terms_below p f (node f ts) us) (node_exceeds p f ts reaches exceed u)
      (node_exceeds_all p f ts reaches exceed us) e (λ h. below_exceeds p f ts reaches exceed u h)
      (λ h. all_below_exceed p f ts reaches exceed us h)

pub below_is_lesser : (p : Precedence) (f : ℕ) (ts : Terms) (u : Term) → below_head p f (node f ts) u ≡ true → IsGreater p (node f ts) u
below_is_lesser p f ts u e =
    (greater_decided p (node f ts) u).0 (below_exceeds p f ts _ _ u e)

-- ---- What the code says of the order

greater_at : (p : Precedence) (left right t u : Term) → t ≡ left → u ≡ right → (b : Bool) → (IsTrue b → IsGreater p t u) → b ≡ true
    → IsGreater p left right
greater_at p left right t u one two b told e =
    subst (λ (v : Term). IsGreater p v right) one
    (subst (λ (v : Term). IsGreater p t v) two (told e))

-- the first one is greater
pub sure_greater : (p : Precedence) (left right t u : Term) → t ≡ left → u ≡ right → (b : Bool) → (IsTrue b → IsGreater p t u)
    → b ≡ true → IsTrue true ↔ IsGreater p left right
sure_greater p left right t u one two b told e = ((λ sure. greater_at p left right t u one two b told e), (λ is. refl))

-- the second one is
pub sure_lesser : (p : Precedence) (left right t u : Term) → t ≡ right → u ≡ left → (b : Bool) → (IsTrue b → IsGreater p t u)
    → b ≡ true → IsTrue false ↔ IsGreater p left right
sure_lesser p left right t u one two b told e =
    ((λ sure. cc), (λ is. absurd (greater_asymmetric p left right is (greater_at p right left t u one two b told e))))
