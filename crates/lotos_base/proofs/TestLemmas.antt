-- What the tests of terms mean.
use Rattle.std.proofs.Common.{◌≡◌, ℕ, Bool, true, false, nat_eq, refl}
use Rattle.std.specs.Prelude.{◌&&◌}
use mathlib.Core.HLevel.{Discrete, hedberg}
use Rattle.std.proofs.lemmas.Bool.Decides.{Decides-eqb, Decides-and, Decides-or, Decides-like}
use Rattle.std.specs.Bool.{Decides}
use Rattle.lotos_base.specs.Term.{Term, variable, node, Terms, no_terms, term_then}
use Rattle.lotos_base.specs.Sorting.{IsGround, AreGround, Occurs, OccursAmong}
use Rattle.lotos_base.specs.Tests.{term_eq, terms_eq, is_ground, are_ground, occurs, occurs_among}

mutual
  pub Decides-occurs : (n s : ℕ) (t : Term) → Decides (occurs n s t) (Occurs n s t)
  Decides-occurs n s (variable m r) = Decides-and (nat_eq m n) (nat_eq r s) (Decides-eqb m n) (Decides-eqb r s)
  Decides-occurs n s (node f ts) = Decides-occurs_among n s ts

  pub Decides-occurs_among : (n s : ℕ) (ts : Terms) → Decides (occurs_among n s ts) (OccursAmong n s ts)
  Decides-occurs_among n s no_terms = ((λ h. cc), (λ h. absurd h))
  Decides-occurs_among n s (term_then t ts) = Decides-or (occurs n s t) (occurs_among n s ts) (Decides-occurs n s t)
      (Decides-occurs_among n s ts)

mutual
  pub Decides-is_ground : (t : Term) → Decides (is_ground t) (IsGround t)
  Decides-is_ground (variable n s) = ((λ h. cc), (λ h. absurd h))
  Decides-is_ground (node f ts) = Decides-are_ground ts

  pub Decides-are_ground : (ts : Terms) → Decides (are_ground ts) (AreGround ts)
  Decides-are_ground no_terms = ((λ h. tt), (λ h. refl))
  Decides-are_ground (term_then t ts) = Decides-and (is_ground t) (are_ground ts) (Decides-is_ground t) (Decides-are_ground ts)

-- two variables are identical where their numbers and sorts are, and likewise for operations and for lists
variables_same : (n s m r : ℕ) → (n ≡ m) × (s ≡ r) → variable n s ≡ variable m r
variables_same n s m r h = λ i. variable (h.0 i) (h.1 i)

nodes_same : (f g : ℕ) (ts us : Terms) → (f ≡ g) × (ts ≡ us) → node f ts ≡ node g us
nodes_same f g ts us h = λ i. node (h.0 i) (h.1 i)

lists_same : (t u : Term) (ts us : Terms) → (t ≡ u) × (ts ≡ us) → term_then t ts ≡ term_then u us
lists_same t u ts us h = λ i. term_then (h.0 i) (h.1 i)

mutual
  pub Decides-term_eq : (t u : Term) → Decides (term_eq t u) (t ≡ u)
  Decides-term_eq (variable n s) (variable m r) =
      Decides-like (nat_eq n m && nat_eq s r) (variables_same n s m r) (λ e. (cc, cc))
      (Decides-and (nat_eq n m) (nat_eq s r) (Decides-eqb n m) (Decides-eqb s r))
  Decides-term_eq (variable n s) (node g us) = ((λ h. cc), (λ h. cc))
  Decides-term_eq (node f ts) (variable m r) = ((λ h. cc), (λ h. cc))
  Decides-term_eq (node f ts) (node g us) =
      Decides-like (nat_eq f g && terms_eq ts us) (nodes_same f g ts us) (λ e. (cc, cc))
      (Decides-and (nat_eq f g) (terms_eq ts us) (Decides-eqb f g) (Decides-terms_eq ts us))

  pub Decides-terms_eq : (ts us : Terms) → Decides (terms_eq ts us) (ts ≡ us)
  Decides-terms_eq no_terms no_terms = ((λ h. refl), (λ h. refl))
  Decides-terms_eq no_terms (term_then u us) = ((λ h. cc), (λ h. cc))
  Decides-terms_eq (term_then t ts) no_terms = ((λ h. cc), (λ h. cc))
  Decides-terms_eq (term_then t ts) (term_then u us) =
      Decides-like (term_eq t u && terms_eq ts us) (lists_same t u ts us) (λ e. (cc, cc))
      (Decides-and (term_eq t u) (terms_eq ts us) (Decides-term_eq t u) (Decides-terms_eq ts us))

-- identity of terms is decided, so a path between two terms is a proposition
pub Term-discrete : Discrete Term
Term-discrete t u = go (term_eq t u) refl
  where
    go : (b : Bool) → term_eq t u ≡ b → Dec (t ≡ u)
    go true e = yes ((Decides-term_eq t u).0 e)
    go false e = no (λ same. let other : term_eq t u ≡ true = (Decides-term_eq t u).1 same in cc)

pub Term-set : IsSet Term
Term-set = hedberg Term-discrete
