-- Derivable equality: an equivalence, a congruence, holding every ground instance, and the least such relation.
use Rattle.std.proofs.Common.{◌≡◌, ℕ, suc, List, [], ◌∷◌, ◌++◌, refl, ap, sym, ◌∙◌, subst, inl, inr}
use Rattle.std.specs.Prelude.{Some}
use Rattle.std.proofs.lemmas.Option.{same_Some}
use Rattle.lotos_base.specs.Term.{Term, variable, node, Terms, no_terms, term_then}
use Rattle.lotos_base.specs.Sorting.{Occurs, OccursAmong}
use Rattle.lotos_base.specs.Path.{argument_at, with_argument, subterm, put_at}
use Rattle.lotos_base.specs.Substitution.{Substitution, substituted, all_substituted}
use Rattle.lotos_base.specs.Equation.{Equation, Data, IsEquation, IsGroundInstance}
use Rattle.lotos_base.specs.Equality.{Direction, forward, backward, old_side, new_side, Link, Equal, same_term, link_then, AllEqual}
use Rattle.lotos_base.specs.EqualityLaws.{IsCongruence}
use Rattle.lotos_base.proofs.PathLemmas.{subterm-put_at, put_at-subterm, put_at_twice, put_at_possible, subterm_possible, subterm-append, put_at-append, put_under}

abbrev pub reversed : Direction → Direction
reversed forward = backward
reversed backward = forward

old_side-reversed : (d : Direction) (e : Equation) → old_side (reversed d) e ≡ new_side d e
old_side-reversed forward e = refl
old_side-reversed backward e = refl

new_side-reversed : (d : Direction) (e : Equation) → new_side (reversed d) e ≡ old_side d e
new_side-reversed forward e = refl
new_side-reversed backward e = refl

-- each link can be gone back
pub link_back : (data_ : Data) (t u : Term) → Link data_ t u → Link data_ u t
link_back data_ t u l =
    record {
      path = l.path;
      equation = l.equation;
      is_equation = l.is_equation;
      values = l.values;
      is_instance = l.is_instance;
      direction = reversed l.direction;
      old = subterm-put_at l.path (substituted l.values (new_side l.direction l.equation)) t u l.new
          ∙ ap (λ (side : Term). Some (substituted l.values side)) (sym (old_side-reversed l.direction l.equation));
      new = ap (λ (side : Term). put_at l.path (substituted l.values side) u) (new_side-reversed l.direction l.equation)
          ∙ put_at_twice l.path (substituted l.values (new_side l.direction l.equation))
          (substituted l.values (old_side l.direction l.equation)) t u l.new
          ∙ put_at-subterm l.path (substituted l.values (old_side l.direction l.equation)) t l.old;
    }

-- a chain after a chain
pub equal_then : {data_ : Data} {t u v : Term} → Equal data_ t u → Equal data_ u v → Equal data_ t v
equal_then (same_term t) rest = rest
equal_then (link_then l chain) rest = link_then l (equal_then chain rest)

pub equal_back : {data_ : Data} {t u : Term} → Equal data_ t u → Equal data_ u t
equal_back (same_term t) = same_term t
equal_back (link_then {t = t} {u = u} l chain) = equal_then (equal_back chain) (link_then (link_back _ t u l) (same_term t))

-- identical terms are equal
pub equal_same : (data_ : Data) (t u : Term) → t ≡ u → Equal data_ t u
equal_same data_ t u e = subst (λ (v : Term). Equal data_ t v) e (same_term t)

-- a link inside a term is a link of the term
pub link_inside : (data_ : Data) (path : List ℕ) (t u whole before after : Term) → Link data_ t u
    → put_at path t whole ≡ Some before → put_at path u whole ≡ Some after → Link data_ before after
link_inside data_ path t u whole before after l e h =
    let here = subterm-put_at path t whole before e in
    record {
      path = path ++ l.path;
      equation = l.equation;
      is_equation = l.is_equation;
      values = l.values;
      is_instance = l.is_instance;
      direction = l.direction;
      old = subterm-append path l.path before t here ∙ l.old;
      new = put_at-append path l.path (substituted l.values (new_side l.direction l.equation)) t u before after here l.new
          (put_at_twice path t u whole before e ∙ h);
    }

-- a congruence at each path
pub equal_inside : {data_ : Data} {t u : Term} (path : List ℕ) (whole before after : Term) → Equal data_ t u
    → put_at path t whole ≡ Some before → put_at path u whole ≡ Some after → Equal data_ before after
equal_inside path whole before after (same_term t) e h = equal_same _ before after (same_Some before after (sym e ∙ h))
equal_inside path whole before after (link_then {t = t} {u = u} {v = v} l chain) e h =
    let old = subterm_possible path t whole before e in
    let middle = put_at_possible path u whole old.0 old.1 in
    link_then (link_inside _ path t u whole before middle.0 l e middle.1) (equal_inside path whole middle.0 after chain middle.1 h)

-- arguments put one by one, the last first, before others
abbrev onto : Terms → Terms → Terms
onto no_terms ts = ts
onto (term_then r rs) ts = onto rs (term_then r ts)

-- a position among others, with the arguments put before them
abbrev shifted : Terms → ℕ → ℕ
shifted no_terms k = k
shifted (term_then r rs) k = shifted rs (suc k)

argument_at-onto : (rs : Terms) (k : ℕ) (ts : Terms) → argument_at (shifted rs k) (onto rs ts) ≡ argument_at k ts
argument_at-onto no_terms k ts = refl
argument_at-onto (term_then r rs) k ts = argument_at-onto rs (suc k) (term_then r ts)

with_argument-onto : (rs : Terms) (k : ℕ) (part : Term) (ts : Terms)
    → with_argument (shifted rs k) part (onto rs ts) ≡ onto rs (with_argument k part ts)
with_argument-onto no_terms k part ts = refl
with_argument-onto (term_then r rs) k part ts = with_argument-onto rs (suc k) part (term_then r ts)

put_onto : (f : ℕ) (rs : Terms) (t u : Term) (ts : Terms)
    → put_at (shifted rs 0 ∷ []) u (node f (onto rs (term_then t ts))) ≡ Some (node f (onto rs (term_then u ts)))
put_onto f rs t u ts =
    put_under (shifted rs 0) [] f u (onto rs (term_then t ts)) t u (argument_at-onto rs 0 (term_then t ts)) refl
    ∙ ap (λ us. Some (node f us)) (with_argument-onto rs 0 u (term_then t ts))

equal_onto : (data_ : Data) (f : ℕ) (rs ts us : Terms) → AllEqual data_ ts us
    → Equal data_ (node f (onto rs ts)) (node f (onto rs us))
equal_onto data_ f rs no_terms no_terms h = same_term (node f (onto rs no_terms))
equal_onto data_ f rs no_terms (term_then u us) h = absurd h
equal_onto data_ f rs (term_then t ts) no_terms h = absurd h
equal_onto data_ f rs (term_then t ts) (term_then u us) h =
    equal_then
    (equal_inside (shifted rs 0 ∷ []) (node f (onto rs (term_then t ts))) (node f (onto rs (term_then t ts)))
    (node f (onto rs (term_then u ts))) h.0 (put_onto f rs t t ts) (put_onto f rs t u ts))
    (equal_onto data_ f (term_then u rs) ts us h.1)

-- a congruence under each operation
pub equal_under : (data_ : Data) (f : ℕ) (ts us : Terms) → AllEqual data_ ts us → Equal data_ (node f ts) (node f us)
equal_under data_ f ts us h = equal_onto data_ f no_terms ts us h

mutual
  -- values that are equal one by one give equal instances
  pub equal_values : (data_ : Data) (values others : Substitution) (t : Term)
      → ((n s : ℕ) → Occurs n s t → Equal data_ (values n s) (others n s))
      → Equal data_ (substituted values t) (substituted others t)
  equal_values data_ values others (variable n s) h = h n s (refl, refl)
  equal_values data_ values others (node f ts) h =
      equal_under data_ f (all_substituted values ts) (all_substituted others ts) (all_equal_values data_ values others ts h)

  all_equal_values : (data_ : Data) (values others : Substitution) (ts : Terms)
      → ((n s : ℕ) → OccursAmong n s ts → Equal data_ (values n s) (others n s))
      → AllEqual data_ (all_substituted values ts) (all_substituted others ts)
  all_equal_values data_ values others no_terms h = tt
  all_equal_values data_ values others (term_then t ts) h =
      (equal_values data_ values others t (λ n s o. h n s (inl o)), all_equal_values data_ values others ts (λ n s o. h n s (inr o)))

-- each ground instance of each equation holds
pub equal_instance : (data_ : Data) (equation : Equation) (values : Substitution) → IsEquation data_ equation
    → IsGroundInstance data_.signature equation values
    → Equal data_ (substituted values equation.left) (substituted values equation.right)
equal_instance data_ equation values is_equation is_instance =
    link_then
    (record {
      path = [];
      equation = equation;
      is_equation = is_equation;
      values = values;
      is_instance = is_instance;
      direction = forward;
      old = refl;
      new = refl;
    })
    (same_term (substituted values equation.right))

-- a chain does not leave a domain that no link leaves
chain_closed : {data_ : Data} {t u : Term} (Domain : Term → Type 0)
    → ((t u : Term) → Domain t → Link data_ t u → Domain u) → Equal data_ t u → Domain t → Domain u
chain_closed Domain closed (same_term t) h = h
chain_closed Domain closed (link_then {t = t} {u = u} l chain) h = chain_closed Domain closed chain (closed t u h l)

-- a link relates its terms in each congruence that holds every ground instance
link_related : (data_ : Data) (Domain : Term → Type 0) (Related : Term → Term → Type 0)
    → IsCongruence data_ Domain Related → (t u : Term) → Domain t → Domain u → Link data_ t u → Related t u
link_related data_ Domain Related c t u dt du l = go l.direction l.old l.new
  where
    instance_related : Related (substituted l.values l.equation.left) (substituted l.values l.equation.right)
    instance_related = c.equations l.equation l.values l.is_equation l.is_instance

    go : (d : Direction) → subterm l.path t ≡ Some (substituted l.values (old_side d l.equation))
        → put_at l.path (substituted l.values (new_side d l.equation)) t ≡ Some u → Related t u
    go forward old new =
        c.inside l.path (substituted l.values l.equation.left) (substituted l.values l.equation.right) t t u dt du instance_related
        (put_at-subterm l.path (substituted l.values l.equation.left) t old) new
    go backward old new =
        c.symmetric u t du dt
        (c.inside l.path (substituted l.values l.equation.left) (substituted l.values l.equation.right) t u t du dt instance_related
        new (put_at-subterm l.path (substituted l.values l.equation.right) t old))

-- equality is contained in each congruence that holds every ground instance
pub equal_related : {data_ : Data} {t u : Term} (Domain : Term → Type 0) (Related : Term → Term → Type 0)
    → IsCongruence data_ Domain Related → Domain t → Equal data_ t u → Related t u
equal_related Domain Related c h (same_term t) = c.reflexive t h
equal_related Domain Related c h (link_then {t = t} {u = u} {v = v} l chain) =
    let next : Domain u = c.closed t u h l in
    c.transitive t u v h next (chain_closed Domain c.closed chain next)
    (link_related _ Domain Related c t u h next l)
    (equal_related Domain Related c next chain)
