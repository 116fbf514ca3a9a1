-- Subterms and replacement undo each other.
use Rattle.std.proofs.Common.{◌≡◌, ℕ, zero, suc, List, [], ◌∷◌, ◌++◌, refl, ap, sym, ◌∙◌, ◌≢◌, subst}
use Rattle.std.specs.Prelude.{Option, Some, None, ◌⊎◌}
use Rattle.std.proofs.Common.{inl, inr}
use Rattle.std.specs.Option.{option_map, option_and_then}
use Rattle.std.proofs.lemmas.Option.{same_Some}
use Rattle.lotos_base.specs.Term.{Term, variable, node, Terms, no_terms, term_then}
use Rattle.lotos_base.specs.Path.{argument_at, with_argument, subterm, put_at, AreParallel}

pub argument_at-with_argument : (k : ℕ) (a b : Term) (ts : Terms) → argument_at k ts ≡ Some a
    → argument_at k (with_argument k b ts) ≡ Some b
argument_at-with_argument k a b no_terms e = cc
argument_at-with_argument zero a b (term_then t ts) e = refl
argument_at-with_argument (suc k) a b (term_then t ts) e = argument_at-with_argument k a b ts e

pub with_argument_same : (k : ℕ) (a : Term) (ts : Terms) → argument_at k ts ≡ Some a → with_argument k a ts ≡ ts
with_argument_same k a no_terms e = refl
with_argument_same zero a (term_then t ts) e = ap (λ u. term_then u ts) (sym (same_Some t a e))
with_argument_same (suc k) a (term_then t ts) e = ap (λ us. term_then t us) (with_argument_same k a ts e)

pub with_argument_twice : (k : ℕ) (a b : Term) (ts : Terms)
    → with_argument k b (with_argument k a ts) ≡ with_argument k b ts
with_argument_twice k a b no_terms = refl
with_argument_twice zero a b (term_then t ts) = refl
with_argument_twice (suc k) a b (term_then t ts) = ap (λ us. term_then t us) (with_argument_twice k a b ts)

pub argument_at_other : (j k : ℕ) (b : Term) (ts : Terms) → j ≢ k
    → argument_at j (with_argument k b ts) ≡ argument_at j ts
argument_at_other j k b no_terms ne = refl
argument_at_other zero zero b (term_then t ts) ne = absurd (ne refl)
argument_at_other zero (suc k) b (term_then t ts) ne = refl
argument_at_other (suc j) zero b (term_then t ts) ne = refl
argument_at_other (suc j) (suc k) b (term_then t ts) ne = argument_at_other j k b ts (λ e. ne (ap (λ (n : ℕ). suc n) e))

-- What a subterm below an operation is: a subterm of an argument.
pub record Below (k : ℕ) (path : List ℕ) (ts : Terms) (part : Term) : Type 0 where
  pub argument : Term
  pub found : argument_at k ts ≡ Some argument
  pub inside : subterm path argument ≡ Some part

pub subterm_below : (k : ℕ) (path : List ℕ) (f : ℕ) (ts : Terms) (part : Term)
    → subterm (k ∷ path) (node f ts) ≡ Some part → Below k path ts part
subterm_below k path f ts part e = go (argument_at k ts) refl e
  where
    go : (o : Option Term) → argument_at k ts ≡ o → option_and_then (λ t. subterm path t) o ≡ Some part
        → Below k path ts part
    go None eo h = cc
    go (Some a) eo h = record { argument = a; found = eo; inside = h }

-- What a replacement below an operation is: a replacement in an argument.
pub record PutBelow (k : ℕ) (path : List ℕ) (f : ℕ) (part : Term) (ts : Terms) (whole : Term) : Type 0 where
  pub argument : Term
  pub after : Term
  pub found : argument_at k ts ≡ Some argument
  pub inside : put_at path part argument ≡ Some after
  pub is_whole : node f (with_argument k after ts) ≡ whole

pub put_below : (k : ℕ) (path : List ℕ) (f : ℕ) (part : Term) (ts : Terms) (whole : Term)
    → put_at (k ∷ path) part (node f ts) ≡ Some whole → PutBelow k path f part ts whole
put_below k path f part ts whole e = go (argument_at k ts) refl e
  where
    inner : (a : Term) → argument_at k ts ≡ Some a → (o : Option Term) → put_at path part a ≡ o
        → option_map (λ t. node f (with_argument k t ts)) o ≡ Some whole → PutBelow k path f part ts whole
    inner a ea None eo h = cc
    inner a ea (Some b) eo h = record { argument = a; after = b; found = ea; inside = eo; is_whole = same_Some _ _ h }

    go : (o : Option Term) → argument_at k ts ≡ o
        → option_map (λ t. node f (with_argument k t ts)) (option_and_then (λ t. put_at path part t) o) ≡ Some whole
        → PutBelow k path f part ts whole
    go None eo h = cc
    go (Some a) eo h = inner a eo (put_at path part a) refl h

-- The other way round: a replacement in an argument is one below the operation.
pub put_under : (k : ℕ) (path : List ℕ) (f : ℕ) (part : Term) (ts : Terms) (a b : Term)
    → argument_at k ts ≡ Some a → put_at path part a ≡ Some b
    → put_at (k ∷ path) part (node f ts) ≡ Some (node f (with_argument k b ts))
put_under k path f part ts a b ea eb = rw ea (rw eb refl)

pub subterm_under : (k : ℕ) (path : List ℕ) (f : ℕ) (ts : Terms) (a part : Term) → argument_at k ts ≡ Some a
    → subterm path a ≡ Some part → subterm (k ∷ path) (node f ts) ≡ Some part
subterm_under k path f ts a part ea h = rw ea h

-- at the path stands what was put there
pub subterm-put_at : (path : List ℕ) (part t whole : Term) → put_at path part t ≡ Some whole
    → subterm path whole ≡ Some part
subterm-put_at [] part t whole e = sym e
subterm-put_at (k ∷ path) part (variable n s) whole e = cc
subterm-put_at (k ∷ path) part (node f ts) whole e =
    let below = put_below k path f part ts whole e in
    subst (λ (w : Term). subterm (k ∷ path) w ≡ Some part) below.is_whole
    (subterm_under k path f (with_argument k below.after ts) below.after part
    (argument_at-with_argument k below.argument below.after ts below.found)
    (subterm-put_at path part below.argument below.after below.inside))

-- putting back what stands there changes nothing
pub put_at-subterm : (path : List ℕ) (part t : Term) → subterm path t ≡ Some part → put_at path part t ≡ Some t
put_at-subterm [] part t e = sym e
put_at-subterm (k ∷ path) part (variable n s) e = cc
put_at-subterm (k ∷ path) part (node f ts) e =
    let below = subterm_below k path f ts part e in
    put_under k path f part ts below.argument below.argument below.found (put_at-subterm path part below.argument below.inside)
    ∙ ap (λ us. Some (node f us)) (with_argument_same k below.argument ts below.found)

option_map_same : (f g : Term → Term) → ((t : Term) → f t ≡ g t) → (o : Option Term) → option_map f o ≡ option_map g o
option_map_same f g same None = refl
option_map_same f g same (Some t) = ap (λ (u : Term). Some u) (same t)

-- a second replacement at the path hides the first one
pub put_at_twice : (path : List ℕ) (part other t whole : Term) → put_at path part t ≡ Some whole
    → put_at path other whole ≡ put_at path other t
put_at_twice [] part other t whole e = refl
put_at_twice (k ∷ path) part other (variable n s) whole e = cc
put_at_twice (k ∷ path) part other (node f ts) whole e =
    let below = put_below k path f part ts whole e in
    let again = put_at_twice path part other below.argument below.after below.inside in
    subst (λ (w : Term). put_at (k ∷ path) other w ≡ put_at (k ∷ path) other (node f ts)) below.is_whole
    (rw (argument_at-with_argument k below.argument below.after ts below.found) (rw (below.found) (rw again
    (option_map_same (λ t. node f (with_argument k t (with_argument k below.after ts))) (λ t. node f (with_argument k t ts))
    (λ t. ap (λ us. node f us) (with_argument_twice k below.after t ts)) (put_at path other below.argument)))))

-- a replacement is possible exactly where there is a subterm
pub put_at_possible : (path : List ℕ) (part t old : Term) → subterm path t ≡ Some old
    → (whole : Term) × (put_at path part t ≡ Some whole)
put_at_possible [] part t old e = (part, refl)
put_at_possible (k ∷ path) part (variable n s) old e = cc
put_at_possible (k ∷ path) part (node f ts) old e =
    let below = subterm_below k path f ts old e in
    let deeper = put_at_possible path part below.argument old below.inside in
    (node f (with_argument k deeper.0 ts), put_under k path f part ts below.argument deeper.0 below.found deeper.1)

pub subterm_possible : (path : List ℕ) (part t whole : Term) → put_at path part t ≡ Some whole
    → (old : Term) × (subterm path t ≡ Some old)
subterm_possible [] part t whole e = (t, refl)
subterm_possible (k ∷ path) part (variable n s) whole e = cc
subterm_possible (k ∷ path) part (node f ts) whole e =
    let below = put_below k path f part ts whole e in
    let deeper = subterm_possible path part below.argument below.after below.inside in
    (deeper.0, subterm_under k path f ts below.argument deeper.0 below.found deeper.1)

-- a path after a path
pub subterm-append : (path rest : List ℕ) (t part : Term) → subterm path t ≡ Some part
    → subterm (path ++ rest) t ≡ subterm rest part
subterm-append [] rest t part e = ap (λ o. option_and_then (λ (u : Term). subterm rest u) o) e
subterm-append (k ∷ path) rest (variable n s) part e = cc
subterm-append (k ∷ path) rest (node f ts) part e =
    let below = subterm_below k path f ts part e in
    rw (below.found) (subterm-append path rest below.argument part below.inside)

pub put_at-append : (path rest : List ℕ) (part old new t whole : Term) → subterm path t ≡ Some old
    → put_at rest part old ≡ Some new → put_at path new t ≡ Some whole
    → put_at (path ++ rest) part t ≡ Some whole
put_at-append [] rest part old new t whole e h w = ap (λ o. option_and_then (λ (u : Term). put_at rest part u) o) e ∙ h ∙ w
put_at-append (k ∷ path) rest part old new (variable n s) whole e h w = cc
put_at-append (k ∷ path) rest part old new (node f ts) whole e h w =
    let below = put_below k path f new ts whole w in
    let under = subterm_below k path f ts old e in
    let same : under.argument ≡ below.argument = same_Some _ _ (sym (under.found) ∙ below.found) in
    let deeper = put_at-append path rest part old new below.argument below.after
    (subst (λ (a : Term). subterm path a ≡ Some old) same under.inside) h below.inside in
    put_under k (path ++ rest) f part ts below.argument below.after below.found deeper ∙ ap (λ (u : Term). Some u) below.is_whole

-- a replacement leaves what stands at parallel paths
pub subterm_parallel : (path other : List ℕ) (part t whole : Term) → AreParallel path other
    → put_at path part t ≡ Some whole → subterm other whole ≡ subterm other t
subterm_parallel [] other part t whole apart e = absurd apart
subterm_parallel (j ∷ path) [] part t whole apart e = absurd apart
subterm_parallel (j ∷ path) (k ∷ other) part (variable n s) whole apart e = cc
subterm_parallel (j ∷ path) (k ∷ other) part (node f ts) whole apart e =
    let below = put_below j path f part ts whole e in
    subst (λ (w : Term). subterm (k ∷ other) w ≡ subterm (k ∷ other) (node f ts)) below.is_whole
    (go below apart (λ is. subterm_parallel path other part below.argument below.after is below.inside))
  where
    go : (below : PutBelow j path f part ts whole) → (j ≢ k) ⊎ ((j ≡ k) × AreParallel path other)
        → (AreParallel path other → subterm other below.after ≡ subterm other below.argument)
        → subterm (k ∷ other) (node f (with_argument j below.after ts)) ≡ subterm (k ∷ other) (node f ts)
    go below (inl ne) deeper = rw (argument_at_other k j below.after ts (λ e. ne (sym e))) refl
    go below (inr both) deeper =
        let here = argument_at-with_argument j below.argument below.after ts below.found in
        let after : subterm (k ∷ other) (node f (with_argument j below.after ts)) ≡ subterm other below.after =
        rw (← both.0) (rw here refl) in
        let before : subterm (k ∷ other) (node f ts) ≡ subterm other below.argument = rw (← both.0) (rw (below.found) refl) in
        after ∙ deeper both.1 ∙ sym before
