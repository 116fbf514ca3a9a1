-- Lists of `PlainTerm`s and the argument lists that they stand for, member by member.
use Rattle.std.proofs.Common.{◌≡◌, ℕ, zero, suc, ◌+◌, ◌<◌, List, [], ◌∷◌, ◌++◌, length, get_or, take, refl, ap, sym, ◌∙◌, subst, arith, inl, inr}
use Rattle.std.specs.Prelude.{◌⊎◌, Option, Some, None, is_some, IfSome}
use Rattle.std.specs.Option.{option_map, option_and_then}
use Rattle.std.proofs.Common.{drop, ◌-◌, set, Vec, Global, Bor, ◌≤◌, ltb, ltb-true, ltb-false, rules}
use Rattle.lotos_base.specs.Path.{argument_at, with_argument, subterm, put_at}
use Rattle.lotos_base.specs.Substitution.{Substitution, substituted, all_substituted}
use Rattle.std.proofs.lemmas.List.{take_more}
use Rattle.std.proofs.Math.Seq.{take-length}
use Rattle.lotos_base.specs.Term.{Term, node, Terms, no_terms, term_then}
use Rattle.lotos_base.specs.Sorting.{IsGround, AreGround, Occurs, OccursAmong}
use Rattle.lotos_base.specs.PlainView.{term_of_plain, arguments_of}
use Rattle.lotos_base.specs.declared.plain.PlainTerm.{PlainTerm, Node, the_lemmas}

-- one member more
take_item : (xs : List PlainTerm) (i : ℕ) (x : PlainTerm) → i < length xs → x ≡ get_or xs i x
    → take (i + 1) xs ≡ take i xs ++ x ∷ []
take_item xs i x h e = take_more xs i x h ∙ ap (λ (y : PlainTerm). take i xs ++ y ∷ []) (sym e)

AreGround-append : (xs : List PlainTerm) (x : PlainTerm) → AreGround (arguments_of xs) → IsGround (term_of_plain x)
    → AreGround (arguments_of (xs ++ x ∷ []))
AreGround-append [] x h g = (g, tt)
AreGround-append (y ∷ ys) x h g = (h.0, AreGround-append ys x h.1 g)

pub ground_more : (xs : List PlainTerm) (i : ℕ) (x : PlainTerm) → i < length xs → x ≡ get_or xs i x
    → AreGround (arguments_of (take i xs)) → IsGround (term_of_plain x) → AreGround (arguments_of (take (i + 1) xs))
ground_more xs i x h e all g = subst (λ ys. AreGround (arguments_of ys)) (sym (take_item xs i x h e)) (AreGround-append (take i xs) x all g)

pub ground_at : (xs : List PlainTerm) (i : ℕ) (x : PlainTerm) → i < length xs → x ≡ get_or xs i x
    → AreGround (arguments_of xs) → IsGround (term_of_plain x)
ground_at [] i x h e all = absurd (omega arith)
ground_at (y ∷ ys) zero x h e all = subst (λ (z : PlainTerm). IsGround (term_of_plain z)) (sym e) all.0
ground_at (y ∷ ys) (suc i) x h e all = ground_at ys i x (omega arith) e all.1

OccursAmong-append : (n s : ℕ) (xs : List PlainTerm) (x : PlainTerm)
    → OccursAmong n s (arguments_of (xs ++ x ∷ []))
    → OccursAmong n s (arguments_of xs) ⊎ Occurs n s (term_of_plain x)
OccursAmong-append n s [] x (inl o) = inr o
OccursAmong-append n s [] x (inr o) = absurd o
OccursAmong-append n s (y ∷ ys) x (inl o) = inl (inl o)
OccursAmong-append n s (y ∷ ys) x (inr o) = elim (OccursAmong-append n s ys x o) [ inl p ↦ inl (inr p) | inr p ↦ inr p ]

pub none_more : (n s : ℕ) (xs : List PlainTerm) (i : ℕ) (x : PlainTerm) → i < length xs → x ≡ get_or xs i x
    → ¬ OccursAmong n s (arguments_of (take i xs)) → ¬ Occurs n s (term_of_plain x)
    → ¬ OccursAmong n s (arguments_of (take (i + 1) xs))
none_more n s xs i x h e none not o =
    let o' : OccursAmong n s (arguments_of (take i xs ++ x ∷ [])) =
    subst (λ ys. OccursAmong n s (arguments_of ys)) (take_item xs i x h e) o in
    elim (OccursAmong-append n s (take i xs) x o') [ inl p ↦ none p | inr p ↦ not p ]

pub occurs_at : (n s : ℕ) (xs : List PlainTerm) (i : ℕ) (x : PlainTerm) → i < length xs → x ≡ get_or xs i x
    → Occurs n s (term_of_plain x) → OccursAmong n s (arguments_of xs)
occurs_at n s [] i x h e o = absurd (omega arith)
occurs_at n s (y ∷ ys) zero x h e o = inl (subst (λ (z : PlainTerm). Occurs n s (term_of_plain z)) e o)
occurs_at n s (y ∷ ys) (suc i) x h e o = inr (occurs_at n s ys i x (omega arith) e o)

pub same_length : (xs ys : List PlainTerm) → arguments_of xs ≡ arguments_of ys → length xs ≡ length ys
same_length [] [] e = refl
same_length [] (y ∷ ys) e = cc
same_length (x ∷ xs) [] e = cc
same_length (x ∷ xs) (y ∷ ys) e =
    let rest : arguments_of xs ≡ arguments_of ys = cc in
    ap (λ (n : ℕ). suc n) (same_length xs ys rest)

pub same_at : (xs ys : List PlainTerm) (i : ℕ) (x y : PlainTerm) → i < length xs → x ≡ get_or xs i x
    → y ≡ get_or ys i y → arguments_of xs ≡ arguments_of ys → term_of_plain x ≡ term_of_plain y
same_at [] ys i x y h ex ey e = absurd (omega arith)
same_at (x' ∷ xs) [] i x y h ex ey e = cc
same_at (x' ∷ xs) (y' ∷ ys) zero x y h ex ey e =
    let first : term_of_plain x' ≡ term_of_plain y' = cc in
    ap term_of_plain ex ∙ first ∙ sym (ap term_of_plain ey)
same_at (x' ∷ xs) (y' ∷ ys) (suc i) x y h ex ey e =
    let rest : arguments_of xs ≡ arguments_of ys = cc in
    same_at xs ys i x y (omega arith) ex ey rest

-- one term more at the end
abbrev with_last : Terms → Term → Terms
with_last no_terms u = term_then u no_terms
with_last (term_then t ts) u = term_then t (with_last ts u)

arguments_of-append : (xs : List PlainTerm) (x : PlainTerm)
    → arguments_of (xs ++ x ∷ []) ≡ with_last (arguments_of xs) (term_of_plain x)
arguments_of-append [] x = refl
arguments_of-append (y ∷ ys) x = ap (λ ts. term_then (term_of_plain y) ts) (arguments_of-append ys x)

pub same_more : (xs ys : List PlainTerm) (i : ℕ) (x y : PlainTerm) → i < length xs → i < length ys
    → x ≡ get_or xs i x → y ≡ get_or ys i y → arguments_of (take i xs) ≡ arguments_of (take i ys)
    → term_of_plain x ≡ term_of_plain y → arguments_of (take (i + 1) xs) ≡ arguments_of (take (i + 1) ys)
same_more xs ys i x y hx hy ex ey e is =
    ap arguments_of (take_item xs i x hx ex) ∙ arguments_of-append (take i xs) x
    ∙ ap (λ (ts : Terms). with_last ts (term_of_plain x)) e ∙ ap (λ (t : Term). with_last (arguments_of (take i ys)) t) is
    ∙ sym (ap arguments_of (take_item ys i y hy ey) ∙ arguments_of-append (take i ys) y)

-- a node stands for the operation on what its arguments stand for
pub term_of-Node : (f : ℕ) (ts : Vec PlainTerm Global) → term_of_plain (Node f ts) ≡ node f (arguments_of ts.items)
term_of-Node f ts = search (rules, the_lemmas)

argument_at_within : (xs : List PlainTerm) (i : ℕ) (x : PlainTerm) → i < length xs → x ≡ get_or xs i x
    → argument_at i (arguments_of xs) ≡ Some (term_of_plain x)
argument_at_within [] i x h e = absurd (omega arith)
argument_at_within (y ∷ ys) zero x h e = ap (λ (z : PlainTerm). Some (term_of_plain z)) (sym e)
argument_at_within (y ∷ ys) (suc i) x h e = argument_at_within ys i x (omega arith) e

argument_at_past : (xs : List PlainTerm) (i : ℕ) → length xs ≤ i → argument_at i (arguments_of xs) ≡ None
argument_at_past [] i h = refl
argument_at_past (y ∷ ys) zero h = absurd (omega arith)
argument_at_past (y ∷ ys) (suc i) h = argument_at_past ys i (omega arith)

some_or_none : (o : Option Term) → option_and_then (λ (t : Term). Some t) o ≡ o
some_or_none None = refl
some_or_none (Some t) = refl

-- what a look-up in the arguments gives is the subterm at that position
pub subterm_found : (f : ℕ) (ts : Vec PlainTerm Global) (i : ℕ) (r : Option (Bor PlainTerm))
    → is_some r ≡ ltb i (length ts.items) → IfSome r (λ x. x.now ≡ get_or ts.items i x.now)
    → option_map (λ t. term_of_plain t.now) r ≡ subterm (i ∷ []) (term_of_plain (Node f ts))
subterm_found f ts i None some is =
    rw (term_of-Node f ts) (sym (some_or_none (argument_at i (arguments_of ts.items))
    ∙ argument_at_past ts.items i (ltb-false i (length ts.items) (sym some))))
subterm_found f ts i (Some x) some is =
    rw (term_of-Node f ts) (sym (some_or_none (argument_at i (arguments_of ts.items))
    ∙ argument_at_within ts.items i x.now (ltb-true i (length ts.items) (sym some)) is))

-- a list that one more copy was added to
pub copied_more : (xs made new : List PlainTerm) (i : ℕ) (x y : PlainTerm) → i < length xs → x ≡ get_or xs i x
    → new ≡ made ++ y ∷ [] → arguments_of made ≡ arguments_of (take i xs) → term_of_plain y ≡ term_of_plain x
    → arguments_of new ≡ arguments_of (take (i + 1) xs)
copied_more xs made new i x y h e is so_far copy =
    ap arguments_of is ∙ arguments_of-append made y
    ∙ ap (λ (ts : Terms). with_last ts (term_of_plain y)) so_far ∙ ap (λ (t : Term). with_last (arguments_of (take i xs)) t) copy
    ∙ sym (ap arguments_of (take_item xs i x h e) ∙ arguments_of-append (take i xs) x)

all_substituted-with_last : (values : Substitution) (ts : Terms) (t : Term)
    → all_substituted values (with_last ts t) ≡ with_last (all_substituted values ts) (substituted values t)
all_substituted-with_last values no_terms t = refl
all_substituted-with_last values (term_then u us) t = ap (λ ts. term_then (substituted values u) ts) (all_substituted-with_last values us t)

-- a list that the values put into one more term were added to
pub instances_more : (values : Substitution) (xs made new : List PlainTerm) (i : ℕ) (x y : PlainTerm)
    → i < length xs → x ≡ get_or xs i x → new ≡ made ++ y ∷ []
    → arguments_of made ≡ all_substituted values (arguments_of (take i xs))
    → term_of_plain y ≡ substituted values (term_of_plain x)
    → arguments_of new ≡ all_substituted values (arguments_of (take (i + 1) xs))
instances_more values xs made new i x y h e is so_far instance =
    ap arguments_of is ∙ arguments_of-append made y
    ∙ ap (λ (ts : Terms). with_last ts (term_of_plain y)) so_far
    ∙ ap (λ (t : Term). with_last (all_substituted values (arguments_of (take i xs))) t) instance
    ∙ sym (ap (all_substituted values) (ap arguments_of (take_item xs i x h e) ∙ arguments_of-append (take i xs) x)
    ∙ all_substituted-with_last values (arguments_of (take i xs)) (term_of_plain x))

-- a member of the list replaced is an argument replaced
pub arguments_of-set : (xs : List PlainTerm) (i : ℕ) (y : PlainTerm)
    → arguments_of (set xs i y) ≡ with_argument i (term_of_plain y) (arguments_of xs)
arguments_of-set [] i y = refl
arguments_of-set (x ∷ xs) zero y = refl
arguments_of-set (x ∷ xs) (suc i) y = ap (λ ts. term_then (term_of_plain x) ts) (arguments_of-set xs i y)

-- a path with a first position
pub path_parts : (path : List ℕ) → 1 ≤ length path → path ≡ get_or path 0 0 ∷ take (length path - 1) (drop 1 path)
path_parts [] h = absurd (omega arith)
path_parts (k ∷ rest) h =
    let shorter : suc (length rest) - 1 ≡ length rest = omega arith in
    ap (λ ks. k ∷ ks) (sym (ap (λ (n : ℕ). take n rest) shorter ∙ take-length rest))

no_put : (k : ℕ) (rest : List ℕ) (part : Term) (f : ℕ) (ts : Terms) → argument_at k ts ≡ None
    → None ≡ put_at (k ∷ rest) part (node f ts)
no_put k rest part f ts none = rw none refl

put_found : (k : ℕ) (rest : List ℕ) (part : Term) (f : ℕ) (ts : Terms) (a : Term) (o : Option Term)
    → argument_at k ts ≡ Some a → o ≡ put_at rest part a
    → option_map (λ (t : Term). node f (with_argument k t ts)) o ≡ put_at (k ∷ rest) part (node f ts)
put_found k rest part f ts a o found is = rw found (ap (option_map (λ (t : Term). node f (with_argument k t ts))) is)

-- there is no argument at the first position
pub no_put_past : (path : List ℕ) (part : Term) (f : ℕ) (ts : Vec PlainTerm Global) → 1 ≤ length path
    → length ts.items ≤ get_or path 0 0 → None ≡ put_at path part (term_of_plain (Node f ts))
no_put_past path part f ts h past =
    rw (term_of-Node f ts) (subst (λ (p : List ℕ). None ≡ put_at p part (node f (arguments_of ts.items))) (sym (path_parts path h))
    (no_put (get_or path 0 0) (take (length path - 1) (drop 1 path)) part f (arguments_of ts.items)
    (argument_at_past ts.items (get_or path 0 0) past)))

-- what is put into the argument at the first position
pub put_into_argument : (path : List ℕ) (part : Term) (f : ℕ) (ts : Vec PlainTerm Global) (x : PlainTerm) (o : Option Term)
    → 1 ≤ length path → get_or path 0 0 < length ts.items → x ≡ get_or ts.items (get_or path 0 0) x
    → o ≡ put_at (take (length path - 1) (drop 1 path)) part (term_of_plain x)
    → option_map (λ (t : Term). node f (with_argument (get_or path 0 0) t (arguments_of ts.items))) o
    ≡ put_at path part (term_of_plain (Node f ts))
put_into_argument path part f ts x o h within is found =
    rw (term_of-Node f ts) (subst (λ (p : List ℕ). option_map
    (λ (t : Term). node f (with_argument (get_or path 0 0) t (arguments_of ts.items))) o
    ≡ put_at p part (node f (arguments_of ts.items))) (sym (path_parts path h))
    (put_found (get_or path 0 0) (take (length path - 1) (drop 1 path)) part f (arguments_of ts.items) (term_of_plain x) o
    (argument_at_within ts.items (get_or path 0 0) x within is) found))
