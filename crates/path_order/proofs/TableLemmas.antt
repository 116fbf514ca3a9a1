-- What tables over the parts of two terms say of the whole terms.
use Rattle.std.proofs.Common.{◌≡◌, ℕ, zero, suc, Bool, true, false, nat_eq, refl, ap, sym, ◌∙◌}
use Rattle.std.specs.Prelude.{Some, ◌&&◌, ◌||◌, nat_lt}
use Rattle.std.specs.Option.{option_map}
use Rattle.std.proofs.lemmas.Bool.{and_right, or_from}
use Rattle.std.proofs.Math.Bool.{or-false, or_assoc}
use Rattle.lotos_base.specs.Term.{Term, variable, node, Terms, no_terms, term_then}
use Rattle.lotos_base.specs.Path.{argument_at}
use Rattle.lotos_base.specs.Tests.{term_eq, terms_eq, occurs, occurs_among}
use Rattle.rewriting_theory.specs.Precedence.{Status, from_left, from_right, Precedence}
use Rattle.rewriting_theory.specs.OrderTest.{is_greater, same_length, some_reaches, list_exceeds, exceeds_all}
use Rattle.rewriting_theory.proofs.OrderTestLemmas.{greater_by_parts}
use Rattle.path_order.specs.Comparison.{compared, all_compared, each_compared, equal_in, greater_in, table_at, part_in, if_there, parts_in, some_reaches_in, exceeds_all_in, equal_there, greater_there, equals_in, exceeds_in, exceeds_last_in, exceeds_from}

equal_of : (p : Precedence) (t u : Term) → equal_in (compared p t u) ≡ term_eq t u
equal_of p t (variable n s) = refl
equal_of p t (node g us) = refl

pub greater_of : (p : Precedence) (t u : Term) → greater_in (compared p t u) ≡ is_greater p t u
greater_of p t (variable n s) = refl
greater_of p t (node g us) = refl

pub some_of : (p : Precedence) (ts : Terms) (u : Term) → some_reaches_in (each_compared p ts u) ≡ some_reaches p ts u
some_of p no_terms u = refl
some_of p (term_then t ts) u = λ i. equal_of p t u i || (greater_of p t u i || some_of p ts u i)

pub all_of : (p : Precedence) (t : Term) (us : Terms) → exceeds_all_in (all_compared p t us) ≡ exceeds_all p t us
all_of p t no_terms = refl
all_of p t (term_then u us) = λ i. greater_of p t u i && all_of p t us i

table_at_of : (p : Precedence) (t : Term) (k : ℕ) (us : Terms) → table_at k (all_compared p t us) ≡ option_map (compared p t)
    (argument_at k us)
table_at_of p t k no_terms = refl
table_at_of p t zero (term_then u us) = refl
table_at_of p t (suc k) (term_then u us) = table_at_of p t k us

pub parts_of : (p : Precedence) (ts : Terms) (g k : ℕ) (us : Terms) (u : Term) → argument_at k us ≡ Some u
    → parts_in k (each_compared p ts (node g us)) ≡ each_compared p ts u
parts_of p no_terms g k us u e = refl
parts_of p (term_then t ts) g k us u e =
    λ i. if_there ((table_at_of p t k us ∙ ap (option_map (compared p t)) e) i) (parts_of p ts g k us u e i)

-- ---- Places of two lists side by side

-- the list without its first members
abbrev dropped : ℕ → Terms → Terms
dropped zero vs = vs
dropped (suc k) no_terms = no_terms
dropped (suc k) (term_then v vs) = dropped k vs

dropped_first : (k : ℕ) (vs : Terms) (u : Term) (us : Terms) → dropped k vs ≡ term_then u us → argument_at k vs ≡ Some u
dropped_first zero no_terms u us e = cc
dropped_first zero (term_then v vs) u us e = let same : v ≡ u = cc in ap (λ (w : Term). Some w) same
dropped_first (suc k) no_terms u us e = cc
dropped_first (suc k) (term_then v vs) u us e = dropped_first k vs u us e

dropped_rest : (k : ℕ) (vs : Terms) (u : Term) (us : Terms) → dropped k vs ≡ term_then u us → dropped (suc k) vs ≡ us
dropped_rest zero no_terms u us e = cc
dropped_rest zero (term_then v vs) u us e = cc
dropped_rest (suc k) no_terms u us e = cc
dropped_rest (suc k) (term_then v vs) u us e = dropped_rest k vs u us e

equal_at : (p : Precedence) (t u : Term) (g k : ℕ) (us vs : Terms) → dropped k vs ≡ term_then u us
    → equal_there (part_in k (compared p t (node g vs))) ≡ term_eq t u
equal_at p t u g k us vs e =
    ap equal_there (table_at_of p t k vs ∙ ap (option_map (compared p t)) (dropped_first k vs u us e)) ∙ equal_of p t u

greater_at : (p : Precedence) (t u : Term) (g k : ℕ) (us vs : Terms) → dropped k vs ≡ term_then u us
    → greater_there (part_in k (compared p t (node g vs))) ≡ is_greater p t u
greater_at p t u g k us vs e =
    ap greater_there (table_at_of p t k vs ∙ ap (option_map (compared p t)) (dropped_first k vs u us e)) ∙ greater_of p t u

and_true : (b c : Bool) → c ≡ true → (b && c) ≡ b
and_true true c e = e
and_true false c e = refl

equals_of : (p : Precedence) (ts us : Terms) (g k : ℕ) (vs : Terms) → dropped k vs ≡ us → same_length ts us ≡ true
    → equals_in k (each_compared p ts (node g vs)) ≡ terms_eq ts us
equals_of p no_terms no_terms g k vs e same = refl
equals_of p no_terms (term_then u us) g k vs e same = cc
equals_of p (term_then t ts) no_terms g k vs e same = cc
equals_of p (term_then t ts) (term_then u us) g k vs e same =
    λ i. equal_at p t u g k us vs e i && equals_of p ts us g (suc k) vs (dropped_rest k vs u us e) same i

exceeds_of : (p : Precedence) (ts us : Terms) (g k : ℕ) (vs : Terms) → dropped k vs ≡ us → same_length ts us ≡ true
    → exceeds_in k (each_compared p ts (node g vs)) ≡ list_exceeds p from_left ts us
exceeds_of p no_terms us g k vs e same = refl
exceeds_of p (term_then t ts) no_terms g k vs e same = cc
exceeds_of p (term_then t ts) (term_then u us) g k vs e same =
    λ i. (greater_at p t u g k us vs e ∙ sym (and_true (is_greater p t u) (same_length ts us) same)) i
    || (equal_at p t u g k us vs e i && exceeds_of p ts us g (suc k) vs (dropped_rest k vs u us e) same i)

-- one place more, told from the right
told_more : (all greater equal later told : Bool)
    → (later || (all && (greater || (equal && told)))) ≡ (((greater && all) || later) || ((equal && all) && told))
told_more false true true later told = refl
told_more false true false later told = refl
told_more false false true later told = refl
told_more false false false later told = refl
told_more true true equal true told = refl
told_more true true equal false told = refl
told_more true false true later told = refl
told_more true false false later told = refl

last_of : (p : Precedence) (ts us : Terms) (g k : ℕ) (vs : Terms) (told : Bool) → dropped k vs ≡ us → same_length ts us ≡ true
    → exceeds_last_in told k (each_compared p ts (node g vs)) ≡ (list_exceeds p from_right ts us || (terms_eq ts us && told))
last_of p no_terms no_terms g k vs told e same = refl
last_of p no_terms (term_then u us) g k vs told e same = cc
last_of p (term_then t ts) no_terms g k vs told e same = cc
last_of p (term_then t ts) (term_then u us) g k vs told e same =
    (λ i. exceeds_last_in (greater_at p t u g k us vs e i || (equal_at p t u g k us vs e i && told)) (suc k)
    (each_compared p ts (node g vs)))
    ∙ last_of p ts us g (suc k) vs (is_greater p t u || (term_eq t u && told)) (dropped_rest k vs u us e) same
    ∙ told_more (terms_eq ts us) (is_greater p t u) (term_eq t u) (list_exceeds p from_right ts us) told

or_nothing : (b c : Bool) → (b || (c && false)) ≡ b
or_nothing true c = refl
or_nothing false true = refl
or_nothing false false = refl

exceeds_from_of : (p : Precedence) (status : Status) (ts us : Terms) (g : ℕ) → same_length ts us ≡ true
    → exceeds_from status (each_compared p ts (node g us)) ≡ list_exceeds p status ts us
exceeds_from_of p from_left ts us g same = exceeds_of p ts us g 0 us refl same
exceeds_from_of p from_right ts us g same =
    last_of p ts us g 0 us false refl same ∙ or_nothing (list_exceeds p from_right ts us) (terms_eq ts us)

-- lists of different lengths are not one list, and none is greater
unequal_lengths : (ts us : Terms) → same_length ts us ≡ false → terms_eq ts us ≡ false
unequal_lengths no_terms no_terms e = cc
unequal_lengths no_terms (term_then u us) e = refl
unequal_lengths (term_then t ts) no_terms e = refl
unequal_lengths (term_then t ts) (term_then u us) e = and_right (term_eq t u) (terms_eq ts us) (unequal_lengths ts us e)

no_length_exceeds : (p : Precedence) (status : Status) (ts us : Terms) → same_length ts us ≡ false
    → list_exceeds p status ts us ≡ false
no_length_exceeds p status no_terms us e = refl
no_length_exceeds p status (term_then t ts) no_terms e = refl
no_length_exceeds p from_left (term_then t ts) (term_then u us) e =
    or_from (is_greater p t u && same_length ts us) (term_eq t u && list_exceeds p from_left ts us)
    (and_right (is_greater p t u) (same_length ts us) e)
    (and_right (term_eq t u) (list_exceeds p from_left ts us) (no_length_exceeds p from_left ts us e))
no_length_exceeds p from_right (term_then t ts) (term_then u us) e =
    or_from (is_greater p t u && terms_eq ts us) (list_exceeds p from_right ts us)
    (and_right (is_greater p t u) (terms_eq ts us) (unequal_lengths ts us e)) (no_length_exceeds p from_right ts us e)

and_under : (a b x y : Bool) → (b ≡ true → x ≡ y) → (b ≡ false → y ≡ false) → ((a && b) && x) ≡ (a && y)
and_under true true x y held failed = held refl
and_under true false x y held failed = sym (failed refl)
and_under false b x y held failed = refl

-- ---- The whole terms

pub equal_whole : (p : Precedence) (f g : ℕ) (ts us : Terms)
    → ((nat_eq f g && same_length ts us) && equals_in 0 (each_compared p ts (node g us))) ≡ term_eq (node f ts) (node g us)
equal_whole p f g ts us =
    and_under (nat_eq f g) (same_length ts us) (equals_in 0 (each_compared p ts (node g us))) (terms_eq ts us)
    (λ same. equals_of p ts us g 0 us refl same) (λ differ. unequal_lengths ts us differ)

exceeds_whole : (p : Precedence) (status : Status) (f g : ℕ) (ts us : Terms)
    → ((nat_eq f g && same_length ts us) && exceeds_from status (each_compared p ts (node g us)))
    ≡ (nat_eq f g && list_exceeds p status ts us)
exceeds_whole p status f g ts us =
    and_under (nat_eq f g) (same_length ts us) (exceeds_from status (each_compared p ts (node g us))) (list_exceeds p status ts us)
    (λ same. exceeds_from_of p status ts us g same) (λ differ. no_length_exceeds p status ts us differ)

pub greater_whole : (p : Precedence) (f g : ℕ) (ts us : Terms)
    → (some_reaches_in (each_compared p ts (node g us))
    || (exceeds_all_in (all_compared p (node f ts) us)
    && (nat_lt (p.rank g) (p.rank f)
    || ((nat_eq f g && same_length ts us) && exceeds_from (p.status f) (each_compared p ts (node g us))))))
    ≡ is_greater p (node f ts) (node g us)
greater_whole p f g ts us =
    (λ i. some_of p ts (node g us) i
    || (all_of p (node f ts) us i && (nat_lt (p.rank g) (p.rank f) || exceeds_whole p (p.status f) f g ts us i)))
    ∙ sym (greater_by_parts p f g ts us)

-- ---- Over a variable

occurs_or_is : (p : Precedence) (t : Term) (n s : ℕ) → (term_eq t (variable n s) || is_greater p t (variable n s)) ≡ occurs n s t
occurs_or_is p (variable m r) n s = or-false (nat_eq m n && nat_eq r s)
occurs_or_is p (node f ts) n s = refl

pub some_over_variable : (p : Precedence) (ts : Terms) (n s : ℕ)
    → some_reaches_in (each_compared p ts (variable n s)) ≡ occurs_among n s ts
some_over_variable p no_terms n s = refl
some_over_variable p (term_then t ts) n s =
    (λ i. term_eq t (variable n s) || (is_greater p t (variable n s) || some_over_variable p ts n s i))
    ∙ sym (or_assoc (term_eq t (variable n s)) (is_greater p t (variable n s)) (occurs_among n s ts))
    ∙ ap (λ b. b || occurs_among n s ts) (occurs_or_is p t n s)
