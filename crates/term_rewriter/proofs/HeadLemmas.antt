-- Rules found by what their left sides begin with.
use Rattle.std.proofs.Common.{◌≡◌, ℕ, zero, suc, ◌+◌, ◌<◌, List, [], ◌∷◌, ◌++◌, Bool, true, false, nat_eq, refl, ap, sym, ◌∙◌, subst, inl, inr, arith}
use Rattle.std.specs.Cmp.{first_so, second_so}
use Rattle.std.specs.Cmp.Derive.{both_true}
use Rattle.std.specs.Prelude.{Option, Some, None, slice_get, if◌then◌else◌, ◌⊎◌}
use Rattle.std.proofs.lemmas.Option.{same_Some}
use Rattle.std.proofs.lemmas.Bool.Decides.{Decides-eqb}
use Rattle.lotos_base.specs.Substitution.{Substitution, all_substituted}
use Rattle.lotos_base.specs.Term.{Term, variable, node, Terms, no_terms, term_then}
use Rattle.rewriting_theory.specs.Rule.{Rule, IsNode}
use Rattle.rewriting_theory.specs.Matching.{Matches}
use Rattle.path_order.specs.RuleHead.{has_head, headed_from, headed}
use Rattle.term_rewriter.specs.FirstHead.{first_head, is_missing, is_head_number, is_open, has_first, begins_with_heads, numbered_where}

abbrev one_if : Bool → ℕ → List ℕ
one_if b n = if b then n ∷ [] else []

-- A rule whose left side passes the test, at this place of a list.
pub record PassesAt (test : Term → Bool) (rules : List Rule) (i : ℕ) : Type 0 where
  pub rule : Rule
  pub is_at : slice_get rules i ≡ Some rule
  pub passes : test rule.left ≡ true

later : {test : Term → Bool} {first : Rule} {rules : List Rule} {i : ℕ} → PassesAt test rules i → PassesAt test (first ∷ rules) (suc i)
later at = record { rule = at.rule; is_at = at.is_at; passes = at.passes }

-- each number is that of a rule that passes
numbered : (test : Term → Bool) (first : ℕ) (rules : List Rule) (j m : ℕ) → slice_get (numbered_where test first rules) j ≡ Some m
    → (i : ℕ) × (m ≡ first + i) × PassesAt test rules i
numbered test first [] j m is = cc
numbered test first (rule ∷ rules) j m is =
    go (test rule.left) refl j is (λ k e. numbered test (suc first) rules k m e)
  where
    go : (b : Bool) → test rule.left ≡ b → (k : ℕ)
        → slice_get (one_if b first ++ numbered_where test (suc first) rules) k ≡ Some m
        → ((l : ℕ) → slice_get (numbered_where test (suc first) rules) l ≡ Some m
        → (i : ℕ) × (m ≡ suc first + i) × PassesAt test rules i)
        → (i : ℕ) × (m ≡ first + i) × PassesAt test (rule ∷ rules) i
    go true passes zero e rest =
        let same : first ≡ m = same_Some first m e in
        (0, omega (arith, same), record { rule = rule; is_at = refl; passes = passes })
    go true passes (suc k) e rest = let at = rest k e in (suc at.0, omega (arith, at.1), later at.2)
    go false passes k e rest = let at = rest k e in (suc at.0, omega (arith, at.1), later at.2)

-- and each rule that passes has its number there
has_number : (test : Term → Bool) (first : ℕ) (rules : List Rule) (i : ℕ) (rule : Rule) → slice_get rules i ≡ Some rule
    → test rule.left ≡ true
    → (j : ℕ) × (slice_get (numbered_where test first rules) j ≡ Some (first + i))
has_number test first [] i rule is passes = cc
has_number test first (one ∷ rules) zero rule is passes =
    let same : test one.left ≡ true = ap (λ (r : Rule). test r.left) (same_Some one rule is) ∙ passes in
    let here : first ≡ first + 0 = omega arith in
    (0, ap (λ (b : Bool). slice_get (one_if b first ++ numbered_where test (suc first) rules) 0) same ∙ ap (λ (n : ℕ). Some n) here)
has_number test first (one ∷ rules) (suc i) rule is passes = go (test one.left) (has_number test (suc first) rules i rule is passes)
  where
    go : (b : Bool) → (j : ℕ) × (slice_get (numbered_where test (suc first) rules) j ≡ Some (suc first + i))
        → (j : ℕ) × (slice_get (one_if b first ++ numbered_where test (suc first) rules) j ≡ Some (first + suc i))
    go true at = let same : suc first + i ≡ first + suc i = omega arith in (suc at.0, at.1 ∙ ap (λ (n : ℕ). Some n) same)
    go false at = let same : suc first + i ≡ first + suc i = omega arith in (at.0, at.1 ∙ ap (λ (n : ℕ). Some n) same)

-- the numbers rise
rises : (test : Term → Bool) (first : ℕ) (rules : List Rule) (j k m n : ℕ) → slice_get (numbered_where test first rules) j ≡ Some m
    → slice_get (numbered_where test first rules) k ≡ Some n → m < n → j < k
rises test first [] j k m n one two less = cc
rises test first (rule ∷ rules) j k m n one two less =
    go (test rule.left) j k one two (λ i l a b. rises test (suc first) rules i l m n a b less)
    (λ i a. numbered test (suc first) rules i m a)
  where
    go : (b : Bool) (i l : ℕ) → slice_get (one_if b first ++ numbered_where test (suc first) rules) i ≡ Some m
        → slice_get (one_if b first ++ numbered_where test (suc first) rules) l ≡ Some n
        → ((i l : ℕ) → slice_get (numbered_where test (suc first) rules) i ≡ Some m
        → slice_get (numbered_where test (suc first) rules) l ≡ Some n → i < l)
        → ((i : ℕ) → slice_get (numbered_where test (suc first) rules) i ≡ Some m
        → (p : ℕ) × (m ≡ suc first + p) × PassesAt test rules p) → i < l
    go true zero zero a b rest above =
        let same : first ≡ m = same_Some first m a in
        let other : first ≡ n = same_Some first n b in
        absurd (omega (arith, same, other, less))
    go true zero (suc l) a b rest above = omega arith
    go true (suc i) zero a b rest above =
        let other : first ≡ n = same_Some first n b in
        let at = above i a in
        let more : m ≡ suc first + at.0 = at.1 in
        absurd (omega (arith, other, more, less))
    go true (suc i) (suc l) a b rest above = let before : i < l = rest i l a b in omega (arith, before)
    go false i l a b rest above = rest i l a b

-- ---- from 0

pub where_number : (test : Term → Bool) (rules : List Rule) (j m : ℕ) → slice_get (numbered_where test 0 rules) j ≡ Some m
    → PassesAt test rules m
where_number test rules j m is =
    let at = numbered test zero rules j m is in
    let same : at.0 ≡ m = omega (arith, at.1) in
    subst (λ (i : ℕ). PassesAt test rules i) same at.2

pub where_has : (test : Term → Bool) (rules : List Rule) (i : ℕ) (rule : Rule) → slice_get rules i ≡ Some rule → test rule.left ≡ true
    → (j : ℕ) × (slice_get (numbered_where test 0 rules) j ≡ Some i)
where_has test rules i rule is passes =
    let at = has_number test zero rules i rule is passes in
    let same : zero + i ≡ i = omega arith in
    (at.0, at.1 ∙ ap (λ (n : ℕ). Some n) same)

pub where_rises : (test : Term → Bool) (rules : List Rule) (j k m n : ℕ) → slice_get (numbered_where test 0 rules) j ≡ Some m
    → slice_get (numbered_where test 0 rules) k ≡ Some n → m < n → j < k
where_rises test rules j k m n one two less = rises test zero rules j k m n one two less

-- ---- the rules with a head

pub headed_where : (f first : ℕ) (rules : List Rule) → headed_from f first rules ≡ numbered_where (has_head f) first rules
headed_where f first [] = refl
headed_where f first (rule ∷ rules) =
    ap (λ (ns : List ℕ). one_if (has_head f rule.left) first ++ ns) (headed_where f (suc first) rules)

pub headed_is : (f : ℕ) (rules : List Rule) → headed f rules ≡ numbered_where (has_head f) 0 rules
headed_is f rules = headed_where f 0 rules

pub headed_number : (f : ℕ) (rules : List Rule) (j m : ℕ) → slice_get (headed f rules) j ≡ Some m → PassesAt (has_head f) rules m
headed_number f rules j m is =
    where_number (has_head f) rules j m (ap (λ (ns : List ℕ). slice_get ns j) (sym (headed_is f rules)) ∙ is)

pub headed_has : (f : ℕ) (rules : List Rule) (i : ℕ) (rule : Rule) → slice_get rules i ≡ Some rule → has_head f rule.left ≡ true
    → (j : ℕ) × (slice_get (headed f rules) j ≡ Some i)
headed_has f rules i rule is head =
    let at = where_has (has_head f) rules i rule is head in
    (at.0, ap (λ (ns : List ℕ). slice_get ns at.0) (headed_is f rules) ∙ at.1)

pub headed_rises : (f : ℕ) (rules : List Rule) (j k m n : ℕ) → slice_get (headed f rules) j ≡ Some m
    → slice_get (headed f rules) k ≡ Some n → m < n → j < k
headed_rises f rules j k m n one two less =
    where_rises (has_head f) rules j k m n (ap (λ (ns : List ℕ). slice_get ns j) (sym (headed_is f rules)) ∙ one)
    (ap (λ (ns : List ℕ). slice_get ns k) (sym (headed_is f rules)) ∙ two) less

-- ---- other heads

pub other_head : (f : ℕ) (l : Term) (us : Terms) → IsNode l → has_head f l ≡ false → ¬ Matches l (node f us)
other_head f (variable n s) us is head found = absurd is
other_head f (node g ls) us is head found =
    let e = found.1 in
    let same : g ≡ f = cc in
    let yes : nat_eq g f ≡ true = (Decides-eqb g f).1 same in
    let clash : true ≡ false = sym yes ∙ head in cc

pub no_variable : (l : Term) (n s : ℕ) → IsNode l → ¬ Matches l (variable n s)
no_variable (variable m r) n s is found = absurd is
no_variable (node g ls) n s is found = let e = found.1 in cc

-- ---- first arguments

-- what a term begins with stays where something is put for its variables
first_kept : (ts us : Terms) (values : Substitution) (g : ℕ) → all_substituted values ts ≡ us → first_head ts ≡ Some g
    → first_head us ≡ Some g
first_kept no_terms us values g same is = cc
first_kept (term_then (variable n s) ts) us values g same is = cc
first_kept (term_then (node h vs) ts) no_terms values g same is = cc
first_kept (term_then (node h vs) ts) (term_then (variable n s) us) values g same is = cc
first_kept (term_then (node h vs) ts) (term_then (node k ws) us) values g same is =
    let heads : h ≡ k = cc in
    ap (λ (m : ℕ). Some m) (sym heads) ∙ is

-- a pattern that matches an operation begins with it, and its first argument with nothing or with what begins the first one there
pub match_begins : (l : Term) (f : ℕ) (us : Terms) → IsNode l → Matches l (node f us)
    → (is_open f l ≡ true) ⊎ ((g : ℕ) × (first_head us ≡ Some g) × (begins_with_heads f g l ≡ true))
match_begins (variable n s) f us is found = absurd is
match_begins (node h ls) f us is found =
    let e = found.1 in
    let heads : h ≡ f = cc in
    let tails : all_substituted found.0 ls ≡ us = cc in
    go ((Decides-eqb h f).1 heads) tails (first_head ls) refl
  where
    go : nat_eq h f ≡ true → all_substituted found.0 ls ≡ us → (o : Option ℕ) → first_head ls ≡ o
        → (is_open f (node h ls) ≡ true) ⊎ ((g : ℕ) × (first_head us ≡ Some g) × (begins_with_heads f g (node h ls) ≡ true))
    go heads tails None none = inl (both_true heads (ap is_missing none))
    go heads tails (Some g) some = inr (
      g,
      first_kept ls us found.0 g tails some,
      both_true heads (ap (is_head_number g) some ∙ (Decides-eqb g g).1 refl),
    )

pub begins_headed : (f g : ℕ) (t : Term) → begins_with_heads f g t ≡ true → has_head f t ≡ true
begins_headed f g (variable n s) begins = begins
begins_headed f g (node h ts) begins = first_so (nat_eq h f) (is_head_number g (first_head ts)) begins

pub begins_first : (f g : ℕ) (t : Term) → begins_with_heads f g t ≡ true → has_first g t ≡ true
begins_first f g (variable n s) begins = begins
begins_first f g (node h ts) begins = second_so (nat_eq h f) (is_head_number g (first_head ts)) begins
