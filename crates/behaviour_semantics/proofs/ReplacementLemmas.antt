-- Putting terms into a behaviour, one substitution after another.
use Rattle.std.proofs.Common.{◌≡◌, ◌<◌, ◌≤◌, ◌⊎◌, inl, inr, ℕ, List, [], ◌∷◌, map, Option, None, Some, Bool, true, false, nat_eq, if◌then◌else◌, refl, ap, sym, ◌∙◌, arith, eqb-true}
use Rattle.std.proofs.Math.Path.{fun_ext}
use Rattle.std.specs.Prelude.{option_map}
use Rattle.lotos_base.specs.Term.{Term, variable}
use Rattle.lotos_base.specs.Sorting.{Occurs}
use Rattle.lotos_base.specs.Equation.{Variable}
use Rattle.lotos_base.specs.Substitution.{Substitution, substituted, followed_by, without, is_listed}
use Rattle.lotos_base.proofs.SubstitutionLemmas.{substituted_twice, substituted_agree, substituted_variables}
use Rattle.behaviour_semantics.specs.Behaviour.{Behaviour, stop, exit_with, action, inner_action, guard, choice, parallel, hide, enable, disable, let_be, choose_value, choose_gate, par_gate, call, relabel, Test, Offer, give, ask, ExitValue, exit_value, any_of, asked_variables, numbers_of, let_variables}
use Rattle.behaviour_semantics.specs.Replacement.{test_with, offer_with, exit_value_with, with_values}
use Rattle.behaviour_semantics.specs.Draft.{above_variables, above, label_with}
use Rattle.behaviour_semantics.specs.ReplacementLaws.{IsApart}
use Rattle.behaviour_semantics.specs.Derives.{leaves_in}
use Rattle.behaviour_semantics.specs.Label.{Label, inner_event, gate_event, exit_event}

same_substitution : (first second : Substitution) → ((n s : ℕ) → first n s ≡ second n s) → first ≡ second
same_substitution first second h = fun_ext (λ n. fun_ext (λ s. h n s))

-- Parts, each with what its substitutions do to terms.
module _ (first second whole : Substitution) (same : (t : Term) → substituted second (substituted first t) ≡ substituted whole t) where
  test_twice : (test : Test) → test_with second (test_with first test) ≡ test_with whole test
  test_twice test = let left : _ ≡ _ = same test.left in let right : _ ≡ _ = same test.right in cc (left, right)

  option_twice : (test : Option Test) → option_map (test_with second) (option_map (test_with first) test)
      ≡ option_map (test_with whole) test
  option_twice None = refl
  option_twice (Some test) = ap (λ (t : Test). Some t) (test_twice test)

  offers_twice : (offers : List Offer) → map (offer_with second) (map (offer_with first) offers) ≡ map (offer_with whole) offers
  offers_twice [] = refl
  offers_twice (give t ∷ offers) = let head : _ ≡ _ = same t in let tail : _ ≡ _ = offers_twice offers in cc (head, tail)
  offers_twice (ask x ∷ offers) = ap (λ (os : List Offer). ask x ∷ os) (offers_twice offers)

  results_twice : (results : List ExitValue) → map (exit_value_with second) (map (exit_value_with first) results)
      ≡ map (exit_value_with whole) results
  results_twice [] = refl
  results_twice (exit_value t ∷ results) = let head : _ ≡ _ = same t in let tail : _ ≡ _ = results_twice results in cc (head, tail)
  results_twice (any_of s ∷ results) = ap (λ (rs : List ExitValue). any_of s ∷ rs) (results_twice results)

  terms_twice : (ts : List Term) → map (substituted second) (map (substituted first) ts) ≡ map (substituted whole) ts
  terms_twice [] = refl
  terms_twice (t ∷ ts) = let head : _ ≡ _ = same t in let tail : _ ≡ _ = terms_twice ts in cc (head, tail)

  bindings_twice : (bindings : List (Variable × Term)) → map {B = Variable × Term}
      (λ (bound : Variable × Term). (bound.0, substituted second bound.1))
      (map {B = Variable × Term} (λ (bound : Variable × Term). (bound.0, substituted first bound.1)) bindings)
      ≡ map {B = Variable × Term} (λ (bound : Variable × Term). (bound.0, substituted whole bound.1)) bindings
  bindings_twice [] = refl
  bindings_twice (bound ∷ bindings) =
      ap (λ (t : Term). (bound.0, t) ∷ map {B = Variable × Term} (λ (b : Variable × Term). (b.0, substituted second b.1))
      (map {B = Variable × Term} (λ (b : Variable × Term). (b.0, substituted first b.1)) bindings)) (same bound.1)
      ∙ ap (λ (rest : List (Variable × Term)). (bound.0, substituted whole bound.1) ∷ rest) (bindings_twice bindings)

pub asked-with : (values : Substitution) (offers : List Offer) → asked_variables (map (offer_with values) offers) ≡ asked_variables offers
asked-with values [] = refl
asked-with values (give t ∷ offers) = asked-with values offers
asked-with values (ask x ∷ offers) = ap (λ (xs : List Variable). x ∷ xs) (asked-with values offers)

pub let_variables-with : (values : Substitution) (bindings : List (Variable × Term))
    → let_variables (map {B = Variable × Term} (λ (bound : Variable × Term). (bound.0, substituted values bound.1)) bindings)
    ≡ let_variables bindings
let_variables-with values [] = refl
let_variables-with values (bound ∷ bindings) = ap (λ (xs : List Variable). bound.0 ∷ xs) (let_variables-with values bindings)

-- What a binder lists lies below.
listed_below : (base : ℕ) (variables : List Variable) (n : ℕ) → above_variables variables ≤ base → is_listed (numbers_of variables) n ≡ true
    → n < base
listed_below base [] n le e = absurd (cc e)
listed_below base (z ∷ variables) n le e = by (listed_below base variables n
    (let below : above_variables variables ≤ base = omega arith in below)) (nat_eq z.number n) refl
  where
    by : (is_listed (numbers_of variables) n ≡ true → n < base) → (same : Bool) → nat_eq z.number n ≡ same → n < base
    by rest true h = let k : z.number ≡ n = eqb-true z.number n h in omega arith
    by rest false h = let later : is_listed (numbers_of variables) n ≡ true = rw h at e in rest later

without-apart : (base : ℕ) (numbers : List ℕ) (first : Substitution) → IsApart base first → IsApart base (without numbers first)
without-apart base numbers first h n s = by (is_listed numbers n) refl (h n s)
  where
    by : (listed : Bool) → is_listed numbers n ≡ listed → (first n s ≡ variable n s) ⊎ ((m r : ℕ) → Occurs m r (first n s) → base ≤ m)
        → (without numbers first n s ≡ variable n s) ⊎ ((m r : ℕ) → Occurs m r (without numbers first n s) → base ≤ m)
    by true e k = inl (rw e refl)
    by false e (inl same) = inl (rw e same)
    by false e (inr far) = inr (λ m r o. far m r (rw e at o))

-- Under a binder that catches nothing the two substitutions compose too.
without_twice : (base : ℕ) (variables : List Variable) (first second : Substitution) → above_variables variables ≤ base → IsApart base first
    → followed_by (without (numbers_of variables) first) (without (numbers_of variables) second)
    ≡ without (numbers_of variables) (followed_by first second)
without_twice base variables first second le apart = same_substitution _ _
    (λ n s. by n s (is_listed (numbers_of variables) n) refl (apart n s))
  where
    out : (n s : ℕ) → is_listed (numbers_of variables) n ≡ false → without (numbers_of variables) second n s ≡ second n s
    out n s e = rw e refl

    far_out : (m r : ℕ) → base ≤ m → (listed : Bool) → is_listed (numbers_of variables) m ≡ listed
        → without (numbers_of variables) second m r ≡ second m r
    far_out m r far true e = let lt : m < base = listed_below base variables m le e in absurd (omega arith)
    far_out m r far false e = out m r e

    by : (n s : ℕ) (listed : Bool) → is_listed (numbers_of variables) n ≡ listed
        → (first n s ≡ variable n s) ⊎ ((m r : ℕ) → Occurs m r (first n s) → base ≤ m)
        → followed_by (without (numbers_of variables) first) (without (numbers_of variables) second) n s
        ≡ without (numbers_of variables) (followed_by first second) n s
    by n s true e k =
        ap (substituted (without (numbers_of variables) second))
        (let h : without (numbers_of variables) first n s ≡ variable n s = rw e refl in h)
        ∙ ((let h : without (numbers_of variables) second n s ≡ variable n s = rw e refl in h)
        ∙ sym (let h : without (numbers_of variables) (followed_by first second) n s ≡ variable n s = rw e refl in h))
    by n s false e k =
        ap (substituted (without (numbers_of variables) second))
        (let h : without (numbers_of variables) first n s ≡ first n s = rw e refl in h)
        ∙ (inside k ∙ sym (let h : without (numbers_of variables) (followed_by first second) n s ≡ substituted second (first n s) =
        rw e refl in h))
      where
        inside : (first n s ≡ variable n s) ⊎ ((m r : ℕ) → Occurs m r (first n s) → base ≤ m)
            → substituted (without (numbers_of variables) second) (first n s) ≡ substituted second (first n s)
        inside (inl same) = ap (substituted (without (numbers_of variables) second)) same ∙ (out n s e ∙ sym (ap (substituted second) same))
        inside (inr far) = substituted_agree (without (numbers_of variables) second) second (first n s)
            (λ m r o. far_out m r (far m r o) (is_listed (numbers_of variables) m) refl)

pub twice : (base : ℕ) (first second : Substitution) (b : Behaviour) → above b ≤ base → IsApart base first
    → with_values second (with_values first b) ≡ with_values (followed_by first second) b
twice base first second stop le apart = refl
twice base first second (exit_with results) le apart = ap exit_with
    (results_twice first second (followed_by first second) (substituted_twice first second) results)
twice base first second (action g offers test b) le apart =
    let xs : List Variable = asked_variables offers in
    let le_x : above_variables (asked_variables offers) ≤ base = omega arith in
    let le_b : above b ≤ base = omega arith in
    let inner : followed_by (without (numbers_of (asked_variables offers)) first) (without (numbers_of (asked_variables offers)) second)
    ≡ without (numbers_of (asked_variables offers)) (followed_by first second) =
    without_twice base (asked_variables offers) first second le_x apart in
    let below : with_values (without (numbers_of (asked_variables offers)) second)
    (with_values (without (numbers_of (asked_variables offers)) first) b)
    ≡ with_values (without (numbers_of (asked_variables offers)) (followed_by first second)) b =
    twice base (without (numbers_of (asked_variables offers)) first) (without (numbers_of (asked_variables offers)) second) b le_b
    (without-apart base (numbers_of (asked_variables offers)) first apart) ∙ ap (λ (v : Substitution). with_values v b) inner in
    let tests : option_map (test_with (without (numbers_of (asked_variables offers)) second))
    (option_map (test_with (without (numbers_of (asked_variables offers)) first)) test)
    ≡ option_map (test_with (without (numbers_of (asked_variables offers)) (followed_by first second))) test =
    option_twice (without (numbers_of (asked_variables offers)) first) (without (numbers_of (asked_variables offers)) second)
    (without (numbers_of (asked_variables offers)) (followed_by first second))
    (λ t. substituted_twice (without (numbers_of (asked_variables offers)) first) (without (numbers_of (asked_variables offers)) second) t
    ∙ ap (λ (v : Substitution). substituted v t) inner) test in
    let givens : map (offer_with second) (map (offer_with first) offers) ≡ map (offer_with (followed_by first second)) offers =
    offers_twice first second (followed_by first second) (substituted_twice first second) offers in
    ap (λ (ys : List Variable). action g (map (offer_with second) (map (offer_with first) offers))
    (option_map (test_with (without (numbers_of ys) second))
    (option_map (test_with (without (numbers_of (asked_variables offers)) first)) test))
    (with_values (without (numbers_of ys) second) (with_values (without (numbers_of (asked_variables offers)) first) b)))
    (asked-with first offers)
    ∙ (ap (λ (os : List Offer). action g os (option_map (test_with (without (numbers_of (asked_variables offers)) second))
    (option_map (test_with (without (numbers_of (asked_variables offers)) first)) test))
    (with_values (without (numbers_of (asked_variables offers)) second)
    (with_values (without (numbers_of (asked_variables offers)) first) b))) givens
    ∙ (ap (λ (t : Option Test). action g (map (offer_with (followed_by first second)) offers) t
    (with_values (without (numbers_of (asked_variables offers)) second)
    (with_values (without (numbers_of (asked_variables offers)) first) b))) tests
    ∙ ap (λ (c : Behaviour). action g (map (offer_with (followed_by first second)) offers)
    (option_map (test_with (without (numbers_of (asked_variables offers)) (followed_by first second))) test) c) below))
twice base first second (inner_action b) le apart = ap inner_action (twice base first second b le apart)
twice base first second (guard test b) le apart =
    let tests : _ ≡ _ = test_twice first second (followed_by first second) (substituted_twice first second) test in
    let below : _ ≡ _ = twice base first second b le apart in
    cc (tests, below)
twice base first second (choice b c) le apart =
    let left : _ ≡ _ = twice base first second b (omega arith) apart in
    let right : _ ≡ _ = twice base first second c (omega arith) apart in
    cc (left, right)
twice base first second (parallel meet b c) le apart =
    let left : _ ≡ _ = twice base first second b (omega arith) apart in
    let right : _ ≡ _ = twice base first second c (omega arith) apart in
    cc (left, right)
twice base first second (hide gates b) le apart = ap (hide gates) (twice base first second b le apart)
twice base first second (enable b variables c) le apart =
    let left : with_values second (with_values first b) ≡ with_values (followed_by first second) b =
    twice base first second b (omega arith) apart in
    let right : with_values (without (numbers_of variables) second) (with_values (without (numbers_of variables) first) c)
    ≡ with_values (without (numbers_of variables) (followed_by first second)) c =
    twice base (without (numbers_of variables) first) (without (numbers_of variables) second) c (omega arith)
    (without-apart base (numbers_of variables) first apart)
    ∙ ap (λ (v : Substitution). with_values v c) (without_twice base variables first second (omega arith) apart) in
    ap (λ (d : Behaviour). enable d variables (with_values (without (numbers_of variables) second)
    (with_values (without (numbers_of variables) first) c))) left
    ∙ ap (enable (with_values (followed_by first second) b) variables) right
twice base first second (disable b c) le apart =
    let left : _ ≡ _ = twice base first second b (omega arith) apart in
    let right : _ ≡ _ = twice base first second c (omega arith) apart in
    cc (left, right)
twice base first second (let_be bindings b) le apart =
    let le_x : above_variables (let_variables bindings) ≤ base = omega arith in
    let below : with_values (without (numbers_of (let_variables bindings)) second)
    (with_values (without (numbers_of (let_variables bindings)) first) b)
    ≡ with_values (without (numbers_of (let_variables bindings)) (followed_by first second)) b =
    twice base (without (numbers_of (let_variables bindings)) first) (without (numbers_of (let_variables bindings)) second) b (omega arith)
    (without-apart base (numbers_of (let_variables bindings)) first apart)
    ∙ ap (λ (v : Substitution). with_values v b) (without_twice base (let_variables bindings) first second le_x apart) in
    let bound : _ ≡ _ = bindings_twice first second (followed_by first second) (substituted_twice first second) bindings in
    ap (λ (ys : List Variable). let_be (map {B = Variable × Term} (λ (x : Variable × Term). (x.0, substituted second x.1))
    (map {B = Variable × Term} (λ (x : Variable × Term). (x.0, substituted first x.1)) bindings))
    (with_values (without (numbers_of ys) second) (with_values (without (numbers_of (let_variables bindings)) first) b)))
    (let_variables-with first bindings)
    ∙ (ap (λ (bs : List (Variable × Term)). let_be bs (with_values (without (numbers_of (let_variables bindings)) second)
    (with_values (without (numbers_of (let_variables bindings)) first) b))) bound
    ∙ ap (let_be (map {B = Variable × Term} (λ (x : Variable × Term). (x.0, substituted (followed_by first second) x.1)) bindings)) below)
twice base first second (choose_value x b) le apart =
    ap (choose_value x)
    (twice base (without (x.number ∷ []) first) (without (x.number ∷ []) second) b (omega arith)
    (without-apart base (x.number ∷ []) first apart)
    ∙ ap (λ (v : Substitution). with_values v b) (without_twice base (x ∷ []) first second (omega arith) apart))
twice base first second (choose_gate g gates b) le apart = ap (choose_gate g gates) (twice base first second b le apart)
twice base first second (par_gate g gates meet b) le apart = ap (par_gate g gates meet) (twice base first second b le apart)
twice base first second (call number gates arguments) le apart =
    ap (call number gates) (terms_twice first second (followed_by first second) (substituted_twice first second) arguments)
twice base first second (relabel pairs b) le apart = ap (relabel pairs) (twice base first second b le apart)

-- Each variable for itself.
without-variables : (numbers : List ℕ) → without numbers variable ≡ variable
without-variables numbers = same_substitution _ _ (λ n s. by n s (is_listed numbers n))
  where
    by : (n s : ℕ) (listed : Bool) → (if listed then variable n s else variable n s) ≡ variable n s
    by n s true = refl
    by n s false = refl

results_same : (results : List ExitValue) → map (exit_value_with variable) results ≡ results
results_same [] = refl
results_same (exit_value t ∷ results) = let head : substituted variable t ≡ t =
    substituted_variables t in let tail : map (exit_value_with variable) results ≡ results = results_same results in cc (head, tail)
results_same (any_of s ∷ results) = ap (λ (rs : List ExitValue). any_of s ∷ rs) (results_same results)

offers_same : (offers : List Offer) → map (offer_with variable) offers ≡ offers
offers_same [] = refl
offers_same (give t ∷ offers) = let head : substituted variable t ≡ t =
    substituted_variables t in let tail : map (offer_with variable) offers ≡ offers = offers_same offers in cc (head, tail)
offers_same (ask x ∷ offers) = ap (λ (os : List Offer). ask x ∷ os) (offers_same offers)

test_same : (test : Test) → test_with variable test ≡ test
test_same test = ap (λ (t : Term). record { left = t; right = substituted variable test.right }) (substituted_variables test.left)
    ∙ ap (λ (t : Term). record { left = test.left; right = t }) (substituted_variables test.right)

option_same : (test : Option Test) → option_map (test_with variable) test ≡ test
option_same None = refl
option_same (Some test) = ap (λ (t : Test). Some t) (test_same test)

terms_same : (ts : List Term) → map (substituted variable) ts ≡ ts
terms_same [] = refl
terms_same (t ∷ ts) = let head : substituted variable t ≡ t = substituted_variables t in let tail : map (substituted variable) ts ≡ ts =
    terms_same ts in cc (head, tail)

bindings_same : (bindings : List (Variable × Term)) → map {B = Variable × Term}
    (λ (bound : Variable × Term). (bound.0, substituted variable bound.1)) bindings ≡ bindings
bindings_same [] = refl
bindings_same (bound ∷ bindings) =
    ap (λ (t : Term). (bound.0, t) ∷ map {B = Variable × Term} (λ (b : Variable × Term). (b.0, substituted variable b.1)) bindings)
    (substituted_variables bound.1)
    ∙ ap (λ (rest : List (Variable × Term)). bound ∷ rest) (bindings_same bindings)

pub unchanged : (b : Behaviour) → with_values variable b ≡ b
unchanged stop = refl
unchanged (exit_with results) = ap exit_with (results_same results)
unchanged (action g offers test b) =
    ap (λ (v : Substitution). action g (map (offer_with variable) offers) (option_map (test_with v) test) (with_values v b))
    (without-variables (numbers_of (asked_variables offers)))
    ∙ (ap (λ (os : List Offer). action g os (option_map (test_with variable) test) (with_values variable b)) (offers_same offers)
    ∙ (ap (λ (t : Option Test). action g offers t (with_values variable b)) (option_same test)
    ∙ ap (action g offers test) (unchanged b)))
unchanged (inner_action b) = ap inner_action (unchanged b)
unchanged (guard test b) = ap (λ (t : Test). guard t (with_values variable b)) (test_same test) ∙ ap (guard test) (unchanged b)
unchanged (choice b c) = ap (λ (d : Behaviour). choice d (with_values variable c)) (unchanged b) ∙ ap (choice b) (unchanged c)
unchanged (parallel meet b c) = ap (λ (d : Behaviour). parallel meet d (with_values variable c)) (unchanged b)
    ∙ ap (parallel meet b) (unchanged c)
unchanged (hide gates b) = ap (hide gates) (unchanged b)
unchanged (enable b variables c) =
    ap (λ (v : Substitution). enable (with_values variable b) variables (with_values v c)) (without-variables (numbers_of variables))
    ∙ (ap (λ (d : Behaviour). enable d variables (with_values variable c)) (unchanged b) ∙ ap (enable b variables) (unchanged c))
unchanged (disable b c) = ap (λ (d : Behaviour). disable d (with_values variable c)) (unchanged b) ∙ ap (disable b) (unchanged c)
unchanged (let_be bindings b) =
    ap (λ (v : Substitution). let_be (map {B = Variable × Term} (λ (x : Variable × Term). (x.0, substituted variable x.1)) bindings)
    (with_values v b)) (without-variables (numbers_of (let_variables bindings)))
    ∙ (ap (λ (bs : List (Variable × Term)). let_be bs (with_values variable b)) (bindings_same bindings)
    ∙ ap (let_be bindings) (unchanged b))
unchanged (choose_value x b) = ap (λ (v : Substitution). choose_value x (with_values v b)) (without-variables (x.number ∷ []))
    ∙ ap (choose_value x) (unchanged b)
unchanged (choose_gate g gates b) = ap (choose_gate g gates) (unchanged b)
unchanged (par_gate g gates meet b) = ap (par_gate g gates meet) (unchanged b)
unchanged (call number gates arguments) = ap (call number gates) (terms_same arguments)
unchanged (relabel pairs b) = ap (relabel pairs) (unchanged b)

-- Nothing put into terms and labels leaves them as they are.
pub terms_stay : (terms : List Term) → map (substituted (leaves_in [])) terms ≡ terms
terms_stay [] = refl
terms_stay (t ∷ ts) =
    let first : substituted variable t ≡ t = substituted_variables t in
    let rest = terms_stay ts in (λ i. first i ∷ rest i)

pub label_stays : (label : Label) → label_with (leaves_in []) label ≡ label
label_stays inner_event = refl
label_stays (gate_event g terms) = ap (gate_event g) (terms_stay terms)
label_stays (exit_event terms) = ap exit_event (terms_stay terms)
