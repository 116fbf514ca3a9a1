-- The run over the rows of a derivation gives the values of its trees.
use Rattle.std.proofs.Common.{◌≡◌, ◌∙◌, ℕ, Bool, true, false, List, [], ◌∷◌, ◌++◌, length, map, take, drop, refl, ap, sym, arith}
use Rattle.std.specs.Prelude.{cond, Option, Some, None, option_and_then, slice_get}
use Rattle.std.proofs.lemmas.Option.{option_and_then_some}
use Rattle.ll_engine.specs.declared.symbol.Symbol.{Symbol}
use Rattle.ll_engine.specs.declared.symbol.Symbol.TheVariants.{Token, Part}
use Rattle.ll_engine.specs.Derivation.{Production, Forest, empty, leaf, node, DerivesSymbols, leaves}
use Rattle.ll_engine.specs.Fold.{begins_kept, first_if, tree_begins_kept, in_front, folded_trees}
use Rattle.ll_engine.specs.Run.{count_parts, Work, work, rest_if, step, step_of, run, kept_tokens}

-- lists
pub append_parts : {A : Type 0} (front back own : List A) (n : ℕ) → length front ≡ n → own ≡ front ++ back → (take n own ≡ front)
    × (drop n own ≡ back)
append_parts [] back own n len e = (ap (λ k. take k own) (sym len), ap (λ k. drop k own) (sym len) ∙ e)
append_parts (x ∷ front) back own n len e =
    let inner = append_parts front back (front ++ back) (length front) refl refl in (
      ap (λ k. take k own) (sym len) ∙ ap (take (length (x ∷ front))) e ∙ more_taken x front back inner.0,
      ap (λ k. drop k own) (sym len) ∙ ap (drop (length (x ∷ front))) e ∙ more_dropped x front back inner.1,
    )
  where
    more_taken : {A : Type 0} (y : A) (ys zs : List A) → take (length ys) (ys ++ zs) ≡ ys → take (length (y ∷ ys)) (y ∷ (ys ++ zs)) ≡ y ∷ ys
    more_taken y ys zs inner = ap (λ l. y ∷ l) inner

    more_dropped : {A : Type 0} (y : A) (ys zs : List A) → drop (length ys) (ys ++ zs) ≡ zs → drop (length (y ∷ ys)) (y ∷ (ys ++ zs)) ≡ zs
    more_dropped y ys zs inner = inner

-- kinds of tokens that are two lists of leaves are those of two lists of tokens
pub record Halves {T : Type 0} (kind : T → ℕ) (own : List T) (left right : List ℕ) : Type 0 where
  pub front : List T
  pub back : List T
  pub both : own ≡ front ++ back
  pub front_are : left ≡ map kind front
  pub back_are : right ≡ map kind back

pub halves : {T : Type 0} (kind : T → ℕ) (own : List T) (left right : List ℕ) → left ++ right ≡ map kind own → Halves kind own left right
halves kind own [] right e = record { front = []; back = own; both = refl; front_are = refl; back_are = e }
halves kind [] (k ∷ left) right e = absurd (cc)
halves kind (token ∷ own) (k ∷ left) right e =
    let inner = halves kind own left right (let rest : left ++ right ≡ map kind own = cc in rest) in
    record {
      front = token ∷ inner.front;
      back = inner.back;
      both = ap (λ l. token ∷ l) inner.both;
      front_are = (let first : k ≡ kind token = cc in ap (λ n. n ∷ left) first) ∙ ap (λ l. kind token ∷ l) inner.front_are;
      back_are = inner.back_are;
    }

pub no_tokens : {T : Type 0} (kind : T → ℕ) (own : List T) → [] ≡ map kind own → own ≡ []
no_tokens kind [] e = refl
no_tokens kind (token ∷ own) e = absurd (cc)

-- the tokens that are kept
module _ {T : Type 0} (kind : T → ℕ) (keeps : ℕ → Bool) where
  pub kept_one : (token : T) (own : List T) → keeps (kind token) ≡ true
      → kept_tokens kind keeps (token ∷ own) ≡ token ∷ kept_tokens kind keeps own
  kept_one token own is = ap (λ (b : Bool). cond b (token ∷ kept_tokens kind keeps own) (kept_tokens kind keeps own)) is

  pub kept_none : (token : T) (own : List T) → keeps (kind token) ≡ false
      → kept_tokens kind keeps (token ∷ own) ≡ kept_tokens kind keeps own
  kept_none token own is = ap (λ (b : Bool). cond b (token ∷ kept_tokens kind keeps own) (kept_tokens kind keeps own)) is

pub and_then_same : {A B : Type 0} (f g : A → Option B) (o : Option A) → ((x : A) → o ≡ Some x → f x ≡ g x)
    → option_and_then f o ≡ option_and_then g o
and_then_same f g None same = refl
and_then_same f g (Some x) same = same x refl

pub and_then_twice : {A B C : Type 0} (f : B → Option C) (g : A → Option B) (o : Option A) →
    option_and_then f (option_and_then g o) ≡ option_and_then (λ x. option_and_then f (g x)) o
and_then_twice f g None = refl
and_then_twice f g (Some x) = refl

module _ {T A : Type 0} (value_of : ℕ → Option T → List A → Option A) (keeps : ℕ → Bool) where
  -- one value for each part
  pub length_folded : (rows : List Production) (trees : Forest) (symbols : List Symbol) (own : List T) (values : List A)
      → DerivesSymbols rows trees symbols →
      folded_trees value_of keeps trees own ≡ Some values → length values ≡ count_parts symbols
  length_folded rows empty [] own values d e = let same : [] ≡ values = cc in ap length (sym same)
  length_folded rows empty (symbol ∷ symbols) own values d e = absurd d
  length_folded rows (leaf t rest) [] own values d e = absurd d
  length_folded rows (leaf t rest) (Token u ∷ symbols) own values d e = length_folded rows rest symbols (drop 1 own) values d.1 e
  length_folded rows (leaf t rest) (Part p ∷ symbols) own values d e = absurd d
  length_folded rows (node r below rest) [] own values d e = absurd d
  length_folded rows (node r below rest) (Token u ∷ symbols) own values d e = absurd d
  length_folded rows (node r below rest) (Part p ∷ symbols) own values d e =
      let mine = take (length (leaves below)) own in
      let value = option_and_then (value_of r (first_if (tree_begins_kept keeps below) mine)) (folded_trees value_of keeps below mine) in
      option_and_then_some (λ after. option_and_then (λ first. Some (first ∷ after)) value)
      (folded_trees value_of keeps rest (drop (length (leaves below)) own)) values e
      (λ after after_is e2.
      option_and_then_some (λ first. Some (first ∷ after)) value values e2
      (λ first first_is e3.
      let same : first ∷ after ≡ values = cc in
      let inner = length_folded rows rest symbols (drop (length (leaves below)) own) after d.4 after_is in
      ap length (sym same) ∙ (let l : length after ≡ count_parts symbols = inner in omega arith)))

  -- a run over two lists of rows
  pub run-append : (rows : List Production) (first second : List ℕ) (before : Work T A) →
      run value_of keeps rows (first ++ second) before ≡ option_and_then (run value_of keeps rows second)
      (run value_of keeps rows first before)
  run-append rows [] second before = refl
  run-append rows (number ∷ first) second before =
      and_then_same (run value_of keeps rows (first ++ second)) (λ after. option_and_then (run value_of keeps rows second)
      (run value_of keeps rows first after))
      (step_of value_of keeps number (slice_get rows number) before) (λ after after_is. run-append rows first second after)
      ∙ sym (and_then_twice (run value_of keeps rows second) (run value_of keeps rows first)
      (step_of value_of keeps number (slice_get rows number) before))

  abbrev pub with_values : List A → List T → List A → Work T A
  with_values below ahead values = work (values ++ below) ahead

  -- what a row does to the values of its parts
  abbrev pub given : ℕ → Bool → List A → List T → List T → List A → Option (Work T A)
  given number takes below ahead rest values = option_and_then (λ value. Some (work (value ∷ below) rest))
      (value_of number (first_if takes ahead) values)

  pub step-values : (number : ℕ) (right : List Symbol) (below values : List A) (ahead : List T) → length values ≡ count_parts right →
      step value_of keeps number right (with_values below ahead values) ≡ given number (begins_kept keeps right) below ahead
      (rest_if (begins_kept keeps right) ahead) values
  step-values number right below values ahead len =
      let parts = append_parts values below (values ++ below) (count_parts right) len refl in
      ap (λ (taken : List A). option_and_then (λ value. Some (work (value ∷ drop (count_parts right) (values ++ below))
      (rest_if (begins_kept keeps right) ahead))) (value_of number (first_if (begins_kept keeps right) ahead) taken)) parts.0
      ∙ ap (λ (left : List A). option_and_then (λ value. Some (work (value ∷ left) (rest_if (begins_kept keeps right) ahead)))
      (value_of number (first_if (begins_kept keeps right) ahead) values)) parts.1

  -- the value of a tree in front of those of the trees behind it
  pub in_front-work : (below : List A) (ahead : List T) (value : Option A) (others : Option (List A)) →
      option_and_then (λ after. option_and_then (λ first. Some (work (first ∷ (after ++ below)) ahead)) value) others
      ≡ option_and_then (λ values. Some (with_values below ahead values)) (in_front value others)
  in_front-work below ahead value None = refl
  in_front-work below ahead None (Some after) = refl
  in_front-work below ahead (Some first) (Some after) = refl
