-- The values of labels and of variables, one offer after another.
use Rattle.std.proofs.Common.{◌≡◌, ◌<◌, ◌+◌, ◌++◌, ℕ, suc, List, [], ◌∷◌, map, length, drop, get_or, add-one, refl, ap, sym, ◌∙◌, subst, arith}
use Rattle.std.specs.Prelude.{zip}
use Rattle.std.proofs.Math.Seq.{drop-cons}
use Rattle.lotos_base.specs.Signature.{Signature}
use Rattle.lotos_base.specs.Substitution.{Substitution}
use Rattle.lotos_base.specs.Term.{Term}
use Rattle.behaviour_semantics.specs.Behaviour.{asked_variables, let_terms, let_variables, numbers_of, open_sorts, sorts_of}
use Rattle.behaviour_semantics.specs.Move.{taken}
use Rattle.behaviour_semantics.specs.Rule.{offered, results_of}
use Rattle.sort_terms.specs.ProfiledTerm.{ProfiledTerm, IsOf}
use Rattle.sort_terms.specs.SortedView.{profiled_in, term_in}
use Rattle.sort_terms.specs.declared.equations.Variable.{Variable}
use Rattle.sort_terms.specs.declared.sorted.Sorted.{Sorted}
use Rattle.behaviour_tree.specs.BehaviourTerms.{joined, profiles_of}
use Rattle.behaviour_tree.specs.BehaviourView.{exit_value_of, let_of, offer_of, terms_of, variables_of}
use Rattle.behaviour_tree.specs.Over.{AreTermsOf}
use Rattle.behaviour_tree.specs.StateView.{pair_profile}
use Rattle.behaviour_tree.specs.declared.behaviours.ExitValue.{ExitValue}
use Rattle.behaviour_tree.specs.declared.behaviours.ExitValue.TheVariants as exit_value
use Rattle.behaviour_tree.specs.declared.behaviours.Offer.{Offer}
use Rattle.behaviour_tree.specs.declared.behaviours.Offer.TheVariants.{Give, Ask}

-- one more member of a list of which something is made
pub one_more : {A X : Type 0} (f : A → X) (old new : List A) (value : A) (made : X) (rest : List X) → new ≡ old ++ (value ∷ [])
    → f value ≡ made → map f new ++ rest ≡ map f old ++ (made ∷ rest)
one_more {A = A} {X = X} f old new value made rest e h =
    ap (λ (xs : List A). map f xs ++ rest) e ∙ (by old ∙ ap (λ (x : X). map f old ++ (x ∷ rest)) h)
  where
    by : (xs : List A) → map f (xs ++ (value ∷ [])) ++ rest ≡ map f xs ++ (f value ∷ rest)
    by [] = refl
    by (x ∷ xs) = ap (λ (ys : List X). f x ∷ ys) (by xs)

-- one more term is of the signature
pub more_of : (signature : Signature) (old new : List Sorted) (value : Sorted) → new ≡ old ++ (value ∷ []) → IsOf signature (profiled_in
    value)
    → AreTermsOf signature (profiles_of old) → AreTermsOf signature (profiles_of new)
more_of signature old new value e v o = subst (λ (xs : List Sorted). AreTermsOf signature (profiles_of xs)) (sym e) (by old o)
  where
    by : (xs : List Sorted) → AreTermsOf signature (profiles_of xs) → AreTermsOf signature (profiles_of (xs ++ (value ∷ [])))
    by [] h = (v, tt)
    by (x ∷ xs) h = (h.0, by xs h.1)

pub pairs_more_of : (signature : Signature) (old new : List (ℕ × Sorted)) (n : ℕ) (value : Sorted) → new ≡ old ++ ((n, value) ∷ [])
    → IsOf signature (profiled_in value) → AreTermsOf signature (map pair_profile old) → AreTermsOf signature (map pair_profile new)
pairs_more_of signature old new n value e v o =
    subst (λ (xs : List (ℕ × Sorted)). AreTermsOf signature (map pair_profile xs)) (sym e) (by old o)
  where
    by : (xs : List (ℕ × Sorted)) → AreTermsOf signature (map pair_profile xs)
        → AreTermsOf signature (map pair_profile (xs ++ ((n, value) ∷ [])))
    by [] h = (v, tt)
    by (x ∷ xs) h = (h.0, by xs h.1)

module _ (canon : Term → Term) (values : Substitution) where
  -- the values of an action's label from an offer on
  abbrev pub offered_from : ℕ → List Offer → List Term
  offered_from k offers = offered canon (map offer_of offers) (taken values k (sorts_of (asked_variables (map offer_of offers))))

  pub give_offered : (next : ℕ) (offer : Offer) (t : Sorted) (rest : List Offer) → offer ≡ Give t
      → canon (term_in t) ∷ offered_from next rest ≡ offered_from next (offer ∷ rest)
  give_offered next offer t rest e = ap (λ (o : Offer). offered_from next (o ∷ rest)) (sym e)

  pub ask_offered : (next n : ℕ) (offer : Offer) (x : Variable) (leaf : Term) (rest : List Offer) → offer ≡ Ask x
      → values next x.sort ≡ leaf → n ≡ next + 1 → canon leaf ∷ offered_from n rest ≡ offered_from next (offer ∷ rest)
  ask_offered next n offer x leaf rest e is more =
      ap (λ (t : Term). canon t ∷ offered_from n rest) (sym is)
      ∙ (ap (λ (k : ℕ). canon (values next x.sort) ∷ offered_from k rest) (more ∙ add-one next)
      ∙ ap (λ (o : Offer). offered_from next (o ∷ rest)) (sym e))

  -- the pairs of variables and their leaves from an offer on
  abbrev pub paired_from : ℕ → List Offer → List (ℕ × Term)
  paired_from k offers =
      zip (numbers_of (asked_variables (map offer_of offers)))
      (map canon (taken values k (sorts_of (asked_variables (map offer_of offers)))))

  pub give_paired : (next : ℕ) (offer : Offer) (t : Sorted) (rest : List Offer) → offer ≡ Give t
      → paired_from next rest ≡ paired_from next (offer ∷ rest)
  give_paired next offer t rest e = ap (λ (o : Offer). paired_from next (o ∷ rest)) (sym e)

  pub ask_paired : (next n : ℕ) (offer : Offer) (x : Variable) (leaf : Term) (rest : List Offer) → offer ≡ Ask x
      → values next x.sort ≡ leaf → n ≡ next + 1 → (x.number, canon leaf) ∷ paired_from n rest ≡ paired_from next (offer ∷ rest)
  ask_paired next n offer x leaf rest e is more =
      ap (λ (t : Term). (x.number, canon t) ∷ paired_from n rest) (sym is)
      ∙ (ap (λ (k : ℕ). (x.number, canon (values next x.sort)) ∷ paired_from k rest) (more ∙ add-one next)
      ∙ ap (λ (o : Offer). paired_from next (o ∷ rest)) (sym e))

  -- the values of an `exit` from one on
  abbrev pub results_from : ℕ → List ExitValue → List Term
  results_from k results = results_of canon (map exit_value_of results) (taken values k (open_sorts (map exit_value_of results)))

  pub give_result : (next : ℕ) (value : ExitValue) (t : Sorted) (rest : List ExitValue) → value ≡ exit_value.Give t
      → canon (term_in t) ∷ results_from next rest ≡ results_from next (value ∷ rest)
  give_result next value t rest e = ap (λ (v : ExitValue). results_from next (v ∷ rest)) (sym e)

  pub any_result : (next n : ℕ) (value : ExitValue) (s : ℕ) (leaf : Term) (rest : List ExitValue) → value ≡ exit_value.Any s
      → values next s ≡ leaf → n ≡ next + 1 → canon leaf ∷ results_from n rest ≡ results_from next (value ∷ rest)
  any_result next n value s leaf rest e is more =
      ap (λ (t : Term). canon t ∷ results_from n rest) (sym is)
      ∙ (ap (λ (k : ℕ). canon (values next s) ∷ results_from k rest) (more ∙ add-one next)
      ∙ ap (λ (v : ExitValue). results_from next (v ∷ rest)) (sym e))

module _ (canon : Term → Term) where
  -- the pairs of variables of `let` and their terms, and of parameters and their values
  abbrev pub let_paired : List (Variable × Sorted) → List (ℕ × Term)
  let_paired bindings = zip (numbers_of (let_variables (map let_of bindings))) (map canon (let_terms (map let_of bindings)))

  abbrev pub call_paired : List Variable → List Sorted → List (ℕ × Term)
  call_paired parameters values = zip (numbers_of (variables_of parameters)) (map canon (terms_of values))

  pub nothing_called : (parameters : List Variable) → call_paired parameters [] ≡ []
  nothing_called [] = refl
  nothing_called (x ∷ parameters) = refl

-- ---- How many leaves are wanted
abbrev pub asked_count : List Offer → ℕ
asked_count offers = length (sorts_of (asked_variables (map offer_of offers)))

pub asked_split : (offer : Offer) (rest : List Offer) → asked_count (offer ∷ rest) ≡ asked_count (offer ∷ []) + asked_count rest
asked_split (Give t) rest = omega arith
asked_split (Ask x) rest = omega arith

pub none_asked : (offer : Offer) (t : Sorted) → offer ≡ Give t → asked_count (offer ∷ []) ≡ 0
none_asked offer t e = ap (λ (o : Offer). asked_count (o ∷ [])) e

pub one_asked : (offer : Offer) (x : Variable) → offer ≡ Ask x → asked_count (offer ∷ []) ≡ 1
one_asked offer x e = ap (λ (o : Offer). asked_count (o ∷ [])) e

abbrev pub open_count : List ExitValue → ℕ
open_count values = length (open_sorts (map exit_value_of values))

pub open_split : (value : ExitValue) (rest : List ExitValue) → open_count (value ∷ rest) ≡ open_count (value ∷ []) + open_count rest
open_split (exit_value.Give t) rest = omega arith
open_split (exit_value.Any s) rest = omega arith

pub none_open : (value : ExitValue) (t : Sorted) → value ≡ exit_value.Give t → open_count (value ∷ []) ≡ 0
none_open value t e = ap (λ (v : ExitValue). open_count (v ∷ [])) e

pub one_open : (value : ExitValue) (s : ℕ) → value ≡ exit_value.Any s → open_count (value ∷ []) ≡ 1
one_open value s e = ap (λ (v : ExitValue). open_count (v ∷ [])) e

-- ---- Turns of loops
module _ {A : Type 0} (items : List A) (i : ℕ) (x : A) (within : i < length items) (is : x ≡ get_or items i x) where
  -- the rest begins with the member
  pub rest_is : drop i items ≡ x ∷ drop (i + 1) items
  rest_is =
      drop-cons items i x within ∙ (ap (λ (y : A). y ∷ drop (suc i) items) (sym is) ∙ ap (λ (k : ℕ). x ∷ drop k items) (sym (add-one i)))

  -- one turn of a loop with a number of its own
  pub numbered_turn : {X : Type 0} (f : ℕ → List A → List X) (n m : ℕ) (old more whole : List X)
      → ((rest : List A) → more ++ f m rest ≡ old ++ f n (x ∷ rest)) → old ++ f n (drop i items) ≡ whole
      → more ++ f m (drop (i + 1) items) ≡ whole
  numbered_turn {X = X} f n m old more whole step before =
      step (drop (i + 1) items) ∙ (ap (λ (xs : List A). old ++ f n xs) (sym rest_is) ∙ before)

  -- the terms of the member, and those of the rest
  pub terms_turn : (f : A → List ProfiledTerm) (signature : Signature) → AreTermsOf signature (joined (map f (drop i items)))
      → AreTermsOf signature (f x) × AreTermsOf signature (joined (map f (drop (i + 1) items)))
  terms_turn f signature h =
      split (f x) (joined (map f (drop (i + 1) items)))
      (subst (λ (xs : List A). AreTermsOf signature (joined (map f xs))) rest_is h)
    where
      split : (ts us : List ProfiledTerm) → AreTermsOf signature (ts ++ us) → AreTermsOf signature ts × AreTermsOf signature us
      split [] us o = (tt, o)
      split (t ∷ ts) us o = let rest = split ts us o.1 in ((o.0, rest.0), rest.1)

  pub term_turn : (f : A → ProfiledTerm) (signature : Signature) → AreTermsOf signature (map f (drop i items))
      → IsOf signature (f x) × AreTermsOf signature (map f (drop (i + 1) items))
  term_turn f signature h = subst (λ (xs : List A). AreTermsOf signature (map f xs)) rest_is h

-- one turn of a loop over parameters and values
pub called_turn : (canon : Term → Term) (parameters : List Variable) (values : List Sorted) (i : ℕ) (x : Variable) (v : Sorted)
    → i < length parameters → x ≡ get_or parameters i x → i < length values → v ≡ get_or values i v
    → (old more whole : List (ℕ × Term)) → ((rest : List (ℕ × Term)) → more ++ rest ≡ old ++ ((x.number, canon (term_in v)) ∷ rest))
    → old ++ call_paired canon (drop i parameters) (drop i values) ≡ whole
    → more ++ call_paired canon (drop (i + 1) parameters) (drop (i + 1) values) ≡ whole
called_turn canon parameters values i x v in_first is_first in_second is_second old more whole step before =
    step (call_paired canon (drop (i + 1) parameters) (drop (i + 1) values))
    ∙ (ap (λ (xs : List Variable). old ++ call_paired canon xs (v ∷ drop (i + 1) values)) (sym (rest_is parameters i x in_first is_first))
    ∙ (ap (λ (xs : List Sorted). old ++ call_paired canon (drop i parameters) xs) (sym (rest_is values i v in_second is_second)) ∙ before))
