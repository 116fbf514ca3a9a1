-- What is known of the terms with a property: passed on to other properties, joined, and put together from arguments.
use Rattle.std.proofs.Common.{◌≡◌, ℕ, Bool, true, false, List, [], ◌∷◌, ◌⊎◌, inl, inr, refl, ap, sym, ◌∙◌, subst}
use Rattle.std.specs.Prelude.{Option, Some, None, ◌||◌, nat_eq}
use Rattle.lotos_base.specs.WrittenTerm.{WrittenTerm, WrittenTerms, written, no_written, written_then}
use Rattle.lotos_base.specs.Signature.{Signature}
use Rattle.lotos_base.specs.Equation.{Variable as DeclaredVariable}
use Rattle.lotos_base.specs.Term.{Term, Terms, no_terms, term_then}
use Rattle.sort_terms.specs.Counting.{HasNone, IsOnly, HasTwo}
use Rattle.sort_terms.specs.Reading.{Reads, AllRead}
use Rattle.sort_terms.specs.Choices.{joined_readings}
use Rattle.sort_terms.specs.Tables.{Table, Tables, table, no_tables, table_then, choice_at_sort, combined, with_argument_read, with_offer, gathered}
use Rattle.sort_terms.specs.Suiting.{source_of, Means, MeansSome, Suits, AllSuit}
use Rattle.sort_terms.specs.declared.choices.Choice.{Choice}
use Rattle.sort_terms.specs.declared.choices.Source.{Source}
use Rattle.sort_terms.specs.declared.choices.Source.TheVariants.{Operation}

-- ---- The same property in other words

pub two_also : {A : Type 0} (P Q : A → Type 0) → ((x : A) → P x → Q x) → HasTwo P → HasTwo Q
two_also P Q to two = record {
  one = two.one;
  other = two.other;
  one_is = to two.one two.one_is;
  other_is = to two.other two.other_is;
  differ = two.differ;
}

pub only_also : {A : Type 0} (P Q : A → Type 0) → ((x : A) → P x → Q x) → ((x : A) → Q x → P x) → (x : A) → IsOnly P x → IsOnly Q x
only_also P Q to from x only = record { is_answer = to x only.is_answer; only = λ y h. only.only y (from y h) }

some_also : (P Q : Term → Type 0) → ((t : Term) → P t → Q t) → ((t : Term) → Q t → P t) → (source : Source) (several : Bool)
    → MeansSome P source several → MeansSome Q source several
some_also P Q to from source true two = two_also P Q to two
some_also P Q to from source false one = (one.0, only_also P Q to from one.0 one.1, one.2)

pub means_also : (P Q : Term → Type 0) → ((t : Term) → P t → Q t) → ((t : Term) → Q t → P t) → (c : Option Choice)
    → Means P c → Means Q c
means_also P Q to from None none = λ t h. none t (from t h)
means_also P Q to from (Some c) some = some_also P Q to from c.source c.several some

-- ---- Two properties that no term has both of

abbrev pub Either : (Term → Type 0) → (Term → Type 0) → Term → Type 0
Either P Q t = P t ⊎ Q t

either_none : (P Q : Term → Type 0) → HasNone Q → (t : Term) → Either P Q t → P t
either_none P Q none t (inl p) = p
either_none P Q none t (inr q) = absurd (none t q)

none_either : (P Q : Term → Type 0) → HasNone P → (t : Term) → Either P Q t → Q t
none_either P Q none t (inl p) = absurd (none t p)
none_either P Q none t (inr q) = q

-- one that has the property
pub answer_of : (P : Term → Type 0) (source : Source) (several : Bool) → MeansSome P source several → (t : Term) × P t
answer_of P source true two = (two.one, two.one_is)
answer_of P source false one = (one.0, one.1.is_answer)

pub joined_means : (P Q : Term → Type 0) (known : Option Choice) (source : Source) (several : Bool)
    → ((t u : Term) → P t → Q u → ¬ (t ≡ u)) → Means P known → MeansSome Q source several
    → Means (Either P Q) (joined_readings known source several)
joined_means P Q None source several apart none some =
    some_also Q (Either P Q) (λ t q. inr q) (none_either P Q none) source several some
joined_means P Q (Some c) source several apart some other =
    let one = answer_of P c.source c.several some in
    let two = answer_of Q source several other in
    record {
      one = one.0;
      other = two.0;
      one_is = inl one.1;
      other_is = inr two.1;
      differ = apart one.0 two.0 one.1 two.1;
    }

pub unjoined_means : (P Q : Term → Type 0) (known : Option Choice) → Means P known → HasNone Q → Means (Either P Q) known
unjoined_means P Q known some none = means_also P (Either P Q) (λ t p. inl p) (either_none P Q none) known some

-- one operation more was looked at
pub offer_means : (P Q : Term → Type 0) (s : ℕ) (known : Option Choice) (f : ℕ) (offer : Option (ℕ × Bool))
    → ((t u : Term) → P t → Q u → ¬ (t ≡ u)) → Means P known → Means Q (with_offer s None f offer)
    → Means (Either P Q) (with_offer s known f offer)
offer_means P Q s known f None apart some none = unjoined_means P Q known some none
offer_means P Q s known f (Some offer) apart some other = go (nat_eq s offer.0) refl
  where
    go : (b : Bool) → nat_eq s offer.0 ≡ b → Means (Either P Q) (with_offer s known f (Some offer))
    go true here =
        rw here (joined_means P Q known (Operation f) offer.1 apart some
        (let there : with_offer s None f (Some offer) ≡ joined_readings None (Operation f) offer.1 = rw here refl in
        subst (λ (c : Option Choice). Means Q c) there other))
    go false elsewhere =
        rw elsewhere (unjoined_means P Q known some
        (let there : with_offer s None f (Some offer) ≡ None = rw elsewhere refl in
        subst (λ (c : Option Choice). Means Q c) there other))

-- ---- All operations of a list were looked at

-- the head is one of the operations
abbrev pub HeadIn : List ℕ → Term → Type 0
HeadIn [] t = ⊥
HeadIn (f ∷ fs) t = (source_of t ≡ Operation f) ⊎ HeadIn fs t

-- the number is not in the list
abbrev pub NotIn : ℕ → List ℕ → Type 0
NotIn f [] = Unit {0}
NotIn f (g ∷ gs) = ¬ (f ≡ g) × NotIn f gs

-- no number is twice in the list
abbrev pub AreApart : List ℕ → Type 0
AreApart [] = Unit {0}
AreApart (f ∷ fs) = NotIn f fs × AreApart fs

-- each operation of the list was looked at
abbrev pub EachMeans : (Term → Type 0) → ℕ → (ℕ → Option (ℕ × Bool)) → List ℕ → Type 0
EachMeans R s offer [] = Unit {0}
EachMeans R s offer (f ∷ fs) =
    Means (λ t. R t × (source_of t ≡ Operation f)) (with_offer s None f (offer f)) × EachMeans R s offer fs

not_in_head : (f : ℕ) (fs : List ℕ) (t : Term) → NotIn f fs → source_of t ≡ Operation f → ¬ HeadIn fs t
not_in_head f [] t apart is h = h
not_in_head f (g ∷ gs) t apart is (inl other) =
    let both : Operation f ≡ Operation g = sym is ∙ other in
    let same : f ≡ g = cc in
    apart.0 same
not_in_head f (g ∷ gs) t apart is (inr h) = not_in_head f gs t apart.1 is h

pub gathered_means : (R K : Term → Type 0) (s : ℕ) (offer : ℕ → Option (ℕ × Bool)) (known : Option Choice) (fs : List ℕ)
    → AreApart fs → ((t : Term) → K t → ¬ HeadIn fs t) → Means (λ t. R t × K t) known → EachMeans R s offer fs
    → Means (λ t. R t × Either K (HeadIn fs) t) (gathered offer s known fs)
gathered_means R K s offer known [] apart others some each =
    means_also (λ t. R t × K t) (λ t. R t × Either K (HeadIn []) t) (λ t h. (h.0, inl h.1))
    (λ t h. (h.0, either_none K (HeadIn []) (λ u none. none) t h.1)) known some
gathered_means R K s offer known (f ∷ fs) apart others some each =
    means_also (λ t. R t × Either Known (HeadIn fs) t) (λ t. R t × Either K (HeadIn (f ∷ fs)) t)
    (λ t h. (h.0, out t h.1)) (λ t h. (h.0, back t h.1)) (gathered offer s (with_offer s known f (offer f)) fs)
    (gathered_means R Known s offer (with_offer s known f (offer f)) fs apart.1 apart_known step each.1)
  where
    Known : Term → Type 0
    Known t = K t ⊎ (source_of t ≡ Operation f)

    out : (t : Term) → Either Known (HeadIn fs) t → Either K (HeadIn (f ∷ fs)) t
    out t (inl (inl k)) = inl k
    out t (inl (inr is)) = inr (inl is)
    out t (inr h) = inr (inr h)

    back : (t : Term) → Either K (HeadIn (f ∷ fs)) t → Either Known (HeadIn fs) t
    back t (inl k) = inl (inl k)
    back t (inr (inl is)) = inl (inr is)
    back t (inr (inr h)) = inr h

    apart_known : (t : Term) → Known t → ¬ HeadIn fs t
    apart_known t (inl k) h = others t k (inr h)
    apart_known t (inr is) h = not_in_head f fs t apart.0 is h

    step : Means (λ t. R t × Known t) (with_offer s known f (offer f))
    step =
        means_also (Either (λ t. R t × K t) (λ t. R t × (source_of t ≡ Operation f))) (λ t. R t × Known t)
        (λ t h. elim h [ inl p ↦ (p.0, inl p.1) | inr q ↦ (q.0, inr q.1) ])
        (λ t h. elim h.1 [ inl k ↦ inl (h.0, k) | inr is ↦ inr (h.0, is) ]) (with_offer s known f (offer f))
        (offer_means (λ t. R t × K t) (λ t. R t × (source_of t ≡ Operation f)) s known f (offer f)
        (λ t u p q same. others t p.1 (inl (ap source_of same ∙ q.1))) some each.0)

-- ---- Arguments

-- what is known of the argument lists with a property: none, several, or one
abbrev pub MeansArguments : (Terms → Type 0) → Option Bool → Type 0
MeansArguments IsAnswer None = HasNone IsAnswer
MeansArguments IsAnswer (Some true) = HasTwo IsAnswer
MeansArguments IsAnswer (Some false) = (ts : Terms) × IsOnly IsAnswer ts

-- a term before terms
abbrev pub BothAre : (Term → Type 0) → (Terms → Type 0) → Terms → Type 0
BothAre P Q no_terms = ⊥
BothAre P Q (term_then t ts) = P t × Q ts

arguments_answer : (Q : Terms → Type 0) (several : Bool) → MeansArguments Q (Some several) → (ts : Terms) × Q ts
arguments_answer Q true two = (two.one, two.one_is)
arguments_answer Q false one = (one.0, one.1.is_answer)

cons_some : (P : Term → Type 0) (Q R : Terms → Type 0) → ((ts : Terms) → R ts → BothAre P Q ts) → ((ts : Terms) → BothAre P Q ts → R ts)
    → (source : Source) (several rest : Bool) → MeansSome P source several → MeansArguments Q (Some rest)
    → MeansArguments R (Some (several || rest))
cons_some P Q R to from source true rest two others =
    let some = arguments_answer Q rest others in
    record {
      one = term_then two.one some.0;
      other = term_then two.other some.0;
      one_is = from (term_then two.one some.0) (two.one_is, some.1);
      other_is = from (term_then two.other some.0) (two.other_is, some.1);
      differ = λ same. two.differ (let first : two.one ≡ two.other = cc in first);
    }
cons_some P Q R to from source false true one two =
    record {
      one = term_then one.0 two.one;
      other = term_then one.0 two.other;
      one_is = from (term_then one.0 two.one) (one.1.is_answer, two.one_is);
      other_is = from (term_then one.0 two.other) (one.1.is_answer, two.other_is);
      differ = λ same. two.differ (let rest : two.one ≡ two.other = cc in rest);
    }
cons_some P Q R to from source false false one rest = (
  term_then one.0 rest.0,
  record {
    is_answer = from (term_then one.0 rest.0) (one.1.is_answer, rest.1.is_answer);
    only = λ ts h. go ts (to ts h);
  },
)
  where
    go : (ts : Terms) → BothAre P Q ts → ts ≡ term_then one.0 rest.0
    go no_terms h = absurd h
    go (term_then t ts) h =
        let first : t ≡ one.0 = one.1.only t h.0 in
        let others : ts ≡ rest.0 = rest.1.only ts h.1 in
        cc

cons_means : (P : Term → Type 0) (Q R : Terms → Type 0) → ((ts : Terms) → R ts → BothAre P Q ts) → ((ts : Terms) → BothAre P Q ts → R ts)
    → (c : Option Choice) (rest : Option Bool) → Means P c → MeansArguments Q rest → MeansArguments R (with_argument_read c rest)
cons_means P Q R to from None rest none others = λ ts h. go ts (to ts h)
  where
    go : (ts : Terms) → BothAre P Q ts → ⊥
    go no_terms h = h
    go (term_then t ts) h = none t h.0
cons_means P Q R to from (Some c) None some none = λ ts h. go ts (to ts h)
  where
    go : (ts : Terms) → BothAre P Q ts → ⊥
    go no_terms h = h
    go (term_then t ts) h = none ts h.1
cons_means P Q R to from (Some c) (Some rest) some others = cons_some P Q R to from c.source c.several rest some others

-- a table says what it says at each sort
pub suits_means : (signature : Signature) (scope : List DeclaredVariable) (w : WrittenTerm) (t : Table) → Suits signature scope w t
    → (s : ℕ) → Means (λ u. Reads signature scope w u s) (choice_at_sort t s)
suits_means signature scope (written head arguments) (table choices ts) suits = suits.0

-- what is known of arguments at the sorts of a profile
pub arguments_mean : (signature : Signature) (scope : List DeclaredVariable) (ws : WrittenTerms) (ts : Tables)
    → AllSuit signature scope ws ts → (sorts : List ℕ)
    → MeansArguments (λ us. AllRead signature scope ws us sorts) (combined sorts ts)
arguments_mean signature scope no_written no_tables suits [] =
    (no_terms, record { is_answer = tt; only = λ us h. go us h })
  where
    go : (us : Terms) → AllRead signature scope no_written us [] → us ≡ no_terms
    go no_terms h = refl
    go (term_then u us) h = absurd h
arguments_mean signature scope no_written no_tables suits (s ∷ ss) = λ us h. go us h
  where
    go : (us : Terms) → AllRead signature scope no_written us (s ∷ ss) → ⊥
    go no_terms h = h
    go (term_then u us) h = h
arguments_mean signature scope no_written (table_then t ts) suits sorts = absurd suits
arguments_mean signature scope (written_then w ws) no_tables suits sorts = absurd suits
arguments_mean signature scope (written_then w ws) (table_then t ts) suits [] = λ us h. go us h
  where
    go : (us : Terms) → AllRead signature scope (written_then w ws) us [] → ⊥
    go no_terms h = h
    go (term_then u us) h = h
arguments_mean signature scope (written_then w ws) (table_then t ts) suits (s ∷ ss) =
    cons_means (λ u. Reads signature scope w u s) (λ us. AllRead signature scope ws us ss)
    (λ us. AllRead signature scope (written_then w ws) us (s ∷ ss)) to from (choice_at_sort t s) (combined ss ts)
    (suits_means signature scope w t suits.0 s) (arguments_mean signature scope ws ts suits.1 ss)
  where
    to : (us : Terms) → AllRead signature scope (written_then w ws) us (s ∷ ss)
        → BothAre (λ u. Reads signature scope w u s) (λ rest. AllRead signature scope ws rest ss) us
    to no_terms h = h
    to (term_then u us) h = h

    from : (us : Terms) → BothAre (λ u. Reads signature scope w u s) (λ rest. AllRead signature scope ws rest ss) us
        → AllRead signature scope (written_then w ws) us (s ∷ ss)
    from no_terms h = h
    from (term_then u us) h = h
