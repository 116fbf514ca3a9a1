-- Numbers of instances of terms, from those of their parts.
use Rattle.std.proofs.Common.{arith, refl, ap, sym, ◌∙◌, ◌≡◌, ◌≤◌, ◌+◌, subst, ℕ, List, [], ◌∷◌, ◌++◌, length, drop, append_assoc, append-nil, Option, None, Some}
use Rattle.std.specs.Prelude.{Result, IfOk}
use Rattle.std.specs.Option.{option_map}
use Rattle.std.proofs.Math.Seq.{drop-append_seam}
use Rattle.std.proofs.lemmas.List.{length-append}
use Rattle.std.proofs.lemmas.Result.{IfOk-weaker}
use Rattle.lotos_base.specs.Signature.{Signature, Operation, IsOperation}
use Rattle.sort_terms.specs.ProfiledTerm.{ProfiledTerm, ProfiledTerms, profiled_variable, profiled_node, no_profiled_terms, profiled_term_then, IsOf, AreOf}
use Rattle.term_store.specs.Cells.{variable_key, numbered_operation_key, members, key_term, key_terms, AreBelow, IsCell, HasOneMore, KeyStandsAt, HaveTermsOf, Grows}
use Rattle.term_match.specs.ProfiledInstance.{ProfiledSubstitution, profiled_binding, profiled_instance, profiled_instances}
use Rattle.term_rewriter.proofs.ValueLemmas.{bound_value, unbound_value}
use Rattle.term_store.specs.Numbered.{term_at, TakesIn, TakeIn, IsNumberOfTerm, numbered_pairs, numbers_in, numbered_substitution, IsInstanceOf, AreInstancesOf}
use Rattle.term_store.specs.NumberSearch.{number_under}
use Rattle.term_store.proofs.CellLemmas.{grown_stays, grows_on, grows_not}
use Rattle.term_store.proofs.GrowthLemmas.{operation_there, grows_one, terms_more, number_term}
use Rattle.term_store.proofs.SearchLemmas.{pairs_under, under_below, below_more}

pub grows_length : (before after : List (List ℕ)) → Grows before after → length before ≤ length after
grows_length before after grows =
    let whole : length after ≡ length before + length grows.0 = ap length grows.1 ∙ length-append before grows.0 in
    omega (arith, whole)

-- ---- The terms with numbers below the bound

pub members_of : (signature : Signature) (keys : List (List ℕ)) (ns : List ℕ) → HaveTermsOf signature keys → AreBelow (length keys) ns
    → AreOf signature (members (key_terms signature keys) ns)
members_of signature keys [] have below = tt
members_of signature keys (n ∷ ns) have below = (have.of n below.0, members_of signature keys ns have below.1)

pub pairs_stay : (signature : Signature) (before after : List (List ℕ)) (pairs : List (ℕ × ℕ)) → Grows before after
    → AreBelow (length before) (numbers_in pairs) → numbered_pairs signature after pairs ≡ numbered_pairs signature before pairs
pairs_stay signature before after [] grows below = refl
pairs_stay signature before after (pair ∷ pairs) grows below =
    let here = grown_stays signature before after pair.1 grows below.0 in
    let there = pairs_stay signature before after pairs grows below.1 in
    λ i. (pair.0, here i) ∷ there i

pub below_grown : (before after : List (List ℕ)) (ns : List ℕ) → Grows before after → AreBelow (length before) ns
    → AreBelow (length after) ns
below_grown before after ns grows below = below_more (length before) (length after) ns (grows_length before after grows) below

-- ---- A variable that has nothing

variable_cell : (n s bound : ℕ) (key : List ℕ) → key ≡ variable_key n s → IsCell bound key
variable_cell n s bound key made = subst (λ (k : List ℕ). IsCell bound k) (sym made) refl

variable_is : (n s : ℕ) (keys : List (List ℕ)) (key : List ℕ) (signature : Signature) → key ≡ variable_key n s
    → key_term signature (key_terms signature keys) key ≡ profiled_variable n s
variable_is n s keys key signature made = ap (λ (k : List ℕ). key_term signature (key_terms signature keys) k) made

pub variable_taken : (t : ProfiledTerm) (n s : ℕ) (before : List (List ℕ)) (key : List ℕ) (after : List (List ℕ))
    → t ≡ profiled_variable n s → key ≡ variable_key n s → HasOneMore before key after → TakesIn t before after
variable_taken t n s before key after is made more = record {
  grows = grows_one before key after more;
  have = λ signature of have.
      terms_more signature before key after more (variable_cell n s (length before) key made)
      (subst (λ (u : ProfiledTerm). IsOf signature u) (is ∙ sym (variable_is n s before key signature made)) of) have;
}

pub variable_number : {E : Type 0} (pairs : List (ℕ × ℕ)) (t : ProfiledTerm) (n s : ℕ) (before : List (List ℕ)) (key : List ℕ)
    (after : List (List ℕ)) (result : Result ℕ E) → None ≡ number_under n pairs → t ≡ profiled_variable n s → key ≡ variable_key n s
    → HasOneMore before key after → IfOk result (λ number. KeyStandsAt after key number)
    → IfOk result (λ number. IsInstanceOf (numbered_substitution pairs before) t before after number)
variable_number pairs t n s before key after result nothing is made more stands =
    IfOk-weaker result (λ number. KeyStandsAt after key number)
    (λ number. IsInstanceOf (numbered_substitution pairs before) t before after number)
    (λ number at. record {
      within = at.within;
      term = λ signature of have.
          number_term signature before key after number (grows_one before key after more)
          (variable_cell n s (length before) key made) ((variable_taken t n s before key after is made more).have signature of have).cells
          at.within at.is
          ∙ variable_is n s before key signature made
          ∙ unbound_value (numbered_pairs signature before pairs) n s
          (ap (λ (o : Option ℕ). option_map (term_at signature before) o) nothing ∙ pairs_under signature before n pairs)
          ∙ ap (λ (u : ProfiledTerm). profiled_instance (numbered_substitution pairs before signature) u) (sym is);
    }) stands

-- ---- A variable that has something

pub known_number : (pairs : List (ℕ × ℕ)) (t : ProfiledTerm) (n s : ℕ) (keys : List (List ℕ)) (known : ℕ)
    → Some known ≡ number_under n pairs → t ≡ profiled_variable n s → AreBelow (length keys) (numbers_in pairs)
    → IsInstanceOf (numbered_substitution pairs keys) t keys keys known
known_number pairs t n s keys known found is below = record {
  within = (under_below (length keys) n pairs below).below known (sym found);
  term = λ signature of have.
      bound_value (numbered_pairs signature keys pairs) n s (term_at signature keys known)
      (ap (λ (o : Option ℕ). option_map (term_at signature keys) o) found ∙ pairs_under signature keys n pairs)
      ∙ ap (λ (u : ProfiledTerm). profiled_instance (numbered_substitution pairs keys signature) u) (sym is);
}

-- ---- An operation

operation_cell : (f bound : ℕ) (numbers key : List ℕ) → key ≡ numbered_operation_key f numbers → AreBelow bound numbers → IsCell bound key
operation_cell f bound numbers key made below = subst (λ (k : List ℕ). IsCell bound k) (sym made) (refl, below)

-- what was made of the arguments
pub record IsReadied (values : Signature → ProfiledSubstitution) (f : ℕ) (ts : ProfiledTerms) (before middle : List (List ℕ))
    (key : List ℕ) : Type 0 where
  pub takes : TakeIn ts before middle
  pub numbers : List ℕ
  pub made : key ≡ numbered_operation_key f numbers
  pub within : AreBelow (length middle) numbers
  pub terms : (signature : Signature) → AreOf signature ts → HaveTermsOf signature before
      → members (key_terms signature middle) numbers ≡ profiled_instances (values signature) ts

-- their numbers stand behind others
pub readied_behind : (values : Signature → ProfiledSubstitution) (f : ℕ) (ts : ProfiledTerms) (before middle : List (List ℕ))
    (old more : List ℕ) (start : ℕ) → start ≡ length old → TakeIn ts before middle → AreInstancesOf values ts before middle old more
    → IsReadied values f ts before middle (numbered_operation_key f (drop start more))
readied_behind values f ts before middle old more start at takes numbers = record {
  takes = takes;
  numbers = numbers.numbers;
  made = ap (λ (k : ℕ). numbered_operation_key f (drop k more)) at
      ∙ ap (λ (ns : List ℕ). numbered_operation_key f (drop (length old) ns)) numbers.behind
      ∙ ap (λ (ns : List ℕ). numbered_operation_key f ns) (drop-append_seam old numbers.numbers);
  within = numbers.within;
  terms = numbers.terms;
}

pub operation_taken : (values : Signature → ProfiledSubstitution) (t : ProfiledTerm) (f : ℕ) (operation : Operation) (ts : ProfiledTerms)
    (before middle : List (List ℕ)) (key : List ℕ) (after : List (List ℕ)) → t ≡ profiled_node f operation ts
    → IsReadied values f ts before middle key → HasOneMore middle key after → TakesIn t before after
operation_taken values t f operation ts before middle key after is ready more = record {
  grows = grows_on before middle after ready.takes.grows (grows_one middle key after more);
  have = λ signature of have.
      let whole = subst (λ (u : ProfiledTerm). IsOf signature u) is of in
      let inner = ready.takes.have signature whole.1 have in
      let head = operation_there signature f operation whole.0 in
      terms_more signature middle key after more (operation_cell f (length middle) ready.numbers key ready.made ready.within)
      (subst (λ (k : List ℕ). IsOf signature (key_term signature (key_terms signature middle) k)) (sym ready.made) (
        subst (λ (o : Operation). IsOperation signature f o) (sym head) whole.0,
        members_of signature middle ready.numbers inner ready.within,
      )) inner;
}

pub operation_number : {E : Type 0} (values : Signature → ProfiledSubstitution) (t : ProfiledTerm) (f : ℕ) (operation : Operation)
    (ts : ProfiledTerms) (before middle : List (List ℕ)) (key : List ℕ) (after : List (List ℕ)) (result : Result ℕ E)
    → t ≡ profiled_node f operation ts → IsReadied values f ts before middle key → HasOneMore middle key after
    → IfOk result (λ number. KeyStandsAt after key number) → IfOk result (λ number. IsInstanceOf values t before after number)
operation_number values t f operation ts before middle key after result is ready more stands =
    IfOk-weaker result (λ number. KeyStandsAt after key number) (λ number. IsInstanceOf values t before after number)
    (λ number at. record {
      within = at.within;
      term = λ signature of have.
          let whole = subst (λ (u : ProfiledTerm). IsOf signature u) is of in
          let head = operation_there signature f operation whole.0 in
          let arguments = ready.terms signature whole.1 have in
          number_term signature middle key after number (grows_one middle key after more)
          (operation_cell f (length middle) ready.numbers key ready.made ready.within)
          ((operation_taken values t f operation ts before middle key after is ready more).have signature of have).cells at.within at.is
          ∙ ap (λ (k : List ℕ). key_term signature (key_terms signature middle) k) ready.made
          ∙ (λ i. profiled_node f (head i) (arguments i))
          ∙ ap (λ (u : ProfiledTerm). profiled_instance (values signature) u) (sym is);
    }) stands

-- ---- The arguments, one after another

pub take_cons : (t : ProfiledTerm) (ts : ProfiledTerms) (first second third : List (List ℕ)) → TakesIn t first second
    → TakeIn ts second third → TakeIn (profiled_term_then t ts) first third
take_cons t ts first second third one more = record {
  grows = grows_on first second third one.grows more.grows;
  have = λ signature of have. more.have signature of.1 (one.have signature of.0 have);
}

pub take_nothing : (ts : ProfiledTerms) (keys : List (List ℕ)) → TakeIn ts keys keys
take_nothing ts keys = record { grows = grows_not keys; have = λ signature of have. have }

pub number_cons : (values : Signature → ProfiledSubstitution) (t : ProfiledTerm) (ts : ProfiledTerms) (first second third : List (List ℕ))
    (key more : List ℕ) (n : ℕ) → TakesIn t first second → IsInstanceOf values t first second n → TakeIn ts second third
    → AreInstancesOf values ts second third (key ++ n ∷ []) more → AreInstancesOf values (profiled_term_then t ts) first third key more
number_cons values t ts first second third key more n one number rest others = record {
  numbers = n ∷ others.numbers;
  behind = others.behind ∙ append_assoc key (n ∷ []) others.numbers;
  within = ((let low = number.within in let long = grows_length second third rest.grows in omega (arith, low, long)), others.within);
  terms = λ signature of have.
      let here = grown_stays signature second third n rest.grows number.within ∙ number.term signature of.0 have in
      let there = others.terms signature of.1 (one.have signature of.0 have) in
      λ i. profiled_term_then (here i) (there i);
}

pub number_nothing : (values : Signature → ProfiledSubstitution) (keys : List (List ℕ)) (key : List ℕ)
    → AreInstancesOf values no_profiled_terms keys keys key key
number_nothing values keys key = record {
  numbers = [];
  behind = sym (append-nil key);
  within = tt;
  terms = λ signature of have. refl;
}

-- what is left to do decides what comes of the whole
pub record IsNumberedSoFar (pairs : List (ℕ × ℕ)) (ts later : ProfiledTerms) (before now : List (List ℕ)) (head key : List ℕ)
    : Type 0 where
  pub grows : Grows before now
  pub takes : (after : List (List ℕ)) → TakeIn later now after → TakeIn ts before after
  pub numbers : (after : List (List ℕ)) (more : List ℕ) → TakeIn later now after
      → AreInstancesOf (numbered_substitution pairs before) later now after key more
      → AreInstancesOf (numbered_substitution pairs before) ts before after head more

-- what the pairs put stays as more terms come
pub values_stay : (pairs : List (ℕ × ℕ)) (t : ProfiledTerm) (before now next : List (List ℕ)) (n : ℕ) → Grows before now
    → AreBelow (length before) (numbers_in pairs) → IsInstanceOf (numbered_substitution pairs now) t now next n
    → IsInstanceOf (numbered_substitution pairs before) t now next n
values_stay pairs t before now next n grows below number = record {
  within = number.within;
  term = λ signature of have.
      number.term signature of have
      ∙ ap (λ (ps : List (ℕ × ProfiledTerm)). profiled_instance (profiled_binding ps) t)
      (pairs_stay signature before now pairs grows below);
}

pub numbered_one : (pairs : List (ℕ × ℕ)) (t : ProfiledTerm) (ts later rest : ProfiledTerms) (before now next : List (List ℕ))
    (head key : List ℕ) (n : ℕ) → AreBelow (length before) (numbers_in pairs) → later ≡ profiled_term_then t rest
    → IsNumberedSoFar pairs ts later before now head key → TakesIn t now next → IsInstanceOf (numbered_substitution pairs now) t now next n
    → IsNumberedSoFar pairs ts rest before next head (key ++ n ∷ [])
numbered_one pairs t ts later rest before now next head key n below is so_far one number = record {
  grows = grows_on before now next so_far.grows one.grows;
  takes = λ after takes.
      so_far.takes after (subst (λ (us : ProfiledTerms). TakeIn us now after) (sym is) (take_cons t rest now next after one takes));
  numbers = λ after more takes numbers.
      so_far.numbers after more
      (subst (λ (us : ProfiledTerms). TakeIn us now after) (sym is) (take_cons t rest now next after one takes))
      (subst (λ (us : ProfiledTerms). AreInstancesOf (numbered_substitution pairs before) us now after key more) (sym is)
      (number_cons (numbered_substitution pairs before) t rest now next after key more n one
      (values_stay pairs t before now next n so_far.grows below number) takes numbers));
}

-- also where the number of the next one is not got
pub numbered_not : (pairs : List (ℕ × ℕ)) (t : ProfiledTerm) (ts later rest : ProfiledTerms) (before now next : List (List ℕ))
    (head key : List ℕ) → later ≡ profiled_term_then t rest → IsNumberedSoFar pairs ts later before now head key → TakesIn t now next
    → TakeIn ts before next
numbered_not pairs t ts later rest before now next head key is so_far one =
    so_far.takes next
    (subst (λ (us : ProfiledTerms). TakeIn us now next) (sym is) (take_cons t rest now next next one (take_nothing rest next)))

-- where none is left
pub numbered_taken : (pairs : List (ℕ × ℕ)) (ts later : ProfiledTerms) (before now : List (List ℕ)) (head key : List ℕ)
    → IsNumberedSoFar pairs ts later before now head key → TakeIn ts before now
numbered_taken pairs ts later before now head key so_far = so_far.takes now (take_nothing later now)

pub numbered_all : (pairs : List (ℕ × ℕ)) (ts later : ProfiledTerms) (before now : List (List ℕ)) (head key : List ℕ)
    → later ≡ no_profiled_terms → IsNumberedSoFar pairs ts later before now head key
    → AreInstancesOf (numbered_substitution pairs before) ts before now head key
numbered_all pairs ts later before now head key none so_far =
    so_far.numbers now key (take_nothing later now)
    (subst (λ (us : ProfiledTerms). AreInstancesOf (numbered_substitution pairs before) us now now key key) (sym none)
    (number_nothing (numbered_substitution pairs before) now key))

-- ---- Nothing put for variables

mutual
  instance_same : (t : ProfiledTerm) → profiled_instance (profiled_binding []) t ≡ t
  instance_same (profiled_variable n s) = refl
  instance_same (profiled_node f operation ts) = ap (λ (us : ProfiledTerms). profiled_node f operation us) (instances_same ts)

  instances_same : (ts : ProfiledTerms) → profiled_instances (profiled_binding []) ts ≡ ts
  instances_same no_profiled_terms = refl
  instances_same (profiled_term_then t ts) =
      let here = instance_same t in
      let there = instances_same ts in
      λ i. profiled_term_then (here i) (there i)

pub plain_number : (t : ProfiledTerm) (before after : List (List ℕ)) (n : ℕ)
    → IsInstanceOf (numbered_substitution [] before) t before after n
    → IsNumberOfTerm t before after n
plain_number t before after n number = record {
  within = number.within;
  term = λ signature of have. number.term signature of have ∙ instance_same t;
}
