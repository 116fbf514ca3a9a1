-- The readings of the terms that are given for the values of a step.
use Rattle.std.proofs.Common.{◌≡◌, inl, inr, ◌<◌, ◌≤◌, ◌+◌, ℕ, List, [], ◌∷◌, ◌++◌, drop, length, get_or, map, Option, Some, refl, ap, sym, ◌∙◌, subst, arith, append-nil, append_assoc}
use Rattle.std.proofs.lemmas.List.{map-append, length-map, drop_all}
use Rattle.lotos_base.proofs.Pieces.{next_member}
use Rattle.lotos_base.proofs.Members.{read_map}
use Rattle.lotos_base.specs.WrittenTerm.{WrittenTerm}
use Rattle.lotos_base.specs.WrittenView.{written_term_of}
use Rattle.lotos_base.specs.declared.written_terms.Written.{Written}
use Rattle.lotos_base.specs.Equation.{Variable}
use Rattle.lotos_base.specs.Signature.{Signature}
use Rattle.lotos_base.specs.Sorting.{IsGround}
use Rattle.lotos_base.specs.Term.{Term}
use Rattle.sort_terms.specs.ProfiledTerm.{IsOf}
use Rattle.sort_terms.specs.ReadingOutcome as reading
use Rattle.sort_terms.specs.ReadingOutcome.{ReadingIs, SortedTerm, answered, IsReading}
use Rattle.sort_terms.specs.RefusalView.{UnlessNoMemory}
use Rattle.sort_terms.specs.SortedView.{profiled_in, term_in}
use Rattle.sort_terms.specs.declared.sort_faults.SortFault.{SortFault}
use Rattle.sort_terms.specs.declared.sort_faults.SortFault.TheVariants as sort_fault
use Rattle.sort_terms.specs.declared.sorted.Sorted.{Sorted}
use Rattle.sort_terms.proofs.OutcomeLemmas.{read_ground, is_reading}
use Rattle.behaviour_semantics.proofs.ListLemmas.{Every-append}
use Rattle.behaviour_tree.specs.BehaviourTerms.{profiles_of}
use Rattle.behaviour_tree.specs.BehaviourView.{terms_of}
use Rattle.behaviour_tree.specs.Over.{AreTermsOf}
use Rattle.session_histories.specs.Replay.{AreRead, IsOneMisread}
use Rattle.session_lines.specs.View.{refused_for_term}
use Rattle.session_lines.specs.declared.refusals.Refusal.{Refusal}
use Rattle.session_lines.specs.declared.refusals.Refusal.TheVariants.{BadCommand, BadTerm, NoMemory}
use Rattle.session_log.specs.Entries.{AreGiven}
use Rattle.session_log.specs.Values.{IsValueReadAt, IsTermRefused, IsFirstMisread, TellsMisread}

-- ---- One term

-- a term that is read without variables is ground
pub reading_ground : (signature : Signature) (scope : List Variable) (term : WrittenTerm) (expected : Option ℕ) (one : SortedTerm)
    → scope ≡ [] → ReadingIs signature scope term expected (answered one) → IsGround one.term
reading_ground signature scope term expected one none h =
    let is : IsReading signature [] term expected one =
    is_reading _ _ (IsReading signature [] term expected) one
    (subst (λ (it : List Variable). ReadingIs signature it term expected (answered one)) none h) in
    read_ground signature term one.term one.sort is.0

-- the reading at a sort, in a scope without variables
pub read_at : (signature : Signature) (scope : List Variable) (term : WrittenTerm) (sort : ℕ) (value : Sorted) → scope ≡ []
    → IsOf signature (profiled_in value)
    → ReadingIs signature scope term (Some sort) (answered (record { term = term_in value; sort = value.sort }))
    → IsValueReadAt signature term sort value
read_at signature scope term sort value none is_of read =
    let here : ReadingIs signature [] term (Some sort) (answered (record { term = term_in value; sort = value.sort })) =
    subst (λ (it : List Variable). ReadingIs signature it term (Some sort)
    (answered (record { term = term_in value; sort = value.sort }))) none read in
    let is : IsReading signature [] term (Some sort) (record { term = term_in value; sort = value.sort }) =
    is_reading _ _ (IsReading signature [] term (Some sort)) (record { term = term_in value; sort = value.sort }) here in
    record {
      is_of = is_of;
      read = subst (λ (it : ℕ). ReadingIs signature [] term (Some sort) (answered (record { term = term_in value; sort = it }))) is.1 here;
    }

-- a term that is not read is told by its number
told_misread : (Is : reading.ReadingRefusal → Type 0) (fault : SortFault) → UnlessNoMemory fault Is
    → TellsMisread Is (refused_for_term fault)
told_misread Is (sort_fault.UnknownSort place) is = (reading.unknown_sort _, is, refl)
told_misread Is (sort_fault.UnknownName place) is = (reading.unknown_name _, is, refl)
told_misread Is (sort_fault.NoReading place) is = (reading.no_reading _, is, refl)
told_misread Is (sort_fault.TwoReadings place) is = (reading.two_readings _, is, refl)
told_misread Is sort_fault.NoMemory is = tt

pub misread_at : (signature : Signature) (scope : List Variable) (term : WrittenTerm) (sort : ℕ) (fault : SortFault) → scope ≡ []
    → UnlessNoMemory fault (λ r. ReadingIs signature scope term (Some sort) (reading.refused r))
    → TellsMisread (IsTermRefused signature term sort) (refused_for_term fault)
misread_at signature scope term sort fault none is =
    told_misread (IsTermRefused signature term sort) fault
    (subst (λ (it : List Variable). UnlessNoMemory fault (λ r. ReadingIs signature it term (Some sort) (reading.refused r))) none is)

-- a reason that leads to another one
tells_misread : (Is Other : reading.ReadingRefusal → Type 0) → ((why : reading.ReadingRefusal) → Is why → Other why) → (refusal : Refusal)
    → TellsMisread Is refusal → TellsMisread Other refusal
tells_misread Is Other so BadCommand h = h
tells_misread Is Other so (BadTerm number) h = (h.0, so h.0 h.1, h.2)
tells_misread Is Other so NoMemory h = tt

-- ---- Terms one after another

-- the terms so far are read, and what the rest comes to, the whole does
pub record AreHalfRead (signature : Signature) (sorts : List ℕ) (terms : List WrittenTerm) (index : ℕ) (values : List Sorted) : Type 0 where
  pub read : (more : List Term) → AreRead signature (drop index sorts) (drop index terms) more
      → AreRead signature sorts terms (terms_of values ++ more)
  pub misread : (why : reading.ReadingRefusal) → IsFirstMisread signature (drop index sorts) (drop index terms) why
      → IsFirstMisread signature sorts terms why
  pub given : AreGiven signature values

pub none_read : (signature : Signature) (sorts : List ℕ) (terms : List WrittenTerm) (values : List Sorted) → values ≡ []
    → AreHalfRead signature sorts terms 0 values
none_read signature sorts terms values e =
    subst (AreHalfRead signature sorts terms 0) (sym e)
    (record { read = λ more h. h; misread = λ why h. h; given = record { terms = tt; ground = tt } })

value_ground : (signature : Signature) (term : WrittenTerm) (sort : ℕ) (value : Sorted) → IsValueReadAt signature term sort value
    → IsGround (term_in value)
value_ground signature term sort value h =
    reading_ground signature [] term (Some sort) (record { term = term_in value; sort = sort }) refl h.read

one_read : (signature : Signature) (sorts : List ℕ) (terms : List WrittenTerm) (index : ℕ) (values : List Sorted)
    (term : WrittenTerm) (sort : ℕ) (value : Sorted) → index < length terms → term ≡ get_or terms index term → index < length sorts
    → sort ≡ get_or sorts index sort → AreHalfRead signature sorts terms index values → IsValueReadAt signature term sort value
    → AreHalfRead signature sorts terms (index + 1) (values ++ (value ∷ []))
one_read signature sorts terms index values term sort value below is below_sorts is_sort half h =
    let rest : drop index sorts ≡ sort ∷ drop (index + 1) sorts = next_member sorts index sort below_sorts is_sort in
    let left : drop index terms ≡ term ∷ drop (index + 1) terms = next_member terms index term below is in
    record {
      read = λ more k.
          subst (λ (it : List Term). AreRead signature sorts terms it)
          (sym (append_assoc (terms_of values) (term_in value ∷ []) more)
          ∙ ap (λ (it : List Term). it ++ more) (sym (map-append term_in values (value ∷ []))))
          (half.read (term_in value ∷ more)
          (subst (λ (it : List ℕ). AreRead signature it (drop index terms) (term_in value ∷ more)) (sym rest)
          (subst (λ (it : List WrittenTerm). AreRead signature (sort ∷ drop (index + 1) sorts) it (term_in value ∷ more)) (sym left)
          (h.read, k))));
      misread = λ why k. half.misread why
          (subst (λ (it : List ℕ). IsFirstMisread signature it (drop index terms) why) (sym rest)
          (subst (λ (it : List WrittenTerm). IsFirstMisread signature (sort ∷ drop (index + 1) sorts) it why) (sym left)
          (inr (record { term = term_in value; sort = sort }, h.read, k))));
      given = record {
        terms = subst (AreTermsOf signature) (sym (map-append profiled_in values (value ∷ [])))
            (Every-append (IsOf signature) (profiles_of values) (profiled_in value ∷ []) half.given.terms (h.is_of, tt));
        ground = Every-append (λ (it : Sorted). IsGround (term_in it)) values (value ∷ []) half.given.ground
            (value_ground signature term sort value h, tt);
      };
    }

one_misread : (signature : Signature) (sorts : List ℕ) (terms : List WrittenTerm) (index : ℕ) (values : List Sorted)
    (term : WrittenTerm) (sort : ℕ) (why : reading.ReadingRefusal) → index < length terms → term ≡ get_or terms index term
    → index < length sorts → sort ≡ get_or sorts index sort → AreHalfRead signature sorts terms index values
    → IsTermRefused signature term sort why → IsFirstMisread signature sorts terms why
one_misread signature sorts terms index values term sort why below is below_sorts is_sort half h =
    half.misread why
    (subst (λ (it : List ℕ). IsFirstMisread signature it (drop index terms) why) (sym (next_member sorts index sort below_sorts is_sort))
    (subst (λ (it : List WrittenTerm). IsFirstMisread signature (sort ∷ drop (index + 1) sorts) it why)
    (sym (next_member terms index term below is)) (inl h)))

all_read : (signature : Signature) (sorts : List ℕ) (terms : List WrittenTerm) (index : ℕ) (values : List Sorted)
    → length terms ≤ index → length sorts ≤ index → AreHalfRead signature sorts terms index values
    → AreRead signature sorts terms (terms_of values)
all_read signature sorts terms index values past past_sorts half =
    subst (AreRead signature sorts terms) (append-nil (terms_of values))
    (half.read []
    (subst (λ (it : List ℕ). AreRead signature it (drop index terms) []) (sym (drop_all index sorts past_sorts))
    (subst (λ (it : List WrittenTerm). AreRead signature [] it []) (sym (drop_all index terms past)) tt)))

-- ---- Terms of the code

module _ (signature : Signature) (sorts : List ℕ) (terms : List Written) (index : ℕ) (values : List Sorted)
    (counted : length terms ≡ length sorts) (half : AreHalfRead signature sorts (map written_term_of terms) index values) where
  module _ (term : Written) (sort : ℕ) (below : index < length terms) (is : term ≡ get_or terms index term)
      (is_sort : sort ≡ get_or sorts index sort) where
    below_mapped : index < length (map written_term_of terms)
    below_mapped = omega (arith, below, length-map terms written_term_of)

    is_mapped : written_term_of term ≡ get_or (map written_term_of terms) index (written_term_of term)
    is_mapped = ap written_term_of is ∙ sym (read_map written_term_of terms index term)

    pub next_read : (value : Sorted) → IsValueReadAt signature (written_term_of term) sort value
        → AreHalfRead signature sorts (map written_term_of terms) (index + 1) (values ++ (value ∷ []))
    next_read value h =
        one_read signature sorts (map written_term_of terms) index values (written_term_of term) sort value below_mapped is_mapped
        (omega (arith, below, counted)) is_sort half h

    pub next_told : (refusal : Refusal) → TellsMisread (IsTermRefused signature (written_term_of term) sort) refusal
        → TellsMisread (IsFirstMisread signature sorts (map written_term_of terms)) refusal
    next_told refusal h =
        tells_misread (IsTermRefused signature (written_term_of term) sort) (IsFirstMisread signature sorts (map written_term_of terms))
        (λ why m.
        one_misread signature sorts (map written_term_of terms) index values (written_term_of term) sort why below_mapped is_mapped
        (omega (arith, below, counted)) is_sort half m)
        refusal h

  pub values_read : length terms ≤ index
      → AreRead signature sorts (map written_term_of terms) (terms_of values) × AreGiven signature values
  values_read past = (
    all_read signature sorts (map written_term_of terms) index values (omega (arith, past, length-map terms written_term_of))
        (omega (arith, past, counted)) half,
    half.given,
  )

-- ---- A first one that is not read

pub one_is_misread : (signature : Signature) (sorts : List ℕ) (terms : List WrittenTerm) (why : reading.ReadingRefusal)
    → IsFirstMisread signature sorts terms why → IsOneMisread signature sorts terms
one_is_misread signature [] terms why h = absurd h
one_is_misread signature (sort ∷ sorts) [] why h = absurd h
one_is_misread signature (sort ∷ sorts) (term ∷ terms) why (inl h) = inl (why, h)
one_is_misread signature (sort ∷ sorts) (term ∷ terms) why (inr h) = inr (one_is_misread signature sorts terms why h.2)
