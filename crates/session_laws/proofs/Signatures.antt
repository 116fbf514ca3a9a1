-- A signature under one origin: the same names, forms and profiles. Terms are written and mean over it what they do over the other.
use Rattle.std.proofs.Common.{◌≡◌, inl, inr, ℕ, zero, suc, Bool, true, false, List, [], ◌∷◌, map, refl, ap, sym, ◌∙◌, subst, arith}
use Rattle.std.specs.Prelude.{Some, slice_get, if◌then◌else◌}
use Rattle.std.specs.List.{list_any}
use Rattle.std.proofs.lemmas.Option.{none-some, same_Some}
use Rattle.std.proofs.lemmas.Map.Keys.{any_passes_from_place}
use Rattle.lotos_base.proofs.Numbers.{suc-injective}
use Rattle.lotos_base.proofs.Bytes.{same_bytes, bytes_same}
use Rattle.lotos_base.proofs.Members.{member_at, at_map, from_map}
use Rattle.lotos_base.specs.Names.{folded, AreOneName}
use Rattle.lotos_base.specs.WrittenTerm.{PlacedName, WrittenHead, WrittenTerm, WrittenTerms, written, no_written, written_then}
use Rattle.lotos_base.specs.Signature.{Signature, Sort, Operation, IsSort, IsOperation, IsWellFormedSignature}
use Rattle.lotos_base.specs.Equation.{Variable}
use Rattle.lotos_base.specs.Sorting.{HasSort, HaveSorts, Occurs, OccursAmong}
use Rattle.lotos_base.specs.Term.{Term, Terms, variable, node, no_terms, term_then}
use Rattle.lotos_base.specs.Twins.{AreTwins, HasTwin}
use Rattle.sort_terms.specs.Reading.{NoneNamed}
use Rattle.sort_terms.specs.ReadingOutcome.{one_name}
use Rattle.printed_texts.specs.TermText.{sort_name, sort_text}
use Rattle.type_definitions.specs.FirstPosition.{first_position}
use Rattle.session_laws.specs.WrittenAs.{IsMarkOf, no_mark, mark, IsHeadOf, IsWrittenAs, AreWrittenAs}
use Rattle.session_laws.specs.TermMeanings.{VariableMeans, IsUnhidden, TermMeans, TermsMean}

abbrev pub own_sort : List ℕ → Sort → Sort
own_sort origin s = record { name = s.name; origin = origin }

abbrev pub own_operation : List ℕ → Operation → Operation
own_operation origin o =
    record { name = o.name; form = o.form; arguments = o.arguments; result = o.result; origin = origin }

abbrev pub own_signature : List ℕ → Signature → Signature
own_signature origin signature =
    record { sorts = map (own_sort origin) signature.sorts; operations = map (own_operation origin) signature.operations }

-- ---- The only member that passes a test

pub only_position : {A : Type 0} (test : A → Bool) (xs : List A) (i : ℕ) (x : A) → slice_get xs i ≡ Some x → test x ≡ true
    → ((j : ℕ) (y : A) → slice_get xs j ≡ Some y → test y ≡ true → i ≡ j) → first_position test xs ≡ i
only_position test [] i x at is only = absurd (none-some x at)
only_position {A = A} test (z ∷ zs) zero x at is only =
    ap (λ (b : Bool). if b then 0 else suc (first_position test zs)) (ap test (same_Some z x at) ∙ is)
only_position {A = A} test (z ∷ zs) (suc i) x at is only =
    by (test z) refl (only_position test zs i x at is (λ j y there h. suc-injective i j (only (suc j) y there h)))
  where
    by : (b : Bool) → test z ≡ b → first_position test zs ≡ i → (if b then 0 else suc (first_position test zs)) ≡ suc i
    by true first rest = let clash : suc i ≡ 0 = only 0 z refl first in absurd (omega (arith, clash))
    by false first rest = ap suc rest

-- ---- Sorts by their names

-- among these sorts the text of a sort stands for its number
pub record IsKnownSort (sorts : List Sort) (signature : Signature) (sort : ℕ) : Type 0 where
  pub numbered : first_position (λ (t : Sort). one_name t.name (sort_text signature sort)) sorts ≡ sort
  pub there : list_any (λ (t : Sort). one_name t.name (sort_text signature sort)) sorts ≡ true

pub known_sort : (origin : List ℕ) (signature : Signature) → IsWellFormedSignature signature → (sort : ℕ) → IsSort signature sort
    → IsKnownSort (map (own_sort origin) signature.sorts) signature sort
known_sort origin signature fine sort within =
    let s = member_at signature.sorts sort within in
    let named : sort_text signature sort ≡ s.0.name = ap sort_name s.1 in
    let at = at_map (own_sort origin) signature.sorts sort s.0 s.1 in
    let passes = bytes_same (folded s.0.name) (folded (sort_text signature sort)) (ap folded (sym named)) in record {
      numbered =
          only_position (λ (t : Sort). one_name t.name (sort_text signature sort)) (map (own_sort origin) signature.sorts) sort
          (own_sort origin s.0) at passes (λ j y there h.
          let before = from_map (own_sort origin) signature.sorts j y there in
          let alike = same_bytes (folded y.name) (folded (sort_text signature sort)) h in
          let same : AreOneName s.0.name before.0.name =
          ap folded (sym named) ∙ sym alike ∙ ap (λ (t : Sort). folded t.name) (sym before.2) in
          fine.sort_names sort j s.0 before.0 s.1 before.1 same);
      there =
          any_passes_from_place (λ (t : Sort). one_name t.name (sort_text signature sort)) (map (own_sort origin) signature.sorts) sort
          (own_sort origin s.0) at passes;
    }

-- ---- What terms mean where no variable has the name of an operation

module _ (signature : Signature) (names : List Variable)
    (free : (f : ℕ) (o : Operation) → IsOperation signature f o → NoneNamed names o.name) where
  none_hidden : (f : ℕ) (o : Operation) (ts : Terms) → IsOperation signature f o → IsUnhidden names o ts
  none_hidden f o no_terms at = λ formed. free f o at
  none_hidden f o (term_then t ts) at = tt

  mutual
    pub term_means : (t : Term) (sort : ℕ) → HasSort signature t sort
        → ((n s : ℕ) → Occurs n s t → VariableMeans names names n s) → TermMeans signature names names t sort
    term_means (variable n s) sort sorted each = (each n s (refl, refl), sorted.0)
    term_means (node f ts) sort sorted each =
        (sorted.0, sorted.1, none_hidden f sorted.0 ts sorted.1, sorted.2, terms_mean ts sorted.0.arguments sorted.3 each)

    terms_mean : (ts : Terms) (sorts : List ℕ) → HaveSorts signature ts sorts
        → ((n s : ℕ) → OccursAmong n s ts → VariableMeans names names n s) → TermsMean signature names names ts sorts
    terms_mean no_terms [] sorted each = tt
    terms_mean no_terms (s ∷ ss) sorted each = absurd sorted
    terms_mean (term_then t ts) [] sorted each = absurd sorted
    terms_mean (term_then t ts) (s ∷ ss) sorted each = (
      term_means t s sorted.0 (λ n r occurs. each n r (inl occurs)),
      terms_mean ts ss sorted.1 (λ n r occurs. each n r (inr occurs)),
    )

-- ---- What terms are written as

module _ (origin : List ℕ) (signature : Signature) where
  abbrev own : Signature
  own = own_signature origin signature

  operation_there : (f : ℕ) (o : Operation) → IsOperation signature f o → IsOperation own f (own_operation origin o)
  operation_there f o at = at_map (own_operation origin) signature.operations f o at

  twin_there : (o : Operation) → HasTwin signature o → HasTwin own (own_operation origin o)
  twin_there o twin = (
    twin.0,
    own_operation origin twin.1,
    operation_there twin.0 twin.1 twin.2,
    record {
      name = twin.3.name;
      form = twin.3.form;
      arguments = twin.3.arguments;
      results = twin.3.results;
    },
  )

  twin_back : (o : Operation) → HasTwin own (own_operation origin o) → HasTwin signature o
  twin_back o twin =
      let before = from_map (own_operation origin) signature.operations twin.0 twin.1 twin.2 in
      let are : AreTwins (own_operation origin o) (own_operation origin before.0) =
      subst (λ (p : Operation). AreTwins (own_operation origin o) p) (sym before.2) twin.3 in (
        twin.0,
        before.0,
        before.1,
        record { name = are.name; form = are.form; arguments = are.arguments; results = are.results },
      )

  mark_over : (o : Operation) (sorts : List PlacedName) → IsMarkOf signature o sorts → IsMarkOf own (own_operation origin o) sorts
  mark_over o [] (no_mark none) = no_mark (λ twin. none (twin_back o twin))
  mark_over o (asked ∷ other ∷ sorts) is = elim is [ ]
  mark_over o (asked ∷ []) (mark {sort = sort} twin at named) =
      mark {sort = own_sort origin sort} (twin_there o twin) (at_map (own_sort origin) signature.sorts o.result sort at) named

  head_over : (o : Operation) (head : WrittenHead) → IsHeadOf signature o head → IsHeadOf own (own_operation origin o) head
  head_over o head is = record { named = is.named; formed = is.formed; marked = mark_over o head.sorts is.marked }

  mutual
    pub written_over : (names : List Variable) (t : Term) (w : WrittenTerm) → IsWrittenAs signature names t w → IsWrittenAs own names t w
    written_over names (variable n s) (written head no_written) is = is
    written_over names (variable n s) (written head (written_then w ws)) is = absurd is
    written_over names (node f ts) (written head ws) is = (
      own_operation origin is.0,
      operation_there f is.0 is.1,
      head_over is.0 head is.2,
      all_written_over names ts ws is.3,
    )

    all_written_over : (names : List Variable) (ts : Terms) (ws : WrittenTerms) → AreWrittenAs signature names ts ws
        → AreWrittenAs own names ts ws
    all_written_over names no_terms no_written are = tt
    all_written_over names no_terms (written_then w ws) are = absurd are
    all_written_over names (term_then t ts) no_written are = absurd are
    all_written_over names (term_then t ts) (written_then w ws) are =
        (written_over names t w are.0, all_written_over names ts ws are.1)

  -- ---- What terms mean

  unhidden_over : (visible : List Variable) (o : Operation) (ts : Terms) → IsUnhidden visible o ts
      → IsUnhidden visible (own_operation origin o) ts
  unhidden_over visible o no_terms is = is
  unhidden_over visible o (term_then t ts) is = tt

  mutual
    means_over : (visible names : List Variable) (t : Term) (sort : ℕ) → TermMeans signature visible names t sort
        → TermMeans own visible names t sort
    means_over visible names (variable n s) sort is = is
    means_over visible names (node f ts) sort is = (
      own_operation origin is.0,
      operation_there f is.0 is.1,
      unhidden_over visible is.0 ts is.2,
      is.3,
      all_mean_over visible names ts is.0.arguments is.4,
    )

    all_mean_over : (visible names : List Variable) (ts : Terms) (sorts : List ℕ) → TermsMean signature visible names ts sorts
        → TermsMean own visible names ts sorts
    all_mean_over visible names no_terms [] are = tt
    all_mean_over visible names no_terms (s ∷ ss) are = absurd are
    all_mean_over visible names (term_then t ts) [] are = absurd are
    all_mean_over visible names (term_then t ts) (s ∷ ss) are =
        (means_over visible names t s are.0, all_mean_over visible names ts ss are.1)

  pub term_means_over : (names : List Variable) → ((f : ℕ) (o : Operation) → IsOperation signature f o → NoneNamed names o.name)
      → (t : Term) (sort : ℕ) → HasSort signature t sort → ((n s : ℕ) → Occurs n s t → VariableMeans names names n s)
      → TermMeans own names names t sort
  term_means_over names free t sort sorted each = means_over names names t sort (term_means signature names free t sort sorted each)
