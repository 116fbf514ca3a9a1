-- What is known of the readings of a node, from what is known of its arguments.
use Rattle.std.proofs.Common.{◌≡◌, ◌↔◌, ℕ, suc, arith, Bool, true, false, ◌&&◌, List, [], ◌∷◌, inl, inr, refl, ap, sym, ◌∙◌, subst}
use Rattle.std.specs.Prelude.{Option, Some, None, IsTrue, nat_eq, slice_get}
use Rattle.std.specs.Option.{option_map}
use Rattle.std.proofs.lemmas.Bool.{eqb-true, eq-eqb, and_parts, cases_lt, both_ways, and_from}
use Rattle.std.proofs.lemmas.Option.{same_Some}
use Rattle.lotos_base.specs.WrittenTerm.{WrittenHead, WrittenTerms, written}
use Rattle.lotos_base.specs.Names.{AreOneName}
use Rattle.lotos_base.specs.Signature.{Signature, Operation, IsOperation, Form, prefix_form, infix_form}
use Rattle.lotos_base.specs.Equation.{Variable as DeclaredVariable}
use Rattle.lotos_base.specs.Term.{Term, Terms, variable, node}
use Rattle.lotos_base.specs.Twins.{form_eq}
use Rattle.sort_terms.specs.Asked.{allows}
use Rattle.sort_terms.specs.Reading.{Reads, AllRead, IsOperationAt, IsVariableAt, IsBare, IsLastNamed, IsVisible, IsAsked}
use Rattle.sort_terms.specs.Tables.{Tables, combined, with_offer, gathered, operation_offered, offered_by, offered_if, only_variable}
use Rattle.sort_terms.specs.Suiting.{source_of, Means, MeansSome, AllSuit}
use Rattle.sort_terms.specs.declared.asked.Asked.{Asked}
use Rattle.sort_terms.specs.declared.choices.Source.TheVariants.{Variable, Operation as FromOperation}
use Rattle.sort_terms.proofs.MeaningLemmas.{MeansArguments, arguments_mean, means_also, gathered_means, HeadIn, AreApart, EachMeans, Either}

pub forms_eq : (one other : Form) → form_eq one other ≡ true → one ≡ other
forms_eq prefix_form prefix_form h = refl
forms_eq prefix_form infix_form h = cc
forms_eq infix_form prefix_form h = cc
forms_eq infix_form infix_form h = refl

pub eq_forms : (one other : Form) → one ≡ other → form_eq one other ≡ true
eq_forms prefix_form prefix_form h = refl
eq_forms prefix_form infix_form h = cc
eq_forms infix_form prefix_form h = cc
eq_forms infix_form infix_form h = refl

-- what `of`s allow is what they ask for
abbrev pub AllowsAsked : Signature → WrittenHead → Asked → Type 0
AllowsAsked signature head asked = (s : ℕ) → IsTrue (allows asked s) ↔ IsAsked signature head.sorts s

-- a reading by the operation with this number
abbrev pub ReadsBy : Signature → List DeclaredVariable → WrittenHead → WrittenTerms → ℕ → ℕ → Term → Type 0
ReadsBy signature scope head ws s f t = Reads signature scope (written head ws) t s × (source_of t ≡ FromOperation f)

-- what a reading by an operation is made of
pub record IsApplied (signature : Signature) (scope : List DeclaredVariable) (head : WrittenHead) (ws : WrittenTerms)
    (s f : ℕ) (operation : Operation) (t : Term) : Type 0 where
  pub arguments : Terms
  pub is_node : t ≡ node f arguments
  pub at : IsOperationAt signature scope head ws f operation
  pub sorted : operation.result ≡ s
  pub read : AllRead signature scope ws arguments operation.arguments

applied : (signature : Signature) (scope : List DeclaredVariable) (head : WrittenHead) (ws : WrittenTerms) (s f : ℕ)
    (operation : Operation) (t : Term) → IsOperation signature f operation → ReadsBy signature scope head ws s f t
    → IsApplied signature scope head ws s f operation t
applied signature scope head ws s f operation (variable n r) there h = let clash : Variable n ≡ FromOperation f = h.1 in cc
applied signature scope head ws s f operation (node g us) there h =
    let sources : FromOperation g ≡ FromOperation f = h.1 in
    let same : g ≡ f = cc in
    let profile : h.0.0 ≡ operation =
    same_Some _ _ (sym (subst (λ (i : ℕ). IsOperation signature i h.0.0) same h.0.1.is_there) ∙ there) in
    record {
      arguments = us;
      is_node = ap (λ (i : ℕ). node i us) same;
      at = subst (λ (i : ℕ). IsOperationAt signature scope head ws i operation) same
          (subst (λ (o : Operation). IsOperationAt signature scope head ws g o) profile h.0.1);
      sorted = ap (λ (o : Operation). o.result) (sym profile) ∙ h.0.2;
      read = subst (λ (o : Operation). AllRead signature scope ws us o.arguments) profile h.0.3;
    }

several_by : (signature : Signature) (scope : List DeclaredVariable) (head : WrittenHead) (ws : WrittenTerms) (f : ℕ)
    (operation : Operation) → IsOperationAt signature scope head ws f operation → (several : Bool)
    → MeansArguments (λ us. AllRead signature scope ws us operation.arguments) (Some several)
    → MeansSome (ReadsBy signature scope head ws operation.result f) (FromOperation f) several
several_by signature scope head ws f operation at true two = record {
  one = node f two.one;
  other = node f two.other;
  one_is = ((operation, at, refl, two.one_is), refl);
  other_is = ((operation, at, refl, two.other_is), refl);
  differ = λ same. two.differ (let arguments : two.one ≡ two.other = cc in arguments);
}
several_by signature scope head ws f operation at false one =
    (node f one.0, record { is_answer = ((operation, at, refl, one.1.is_answer), refl); only = only }, refl)
  where
    only : (t : Term) → ReadsBy signature scope head ws operation.result f t → t ≡ node f one.0
    only t h =
        let parts = applied signature scope head ws operation.result f operation t at.is_there h in
        parts.is_node ∙ ap (λ (us : Terms). node f us) (one.1.only parts.arguments parts.read)

-- what is known of the readings by one operation
offer_by : (signature : Signature) (scope : List DeclaredVariable) (head : WrittenHead) (ws : WrittenTerms) (ts : Tables)
    (asked : Asked) → AllSuit signature scope ws ts → AllowsAsked signature head asked → IsVisible scope head ws
    → (s f : ℕ) (operation : Operation) → IsOperation signature f operation → AreOneName operation.name head.name
    → Means (ReadsBy signature scope head ws s f) (with_offer s None f (offered_by head.form asked ts operation))
offer_by signature scope head ws ts asked suits asks visible s f operation there named =
    go (form_eq operation.form head.form && allows asked operation.result) refl
  where
    fits : (t : Term) → ReadsBy signature scope head ws s f t → (form_eq operation.form head.form && allows asked operation.result) ≡ true
    fits t h =
        let parts = applied signature scope head ws s f operation t there h in
        and_from _ _ (eq_forms operation.form head.form parts.at.formed) ((asks operation.result).1 parts.at.asked)

    at : (form_eq operation.form head.form && allows asked operation.result) ≡ true → IsOperationAt signature scope head ws f operation
    at holds =
        let both = and_parts _ _ holds in
        record {
          is_there = there;
          named = named;
          formed = forms_eq operation.form head.form both.0;
          visible = visible;
          asked = (asks operation.result).0 both.1;
        }

    with_sort : (several : Bool) → (form_eq operation.form head.form && allows asked operation.result) ≡ true
        → MeansArguments (λ us. AllRead signature scope ws us operation.arguments) (Some several) → (same : Bool)
        → nat_eq s operation.result ≡ same
        → Means (ReadsBy signature scope head ws s f) (with_offer s None f (Some (operation.result, several)))
    with_sort several holds some true same =
        rw same (subst (λ (r : ℕ). MeansSome (ReadsBy signature scope head ws r f) (FromOperation f) several)
        (sym (eqb-true s operation.result same)) (several_by signature scope head ws f operation (at holds) several some))
    with_sort several holds some false differ =
        rw differ (λ t h. absurd
        (both_ways (nat_eq s operation.result) differ
        (eq-eqb s operation.result (sym (applied signature scope head ws s f operation t there h).sorted))))

    with_arguments : (form_eq operation.form head.form && allows asked operation.result) ≡ true → (r : Option Bool)
        → MeansArguments (λ us. AllRead signature scope ws us operation.arguments) r
        → Means (ReadsBy signature scope head ws s f)
        (with_offer s None f (option_map (λ (several : Bool). (operation.result, several)) r))
    with_arguments holds None none = λ t h. none _ (applied signature scope head ws s f operation t there h).read
    with_arguments holds (Some several) some = with_sort several holds some (nat_eq s operation.result) refl

    go : (b : Bool) → (form_eq operation.form head.form && allows asked operation.result) ≡ b
        → Means (ReadsBy signature scope head ws s f) (with_offer s None f (offered_by head.form asked ts operation))
    go true holds =
        rw holds (with_arguments holds (combined operation.arguments ts) (arguments_mean signature scope ws ts suits operation.arguments))
    go false fails = rw fails (λ t h. absurd (both_ways _ fails (fits t h)))

pub offer_is : (signature : Signature) (scope : List DeclaredVariable) (head : WrittenHead) (ws : WrittenTerms) (ts : Tables)
    (asked : Asked) → AllSuit signature scope ws ts → AllowsAsked signature head asked → IsVisible scope head ws
    → (s f : ℕ) (operation : Operation) → IsOperation signature f operation → AreOneName operation.name head.name
    → Means (ReadsBy signature scope head ws s f) (with_offer s None f (operation_offered signature head.form asked ts f))
offer_is signature scope head ws ts asked suits asks visible s f operation there named =
    subst (λ (o : Option Operation). Means (ReadsBy signature scope head ws s f) (with_offer s None f (offered_if head.form asked ts o)))
    (sym there) (offer_by signature scope head ws ts asked suits asks visible s f operation there named)

-- ---- All operations of the name

pub node_means : (signature : Signature) (scope : List DeclaredVariable) (head : WrittenHead) (ws : WrittenTerms) (ts : Tables)
    (asked : Asked) → AllSuit signature scope ws ts → AllowsAsked signature head asked → IsVisible scope head ws
    → (numbers : List ℕ) → AreApart numbers
    → ((i f : ℕ) → slice_get numbers i ≡ Some f → (o : Operation) × IsOperation signature f o × AreOneName o.name head.name)
    → ((f : ℕ) (o : Operation) (t : Term) → IsOperation signature f o → AreOneName o.name head.name
    → source_of t ≡ FromOperation f → HeadIn numbers t)
    → (s : ℕ) → Means (λ t. Reads signature scope (written head ws) t s)
    (gathered (operation_offered signature head.form asked ts) s None numbers)
node_means signature scope head ws ts asked suits asks visible numbers apart sound complete s =
    means_also (λ t. R t × Either Nothing (HeadIn numbers) t) R (λ t h. h.0) (λ t h. (h, inr (headed t h)))
    (gathered (operation_offered signature head.form asked ts) s None numbers)
    (gathered_means R Nothing s (operation_offered signature head.form asked ts) None numbers apart (λ t none. absurd none)
    (λ t h. h.1) (each numbers sound))
  where
    R : Term → Type 0
    R t = Reads signature scope (written head ws) t s

    Nothing : Term → Type 0
    Nothing t = ⊥

    headed : (t : Term) → R t → HeadIn numbers t
    headed (variable n r) h = absurd (visible_variable h.0)
      where
        visible_variable : IsVariableAt signature scope head ws n r → ⊥
        visible_variable v = visible v.bare v.last.position v.declared v.last.found v.last.named
    headed (node f us) h = complete f h.0 (node f us) h.1.is_there h.1.named refl

    each : (fs : List ℕ) → ((i f : ℕ) → slice_get fs i ≡ Some f → (o : Operation) × IsOperation signature f o × AreOneName o.name head.name)
        → EachMeans R s (operation_offered signature head.form asked ts) fs
    each [] all = tt
    each (f ∷ fs) all =
        let here = all 0 f refl in
        (offer_is signature scope head ws ts asked suits asks visible s f here.0 here.1 here.2, each fs (λ i. all (suc i)))

-- ---- A variable

-- one variable is the last of a name
pub last_is_one : (scope : List DeclaredVariable) (name : List ℕ) (v w : DeclaredVariable) → IsLastNamed scope name v
    → IsLastNamed scope name w → v ≡ w
last_is_one scope name v w h k =
    elim (cases_lt h.position k.position) [
      | inl earlier ↦ absurd (h.last k.position w earlier k.found k.named)
      | inr late ↦ elim (cases_lt k.position h.position) [
        | inl later ↦ absurd (k.last h.position v later h.found h.named)
        | inr as_late ↦
            let same : h.position ≡ k.position = omega arith in
            same_Some _ _ (sym h.found ∙ ap (λ (i : ℕ). slice_get scope i) same ∙ k.found)
      ]
    ]

pub variable_means : (signature : Signature) (scope : List DeclaredVariable) (head : WrittenHead) (ws : WrittenTerms)
    (asked : Asked) (v : DeclaredVariable) → AllowsAsked signature head asked → IsBare head ws → IsLastNamed scope head.name v
    → (s : ℕ) → Means (λ t. Reads signature scope (written head ws) t s) (only_variable asked v s)
variable_means signature scope head ws asked v asks bare last s = go (allows asked v.sort && nat_eq s v.sort) refl
  where
    is_it : (w : DeclaredVariable) → IsLastNamed scope head.name w → w ≡ v
    is_it w other = last_is_one scope head.name w v other last

    from_sort : (t : Term) → Reads signature scope (written head ws) t s
        → (t ≡ variable v.number v.sort) × (v.sort ≡ s) × (allows asked v.sort ≡ true)
    from_sort (variable n r) h =
        let declared = is_it h.0.declared h.0.last in
        let number : n ≡ v.number = sym h.0.numbered ∙ ap (λ (w : DeclaredVariable). w.number) declared in
        let sort : r ≡ v.sort = sym h.0.sorted ∙ ap (λ (w : DeclaredVariable). w.sort) declared in (
          ap (λ (m : ℕ). variable m r) number ∙ ap (λ (q : ℕ). variable v.number q) sort,
          sym sort ∙ h.1,
          (asks v.sort).1 (subst (λ (q : ℕ). IsAsked signature head.sorts q) sort h.0.asked),
        )
    from_sort (node f us) h = absurd (h.1.visible bare last.position v last.found last.named)

    go : (b : Bool) → (allows asked v.sort && nat_eq s v.sort) ≡ b
        → Means (λ t. Reads signature scope (written head ws) t s) (only_variable asked v s)
    go true holds =
        let both = and_parts _ _ holds in
        let sort : v.sort ≡ s = sym (eqb-true s v.sort both.1) in
        rw holds (
          variable v.number v.sort,
          record {
            is_answer = (
              record {
                bare = bare;
                declared = v;
                last = last;
                numbered = refl;
                sorted = refl;
                asked = (asks v.sort).0 both.0;
              },
              sort,
            );
            only = λ t h. (from_sort t h).0;
          },
          refl,
        )
    go false fails = rw fails (λ t h. absurd (both_ways _ fails (and_from _ _ (from_sort t h).2 (eq-eqb s v.sort (sym (from_sort t h).1)))))
