-- Refusals of written terms and their causes.
use Rattle.std.proofs.Common.{◌≡◌, ◌↔◌, inl, inr, ℕ, Bool, true, false, ◌&&◌, ◌||◌, if◌then◌else◌, List, [], ◌∷◌, ◌++◌, map, Some, refl, ap, sym, ◌∙◌, subst, slice_get, append_assoc, append-nil}
use Rattle.std.proofs.lemmas.Bool.{and_from, and_parts}
use Rattle.std.proofs.lemmas.Map.Keys.{any_passes_from_place}
use Rattle.lotos_base.specs.Equation.{Place, Variable}
use Rattle.lotos_base.specs.Names.{AreOneName}
use Rattle.lotos_base.specs.Signature.{Signature, Sort, Operation, Form, prefix_form, infix_form}
use Rattle.lotos_base.specs.Twins.{form_eq}
use Rattle.lotos_base.specs.WrittenTerm.{PlacedName, WrittenHead, WrittenTerm, WrittenTerms, written, no_written, written_then, written_head}
use Rattle.lotos_base.proofs.SignatureLemmas.{Decides-form_eq}
use Rattle.lotos_base.proofs.Tests.{list_any-at}
use Rattle.sort_terms.specs.Counting.{IsOnly}
use Rattle.sort_terms.specs.ReadingOutcome.{ReadingRefusal, unknown_name, unknown_sort, no_reading, two_readings, one_name, is_operation_name, is_variable_name, is_known, is_sort_name, unknown_at, unknown_sorts, refusals_together, in_text_order, unknown_in, unknown_in_each, answered, refused, ComesTo, IsReading, IsPairReading}
use Rattle.type_flatten.specs.FirstCause.{IsNowhere, FirstAlong, at_once, further_on, stays}
use Rattle.type_flatten.specs.FaultCauses.{NamesNoSort}
use Rattle.type_flatten.specs.ReadingCauses.{RefusalCause, WrittenPart, name_at, sort_at, all_parts, parts_around, parts_of, parts_of_each, StandsForNothing, PartIsUnknown, QuestionBrings}
use Rattle.type_flatten.specs.ReadingCauseLaws.{ReadingsAreRefusedWhereCaused}
use Rattle.type_flatten.proofs.CauseLemmas.{Decides, names_decided}
use Rattle.type_flatten.proofs.ReadingChoices.{IsCounted, term_counted, pair_counted}

-- ---- A name that stands for nothing

module _ (signature : Signature) (scope : List Variable) where
  variable_known : (name : List ℕ)
      → Decides (is_variable_name scope name) ((i : ℕ) × (v : Variable) × (slice_get scope i ≡ Some v) × AreOneName v.name name)
  variable_known name = (
    λ e. let found = list_any-at (λ (v : Variable). one_name v.name name) scope e in
        (found.0, found.1, found.2, (names_decided found.1.name name).0 found.3),
    λ is. any_passes_from_place (λ (v : Variable). one_name v.name name) scope is.0 is.1 is.2 ((names_decided is.1.name name).1 is.3),
  )

  record IsOperation (head : WrittenHead) : Type 0 where
    pub i : ℕ
    pub operation : Operation
    pub there : slice_get signature.operations i ≡ Some operation
    pub named : AreOneName operation.name head.name
    pub formed : operation.form ≡ head.form

  operation_known : (head : WrittenHead) → Decides (is_operation_name signature head.name head.form) (IsOperation head)
  operation_known head = (
    λ e.
        let found = list_any-at (λ (o : Operation). one_name o.name head.name && form_eq o.form head.form) signature.operations e in
        let parts = and_parts (one_name found.1.name head.name) (form_eq found.1.form head.form) found.3 in
        record {
          i = found.0;
          operation = found.1;
          there = found.2;
          named = (names_decided found.1.name head.name).0 parts.0;
          formed = (Decides-form_eq found.1.form head.form).0 parts.1;
        },
    λ is.
        any_passes_from_place (λ (o : Operation). one_name o.name head.name && form_eq o.form head.form)
        signature.operations is.i is.operation is.there
        (and_from (one_name is.operation.name head.name) (form_eq is.operation.form head.form)
        ((names_decided is.operation.name head.name).1 is.named) ((Decides-form_eq is.operation.form head.form).1 is.formed)),
  )

  nothing_from : (head : WrittenHead) → is_known signature scope head ≡ false → StandsForNothing signature scope head
  nothing_from head e = record {
    no_variable = λ form i v at named.
        let known : (form_eq head.form prefix_form && is_variable_name scope head.name) ≡ true =
        and_from (form_eq head.form prefix_form) (is_variable_name scope head.name) ((Decides-form_eq head.form prefix_form).1 form)
        ((variable_known head.name).1 (i, v, at, named)) in
        neither_one known;
    no_operation = λ i operation there named formed.
        let known : is_operation_name signature head.name head.form ≡ true =
        (operation_known head).1 (record { i = i; operation = operation; there = there; named = named; formed = formed }) in
        neither_other known;
  }
    where
      first_false : (a b : Bool) → (a || b) ≡ false → a ≡ true → ⊥
      first_false true b e h = absurd (cc e)
      first_false false b e h = absurd (cc h)

      second_false : (a b : Bool) → (a || b) ≡ false → b ≡ true → ⊥
      second_false true b e h = absurd (cc e)
      second_false false true e h = absurd (cc e)
      second_false false false e h = absurd (cc h)

      neither_one : (form_eq head.form prefix_form && is_variable_name scope head.name) ≡ true → ⊥
      neither_one =
          first_false (form_eq head.form prefix_form && is_variable_name scope head.name)
          (is_operation_name signature head.name head.form) e

      neither_other : is_operation_name signature head.name head.form ≡ true → ⊥
      neither_other =
          second_false (form_eq head.form prefix_form && is_variable_name scope head.name)
          (is_operation_name signature head.name head.form) e

  something : (head : WrittenHead) → is_known signature scope head ≡ true → StandsForNothing signature scope head → ⊥
  something head e none =
      by (form_eq head.form prefix_form && is_variable_name scope head.name) refl
      (is_operation_name signature head.name head.form) refl e
    where
      by : (a : Bool) → (form_eq head.form prefix_form && is_variable_name scope head.name) ≡ a → (b : Bool)
          → is_operation_name signature head.name head.form ≡ b → (a || b) ≡ true → ⊥
      by true is b also e =
          let parts = and_parts (form_eq head.form prefix_form) (is_variable_name scope head.name) is in
          let found = (variable_known head.name).0 parts.1 in
          none.no_variable ((Decides-form_eq head.form prefix_form).0 parts.0) found.0 found.1 found.2 found.3
      by false is true also e =
          let found = (operation_known head).0 also in
          none.no_operation found.i found.operation found.there found.named found.formed
      by false is false also e = absurd (cc e)

  -- ---- The refusal of one name

  abbrev part_refusal : WrittenPart → List ReadingRefusal
  part_refusal (name_at head) = unknown_at signature scope head
  part_refusal (sort_at asked) = if is_sort_name signature asked.name then [] else unknown_sort asked.place ∷ []

  -- none, or this one
  data PartIs (part : WrittenPart) (refusals : List ReadingRefusal) : Type 0 where
    part_known : refusals ≡ [] → IsNowhere (PartIsUnknown signature scope part) → PartIs part refusals
    part_unknown : (r : ReadingRefusal) → refusals ≡ r ∷ [] → PartIsUnknown signature scope part r → PartIs part refusals

  part_is : (part : WrittenPart) → PartIs part (part_refusal part)
  part_is (name_at head) = by (is_known signature scope head) refl
    where
      by : (known : Bool) → is_known signature scope head ≡ known
          → PartIs (name_at head) (if known then [] else unknown_name head.place ∷ [])
      by true e = part_known refl (λ refusal is. something head e is.1)
      by false e = part_unknown (unknown_name head.place) refl (refl, nothing_from head e)
  part_is (sort_at asked) = by (is_sort_name signature asked.name) refl
    where
      none : is_sort_name signature asked.name ≡ true → NamesNoSort signature asked.name → ⊥
      none e is =
          let found = list_any-at (λ (s : Sort). one_name s.name asked.name) signature.sorts e in
          is found.0 found.1 found.2 ((names_decided found.1.name asked.name).0 found.3)

      turned : (test : Bool) → test ≡ false → (if test then false else true) ≡ true
      turned true e = absurd (cc e)
      turned false e = refl

      by : (known : Bool) → is_sort_name signature asked.name ≡ known
          → PartIs (sort_at asked) (if known then [] else unknown_sort asked.place ∷ [])
      by true e = part_known refl (λ refusal is. none e is.1)
      by false e =
          part_unknown (unknown_sort asked.place) refl (
            refl,
            λ i sort at named.
                let known : is_sort_name signature asked.name ≡ true =
                any_passes_from_place (λ (s : Sort). one_name s.name asked.name) signature.sorts i sort at
                ((names_decided sort.name asked.name).1 named) in
                let never : true ≡ false = sym known ∙ e in absurd (cc never),
          )

  -- ---- Of all names in text order

  abbrev over : List WrittenPart → List ReadingRefusal
  over [] = []
  over (part ∷ parts) = part_refusal part ++ over parts

  over_joined : (xs ys : List WrittenPart) → over (xs ++ ys) ≡ over xs ++ over ys
  over_joined [] ys = refl
  over_joined (x ∷ xs) ys =
      ap (λ (rest : List ReadingRefusal). part_refusal x ++ rest) (over_joined xs ys)
      ∙ sym (append_assoc (part_refusal x) (over xs) (over ys))

  over_sorts : (names : List PlacedName) → unknown_sorts signature names ≡ over (map (λ (asked : PlacedName). sort_at asked) names)
  over_sorts [] = refl
  over_sorts (name ∷ names) = ap (λ (rest : List ReadingRefusal). part_refusal (sort_at name) ++ rest) (over_sorts names)

  abbrev Agree : List (List ReadingRefusal) → List (List WrittenPart) → Type 0
  Agree [] [] = Unit {0}
  Agree [] (parts ∷ more) = ⊥
  Agree (refusals ∷ others) [] = ⊥
  Agree (refusals ∷ others) (parts ∷ more) = (refusals ≡ over parts) × Agree others more

  over_all : (refusals : List (List ReadingRefusal)) (parts : List (List WrittenPart)) → Agree refusals parts
      → refusals_together refusals ≡ over (all_parts parts)
  over_all [] [] agree = refl
  over_all [] (parts ∷ more) agree = absurd agree
  over_all (refusals ∷ others) [] agree = absurd agree
  over_all (refusals ∷ others) (parts ∷ more) agree =
      let first : refusals ≡ over parts = agree.0 in
      let rest : refusals_together others ≡ over (all_parts more) = over_all others more agree.1 in
      (λ i. first i ++ rest i) ∙ sym (over_joined parts (all_parts more))

  over_around : (form : Form) (part : WrittenPart) (refusals : List (List ReadingRefusal)) (parts : List (List WrittenPart))
      → Agree refusals parts → in_text_order form (part_refusal part) refusals ≡ over (parts_around form part parts)
  over_around prefix_form part refusals parts agree =
      ap (λ (rest : List ReadingRefusal). part_refusal part ++ rest) (over_all refusals parts agree)
  over_around infix_form part [] [] agree = refl
  over_around infix_form part [] (parts ∷ more) agree = absurd agree
  over_around infix_form part (refusals ∷ others) [] agree = absurd agree
  over_around infix_form part (refusals ∷ others) (parts ∷ more) agree =
      let first : refusals ++ [] ≡ over parts = append-nil refusals ∙ agree.0 in
      let rest : refusals_together others ≡ over (all_parts more) = over_all others more agree.1 in
      append_assoc (refusals ++ []) (part_refusal part) (refusals_together others)
      ∙ (λ i. first i ++ (part_refusal part ++ rest i))
      ∙ sym (over_joined parts (part ∷ all_parts more))

  mutual
    over_term : (w : WrittenTerm) → unknown_in signature scope w ≡ over (parts_of w)
    over_term (written head arguments) =
        let around = over_around head.form (name_at head) (unknown_in_each signature scope arguments) (parts_of_each arguments)
        (over_each arguments) in
        let sorts = over_sorts head.sorts in
        (λ i. around i ++ sorts i)
        ∙ sym (over_joined (parts_around head.form (name_at head) (parts_of_each arguments))
        (map (λ (asked : PlacedName). sort_at asked) head.sorts))

    over_each : (ws : WrittenTerms) → Agree (unknown_in_each signature scope ws) (parts_of_each ws)
    over_each no_written = tt
    over_each (written_then w ws) = (over_term w, over_each ws)

  -- ---- The first of them

  abbrev Unknown : List WrittenPart → RefusalCause
  Unknown parts = FirstAlong (PartIsUnknown signature) stays scope parts

  -- none, or the first one
  data FirstIs (parts : List WrittenPart) (refusals : List ReadingRefusal) : Type 0 where
    all_known : refusals ≡ [] → IsNowhere (Unknown parts) → FirstIs parts refusals
    first_unknown : (r : ReadingRefusal) (rest : List ReadingRefusal) → refusals ≡ r ∷ rest → Unknown parts r
        → ((other : ReadingRefusal) → Unknown parts other → other ≡ r) → FirstIs parts refusals

  part_once : (part : WrittenPart) (one other : ReadingRefusal) → PartIsUnknown signature scope part one
      → PartIsUnknown signature scope part other → one ≡ other
  part_once (name_at head) one other is also = is.0 ∙ sym also.0
  part_once (sort_at asked) one other is also = is.0 ∙ sym also.0

  first_is : (parts : List WrittenPart) → FirstIs parts (over parts)
  first_is [] = all_known refl (λ refusal along. elim along [ ])
  first_is (part ∷ parts) = by (part_refusal part) (part_is part) (over parts) (first_is parts)
    where
      by : (here : List ReadingRefusal) → PartIs part here → (later : List ReadingRefusal) → FirstIs parts later
          → FirstIs (part ∷ parts) (here ++ later)
      by here (part_unknown r e is) later rest =
          first_unknown r later (ap (λ (xs : List ReadingRefusal). xs ++ later) e) (at_once is) only
        where
          only : (other : ReadingRefusal) → Unknown (part ∷ parts) other → other ≡ r
          only other (at_once also) = part_once part other r also is
          only other (further_on none more) = absurd (none r is)
      by here (part_known e none) later (all_known none_left nowhere) =
          all_known (ap (λ (xs : List ReadingRefusal). xs ++ later) e ∙ none_left) all
        where
          all : IsNowhere (Unknown (part ∷ parts))
          all other (at_once also) = none other also
          all other (further_on no_one more) = nowhere other more
      by here (part_known e none) later (first_unknown r rest is_first is only) =
          first_unknown r rest (ap (λ (xs : List ReadingRefusal). xs ++ later) e ∙ is_first) (further_on none is) alone
        where
          alone : (other : ReadingRefusal) → Unknown (part ∷ parts) other → other ≡ r
          alone other (at_once also) = absurd (none other also)
          alone other (further_on no_one more) = only other more

  -- ---- What a question comes to

  module _ {A : Type 0} (Is : A → Type 0) (counted : IsCounted Is) (place : Place) (parts : List WrittenPart) where
    abbrev Causes : RefusalCause
    Causes = QuestionBrings signature scope parts place Is

    refused_by : (unknown : List ReadingRefusal) → FirstIs parts unknown → (refusal : ReadingRefusal)
        → ComesTo unknown place Is (refused refusal) ↔ Causes refusal
    refused_by unknown (first_unknown r rest e is only) refusal =
        subst (λ (refusals : List ReadingRefusal). ComesTo refusals place Is (refused refusal) ↔ Causes refusal) (sym e) (to, from)
      where
        to : refusal ≡ r → Causes refusal
        to same = inl (subst (Unknown parts) (sym same) is)

        from : Causes refusal → refusal ≡ r
        from (inl along) = only refusal along
        from (inr (none, later)) = absurd (none r is)
    refused_by unknown (all_known e none) refusal =
        subst (λ (refusals : List ReadingRefusal). ComesTo refusals place Is (refused refusal) ↔ Causes refusal) (sym e) (to, from)
      where
        to : ComesTo [] place Is (refused refusal) → Causes refusal
        to (inl (no_one, same)) = inr (none, inl (same, no_one))
        to (inr (two, same)) = inr (none, inr ((λ other is. is.1 two.one two.one_is), (same, two)))

        from : Causes refusal → ComesTo [] place Is (refused refusal)
        from (inl along) = absurd (none refusal along)
        from (inr (nowhere, inl is)) = inl (is.1, is.0)
        from (inr (nowhere, inr (some, is))) = inr (is.1, is.0)

    answered_by : (unknown : List ReadingRefusal) → FirstIs parts unknown
        → IsNowhere Causes ↔ ((x : A) × ComesTo unknown place Is (answered x))
    answered_by unknown (first_unknown r rest e is only) = (λ none. absurd (none r (inl is)), from)
      where
        from : ((x : A) × ComesTo unknown place Is (answered x)) → IsNowhere Causes
        from (x, comes) = absurd (subst (λ (refusals : List ReadingRefusal). ComesTo refusals place Is (answered x)) e comes)
    answered_by unknown (all_known e none) = (λ nowhere. to nowhere counted, from)
      where
        to : IsNowhere Causes → IsCounted Is → (x : A) × ComesTo unknown place Is (answered x)
        to nowhere (inl no_one) = absurd (nowhere (no_reading place) (inr (none, inl (refl, no_one))))
        to nowhere (inr (inl (x, only))) =
            (x, subst (λ (refusals : List ReadingRefusal). ComesTo refusals place Is (answered x)) (sym e) only)
        to nowhere (inr (inr two)) =
            absurd (nowhere (two_readings place) (inr (none, inr ((λ other is. is.1 two.one two.one_is), (refl, two)))))

        from : ((x : A) × ComesTo unknown place Is (answered x)) → IsNowhere Causes
        from (x, comes) refusal causes =
            by (subst (λ (refusals : List ReadingRefusal). ComesTo refusals place Is (answered x)) e comes) causes
          where
            by : IsOnly Is x → Causes refusal → ⊥
            by only (inl along) = none refusal along
            by only (inr (nowhere, inl is)) = is.1 x only.is_answer
            by only (inr (nowhere, inr (some, is))) =
                is.1.differ (only.only is.1.one is.1.one_is ∙ sym (only.only is.1.other is.1.other_is))

over_pair : (signature : Signature) (scope : List Variable) (left right : WrittenTerm)
    → unknown_in signature scope left ++ unknown_in signature scope right ≡ over signature scope (parts_of left ++ parts_of right)
over_pair signature scope left right =
    let first = over_term signature scope left in
    let second = over_term signature scope right in
    (λ i. first i ++ second i) ∙ sym (over_joined signature scope (parts_of left) (parts_of right))

first_of_term : (signature : Signature) (scope : List Variable) (w : WrittenTerm)
    → FirstIs signature scope (parts_of w) (unknown_in signature scope w)
first_of_term signature scope w =
    subst (λ (refusals : List ReadingRefusal). FirstIs signature scope (parts_of w) refusals) (sym (over_term signature scope w))
    (first_is signature scope (parts_of w))

first_of_pair : (signature : Signature) (scope : List Variable) (left right : WrittenTerm)
    → FirstIs signature scope (parts_of left ++ parts_of right) (unknown_in signature scope left ++ unknown_in signature scope right)
first_of_pair signature scope left right =
    subst (λ (refusals : List ReadingRefusal). FirstIs signature scope (parts_of left ++ parts_of right) refusals)
    (sym (over_pair signature scope left right)) (first_is signature scope (parts_of left ++ parts_of right))

pub readings_refused : ReadingsAreRefusedWhereCaused
readings_refused = record {
  terms = λ signature scope w expected refusal.
      refused_by signature scope (IsReading signature scope w expected) (term_counted signature scope w expected) (written_head w).place
      (parts_of w) (unknown_in signature scope w) (first_of_term signature scope w) refusal;
  pairs = λ signature scope left right refusal.
      refused_by signature scope (IsPairReading signature scope left right) (pair_counted signature scope left right)
      (written_head left).place (parts_of left ++ parts_of right) (unknown_in signature scope left ++ unknown_in signature scope right)
      (first_of_pair signature scope left right) refusal;
  read = λ signature scope w expected.
      answered_by signature scope (IsReading signature scope w expected) (term_counted signature scope w expected)
      (written_head w).place (parts_of w) (unknown_in signature scope w) (first_of_term signature scope w);
  both_read = λ signature scope left right.
      answered_by signature scope (IsPairReading signature scope left right) (pair_counted signature scope left right)
      (written_head left).place (parts_of left ++ parts_of right) (unknown_in signature scope left ++ unknown_in signature scope right)
      (first_of_pair signature scope left right);
}
