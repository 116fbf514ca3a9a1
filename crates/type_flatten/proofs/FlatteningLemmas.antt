-- Faults of types and their causes, along the order of flattening.
use Rattle.std.proofs.Common.{◌≡◌, ◌↔◌, inl, inr, ℕ, List, [], ◌∷◌, ◌++◌, Option, None, refl, ap, sym, ◌∙◌, subst}
use Rattle.std.proofs.lemmas.Bool.{both_ways}
use Rattle.lotos_base.proofs.Options.{none_unless_some, none_and_some}
use Rattle.lotos_base.specs.Equation.{Data}
use Rattle.lotos_base.specs.Term.{Term}
use Rattle.lotos_base.specs.WrittenTerm.{WrittenTerm}
use Rattle.syntax_trees.specs.WrittenItem.{WrittenSections, WrittenTypeBody, extends, renames, actualises}
use Rattle.sort_terms.specs.ReadingOutcome.{answered}
use Rattle.sort_terms.proofs.ReadsLemmas.{comes_once}
use Rattle.sort_terms.proofs.OutcomeLemmas.{same_answer}
use Rattle.type_definitions.specs.DeclaredTypes.{DeclaredType, mention_graph}
use Rattle.type_definitions.proofs.UnknownLemmas.{graph_within}
use Rattle.type_definitions.specs.TypeGraph.{is_among}
use Rattle.type_definitions.specs.FlatteningOrder.{FlatteningComesTo, flattened_already, flattened_now, ComesToEach, none_left, next_come_to, IsFlatteningOrder}
use Rattle.type_definitions.specs.TypeFault.{TypeFault}
use Rattle.type_definitions.specs.Presentation.{Presentation}
use Rattle.type_definitions.specs.Union.{Mentioned, union_of, union_fault}
use Rattle.type_definitions.specs.Declarations.{declaration_fault}
use Rattle.type_definitions.specs.DeclaredEquations.{AskedEquation, EquationQuestion, IsSide, with_sides, GivesPresentation, sort_is_there, formal_is_read, own_is_read, GiveAll, none_asked, next_gives}
use Rattle.type_definitions.specs.Extension.{extended, extended_fault, asked_of, IsExtension, IsExtensionFault}
use Rattle.type_definitions.specs.Renaming.{renamed_presentation, renaming_fault}
use Rattle.type_definitions.specs.Actualisation.{actualisation}
use Rattle.type_definitions.specs.ActualisationFaults.{actualising_of, actualisation_fault}
use Rattle.type_definitions.specs.Flattened.{presentation_named, mention_of, mentions_with, IsPresentation, IsFaultOfType, declared_with, ArePresented, all_presented, next_presented, HasFaultyType, faulty_now, faulty_later, without_formals, flattened_data_of, types_at, IsFlattening, IsFlatteningFault}
use Rattle.type_flatten.specs.FirstCause.{IsNowhere, OrElse}
use Rattle.type_flatten.specs.FaultCauses.{Cause, DeclarationsBring}
use Rattle.type_flatten.specs.EquationCauses.{EquationsBring}
use Rattle.type_flatten.specs.RenamingCauses.{RenamingBrings}
use Rattle.type_flatten.specs.ActualisationCauses.{ActualisationBrings}
use Rattle.type_flatten.specs.FlatteningCauses.{UnionBrings, ExtensionBrings, BodyBrings, FirstTypeBrings, type_brings, later_type_brings, FlatteningBrings}
use Rattle.type_flatten.specs.FlatteningCauseLaws.{TypesAreFaultyWhereCaused}
use Rattle.type_flatten.proofs.CauseLemmas.{Tells, or_else, unions_faulty, declarations_faulty}
use Rattle.type_flatten.proofs.RenamingCauseLemmas.{renamings_faulty}
use Rattle.type_flatten.proofs.ActualisationCauseLemmas.{actualisations_faulty}
use Rattle.type_flatten.proofs.AskedLemmas.{equations_faulty}
use Rattle.type_flatten.proofs.CycleLemmas.{names_faulty}
use Rattle.type_flatten.proofs.FlatteningOrder.{order_there}

none_where : (found : Option TypeFault) (Is : Cause) → Tells found Is → IsNowhere Is → found ≡ None
none_where found Is tells none = none_unless_some found (λ fault e. none fault ((tells fault).0 e))

where_none : (found : Option TypeFault) (Is : Cause) → Tells found Is → found ≡ None → IsNowhere Is
where_none found Is tells none fault is = none_and_some found fault none ((tells fault).1 is)

-- ---- One type

module _ (imports : List Mentioned) (type_name : List ℕ) (sections : WrittenSections) where
  abbrev Declared : Cause
  Declared = OrElse (UnionBrings imports) (DeclarationsBring type_name (union_of imports) sections)

  declared_told : Tells (extended_fault imports type_name sections) Declared
  declared_told =
      or_else (union_fault imports) (declaration_fault type_name (union_of imports) sections) (UnionBrings imports)
      (DeclarationsBring type_name (union_of imports) sections) (unions_faulty.unions imports)
      (declarations_faulty type_name (union_of imports) sections)

  abbrev Equations : Cause
  Equations = EquationsBring type_name (extended imports type_name sections) (asked_of sections)

  extension_told : (fault : TypeFault) → IsExtensionFault imports type_name sections fault
      → ExtensionBrings imports type_name sections fault
  extension_told fault (inl e) = inl ((declared_told fault).0 e)
  extension_told fault (inr (none, first)) =
      inr (
        where_none (extended_fault imports type_name sections) Declared declared_told none,
        (equations_faulty.faulty type_name (extended imports type_name sections) (asked_of sections) fault).0 first,
      )

  told_extension : (fault : TypeFault) → ExtensionBrings imports type_name sections fault
      → IsExtensionFault imports type_name sections fault
  told_extension fault (inl is) = inl ((declared_told fault).1 is)
  told_extension fault (inr (none, brings)) =
      inr (
        none_where (extended_fault imports type_name sections) Declared declared_told none,
        (equations_faulty.faulty type_name (extended imports type_name sections) (asked_of sections) fault).1 brings,
      )

  extension_given : IsNowhere (ExtensionBrings imports type_name sections)
      → (p : Presentation) × IsExtension imports type_name sections p
  extension_given none =
      let first : IsNowhere Declared = (λ fault is. none fault (inl is)) in
      let given = (equations_faulty.given type_name (extended imports type_name sections) (asked_of sections)).0
      (λ fault is. none fault (inr (first, is))) in
      (given.0, (none_where (extended_fault imports type_name sections) Declared declared_told first, given.1))

  given_extension : (p : Presentation) → IsExtension imports type_name sections p → IsNowhere (ExtensionBrings imports type_name sections)
  given_extension p is fault (inl declared) =
      where_none (extended_fault imports type_name sections) Declared declared_told is.0 fault declared
  given_extension p is fault (inr (none, equations)) =
      (equations_faulty.given type_name (extended imports type_name sections) (asked_of sections)).1 (p, is.1) fault equations

one_told : (done : List Mentioned) (type_name : List ℕ) (body : WrittenTypeBody) (fault : TypeFault)
    → IsFaultOfType done type_name body fault ↔ BodyBrings done type_name body fault
one_told done type_name (extends imports sections) fault = (
  extension_told (mentions_with done imports) type_name sections fault,
  told_extension (mentions_with done imports) type_name sections fault,
)
one_told done type_name (renames base pairs) fault = renamings_faulty (presentation_named done base.name) type_name pairs fault
one_told done type_name (actualises base actuals pairs) fault =
    actualisations_faulty (mention_of done base) (mentions_with done actuals) type_name pairs fault

presented_of : (done : List Mentioned) (type_name : List ℕ) (body : WrittenTypeBody) → IsNowhere (BodyBrings done type_name body)
    → (p : Presentation) × IsPresentation done type_name body p
presented_of done type_name (extends imports sections) none = extension_given (mentions_with done imports) type_name sections none
presented_of done type_name (renames base pairs) none = (
  renamed_presentation (presentation_named done base.name) type_name pairs,
  (
    none_where (renaming_fault (presentation_named done base.name) type_name pairs)
        (RenamingBrings (presentation_named done base.name) type_name pairs)
        (renamings_faulty (presentation_named done base.name) type_name pairs) none,
    refl,
  ),
)
presented_of done type_name (actualises base actuals pairs) none = (
  actualisation (actualising_of (mention_of done base) (mentions_with done actuals) type_name pairs),
  (
    none_where (actualisation_fault (mention_of done base) (mentions_with done actuals) type_name pairs)
        (ActualisationBrings (mention_of done base) (mentions_with done actuals) type_name pairs)
        (actualisations_faulty (mention_of done base) (mentions_with done actuals) type_name pairs) none,
    refl,
  ),
)

of_presented : (done : List Mentioned) (type_name : List ℕ) (body : WrittenTypeBody) (p : Presentation)
    → IsPresentation done type_name body p → IsNowhere (BodyBrings done type_name body)
of_presented done type_name (extends imports sections) p is = given_extension (mentions_with done imports) type_name sections p is
of_presented done type_name (renames base pairs) p is =
    where_none (renaming_fault (presentation_named done base.name) type_name pairs)
    (RenamingBrings (presentation_named done base.name) type_name pairs)
    (renamings_faulty (presentation_named done base.name) type_name pairs) is.0
of_presented done type_name (actualises base actuals pairs) p is =
    where_none (actualisation_fault (mention_of done base) (mentions_with done actuals) type_name pairs)
    (ActualisationBrings (mention_of done base) (mentions_with done actuals) type_name pairs)
    (actualisations_faulty (mention_of done base) (mentions_with done actuals) type_name pairs) is.0

-- ---- A type has one presentation

side_once : (p : Presentation) (asked : AskedEquation) (w : WrittenTerm) (t u : Term) → IsSide p asked w t → IsSide p asked w u → t ≡ u
side_once p asked w t u is also =
    let same = same_answer is.0 also.0 (comes_once _ _ _ (answered is.0) (answered also.0) is.1 also.1) in
    sym is.2 ∙ (λ i. (same i).term) ∙ also.2

gives_once : {p q r : Presentation} {a : EquationQuestion} → GivesPresentation p a q → GivesPresentation p a r → q ≡ r
gives_once (sort_is_there place name there) (sort_is_there _ _ also) = refl
gives_once (formal_is_read asked left right is also are) (formal_is_read _ _ _ _ _ _) = refl
gives_once {p = p} (own_is_read asked left right none is also small) (own_is_read _ one two _ is_one is_two _) =
    let lefts = side_once p asked asked.equation.left left one is is_one in
    let rights = side_once p asked asked.equation.right right two also is_two in
    (λ i. with_sides p asked (lefts i) (rights i))

all_give_once : {p q r : Presentation} {asked : List EquationQuestion} → GiveAll p asked q → GiveAll p asked r → q ≡ r
all_give_once (none_asked p) (none_asked _) = refl
all_give_once {r = last} (next_gives p q r a asked first rest) (next_gives _ other _ _ _ also more) =
    all_give_once rest (subst (λ (s : Presentation). GiveAll s asked last) (gives_once also first) more)

presented_once : (done : List Mentioned) (type_name : List ℕ) (body : WrittenTypeBody) (p q : Presentation)
    → IsPresentation done type_name body p → IsPresentation done type_name body q → p ≡ q
presented_once done type_name (extends imports sections) p q is also = all_give_once is.1 also.1
presented_once done type_name (renames base pairs) p q is also = sym is.1 ∙ also.1
presented_once done type_name (actualises base actuals pairs) p q is also = sym is.1 ∙ also.1

-- ---- All types

abbrev and_type : List Mentioned → DeclaredType → Presentation → List Mentioned
and_type done t p = done ++ declared_with t p ∷ []

first_told : (done : List Mentioned) (ts : List DeclaredType) (fault : TypeFault) → HasFaultyType done ts fault
    → FirstTypeBrings done ts fault
first_told _ _ _ (faulty_now done t ts fault is) = type_brings done t ts fault ((one_told done t.name t.body fault).0 is)
first_told _ _ _ (faulty_later done t ts p fault is later) =
    later_type_brings done t ts p fault (of_presented done t.name t.body p is) is (first_told (and_type done t p) ts fault later)

told_first : (done : List Mentioned) (ts : List DeclaredType) (fault : TypeFault) → FirstTypeBrings done ts fault
    → HasFaultyType done ts fault
told_first _ _ _ (type_brings done t ts fault is) = faulty_now done t ts fault ((one_told done t.name t.body fault).1 is)
told_first _ _ _ (later_type_brings done t ts p fault none is later) =
    faulty_later done t ts p fault is (told_first (and_type done t p) ts fault later)

presented_fine : (done : List Mentioned) (ts : List DeclaredType) (all : List Mentioned) → ArePresented done ts all
    → IsNowhere (FirstTypeBrings done ts)
presented_fine _ _ _ (all_presented done) fault first = elim first [ ]
presented_fine _ _ _ (next_presented done all t ts p is rest) fault (type_brings _ _ _ _ brings) =
    of_presented done t.name t.body p is fault brings
presented_fine _ _ _ (next_presented done all t ts p is rest) fault (later_type_brings _ _ _ q _ none also later) =
    presented_fine (and_type done t p) ts all rest fault
    (subst (λ (r : Presentation). FirstTypeBrings (and_type done t r) ts fault) (presented_once done t.name t.body q p also is) later)

presented_all : (ts : List DeclaredType) (done : List Mentioned) → IsNowhere (FirstTypeBrings done ts)
    → (all : List Mentioned) × ArePresented done ts all
presented_all [] done none = (done, all_presented done)
presented_all (t ∷ ts) done none =
    let first : IsNowhere (BodyBrings done t.name t.body) = (λ fault is. none fault (type_brings done t ts fault is)) in
    let found = presented_of done t.name t.body first in
    let rest = presented_all ts (and_type done t found.0)
    (λ fault later. none fault (later_type_brings done t ts found.0 fault first found.1 later)) in
    (rest.0, next_presented done rest.0 t ts found.0 found.1 rest.1)

all_told : (types : List DeclaredType) (fault : TypeFault) → IsFlatteningFault types fault
    → (order : List ℕ) × IsFlatteningOrder (mention_graph types) order × FlatteningBrings (types_at types order) fault
all_told types fault (inl (order, ordered, faulty)) = (order, ordered, inl (first_told [] (types_at types order) fault faulty))
all_told types fault (inr u) = (
  u.order,
  u.ordered,
  inr (
    presented_fine [] (types_at types u.order) u.all u.presented,
    record { all = u.all; presented = u.presented; brings = (unions_faulty.unions (without_formals u.all) fault).0 u.clash },
  ),
)

told_all : (types : List DeclaredType) (fault : TypeFault)
    → (order : List ℕ) × IsFlatteningOrder (mention_graph types) order × FlatteningBrings (types_at types order) fault
    → IsFlatteningFault types fault
told_all types fault (order, ordered, inl first) = inl (order, ordered, told_first [] (types_at types order) fault first)
told_all types fault (order, ordered, inr (none, last)) =
    inr (record {
      order = order;
      ordered = ordered;
      all = last.all;
      presented = last.presented;
      clash = (unions_faulty.unions (without_formals last.all) fault).1 last.brings;
    })

-- ---- The data, by the one order of flattening

mutual
  order_once : {graph : List (List ℕ)} {done one other : List ℕ} {i : ℕ} → FlatteningComesTo graph done i one
      → FlatteningComesTo graph done i other → one ≡ other
  order_once (flattened_already done i told) (flattened_already _ _ also) = refl
  order_once (flattened_already done i told) (flattened_now _ more _ untold each) = absurd (both_ways (is_among done i) untold told)
  order_once (flattened_now done more i untold each) (flattened_already _ _ told) = absurd (both_ways (is_among done i) untold told)
  order_once (flattened_now done more i untold each) (flattened_now _ other _ also too) =
      ap (λ (ns : List ℕ). ns ++ i ∷ []) (each_once each too)

  each_once : {graph : List (List ℕ)} {done one other numbers : List ℕ} → ComesToEach graph done numbers one
      → ComesToEach graph done numbers other → one ≡ other
  each_once (none_left done) (none_left _) = refl
  each_once {graph} {other = all} (next_come_to done more one i numbers first rest) (next_come_to _ also _ _ _ second later) =
      each_once rest (subst (λ (ns : List ℕ). ComesToEach graph ns numbers all) (sym (order_once first second)) later)

flattened_of : (types : List DeclaredType) (order : List ℕ) → IsFlatteningOrder (mention_graph types) order
    → IsNowhere (FlatteningBrings (types_at types order)) → (data_ : Data) × IsFlattening types data_
flattened_of types order ordered none =
    let first : IsNowhere (FirstTypeBrings [] (types_at types order)) = (λ fault is. none fault (inl is)) in
    let found = presented_all (types_at types order) [] first in
    let united : union_fault (without_formals found.0) ≡ None =
    none_where (union_fault (without_formals found.0)) (UnionBrings (without_formals found.0))
    (unions_faulty.unions (without_formals found.0))
    (λ fault brings. none fault (inr (first, record { all = found.0; presented = found.1; brings = brings }))) in (
      flattened_data_of (union_of (without_formals found.0)),
      record { order = order; ordered = ordered; all = found.0; presented = found.1; united = united; answered = refl },
    )

all_once : {done one other : List Mentioned} {ts : List DeclaredType} → ArePresented done ts one → ArePresented done ts other
    → one ≡ other
all_once (all_presented done) (all_presented _) = refl
all_once {other = last} (next_presented done all t ts p first rest) (next_presented _ _ _ _ q also later) =
    all_once rest
    (subst (λ (r : Presentation). ArePresented (and_type done t r) ts last) (presented_once done t.name t.body q p also first) later)

of_flattened : (types : List DeclaredType) (order : List ℕ) → IsFlatteningOrder (mention_graph types) order
    → (data_ : Data) × IsFlattening types data_ → IsNowhere (FlatteningBrings (types_at types order))
of_flattened types order ordered (data_, is) = by
  where
    presented : ArePresented [] (types_at types order) is.all
    presented = subst (λ (ns : List ℕ). ArePresented [] (types_at types ns) is.all) (each_once is.ordered ordered) is.presented

    by : IsNowhere (FlatteningBrings (types_at types order))
    by fault (inl first) = presented_fine [] (types_at types order) is.all presented fault first
    by fault (inr (none, last)) =
        where_none (union_fault (without_formals last.all)) (UnionBrings (without_formals last.all))
        (unions_faulty.unions (without_formals last.all))
        (subst (λ (all : List Mentioned). union_fault (without_formals all) ≡ None) (all_once presented last.presented) is.united)
        fault last.brings

pub types_faulty : TypesAreFaultyWhereCaused
types_faulty = record {
  one = one_told;
  presented = λ done type_name body.
      (presented_of done type_name body, λ given. of_presented done type_name body given.0 given.1);
  all = λ types fault. (all_told types fault, told_all types fault);
  ordered = λ types none.
      let fine = (names_faulty.fine types).1 none in
      order_there (mention_graph types) (graph_within types (mention_graph types) fine.1 refl) fine.2;
  flattened = λ types order ordered. (flattened_of types order ordered, of_flattened types order ordered);
}
