-- The equations of a flat text are read as what they are.
use Rattle.std.proofs.Common.{◌≡◌, ℕ, suc, ◌+◌, ◌<◌, ◌≤◌, Bool, true, false, List, [], ◌∷◌, ◌++◌, map, length, append_assoc, refl, ap, sym, ◌∙◌, subst, arith}
use Rattle.std.specs.Prelude.{Option, Some, slice_get, nat_lt}
use Rattle.std.specs.List.{flat_map}
use Rattle.std.proofs.lemmas.Bool.{ltb-true}
use Rattle.std.proofs.lemmas.List.{append-nil, length-append, length-map}
use Rattle.lotos_base.proofs.Members.{from_map}
use Rattle.lotos_base.proofs.SortLemmas.{sort_of_sorted}
use Rattle.lotos_base.specs.Names.{folded}
use Rattle.lotos_base.specs.WrittenTerm.{WrittenTerm}
use Rattle.lotos_base.specs.Signature.{Signature, Sort, Operation, IsSort, IsWellFormedSignature}
use Rattle.lotos_base.specs.Sorting.{HasSort, Occurs}
use Rattle.lotos_base.specs.Term.{Term, variable, node}
use Rattle.lotos_base.specs.Equation.{Place, Variable, Equation, Data, IsEquation, IsDeclared, IsEquationOver}
use Rattle.syntax_trees.specs.WrittenVariable.{WrittenVariable}
use Rattle.syntax_trees.specs.WrittenEquation.{WrittenEquation, WrittenGroup}
use Rattle.sort_terms.specs.ReadingOutcome.{is_sort_name, answered, ReadingIs}
use Rattle.printed_texts.specs.TermText.{sort_text}
use Rattle.type_definitions.specs.Presentation.{Presentation, presentation_limit}
use Rattle.type_definitions.specs.Declarations.{sort_numbered}
use Rattle.type_definitions.specs.DeclaredEquations.{EquationQuestion, AskedEquation, sort_asked, own_asked, equation_asked, asked_of_variables, asked_of_group, scope_from, scope_of, IsSide, equation_of_sides, sort_is_there, own_is_read, GiveAll, none_asked, next_gives}
use Rattle.type_flatten.proofs.HandedOn.{give_append}
use Rattle.type_presentations.proofs.SignatureLemmas.{sorts_differ, operations_differ}
use Rattle.declaration_laws.specs.HandedOn.{AreOneEquation, AreSameEquations}
use Rattle.session_laws.specs.WrittenAs.{IsWrittenAs}
use Rattle.session_laws.proofs.WrittenLemmas.{terms_have_one_reading}
use Rattle.session_laws.specs.Meanings.{AreInRow}
use Rattle.session_laws.specs.WrittenBehaviours.{Correspond, IsVariableWritten}
use Rattle.flat_text.specs.DataText.{sort_if_any}
use Rattle.flat_text.specs.EquationNames.{renamed_variables}
use Rattle.session_laws.specs.WrittenData.{IsGroupWritten}
use Rattle.session_laws.specs.DataLaws.{AreDataOfText, IsNumberedEquation}
use Rattle.session_laws.proofs.Appearance.{KeepNumbers, numbers_are_kept}
use Rattle.session_laws.proofs.Signatures.{own_sort, own_operation, own_signature, IsKnownSort, known_sort, written_over, term_means_over}
use Rattle.session_laws.proofs.Declared.{presented, IsFaultless, not_large}
use Rattle.session_laws.proofs.Variables.{printed_in_row, names_are_free, declared_means, printed_sorts}

-- the sort of a term is one of the signature
pub sort_within : (signature : Signature) (t : Term) (sort : ℕ) → HasSort signature t sort → IsWellFormedSignature signature
    → IsSort signature sort
sort_within signature (variable n s) sort sorted fine = subst (λ (r : ℕ). IsSort signature r) sorted.0 sorted.1
sort_within signature (node f ts) sort sorted fine =
    subst (λ (r : ℕ). IsSort signature r) sorted.2 (fine.results f sorted.0 sorted.1)

-- a signature under one origin is well formed
pub own_well_formed : (origin : List ℕ) (signature : Signature) → IsWellFormedSignature signature
    → IsWellFormedSignature (own_signature origin signature)
own_well_formed origin signature fine = record {
  results = λ f o at.
      let before = from_map (own_operation origin) signature.operations f o at in
      subst (λ (p : Operation). IsSort (own_signature origin signature) p.result) before.2
      (sort_over before.0.result (fine.results f before.0 before.1));
  arguments = λ f i s o at there.
      let before = from_map (own_operation origin) signature.operations f o at in
      let same : slice_get before.0.arguments i ≡ Some s =
      ap (λ (p : Operation). slice_get p.arguments i) before.2 ∙ there in
      sort_over s (fine.arguments f i s before.0 before.1 same);
  sort_names = λ i j s t at there same.
      let one = from_map (own_sort origin) signature.sorts i s at in
      let other = from_map (own_sort origin) signature.sorts j t there in
      fine.sort_names i j one.0 other.0 one.1 other.1
      (ap (λ (r : Sort). folded r.name) one.2 ∙ same ∙ ap (λ (r : Sort). folded r.name) (sym other.2));
  profiles = λ f g o p at there name form arguments result.
      let one = from_map (own_operation origin) signature.operations f o at in
      let other = from_map (own_operation origin) signature.operations g p there in
      fine.profiles f g one.0 other.0 one.1 other.1
      (ap (λ (r : Operation). folded r.name) one.2 ∙ name ∙ ap (λ (r : Operation). folded r.name) (sym other.2))
      (ap (λ (r : Operation). r.form) one.2 ∙ form ∙ ap (λ (r : Operation). r.form) (sym other.2))
      (ap (λ (r : Operation). r.arguments) one.2 ∙ arguments ∙ ap (λ (r : Operation). r.arguments) (sym other.2))
      (ap (λ (r : Operation). r.result) one.2 ∙ result ∙ ap (λ (r : Operation). r.result) (sym other.2));
}
  where
    sort_over : (s : ℕ) → IsSort signature s → IsSort (own_signature origin signature) s
    sort_over s within =
        let many : length (map (own_sort origin) signature.sorts) ≡ length signature.sorts =
        length-map signature.sorts (own_sort origin) in
        omega (arith, within, many)

pub within_limit : (limit count : ℕ) → count ≤ limit → nat_lt limit count ≡ false
within_limit limit count few = by (nat_lt limit count) refl
  where
    by : (b : Bool) → nat_lt limit count ≡ b → b ≡ false
    by false is = refl
    by true is = let more : limit < count = ltb-true limit count is in absurd (omega (arith, more, few))

-- the equations of groups
abbrev pub equations_of : List WrittenGroup → List WrittenEquation
equations_of groups = flat_map (λ (group : WrittenGroup). group.equations) groups

module _ (data_ : Data) (origin : List ℕ) (form : AreDataOfText data_) where
  abbrev pub so_far : List Equation → Presentation
  so_far done =
      presented (map (own_sort origin) data_.signature.sorts) (map (own_operation origin) data_.signature.operations) done

  abbrev own : Signature
  own = own_signature origin data_.signature

  own_fine : IsWellFormedSignature own
  own_fine = own_well_formed origin data_.signature form.well_formed.signature

  pub known : (sort : ℕ) → IsSort data_.signature sort → IsKnownSort (map (own_sort origin) data_.signature.sorts) data_.signature sort
  known sort within = known_sort origin data_.signature form.well_formed.signature sort within

  number_is : (done : List Equation) (sort : ℕ) (name : List ℕ) → IsSort data_.signature sort → name ≡ sort_text data_.signature sort
      → sort_numbered (so_far done) name ≡ sort
  number_is done sort name within named = ap (λ (m : List ℕ). sort_numbered (so_far done) m) named ∙ (known sort within).numbered

  is_there : (done : List Equation) (sort : ℕ) (name : List ℕ) → IsSort data_.signature sort → name ≡ sort_text data_.signature sort
      → is_sort_name (so_far done).signature name ≡ true
  is_there done sort name within named = ap (λ (m : List ℕ). is_sort_name (so_far done).signature m) named ∙ (known sort within).there

  -- few enough equations
  pub faultless : (done : List Equation) → length done ≤ presentation_limit → IsFaultless (so_far done)
  faultless done few = record {
    sorts = sorts_differ own own_fine;
    operations = operations_differ own own_fine;
    few_sorts =
        ap (λ (n : ℕ). nat_lt presentation_limit n) (length-map data_.signature.sorts (own_sort origin))
        ∙ within_limit presentation_limit (length data_.signature.sorts) form.limits.sorts;
    few_operations =
        ap (λ (n : ℕ). nat_lt presentation_limit n) (length-map data_.signature.operations (own_operation origin))
        ∙ within_limit presentation_limit (length data_.signature.operations) form.limits.operations;
    few_equations = within_limit presentation_limit (length done) few;
  }

  -- ---- Variables

  abbrev HaveSorts : List Variable → Type 0
  HaveSorts xs = (i : ℕ) (v : Variable) → slice_get xs i ≡ Some v → IsSort data_.signature v.sort

  scope_is : (done : List Equation) (xs : List Variable) (ws : List WrittenVariable) (next : ℕ) → HaveSorts xs
      → Correspond (IsVariableWritten data_.signature) xs ws → AreInRow next xs → scope_from (so_far done) next ws ≡ xs
  scope_is done [] [] next sorted each row = refl
  scope_is done [] (w ∷ ws) next sorted each row = absurd each
  scope_is done (x ∷ xs) [] next sorted each row = absurd each
  scope_is done (x ∷ xs) (w ∷ ws) next sorted each row =
      by w.name next (sort_numbered (so_far done) w.sort) (scope_from (so_far done) (suc next) ws) each.0.0 (sym row.0)
      (number_is done x.sort w.sort (sorted 0 x refl) each.0.1)
      (scope_is done xs ws (suc next) (λ i v at. sorted (suc i) v at) each.1 row.1)
    where
      by : (name : List ℕ) (number sort : ℕ) (rest : List Variable) → name ≡ x.name → number ≡ x.number → sort ≡ x.sort → rest ≡ xs
          → record { name = name; number = number; sort = sort } ∷ rest
          ≡ record { name = x.name; number = x.number; sort = x.sort } ∷ xs
      by name number sort rest e f g h = cc (e, f, g, h)

  variables_given : (done : List Equation) (xs : List Variable) (ws : List WrittenVariable) → HaveSorts xs
      → Correspond (IsVariableWritten data_.signature) xs ws → GiveAll (so_far done) (asked_of_variables ws) (so_far done)
  variables_given done [] [] sorted each = none_asked (so_far done)
  variables_given done [] (w ∷ ws) sorted each = absurd each
  variables_given done (x ∷ xs) [] sorted each = absurd each
  variables_given done (x ∷ xs) (w ∷ ws) sorted each =
      next_gives (so_far done) (so_far done) (so_far done) (sort_asked w.sort_place w.sort) (asked_of_variables ws)
      (sort_is_there w.sort_place w.sort (is_there done x.sort w.sort (sorted 0 x refl) each.0.1))
      (variables_given done xs ws (λ i v at. sorted (suc i) v at) each.1)

  -- ---- One equation

  module _ (e : Equation) (member : IsEquation data_ e) (g : WrittenGroup) (is : IsGroupWritten data_.signature e g) where
    over : IsEquationOver data_.signature e
    over = form.well_formed.equations e member

    by_first : IsNumberedEquation e
    by_first = form.equations e member

    abbrev printed : List Variable
    printed = renamed_variables data_.signature e

    row : AreInRow 0 printed
    row = printed_in_row data_.signature e (form.limits.variables e member) by_first.declared

    sorted_variables : HaveSorts printed
    sorted_variables i v at =
        let from = printed_sorts data_.signature e (form.limits.variables e member) i v at in
        subst (λ (s : ℕ). IsSort data_.signature s) (sym from.2)
        (over.variable_sorts from.0.number from.0.sort (i, from.0, from.1, refl, refl))

    sort_known : IsSort data_.signature over.sort
    sort_known = sort_within data_.signature e.left over.sort over.left_sort form.well_formed.signature

    named : g.sort ≡ sort_text data_.signature over.sort
    named =
        is.sorted
        ∙ ap (λ (s : Option ℕ). sort_if_any data_.signature s) (sort_of_sorted data_.signature e.left over.sort over.left_sort)

    abbrev asked : AskedEquation
    asked = record { variables = g.variables; sort = g.sort; equation = is.one }

    scope : (done : List Equation) → scope_of (so_far done) asked ≡ printed
    scope done = scope_is done printed g.variables 0 sorted_variables is.variables row

    side : (done : List Equation) (w : WrittenTerm) (t : Term) → HasSort data_.signature t over.sort
        → ((n s : ℕ) → Occurs n s t → IsDeclared e n s) → IsWrittenAs data_.signature printed t w → IsSide (so_far done) asked w t
    side done w t sorted declared written = (record { term = t; sort = over.sort }, reading, refl)
      where
        reading : ReadingIs own (scope_of (so_far done) asked) w (Some (sort_numbered (so_far done) g.sort))
            (answered (record { term = t; sort = over.sort }))
        reading =
            subst (λ (visible : List Variable). ReadingIs own visible w (Some (sort_numbered (so_far done) g.sort))
            (answered (record { term = t; sort = over.sort })))
            (sym (scope done))
            (terms_have_one_reading own printed printed over.sort t w (Some (sort_numbered (so_far done) g.sort)) own_fine
            (term_means_over origin data_.signature printed
            (names_are_free data_.signature e (form.limits.variables e member)) t over.sort sorted
            (λ n s occurs. declared_means data_.signature e (form.limits.variables e member) by_first.declared n s
            (declared n s occurs)))
            (written_over origin data_.signature printed t w written)
            (sym (number_is done over.sort g.sort sort_known named)))

    abbrev pub new_equation : List Equation → Equation
    new_equation done = equation_of_sides is.one.place (scope_of (so_far done) asked) e.left e.right

    kept : KeepNumbers e.left e.right
    kept = numbers_are_kept e.left e.right by_first.appearing

    pub one_equation : (done : List Equation) → AreOneEquation e (new_equation done)
    one_equation done = record { left = sym kept.left_stays; right = sym kept.right_stays }

    abbrev question : WrittenEquation → EquationQuestion
    question w = equation_asked false (record { variables = g.variables; sort = g.sort; equation = w })

    pub group_given : (done : List Equation) → length (done ++ new_equation done ∷ []) ≤ presentation_limit
        → GiveAll (so_far done) (asked_of_group false [] g) (so_far (done ++ new_equation done ∷ []))
    group_given done few =
        let p : Presentation = so_far done in
        let q : Presentation = so_far (done ++ new_equation done ∷ []) in
        next_gives p p q (sort_asked g.place g.sort) (asked_of_variables g.variables ++ map question g.equations)
        (sort_is_there g.place g.sort (is_there done over.sort g.sort sort_known named))
        (give_append p p q (asked_of_variables g.variables) (map question g.equations)
        (variables_given done printed g.variables sorted_variables is.variables)
        (subst (λ (ws : List WrittenEquation). GiveAll p (map question ws) q) (sym is.alone)
        (next_gives p q q (own_asked asked) []
        (own_is_read asked e.left e.right is.is_written.arrow
        (side done is.one.left e.left over.left_sort over.left_declared is.is_written.left)
        (side done is.one.right e.right over.right_sort over.right_declared is.is_written.right)
        (not_large q (faultless (done ++ new_equation done ∷ []) few)))
        (none_asked q))))

  -- ---- All of them

  abbrev place_of : Equation → Place
  place_of e = e.place

  abbrev written_place : WrittenEquation → Place
  written_place w = w.place

  pub record AreGiven (done es : List Equation) (groups : List WrittenGroup) : Type 0 where
    pub new : List Equation
    pub gives : GiveAll (so_far done) (flat_map (asked_of_group false []) groups) (so_far (done ++ new))
    pub same : AreSameEquations es new
    pub places : map place_of new ≡ map written_place (equations_of groups)
    pub as_many : length new ≡ length es

  pub all_given : (done es : List Equation) (groups : List WrittenGroup)
      → ((i : ℕ) (e : Equation) → slice_get es i ≡ Some e → IsEquation data_ e)
      → Correspond (IsGroupWritten data_.signature) es groups
      → length done + length es ≤ presentation_limit → AreGiven done es groups
  all_given done [] [] there each few = record {
    new = [];
    gives =
        subst (λ (now : List Equation). GiveAll (so_far done) [] (so_far now)) (sym (append-nil done)) (none_asked (so_far done));
    same = tt;
    places = refl;
    as_many = refl;
  }
  all_given done [] (g ∷ gs) there each few = absurd each
  all_given done (e ∷ es) [] there each few = absurd each
  all_given done (e ∷ es) (g ∷ gs) there each few =
      let one : Equation = new_equation e (there 0 e refl) g each.0 done in
      let long : length (done ++ one ∷ []) ≡ length done + 1 = length-append done (one ∷ []) in
      let rest : AreGiven (done ++ one ∷ []) es gs =
      all_given (done ++ one ∷ []) es gs (λ i f at. there (suc i) f at) each.1 (omega (arith, long, few)) in record {
        new = one ∷ rest.new;
        gives =
            give_append (so_far done) (so_far (done ++ one ∷ [])) (so_far (done ++ one ∷ rest.new)) (asked_of_group false [] g)
            (flat_map (asked_of_group false []) gs)
            (group_given e (there 0 e refl) g each.0 done (omega (arith, long, few)))
            (subst (λ (now : List Equation). GiveAll (so_far (done ++ one ∷ [])) (flat_map (asked_of_group false []) gs) (so_far now))
            (append_assoc done (one ∷ []) rest.new) rest.gives);
        same = (one_equation e (there 0 e refl) g each.0 done, rest.same);
        places =
            ap (λ (ps : List Place). each.0.one.place ∷ ps) rest.places
            ∙ ap (λ (ws : List WrittenEquation). map written_place (ws ++ equations_of gs)) (sym each.0.alone);
        as_many = ap suc rest.as_many;
      }
