-- Uses as the code makes them, in the words of the code: from what it finds to a use, and from a use to what it finds.
use Rattle.std.proofs.Common.{◌≡◌, ℕ, List, Bool, true, false, nat_eq, refl, ap, sym, ◌∙◌, subst, inl, inr}
use Rattle.std.specs.Option.{option_map}
use Rattle.std.specs.Prelude.{◌⊎◌, ◌↔◌, Option, None, Some}
use Rattle.std.proofs.lemmas.Bool.Decides.{Decides-eqb}
use Rattle.lotos_base.proofs.Each.{Each}
use Rattle.lotos_base.proofs.Options.{none_and_some}
use Rattle.lotos_base.specs.Equation.{Data}
use Rattle.lotos_base.specs.Path.{subterm, put_at}
use Rattle.lotos_base.specs.Signature.{Signature}
use Rattle.lotos_base.specs.Sorting.{Occurs}
use Rattle.lotos_base.specs.Substitution.{substituted, KeepsSorts}
use Rattle.lotos_base.specs.Term.{Term}
use Rattle.sort_terms.specs.ProfiledTerm.{ProfiledTerm, bare, head_sort, IsOf}
use Rattle.sort_terms.specs.SortedView.{profiled_in, term_in}
use Rattle.sort_terms.specs.declared.sorted.Sorted.{Sorted}
use Rattle.term_match.specs.Matched.{IsMatchedBy, HasMatch}
use Rattle.term_match.specs.ProfiledInstance.{profiled_binding, profiled_instance}
use Rattle.term_match.specs.ProfiledPath.{profiled_subterm, with_part_replaced, LeadsToSort}
use Rattle.term_match.specs.SubstView.{profiled_pairs, substitution_of}
use Rattle.term_match.specs.declared.substitutions.Subst.{Subst}
use Rattle.term_match.proofs.InstanceLemmas.{instance_of}
use Rattle.term_match.proofs.PathLemmas.{subterm_bare, subterm_of, subterm_fits, put_of, replaced_at}
use Rattle.certificate_theory.specs.InductionCertificate.{Statement as PlainStatement}
use Rattle.certificate_theory.specs.Requirements.{OccursInSide}
use Rattle.certificate_theory.specs.Uses.{taken_side, placed_side, side_at, with_side, StandsForItself, IsUsed}
use Rattle.certificate_theory.proofs.CertificateTests.{each_variable}
use Rattle.certificate_theory.proofs.TestedLines.{UseTells, tells}
use Rattle.induct_parts.specs.StatementView.{statement_of, profiled_sides_of, IsStatementOf, side_in, taken_in, placed_in, with_profiled_side}
use Rattle.induct_parts.specs.CertificateView.{use_side_of, direction_of, use_source_of, use_of}
use Rattle.induct_parts.specs.SettingView.{setting_signature, theory_in, proving_in}
use Rattle.induct_parts.specs.CaseView.{case_in, IsKnownCase}
use Rattle.induct_parts.specs.UseView.{IsKnownSource, StandsRight, closes, IsMatchOf}
use Rattle.induct_parts.specs.declared.statements.Statement.{Statement}
use Rattle.induct_parts.specs.declared.certificates.Side.{Side}
use Rattle.induct_parts.specs.declared.certificates.Side.TheVariants.{Left, Right}
use Rattle.induct_parts.specs.declared.certificates.Direction.{Direction}
use Rattle.induct_parts.specs.declared.certificates.Direction.TheVariants.{Forward, Backward}
use Rattle.induct_parts.specs.declared.certificates.Use.{Use}
use Rattle.induct_parts.specs.declared.setting.Setting.{Setting}
use Rattle.induct_parts.specs.declared.setting.Proving.{Proving}
use Rattle.induct_parts.specs.declared.cases.Case.{Case}
use Rattle.induct_parts.proofs.UseLemmas.{IsMatchedPart, placed_value_over, placed_value_sort, told_stand, closes_decided, told_match, use_made}
use Rattle.induct_parts.proofs.UseSources.{pairs_stand, each_stands}

-- ---- sides

takes : (direction : Direction) (statement : Statement)
    → taken_side (direction_of direction) (statement_of statement) ≡ term_in (taken_in direction statement)
takes Forward statement = refl
takes Backward statement = refl

places : (direction : Direction) (statement : Statement)
    → placed_side (direction_of direction) (statement_of statement) ≡ term_in (placed_in direction statement)
places Forward statement = refl
places Backward statement = refl

goal_side : (side : Side) (statement : Statement) → side_at (use_side_of side) (statement_of statement) ≡ term_in (side_in side statement)
goal_side Left statement = refl
goal_side Right statement = refl

side_over : (signature : Signature) (side : Side) (statement : Statement) → IsStatementOf signature statement
    → IsOf signature (profiled_in (side_in side statement))
side_over signature Left statement over = over.left
side_over signature Right statement over = over.right

taken_over : (signature : Signature) (direction : Direction) (statement : Statement) → IsStatementOf signature statement
    → IsOf signature (profiled_in (taken_in direction statement))
taken_over signature Forward statement over = over.left
taken_over signature Backward statement over = over.right

placed_over : (signature : Signature) (direction : Direction) (statement : Statement) → IsStatementOf signature statement
    → IsOf signature (profiled_in (placed_in direction statement))
placed_over signature Forward statement over = over.right
placed_over signature Backward statement over = over.left

sides_agree : (direction : Direction) (statement : Statement) → statement.left.sort ≡ statement.right.sort
    → (taken_in direction statement).sort ≡ (placed_in direction statement).sort
sides_agree Forward statement e = e
sides_agree Backward statement e = sym e

taken_inside : (direction : Direction) (statement : Statement) (n s : ℕ) → Occurs n s (term_in (taken_in direction statement))
    → OccursInSide (statement_of statement) n s
taken_inside Forward statement n s o = inl o
taken_inside Backward statement n s o = inr o

placed_inside : (direction : Direction) (statement : Statement) (n s : ℕ) → Occurs n s (term_in (placed_in direction statement))
    → OccursInSide (statement_of statement) n s
placed_inside Forward statement n s o = inr o
placed_inside Backward statement n s o = inl o

-- in the side that is taken each variable number has one sort
pub taken_one_sort : (setting : Setting) (proving : Proving) (point : Case) (use_ : Use) (statement : Statement)
    → IsKnownSource setting proving point use_.source statement → (n r s : ℕ) → Occurs n r (term_in (taken_in use_.direction statement))
    → Occurs n s (term_in (taken_in use_.direction statement)) → r ≡ s
taken_one_sort setting proving point use_ statement source n r s o u =
    source.numbers n r s (taken_inside use_.direction statement n r o) (taken_inside use_.direction statement n s u)

-- ---- the part and its match

-- where there is a match the sorts agree
pub sorts_agree : (taken part : Sorted) (o : Option Subst) (found : Subst) → o ≡ Some found
    → ((o ≡ None) ↔ (¬ HasMatch (profiled_in taken) (profiled_in part))) → taken.sort ≡ head_sort (profiled_in part)
sorts_agree taken part o found some none = go (nat_eq (head_sort (profiled_in taken)) (head_sort (profiled_in part))) refl
  where
    go : (b : Bool) → nat_eq (head_sort (profiled_in taken)) (head_sort (profiled_in part)) ≡ b → taken.sort ≡ head_sort (profiled_in part)
    go true e = sym taken.headed ∙ (Decides-eqb (head_sort (profiled_in taken)) (head_sort (profiled_in part))).0 e
    go false e =
        absurd (none_and_some o found (none.1 (λ is.
        let same = (Decides-eqb (head_sort (profiled_in taken)) (head_sort (profiled_in part))).1 is.0 in
        let clash : true ≡ false = sym same ∙ e in
        cc clash)) some)

pub matched_part : (setting : Setting) (proving : Proving) (point : Case) (use_ : Use) (statement : Statement) (found : Subst)
    (part : ProfiledTerm) → IsKnownCase (setting_signature setting) proving.free point
    → IsKnownSource setting proving point use_.source statement
    → profiled_subterm use_.path.items (profiled_in (side_in use_.side point.goal)) ≡ Some part
    → (taken_in use_.direction statement).sort ≡ head_sort part
    → IsMatchedBy (profiled_in (taken_in use_.direction statement)) part (profiled_pairs found.pairs.items)
    → IsMatchedPart (setting_signature setting) (taken_in use_.direction statement) (placed_in use_.direction statement) part
    found.pairs.items
matched_part setting proving point use_ statement found part known source there same matched = record {
  taken_over = taken_over (setting_signature setting) use_.direction statement source.over;
  placed_over = placed_over (setting_signature setting) use_.direction statement source.over;
  part_over = subterm_of (setting_signature setting) use_.path.items (profiled_in (side_in use_.side point.goal)) part
      (side_over (setting_signature setting) use_.side point.goal known.goal) there;
  part_fits = subterm_fits use_.path.items (profiled_in (side_in use_.side point.goal)) part (side_in use_.side point.goal).fits there;
  part_sort = same;
  one_sort = λ n r s o u.
      source.numbers n r s (taken_inside use_.direction statement n r o) (placed_inside use_.direction statement n s u);
  matched = matched;
  distinct = found.distinct;
}

-- the match of the code is such a part
pub part_of_match : (setting : Setting) (proving : Proving) (point : Case) (use_ : Use) (statement : Statement) (found : Subst)
    → IsKnownCase (setting_signature setting) proving.free point → IsKnownSource setting proving point use_.source statement
    → (is : IsMatchOf setting proving point use_ statement found)
    → IsMatchedPart (setting_signature setting) (taken_in use_.direction statement) (placed_in use_.direction statement) is.part
    found.pairs.items
part_of_match setting proving point use_ statement found known source is =
    matched_part setting proving point use_ statement found is.part known source is.is_there is.one_sort is.matched

-- ---- the use that is made

made_is : (side : Side) (after : Sorted) (made goal : Statement)
    → profiled_sides_of made ≡ with_profiled_side side (profiled_in after) (profiled_sides_of goal)
    → statement_of made ≡ with_side (use_side_of side) (term_in after) (statement_of goal)
made_is Left after made goal e = λ i. record { left = bare ((e i).0); right = bare ((e i).1) }
made_is Right after made goal e = λ i. record { left = bare ((e i).0); right = bare ((e i).1) }

made_over : (signature : Signature) (side : Side) (after : Sorted) (made goal : Statement)
    → profiled_sides_of made ≡ with_profiled_side side (profiled_in after) (profiled_sides_of goal) → IsStatementOf signature goal
    → IsOf signature (profiled_in after) → IsStatementOf signature made
made_over signature Left after made goal e over h = record {
  left = subst (IsOf signature) (sym (ap (λ (sides : ProfiledTerm × ProfiledTerm). sides.0) e)) h;
  right = subst (IsOf signature) (sym (ap (λ (sides : ProfiledTerm × ProfiledTerm). sides.1) e)) over.right;
}
made_over signature Right after made goal e over h = record {
  left = subst (IsOf signature) (sym (ap (λ (sides : ProfiledTerm × ProfiledTerm). sides.0) e)) over.left;
  right = subst (IsOf signature) (sym (ap (λ (sides : ProfiledTerm × ProfiledTerm). sides.1) e)) h;
}

-- the values have the sorts of the variables that they are put for
pub values_sorted : (setting : Setting) (proving : Proving) (point : Case) (use_ : Use) (statement : Statement) (found : Subst)
    (placed : Sorted) → IsKnownCase (setting_signature setting) proving.free point
    → IsKnownSource setting proving point use_.source statement → IsMatchOf setting proving point use_ statement found
    → placed ≡ placed_in use_.direction statement → (n s : ℕ) → Occurs n s (term_in placed)
    → head_sort (profiled_binding (profiled_pairs found.pairs.items) n s) ≡ s
values_sorted setting proving point use_ statement found placed known source is e n s o =
    placed_value_sort (part_of_match setting proving point use_ statement found known source is) n s
    (subst (λ (t : Sorted). Occurs n s (term_in t)) e o)

-- the new part has the sort of the old one
pub part_leads : (setting : Setting) (proving : Proving) (point : Case) (use_ : Use) (statement : Statement) (found : Subst)
    (placed side new : Sorted) (path : List ℕ) → IsKnownSource setting proving point use_.source statement
    → IsMatchOf setting proving point use_ statement found → placed ≡ placed_in use_.direction statement
    → side ≡ side_in use_.side point.goal → path ≡ use_.path.items → new.sort ≡ placed.sort
    → LeadsToSort path (profiled_in new) (profiled_in side)
part_leads setting proving point use_ statement found placed side new path source is places_ side_is path_is sorted = record {
  old = is.part;
  is_there = (λ i. profiled_subterm (path_is i) (profiled_in (side_is i))) ∙ is.is_there;
  one_sort = sym is.one_sort ∙ (sides_agree use_.direction statement source.one_sort
      ∙ (sym (ap (λ (t : Sorted). t.sort) places_) ∙ (sym sorted ∙ sym new.headed)));
}

pub replaced_used : (setting : Setting) (proving : Proving) (point : Case) (use_ : Use) (statement : Statement) (found : Subst)
    (placed side new after : Sorted) (path : List ℕ) (made : Statement) → IsKnownCase (setting_signature setting) proving.free point
    → IsKnownSource setting proving point use_.source statement → IsMatchOf setting proving point use_ statement found
    → placed ≡ placed_in use_.direction statement → side ≡ side_in use_.side point.goal → path ≡ use_.path.items
    → term_in new ≡ substituted (substitution_of found) (term_in placed)
    → put_at path (term_in new) (term_in side) ≡ Some (term_in after)
    → profiled_sides_of made ≡ with_profiled_side use_.side (profiled_in after) (profiled_sides_of point.goal)
    → (data_ : Data) (canon : Term → Term)
    → IsUsed (theory_in setting data_ canon) (proving_in proving) (case_in point) (use_of use_) (statement_of made)
replaced_used setting proving point use_ statement found placed side new after path made known source is places_ side_is path_is instance
    put
    result data_ canon =
    subst (IsUsed (theory_in setting data_ canon) (proving_in proving) (case_in point) (use_of use_))
    (sym (made_is use_.side after made point.goal result))
    (use_made (theory_in setting data_ canon) (proving_in proving) (case_in point) (use_of use_) (statement_of statement)
    (taken_in use_.direction statement) (placed_in use_.direction statement) is.part found.pairs.items (term_in after)
    (part_of_match setting proving point use_ statement found known source is) source.is_there (takes use_.direction statement)
    (places use_.direction statement) part_there (pairs_stand proving use_.source found.pairs.items is.stand)
    ((closes_decided (proving_in proving) (use_source_of use_.source) (term_in (taken_in use_.direction statement))
    (term_in (placed_in use_.direction statement))).0 is.closed)
    put_there)
  where
    part_there : subterm use_.path.items (side_at (use_side_of use_.side) (statement_of point.goal)) ≡ Some (bare is.part)
    part_there =
        ap (subterm use_.path.items) (goal_side use_.side point.goal)
        ∙ (sym (subterm_bare use_.path.items (profiled_in (side_in use_.side point.goal)))
        ∙ ap (option_map bare) is.is_there)

    put_there : put_at use_.path.items (substituted (substitution_of found) (term_in (placed_in use_.direction statement)))
        (side_at (use_side_of use_.side) (statement_of point.goal)) ≡ Some (term_in after)
    put_there =
        sym (λ i. put_at (path_is i) ((instance ∙ ap (λ (t : Sorted). substituted (substitution_of found) (term_in t)) places_) i)
        (((ap (λ (t : Sorted). term_in t) side_is) ∙ sym (goal_side use_.side point.goal)) i))
        ∙ put

pub replaced_over : (setting : Setting) (proving : Proving) (point : Case) (use_ : Use) (statement : Statement) (found : Subst)
    (placed side new after : Sorted) (path : List ℕ) (made : Statement) → IsKnownCase (setting_signature setting) proving.free point
    → IsKnownSource setting proving point use_.source statement → IsMatchOf setting proving point use_ statement found
    → placed ≡ placed_in use_.direction statement → side ≡ side_in use_.side point.goal → path ≡ use_.path.items
    → profiled_in new ≡ profiled_instance (profiled_binding (profiled_pairs found.pairs.items)) (profiled_in placed)
    → new.sort ≡ placed.sort
    → Some (profiled_in after) ≡ with_part_replaced path (profiled_in new) (profiled_in side)
    → profiled_sides_of made ≡ with_profiled_side use_.side (profiled_in after) (profiled_sides_of point.goal)
    → IsStatementOf (setting_signature setting) made
replaced_over setting proving point use_ statement found placed side new after path made known source is places_ side_is path_is instance
    sorted put result =
    made_over (setting_signature setting) use_.side after made point.goal result known.goal
    (put_of (setting_signature setting) path (profiled_in new) (profiled_in side) (profiled_in after) whole_over new_over
    (replaced_at path (profiled_in new) (profiled_in side) leads.old leads.is_there leads.one_sort ∙ sym put))
  where
    leads : LeadsToSort path (profiled_in new) (profiled_in side)
    leads = part_leads setting proving point use_ statement found placed side new path source is places_ side_is path_is sorted

    whole_over : IsOf (setting_signature setting) (profiled_in side)
    whole_over =
        subst (λ (t : Sorted). IsOf (setting_signature setting) (profiled_in t)) (sym side_is)
        (side_over (setting_signature setting) use_.side point.goal known.goal)

    new_over : IsOf (setting_signature setting) (profiled_in new)
    new_over =
        subst (IsOf (setting_signature setting))
        (sym (instance ∙ ap (λ (t : Sorted). profiled_instance (profiled_binding (profiled_pairs found.pairs.items)) (profiled_in t))
        places_))
        (instance_of (setting_signature setting) (profiled_binding (profiled_pairs found.pairs.items))
        (profiled_in (placed_in use_.direction statement))
        (placed_over (setting_signature setting) use_.direction statement source.over)
        (λ n s o. placed_value_over (part_of_match setting proving point use_ statement found known source is) n s o))

-- ---- where the code finds nothing there is no use

pub no_part : (setting : Setting) (proving : Proving) (point : Case) (use_ : Use) (side : Sorted) (path : List ℕ)
    → side ≡ side_in use_.side point.goal → path ≡ use_.path.items → None ≡ subterm path (term_in side)
    → (data_ : Data) (canon : Term → Term) (made : PlainStatement)
    → ¬ IsUsed (theory_in setting data_ canon) (proving_in proving) (case_in point) (use_of use_) made
no_part setting proving point use_ side path side_is path_is none data_ canon made used =
    none_and_some (subterm use_.path.items (side_at (use_side_of use_.side) (statement_of point.goal)))
    (substituted used.values (taken_side (direction_of use_.direction) used.statement))
    ((λ i. subterm (sym path_is i) ((goal_side use_.side point.goal ∙ sym (ap (λ (t : Sorted). term_in t) side_is)) i)) ∙ sym none)
    used.old

-- the part that stands at the path
pub part_stands : (use_ : Use) (point : Case) (side part : Sorted) (path : List ℕ) → side ≡ side_in use_.side point.goal
    → path ≡ use_.path.items → Some (profiled_in part) ≡ profiled_subterm path (profiled_in side)
    → profiled_subterm use_.path.items (profiled_in (side_in use_.side point.goal)) ≡ Some (profiled_in part)
part_stands use_ point side part path side_is path_is there =
    (λ i. profiled_subterm (sym path_is i) (profiled_in (sym side_is i))) ∙ sym there

-- What a use tells of the part that stands at the path.
part_told : (setting : Setting) (proving : Proving) (point : Case) (use_ : Use) (statement : Statement) (part : ProfiledTerm)
    → IsKnownSource setting proving point use_.source statement
    → profiled_subterm use_.path.items (profiled_in (side_in use_.side point.goal)) ≡ Some part
    → (data_ : Data) (canon : Term → Term) (made : PlainStatement)
    → IsUsed (theory_in setting data_ canon) (proving_in proving) (case_in point) (use_of use_) made
    → UseTells (theory_in setting data_ canon) (proving_in proving) (use_of use_) (statement_of statement) (bare part)
part_told setting proving point use_ statement part source there data_ canon made used =
    tells (theory_in setting data_ canon) (proving_in proving) (case_in point) (use_of use_) made (statement_of statement) (bare part)
    source.is_there
    (ap (subterm use_.path.items) (goal_side use_.side point.goal)
    ∙ (sym (subterm_bare use_.path.items (profiled_in (side_in use_.side point.goal))) ∙ ap (option_map bare) there))
    used

pub no_match : (setting : Setting) (proving : Proving) (point : Case) (use_ : Use) (statement : Statement) (taken part : Sorted)
    → IsKnownCase (setting_signature setting) proving.free point → IsKnownSource setting proving point use_.source statement
    → taken ≡ taken_in use_.direction statement
    → profiled_subterm use_.path.items (profiled_in (side_in use_.side point.goal)) ≡ Some (profiled_in part)
    → ¬ HasMatch (profiled_in taken) (profiled_in part)
    → (data_ : Data) (canon : Term → Term) (made : PlainStatement)
    → ¬ IsUsed (theory_in setting data_ canon) (proving_in proving) (case_in point) (use_of use_) made
no_match setting proving point use_ statement taken part known source takes_ there never data_ canon made used =
    let told = part_told setting proving point use_ statement (profiled_in part) source there data_ canon made used in
    subst (λ (t : Sorted). ¬ HasMatch (profiled_in t) (profiled_in part)) takes_ never
    (told_match (setting_signature setting) (taken_in use_.direction statement) (profiled_in part) told.values
    (taken_over (setting_signature setting) use_.direction statement source.over)
    (subterm_of (setting_signature setting) use_.path.items (profiled_in (side_in use_.side point.goal)) (profiled_in part)
    (side_over (setting_signature setting) use_.side point.goal known.goal) there)
    part.fits
    (subst (λ (t : Term). KeepsSorts (setting_signature setting) t told.values) (takes use_.direction statement) told.sorted)
    (subst (λ (t : Term). substituted told.values t ≡ bare (profiled_in part)) (takes use_.direction statement) told.old))

pub no_standing : (setting : Setting) (proving : Proving) (point : Case) (use_ : Use) (statement : Statement) (found : Subst)
    (part : ProfiledTerm)
    → IsMatchedPart (setting_signature setting) (taken_in use_.direction statement) (placed_in use_.direction statement) part
    found.pairs.items
    → IsKnownSource setting proving point use_.source statement
    → profiled_subterm use_.path.items (profiled_in (side_in use_.side point.goal)) ≡ Some part
    → ¬ Each (StandsRight proving use_.source) found.pairs.items
    → (data_ : Data) (canon : Term → Term) (made : PlainStatement)
    → ¬ IsUsed (theory_in setting data_ canon) (proving_in proving) (case_in point) (use_of use_) made
no_standing setting proving point use_ statement found part is source there never data_ canon made used =
    let told = part_told setting proving point use_ statement part source there data_ canon made used in
    never (each_stands proving use_.source found.pairs.items
    (told_stand is (proving_in proving) (use_source_of use_.source) told.values told.fixed
    (subst (λ (t : Term). substituted told.values t ≡ bare part) (takes use_.direction statement) told.old)))

pub not_closed : (setting : Setting) (proving : Proving) (point : Case) (use_ : Use) (statement : Statement) (part : ProfiledTerm)
    → IsKnownSource setting proving point use_.source statement
    → profiled_subterm use_.path.items (profiled_in (side_in use_.side point.goal)) ≡ Some part
    → each_variable (closes (proving_in proving) (use_source_of use_.source) (term_in (taken_in use_.direction statement)))
    (term_in (placed_in use_.direction statement)) ≡ false
    → (data_ : Data) (canon : Term → Term) (made : PlainStatement)
    → ¬ IsUsed (theory_in setting data_ canon) (proving_in proving) (case_in point) (use_of use_) made
not_closed setting proving point use_ statement part source there never data_ canon made used =
    let told = part_told setting proving point use_ statement part source there data_ canon made used in
    let closed = (closes_decided (proving_in proving) (use_source_of use_.source) (term_in (taken_in use_.direction statement))
    (term_in (placed_in use_.direction statement))).1
    (λ n s o. closes_there told.closed n s (subst (Occurs n s) (sym (places use_.direction statement)) o)) in
    let clash : true ≡ false = sym closed ∙ never in
    cc clash
  where
    closes_there : ((n s : ℕ) → Occurs n s (placed_side (direction_of use_.direction) (statement_of statement))
        → StandsForItself (proving_in proving) (use_source_of use_.source) n
        ⊎ Occurs n s (taken_side (direction_of use_.direction) (statement_of statement)))
        → (n s : ℕ) → Occurs n s (placed_side (direction_of use_.direction) (statement_of statement))
        → StandsForItself (proving_in proving) (use_source_of use_.source) n ⊎ Occurs n s (term_in (taken_in use_.direction statement))
    closes_there told n s o = go (told n s o)
      where
        go : StandsForItself (proving_in proving) (use_source_of use_.source) n
            ⊎ Occurs n s (taken_side (direction_of use_.direction) (statement_of statement))
            → StandsForItself (proving_in proving) (use_source_of use_.source) n ⊎ Occurs n s (term_in (taken_in use_.direction statement))
        go (inl itself) = inl itself
        go (inr there) = inr (subst (Occurs n s) (takes use_.direction statement) there)
