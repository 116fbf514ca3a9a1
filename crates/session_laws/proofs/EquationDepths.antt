-- The equations of the data of types are nested no deeper than what the types write.
use Rattle.std.proofs.Common.{◌≡◌, ℕ, suc, ◌≤◌, Bool, true, false, if◌then◌else◌, List, [], ◌∷◌, ◌++◌, map, flat_map, refl, ap, sym, ◌∙◌, subst, arith}
use Rattle.std.specs.Prelude.{Some, fold, max}
use Rattle.lotos_base.specs.Equation.{Equation, Data}
use Rattle.lotos_base.specs.Term.{Term, Terms, variable, node, no_terms, term_then}
use Rattle.lotos_base.specs.WrittenTerm.{PlacedName, WrittenTerm, written}
use Rattle.syntax_trees.specs.Depth.{nodes_of_term, nodes_of_premiss, nodes_of_equation, nodes_of_equations, nodes_of_type_body}
use Rattle.syntax_trees.specs.WrittenVariable.{WrittenVariable}
use Rattle.syntax_trees.specs.WrittenEquation.{WrittenEquation, WrittenGroup, WrittenEquations}
use Rattle.syntax_trees.specs.WrittenItem.{WrittenTypeBody, extends, renames, actualises}
use Rattle.sort_terms.specs.ReadingOutcome.{one_name, unknown_in, SortedTerm, IsReading}
use Rattle.behaviour_semantics.specs.WellFormed.{Every}
use Rattle.behaviour_semantics.proofs.ListLemmas.{Every-append}
use Rattle.sort_terms.proofs.OutcomeLemmas.{is_reading}
use Rattle.session_laws.specs.TermDepth.{term_depth, depth_among}
use Rattle.session_laws.proofs.DepthLemmas.{IsShallow}
use Rattle.session_laws.proofs.TermReadDepths.{shallow_parts, term_within}
use Rattle.type_definitions.specs.DeclaredTypes.{DeclaredType}
use Rattle.type_definitions.specs.Images.{term_image, terms_image, equation_image}
use Rattle.type_definitions.specs.Presentation.{Presentation, nothing, with_new, is_same_equation}
use Rattle.type_definitions.specs.Union.{Mentioned, joined_sort, joined_operation, with_mentioned, union_of}
use Rattle.type_definitions.specs.Declarations.{sort_numbered}
use Rattle.type_definitions.specs.DeclaredEquations.{AskedEquation, EquationQuestion, sort_asked, formal_asked, own_asked, asked_of_variables, equation_asked, asked_of_group, asked_of_section, scope_of, IsSide, renumbered, renumbered_among, appearing, equation_of_sides, GivesPresentation, sort_is_there, formal_is_read, own_is_read, GiveAll, none_asked, next_gives}
use Rattle.type_definitions.specs.Extension.{extended, asked_of}
use Rattle.type_definitions.specs.Actualisation.{Actualising, is_formal, actualisation, actualised_sort, actualised_operation}
use Rattle.type_definitions.specs.ActualisationFaults.{actualising_of}
use Rattle.type_definitions.specs.Flattened.{presentation_named, mention_of, mentions_with, IsPresentation, ArePresented, all_presented, next_presented, declared_with, without_formals, types_at, IsFlattening}
use Rattle.session_laws.proofs.Numbered.{declarations_keep}
use Rattle.session_laws.proofs.FlattenedNames.{new_every, mapped_every, ordered_every}

-- ---- Terms

mutual
  image_depth : (to_sort to_operation : ℕ → ℕ) (t : Term) → term_depth (term_image to_sort to_operation t) ≡ term_depth t
  image_depth to_sort to_operation (variable n s) = refl
  image_depth to_sort to_operation (node f ts) = ap suc (images_depth to_sort to_operation ts)

  images_depth : (to_sort to_operation : ℕ → ℕ) (ts : Terms) → depth_among (terms_image to_sort to_operation ts) ≡ depth_among ts
  images_depth to_sort to_operation no_terms = refl
  images_depth to_sort to_operation (term_then t ts) =
      ap (λ (d : ℕ). max d (depth_among (terms_image to_sort to_operation ts))) (image_depth to_sort to_operation t)
      ∙ ap (λ (d : ℕ). max (term_depth t) d) (images_depth to_sort to_operation ts)

mutual
  renumbered_depth : (order : List ℕ) (t : Term) → term_depth (renumbered order t) ≡ term_depth t
  renumbered_depth order (variable n s) = refl
  renumbered_depth order (node f ts) = ap suc (all_renumbered_depth order ts)

  all_renumbered_depth : (order : List ℕ) (ts : Terms) → depth_among (renumbered_among order ts) ≡ depth_among ts
  all_renumbered_depth order no_terms = refl
  all_renumbered_depth order (term_then t ts) =
      ap (λ (d : ℕ). max d (depth_among (renumbered_among order ts))) (renumbered_depth order t)
      ∙ ap (λ (d : ℕ). max (term_depth t) d) (all_renumbered_depth order ts)

module _ (limit : ℕ) where
  -- ---- What is said of equations

  pub record EquationFits (equation : Equation) : Type 0 where
    pub left : term_depth equation.left ≤ limit
    pub right : term_depth equation.right ≤ limit

  abbrev PresentationFits : Presentation → Type 0
  PresentationFits p = Every EquationFits p.equations

  abbrev MentionFits : Mentioned → Type 0
  MentionFits m = PresentationFits m.presentation

  abbrev pub TypeFits : DeclaredType → Type 0
  TypeFits t = IsShallow limit (nodes_of_type_body t.body)

  image_fits : (to_sort to_operation : ℕ → ℕ) (e : Equation) → EquationFits e
      → EquationFits (equation_image to_sort to_operation e)
  image_fits to_sort to_operation e fits = record {
    left = subst (λ (d : ℕ). d ≤ limit) (sym (image_depth to_sort to_operation e.left)) fits.left;
    right = subst (λ (d : ℕ). d ≤ limit) (sym (image_depth to_sort to_operation e.right)) fits.right;
  }

  images_join : (to_sort to_operation : ℕ → ℕ) (kept coming : List Equation) → Every EquationFits kept → Every EquationFits coming
      → Every EquationFits (with_new is_same_equation kept (map (equation_image to_sort to_operation) coming))
  images_join to_sort to_operation kept coming first second =
      new_every EquationFits is_same_equation kept (map (equation_image to_sort to_operation) coming) first
      (mapped_every EquationFits EquationFits (equation_image to_sort to_operation) (image_fits to_sort to_operation) coming second)

  -- ---- Unions

  all_joined : (p : Presentation) (all : List Mentioned) → PresentationFits p → Every MentionFits all
      → PresentationFits (fold with_mentioned p all)
  all_joined p [] fits each = fits
  all_joined p (m ∷ all) fits each =
      all_joined (with_mentioned p m) all
      (images_join (joined_sort p m.presentation) (joined_operation p m.presentation) p.equations m.presentation.equations fits each.0)
      each.1

  union_fits : (all : List Mentioned) → Every MentionFits all → PresentationFits (union_of all)
  union_fits all each = all_joined nothing all tt each

  -- ---- Equations

  side_fits : (p : Presentation) (asked : AskedEquation) (w : WrittenTerm) (t : Term) → IsSide p asked w t
      → IsShallow limit (nodes_of_term w) → (order : List ℕ) → term_depth (renumbered order t) ≤ limit
  side_fits p asked (written head ws) t is shallow order =
      let reading : SortedTerm = is.0 in
      let reads : IsReading p.signature (scope_of p asked) (written head ws) (Some (sort_numbered p asked.sort)) reading =
      is_reading (unknown_in p.signature (scope_of p asked) (written head ws)) head.place
      (IsReading p.signature (scope_of p asked) (written head ws) (Some (sort_numbered p asked.sort))) reading is.1 in
      let deep = term_within p.signature (scope_of p asked) limit 1 (written head ws) reading.term reading.sort reads.0 shallow in
      let here : term_depth reading.term ≤ limit = omega (arith, deep) in
      subst (λ (d : ℕ). d ≤ limit) (sym (renumbered_depth order t)) (subst (λ (u : Term). term_depth u ≤ limit) is.2 here)

  -- what is asked of an equation of the type's own
  abbrev QuestionFits : EquationQuestion → Type 0
  QuestionFits (sort_asked place name) = Unit {0}
  QuestionFits (formal_asked asked) = Unit {0}
  QuestionFits (own_asked asked) = IsShallow limit (nodes_of_term asked.equation.left) × IsShallow limit (nodes_of_term asked.equation.right)

  given_fits : (p r : Presentation) (asked : List EquationQuestion) → GiveAll p asked r → Every QuestionFits asked → PresentationFits p
      → PresentationFits r
  given_fits p _ _ (none_asked _) all fits = fits
  given_fits p r _ (next_gives _ q _ a asked gives more) all fits = given_fits q r asked more all.1 (step q a gives all.0)
    where
      step : (q : Presentation) (a : EquationQuestion) → GivesPresentation p a q → QuestionFits a → PresentationFits q
      step _ _ (sort_is_there place name there) shallow = fits
      step _ _ (formal_is_read asked left right one other premisses) shallow = fits
      step _ _ (own_is_read asked left right none one other small) shallow =
          Every-append EquationFits p.equations (equation_of_sides asked.equation.place (scope_of p asked) left right ∷ []) fits (
            record {
              left = side_fits p asked asked.equation.left left one shallow.0 (appearing left right);
              right = side_fits p asked asked.equation.right right other shallow.1 (appearing left right);
            },
            tt,
          )

  variables_ask : (variables : List WrittenVariable) → Every QuestionFits (asked_of_variables variables)
  variables_ask [] = tt
  variables_ask (v ∷ variables) = (tt, variables_ask variables)

  equations_ask : (formal : Bool) (variables : List WrittenVariable) (sort : List ℕ) (equations : List WrittenEquation)
      → IsShallow limit (flat_map nodes_of_equation equations)
      → Every QuestionFits
      (map (λ (e : WrittenEquation). equation_asked formal (record { variables = variables; sort = sort; equation = e })) equations)
  equations_ask formal variables sort [] shallow = tt
  equations_ask formal variables sort (e ∷ equations) shallow =
      let parts = shallow_parts limit (nodes_of_equation e) (flat_map nodes_of_equation equations) shallow in
      let behind = shallow_parts limit (flat_map nodes_of_premiss e.premisses) (nodes_of_term e.left ++ nodes_of_term e.right) parts.0 in
      let sides = shallow_parts limit (nodes_of_term e.left) (nodes_of_term e.right) behind.1 in
      (by formal sides, equations_ask formal variables sort equations parts.1)
    where
      by : (b : Bool) → IsShallow limit (nodes_of_term e.left) × IsShallow limit (nodes_of_term e.right)
          → QuestionFits (equation_asked b (record { variables = variables; sort = sort; equation = e }))
      by true sides = tt
      by false sides = sides

  groups_ask : (formal : Bool) (variables : List WrittenVariable) (groups : List WrittenGroup)
      → IsShallow limit (flat_map (λ group. flat_map nodes_of_equation group.equations) groups)
      → Every QuestionFits (flat_map (asked_of_group formal variables) groups)
  groups_ask formal variables [] shallow = tt
  groups_ask formal variables (group ∷ groups) shallow =
      let parts = shallow_parts limit (flat_map nodes_of_equation group.equations)
      (flat_map (λ (g : WrittenGroup). flat_map nodes_of_equation g.equations) groups) shallow in
      Every-append QuestionFits (asked_of_group formal variables group) (flat_map (asked_of_group formal variables) groups) (
        tt,
        Every-append QuestionFits (asked_of_variables group.variables)
            (map
            (λ (e : WrittenEquation).
            equation_asked formal (record { variables = variables ++ group.variables; sort = group.sort; equation = e }))
            group.equations)
            (variables_ask group.variables)
            (equations_ask formal (variables ++ group.variables) group.sort group.equations parts.0),
      )
      (groups_ask formal variables groups parts.1)

  section_asks : (formal : Bool) (section : WrittenEquations) → IsShallow limit (nodes_of_equations section)
      → Every QuestionFits (asked_of_section formal section)
  section_asks formal section shallow =
      Every-append QuestionFits (asked_of_variables section.variables)
      (flat_map (asked_of_group formal section.variables) section.groups) (variables_ask section.variables)
      (groups_ask formal section.variables section.groups shallow)

  -- ---- Types

  named_fits : (done : List Mentioned) (name : List ℕ) → Every MentionFits done → PresentationFits (presentation_named done name)
  named_fits [] name all = tt
  named_fits (t ∷ ts) name all = by (one_name t.at.name name) (named_fits ts name all.1)
    where
      by : (same : Bool) → PresentationFits (presentation_named ts name)
          → PresentationFits (if same then t.presentation else presentation_named ts name)
      by true more = all.0
      by false more = more

  mentions_fit : (done : List Mentioned) (names : List PlacedName) → Every MentionFits done → Every MentionFits (mentions_with done names)
  mentions_fit done [] all = tt
  mentions_fit done (name ∷ names) all = (named_fits done name.name all, mentions_fit done names all)

  type_fits : (done : List Mentioned) (name : List ℕ) (body : WrittenTypeBody) (p : Presentation) → Every MentionFits done
      → IsShallow limit (nodes_of_type_body body) → IsPresentation done name body p → PresentationFits p
  type_fits done name (extends imports sections) p all shallow is =
      let parts = shallow_parts limit (nodes_of_equations sections.formal_equations) (nodes_of_equations sections.equations) shallow in
      given_fits (extended (mentions_with done imports) name sections) p (asked_of sections) is.1
      (Every-append QuestionFits (asked_of_section true sections.formal_equations) (asked_of_section false sections.equations)
      (section_asks true sections.formal_equations parts.0) (section_asks false sections.equations parts.1))
      (subst (Every EquationFits) (sym (declarations_keep name (union_of (mentions_with done imports)) sections))
      (union_fits (mentions_with done imports) (mentions_fit done imports all)))
  type_fits done name (renames base pairs) p all shallow is = subst PresentationFits is.1 (named_fits done base.name all)
  type_fits done name (actualises base actuals pairs) p all shallow is =
      subst PresentationFits is.1
      (actualised (actualising_of (mention_of done base) (mentions_with done actuals) name pairs)
      (union_fits (mentions_with done actuals) (mentions_fit done actuals all)) (named_fits done base.name all))
    where
      actualised : (a : Actualising) → PresentationFits a.actual → PresentationFits a.base.presentation
          → PresentationFits (actualisation a)
      actualised a actual base =
          images_join (actualised_sort a) (actualised_operation a) a.actual.equations a.base.presentation.equations actual base

  all_presented_fit : (done : List Mentioned) (types : List DeclaredType) (all : List Mentioned) → ArePresented done types all
      → Every MentionFits done → Every TypeFits types → Every MentionFits all
  all_presented_fit done _ _ (all_presented _) mentioned shallow = mentioned
  all_presented_fit done _ _ (next_presented _ all t ts p is more) mentioned shallow =
      all_presented_fit (done ++ declared_with t p ∷ []) ts all more
      (Every-append MentionFits done (declared_with t p ∷ []) mentioned (type_fits done t.name t.body p mentioned shallow.0 is, tt))
      shallow.1

  informal_fit : (all : List Mentioned) → Every MentionFits all → Every MentionFits (without_formals all)
  informal_fit [] fits = tt
  informal_fit (t ∷ ts) fits = by (is_formal t.presentation) (informal_fit ts fits.1)
    where
      by : (formal : Bool) → Every MentionFits (without_formals ts)
          → Every MentionFits (if formal then without_formals ts else t ∷ without_formals ts)
      by true more = more
      by false more = (fits.0, more)

  -- the data of shallow types have shallow equations
  pub data_fit : (types : List DeclaredType) (data_ : Data) → Every TypeFits types → IsFlattening types data_
      → Every EquationFits data_.equations
  data_fit types data_ shallow is =
      subst (λ (d : Data). Every EquationFits d.equations) is.answered
      (union_fits (without_formals is.all)
      (informal_fit is.all
      (all_presented_fit [] (types_at types is.order) is.all is.presented tt (ordered_every TypeFits types is.order shallow))))
