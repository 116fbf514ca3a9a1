-- The formal equations of a type, and what it requires, by the form of its body.
use Rattle.std.proofs.Common.{◌≡◌, ℕ, Bool, false, List, [], ap, sym, ◌∙◌, subst}
use Rattle.std.specs.Prelude.{if◌then◌else◌}
use Rattle.lotos_base.specs.Equation.{Equation}
use Rattle.lotos_base.specs.WrittenTerm.{PlacedName}
use Rattle.lotos_base.specs.declared.names.Name.{Name}
use Rattle.lotos_base.specs.declared.places.Place.{Place}
use Rattle.syntax_trees.specs.TreeViews.{pairs_of, placed_names_of}
use Rattle.syntax_trees.specs.WrittenEquation.{WrittenEquations}
use Rattle.syntax_trees.specs.WrittenItem.{WrittenPairs, WrittenSections, WrittenTypeBody, actualises, extends, renames}
use Rattle.syntax_trees.specs.declared.items.PairText.{PairText}
use Rattle.type_definitions.specs.Actualisation.{actualisation, is_formal}
use Rattle.type_definitions.specs.Flattened.{IsPresentation}
use Rattle.type_definitions.specs.FormalEquations.{FlattenedType, formals_named, mentioned_in}
use Rattle.type_definitions.specs.Presentation.{Presentation}
use Rattle.type_definitions.specs.Requirements.{actualised_images, required_of}
use Rattle.type_presentations.specs.EquationListView.{HasEquationKeys, equations_in}
use Rattle.type_presentations.specs.declared.equation_list.EquationList.{EquationList}
use Rattle.type_actualisation.specs.FormalLists.{AreFormalsOver}
use Rattle.type_actualisation.specs.FormalTypesView.{AreFormalTypes, HasFormals, HasOver, actualising_in}
use Rattle.type_actualisation.specs.declared.formal_types.FormalTypes.{FormalTypes}
use Rattle.type_actualisation.proofs.FormalListLemmas.{none_over}

-- ---- What one type requires.

pub actual_required : (all : List FlattenedType) (name : List ℕ) (p : Presentation) (base : PlacedName) (actuals : List PlacedName)
    (pairs : WrittenPairs) (list : EquationList)
    → is_formal p ≡ false → IsPresentation (mentioned_in all) name (actualises base actuals pairs) p
    → HasOver (actualised_images (actualising_in all base actuals name pairs) (formals_named all base.name))
    (actualisation (actualising_in all base actuals name pairs)) list
    → HasOver (required_of all name p (actualises base actuals pairs)) p list
actual_required all name p base actuals pairs list informal is has =
    let images : List Equation = actualised_images (actualising_in all base actuals name pairs) (formals_named all base.name) in (
      has.0 ∙ sym (ap (λ (b : Bool). if b then [] else images) informal),
      subst (λ (q : Presentation). AreFormalsOver q.signature list) is.1 has.1,
    )

-- ---- Bodies whose lists are given otherwise.

pub extends_given : (given imports : List (Place × Name)) (sections : WrittenSections) → given ≡ imports
    → extends (placed_names_of imports) sections ≡ extends (placed_names_of given) sections
extends_given given imports sections same =
    ap (λ (xs : List (Place × Name)). extends (placed_names_of xs) sections) (sym same)

pub actualises_given : (base : PlacedName) (given actuals : List (Place × Name)) (given_sorts sorts given_ops ops : List PairText)
    → given ≡ actuals → given_sorts ≡ sorts → given_ops ≡ ops
    → actualises base (placed_names_of actuals) (pairs_of sorts ops) ≡ actualises base (placed_names_of given) (pairs_of given_sorts given_ops)
actualises_given base given actuals given_sorts sorts given_ops ops one two three =
    ap (λ (xs : List (Place × Name)). actualises base (placed_names_of xs) (pairs_of sorts ops)) (sym one)
    ∙ ap (λ (ps : List PairText). actualises base (placed_names_of given) (pairs_of ps ops)) (sym two)
    ∙ ap (λ (ps : List PairText). actualises base (placed_names_of given) (pairs_of given_sorts ps)) (sym three)

-- ---- The formal equations.

pub presented_as : (all : List FlattenedType) (name : List ℕ) (p : Presentation) (one other : WrittenTypeBody) → one ≡ other
    → IsPresentation (mentioned_in all) name one p → IsPresentation (mentioned_in all) name other p
presented_as all name p one other same = subst (λ (b : WrittenTypeBody). IsPresentation (mentioned_in all) name b p) same

-- what is asked where they are looked for, of an extension whose imports are given as another list
pub extension_asked : (types : FormalTypes) (all : List FlattenedType) (name : List ℕ) (p : Presentation) (body : WrittenTypeBody)
    (given imports : List (Place × Name)) (sections : WrittenSections) → AreFormalTypes all types
    → body ≡ extends (placed_names_of imports) sections → given ≡ imports → IsPresentation (mentioned_in all) name body p
    → (ts : List FlattenedType) × (n : List ℕ) × (s : WrittenSections) × AreFormalTypes ts types
    × IsPresentation (mentioned_in ts) n (extends (placed_names_of given) s) p
extension_asked types all name p body given imports sections are is same presented = (
  all,
  name,
  sections,
  are,
  presented_as all name p body (extends (placed_names_of given) sections) (is ∙ extends_given given imports sections same) presented,
)

-- of an extension, whose imports are given as another list
pub formals_of_extension : (types : FormalTypes) (all : List FlattenedType) (name : List ℕ) (p : Presentation) (body : WrittenTypeBody)
    (given imports : List (Place × Name)) (sections : WrittenSections) (equations : WrittenEquations) (list : EquationList)
    → body ≡ extends (placed_names_of imports) sections → given ≡ imports → sections.formal_equations ≡ equations
    → ((ts : List FlattenedType) (n : List ℕ) (s : WrittenSections) → AreFormalTypes ts types → s.formal_equations ≡ equations
    → IsPresentation (mentioned_in ts) n (extends (placed_names_of given) s) p
    → HasFormals ts p (extends (placed_names_of given) s) list)
    → AreFormalTypes all types → IsPresentation (mentioned_in all) name body p → HasFormals all p body list
formals_of_extension types all name p body given imports sections equations list is same read has are presented =
    let whole : body ≡ extends (placed_names_of given) sections = is ∙ extends_given given imports sections same in
    subst (λ (b : WrittenTypeBody). HasFormals all p b list) (sym whole)
    (has all name sections are read (presented_as all name p body (extends (placed_names_of given) sections) whole presented))

pub formals_of_renaming : (types : FormalTypes) (all : List FlattenedType) (name : List ℕ) (p : Presentation) (body : WrittenTypeBody)
    (base : PlacedName) (pairs : WrittenPairs) (list : EquationList) → body ≡ renames base pairs
    → ((ts : List FlattenedType) (n : List ℕ) (ps : WrittenPairs) → AreFormalTypes ts types
    → IsPresentation (mentioned_in ts) n (renames base ps) p → HasFormals ts p (renames base ps) list)
    → AreFormalTypes all types → IsPresentation (mentioned_in all) name body p → HasFormals all p body list
formals_of_renaming types all name p body base pairs list is has are presented =
    subst (λ (b : WrittenTypeBody). HasFormals all p b list) (sym is)
    (has all name pairs are (presented_as all name p body (renames base pairs) is presented))

-- of an actualisation, whose actual types are given as another list
pub formals_of_actualisation : (types : FormalTypes) (all : List FlattenedType) (name : List ℕ) (p : Presentation)
    (body : WrittenTypeBody) (base : PlacedName) (given actuals : List (Place × Name)) (pairs : WrittenPairs) (list : EquationList)
    → body ≡ actualises base (placed_names_of actuals) pairs → given ≡ actuals
    → ((ts : List FlattenedType) (n : List ℕ) (b : PlacedName) (ps : WrittenPairs) (q : Presentation) → AreFormalTypes ts types
    → IsPresentation (mentioned_in ts) n (actualises b (placed_names_of given) ps) q
    → HasFormals ts q (actualises b (placed_names_of given) ps) list)
    → AreFormalTypes all types → IsPresentation (mentioned_in all) name body p → HasFormals all p body list
formals_of_actualisation types all name p body base given actuals pairs list is same has are presented =
    let whole : body ≡ actualises base (placed_names_of given) pairs =
    is ∙ ap (λ (xs : List (Place × Name)). actualises base (placed_names_of xs) pairs) (sym same) in
    subst (λ (b : WrittenTypeBody). HasFormals all p b list) (sym whole)
    (has all name base pairs p are (presented_as all name p body (actualises base (placed_names_of given) pairs) whole presented))

-- ---- What is required.

pub nothing_of_extension : (all : List FlattenedType) (name : List ℕ) (p : Presentation) (body : WrittenTypeBody)
    (imports : List PlacedName) (sections : WrittenSections) (list : EquationList) → body ≡ extends imports sections
    → HasEquationKeys list → equations_in list ≡ [] → HasOver (required_of all name p body) p list
nothing_of_extension all name p body imports sections list is keyed none =
    subst (λ (b : WrittenTypeBody). HasOver (required_of all name p b) p list) (sym is) (none, none_over p.signature list keyed none)

pub nothing_of_renaming : (all : List FlattenedType) (name : List ℕ) (p : Presentation) (body : WrittenTypeBody) (base : PlacedName)
    (pairs : WrittenPairs) (list : EquationList) → body ≡ renames base pairs
    → HasEquationKeys list → equations_in list ≡ [] → HasOver (required_of all name p body) p list
nothing_of_renaming all name p body base pairs list is keyed none =
    subst (λ (b : WrittenTypeBody). HasOver (required_of all name p b) p list) (sym is) (none, none_over p.signature list keyed none)

-- of an actualisation, whose actual types and pairs are given as other lists
pub required_of_actualisation : (all : List FlattenedType) (name : List ℕ) (p : Presentation) (body : WrittenTypeBody) (base : PlacedName)
    (given actuals : List (Place × Name)) (given_sorts sorts given_ops ops : List PairText) (list : EquationList)
    → body ≡ actualises base (placed_names_of actuals) (pairs_of sorts ops)
    → given ≡ actuals → given_sorts ≡ sorts → given_ops ≡ ops → is_formal p ≡ false → IsPresentation (mentioned_in all) name body p
    → HasOver (actualised_images (actualising_in all base (placed_names_of given) name (pairs_of given_sorts given_ops))
    (formals_named all base.name))
    (actualisation (actualising_in all base (placed_names_of given) name (pairs_of given_sorts given_ops))) list
    → HasOver (required_of all name p body) p list
required_of_actualisation all name p body base given actuals given_sorts sorts given_ops ops list is one two three informal presented has =
    let written : WrittenTypeBody = actualises base (placed_names_of given) (pairs_of given_sorts given_ops) in
    let whole : body ≡ written =
    is ∙ actualises_given base given actuals given_sorts sorts given_ops ops one two three in
    subst (λ (b : WrittenTypeBody). HasOver (required_of all name p b) p list) (sym whole)
    (actual_required all name p base (placed_names_of given) (pairs_of given_sorts given_ops) list informal
    (presented_as all name p body written whole presented) has)
