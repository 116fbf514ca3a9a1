-- A group is its sorts and then its equations, and a section its variables and then its groups.
use Rattle.std.proofs.Common.{◌≡◌, ℕ, Bool, List, map, length, take, ◌∙◌, subst}
use Rattle.std.specs.List.{flat_map}
use Rattle.lotos_base.proofs.Pieces.{take_whole}
use Rattle.syntax_trees.specs.TreeViews.{written_equation_of, equations_of, group_of, written_variables_of}
use Rattle.syntax_trees.specs.WrittenVariable.{WrittenVariable}
use Rattle.syntax_trees.specs.declared.equations.EqText.{EqText}
use Rattle.syntax_trees.specs.declared.equations.EqnsText.{EqnsText}
use Rattle.syntax_trees.specs.declared.equations.GroupText.{GroupText}
use Rattle.type_definitions.specs.TypeFault.{TypeFault}
use Rattle.type_definitions.specs.Presentation.{Presentation}
use Rattle.type_definitions.specs.DeclaredEquations.{GiveAll, HasFirstFault, asked_of_group, asked_of_section, asked_of_variables}
use Rattle.type_equations.proofs.AskedLemmas.{give_append, fault_later}
use Rattle.type_equations.specs.ScopeFor.{sorts_asked}
use Rattle.type_equations.specs.SectionScope.{question_in}
use Rattle.type_equations.proofs.GivenLemmas.{fault_first}

-- ---- Groups.

pub group_given : (is_formal : Bool) (written : List WrittenVariable) (g : GroupText) (p q : Presentation) (items : List EqText) (i : ℕ)
    → items ≡ g.equations.items → i ≡ length items → GiveAll p (sorts_asked (group_of g)) p
    → GiveAll p (map (question_in is_formal written (group_of g)) (map written_equation_of (take i items))) q
    → GiveAll p (asked_of_group is_formal written (group_of g)) q
group_given is_formal written g p q items i are all sorts given =
    give_append p p q (sorts_asked (group_of g))
    (map (question_in is_formal written (group_of g)) (map written_equation_of g.equations.items))
    sorts
    (subst (λ (es : List EqText). GiveAll p (map (question_in is_formal written (group_of g)) (map written_equation_of es)) q)
    (take_whole items i all ∙ are) given)

pub group_sorts_fault : (is_formal : Bool) (written : List WrittenVariable) (g : GroupText) (type_name : List ℕ) (p : Presentation)
    (fault : TypeFault) → HasFirstFault type_name p (sorts_asked (group_of g)) fault
    → HasFirstFault type_name p (asked_of_group is_formal written (group_of g)) fault
group_sorts_fault is_formal written g type_name p fault found =
    fault_first type_name p (sorts_asked (group_of g)) (map (question_in is_formal written (group_of g))
    (map written_equation_of g.equations.items))
    fault found

pub group_fault : (is_formal : Bool) (written : List WrittenVariable) (g : GroupText) (type_name : List ℕ) (p : Presentation)
    (items : List EqText) (fault : TypeFault) → items ≡ g.equations.items → GiveAll p (sorts_asked (group_of g)) p
    → HasFirstFault type_name p (map (question_in is_formal written (group_of g)) (map written_equation_of items)) fault
    → HasFirstFault type_name p (asked_of_group is_formal written (group_of g)) fault
group_fault is_formal written g type_name p items fault are sorts found =
    fault_later type_name p p (sorts_asked (group_of g)) (map (question_in is_formal written (group_of g))
    (map written_equation_of g.equations.items))
    fault sorts
    (subst (λ (es : List EqText). HasFirstFault type_name p
    (map (question_in is_formal written (group_of g)) (map written_equation_of es)) fault)
    are found)

-- ---- Sections.

pub section_given : (is_formal : Bool) (s : EqnsText) (p q : Presentation) (items : List GroupText) (i : ℕ) → items ≡ s.groups.items
    → i ≡ length items → GiveAll p (asked_of_variables (written_variables_of s.variables.items)) p
    → GiveAll p (flat_map (asked_of_group is_formal (written_variables_of s.variables.items)) (map group_of (take i items))) q
    → GiveAll p (asked_of_section is_formal (equations_of s)) q
section_given is_formal s p q items i are all sorts given =
    give_append p p q (asked_of_variables (written_variables_of s.variables.items))
    (flat_map (asked_of_group is_formal (written_variables_of s.variables.items)) (map group_of s.groups.items)) sorts
    (subst
    (λ (gs : List GroupText). GiveAll p (flat_map (asked_of_group is_formal (written_variables_of s.variables.items)) (map group_of gs)) q)
    (take_whole items i all ∙ are) given)

pub section_sorts_fault : (is_formal : Bool) (s : EqnsText) (type_name : List ℕ) (p : Presentation) (fault : TypeFault)
    → HasFirstFault type_name p (asked_of_variables (written_variables_of s.variables.items)) fault
    → HasFirstFault type_name p (asked_of_section is_formal (equations_of s)) fault
section_sorts_fault is_formal s type_name p fault found =
    fault_first type_name p (asked_of_variables (written_variables_of s.variables.items))
    (flat_map (asked_of_group is_formal (written_variables_of s.variables.items)) (map group_of s.groups.items)) fault found

pub section_fault : (is_formal : Bool) (s : EqnsText) (type_name : List ℕ) (p : Presentation) (items : List GroupText) (fault : TypeFault)
    → items ≡ s.groups.items → GiveAll p (asked_of_variables (written_variables_of s.variables.items)) p
    → HasFirstFault type_name p (flat_map (asked_of_group is_formal (written_variables_of s.variables.items)) (map group_of items)) fault
    → HasFirstFault type_name p (asked_of_section is_formal (equations_of s)) fault
section_fault is_formal s type_name p items fault are sorts found =
    fault_later type_name p p (asked_of_variables (written_variables_of s.variables.items))
    (flat_map (asked_of_group is_formal (written_variables_of s.variables.items)) (map group_of s.groups.items)) fault sorts
    (subst
    (λ (gs : List GroupText).
    HasFirstFault type_name p (flat_map (asked_of_group is_formal (written_variables_of s.variables.items)) (map group_of gs)) fault)
    are found)
