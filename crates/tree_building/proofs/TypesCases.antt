-- What the definition of types says is derived by their rows.
use Rattle.std.proofs.Common.{◌≡◌, ◌∙◌, ℕ, List, [], ◌∷◌, ◌++◌, refl, ap, sym, subst, append_assoc}
use Rattle.std.specs.Prelude.{flat_map}
use Rattle.std.proofs.lemmas.List.{append-nil}
use Rattle.lotos_base.specs.WrittenTerm.{PlacedName}
use Rattle.lotos_lexer.specs.declared.tokens.Token.{Token}
use Rattle.lotos_lexer.specs.declared.kinds.TheConstants as kind
use Rattle.lotos_rows.specs.declared.types.TheConstants as types
use Rattle.syntax_trees.specs.WrittenEquation.{WrittenEquations}
use Rattle.syntax_trees.specs.WrittenItem.{WrittenOperation, WrittenSections, WrittenTypeBody, extends, WrittenItem}
use Rattle.lotos_rows.specs.Words.{Optional, left_out, there, Many, no_more, and_then, Separated, last, before_more, Behind, behind}
use Rattle.lotos_rows.specs.Names.{AreNames, AreLooseNames, NamedOperation, IsWrittenOperation, PlacedProfile, IsProfile}
use Rattle.lotos_rows.specs.Equations.{AreEquations}
use Rattle.lotos_rows.specs.Equations as equations_family
use Rattle.lotos_rows.specs.Types.{operations_of_profile, IsOperationLine, AreOperations, no_equations, AreSections, IsTypeBody, IsItem}
use Rattle.lotos_rows.specs.Types as family
use Rattle.tree_building.specs.Meaning.{Meaning, some_names, some_named_operations, declared_operations, an_equation_section, some_sections, a_body, an_item}
use Rattle.tree_building.specs.Sentences.{Derived}
use Rattle.tree_building.proofs.NamesDerived.{by_name, by_no_more_names, by_more_names}
use Rattle.tree_building.proofs.NamesCases.{name_derived, names_derived, loose_names_derived, operation_derived, profile_derived}
use Rattle.tree_building.proofs.EquationsCases.{for_all_derived, groups_derived}
use Rattle.tree_building.proofs.RenamingsCases.{renames_derived}
use Rattle.tree_building.proofs.TypesDerived.{by_library_item, by_type_item, by_named_body, by_sections_body, by_renaming, by_actualisation, by_extension, by_sections, by_no_formal_sorts, by_formal_sorts, by_no_formal_operations, by_formal_operations, by_no_formal_equations, by_formal_equations, by_no_sorts, by_sorts, by_no_operations, by_operations, by_no_equations, by_equations, by_no_operation_lines, by_operation_lines, by_no_more_operations, by_more_operations}

module _ (text : List ℕ) where
  abbrev D : ℕ → List Token → Meaning → Type 0
  D = Derived text

  -- the first operation of a line and those behind it
  record LineDerived (tokens : List Token) (operations : List NamedOperation) : Type 0 where
    own : List Token
    others : List Token
    first : NamedOperation
    more : List NamedOperation
    tokens_are : tokens ≡ own ++ others
    operations_are : operations ≡ first ∷ more
    first_derived : IsWrittenOperation text own first
    more_derived : D types.MORE_OPERATIONS others (some_named_operations more)

  line_derived : {tokens : List Token} {operations : List NamedOperation}
      → Separated kind.COMMA (IsWrittenOperation text) tokens operations →
      LineDerived tokens operations
  line_derived (last {tokens = own} {value = operation} it) = record {
    own = own;
    others = [];
    first = operation;
    more = [];
    tokens_are = sym (append-nil own);
    operations_are = refl;
    first_derived = it;
    more_derived = by_no_more_operations text refl;
  }
  line_derived (before_more {tokens = own} {rest = rest} {token = comma} {value = operation} {values = operations} it is_comma more) =
      let behind_it = line_derived more in
      record {
        own = own;
        others = comma ∷ rest;
        first = operation;
        more = operations;
        tokens_are = refl;
        operations_are = refl;
        first_derived = it;
        more_derived =
            subst (λ (l : List Token). D types.MORE_OPERATIONS (comma ∷ l) (some_named_operations operations)) (sym behind_it.tokens_are)
            (subst (λ (l : List NamedOperation). D types.MORE_OPERATIONS (comma ∷ (behind_it.own ++ behind_it.others))
            (some_named_operations l)) (sym behind_it.operations_are)
            (by_more_operations text is_comma (operation_derived text behind_it.first_derived) behind_it.more_derived refl));
      }

  line_before : {tokens profile_tokens rest : List Token} {operations : List NamedOperation} {profile : PlacedProfile}
      {others : List WrittenOperation} → LineDerived tokens operations →
      IsProfile text profile_tokens profile → D types.OPERATION_LINES rest (declared_operations others) →
      D types.OPERATION_LINES ((tokens ++ profile_tokens) ++ rest)
      (declared_operations (operations_of_profile operations profile ++ others))
  line_before {tokens} {profile_tokens} {rest} {operations} {profile} {others} line has_profile more =
      let made = λ (found : List NamedOperation). declared_operations (operations_of_profile found profile ++ others) in
      let order : line.own ++ (line.others ++ (profile_tokens ++ rest)) ≡ (tokens ++ profile_tokens) ++ rest =
      sym (append_assoc line.own line.others (profile_tokens ++ rest)) ∙ ap (λ (l : List Token). l ++ (profile_tokens ++ rest))
      (sym line.tokens_are) ∙ sym (append_assoc tokens profile_tokens rest) in
      subst (λ (l : List Token). D types.OPERATION_LINES l (made operations)) order
      (subst (λ (l : List NamedOperation). D types.OPERATION_LINES (line.own ++ (line.others ++ (profile_tokens ++ rest))) (made l))
      (sym line.operations_are)
      (by_operation_lines text (operation_derived text line.first_derived) line.more_derived (profile_derived text has_profile) more refl))

  lines_derived : {tokens : List Token} {lines : List (List WrittenOperation)} → Many (IsOperationLine text) tokens lines →
      D types.OPERATION_LINES tokens (declared_operations (flat_map (λ line. line) lines))
  lines_derived no_more = by_no_operation_lines text refl
  lines_derived (and_then (family.operations_line operations has_profile) more) =
      line_before (line_derived operations) has_profile (lines_derived more)

  operations_derived : {tokens : List Token} {found : List WrittenOperation} → AreOperations text tokens found →
      D types.OPERATION_LINES tokens (declared_operations found)
  operations_derived (family.operations lines) = lines_derived lines

  formal_sorts_derived : {tokens : List Token} {found : List PlacedName} →
      Optional [] (Behind kind.FORMALSORTS (AreLooseNames text)) tokens found → D types.FORMAL_SORTS tokens (some_names found)
  formal_sorts_derived left_out = by_no_formal_sorts text refl
  formal_sorts_derived (there (behind word it)) = by_formal_sorts text word (loose_names_derived text it) refl

  sorts_derived : {tokens : List Token} {found : List PlacedName} → Optional [] (Behind kind.SORTS (AreLooseNames text)) tokens found →
      D types.SORTS tokens (some_names found)
  sorts_derived left_out = by_no_sorts text refl
  sorts_derived (there (behind word it)) = by_sorts text word (loose_names_derived text it) refl

  formal_operations_derived : {tokens : List Token} {found : List WrittenOperation} →
      Optional [] (Behind kind.FORMALOPNS (AreOperations text)) tokens found →
      D types.FORMAL_OPERATIONS tokens (declared_operations found)
  formal_operations_derived left_out = by_no_formal_operations text refl
  formal_operations_derived (there (behind word it)) = by_formal_operations text word (operations_derived it) refl

  own_operations_derived : {tokens : List Token} {found : List WrittenOperation} →
      Optional [] (Behind kind.OPNS (AreOperations text)) tokens found → D types.OPERATIONS tokens (declared_operations found)
  own_operations_derived left_out = by_no_operations text refl
  own_operations_derived (there (behind word it)) = by_operations text word (operations_derived it) refl

  formal_equations_derived : {tokens : List Token} {found : WrittenEquations} →
      Optional no_equations (Behind kind.FORMALEQNS (AreEquations text)) tokens found →
      D types.FORMAL_EQUATIONS tokens (an_equation_section found)
  formal_equations_derived left_out = by_no_formal_equations text refl
  formal_equations_derived (there (behind word (equations_family.equations variables groups))) =
      by_formal_equations text word (for_all_derived text variables) (groups_derived text groups) refl

  equations_derived : {tokens : List Token} {found : WrittenEquations} →
      Optional no_equations (Behind kind.EQNS (AreEquations text)) tokens found → D types.EQUATIONS tokens (an_equation_section found)
  equations_derived left_out = by_no_equations text refl
  equations_derived (there (behind word (equations_family.equations variables groups))) =
      by_equations text word (for_all_derived text variables) (groups_derived text groups) refl

  sections_derived : {tokens : List Token} {found : WrittenSections} → AreSections text tokens found →
      D types.SECTIONS tokens (some_sections found)
  sections_derived (family.sections a b c d e f) =
      by_sections text (formal_sorts_derived a) (formal_operations_derived b) (formal_equations_derived c) (sorts_derived d)
      (own_operations_derived e) (equations_derived f) refl

  extending_derived : {import_tokens tokens : List Token} {imports : List PlacedName} {sections : WrittenSections} →
      AreNames text import_tokens imports → AreSections text tokens sections →
      D types.BODY (import_tokens ++ tokens) (a_body (extends imports sections))
  extending_derived {tokens = tokens} (last it) them =
      by_named_body text (name_derived text it) (by_extension text (by_no_more_names text refl) (sections_derived them) refl) refl
  extending_derived {tokens = tokens} {sections = found}
      (before_more {tokens = own} {rest = rest} {token = comma} {value = name} {values = others} it is_comma more) them =
      subst (λ (l : List Token). D types.BODY l (a_body (extends (name ∷ others) found))) (sym (append_assoc own (comma ∷ rest) tokens))
      (by_named_body text (name_derived text it)
      (by_extension text (by_more_names text is_comma (names_derived text more) refl) (sections_derived them) refl) refl)

  body_derived : {tokens : List Token} {body : WrittenTypeBody} → IsTypeBody text tokens body → D types.BODY tokens (a_body body)
  body_derived (family.renaming base word pairs) =
      by_named_body text (by_name text base refl) (by_renaming text word (renames_derived text pairs) refl) refl
  body_derived (family.actualising base word actuals using pairs) =
      by_named_body text (by_name text base refl)
      (by_actualisation text word (names_derived text actuals) using (renames_derived text pairs) refl) refl
  body_derived (family.extending imports them) = extending_derived imports them
  body_derived (family.extending_nothing them) = by_sections_body text (sections_derived them) refl

  pub item_derived : {tokens : List Token} {item : WrittenItem} → IsItem text tokens item → D types.ITEM tokens (an_item item)
  item_derived (family.a_library word xs end) = by_library_item text word (names_derived text xs) end refl
  item_derived (family.a_type word name is body end) = by_type_item text word (by_name text name refl) is (body_derived body) end refl
