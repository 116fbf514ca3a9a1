-- What the definition of names and lists of them says is derived by their rows.
use Rattle.std.proofs.Common.{ℕ, List, [], ◌∷◌, ◌++◌, refl, sym, subst, append_assoc}
use Rattle.std.specs.Prelude.{flat_map}
use Rattle.std.proofs.lemmas.List.{append-nil}
use Rattle.lotos_base.specs.WrittenTerm.{PlacedName}
use Rattle.lotos_lexer.specs.declared.tokens.Token.{Token}
use Rattle.lotos_lexer.specs.declared.kinds.TheConstants as kind
use Rattle.lotos_rows.specs.declared.names.TheConstants as names
use Rattle.syntax_trees.specs.WrittenVariable.{WrittenVariable}
use Rattle.lotos_rows.specs.Words.{left_out, there, Separated, last, before_more, last_loose, with_separator, without_separator}
use Rattle.lotos_rows.specs.Names.{IsName, AreNames, AreOptionalNames, AreWrittenGates, AreOptionalGates, AreLooseNames, AreVariables, AreVariablesOfSort, IsOperationName, IsWrittenOperation, NamedOperation, IsProfile, PlacedProfile}
use Rattle.lotos_rows.specs.Names as family
use Rattle.tree_building.specs.Meaning.{Meaning, a_name, some_names, some_variables, an_operation, a_profile}
use Rattle.tree_building.specs.Sentences.{Derived}
use Rattle.tree_building.proofs.NamesDerived.{by_name, by_names, by_no_more_names, by_more_names, by_no_optional_names, by_optional_names, by_loose_names, by_no_more_loose_names, by_more_loose_names_after_comma, by_more_loose_names, by_variables, by_no_more_variables, by_more_variables, by_name_of_operation, by_digit_name, by_sign_name, by_prefix_operation, by_infix_operation, by_profile}

module _ (text : List ℕ) where
  abbrev D : ℕ → List Token → Meaning → Type 0
  D = Derived text

  pub name_derived : {tokens : List Token} {name : PlacedName} → IsName text tokens name → D names.NAME tokens (a_name name)
  name_derived (family.a_name is) = by_name text is refl

  pub names_derived : {tokens : List Token} {xs : List PlacedName} → AreNames text tokens xs → D names.NAMES tokens (some_names xs)
  names_derived (last {tokens = own} {value = name} it) =
      subst (λ (l : List Token). D names.NAMES l (some_names (name ∷ []))) (append-nil own)
      (by_names text (name_derived it) (by_no_more_names text refl) refl)
  names_derived (before_more it comma more) = by_names text (name_derived it) (by_more_names text comma (names_derived more) refl) refl

  pub optional_names_derived : {tokens : List Token} {xs : List PlacedName} → AreOptionalNames text tokens xs →
      D names.OPTIONAL_NAMES tokens (some_names xs)
  optional_names_derived left_out = by_no_optional_names text refl
  optional_names_derived (there it) = by_optional_names text (names_derived it) refl

  pub loose_names_derived : {tokens : List Token} {xs : List PlacedName} → AreLooseNames text tokens xs →
      D names.LOOSE_NAMES tokens (some_names xs)
  loose_names_derived (last_loose {tokens = own} {value = name} it) =
      subst (λ (l : List Token). D names.LOOSE_NAMES l (some_names (name ∷ []))) (append-nil own)
      (by_loose_names text (name_derived it) (by_no_more_loose_names text refl) refl)
  loose_names_derived (with_separator it comma more) =
      by_loose_names text (name_derived it) (by_more_loose_names_after_comma text comma (loose_names_derived more) refl) refl
  loose_names_derived (without_separator it more) =
      by_loose_names text (name_derived it) (by_more_loose_names text (loose_names_derived more) refl) refl

  variable_groups_derived : {tokens : List Token} {groups : List (List WrittenVariable)} →
      Separated kind.COMMA (AreVariablesOfSort text) tokens groups →
      D names.VARIABLES tokens (some_variables (flat_map (λ group. group) groups))
  variable_groups_derived (last (family.of_sort xs colon sort)) =
      by_variables text (names_derived xs) colon (by_name text sort refl) (by_no_more_variables text refl) refl
  variable_groups_derived
      (before_more {rest = rest} {token = comma} {values = others}
      (family.of_sort {tokens = own} {colon = c} {sort = s} {names = found} xs colon sort) is_comma more) =
      subst (λ (l : List Token). D names.VARIABLES l
      (some_variables (family.variables_of_sort found (family.named text s) ++ flat_map (λ group. group) others)))
      (sym (append_assoc own (c ∷ s ∷ []) (comma ∷ rest)))
      (by_variables text (names_derived xs) colon (by_name text sort refl)
      (by_more_variables text is_comma (variable_groups_derived more) refl) refl)

  pub variables_derived : {tokens : List Token} {xs : List WrittenVariable} → AreVariables text tokens xs →
      D names.VARIABLES tokens (some_variables xs)
  variables_derived (family.variables groups) = variable_groups_derived groups

  pub operation_name_derived : {tokens : List Token} {name : PlacedName} → IsOperationName text tokens name →
      D names.OPERATION_NAME tokens (a_name name)
  operation_name_derived (family.word_name is) = by_name_of_operation text (by_name text is refl) refl
  operation_name_derived (family.digit_name is) = by_digit_name text is refl
  operation_name_derived (family.sign_name is) = by_sign_name text is refl

  pub operation_derived : {tokens : List Token} {operation : NamedOperation} → IsWrittenOperation text tokens operation →
      D names.OPERATION tokens (an_operation operation)
  operation_derived (family.of_prefix_form it) = by_prefix_operation text (operation_name_derived it) refl
  operation_derived (family.of_infix_form left it right) = by_infix_operation text left (operation_name_derived it) right refl

  pub profile_derived : {tokens : List Token} {found : PlacedProfile} → IsProfile text tokens found →
      D names.PROFILE tokens (a_profile found)
  profile_derived (family.profile colon arguments arrow sort) =
      by_profile text colon (optional_names_derived arguments) arrow (by_name text sort refl) refl
