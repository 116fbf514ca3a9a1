-- What the definition of items, order files and lists of terms says is derived by their rows.
use Rattle.std.proofs.Common.{◌∙◌, ℕ, List, [], ◌∷◌, ◌++◌, refl, ap, sym, subst, append_assoc}
use Rattle.std.specs.Prelude.{Option, option_map}
use Rattle.lotos_base.specs.WrittenTerm.{PlacedName, WrittenTerm, ListedOperation}
use Rattle.lotos_lexer.specs.declared.tokens.Token.{Token}
use Rattle.lotos_rows.specs.declared.specification.TheConstants as specification
use Rattle.lotos_rows.specs.declared.starts.TheConstants as starts
use Rattle.syntax_trees.specs.WrittenItem.{WrittenItem}
use Rattle.lotos_rows.specs.Words.{left_out, there, no_more, and_then}
use Rattle.lotos_rows.specs.Names.{PlacedProfile}
use Rattle.lotos_rows.specs.Starts.{profile_by_name, AreItems, IsOptionalProfile, IsOptionalStatus, AreOrderItems, AreOptionalTerms}
use Rattle.lotos_rows.specs.Starts as family
use Rattle.tree_building.specs.Meaning.{Meaning, some_items, maybe_profile, maybe_name, some_order_items, some_terms}
use Rattle.tree_building.specs.Sentences.{Derived}
use Rattle.tree_building.proofs.NamesCases.{name_derived, operation_derived, profile_derived}
use Rattle.tree_building.proofs.TermsCases.{terms_derived}
use Rattle.tree_building.proofs.TypesCases.{item_derived}
use Rattle.tree_building.proofs.SpecificationDerived.{by_no_items, by_items}
use Rattle.tree_building.proofs.StartsDerived.{by_no_order, by_order, by_no_optional_profile, by_optional_profile, by_no_optional_status, by_optional_status, by_no_terms, by_terms}

module _ (text : List ℕ) where
  abbrev D : ℕ → List Token → Meaning → Type 0
  D = Derived text

  pub items_derived : {tokens : List Token} {items : List WrittenItem} → AreItems text tokens items →
      D specification.ITEMS tokens (some_items items)
  items_derived no_more = by_no_items text refl
  items_derived (and_then it more) = by_items text (item_derived text it) (items_derived more) refl

  optional_profile_derived : {tokens : List Token} {profile : Option PlacedProfile} → IsOptionalProfile text tokens profile →
      D starts.OPTIONAL_PROFILE tokens (maybe_profile profile)
  optional_profile_derived family.without_profile = by_no_optional_profile text refl
  optional_profile_derived (family.with_profile it) = by_optional_profile text (profile_derived text it) refl

  optional_status_derived : {tokens : List Token} {status : Option PlacedName} → IsOptionalStatus text tokens status →
      D starts.OPTIONAL_STATUS tokens (maybe_name status)
  optional_status_derived family.without_status = by_no_optional_status text refl
  optional_status_derived (family.with_status it) = by_optional_status text (name_derived text it) refl

  pub order_derived : {tokens : List Token} {items : List ListedOperation} → AreOrderItems text tokens items →
      D starts.ORDER tokens (some_order_items items)
  order_derived no_more = by_no_order text refl
  order_derived
      (and_then {rest = rest} {values = others}
      (family.listed {tokens = own} {profile_tokens = profile_tokens} {status_tokens = status_tokens} {semicolon = semicolon}
      {operation = operation} {profile = profile} {status = status} it has_profile has_status is_semicolon) more) =
      subst (λ (l : List Token). D starts.ORDER l
      (some_order_items
      (record {
        place = operation.name.place;
        name = operation.name.name;
        form = operation.form;
        profile = option_map profile_by_name
            profile;
        status = status;
      } ∷ others)))
      (ap (λ (l : List Token). own ++ l)
      (ap (λ (l : List Token). profile_tokens ++ l) (sym (append_assoc status_tokens (semicolon ∷ []) rest))
      ∙ sym (append_assoc profile_tokens (status_tokens ++ semicolon ∷ []) rest))
      ∙ sym (append_assoc own (profile_tokens ++ (status_tokens ++ semicolon ∷ [])) rest))
      (by_order text (operation_derived text it) (optional_profile_derived has_profile) (optional_status_derived has_status) is_semicolon
      (order_derived more) refl)

  pub terms_text_derived : {tokens : List Token} {found : List WrittenTerm} → AreOptionalTerms text tokens found →
      D starts.TERMS tokens (some_terms found)
  terms_text_derived left_out = by_no_terms text refl
  terms_text_derived (there it) = by_terms text (terms_derived text it) refl
