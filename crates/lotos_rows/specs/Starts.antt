-- The four kinds of texts that are read: a specification, the items of a library, an order file, a list of terms:
--
--   spec     = "specification" name [gates] [params] ":" func {item} ("behaviour" | "behavior") beh [where] "endspec"
--   typetext = { item }
--   order    = { op [ ":" [names] "->" name ] [name] ";" }
--   terms    = [ term { "," term } ]
use Rattle.std.specs.Prelude.{ℕ, List, [], ◌∷◌, ◌++◌, map, Option, Some, None, option_map}
use Rattle.lotos_base.specs.WrittenTerm.{PlacedName, WrittenTerm, WrittenProfile, ListedOperation}
use Rattle.lotos_lexer.specs.declared.kinds.TheConstants.{SPECIFICATION, BEHAVIOUR, BEHAVIOR, ENDSPEC, SEMICOLON}
use Rattle.lotos_lexer.specs.declared.tokens.Token.{Token}
use Rattle.syntax_trees.specs.WrittenItem.{WrittenItem}
use Rattle.syntax_trees.specs.WrittenBehaviour.{WrittenBehaviour}
use Rattle.syntax_trees.specs.WrittenDefinition.{WrittenHeading, WrittenInner, WrittenSpecification}
use Rattle.lotos_rows.specs.Words.{IsOfKind, Optional, Many}
use Rattle.lotos_rows.specs.Names.{NamedOperation, IsName, IsWrittenOperation, PlacedProfile, IsProfile}
use Rattle.lotos_rows.specs.Terms.{AreTerms}
use Rattle.lotos_rows.specs.Types.{IsItem}
use Rattle.lotos_rows.specs.Behaviours.{IsBehaviourText}
use Rattle.lotos_rows.specs.Definitions.{IsHeading, IsWhere}

-- "behaviour" | "behavior"
pub data IsBehaviourWord : Token → Type 0 where
  british : {word : Token} → IsOfKind BEHAVIOUR word → IsBehaviourWord word
  american : {word : Token} → IsOfKind BEHAVIOR word → IsBehaviourWord word

-- typetext = { item }
abbrev pub AreItems : List ℕ → List Token → List WrittenItem → Type 0
AreItems text = Many (IsItem text)

-- spec = "specification" name [gates] [params] ":" func {item} ("behaviour" | "behavior") beh [where] "endspec"
pub data IsWrittenSpecification (text : List ℕ) : List Token → WrittenSpecification → Type 0 where
  a_specification : {specification word end : Token} {heading_tokens item_tokens tokens where_tokens : List Token}
      {heading : WrittenHeading} {items : List WrittenItem} {body : WrittenBehaviour} {inner : List WrittenInner} →
      IsOfKind SPECIFICATION specification → IsHeading text heading_tokens heading → AreItems text item_tokens items
      → IsBehaviourWord word →
      IsBehaviourText text tokens body → IsWhere text where_tokens inner → IsOfKind ENDSPEC end →
      IsWrittenSpecification text (specification ∷ (heading_tokens ++ (item_tokens ++ word ∷ (tokens ++ (where_tokens ++ end ∷ [])))))
      (record { heading = heading; items = items; body = body; inner = inner })

-- the sorts of an operation by name
abbrev pub profile_by_name : PlacedProfile → WrittenProfile
profile_by_name profile = record { arguments = map (λ sort. sort.name) profile.arguments; result = profile.result.name }

-- [ ":" [names] "->" name ]
pub data IsOptionalProfile (text : List ℕ) : List Token → Option PlacedProfile → Type 0 where
  without_profile : IsOptionalProfile text [] None
  with_profile : {tokens : List Token} {profile : PlacedProfile} → IsProfile text tokens profile
      → IsOptionalProfile text tokens (Some profile)

-- [name], the status
pub data IsOptionalStatus (text : List ℕ) : List Token → Option PlacedName → Type 0 where
  without_status : IsOptionalStatus text [] None
  with_status : {tokens : List Token} {status : PlacedName} → IsName text tokens status
      → IsOptionalStatus text tokens (Some status)

-- op [ ":" [names] "->" name ] [name] ";", placed at the name of the operation
pub data IsOrderItem (text : List ℕ) : List Token → ListedOperation → Type 0 where
  listed : {tokens profile_tokens status_tokens : List Token} {semicolon : Token} {operation : NamedOperation}
      {profile : Option PlacedProfile} {status : Option PlacedName} →
      IsWrittenOperation text tokens operation → IsOptionalProfile text profile_tokens profile →
      IsOptionalStatus text status_tokens status → IsOfKind SEMICOLON semicolon →
      IsOrderItem text (tokens ++ (profile_tokens ++ (status_tokens ++ semicolon ∷ [])))
      (record {
        place = operation.name.place;
        name = operation.name.name;
        form = operation.form;
        profile = option_map profile_by_name profile;
        status = status;
      })

-- order = { op [ ":" [names] "->" name ] [name] ";" }
abbrev pub AreOrderItems : List ℕ → List Token → List ListedOperation → Type 0
AreOrderItems text = Many (IsOrderItem text)

-- terms = [ term { "," term } ]
abbrev pub AreOptionalTerms : List ℕ → List Token → List WrittenTerm → Type 0
AreOptionalTerms text = Optional [] (AreTerms text)
