-- The plain values that places, written terms and items of an order file stand for.
use Rattle.std.specs.Prelude.{List, map, option_map}
use Rattle.lotos_base.specs.Equation as plain
use Rattle.lotos_base.specs.Signature as plain_signature
use Rattle.lotos_base.specs.declared.places.Place.{Place}
use Rattle.lotos_base.specs.declared.names.Name.{Name}
use Rattle.lotos_base.specs.declared.written_terms.Form.{Form}
use Rattle.lotos_base.specs.declared.written_terms.Form.TheVariants.{Prefix, Infix}
use Rattle.lotos_base.specs.declared.written_terms.Written.{Written, fold-Written}
use Rattle.lotos_base.specs.declared.written_terms.Written.TheOpen.{Written-F}
use Rattle.lotos_base.specs.declared.written_terms.Profile.{Profile}
use Rattle.lotos_base.specs.declared.written_terms.OrderItem.{OrderItem}
use Rattle.lotos_base.specs.Name.{spelling}
use Rattle.lotos_base.specs.WrittenTerm.{PlacedName, WrittenTerm, written, written_terms, WrittenProfile, ListedOperation}

-- a place in a text
abbrev pub text_place_of : Place → plain.Place
text_place_of place = record { text = place.text; line = place.line; column = place.col }

-- before the arguments, or between two of them
abbrev pub form_of : Form → plain_signature.Form
form_of Prefix = plain_signature.prefix_form
form_of Infix = plain_signature.infix_form

-- a name with its place
abbrev pub placed_name_of : Place × Name → PlacedName
placed_name_of pair = record { place = text_place_of pair.0; name = spelling pair.1 }

-- one node of a written term, whose arguments are plain values already
abbrev pub written_node_of : Written-F WrittenTerm → WrittenTerm
written_node_of node =
    written
    (record {
      place = text_place_of node.place;
      name = spelling node.name;
      form = form_of node.form;
      sorts = map placed_name_of node.sorts.items;
    })
    (written_terms node.args.items)

-- a written term
abbrev pub written_term_of : Written → WrittenTerm
written_term_of = fold-Written WrittenTerm written_node_of

-- written terms in their order
abbrev pub written_terms_of : List Written → List WrittenTerm
written_terms_of terms = map written_term_of terms

-- the sorts of an operation by name
abbrev pub written_profile_of : Profile → WrittenProfile
written_profile_of profile = record { arguments = map spelling profile.arguments.items; result = spelling profile.result }

-- an item of an order file
abbrev pub listed_operation_of : OrderItem → ListedOperation
listed_operation_of item = record {
  place = text_place_of item.place;
  name = spelling item.name;
  form = form_of item.form;
  profile = option_map written_profile_of item.profile;
  status = option_map placed_name_of item.status;
}
