-- What the rows of the four texts mean, from what their parts mean.
use Rattle.std.specs.Prelude.{ℕ, List, [], ◌∷◌, Option, Some, None, option_map, option_and_then}
use Rattle.lotos_rows.specs.Starts.{profile_by_name}
use Rattle.tree_building.specs.Meaning.{Meaning, maybe_profile, maybe_name, a_word, a_specification, some_order_items}
use Rattle.tree_building.specs.Parts.{with_next, meant_name, meant_operation, meant_profile, meant_maybe_profile, meant_maybe_name, meant_items, meant_operands, meant_heading, meant_inner, meant_word, meant_order_items}
use Rattle.tree_building.specs.BehavioursMeaning.{with_grouped}

abbrev pub a_behaviour_word : Option Meaning
a_behaviour_word = Some (a_word tt)

-- "specification" heading items behaviour_word behaviour where "endspec"
abbrev pub specification_of_parts : List Meaning → Option Meaning
specification_of_parts parts =
    with_next meant_heading parts (λ heading parts. with_next meant_items parts (λ items parts. with_next meant_word parts (λ word parts.
    with_next meant_operands parts (λ flat parts. with_next meant_inner parts (λ inner parts.
    with_grouped flat (λ body. Some (a_specification (record { heading = heading; items = items; body = body; inner = inner }))))))))

abbrev pub no_order_items : Option Meaning
no_order_items = Some (some_order_items [])

-- operation optional_profile optional_status ";" order
abbrev pub item_before_order : List Meaning → Option Meaning
item_before_order parts =
    with_next meant_operation parts (λ operation parts. with_next meant_maybe_profile parts (λ profile parts.
    with_next meant_maybe_name parts (λ status parts. with_next meant_order_items parts (λ more parts.
    Some (some_order_items (record {
      place = operation.name.place;
      name = operation.name.name;
      form = operation.form;
      profile = option_map profile_by_name profile;
      status = status;
    } ∷ more))))))

abbrev pub no_profile : Option Meaning
no_profile = Some (maybe_profile None)

abbrev pub some_profile : List Meaning → Option Meaning
some_profile parts = with_next meant_profile parts (λ profile parts. Some (maybe_profile (Some profile)))

abbrev pub no_status : Option Meaning
no_status = Some (maybe_name None)

abbrev pub some_status : List Meaning → Option Meaning
some_status parts = with_next meant_name parts (λ status parts. Some (maybe_name (Some status)))
