-- What is known of the readings of a written term at one sort: what it means, and how it is put together.
use Rattle.std.specs.Prelude.{Bool, true, ◌||◌, Option, None, Some}
use Rattle.sort_terms.specs.declared.choices.Choice.{Choice}
use Rattle.sort_terms.specs.declared.choices.Source.{Source}

-- readings of one head, and those that were known before
abbrev pub joined_readings : Option Choice → Source → Bool → Option Choice
joined_readings None source several = Some (record { source = source; several = several })
joined_readings (Some known) source several = Some (record { source = known.source; several = true })

-- readings of pairs
abbrev pub both : Option Choice → Option Choice → Option Choice
both None other = None
both (Some one) None = None
both (Some one) (Some other) = Some (record { source = one.source; several = one.several || other.several })
