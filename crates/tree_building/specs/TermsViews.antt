-- The plain values of what the parts of terms are built into.
use Rattle.lotos_base.specs.declared.places.Place.{Place}
use Rattle.lotos_base.specs.declared.names.Name.{Name}
use Rattle.lotos_base.specs.declared.written_terms.Written.{Written}
use Rattle.lotos_base.specs.WrittenTerm.{PlacedName, WrittenTerm}
use Rattle.lotos_base.specs.WrittenView.{text_place_of, placed_name_of, written_term_of}
use Rattle.tree_building.specs.declared.terms_values.StartedTerm.{StartedTerm}
use Rattle.tree_building.specs.Meaning.{PlainStartedTerm}

abbrev pub started_term_of : StartedTerm → PlainStartedTerm
started_term_of started = record { start = text_place_of started.start; term = written_term_of started.term }

abbrev pub factor_of : (Place × Name) × Written → PlacedName × WrittenTerm
factor_of factor = (placed_name_of factor.0, written_term_of factor.1)
