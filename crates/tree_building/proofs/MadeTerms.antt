-- Written terms that are put together and taken apart.
use Rattle.std.proofs.Common.{◌≡◌, ◌∙◌, List, map, refl, ap}
use Rattle.std.specs.Prelude.{Vec}
use Rattle.std.specs.declared.alloc.Global.{Global}
use Rattle.lotos_base.specs.declared.places.Place.{Place}
use Rattle.lotos_base.specs.declared.names.Name.{Name}
use Rattle.lotos_base.specs.declared.written_terms.Form.{Form}
use Rattle.lotos_base.specs.declared.written_terms.Written.{Written, out-Written, roll-Written}
use Rattle.lotos_base.specs.declared.written_terms.Written.TheFolds.{fold_out-Written, fold-roll-Written}
use Rattle.lotos_base.specs.Name.{spelling}
use Rattle.lotos_base.specs.WrittenTerm.{WrittenTerm, written, written_terms}
use Rattle.lotos_base.specs.WrittenView.{text_place_of, form_of, placed_name_of, written_node_of, written_term_of}

-- a term that is put together
pub made : (place : Place) (name : Name) (form : Form) (args : Vec Written Global) (sorts : Vec (Place × Name) Global) →
    written_term_of (roll-Written (record { place = place; name = name; form = form; args = args; sorts = sorts }))
    ≡ written (record { place = text_place_of place; name = spelling name; form = form_of form; sorts = map placed_name_of sorts.items })
    (written_terms (map written_term_of args.items))
made place name form args sorts = fold-roll-Written WrittenTerm written_node_of
    (record { place = place; name = name; form = form; args = args; sorts = sorts })

-- a term that is taken apart
pub opened : (term : Written) → written_term_of term
    ≡ written
    (record {
      place = text_place_of (out-Written term).place;
      name = spelling (out-Written term).name;
      form = form_of (out-Written term).form;
      sorts = map placed_name_of (out-Written term).sorts.items;
    })
    (written_terms (map written_term_of (out-Written term).args.items))
opened term = fold_out-Written WrittenTerm written_node_of term
