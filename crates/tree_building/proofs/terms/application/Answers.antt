use Rattle.std.proofs.Common.{◌≡◌, ◌∙◌, List, [], map, reverse, ap, subst}
use Rattle.lotos_base.specs.declared.written_terms.Form.TheVariants.{Prefix}
use Rattle.lotos_base.specs.Name.{spelling}
use Rattle.lotos_base.specs.WrittenTerm.{PlacedName, WrittenTerm, written, written_terms}
use Rattle.lotos_base.specs.WrittenView.{text_place_of, form_of, placed_name_of, written_term_of}
use Rattle.tree_building.proofs.FromLast.{map_reverse}
use Rattle.tree_building.proofs.MadeTerms.{made}
use Rattle.tree_building.proofs.terms.application.Goals as goal

-- the arguments are turned round, and there is no sort yet
pub returns : goal.returns
returns c =
    made c.args.name.0 c.args.name.1 Prefix c.turned.result c.new.result
    ∙ ap
    (λ (sorts : List PlacedName). written (record {
      place = text_place_of c.args.name.0;
      name = spelling c.args.name.1;
      form = form_of Prefix;
      sorts = sorts;
    })
    (written_terms (map written_term_of c.turned.result.items)))
    (ap (map placed_name_of) c.new.ensures.items)
    ∙ ap
    (λ (arguments : List WrittenTerm). written (record {
      place = text_place_of c.args.name.0;
      name = spelling c.args.name.1;
      form = form_of Prefix;
      sorts = [];
    })
    (written_terms arguments))
    (ap (map written_term_of) c.turned.ensures ∙ map_reverse written_term_of c.args.args.items)
