use Rattle.std.proofs.Common.{◌≡◌, ◌∙◌, List, ◌++◌, map, reverse, ap, sym}
use Rattle.std.proofs.lemmas.List.{map-append}
use Rattle.lotos_base.specs.declared.written_terms.Written.{out-Written}
use Rattle.lotos_base.specs.Name.{spelling}
use Rattle.lotos_base.specs.WrittenTerm.{PlacedName, WrittenTerm, written, written_terms}
use Rattle.lotos_base.specs.WrittenView.{text_place_of, form_of, placed_name_of, written_term_of}
use Rattle.lotos_rows.specs.HandedOn.{from_last}
use Rattle.tree_building.specs.TermsMeaning.{with_written_sorts}
use Rattle.tree_building.proofs.FromLast.{map_reverse}
use Rattle.tree_building.proofs.MadeTerms.{made, opened}
use Rattle.tree_building.proofs.terms.marked.Goals as goal

-- the sorts of the mark stand behind those that the term has
pub returns : goal.returns
returns c =
    let term = out-Written c.args.term in
    let mark = from_last placed_name_of c.args.mark.items in
    let sorts_are : map placed_name_of c.append.new.self.items ≡ map placed_name_of term.sorts.items ++ mark =
    ap (map placed_name_of) c.in_ok-append.ensures.items ∙ map-append placed_name_of term.sorts.items c.turned.result.items
    ∙ ap (λ (m : List PlacedName). map placed_name_of term.sorts.items ++ m)
    (ap (map placed_name_of) c.turned.ensures ∙ map_reverse placed_name_of c.args.mark.items) in
    made term.place term.name term.form term.args c.append.new.self
    ∙ ap
    (λ (sorts : List PlacedName). written (record {
      place = text_place_of term.place;
      name = spelling term.name;
      form = form_of term.form;
      sorts = sorts;
    })
    (written_terms (map written_term_of term.args.items)))
    sorts_are
    ∙ sym (ap (with_written_sorts mark) (opened c.args.term))
