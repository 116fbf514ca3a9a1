-- Laws of written terms as plain values: argument lists are lists, a term is seen by its parts.
use Rattle.std.specs.Prelude.{◌≡◌, List, map}
use Rattle.lotos_base.specs.Name.{spelling}
use Rattle.lotos_base.specs.declared.written_terms.Written.{Written, out-Written}
use Rattle.lotos_base.specs.WrittenTerm.{WrittenTerm, WrittenTerms, WrittenHead, written_terms, written_list, written_head, written_arguments}
use Rattle.lotos_base.specs.WrittenView.{text_place_of, form_of, placed_name_of, written_term_of, written_terms_of}

-- a list put into argument form and back is the same list
abbrev pub WrittenListsComeBack : Type 0
WrittenListsComeBack = (terms : List WrittenTerm) → written_list (written_terms terms) ≡ terms

-- arguments put into a list and back are the same arguments
abbrev pub WrittenArgumentsComeBack : Type 0
WrittenArgumentsComeBack = (terms : WrittenTerms) → written_terms (written_list terms) ≡ terms

-- what stands at the node of the code's term
abbrev pub head_of : Written → WrittenHead
head_of term = record {
  place = text_place_of (out-Written term).place;
  name = spelling (out-Written term).name;
  form = form_of (out-Written term).form;
  sorts = map placed_name_of (out-Written term).sorts.items;
}

-- the node of the code's term is seen as it stands
abbrev pub HeadsAreSeen : Type 0
HeadsAreSeen = (term : Written) → written_head (written_term_of term) ≡ head_of term

-- the arguments of the code's term are seen one by one, in their order
abbrev pub ArgumentsAreSeen : Type 0
ArgumentsAreSeen = (term : Written) → written_arguments (written_term_of term) ≡ written_terms_of (out-Written term).args.items
