-- Argument lists of written terms and lists, and what the code's terms are seen as.
use Rattle.std.proofs.Common.{◌≡◌, List, [], ◌∷◌, refl, ap, ◌∙◌}
use Rattle.lotos_base.specs.declared.written_terms.Written.{out-Written}
use Rattle.lotos_base.specs.declared.written_terms.Written.TheFolds.{fold_out-Written}
use Rattle.lotos_base.specs.WrittenView.{written_node_of, written_terms_of}
use Rattle.lotos_base.specs.WrittenLaws.{HeadsAreSeen, ArgumentsAreSeen}
use Rattle.lotos_base.specs.WrittenTerm.{WrittenTerm, WrittenTerms, no_written, written_then, written_terms, written_list, written_head, written_arguments}

pub written_list-written_terms : (terms : List WrittenTerm) → written_list (written_terms terms) ≡ terms
written_list-written_terms [] = refl
written_list-written_terms (term ∷ terms) = ap (λ (rest : List WrittenTerm). term ∷ rest) (written_list-written_terms terms)

pub written_terms-written_list : (terms : WrittenTerms) → written_terms (written_list terms) ≡ terms
written_terms-written_list no_written = refl
written_terms-written_list (written_then term terms) = ap (λ (rest : WrittenTerms). written_then term rest)
    (written_terms-written_list terms)

-- a written term is seen by its parts
pub heads_seen : HeadsAreSeen
heads_seen term =
    ap written_head (fold_out-Written WrittenTerm written_node_of term)

pub arguments_seen : ArgumentsAreSeen
arguments_seen term =
    ap written_arguments (fold_out-Written WrittenTerm written_node_of term)
    ∙ written_list-written_terms (written_terms_of (out-Written term).args.items)
