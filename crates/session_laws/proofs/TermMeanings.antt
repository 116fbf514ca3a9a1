-- What was read where variables are visible means itself there.
use Rattle.std.proofs.Common.{ℕ, List, [], ◌∷◌, refl, ap, sym, ◌∙◌, subst}
use Rattle.lotos_base.specs.Signature.{Signature, Operation}
use Rattle.lotos_base.specs.Equation.{Variable}
use Rattle.lotos_base.specs.Term.{Terms, variable, node, no_terms, term_then}
use Rattle.lotos_base.specs.WrittenTerm.{WrittenHead, WrittenTerms, written, no_written, written_then}
use Rattle.sort_terms.specs.Reading.{IsLastNamed, AllRead, IsVariableAt, IsOperationAt}
use Rattle.session_histories.specs.HandedOn.{variable_text}
use Rattle.session_laws.specs.TermMeanings.{VariableMeans, IsUnhidden, TermsMean, AreLookedUp}
use Rattle.session_laws.specs.WrittenLaws.{ReadTermsMeanThemselves}

-- the last variable of a name is the last one of its own name
own_last : (visible : List Variable) (name : List ℕ) (v : Variable) → IsLastNamed visible name v → IsLastNamed visible v.name v
own_last visible name v last = record {
  position = last.position;
  found = last.found;
  named = refl;
  last = λ i w before at same. last.last i w before at (same ∙ last.named);
}

variable_means : (signature : Signature) (visible names : List Variable) (head : WrittenHead) (ws : WrittenTerms) (n s : ℕ)
    → AreLookedUp visible names → IsVariableAt signature visible head ws n s → VariableMeans visible names n s
variable_means signature visible names head ws n s looked is = record {
  declared = is.declared;
  last =
      subst (λ (name : List ℕ). IsLastNamed visible name is.declared)
      (sym (looked is.last.position is.declared is.last.found) ∙ ap (λ (m : ℕ). variable_text names m) is.numbered)
      (own_last visible head.name is.declared is.last);
  numbered = is.numbered;
  sorted = is.sorted;
}

unhidden_at : (signature : Signature) (visible : List Variable) (head : WrittenHead) (ws : WrittenTerms) (ts : Terms) (sorts : List ℕ)
    (f : ℕ) (operation : Operation) → IsOperationAt signature visible head ws f operation → AllRead signature visible ws ts sorts
    → IsUnhidden visible operation ts
unhidden_at signature visible head no_written no_terms sorts f operation is each =
    λ formed i v at same. is.visible (sym is.formed ∙ formed) i v at (same ∙ is.named)
unhidden_at signature visible head (written_then w ws) no_terms sorts f operation is each = absurd each
unhidden_at signature visible head ws (term_then t ts) sorts f operation is each = tt

mutual
  pub term_means : ReadTermsMeanThemselves
  term_means signature visible names (written head ws) (variable n s) sort looked reads =
      (variable_means signature visible names head ws n s looked reads.0, reads.1)
  term_means signature visible names (written head ws) (node f ts) sort looked reads = (
    reads.0,
    reads.1.is_there,
    unhidden_at signature visible head ws ts reads.0.arguments f reads.0 reads.1 reads.3,
    reads.2,
    terms_mean signature visible names ws ts reads.0.arguments looked reads.3,
  )

  pub terms_mean : (signature : Signature) (visible names : List Variable) (ws : WrittenTerms) (ts : Terms) (sorts : List ℕ)
      → AreLookedUp visible names → AllRead signature visible ws ts sorts → TermsMean signature visible names ts sorts
  terms_mean signature visible names no_written no_terms [] looked each = tt
  terms_mean signature visible names no_written no_terms (s ∷ ss) looked each = absurd each
  terms_mean signature visible names no_written (term_then t ts) ss looked each = absurd each
  terms_mean signature visible names (written_then w ws) no_terms ss looked each = absurd each
  terms_mean signature visible names (written_then w ws) (term_then t ts) [] looked each = absurd each
  terms_mean signature visible names (written_then w ws) (term_then t ts) (s ∷ ss) looked each =
      (term_means signature visible names w t s looked each.0, terms_mean signature visible names ws ts ss looked each.1)
