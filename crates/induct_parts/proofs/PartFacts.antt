-- What stands at a path of a term, as the code finds it.
use Rattle.std.proofs.Common.{◌≡◌, ℕ, List, ap, sym, ◌∙◌}
use Rattle.std.specs.Option.{option_map}
use Rattle.std.specs.Prelude.{Option, None, Some, MatchOption}
use Rattle.std.proofs.lemmas.Option.{same_Some}
use Rattle.lotos_base.proofs.Options.{none_and_some}
use Rattle.lotos_base.specs.Path.{subterm}
use Rattle.lotos_base.specs.Term.{variable}
use Rattle.sort_terms.specs.ProfiledTerm.{bare}
use Rattle.sort_terms.specs.TermView.{profiled_of, term_of}
use Rattle.sort_terms.specs.declared.terms.Term.{Term}
use Rattle.term_match.specs.ProfiledPath.{profiled_subterm}
use Rattle.term_match.proofs.PathLemmas.{subterm_bare}

pub part_found : (path : List ℕ) (whole part : Term) → Some (profiled_of part) ≡ profiled_subterm path (profiled_of whole)
    → subterm path (term_of whole) ≡ Some (term_of part)
part_found path whole part e = sym (subterm_bare path (profiled_of whole)) ∙ ap (option_map bare) (sym e)

pub variable_there : (path : List ℕ) (whole part : Term) (found : Option (ℕ × ℕ))
    → Some (profiled_of part) ≡ profiled_subterm path (profiled_of whole)
    → MatchOption found ((n s : ℕ) → ¬ (term_of part ≡ variable n s)) (λ pair. term_of part ≡ variable pair.0 pair.1)
    → MatchOption found ((n s : ℕ) → ¬ (subterm path (term_of whole) ≡ Some (variable n s)))
    (λ pair. subterm path (term_of whole) ≡ Some (variable pair.0 pair.1))
variable_there path whole part None e none =
    λ n s at. none n s (same_Some (term_of part) (variable n s) (sym (part_found path whole part e) ∙ at))
variable_there path whole part (Some pair) e is = part_found path whole part e ∙ ap (λ t. Some t) is

pub no_part_there : (path : List ℕ) (whole : Term) → None ≡ profiled_subterm path (profiled_of whole)
    → (n s : ℕ) → ¬ (subterm path (term_of whole) ≡ Some (variable n s))
no_part_there path whole e n s at =
    none_and_some (subterm path (term_of whole)) (variable n s)
    (sym (subterm_bare path (profiled_of whole)) ∙ ap (option_map bare) (sym e)) at
