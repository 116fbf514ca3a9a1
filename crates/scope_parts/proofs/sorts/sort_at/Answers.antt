use Rattle.std.proofs.Common.{ℕ, subst}
use Rattle.std.specs.Prelude.{Option}
use Rattle.lotos_base.specs.Name.{spelling}
use Rattle.lotos_base.specs.WrittenView.{text_place_of}
use Rattle.sort_terms.specs.ReaderView.{signature_read}
use Rattle.scope_parts.specs.FaultView.{Answers}
use Rattle.scope_parts.specs.Resolution.{Is}
use Rattle.scope_parts.specs.Sorts.{found_sort}
use Rattle.scope_parts.proofs.SortLemmas.{sort_answer}
use Rattle.scope_parts.proofs.sorts.sort_at.Goals as goal

pub returns : goal.returns
returns c =
    subst
    (λ (o : Option ℕ). Answers (λ (n : ℕ). n) c.sort_found.result
    (Is (found_sort (text_place_of c.args.place) (spelling c.args.name.now) o)))
    (sort_answer (signature_read c.args.reader.now) (spelling c.args.name.now) c.in_ok-found.found c.in_ok-found.ensures)
    c.sort_found.ensures
