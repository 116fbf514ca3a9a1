use Rattle.std.proofs.Common.{◌++◌, ℕ, List, map, ap, ◌∙◌, subst}
use Rattle.std.specs.Vec.Iter.{into_iter_items}
use Rattle.std.proofs.lemmas.Result.{IfOk-weaker}
use Rattle.sort_terms.specs.TermView.{profiled_of}
use Rattle.sort_terms.specs.declared.terms.Term.{Term}
use Rattle.term_match.specs.ProfiledInstance.{profiled_binding}
use Rattle.term_rewriter.specs.Taken.{owned_pairs, AreTaken}
use Rattle.term_rewriter.specs.Wanted.{values_by, profiled_variables_of, IsFilled}
use Rattle.term_rewriter.proofs.FilledLemmas.{is_rewritten}
use Rattle.term_rewriter.proofs.filling.rewritten.Goals as goal

pub returns : goal.returns
returns c =
    IfOk-weaker c.filled.result _ _
    (λ made filled.
    is_rewritten (profiled_of c.args.left.now) (profiled_of c.args.right.now) (profiled_of c.args.term) (profiled_of made)
    c.in_ok-values.values.items c.in_ok-wanted.wanted.items c.in_ok-values_for.field-0.items
    (map profiled_of (into_iter_items c.filled.new.values))
    (subst (λ (before : List (ℕ × Term)). AreTaken (profiled_of c.args.left.now) (profiled_of c.args.term) (owned_pairs before)
    (owned_pairs c.in_ok-values.values.items)) c.new.ensures.items c.in_ok-values.ensures)
    (c.in_ok-wanted.ensures ∙ ap (λ (vs : List (ℕ × ℕ)). vs ++ profiled_variables_of (profiled_of c.args.right.now)) c.new-2.ensures.items)
    (c.in_ok-values_for.ensures
    ∙ ap (λ (vs : List (ℕ × ℕ)). values_by (profiled_binding (owned_pairs c.in_ok-values.values.items)) vs) c.as_slice.ensures.value)
    (subst (λ (terms : List Term). IsFilled (profiled_of c.args.right.now) (map profiled_of terms)
    (map profiled_of (into_iter_items c.filled.new.values)) (profiled_of made)) c.into_iter-terms.ensures.rest filled))
    c.filled.ensures
