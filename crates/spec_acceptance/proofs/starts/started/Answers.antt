use Rattle.std.proofs.Common.{List, map, refl, sym, ap, subst, ◌∙◌}
use Rattle.behaviour_tree.specs.BehaviourTerms.{profiles_of}
use Rattle.behaviour_tree.specs.BehaviourView.{terms_of}
use Rattle.behaviour_tree.specs.Over.{AreTermsOf}
use Rattle.refusal_lines.specs.HandedOn.{book_canon}
use Rattle.sort_terms.specs.EquationView.{data_of}
use Rattle.sort_terms.specs.declared.sorted.Sorted.{Sorted}
use Rattle.spec_acceptance.proofs.StartLemmas.{starts, started_so, start_fails}
use Rattle.spec_acceptance.proofs.starts.started.Goals as goal

pub normal_values-requires : goal.normal_values-requires
normal_values-requires c =
    subst (λ (vs : List Sorted). AreTermsOf (data_of c.args.valued.known.book.flat).signature (profiles_of vs))
    (sym c.as_slice.ensures.value) c.requires.profiles

pub start-requires : goal.start-requires
start-requires c =
    starts c.args.valued c.in_ok-normal.normal.items
    (c.in_ok-normal.ensures.normal
    ∙ ap (λ (vs : List Sorted). map (book_canon c.args.valued.known.book) (terms_of vs)) c.as_slice.ensures.value)
    c.in_ok-normal.ensures.profiles c.requires

pub returns : goal.returns
returns c =
    started_so c.args.valued c.in_ok-normal.normal.items c.in_ok-start.start c.normal_values.new.book _
    (c.in_ok-normal.ensures.normal
    ∙ ap (λ (vs : List Sorted). map (book_canon c.args.valued.known.book) (terms_of vs)) c.as_slice.ensures.value)
    c.in_ok-normal.ensures.profiles c.requires c.in_ok-start.ensures.begins c.in_ok-start.ensures.terms c.in_ok-start.ensures.closed
    c.normal_values.ensures.flat c.normal_values.ensures.joined refl

pub returns-in_err-normal : goal.returns-in_err-normal
returns-in_err-normal c = start_fails c.args.valued c.from_residual.result c.from_residual.ensures.1

pub returns-in_err-start : goal.returns-in_err-start
returns-in_err-start c = start_fails c.args.valued c.from_residual-in_err-start.result c.from_residual-in_err-start.ensures.1
