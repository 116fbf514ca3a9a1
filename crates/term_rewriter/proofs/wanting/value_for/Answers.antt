use Rattle.std.proofs.Common.{ℕ, List, ap, sym, ◌∙◌, subst, refl, arith}
use Rattle.std.proofs.lemmas.Result.{IfOk-weaker}
use Rattle.sort_terms.specs.TermView.{profiled_of}
use Rattle.sort_terms.specs.declared.terms.Term.{Term}
use Rattle.sort_terms.proofs.BuiltLists.{profiled_Var}
use Rattle.term_match.specs.Search.{looked_up}
use Rattle.term_rewriter.specs.Taken.{owned_pairs}
use Rattle.term_rewriter.specs.Wanted.{IsPlaceOf}
use Rattle.term_rewriter.proofs.WantedLemmas.{given_none, given_copy, given_moved, place_within}
use Rattle.term_rewriter.proofs.wanting.value_for.Goals as goal

pub returns-in_default : goal.returns-in_default
returns-in_default c =
    given_none c.args.number c.args.sort c.args.again (owned_pairs c.args.values.now.items) _
    (ap (λ (values : List (ℕ × Term)). looked_up c.args.number (owned_pairs values)) (sym c.as_slice.ensures.value) ∙ c.in_default.ensures)
    (profiled_Var c.args.number c.args.sort)

pub index-requires : goal.index-requires
index-requires c =
    let less = place_within c.args.values.now.items c.in-Some.place c.args.number
    (subst (λ (values : List (ℕ × Term)). IsPlaceOf c.args.number (owned_pairs values) c.in-Some.place) c.as_slice.ensures.value
    c.in-Some.ensures) in
    omega (arith, less, c.args.values.now.ok.0)

pub returns-then-again : goal.returns-then-again
returns-then-again c =
    IfOk-weaker c.copy.result _ _
    (λ made same. given_copy c.args.number c.args.sort c.args.again c.args.values.now.items c.in-Some.place c.index.result.now
    (profiled_of made)
    (subst (λ (values : List (ℕ × Term)). IsPlaceOf c.args.number (owned_pairs values) c.in-Some.place) c.as_slice.ensures.value
    c.in-Some.ensures) c.index.ensures same) c.copy.ensures

pub remove-value-requires : goal.remove-value-requires
remove-value-requires c =
    let less = place_within c.args.values.now.items c.in-Some.place c.args.number
    (subst (λ (values : List (ℕ × Term)). IsPlaceOf c.args.number (owned_pairs values) c.in-Some.place) c.as_slice.ensures.value
    c.in-Some.ensures) in
    omega (arith, less, c.args.values.now.ok.0)

pub returns : goal.returns
returns c =
    given_moved c.args.number c.args.sort c.args.again c.args.values.now.items c.remove-value.new.self.items c.in-Some.place
    c.remove-value.result (profiled_of c.remove-value.result.1)
    (subst (λ (values : List (ℕ × Term)). IsPlaceOf c.args.number (owned_pairs values) c.in-Some.place) c.as_slice.ensures.value
    c.in-Some.ensures)
    c.if-again.false c.remove-value.ensures.value refl c.remove-value.ensures.by_index.2
