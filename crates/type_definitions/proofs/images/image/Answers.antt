use Rattle.std.proofs.Common.{◌≡◌, List, map, ap, sym, subst, ◌∙◌}
use Rattle.sort_terms.specs.Operations.{operation_of}
use Rattle.sort_terms.specs.ProfiledTerm.{ProfiledTerm, bare, head_sort, FitsProfiles}
use Rattle.sort_terms.specs.SortedView.{profiled_in}
use Rattle.sort_terms.specs.TermView.{profiled_of}
use Rattle.sort_terms.specs.declared.terms.Term.{Term}
use Rattle.type_definitions.specs.ProfiledImage.{number_in, profiled_image}
use Rattle.type_definitions.proofs.ImageLemmas.{image_bare, image_sort, image_fits}
use Rattle.type_definitions.proofs.images.image.Goals as goal
use Rattle.type_definitions.proofs.images.image.Goals.{In_ok-made}

made_is : (c : In_ok-made)
    → profiled_of c.in_ok-made.made
    ≡ profiled_image (number_in c.args.sorts.now) (number_in c.args.ops.now) (map (λ p. operation_of p.value) c.args.profiles.now)
    (profiled_in c.args.term.now)
made_is c =
    c.in_ok-made.ensures
    ∙ ap (λ (t : Term). profiled_image (number_in c.args.sorts.now) (number_in c.args.ops.now)
    (map (λ p. operation_of p.value) c.args.profiles.now) (profiled_of t)) c.term.ensures

pub of-requires : goal.of-requires
of-requires c =
    subst (λ (p : ProfiledTerm). FitsProfiles p) (sym (made_is (goal.at.of-requires c).In_ok-made))
    (image_fits (number_in c.args.sorts.now) (number_in c.args.ops.now) (map (λ p. operation_of p.value) c.args.profiles.now)
    (profiled_in c.args.term.now) c.args.term.now.fits c.requires)

pub returns-clause-image : goal.returns-clause-image
returns-clause-image c =
    ap (λ (t : Term). bare (profiled_of t)) c.of.ensures ∙ ap bare (made_is (goal.at.returns-clause-image c).In_ok-made)
    ∙ image_bare (number_in c.args.sorts.now) (number_in c.args.ops.now) (map (λ p. operation_of p.value) c.args.profiles.now)
    (profiled_in c.args.term.now)

pub returns-clause-profiles : goal.returns-clause-profiles
returns-clause-profiles c =
    ap (λ (t : Term). profiled_of t) c.of.ensures ∙ made_is (goal.at.returns-clause-profiles c).In_ok-made

pub returns-clause-sort : goal.returns-clause-sort
returns-clause-sort c =
    sym c.of.result.headed ∙ ap (λ (t : Term). head_sort (profiled_of t)) c.of.ensures
    ∙ ap head_sort (made_is (goal.at.returns-clause-sort c).In_ok-made)
    ∙ image_sort (number_in c.args.sorts.now) (number_in c.args.ops.now) (map (λ p. operation_of p.value) c.args.profiles.now)
    (profiled_in c.args.term.now) c.requires
    ∙ ap (number_in c.args.sorts.now) c.args.term.now.headed
