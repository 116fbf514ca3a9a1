use Rattle.std.proofs.Common.{◌≡◌, ap, sym, ◌∙◌, subst}
use Rattle.std.specs.Prelude.{Some, None}
use Rattle.std.specs.Option.{option_map}
use Rattle.sort_terms.specs.ProfiledTerm.{ProfiledTerm, head_sort}
use Rattle.sort_terms.specs.SortedView.{profiled_in}
use Rattle.term_match.specs.ProfiledPath.{profiled_subterm, with_part_replaced}
use Rattle.term_match.specs.SubstView.{profiled_substitution_of}
use Rattle.term_match.proofs.StateLemmas.{instance_head}
use Rattle.critical_pairs.proofs.PlaceLemmas.{put_there}
use Rattle.critical_pairs.proofs.contracting.contracted.Goals as goal

-- the part at the path has the sort of what is put there
pub unreachable-requires : goal.unreachable-requires
unreachable-requires c =
    let sorts : head_sort (profiled_in c.in_ok-inner.inner) ≡ head_sort (profiled_in c.args.second_right.now) =
    ap head_sort c.in_ok-inner.ensures.profiles
    ∙ instance_head (profiled_substitution_of c.args.subst.now) (profiled_in c.args.second_right.now) c.requires.second in
    let none : with_part_replaced c.args.path.now (profiled_in c.in_ok-inner.inner) (profiled_in c.in_ok-peak.peak) ≡ None =
    sym c.in_ok-right.ensures.profiles ∙ ap (option_map profiled_in) c.in-None.is in
    put_there c.args.path.now (profiled_in c.in_ok-inner.inner) (profiled_in c.in_ok-peak.peak) c.requires.place.0
    (subst (λ (w : ProfiledTerm). profiled_subterm c.args.path.now w ≡ Some c.requires.place.0) (sym c.in_ok-peak.ensures.profiles)
    c.requires.place.1)
    (c.requires.place.2 ∙ sym sorts) none
