use Rattle.std.proofs.Common.{◌≡◌, ℕ, List, length, map, ap, sym, subst, arith}
use Rattle.lotos_base.proofs.Pieces.{take_whole}
use Rattle.lotos_base.specs.Name.{spelling}
use Rattle.lotos_base.specs.Signature.{Sort}
use Rattle.sort_terms.specs.Operations.{sort_of}
use Rattle.sort_terms.specs.declared.operations.Sort.{Sort as CodeSort}
use Rattle.type_presentations.specs.NamesView.{HasNames}
use Rattle.type_presentations.proofs.NameLemmas.{more_names, as_many_names}
use Rattle.type_presentations.proofs.names.NamePositions.of_sorts.Goals as goal

abbrev name_of : Sort → List ℕ
name_of s = s.name

pub loop-number-preserved : goal.loop-number-preserved
loop-number-preserved c =
    subst (λ (ns : List (List ℕ)). HasNames c.add.new.self ns)
    (more_names sort_of name_of c.args.sorts.now c.loop-number.number c.index-sorts-number.result
    _ c.loop-number-test.true c.index-sorts-number.is (ap (λ (s : CodeSort). spelling s.name) (sym c.index-sorts-number.is)))
    (c.in_ok-add.ensures _ c.loop-number.invariant
    (as_many_names sort_of name_of c.args.sorts.now c.loop-number.number (omega (arith, c.loop-number-test.true))))

pub returns : goal.returns
returns c =
    let all : c.loop-number.number ≡ length c.args.sorts.now = omega arith in
    subst (λ (ss : List CodeSort). HasNames c.loop-number.names (map name_of (map sort_of ss)))
    (take_whole c.args.sorts.now c.loop-number.number all) c.loop-number.invariant
