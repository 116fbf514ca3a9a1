use Rattle.std.proofs.Common.{◌≡◌, ◌+◌, ◌<◌, ◌≤◌, ℕ, List, [], ◌∷◌, ◌++◌, false, length, take, sym, ap, subst, ◌∙◌, arith}
use Rattle.std.specs.Prelude.{slice_get, None}
use Rattle.std.proofs.lemmas.List.{take_more, length-take-le}
use Rattle.std.proofs.lemmas.Result.{err_from_is_err_and}
use Rattle.lotos_base.specs.Name.{spelling}
use Rattle.lotos_base.specs.Names.{folded}
use Rattle.sort_terms.specs.NameIndex.{numbers_under}
use Rattle.sort_terms.proofs.ScopeLemmas.{pushed_positions}
use Rattle.type_definitions.specs.DeclaredTypes.{is_type_name}
use Rattle.type_definitions.specs.TypeView.{declared_types_of}
use Rattle.type_definitions.specs.declared.type_texts.TypeText.{TypeText}
use Rattle.type_definitions.proofs.NameLemmas.{first_of_name, second_of_name, no_name}
use Rattle.type_definitions.proofs.type_names.index_of_names.Goals as goal

pub returns-in_err-add_name : goal.returns-in_err-add_name
returns-in_err-add_name c =
    let p = err_from_is_err_and c.from_residual.result c.from_residual.ensures.1 in
    let name : List ℕ = folded (spelling c.index-types-number.result.name.now) in
    rw (p.1, p.2)
    (second_of_name c.args.types.now c.loop-number.number c.index-types-number.result
    (slice_get (numbers_under c.loop-number.index name) 0) c.in_err-add_name.field-0.0 c.loop-number-test.true c.index-types-number.is
    (ap (λ (ns : List ℕ). slice_get ns 0) (c.loop-number.invariant.0 name)) c.loop-number.invariant.1 c.in_err-add_name.ensures)

pub loop-number-preserved : goal.loop-number-preserved
loop-number-preserved c =
    let few : c.loop-number.number ≤ length c.args.types.now = omega arith in
    let more : take (c.loop-number.number + 1) c.args.types.now
    ≡ take c.loop-number.number c.args.types.now ++ c.index-types-number.result ∷ [] =
    take_more c.args.types.now c.loop-number.number c.index-types-number.result c.loop-number-test.true
    ∙ ap (λ (x : TypeText). take c.loop-number.number c.args.types.now ++ x ∷ []) (sym c.index-types-number.is) in
    let none : slice_get (numbers_under c.loop-number.index (folded (spelling c.index-types-number.result.name.now))) 0 ≡ None =
    c.in_ok-add_name.ensures.0 in
    let new : is_type_name (declared_types_of (take c.loop-number.number c.args.types.now)) (spelling c.index-types-number.result.name.now)
    ≡ false =
    no_name (spelling c.index-types-number.result.name.now) (take c.loop-number.number c.args.types.now)
    (ap (λ (ns : List ℕ). slice_get ns 0)
    (sym (c.loop-number.invariant.0 (folded (spelling c.index-types-number.result.name.now))))
    ∙ none) in (
      (λ key.
          pushed_positions (λ (x : TypeText). spelling x.name.now) key (take c.loop-number.number c.args.types.now)
          (take (c.loop-number.number + 1) c.args.types.now) c.index-types-number.result _ _ c.loop-number.number more
          (c.loop-number.invariant.0 key) (sym (length-take-le c.loop-number.number c.args.types.now few))
          (c.in_ok-add_name.ensures.1 key)),
      sym
          (first_of_name c.args.types.now c.loop-number.number c.index-types-number.result c.loop-number-test.true
          (subst
          (λ (x : TypeText). is_type_name (declared_types_of (take c.loop-number.number c.args.types.now)) (spelling x.name.now) ≡ false)
          c.index-types-number.is new))
          ∙ c.loop-number.invariant.1,
    )
