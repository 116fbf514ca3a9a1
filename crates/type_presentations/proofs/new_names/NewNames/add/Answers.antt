use Rattle.std.proofs.Common.{◌+◌, refl, ◌∙◌}
use Rattle.std.proofs.lemmas.List.{length-map}
use Rattle.lotos_base.specs.Name.{spelling}
use Rattle.lotos_base.specs.Signature.{Sort}
use Rattle.syntax_trees.specs.TreeViews.{pair_of}
use Rattle.type_presentations.proofs.NameLemmas.{named_of}
use Rattle.type_definitions.specs.Actualisation.{formal_sorts_of}
use Rattle.type_presentations.specs.PairNames.{new_names}
use Rattle.type_presentations.proofs.PairLemmas.{new_name}
use Rattle.type_presentations.specs.FormalNames.{names_of_formal_sorts, other_pairs}
use Rattle.type_presentations.proofs.ActualLemmas.{more_names, same_others, one_more_other, as_many_others, more_others}
use Rattle.type_presentations.proofs.new_names.NewNames.add.Goals as goal

pub returns-in-Some-clause-names : goal.returns-in-Some-clause-names
returns-in-Some-clause-names c = λ base earlier formals has many.
    let pair = pair_of c.args.pair.now in
    let n =
    named_of (λ (s : Sort). s.name) (formal_sorts_of base) (spelling c.args.pair.now.replaced.1) c.in_ok-formal.formal
    (c.in_ok-formal.ensures (names_of_formal_sorts base) formals) in
    let formal = n.there c.in-Some.field-0 c.in-Some.is in record {
      all = more_names c.add.new.self new_name earlier pair
          (c.in_ok-add.ensures (new_names earlier) has.all (length-map earlier new_name ∙ many));
      others = same_others c.args.self.now.others base earlier pair formal has.others;
      count = as_many_others base earlier pair c.args.self.now.other_count formal has.count;
    }

pub returns-in_ok-add-in-None-clause-names : goal.returns-in_ok-add-in-None-clause-names
returns-in_ok-add-in-None-clause-names c = λ base earlier formals has many.
    let pair = pair_of c.args.pair.now in
    let n =
    named_of (λ (s : Sort). s.name) (formal_sorts_of base) (spelling c.args.pair.now.replaced.1) c.in_ok-formal.formal
    (c.in_ok-formal.ensures (names_of_formal_sorts base) formals) in
    let other = n.none c.in-None.is in record {
      all = more_names c.add.new.self new_name earlier pair
          (c.in_ok-add.ensures (new_names earlier) has.all (length-map earlier new_name ∙ many));
      others = one_more_other c.add-in-None.new.self base earlier pair other
          (c.in_ok-add-in-None.ensures (new_names (other_pairs base earlier)) has.others has.count);
      count = more_others base earlier pair c.args.self.now.other_count (c.args.self.now.other_count + 1) other has.count refl;
    }
