use Rattle.std.proofs.Common.{◌∷◌, ◌∙◌}
use Rattle.lotos_base.specs.Name.{spelling}
use Rattle.scope_parts.specs.BindingsView.{bindings_in}
use Rattle.flat_text.proofs.GivenLemmas.{have_same}
use Rattle.flat_text.proofs.GivingLemmas.{kept}
use Rattle.flat_text.proofs.given_names.Giving.keep.Goals as goal

pub returns : goal.returns
returns c = λ earlier taken has.
    let given = kept (bindings_in c.args.self.now.earlier) (bindings_in c.args.self.now.taken) earlier taken (spelling c.args.name.now) has
    c.requires in (
      c.in_ok-copy.ensures ∙ given.0,
      have_same _ _ _ _ (spelling c.args.name.now ∷ earlier) taken _ (spelling c.args.name.now) c.in_ok-bind.ensures.bound
          c.in_ok-bind-2.ensures.bound c.in_ok-copy.ensures given.1,
    )
