use Rattle.std.proofs.Common.{◌≡◌, ◌∙◌, List, ap, sym, subst}
use Rattle.std.proofs.lemmas.Result.{err_from_is_err_and}
use Rattle.type_definitions.specs.Flattened.{without_formals}
use Rattle.type_definitions.specs.Union.{Mentioned}
use Rattle.type_definitions.specs.declared.type_faults.TypeFault.TheVariants.{NoMemory}
use Rattle.type_presentations.specs.MentionView.{mentions_of, AreSoundMentions}
use Rattle.type_presentations.specs.declared.mentions.Mention.{Mention}
use Rattle.type_presentations.specs.PresentedView.{presented_in}
use Rattle.type_flatten.specs.FlatView.{AreNotUnited}
use Rattle.type_flatten.proofs.AllTypesLemmas.{union_is_united, union_fails}
use Rattle.type_flatten.proofs.flattening.united.Goals as goal

wanting : (all : List Mentioned) → AreNotUnited all NoMemory
wanting all = record { found = tt }

informal : (ms listed : List Mention) (all : List Mentioned) → ms ≡ listed → mentions_of listed ≡ without_formals all
    → mentions_of ms ≡ without_formals all
informal ms listed all same are = ap (λ (xs : List Mention). mentions_of xs) same ∙ are

pub returns-in_err-mentions : goal.returns-in_err-mentions
returns-in_err-mentions c =
    let p = err_from_is_err_and c.from_residual.result c.from_residual.ensures.1 in
    rw (p.1, p.2) (wanting (presented_in c.args.types.now))

pub union_of_mentions-requires : goal.union_of_mentions-requires
union_of_mentions-requires c =
    subst (λ (xs : List Mention). AreSoundMentions xs) (sym c.as_slice-joined.ensures.value) c.in_ok-mentions.ensures.sound

pub returns-in_err-union : goal.returns-in_err-union
returns-in_err-union c =
    let p = err_from_is_err_and c.from_residual-in_err-union.result c.from_residual-in_err-union.ensures.1 in
    rw (p.1, p.2)
    (union_fails (presented_in c.args.types.now) (mentions_of c.as_slice-joined.result.now) c.in_err-union.field-0.0
    (informal c.as_slice-joined.result.now c.in_ok-mentions.mentions.items (presented_in c.args.types.now)
    c.as_slice-joined.ensures.value c.in_ok-mentions.ensures.mentions)
    c.in_err-union.ensures)

pub data_of-requires : goal.data_of-requires
data_of-requires c = record { sound = c.in_ok-union.ensures.sound; within = c.in_ok-union.ensures.within }

pub returns-in_err-flat : goal.returns-in_err-flat
returns-in_err-flat c =
    let p = err_from_is_err_and c.from_residual-in_err-flat.result c.from_residual-in_err-flat.ensures.1 in
    rw (p.1, p.2) (wanting (presented_in c.args.types.now))

pub returns : goal.returns
returns c =
    union_is_united (presented_in c.args.types.now) (mentions_of c.as_slice-joined.result.now) c.in_ok-union.union c.in_ok-flat.flat
    (informal c.as_slice-joined.result.now c.in_ok-mentions.mentions.items (presented_in c.args.types.now)
    c.as_slice-joined.ensures.value c.in_ok-mentions.ensures.mentions)
    c.in_ok-union.ensures c.in_ok-flat.ensures
