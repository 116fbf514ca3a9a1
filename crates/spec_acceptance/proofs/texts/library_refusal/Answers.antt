use Rattle.std.proofs.Common.{refl, ap, ℕ, Vec, Global}
use Rattle.refusal_lines.specs.HandedOn.library_faults as library
use Rattle.spec_acceptance.specs.declared.not_accepted.NotAccepted.TheVariants.{File, Spec, NoMemory}
use Rattle.spec_acceptance.proofs.KnownLemmas.{refusal_is}
use Rattle.spec_acceptance.proofs.texts.library_refusal.Goals as goal

pub returns-in-TooMany : goal.returns-in-TooMany
returns-in-TooMany c =
    refusal_is c.args.so_far c.args.fault (library.TooMany c.in-TooMany.place c.in-TooMany.name) (Spec c.refused_early.result)
    c.in-TooMany.is
    (ap Spec c.refused_early.ensures)

pub returns-in-Misread : goal.returns-in-Misread
returns-in-Misread c =
    refusal_is c.args.so_far c.args.fault (library.Misread c.in-Misread.text c.in-Misread.fault) (Spec c.refused_early-in-Misread.result)
    c.in-Misread.is (ap Spec c.refused_early-in-Misread.ensures)

pub returns-in-Unread : goal.returns-in-Unread
returns-in-Unread c =
    refusal_is c.args.so_far c.args.fault (library.Unread c.in-Unread.file) (File c.into_bytes.result) c.in-Unread.is
    (c.into_bytes.result, refl, ap (λ (v : Vec ℕ Global). v.items) c.into_bytes.ensures.value)

pub returns : goal.returns
returns c = refusal_is c.args.so_far c.args.fault library.NoMemory NoMemory c.in-NoMemory.is refl
