use Rattle.lotos_base.specs.Equation.{Data}
use Rattle.lotos_base.specs.Term.{Term}
use Rattle.behaviour_semantics.specs.Menu.{Meets}
use Rattle.behaviour_semantics.specs.Rule.{AreValues}
use Rattle.behaviour_tree.specs.BehaviourView.{terms_of}
use Rattle.menu_builder.specs.HandedOn.{plain_entry, IsEntryOf}
use Rattle.menu_builder.proofs.HandedOn.{holds_after}
use Rattle.session_log.specs.Entries.{AreGiven}
use Rattle.session_log.proofs.CourseLemmas.{unmet_where_refused}
use Rattle.session_log.proofs.courses.moved.Goals as goal

pub unmet_refusal-requires-clause-over : goal.unmet_refusal-requires-clause-over
unmet_refusal-requires-clause-over g c =
    holds_after (λ (d : Data) (k : Term → Term). IsEntryOf d.signature c.args.entry.now) c.take.ensures.same_known c.requires.entry

pub unmet_refusal-requires-clause-given : goal.unmet_refusal-requires-clause-given
unmet_refusal-requires-clause-given g c =
    holds_after (λ (d : Data) (k : Term → Term). AreGiven d.signature c.args.values.now) c.take.ensures.same_known c.requires.given

pub unmet_refusal-requires-clause-sorted : goal.unmet_refusal-requires-clause-sorted
unmet_refusal-requires-clause-sorted g c =
    holds_after (λ (d : Data) (k : Term → Term). AreValues d.signature c.args.entry.now.vars.items (terms_of c.args.values.now))
    c.take.ensures.same_known c.requires.derived.sorted

pub unmet_refusal-requires-clause-unmet : goal.unmet_refusal-requires-clause-unmet
unmet_refusal-requires-clause-unmet g c =
    holds_after (λ (d : Data) (k : Term → Term). Meets d (plain_entry c.args.entry.now) (terms_of c.args.values.now) → ⊥)
    c.take.ensures.same_known
    (unmet_where_refused (g.D.Deciding.known_data c.args.data.now) (g.D.Deciding.canon c.args.data.now) c.args.spec.now c.args.state.now
    c.args.entry.now c.args.values.now c.args.derivation.now c.in-Err.fault c.requires.free
    c.in-Err.ensures.answer c.in_default.not-NoMemory)
