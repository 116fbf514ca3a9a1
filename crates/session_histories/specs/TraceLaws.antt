-- The trace of a session, replayed from its first situation, leads to that session.
use Rattle.std.specs.Prelude.{◌≡◌, ◌≢◌, ◌<◌, ℕ, List, [], false, codes}
use Rattle.std.specs.List.{list_any}
use Rattle.lotos_base.specs.WrittenTerm.{WrittenTerm}
use Rattle.lotos_lexer.specs.Bytes.{is_blank}
use Rattle.tree_building.specs.Reading.{IsTermsReading}
use Rattle.lotos_base.specs.Signature.{Signature, Sort, Operation}
use Rattle.lotos_base.specs.Term.{Term}
use Rattle.behaviour_semantics.specs.Behaviour.{Behaviour}
use Rattle.behaviour_semantics.specs.Rule.{AreValues}
use Rattle.behaviour_semantics.specs.WellFormed.{Every}
use Rattle.printed_texts.specs.Brackets.{commas}
use Rattle.printed_texts.specs.MenuText.{term_texts}
use Rattle.session_histories.specs.Session.{SessionBasis, Item, Situation, PastStep, items_of}
use Rattle.session_histories.specs.Lawful.{IsSituation, LeadTo}
use Rattle.session_histories.specs.Replay.{AreRead, LinesOutcome, ReplayRefusal, ReplayIs, goes_on}
use Rattle.session_histories.specs.SessionLaws.{IsStateOver}
use Rattle.session_histories.specs.TraceText.{trace_text, plain_trace}
use Rattle.session_histories.specs.BoundNames.{names_in_bodies}
use Rattle.session_histories.specs.StateTexts.{HaveNames}
use Rattle.session_histories.specs.TextBytes.{IsOnOneLine}

-- A name without blanks, and other than `=>`, which is the sign of a premiss and no name.
pub record IsPlainName (name : List ℕ) : Type 0 where
  pub no_blank : list_any is_blank name ≡ false
  pub no_arrow : name ≢ codes "=>"

-- The names that stand in the texts of terms and labels are such names.
pub record HavePlainNames (basis : SessionBasis) : Type 0 where
  pub sorts : Every (λ (s : Sort). IsPlainName s.name) basis.data_.signature.sorts
  pub operations : Every (λ (o : Operation). IsPlainName o.name) basis.data_.signature.operations
  pub gates : Every IsPlainName basis.specification.gate_names

-- The text of the values is read as terms that have, at the sorts of the values, these values as their one reading.
abbrev pub ReadBack : Signature → List ℕ → List Term → Type 0
ReadBack signature sorts values =
    (terms : List WrittenTerm) × IsTermsReading 0 (commas (term_texts signature values)) terms × AreRead signature sorts terms values

-- The item can be read from its line: its number has ten digits at most, and its values are read back.
pub record IsReadable (basis : SessionBasis) (item : Item) : Type 0 where
  pub number : item.number < 10000000000
  pub values : (sorts : List ℕ) → AreValues basis.data_.signature sorts item.values → ReadBack basis.data_.signature sorts item.values

-- A lawful session whose trace can be read: its steps, from the first situation to the last.
pub record IsTraceable (basis : SessionBasis) (first last : Situation) (steps : List PastStep) : Type 0 where
  pub start : IsSituation basis first
  pub lead : LeadTo basis first steps last
  pub names : HavePlainNames basis
  pub items : Every (IsReadable basis) (items_of steps)

-- The states of a session from this one on can be kept in lines: each name that may stand in one of them stands on one line, and so
-- does that of the specification, which has a byte.
pub record HaveLineNames (basis : SessionBasis) (first : Behaviour) : Type 0 where
  pub name : IsOnOneLine basis.specification.name
  pub named : basis.specification.name ≢ []
  pub states : HaveNames IsOnOneLine basis.data_.signature basis.specification first
  pub bodies : Every IsOnOneLine (names_in_bodies basis.specification.processes)

-- the trace of a session that these steps lead to, and that of format 1
abbrev pub trace_of : SessionBasis → Situation → List PastStep → List ℕ
trace_of basis last steps = trace_text basis.data_.signature basis.specification (record { situation = last; steps = steps })

abbrev pub plain_trace_of : SessionBasis → List PastStep → List ℕ
plain_trace_of basis steps = plain_trace basis.data_.signature basis.specification.gate_names (items_of steps)

-- the text is replayed to the session, and comes to nothing else
pub record LeadsBack (basis : SessionBasis) (first last : Situation) (steps : List PastStep) (text : List ℕ) : Type 0 where
  pub replayed : ReplayIs basis first text (goes_on (record { situation = last; steps = steps }))
  pub alone :
      (outcome : LinesOutcome ReplayRefusal) →
      IsStateOver basis first.state →
      ReplayIs basis first text outcome →
      outcome ≡ goes_on (record { situation = last; steps = steps })

-- The trace of a session leads back to it, and so does that of format 1 with the same steps.
pub record TracesLeadBack : Type 0 where
  pub stated :
      (basis : SessionBasis) (first last : Situation) (steps : List PastStep) →
      IsTraceable basis first last steps →
      HaveLineNames basis first.state →
      LeadsBack basis first last steps (trace_of basis last steps)
  pub plain :
      (basis : SessionBasis) (first last : Situation) (steps : List PastStep) →
      IsTraceable basis first last steps →
      LeadsBack basis first last steps (plain_trace_of basis steps)
