-- A saved trace is replayed to the session that was saved.
use Rattle.std.proofs.Common.{◌≡◌, inl, inr, ℕ, ◌<◌, ◌≤◌, Bool, true, false, List, [], ◌∷◌, length, Option, None, Some, IsSomeAnd, refl, ap, sym, ◌∙◌, subst, arith}
use Rattle.std.proofs.lemmas.Option.{same_Some}
use Rattle.lotos_base.specs.Counts.{last_count}
use Rattle.lotos_base.specs.Outside.{Texts}
use Rattle.lotos_base.specs.Equation.{Data}
use Rattle.behaviour_semantics.specs.WellFormed.{Every}
use Rattle.line_server.specs.Answered as served
use Rattle.line_server.specs.Answered.{no_line, ended_by, behind_one}
use Rattle.line_server.specs.Machine.{Reply}
use Rattle.line_server.specs.Request.{Request}
use Rattle.session_histories.specs.Session.{SessionBasis, Situation, Progress, first_situation}
use Rattle.session_laws.specs.TextNames.{IsWordSpelling, HasTextNames}
use Rattle.session_laws.specs.TraceReadings.{HasNamesOfText, HasTextTrace, TracesAreReplayed}
use Rattle.session_histories.specs.Lawful.{LeadTo}
use Rattle.session_histories.specs.Replay.{LinesOutcome, ReplayRefusal, ReplayIs, goes_on, stops}
use Rattle.session_histories.specs.TraceLaws.{trace_of}
use Rattle.session_histories.specs.BoundNames.{bound_names, names_in_bodies, names_at_hand, MovesKeepNames}
use Rattle.lotos_top.specs.HandedOn.{Standing, shown_trace, Befallen, SaveComesTo, is_too_long, is_unwritten, is_saved, ReplayComesTo, is_failed, is_missing, is_long, is_refused, is_replayed, trace_limit, HasPut, StandsUnder, saved_text, replayed_text, RequestComesTo, ShelfCounts, SessionPoint, history_machine, Beginning, CanBegin, IsReached, LinesLeadOn, Acceptance}
use Rattle.lotos_top.specs.Opening.{SessionBegins}
use Rattle.behaviour_semantics.specs.Behaviour.{Process, Specification}
use Rattle.behaviour_semantics.proofs.EveryLemmas.{every_front, every_back}
use Rattle.behaviour_semantics.proofs.ListLemmas.{Every-weaker}
use Rattle.session_laws.specs.AcceptedNames.{HasAcceptedNames, AcceptedNamesAreOfText}
use Rattle.session_laws.specs.PrintedStates.{IsNamedProcess, HasNamedDefinitions, AcceptedDefinitionsAreNamed}
use Rattle.session_laws.proofs.PrintedStates.{at_hand}
use Rattle.session_laws.specs.LineBounds.{IsWithinLines, LinesKeepWithin}
use Rattle.session_laws.specs.OneBeginning.{SessionsBeginOnce}
use Rattle.session_laws.specs.SavedTraces.{SessionComesTo, Saves, Replays, ReplaysTo, SavedTracesAreReplayed}

-- ---- What is saved

-- the text under the name is the trace, which is not too long
record HasSaved (standing : Standing) (name : List ℕ) (after : Texts) : Type 0 where
  pub short : length (shown_trace standing.basis standing.progress) ≤ trace_limit
  pub stored : after name ≡ Some (shown_trace standing.basis standing.progress)

put_stores : (before after : Texts) (texts : Option Texts) (name bytes : List ℕ) → HasPut (Some before) texts name bytes
    → texts ≡ Some after → after name ≡ Some bytes
put_stores before after None name bytes put is = absurd put
put_stores before after (Some told) name bytes put is =
    subst (λ (it : Texts). it name ≡ Some bytes) (same_Some told after is) put.stored

abbrev first_byte : List ℕ → ℕ
first_byte [] = 0
first_byte (byte ∷ bytes) = byte

-- the answer `saved` is no other answer
saved_so : (standing : Standing) (before after : Texts) (name : List ℕ) (it : Befallen) → standing.texts ≡ Some before
    → SaveComesTo standing name it → it.reply.text ≡ saved_text name → it.reply.next.texts ≡ Some after → HasSaved standing name after
saved_so standing before after name _ tells (is_too_long long) says left =
    let first : 114 ≡ 115 = ap first_byte says in absurd (omega (arith, first))
saved_so standing before after name _ tells (is_unwritten texts short may) says left =
    let first : 114 ≡ 115 = ap first_byte says in absurd (omega (arith, first))
saved_so standing before after name _ tells (is_saved texts short put) says left = record {
  short = short;
  stored =
      put_stores before after texts name (shown_trace standing.basis standing.progress)
      (subst (λ (it : Option Texts). HasPut it texts name (shown_trace standing.basis standing.progress)) tells put) left;
}

-- ---- Where the sessions stand

reached_on : LinesLeadOn → (begun : Beginning) → CanBegin begun → (before last : SessionPoint) (lines : List (List ℕ)) (text : List ℕ)
    (quits : Bool) → IsReached begun before.standing → served.Answered history_machine before lines text last quits
    → IsReached begun last.standing
reached_on lead begun can before last lines text quits is (no_line _) = is
reached_on lead begun can before last lines text quits is (ended_by _ line rest reply comes ends) =
    subst (IsReached begun) (sym comes.next) (lead.goes_on begun before.standing line comes.it can is comes.comes)
reached_on lead begun can before last lines text quits is (behind_one _ _ line rest reply more _ comes stays later) =
    reached_on lead begun can reply.next last rest more quits
    (subst (IsReached begun) (sym comes.next) (lead.goes_on begun before.standing line comes.it can is comes.comes)) later

record StandsSo (begun : Beginning) (now : SessionPoint) : Type 0 where
  pub reached : IsReached begun now.standing
  pub within : IsWithinLines now.standing.progress

stands_so : LinesKeepWithin → LinesLeadOn → (begun : Beginning) (now : SessionPoint) → CanBegin begun → SessionComesTo begun now
    → StandsSo begun now
stands_so keep lead begun now can to = record {
  reached =
      reached_on lead begun can _ now to.lines to.text false (lead.begins begun to.texts can) to.answered;
  within = keep.lines _ now to.lines to.text false (keep.at_start begun.progress can.at_start) to.answered;
}

-- ---- What is replayed

text_trace : (begun : Beginning) (now : SessionPoint) → CanBegin begun → HasNamesOfText begun.basis begun.progress.situation.state
    → StandsSo begun now
    → HasTextTrace begun.basis begun.progress.situation now.standing.progress.situation now.standing.progress.steps
text_trace begun now can names so = record {
  over = can.over;
  start = can.menu_is;
  lead =
      subst (λ (first : Situation). LeadTo begun.basis first now.standing.progress.steps now.standing.progress.situation) so.reached.start
      so.reached.lawful.steps;
  names = names;
  items = so.within;
}

-- the shelf counted no fault
no_fault : (faulty : Bool) (before after : ℕ) → ShelfCounts faulty before after → before < last_count → after ≡ before → faulty ≡ false
no_fault true before after (inl rose) below same = absurd (omega (arith, rose, same))
no_fault true before after (inr full) below same = absurd (omega (arith, full.0, below))
no_fault false before after counted below same = refl

record CameTo (standing : Standing) (progress : Progress) (it : Befallen) : Type 0 where
  pub session : it.reply.next.progress ≡ progress
  pub text : it.reply.text ≡ replayed_text standing.basis progress
  pub stays : it.reply.quits ≡ false

under : (standing : Standing) (told : Texts) (name bytes text : List ℕ) → standing.texts ≡ Some told → told name ≡ Some bytes
    → StandsUnder standing.texts name text → text ≡ bytes
under standing told name bytes text tells stored stands =
    let is : told name ≡ Some text = subst (λ (it : Option Texts). StandsUnder it name text) tells stands in
    same_Some text bytes (sym is ∙ stored)

abbrev progress_in : Progress → LinesOutcome ReplayRefusal → Progress
progress_in other (goes_on progress) = progress
progress_in other (stops refusal) = other

-- a text that stands under the name, is short and is replayed to one session alone
replayed_so : (standing : Standing) (told : Texts) (name bytes : List ℕ) (progress : Progress) (it : Befallen)
    → standing.texts ≡ Some told → told name ≡ Some bytes → length bytes ≤ trace_limit
    → ((outcome : LinesOutcome ReplayRefusal) → ReplayIs standing.basis (first_situation standing.progress) bytes outcome
    → outcome ≡ goes_on progress)
    → ReplayComesTo standing name it → it.faulty ≡ false → CameTo standing progress it
replayed_so standing told name bytes progress _ tells stored short alone is_failed steady = absurd (cc steady)
replayed_so standing told name bytes progress _ tells stored short alone (is_missing missing) steady =
    let none : told name ≡ None = subst (λ (it : Option Texts). IsSomeAnd it (λ texts. texts name ≡ None)) tells missing in
    absurd (cc (none, stored))
replayed_so standing told name bytes progress _ tells stored short alone (is_long text stands long) steady =
    let same = under standing told name bytes text tells stored stands in
    absurd (omega (arith, short, subst (λ (it : List ℕ). trace_limit < length it) same long))
replayed_so standing told name bytes progress _ tells stored short alone (is_refused text refusal stands within comes) steady =
    let same = under standing told name bytes text tells stored stands in
    let out = alone (stops refusal)
    (subst (λ (it : List ℕ). ReplayIs standing.basis (first_situation standing.progress) it (stops refusal)) same comes) in
    absurd (cc out)
replayed_so standing told name bytes progress _ tells stored short alone (is_replayed text new stands within comes) steady =
    let same = under standing told name bytes text tells stored stands in
    let out = alone (goes_on new)
    (subst (λ (it : List ℕ). ReplayIs standing.basis (first_situation standing.progress) it (goes_on new)) same comes) in
    let session : new ≡ progress = ap (progress_in progress) out in
    record { session = session; text = ap (replayed_text standing.basis) session; stays = refl }

-- ---- From one run to another

module _ (keep : LinesKeepWithin) (lead : LinesLeadOn) (traces : TracesAreReplayed) (begun : Beginning) (can : CanBegin begun)
    (names : HasNamesOfText begun.basis begun.progress.situation.state) (name : List ℕ) (progress : Progress) (saved told : Texts) (reply : Reply SessionPoint)
    (saves : Saves begun name progress saved) (stands : told name ≡ saved name) (replays : Replays begun name told reply) where
  saving : StandsSo begun saves.now
  saving = stands_so keep lead begun saves.now can saves.comes_to

  replaying : StandsSo begun replays.now
  replaying = stands_so keep lead begun replays.now can replays.comes_to

  abbrev bytes : List ℕ
  bytes = trace_of begun.basis saves.now.standing.progress.situation saves.now.standing.progress.steps

  has_saved : HasSaved saves.now.standing name saved
  has_saved =
      saved_so saves.now.standing saves.before saved name saves.comes.it saves.tells
      (subst (λ (request : Request). RequestComesTo saves.now.standing request saves.comes.it) saves.asks saves.comes.comes)
      (sym saves.comes.text ∙ saves.says) (sym (ap (λ (s : Standing). s.texts) saves.comes.next) ∙ saves.leaves)

  is_trace : shown_trace saves.now.standing.basis saves.now.standing.progress ≡ bytes
  is_trace = ap (λ (basis : SessionBasis). shown_trace basis saves.now.standing.progress) saving.reached.basis

  alone : (outcome : LinesOutcome ReplayRefusal)
      → ReplayIs replays.now.standing.basis (first_situation replays.now.standing.progress) bytes outcome
      → outcome ≡ goes_on saves.now.standing.progress
  alone outcome is =
      (traces.stated begun.basis begun.progress.situation saves.now.standing.progress.situation saves.now.standing.progress.steps
      (text_trace begun saves.now can names saving)).alone outcome can.over
      (subst (λ (first : Situation). ReplayIs begun.basis first bytes outcome) replaying.reached.start
      (subst (λ (basis : SessionBasis). ReplayIs basis (first_situation replays.now.standing.progress) bytes outcome)
      replaying.reached.basis is))

  came : CameTo replays.now.standing saves.now.standing.progress replays.comes.it
  came =
      replayed_so replays.now.standing told name bytes saves.now.standing.progress replays.comes.it replays.tells
      (stands ∙ (has_saved.stored ∙ ap (λ (text : List ℕ). Some text) is_trace))
      (subst (λ (text : List ℕ). length text ≤ trace_limit) is_trace has_saved.short) alone
      (subst (λ (request : Request). RequestComesTo replays.now.standing request replays.comes.it) replays.asks replays.comes.comes)
      (no_fault replays.comes.it.faulty replays.now.faults reply.next.faults replays.comes.counted replays.below replays.steady)

  came_back : ReplaysTo begun progress reply
  came_back = record {
    session = ap (λ (s : Standing). s.progress) replays.comes.next ∙ (came.session ∙ saves.progress_is);
    text =
        replays.comes.text
        ∙ (came.text
        ∙ (ap (λ (basis : SessionBasis). replayed_text basis saves.now.standing.progress) replaying.reached.basis
        ∙ ap (replayed_text begun.basis) saves.progress_is));
    stays = replays.comes.quits ∙ came.stays;
  }

names_of : MovesKeepNames → (acceptance : Acceptance) (begun : Beginning) → SessionBegins acceptance begun → HasAcceptedNames acceptance
    → HasNamedDefinitions acceptance → HasNamesOfText begun.basis begun.progress.situation.state
names_of moves acceptance begun begins names defined = record {
  signature = subst (λ (it : Data). HasTextNames it.signature) (sym begins.data_is) names.signature;
  gates = subst (λ (it : Specification). Every IsWordSpelling it.gate_names) (sym begins.specification_is) names.gates;
  name = subst (λ (it : Specification). IsWordSpelling it.name) (sym begins.specification_is) defined.name;
  processes =
      subst (λ (it : Specification). Every (λ (p : Process). IsWordSpelling p.name) it.processes) (sym begins.specification_is)
      (Every-weaker IsNamedProcess (λ (p : Process). IsWordSpelling p.name) (λ p is. is.name) acceptance.spec.processes
      defined.processes);
  bodies = every_back IsWordSpelling (bound_names begun.progress.situation.state) (names_in_bodies begun.basis.specification.processes) all;
  start = every_front IsWordSpelling (bound_names begun.progress.situation.state) (names_in_bodies begun.basis.specification.processes) all;
}
  where
    all : Every IsWordSpelling (names_at_hand begun.basis.specification.processes begun.progress.situation.state)
    all = at_hand moves acceptance begun begins defined

pub saved_traces_are_replayed : LinesKeepWithin → LinesLeadOn → SessionsBeginOnce → AcceptedNamesAreOfText → AcceptedDefinitionsAreNamed
    → MovesKeepNames → TracesAreReplayed → SavedTracesAreReplayed
saved_traces_are_replayed keep lead once named defined moves traces = record {
  replayed = λ asked files acceptance saving replaying name progress saved told reply accepted begins again saves stands replays.
      let same : saving ≡ replaying = once asked files acceptance saving replaying accepted begins again in
      came_back keep lead traces saving begins.can_begin
      (names_of moves acceptance saving begins (named asked files acceptance accepted) (defined asked files acceptance accepted)) name
      progress saved told reply saves stands (subst (λ (begun : Beginning). Replays begun name told reply) (sym same) replays);
}
