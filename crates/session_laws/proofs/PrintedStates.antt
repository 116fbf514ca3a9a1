-- The states of a session are printed on one line.
use Rattle.std.proofs.Common.{◌≡◌, ◌⊎◌, inl, inr, ℕ, suc, ◌+◌, ◌<◌, ◌≤◌, Bool, true, false, ◌||◌, cond, if◌then◌else◌, nat_eq, nat_lt, nat_le, List, [], ◌∷◌, length, codes, refl, sym, subst, arith, lt-ltb, eqb-true, ltb-true}
use Rattle.std.specs.Prelude.{◌==◌}
use Rattle.std.specs.Char.{is_ascii_alphanumeric}
use Rattle.std.specs.Int.{is_in_range}
use Rattle.std.specs.List.{list_any, list_all, prefix_len}
use Rattle.std.proofs.lemmas.Bool.{and_parts, and_from, or_cases, leb-true}
use Rattle.lotos_base.specs.Signature.{Sort, Operation}
use Rattle.lotos_lexer.specs.Bytes.{is_sign}
use Rattle.lotos_lexer.specs.Lexemes.{underscore_before, word_length}
use Rattle.behaviour_semantics.specs.Behaviour.{Behaviour, Process, Specification}
use Rattle.behaviour_semantics.specs.Run.{Reaches}
use Rattle.behaviour_semantics.specs.WellFormed.{Every}
use Rattle.behaviour_semantics.proofs.ListLemmas.{Every-weaker, Every-among, Every-append}
use Rattle.behaviour_semantics.proofs.EveryLemmas.{every_from}
use Rattle.lotos_top.specs.HandedOn.{Beginning, Standing, IsReached, Acceptance}
use Rattle.lotos_top.specs.Opening.{SessionBegins}
use Rattle.session_histories.specs.Lawful.{LeadTo}
use Rattle.session_histories.specs.Session.{Situation, derivations_of}
use Rattle.session_histories.specs.SessionLaws.{SessionsFollowDerivations}
use Rattle.session_laws.specs.TextNames.{IsWordSpelling, IsOperationSpelling}
use Rattle.session_histories.specs.BoundNames.{bound_names, names_in_bodies, names_at_hand, MovesKeepNames}
use Rattle.session_histories.specs.StateTexts.{StateTextsAreOfNames}
use Rattle.session_histories.specs.TextBytes.{AllPass, is_printable}
use Rattle.printed_texts.specs.BehaviourText.{state_text}
use Rattle.session_histories.proofs.MovedNames.{each_so}
use Rattle.session_laws.proofs.PlainNames.{under_shorter}
use Rattle.session_laws.specs.AcceptedNames.{HasAcceptedNames, AcceptedNamesAreOfText}
use Rattle.session_laws.specs.PrintedStates.{IsNamedProcess, HasNamedDefinitions, AcceptedDefinitionsAreNamed, IsPrintedLine, StatesPrintOnOneLine}
use Rattle.session_laws.proofs.AcceptedParts.{StandsOn, accepted_on}
use Rattle.session_laws.proofs.BoundSpellings.{IsNamedSpecification, specification_binds}
use Rattle.session_laws.proofs.TokenSpellings.{tokens_spelled}
use Rattle.session_laws.proofs.VariableSpellings.{IsTreeNamed, specification_named}

-- ---- The definitions of an accepted specification

pub accepted_definitions_are_named : AcceptedDefinitionsAreNamed
accepted_definitions_are_named asked files acceptance is =
    let on : StandsOn acceptance.data_ acceptance.spec = accepted_on asked files acceptance is in
    let spelled : IsTreeNamed on.tree =
    specification_named on.text on.is_text.1.tokens on.tree on.is_text.1.sentence
    (tokens_spelled 0 on.text on.is_text.1.tokens on.is_text.1.cut_into) in
    let named : IsNamedSpecification acceptance.spec =
    specification_binds acceptance.data_.signature on.tree acceptance.spec on.stands_for spelled in
    record { name = named.name; variables = named.variables; processes = named.processes }

-- ---- Names are printable

within : (low high byte : ℕ) → 31 < low → high < 127 → is_in_range low high byte ≡ true → is_printable byte ≡ true
within low high byte above below is =
    let parts = and_parts (nat_le low byte) (nat_le byte high) is in
    let from : low ≤ byte = leb-true low byte parts.0 in
    let to : byte ≤ high = leb-true byte high parts.1 in
    and_from (nat_lt 31 byte) (nat_lt byte 127) (lt-ltb 31 byte (omega (arith, from, above)))
    (lt-ltb byte 127 (omega (arith, to, below)))

letter_printable : (byte : ℕ) → is_ascii_alphanumeric byte ≡ true → is_printable byte ≡ true
letter_printable byte is =
    by (or_cases (is_in_range 48 57 byte || is_in_range 65 90 byte) (is_in_range 97 122 byte) is)
  where
    first : (is_in_range 48 57 byte ≡ true) ⊎ (is_in_range 65 90 byte ≡ true) → is_printable byte ≡ true
    first (inl digit) = within 48 57 byte (omega arith) (omega arith) digit
    first (inr upper) = within 65 90 byte (omega arith) (omega arith) upper

    by : ((is_in_range 48 57 byte || is_in_range 65 90 byte) ≡ true) ⊎ (is_in_range 97 122 byte ≡ true) → is_printable byte ≡ true
    by (inl either) = first (or_cases (is_in_range 48 57 byte) (is_in_range 65 90 byte) either)
    by (inr lower) = within 97 122 byte (omega arith) (omega arith) lower

-- a byte that a list of printable ones has
listed_printable : (signs : List ℕ) → list_all is_printable signs ≡ true → (byte : ℕ) → list_any (λ sign. sign == byte) signs ≡ true
    → is_printable byte ≡ true
listed_printable [] all byte is = absurd (cc is)
listed_printable (sign ∷ signs) all byte is =
    let parts = and_parts (is_printable sign) (list_all is_printable signs) all in
    by parts.0 (listed_printable signs parts.1 byte) (or_cases (sign == byte) (list_any (λ s. s == byte) signs) is)
  where
    by : is_printable sign ≡ true → (list_any (λ s. s == byte) signs ≡ true → is_printable byte ≡ true)
        → ((sign == byte) ≡ true) ⊎ (list_any (λ s. s == byte) signs ≡ true) → is_printable byte ≡ true
    by here rest (inl same) = subst (λ (it : ℕ). is_printable it ≡ true) (eqb-true sign byte same) here
    by here rest (inr later) = rest later

sign_printable : (byte : ℕ) → is_sign byte ≡ true → is_printable byte ≡ true
sign_printable byte is = listed_printable (codes "#%&*+-./<=>@\\^~{}") refl byte is

word_printable : (name : List ℕ) → word_length name ≡ length name → AllPass is_printable name
word_printable [] whole = tt
word_printable (b ∷ bs) whole = by (is_ascii_alphanumeric b) refl (b == 95) refl whole (word_printable bs)
  where
    by : (letter : Bool) → is_ascii_alphanumeric b ≡ letter → (line : Bool) → (b == 95) ≡ line
        → (if letter then suc (word_length bs) else (if line then underscore_before (word_length bs) else 0)) ≡ suc (length bs)
        → (word_length bs ≡ length bs → AllPass is_printable bs) → AllPass is_printable (b ∷ bs)
    by true letter line is_line whole rest = (letter_printable b letter, rest (omega (arith, whole)))
    by false letter true is_line whole rest = (
      subst (λ (it : ℕ). is_printable it ≡ true) (sym (eqb-true b 95 is_line)) refl,
      rest (under_shorter (word_length bs) (length bs) whole),
    )
    by false letter false is_line whole rest = absurd (omega (arith, whole))

run_printable : (name : List ℕ) → prefix_len is_sign name ≡ length name → AllPass is_printable name
run_printable [] whole = tt
run_printable (b ∷ bs) whole = by (is_sign b) refl whole (run_printable bs)
  where
    by : (sign : Bool) → is_sign b ≡ sign → cond sign (1 + prefix_len is_sign bs) 0 ≡ suc (length bs)
        → (prefix_len is_sign bs ≡ length bs → AllPass is_printable bs) → AllPass is_printable (b ∷ bs)
    by true sign whole rest = (sign_printable b sign, rest (omega (arith, whole)))
    by false sign whole rest = absurd (omega (arith, whole))

word_name : (name : List ℕ) → IsWordSpelling name → AllPass is_printable name
word_name name is = word_printable name is.whole

operation_name : (name : List ℕ) → IsOperationSpelling name → AllPass is_printable name
operation_name name (inl is) = word_printable name is.whole
operation_name name (inr (inl is)) = word_printable name is.whole
operation_name name (inr (inr is)) = run_printable name is.whole

-- ---- One line

-- printable characters have no code below 32
no_such : (code : ℕ) → code < 32 → (text : List ℕ) → AllPass is_printable text → list_any (nat_eq code) text ≡ false
no_such code small [] all = refl
no_such code small (byte ∷ text) all = by (nat_eq code byte) refl (no_such code small text all.1)
  where
    by : (b : Bool) → nat_eq code byte ≡ b → list_any (nat_eq code) text ≡ false → (b || list_any (nat_eq code) text) ≡ false
    by true same rest =
        let above : 31 < byte = ltb-true 31 byte (and_parts (nat_lt 31 byte) (nat_lt byte 127) all.0).0 in
        let equal : code ≡ byte = eqb-true code byte same in
        absurd (omega (arith, equal, small, above))
    by false other rest = rest

printed_line : (text : List ℕ) → AllPass is_printable text → IsPrintedLine text
printed_line text all = record {
  printable = all;
  on_one_line = record { no_line_feed = no_such 10 (omega arith) text all; no_return = no_such 13 (omega arith) text all };
}

-- ---- States

names_of_bodies : (processes : List Process) → Every IsNamedProcess processes → Every IsWordSpelling (names_in_bodies processes)
names_of_bodies [] all = tt
names_of_bodies (p ∷ processes) all =
    Every-append IsWordSpelling (bound_names p.body) (names_in_bodies processes) all.0.variables (names_of_bodies processes all.1)

module _ (keep : MovesKeepNames) (follow : SessionsFollowDerivations) (begun : Beginning) (standing : Standing)
    (is : IsReached begun standing) where
  abbrev first : Behaviour
  first = begun.progress.situation.state

  abbrev processes : List Process
  processes = begun.basis.specification.processes

  reached :
      Reaches begun.basis.data_ begun.basis.canon processes first (derivations_of standing.progress.steps)
      standing.progress.situation.state
  reached =
      follow.kept begun.basis begun.progress.situation standing.progress.situation standing.progress.steps
      (subst (λ (it : Situation). LeadTo begun.basis it standing.progress.steps standing.progress.situation) is.start is.lawful.steps)

  state_named : Every IsWordSpelling (names_at_hand processes first)
      → Every IsWordSpelling (bound_names standing.progress.situation.state)
  state_named all =
      each_so IsWordSpelling (bound_names standing.progress.situation.state)
      (λ name there_. Every-among IsWordSpelling (names_at_hand processes first) name all
      (keep.reached begun.basis.data_ begun.basis.canon processes first (derivations_of standing.progress.steps)
      standing.progress.situation.state name reached there_))

-- the names at hand where the session of an accepted specification begins
pub at_hand : MovesKeepNames → (acceptance : Acceptance) (begun : Beginning) → SessionBegins acceptance begun
    → HasNamedDefinitions acceptance
    → Every IsWordSpelling (names_at_hand begun.basis.specification.processes begun.progress.situation.state)
at_hand keep acceptance begun begins has =
    subst (λ (it : Specification). Every IsWordSpelling (names_at_hand it.processes begun.progress.situation.state))
    (sym begins.specification_is)
    (subst (λ (it : Behaviour). Every IsWordSpelling (names_at_hand acceptance.spec.processes it)) (sym begins.state_is)
    (Every-append IsWordSpelling _ (names_in_bodies acceptance.spec.processes)
    (subst (Every IsWordSpelling) (sym (keep.closed _ acceptance.spec.body)) has.variables)
    (names_of_bodies acceptance.spec.processes has.processes)))

pub states_print_on_one_line : AcceptedNamesAreOfText → AcceptedDefinitionsAreNamed → SessionsFollowDerivations → MovesKeepNames
    → StateTextsAreOfNames → StatesPrintOnOneLine
states_print_on_one_line names defined follow keep texts asked files acceptance begun standing accepted begins is =
    let named : HasAcceptedNames acceptance = names asked files acceptance accepted in
    let has : HasNamedDefinitions acceptance = defined asked files acceptance accepted in
    printed_line (state_text acceptance.data_.signature acceptance.spec standing.progress.situation.state)
    (texts.passed is_printable acceptance.data_.signature acceptance.spec standing.progress.situation.state (λ byte fine. fine) (record {
      sorts =
          every_from (λ (s : Sort). AllPass is_printable s.name) acceptance.data_.signature.sorts
          (λ k s at. word_name s.name (named.signature.sorts k s at));
      operations =
          every_from (λ (o : Operation). AllPass is_printable o.name) acceptance.data_.signature.operations
          (λ k o at. operation_name o.name (named.signature.operations k o at));
      gates = Every-weaker IsWordSpelling (AllPass is_printable) word_name acceptance.spec.gate_names named.gates;
      processes =
          Every-weaker IsNamedProcess (λ (p : Process). AllPass is_printable p.name) (λ p it. word_name p.name it.name)
          acceptance.spec.processes has.processes;
      variables =
          Every-weaker IsWordSpelling (AllPass is_printable) word_name (bound_names standing.progress.situation.state)
          (state_named keep follow begun standing is (at_hand keep acceptance begun begins has));
    }))
