-- The lines of a trace say what its items are.
use Rattle.std.proofs.Common.{◌≡◌, ◌≢◌, ◌⊎◌, inl, inr, ◌+◌, ◌%◌, ◌<◌, ◌^◌, ℕ, List, [], ◌∷◌, ◌++◌, drop, length, get_or, Bool, true, false, not, ◌||◌, ◌&&◌, nat_eq, nat_lt, nat_le, if◌then◌else◌, Some, None, option_map, codes, decimal, refl, ap, ap₂, sym, ◌∙◌, subst, arith, append_assoc, append-nil, eqb-true, lt-ltb, le-leb, ne_eqb, mod-lt, eq-zero-or-pos, suc-le-suc}
use Rattle.std.specs.List.{list_any, list_all, starts_with}
use Rattle.std.specs.Char.{is_ascii_digit}
use Rattle.std.specs.Str.Parse.{digits_value}
use Rattle.std.proofs.lemmas.Fmt.{decimal_by_steps, decimal_is_IsNumeral, decimal_digit, decimal_nonempty, first_decimal, length-decimal-le}
use Rattle.std.proofs.lemmas.List.Folds.{list_any-append, list_all-append}
use Rattle.std.proofs.lemmas.Bool.{and_from, or_right, and_parts}
use Rattle.lotos_base.specs.Names.{folded}
use Rattle.lotos_base.specs.Signature.{Signature}
use Rattle.lotos_base.specs.Term.{Term}
use Rattle.lotos_base.proofs.Bytes.{bytes_same}
use Rattle.behaviour_semantics.specs.Behaviour.{Behaviour}
use Rattle.behaviour_semantics.specs.Label.{Label}
use Rattle.behaviour_semantics.specs.Listing.{IsAmong}
use Rattle.behaviour_semantics.specs.WellFormed.{Every}
use Rattle.behaviour_semantics.proofs.ListLemmas.{Every-append, Every-among}
use Rattle.printed_texts.specs.BehaviourText.{state_text}
use Rattle.printed_texts.specs.Brackets.{commas}
use Rattle.printed_texts.specs.MenuText.{label_text, term_texts}
use Rattle.session_histories.specs.Session.{SessionBasis, Item, Situation, PastStep, stepped, items_of, first_of}
use Rattle.session_histories.specs.Lawful.{IsSituation, IsLawfulItem, LeadTo}
use Rattle.session_histories.specs.Replay.{LinesOutcome, ReplayRefusal, goes_on, LineComesTo, is_replayed, is_there, LinesComeTo, all_done, one_goes_on, StatedLinesComeTo, all_stated, both_go_on, ComeBehindName, ComeBehind, TraceComesTo, ReplayIs}
use Rattle.session_histories.specs.TraceLaws.{HavePlainNames, IsReadable, ReadBack, HaveLineNames, trace_of}
use Rattle.session_histories.specs.TraceLine.{StepLine, with_byte, around_arrow, first_digits, behind_digits, leads_with_zero, is_number, with_terms, step_with_number, with_arrow, step_line, with_first, lines_of, has_return, kept_state, TraceHeading, of_states, heading_with_name, trace_heading_of}
use Rattle.session_histories.specs.TraceText.{given_text, arrow, step_text, ended, steps_text, plain_trace, trace_heading, line_of_state, stated_steps}
use Rattle.session_histories.specs.BoundNames.{bound_names, names_in_bodies, names_at_hand, MovesKeepNames}
use Rattle.session_histories.specs.StateTexts.{StateTextsAreOfNames}
use Rattle.session_histories.specs.TextBytes.{IsOnOneLine}
use Rattle.session_histories.proofs.LineBytes.{Seen, nothing, see_byte, is_calm, run, Leads, joined, piece, ends_calm, without, no_arrow_begun, no_whole_arrow, decimal_leads, commas_lead, texts_lead, label_leads}

-- ---- Line feeds

-- a line without a line feed is cut off
line_cut : (line more : List ℕ) → list_any (nat_eq 10) line ≡ false → lines_of (line ++ (10 ∷ more)) ≡ line ∷ lines_of more
line_cut [] more h = refl
line_cut (byte ∷ line) more h = by (nat_eq 10 byte) (line_cut line more) h
  where
    by : (b : Bool) → (list_any (nat_eq 10) line ≡ false → lines_of (line ++ (10 ∷ more)) ≡ line ∷ lines_of more)
        → (b || list_any (nat_eq 10) line) ≡ false
        → (if b then [] ∷ lines_of (line ++ (10 ∷ more)) else with_first byte (lines_of (line ++ (10 ∷ more))))
        ≡ (byte ∷ line) ∷ lines_of more
    by true rest k = absurd (cc k)
    by false rest k = ap (with_first byte) (rest k)

pub ended_cut : (line more : List ℕ) → list_any (nat_eq 10) line ≡ false → lines_of (ended line ++ more) ≡ line ∷ lines_of more
ended_cut line more h = ap lines_of (append_assoc line (codes "\n") more) ∙ line_cut line more h

-- ---- The first arrow

-- no arrow begins in calm bytes
not_here : (seen : Seen) (byte : ℕ) (bytes label : List ℕ) → is_calm (run seen (byte ∷ bytes)) ≡ true
    → starts_with nat_eq (byte ∷ (bytes ++ (arrow ++ label))) arrow ≡ false
not_here seen byte [] label h = by (nat_eq 32 byte)
  where
    by : (a : Bool) → (a && false) ≡ false
    by true = refl
    by false = refl
not_here seen byte (second ∷ []) label h = by (nat_eq 32 byte) (nat_eq 61 second)
  where
    by : (a b : Bool) → (a && (b && false)) ≡ false
    by true true = refl
    by true false = refl
    by false b = refl
not_here seen byte (second ∷ third ∷ []) label h = by (nat_eq 32 byte) (nat_eq 61 second) (nat_eq 62 third) refl refl refl
  where
    by : (a b c : Bool) → nat_eq 32 byte ≡ a → nat_eq 61 second ≡ b → nat_eq 62 third ≡ c → (a && (b && (c && (true && true)))) ≡ false
    by true true true p q r = absurd (no_arrow_begun seen byte second third (eqb-true 32 byte p) (eqb-true 61 second q)
        (eqb-true 62 third r) h)
    by true true false p q r = refl
    by true false c p q r = refl
    by false b c p q r = refl
not_here seen byte (second ∷ third ∷ fourth ∷ bytes) label h =
    by (nat_eq 32 byte) (nat_eq 61 second) (nat_eq 62 third) (nat_eq 32 fourth) refl refl refl refl
  where
    by : (a b c d : Bool) → nat_eq 32 byte ≡ a → nat_eq 61 second ≡ b → nat_eq 62 third ≡ c → nat_eq 32 fourth ≡ d
        → (a && (b && (c && (d && true)))) ≡ false
    by true true true true p q r s = absurd (no_whole_arrow seen byte second third fourth bytes (eqb-true 32 byte p)
        (eqb-true 61 second q) (eqb-true 62 third r) (eqb-true 32 fourth s) h)
    by true true true false p q r s = refl
    by true true false d p q r s = refl
    by true false c d p q r s = refl
    by false b c d p q r s = refl

pub arrow_at : (seen : Seen) (text label : List ℕ) → is_calm (run seen text) ≡ true
    → around_arrow (text ++ (arrow ++ label)) ≡ Some (record { before = text; behind = label })
arrow_at seen [] label h = refl
arrow_at seen (byte ∷ text) label h =
    ap (λ (b : Bool). if b then Some (record { before = []; behind = drop 3 (text ++ (arrow ++ label)) })
    else option_map (with_byte byte) (around_arrow (text ++ (arrow ++ label)))) (not_here seen byte text label h)
    ∙ ap (option_map (with_byte byte)) (arrow_at (see_byte seen byte) text label h)

-- ---- Numbers

digit_glyph : (d : ℕ) → d < 10 → is_ascii_digit (48 + d) ≡ true
digit_glyph d h = and_from (nat_le 48 (48 + d)) (nat_le (48 + d) 57) (le-leb 48 (48 + d) (omega arith))
    (le-leb (48 + d) 57 (omega (arith, h)))

all_digits : (n : ℕ) → n < 2 ^ 64 → list_all is_ascii_digit (decimal n) ≡ true
all_digits n small =
    decimal_by_steps (λ n ds. list_all is_ascii_digit ds ≡ true)
    (λ n h. and_from (is_ascii_digit (48 + n)) true (digit_glyph n h) refl)
    (λ n ds le h. list_all-append is_ascii_digit ds ((48 + n % 10) ∷ [])
    ∙ and_from (list_all is_ascii_digit ds) (is_ascii_digit (48 + n % 10) && true) h
    (and_from (is_ascii_digit (48 + n % 10)) true (digit_glyph (n % 10) (mod-lt n (omega arith))) refl)) n small

-- bytes that are all digits, before others
digits_first : (digits more : List ℕ) → list_all is_ascii_digit digits ≡ true → first_digits more ≡ []
    → first_digits (digits ++ more) ≡ digits
digits_first [] more h none = none
digits_first (digit ∷ digits) more h none =
    let all : (is_ascii_digit digit ≡ true) × (list_all is_ascii_digit digits ≡ true) =
    and_parts (is_ascii_digit digit) (list_all is_ascii_digit digits) h in
    ap (λ (b : Bool). if b then digit ∷ first_digits (digits ++ more) else []) all.0
    ∙ ap (λ (it : List ℕ). digit ∷ it) (digits_first digits more all.1 none)

pub all_are_digits : (text : List ℕ) → list_all is_ascii_digit (first_digits text) ≡ true
all_are_digits [] = refl
all_are_digits (byte ∷ bytes) = by (is_ascii_digit byte) refl (all_are_digits bytes)
  where
    by : (b : Bool) → is_ascii_digit byte ≡ b → list_all is_ascii_digit (first_digits bytes) ≡ true
        → list_all is_ascii_digit (if b then byte ∷ first_digits bytes else []) ≡ true
    by true e rest = ap (λ (b : Bool). b && list_all is_ascii_digit (first_digits bytes)) e ∙ rest
    by false e rest = refl

digits_behind : (digits more : List ℕ) → list_all is_ascii_digit digits ≡ true → behind_digits more ≡ more
    → behind_digits (digits ++ more) ≡ more
digits_behind [] more h none = none
digits_behind (digit ∷ digits) more h none =
    let all : (is_ascii_digit digit ≡ true) × (list_all is_ascii_digit digits ≡ true) =
    and_parts (is_ascii_digit digit) (list_all is_ascii_digit digits) h in
    ap (λ (b : Bool). if b then behind_digits (digits ++ more) else digit ∷ (digits ++ more)) all.0
    ∙ digits_behind digits more all.1 none

no_zero : (digits : List ℕ) → 48 < get_or digits 0 0 → leads_with_zero digits ≡ false
no_zero [] h = refl
no_zero (digit ∷ digits) h = ne_eqb digit 48 (λ e. omega (arith, e, h))

number_form : (n : ℕ) → n < 10000000000 → n < 2 ^ 64 → is_number (decimal n) ≡ true
number_form n small wide =
    and_from (nat_lt 0 (length (decimal n)) && nat_lt (length (decimal n)) 11)
    (nat_eq (length (decimal n)) 1 || not (leads_with_zero (decimal n)))
    (and_from (nat_lt 0 (length (decimal n))) (nat_lt (length (decimal n)) 11) (lt-ltb 0 (length (decimal n)) (decimal_nonempty n wide))
    (lt-ltb (length (decimal n)) 11 (suc-le-suc (length-decimal-le 10 n (omega arith) small wide))))
    (by n (eq-zero-or-pos n) wide)
  where
    by : (n : ℕ) → (n ≡ 0) ⊎ (0 < n) → n < 2 ^ 64
        → (nat_eq (length (decimal n)) 1 || not (leads_with_zero (decimal n))) ≡ true
    by n (inl nought) wide =
        ap (λ (it : List ℕ). nat_eq (length it) 1 || not (leads_with_zero it)) (ap decimal nought ∙ decimal_digit 0 (omega arith))
    by n (inr some) wide =
        or_right (nat_eq (length (decimal n)) 1) (not (leads_with_zero (decimal n)))
        (ap not (no_zero (decimal n) (first_decimal n some wide)))

-- ---- The line of a step

abbrev said_by : Signature → List (List ℕ) → Item → StepLine
said_by signature gates item = record {
  number = item.number;
  terms = commas (term_texts signature item.values);
  label = label_text signature gates item.label;
}

given_first : (signature : Signature) (values : List Term) → first_digits (given_text signature values) ≡ []
given_first signature [] = refl
given_first signature (value ∷ values) = refl

given_behind : (signature : Signature) (values : List Term) → behind_digits (given_text signature values) ≡ given_text signature values
given_behind signature [] = refl
given_behind signature (value ∷ values) = refl

given_terms : (signature : Signature) (number : ℕ) (values : List Term) (label : List ℕ)
    → with_terms number (given_text signature values) label
    ≡ Some (record { number = number; terms = commas (term_texts signature values); label = label })
given_terms signature number [] label = refl
given_terms signature number (value ∷ values) label = refl

module _ (basis : SessionBasis) (plain : HavePlainNames basis) where
  given_leads : (values : List Term) → Leads is_calm is_calm (given_text basis.data_.signature values)
  given_leads [] = record { leads = λ seen e. e }
  given_leads (value ∷ values) =
      joined (codes " ") (commas (term_texts basis.data_.signature (value ∷ values))) (piece (codes " ") refl refl refl)
      (commas_lead (term_texts basis.data_.signature (value ∷ values))
      (texts_lead basis.data_.signature plain.sorts plain.operations (value ∷ values)))

  -- the bytes before the arrow, and those of the label
  before_calm : (item : Item) → is_calm (run nothing (decimal item.number ++ given_text basis.data_.signature item.values)) ≡ true
  before_calm item =
      (joined (decimal item.number) (given_text basis.data_.signature item.values)
      (ends_calm (decimal item.number) (decimal_leads item.number)) (given_leads item.values)).leads nothing refl

  label_calm : (label : Label) → is_calm (run nothing (label_text basis.data_.signature basis.specification.gate_names label)) ≡ true
  label_calm label =
      (label_leads basis.data_.signature plain.sorts plain.operations basis.specification.gate_names plain.gates label).leads nothing
      refl

  line_without : (code : ℕ) → list_any (nat_eq code) arrow ≡ false
      → ((bytes : List ℕ) → is_calm (run nothing bytes) ≡ true → list_any (nat_eq code) bytes ≡ false) → (item : Item)
      → list_any (nat_eq code) (step_text basis.data_.signature basis.specification.gate_names item) ≡ false
  line_without code no_arrow none item =
      let before : List ℕ = decimal item.number ++ given_text basis.data_.signature item.values in
      let label : List ℕ = label_text basis.data_.signature basis.specification.gate_names item.label in
      list_any-append (nat_eq code) (before ++ arrow) label
      ∙ neither (list_any (nat_eq code) (before ++ arrow)) (list_any (nat_eq code) label)
      (list_any-append (nat_eq code) before arrow
      ∙ neither (list_any (nat_eq code) before) (list_any (nat_eq code) arrow) (none before (before_calm item)) no_arrow)
      (none label (label_calm item.label))
    where
      neither : (a b : Bool) → a ≡ false → b ≡ false → (a || b) ≡ false
      neither true b e k = absurd (cc e)
      neither false b e k = k

  pub line_ends : (item : Item)
      → list_any (nat_eq 10) (step_text basis.data_.signature basis.specification.gate_names item) ≡ false
  line_ends item = line_without 10 refl (without 10 refl nothing) item

  pub line_says : (item : Item) → item.number < 10000000000
      → step_line (step_text basis.data_.signature basis.specification.gate_names item)
      ≡ Some (said_by basis.data_.signature basis.specification.gate_names item)
  line_says item small =
      let digits : List ℕ = decimal item.number in
      let given : List ℕ = given_text basis.data_.signature item.values in
      let label : List ℕ = label_text basis.data_.signature basis.specification.gate_names item.label in
      let wide : item.number < 2 ^ 64 = omega (arith, small) in
      let all : list_all is_ascii_digit digits ≡ true = all_digits item.number wide in
      ap (λ (b : Bool). if b then None else with_arrow (around_arrow (digits ++ given ++ arrow ++ label)))
      (line_without 13 refl (without 13 refl nothing) item)
      ∙ (ap (λ (it : List ℕ). with_arrow (around_arrow it)) (append_assoc (digits ++ given) arrow label)
      ∙ (ap with_arrow (arrow_at nothing (digits ++ given) label (before_calm item))
      ∙ (ap₂ (λ (it rest : List ℕ). step_with_number it rest label)
      (digits_first digits given all (given_first basis.data_.signature item.values))
      (digits_behind digits given all (given_behind basis.data_.signature item.values))
      ∙ (ap (λ (b : Bool). if b then with_terms (digits_value 10 digits) given label else None) (number_form item.number small wide)
      ∙ (ap (λ (n : ℕ). with_terms n given label) (decimal_is_IsNumeral item.number wide).1
      ∙ given_terms basis.data_.signature item.number item.values label)))))

  -- ---- The lines of a trace

  abbrev item_lines : List PastStep → List ℕ
  item_lines steps = steps_text basis.data_.signature basis.specification.gate_names (items_of steps)

  one_line : (first next : Situation) (done : List PastStep) (item : Item) → IsLawfulItem basis first item next.state
      → IsSituation basis next → IsReadable basis item
      → LineComesTo basis (record { situation = first; steps = done })
      (step_text basis.data_.signature basis.specification.gate_names item)
      (goes_on (stepped (record { situation = first; steps = done }) item next))
  one_line first next done item lawful menu readable =
      let back : ReadBack basis.data_.signature lawful.entry.variables item.values =
      readable.values lawful.entry.variables lawful.meets.sorted in
      is_replayed (said_by basis.data_.signature basis.specification.gate_names item) lawful.entry item.values item.label
      (stepped (record { situation = first; steps = done }) item next)
      (record {
        terms = back.0;
        is_line = record { form = line_says item readable.number; read = back.1 };
        listed = lawful.listed;
        read = back.2;
      })
      (record {
        item = item;
        next = next;
        numbered = refl;
        valued = refl;
        labelled = refl;
        lawful = lawful;
        menu = menu;
        appended = refl;
      }) refl

  pub item_lines_lead : (number : ℕ) (first last : Situation) (done steps : List PastStep) → LeadTo basis first steps last
      → Every (IsReadable basis) (items_of steps)
      → LinesComeTo basis number (record { situation = first; steps = done }) (lines_of (item_lines steps))
      (goes_on (record { situation = last; steps = done ++ steps }))
  item_lines_lead number first last done [] h readable =
      subst (λ (it : Situation). LinesComeTo basis number (record { situation = first; steps = done }) []
      (goes_on (record { situation = it; steps = done ++ [] }))) h
      (subst (λ (it : List PastStep). LinesComeTo basis number (record { situation = first; steps = done }) []
      (goes_on (record { situation = first; steps = it }))) (sym (append-nil done)) all_done)
  item_lines_lead number first last done (step ∷ steps) h readable =
      let here : PastStep = record { item = step.item; before = first } in
      let same : here ≡ step = λ i. record { item = step.item; before = sym h.0 i } in
      let rest : LinesComeTo basis (number + 1) (record { situation = h.1; steps = done ++ (here ∷ []) }) (lines_of (item_lines steps))
      (goes_on (record { situation = last; steps = done ++ (here ∷ []) ++ steps })) =
      item_lines_lead (number + 1) h.1 last (done ++ (here ∷ [])) steps h.4 readable.1 in
      subst (λ (it : List PastStep). LinesComeTo basis number (record { situation = first; steps = done })
      (lines_of (item_lines (step ∷ steps))) (goes_on (record { situation = last; steps = it })))
      (append_assoc done (here ∷ []) steps ∙ ap (λ (it : PastStep). done ++ (it ∷ steps)) same)
      (subst (λ (it : List (List ℕ)). LinesComeTo basis number (record { situation = first; steps = done }) it
      (goes_on (record { situation = last; steps = done ++ (here ∷ []) ++ steps })))
      (sym (ended_cut (step_text basis.data_.signature basis.specification.gate_names step.item) (item_lines steps)
      (line_ends step.item)))
      (one_goes_on (one_line first h.1 done step.item h.2 h.3 readable.0) rest))

  pub plain_leads_back : (first last : Situation) (steps : List PastStep) → LeadTo basis first steps last
      → Every (IsReadable basis) (items_of steps)
      → ReplayIs basis first (plain_trace basis.data_.signature basis.specification.gate_names (items_of steps))
      (goes_on (record { situation = last; steps = steps }))
  plain_leads_back first last steps h readable = item_lines_lead 2 first last [] steps h readable

  -- ---- The lines of steps with their states

  module _ (keep : MovesKeepNames) (texts : StateTextsAreOfNames) (begin : Behaviour) (have : HaveLineNames basis begin) where
    -- the names in the state stand on one line
    abbrev IsKeptInLine : Behaviour → Type 0
    IsKeptInLine state = Every IsOnOneLine (bound_names state)

    each_so : (xs : List (List ℕ)) → ((name : List ℕ) → IsAmong name xs → IsOnOneLine name) → Every IsOnOneLine xs
    each_so [] so = tt
    each_so (x ∷ xs) so = (so x (inl refl), each_so xs (λ name among. so name (inr among)))

    item_keeps : (before : Situation) (item : Item) (next : Behaviour) → IsLawfulItem basis before item next → IsKeptInLine before.state
        → IsKeptInLine next
    item_keeps before item next lawful kept =
        each_so (bound_names next)
        (λ name among. Every-among IsOnOneLine (names_at_hand basis.specification.processes before.state) name
        (Every-append IsOnOneLine (bound_names before.state) (names_in_bodies basis.specification.processes) kept have.bodies)
        (keep.moved basis.data_ basis.canon basis.specification.processes before.state item.derivation item.label next name
        lawful.keeps among))

    state_stands : (state : Behaviour) → IsKeptInLine state
        → IsOnOneLine (state_text basis.data_.signature basis.specification state)
    state_stands state kept =
        texts.on_one_line basis.data_.signature basis.specification state (record {
          sorts = have.states.sorts;
          operations = have.states.operations;
          gates = have.states.gates;
          processes = have.states.processes;
          variables = kept;
        })

    abbrev stated_lines : Situation → List PastStep → List ℕ
    stated_lines last steps = stated_steps basis.data_.signature basis.specification last steps

    -- steps that lead on from a situation are taken there
    taken_there : (next last : Situation) (steps : List PastStep) → LeadTo basis next steps last → first_of last steps ≡ next
    taken_there next last [] h = sym h
    taken_there next last (step ∷ steps) h = h.0

    keeps_state : (state : Behaviour) → IsKeptInLine state
        → kept_state (line_of_state basis.data_.signature basis.specification state)
        ≡ Some (state_text basis.data_.signature basis.specification state)
    keeps_state state kept =
        ap (λ (b : Bool). if b then None else Some (state_text basis.data_.signature basis.specification state))
        (state_stands state kept).no_return

    both_cut : (step : PastStep) (state : Behaviour) (more : List ℕ) → IsKeptInLine state
        → lines_of (ended (step_text basis.data_.signature basis.specification.gate_names step.item)
        ++ (ended (line_of_state basis.data_.signature basis.specification state) ++ more))
        ≡ step_text basis.data_.signature basis.specification.gate_names step.item
        ∷ line_of_state basis.data_.signature basis.specification state ∷ lines_of more
    both_cut step state more kept =
        ended_cut (step_text basis.data_.signature basis.specification.gate_names step.item)
        (ended (line_of_state basis.data_.signature basis.specification state) ++ more) (line_ends step.item)
        ∙ ap (λ (it : List (List ℕ)). step_text basis.data_.signature basis.specification.gate_names step.item ∷ it)
        (ended_cut (line_of_state basis.data_.signature basis.specification state) more (state_stands state kept).no_line_feed)

    stated_lines_lead : (number : ℕ) (first last : Situation) (done steps : List PastStep) → LeadTo basis first steps last
        → Every (IsReadable basis) (items_of steps) → IsKeptInLine first.state
        → StatedLinesComeTo basis number (record { situation = first; steps = done }) (lines_of (stated_lines last steps))
        (goes_on (record { situation = last; steps = done ++ steps }))
    stated_lines_lead number first last done [] h readable kept =
        subst (λ (it : Situation). StatedLinesComeTo basis number (record { situation = first; steps = done }) []
        (goes_on (record { situation = it; steps = done ++ [] }))) h
        (subst (λ (it : List PastStep). StatedLinesComeTo basis number (record { situation = first; steps = done }) []
        (goes_on (record { situation = first; steps = it }))) (sym (append-nil done)) all_stated)
    stated_lines_lead number first last done (step ∷ steps) h readable kept =
        let here : PastStep = record { item = step.item; before = first } in
        let same : here ≡ step = λ i. record { item = step.item; before = sym h.0 i } in
        let again : IsKeptInLine h.1.state = item_keeps first step.item h.1.state h.2 kept in
        let rest : StatedLinesComeTo basis (number + 2) (record { situation = h.1; steps = done ++ (here ∷ []) })
        (lines_of (stated_lines last steps)) (goes_on (record { situation = last; steps = done ++ (here ∷ []) ++ steps })) =
        stated_lines_lead (number + 2) h.1 last (done ++ (here ∷ [])) steps h.4 readable.1 again in
        subst (λ (it : List PastStep). StatedLinesComeTo basis number (record { situation = first; steps = done })
        (lines_of (stated_lines last (step ∷ steps))) (goes_on (record { situation = last; steps = it })))
        (append_assoc done (here ∷ []) steps ∙ ap (λ (it : PastStep). done ++ (it ∷ steps)) same)
        (subst (λ (it : Situation). StatedLinesComeTo basis number (record { situation = first; steps = done })
        (lines_of (ended (step_text basis.data_.signature basis.specification.gate_names step.item)
        ++ (ended (line_of_state basis.data_.signature basis.specification it.state) ++ stated_lines last steps)))
        (goes_on (record { situation = last; steps = done ++ (here ∷ []) ++ steps }))) (sym (taken_there h.1 last steps h.4))
        (subst (λ (it : List (List ℕ)). StatedLinesComeTo basis number (record { situation = first; steps = done }) it
        (goes_on (record { situation = last; steps = done ++ (here ∷ []) ++ steps })))
        (sym (both_cut step h.1.state (stated_lines last steps) again))
        (both_go_on (one_line first h.1 done step.item h.2 h.3 readable.0) (is_there (keeps_state h.1.state again)) rest)))

    -- ---- The first line

    says_name : (name : List ℕ) → name ≢ [] → has_return name ≡ false → trace_heading_of (trace_heading name) ≡ of_states name
    says_name [] some none = absurd (some refl)
    says_name (byte ∷ bytes) some none = ap (λ (b : Bool). heading_with_name (if b then None else Some (byte ∷ bytes))) none

    pub stated_leads_back : (first last : Situation) (steps : List PastStep) → LeadTo basis first steps last
        → Every (IsReadable basis) (items_of steps) → first.state ≡ begin
        → ReplayIs basis first (trace_of basis last steps) (goes_on (record { situation = last; steps = steps }))
    stated_leads_back first last steps h readable begins =
        let name : List ℕ = basis.specification.name in
        let came : LinesOutcome ReplayRefusal = goes_on (record { situation = last; steps = steps }) in
        subst (λ (it : List (List ℕ)). TraceComesTo basis first it came)
        (sym (ended_cut (trace_heading name) (stated_lines last steps) have.name.no_line_feed))
        (subst (λ (it : TraceHeading). ComeBehind basis first it (lines_of (stated_lines last steps)) came)
        (sym (says_name name have.named have.name.no_return))
        (subst (λ (it : Bool). ComeBehindName basis first it name (lines_of (stated_lines last steps)) came)
        (sym (bytes_same (folded name) (folded name) refl))
        (stated_lines_lead 2 first last [] steps h readable
        (subst IsKeptInLine (sym begins) have.states.variables))))
