-- Texts that keep to one line and have no arrow: they are read byte by byte, and what was seen of an arrow is kept.
use Rattle.std.proofs.Common.{◌≡◌, ◌≢◌, ◌+◌, ◌<◌, ◌%◌, ◌/◌, ℕ, suc, zero, List, [], ◌∷◌, ◌++◌, map, Bool, true, false, ◌||◌, nat_eq, nat_lt, ◌==◌, if◌then◌else◌, Option, Some, None, codes, decimal, slice_get, refl, ap, sym, ◌∙◌, subst, arith, eqb-true, ltb-true}
use Rattle.std.specs.List.{list_any}
use Rattle.std.specs.Fmt.{digits, digits_onto, digit_glyph}
use Rattle.std.proofs.lemmas.Bool.{or_parts}
use Rattle.lotos_lexer.specs.Bytes.{is_blank}
use Rattle.lotos_base.specs.Signature.{Signature, Sort, Operation, Form, prefix_form, infix_form}
use Rattle.lotos_base.specs.Twins.{has_twin}
use Rattle.lotos_base.specs.Term.{Term, variable, node, Terms, no_terms, term_then}
use Rattle.behaviour_semantics.specs.Label.{Label, inner_event, gate_event, exit_event}
use Rattle.behaviour_semantics.specs.WellFormed.{Every}
use Rattle.printed_texts.specs.Brackets.{begins_with_sign, spaced, round, bracketed, after_commas, commas}
use Rattle.printed_texts.specs.TermText.{sort_name, sort_text, numbered_text, Phrase, phrase_text, operand_text, of_text, arguments_text, prefix_phrase, operator_text, between_text, infix_phrase, application_phrase, node_phrase, phrase_of, phrases_of}
use Rattle.printed_texts.specs.MenuText.{entry_term_text, term_texts, name_text, values_text, exit_values_text, label_text}
use Rattle.behaviour_semantics.proofs.OptionLemmas.{some_value}
use Rattle.session_histories.specs.TraceLaws.{IsPlainName}

-- ---- What was seen

pub data Seen : Type 0 where
  nothing after_blank after_equals after_arrow spoilt : Seen

-- the kinds of bytes that count
pub data Kind : Type 0 where
  break blank equals greater other : Kind

abbrev pub kind_of : ℕ → Kind
kind_of byte =
    if 32 == byte then blank
    else if (10 == byte) || (13 == byte) then break
    else if 61 == byte then equals
    else if 62 == byte then greater
    else other

abbrev pub see : Seen → Kind → Seen
see spoilt kind = spoilt
see nothing break = spoilt
see nothing blank = after_blank
see nothing equals = nothing
see nothing greater = nothing
see nothing other = nothing
see after_blank break = spoilt
see after_blank blank = after_blank
see after_blank equals = after_equals
see after_blank greater = nothing
see after_blank other = nothing
see after_equals break = spoilt
see after_equals blank = after_blank
see after_equals equals = nothing
see after_equals greater = after_arrow
see after_equals other = nothing
see after_arrow break = spoilt
see after_arrow blank = spoilt
see after_arrow equals = nothing
see after_arrow greater = nothing
see after_arrow other = nothing

abbrev pub run : Seen → List ℕ → Seen
run seen [] = seen
run seen (byte ∷ bytes) = run (see seen (kind_of byte)) bytes

-- no arrow and no line break was seen, and none has begun but for its first signs; and none but for its blank
abbrev pub is_calm : Seen → Bool
is_calm nothing = true
is_calm after_blank = true
is_calm after_equals = true
is_calm after_arrow = false
is_calm spoilt = false

abbrev pub is_fresh : Seen → Bool
is_fresh nothing = true
is_fresh after_blank = true
is_fresh after_equals = false
is_fresh after_arrow = false
is_fresh spoilt = false

abbrev pub see_byte : Seen → ℕ → Seen
see_byte seen byte = see seen (kind_of byte)

pub run_append : (seen : Seen) (text more : List ℕ) → run seen (text ++ more) ≡ run (run seen text) more
run_append seen [] more = refl
run_append seen (byte ∷ text) more = run_append (see seen (kind_of byte)) text more

pub spoilt_stays : (text : List ℕ) → run spoilt text ≡ spoilt
spoilt_stays [] = refl
spoilt_stays (byte ∷ text) = spoilt_stays text

-- ---- What calm bytes have not

break_seen : (seen : Seen) → see seen break ≡ spoilt
break_seen nothing = refl
break_seen after_blank = refl
break_seen after_equals = refl
break_seen after_arrow = refl
break_seen spoilt = refl

no_break : (seen : Seen) (byte : ℕ) (bytes : List ℕ) → kind_of byte ≡ break → is_calm (run seen (byte ∷ bytes)) ≡ true → ⊥
no_break seen byte bytes e h =
    let all : run seen (byte ∷ bytes) ≡ spoilt =
    ap (λ (kind : Kind). run (see seen kind) bytes) e
    ∙ (ap (λ (it : Seen). run it bytes) (break_seen seen) ∙ spoilt_stays bytes) in
    cc (all, ap is_calm all, h)

-- a line break of this code
pub without : (code : ℕ) → kind_of code ≡ break → (seen : Seen) (bytes : List ℕ) → is_calm (run seen bytes) ≡ true
    → list_any (nat_eq code) bytes ≡ false
without code broken seen [] h = refl
without code broken seen (byte ∷ bytes) h =
    by (nat_eq code byte) refl (without code broken (see seen (kind_of byte)) bytes h)
  where
    by : (b : Bool) → nat_eq code byte ≡ b → list_any (nat_eq code) bytes ≡ false → (b || list_any (nat_eq code) bytes) ≡ false
    by true e rest = absurd (no_break seen byte bytes (ap kind_of (sym (eqb-true code byte e)) ∙ broken) h)
    by false e rest = rest

-- an arrow that has begun
begun : (seen : Seen) → is_calm (run seen (32 ∷ 61 ∷ 62 ∷ [])) ≡ true → ⊥
begun nothing e = cc e
begun after_blank e = cc e
begun after_equals e = cc e
begun after_arrow e = cc e
begun spoilt e = cc e

spoils : (seen : Seen) → run seen (32 ∷ 61 ∷ 62 ∷ 32 ∷ []) ≡ spoilt
spoils nothing = refl
spoils after_blank = refl
spoils after_equals = refl
spoils after_arrow = refl
spoils spoilt = refl

pub no_arrow_begun : (seen : Seen) (a b c : ℕ) → 32 ≡ a → 61 ≡ b → 62 ≡ c → is_calm (run seen (a ∷ b ∷ c ∷ [])) ≡ true → ⊥
no_arrow_begun seen a b c p q r h =
    begun seen (subst (λ (it : List ℕ). is_calm (run seen it) ≡ true) (λ i. sym p i ∷ sym q i ∷ sym r i ∷ []) h)

pub no_whole_arrow : (seen : Seen) (a b c d : ℕ) (bytes : List ℕ) → 32 ≡ a → 61 ≡ b → 62 ≡ c → 32 ≡ d
    → is_calm (run seen (a ∷ b ∷ c ∷ d ∷ bytes)) ≡ true → ⊥
no_whole_arrow seen a b c d bytes p q r s h =
    let same : is_calm (run seen (32 ∷ 61 ∷ 62 ∷ 32 ∷ bytes)) ≡ true =
    subst (λ (it : List ℕ). is_calm (run seen it) ≡ true) (λ i. sym p i ∷ sym q i ∷ sym r i ∷ sym s i ∷ bytes) h in
    let all : run seen (32 ∷ 61 ∷ 62 ∷ 32 ∷ bytes) ≡ spoilt =
    ap (λ (it : Seen). run it bytes) (spoils seen) ∙ spoilt_stays bytes in
    cc (all, ap is_calm all, same)

-- ---- Texts from one standing to another

-- from where the one test passes the text leads to where the other passes
pub record Leads (before behind : Seen → Bool) (text : List ℕ) : Type 0 where
  pub leads : (seen : Seen) → before seen ≡ true → behind (run seen text) ≡ true

pub joined : {before middle behind : Seen → Bool} (text more : List ℕ) → Leads before middle text → Leads middle behind more
    → Leads before behind (text ++ more)
joined {before} {middle} {behind} text more h k = record {
  leads = λ seen fresh.
      subst (λ (it : Seen). behind it ≡ true) (sym (run_append seen text more)) (k.leads (run seen text) (h.leads seen fresh));
}

three : {one two three_ four : Seen → Bool} (first second third : List ℕ) → Leads one two first → Leads two three_ second
    → Leads three_ four third → Leads one four (first ++ second ++ third)
three first second third f s t = joined (first ++ second) third (joined first second f s) t

fresh_calm : (seen : Seen) → is_fresh seen ≡ true → is_calm seen ≡ true
fresh_calm nothing e = refl
fresh_calm after_blank e = refl
fresh_calm after_equals e = refl
fresh_calm after_arrow e = e
fresh_calm spoilt e = e

-- a text that begins and ends afresh is one that ends calm, and one that may begin calm is one that begins afresh
pub ends_calm : {before : Seen → Bool} (text : List ℕ) → Leads before is_fresh text → Leads before is_calm text
ends_calm text h = record { leads = λ seen e. fresh_calm (run seen text) (h.leads seen e) }

pub begins_fresh : {behind : Seen → Bool} (text : List ℕ) → Leads is_calm behind text → Leads is_fresh behind text
begins_fresh text h = record { leads = λ seen e. h.leads seen (fresh_calm seen e) }

pub nothing_fresh : Leads is_fresh is_fresh []
nothing_fresh = record { leads = λ seen e. e }

-- a piece that leads afresh from each of the three calm standings
pub piece : (text : List ℕ) → is_fresh (run nothing text) ≡ true → is_fresh (run after_blank text) ≡ true
    → is_fresh (run after_equals text) ≡ true → Leads is_calm is_fresh text
piece text n b q = record { leads = by }
  where
    by : (seen : Seen) → is_calm seen ≡ true → is_fresh (run seen text) ≡ true
    by nothing e = n
    by after_blank e = b
    by after_equals e = q
    by after_arrow e = absurd (cc e)
    by spoilt e = absurd (cc e)

-- ---- Names

no_kind : (byte : ℕ) → is_blank byte ≡ false → (kind_of byte ≡ break → ⊥) × (kind_of byte ≡ blank → ⊥)
no_kind byte h = by (32 == byte) ((10 == byte) || (13 == byte)) (61 == byte) (62 == byte) parts.0 parts.1
  where
    apart : (a b c d : Bool) → a || (b || (c || (d || false))) ≡ false → (a ≡ false) × ((c || d) ≡ false)
    apart true b c d e = absurd (cc e)
    apart false true c d e = absurd (cc e)
    apart false false true d e = absurd (cc e)
    apart false false false true e = absurd (cc e)
    apart false false false false e = (refl, refl)

    parts : ((32 == byte) ≡ false) × (((10 == byte) || (13 == byte)) ≡ false)
    parts = apart (32 == byte) (9 == byte) (10 == byte) (13 == byte) h

    by : (a b c d : Bool) → a ≡ false → b ≡ false
        → ((if a then blank else if b then break else if c then equals else if d then greater else other) ≡ break → ⊥)
        × ((if a then blank else if b then break else if c then equals else if d then greater else other) ≡ blank → ⊥)
    by true b c d e f = absurd (cc e)
    by false true c d e f = absurd (cc f)
    by false false true d e f = ((λ k. cc k), (λ k. cc k))
    by false false false true e f = ((λ k. cc k), (λ k. cc k))
    by false false false false e f = ((λ k. cc k), (λ k. cc k))

equals_is : (byte : ℕ) → kind_of byte ≡ equals → 61 ≡ byte
equals_is byte e = by (32 == byte) ((10 == byte) || (13 == byte)) (61 == byte) (62 == byte) refl e
  where
    by : (a b c d : Bool) → (61 == byte) ≡ c
        → (if a then blank else if b then break else if c then equals else if d then greater else other) ≡ equals → 61 ≡ byte
    by true b c d q e = absurd (cc e)
    by false true c d q e = absurd (cc e)
    by false false true d q e = eqb-true 61 byte q
    by false false false true q e = absurd (cc e)
    by false false false false q e = absurd (cc e)

greater_is : (byte : ℕ) → kind_of byte ≡ greater → 62 ≡ byte
greater_is byte e = by (32 == byte) ((10 == byte) || (13 == byte)) (61 == byte) (62 == byte) refl e
  where
    by : (a b c d : Bool) → (62 == byte) ≡ d
        → (if a then blank else if b then break else if c then equals else if d then greater else other) ≡ greater → 62 ≡ byte
    by true b c d q e = absurd (cc e)
    by false true c d q e = absurd (cc e)
    by false false true d q e = absurd (cc e)
    by false false false true q e = eqb-true 62 byte q
    by false false false false q e = absurd (cc e)

record IsInk (kind : Kind) : Type 0 where
  no_break : kind ≡ break → ⊥
  no_blank : kind ≡ blank → ⊥

ink : (byte : ℕ) → is_blank byte ≡ false → IsInk (kind_of byte)
ink byte h = record { no_break = (no_kind byte h).0; no_blank = (no_kind byte h).1 }

ink_nothing : (kind : Kind) → IsInk kind → see nothing kind ≡ nothing
ink_nothing break h = absurd (h.no_break refl)
ink_nothing blank h = absurd (h.no_blank refl)
ink_nothing equals h = refl
ink_nothing greater h = refl
ink_nothing other h = refl

ink_arrow : (kind : Kind) → IsInk kind → see after_arrow kind ≡ nothing
ink_arrow break h = absurd (h.no_break refl)
ink_arrow blank h = absurd (h.no_blank refl)
ink_arrow equals h = refl
ink_arrow greater h = refl
ink_arrow other h = refl

-- bytes without blanks, where nothing was seen
stay : (bytes : List ℕ) → list_any is_blank bytes ≡ false → run nothing bytes ≡ nothing
stay [] h = refl
stay (byte ∷ bytes) h =
    let parts : (is_blank byte ≡ false) × (list_any is_blank bytes ≡ false) = or_parts (is_blank byte) (list_any is_blank bytes) h in
    ap (λ (it : Seen). run it bytes) (ink_nothing (kind_of byte) (ink byte parts.0)) ∙ stay bytes parts.1

calm_stay : (bytes : List ℕ) → list_any is_blank bytes ≡ false → is_calm (run nothing bytes) ≡ true
calm_stay bytes h = ap is_calm (stay bytes h)

-- behind ` =>`, where more follows
behind_arrow : (byte : ℕ) (bytes : List ℕ) → list_any is_blank (byte ∷ bytes) ≡ false → is_calm (run after_arrow (byte ∷ bytes)) ≡ true
behind_arrow byte bytes h =
    let parts : (is_blank byte ≡ false) × (list_any is_blank bytes ≡ false) = or_parts (is_blank byte) (list_any is_blank bytes) h in
    ap (λ (it : Seen). is_calm (run it bytes)) (ink_arrow (kind_of byte) (ink byte parts.0)) ∙ calm_stay bytes parts.1

-- behind ` =`
behind_equals : (first : ℕ) (bytes : List ℕ) → 61 ≡ first → list_any is_blank bytes ≡ false → first ∷ bytes ≢ codes "=>"
    → is_calm (run after_equals bytes) ≡ true
behind_equals first [] e h n = refl
behind_equals first (byte ∷ bytes) e h n =
    by (kind_of byte) refl
  where
    parts : (is_blank byte ≡ false) × (list_any is_blank bytes ≡ false)
    parts = or_parts (is_blank byte) (list_any is_blank bytes) h

    more : (rest : List ℕ) → list_any is_blank rest ≡ false → first ∷ byte ∷ rest ≢ codes "=>" → 62 ≡ byte
        → is_calm (run after_arrow rest) ≡ true
    more [] h n q = absurd (n (λ i. sym e i ∷ sym q i ∷ []))
    more (next ∷ rest) h n q = behind_arrow next rest h

    by : (kind : Kind) → kind_of byte ≡ kind → is_calm (run (see after_equals kind) bytes) ≡ true
    by break q = absurd ((ink byte parts.0).no_break q)
    by blank q = absurd ((ink byte parts.0).no_blank q)
    by equals q = calm_stay bytes parts.1
    by greater q = more bytes parts.1 n (greater_is byte q)
    by other q = calm_stay bytes parts.1

-- behind a blank
behind_blank : (bytes : List ℕ) → list_any is_blank bytes ≡ false → bytes ≢ codes "=>" → is_calm (run after_blank bytes) ≡ true
behind_blank [] h n = refl
behind_blank (byte ∷ bytes) h n = by (kind_of byte) refl
  where
    parts : (is_blank byte ≡ false) × (list_any is_blank bytes ≡ false)
    parts = or_parts (is_blank byte) (list_any is_blank bytes) h

    by : (kind : Kind) → kind_of byte ≡ kind → is_calm (run (see after_blank kind) bytes) ≡ true
    by break q = absurd ((ink byte parts.0).no_break q)
    by blank q = absurd ((ink byte parts.0).no_blank q)
    by equals q = behind_equals byte bytes (equals_is byte q) parts.1 n
    by greater q = calm_stay bytes parts.1
    by other q = calm_stay bytes parts.1

pub name_leads : (name : List ℕ) → IsPlainName name → Leads is_fresh is_calm name
name_leads name h = record { leads = by }
  where
    by : (seen : Seen) → is_fresh seen ≡ true → is_calm (run seen name) ≡ true
    by nothing e = calm_stay name h.no_blank
    by after_blank e = behind_blank name h.no_blank h.no_arrow
    by after_equals e = absurd (cc e)
    by after_arrow e = absurd (cc e)
    by spoilt e = absurd (cc e)

-- ---- Numbers

other_kind : (byte : ℕ) → (32 ≡ byte → ⊥) → (10 ≡ byte → ⊥) → (13 ≡ byte → ⊥) → (61 ≡ byte → ⊥) → (62 ≡ byte → ⊥)
    → kind_of byte ≡ other
other_kind byte a b c d e =
    by (32 == byte) (10 == byte) (13 == byte) (61 == byte) (62 == byte) (λ q. a (eqb-true 32 byte q)) (λ q. b (eqb-true 10 byte q))
    (λ q. c (eqb-true 13 byte q)) (λ q. d (eqb-true 61 byte q)) (λ q. e (eqb-true 62 byte q))
  where
    by : (a b c d e : Bool) → (a ≡ true → ⊥) → (b ≡ true → ⊥) → (c ≡ true → ⊥) → (d ≡ true → ⊥) → (e ≡ true → ⊥)
        → (if a then blank else if b || c then break else if d then equals else if e then greater else other) ≡ other
    by true b c d e na nb nc nd ne = absurd (na refl)
    by false true c d e na nb nc nd ne = absurd (nb refl)
    by false false true d e na nb nc nd ne = absurd (nc refl)
    by false false false true e na nb nc nd ne = absurd (nd refl)
    by false false false false true na nb nc nd ne = absurd (ne refl)
    by false false false false false na nb nc nd ne = refl

-- the glyph of a digit below ten, and that of a letter
glyph_kind : (digit : ℕ) → kind_of (digit_glyph false digit) ≡ other
glyph_kind digit = by (nat_lt digit 10) refl
  where
    by : (b : Bool) → nat_lt digit 10 ≡ b → kind_of (if b then 48 + digit else 87 + digit) ≡ other
    by true q =
        let small : digit < 10 = ltb-true digit 10 q in
        other_kind (48 + digit) (λ e. omega (arith, e)) (λ e. omega (arith, e)) (λ e. omega (arith, e))
        (λ e. omega (arith, e, small)) (λ e. omega (arith, e, small))
    by false q =
        other_kind (87 + digit) (λ e. omega (arith, e)) (λ e. omega (arith, e)) (λ e. omega (arith, e)) (λ e. omega (arith, e))
        (λ e. omega (arith, e))

see_other : (seen : Seen) → is_fresh seen ≡ true → see seen other ≡ nothing
see_other nothing e = refl
see_other after_blank e = refl
see_other after_equals e = absurd (cc e)
see_other after_arrow e = absurd (cc e)
see_other spoilt e = absurd (cc e)

glyph_leads : (digit : ℕ) (more : List ℕ) → Leads is_fresh is_fresh more → Leads is_fresh is_fresh (digit_glyph false digit ∷ more)
glyph_leads digit more h = record {
  leads = λ seen e.
      subst (λ (it : Seen). is_fresh (run it more) ≡ true) (sym (ap (see seen) (glyph_kind digit) ∙ see_other seen e))
      (h.leads nothing refl);
}

digits_lead : (count n : ℕ) (more : List ℕ) → Leads is_fresh is_fresh more → Leads is_fresh is_fresh (digits_onto count 10 false n more)
digits_lead zero n more h = h
digits_lead (suc count) n more h =
    by (n / 10 == 0) (digits_lead count (n / 10) (digit_glyph false (n % 10) ∷ more) (glyph_leads (n % 10) more h))
  where
    by : (b : Bool) → Leads is_fresh is_fresh (digits_onto count 10 false (n / 10) (digit_glyph false (n % 10) ∷ more))
        → Leads is_fresh is_fresh (if b then digit_glyph false (n % 10) ∷ more
        else digits_onto count 10 false (n / 10) (digit_glyph false (n % 10) ∷ more))
    by true rest = glyph_leads (n % 10) more h
    by false rest = rest

pub decimal_leads : (n : ℕ) → Leads is_fresh is_fresh (decimal n)
unfolding digits
decimal_leads n = digits_lead 64 n [] nothing_fresh

-- ---- Brackets and commas

open_bracket : Leads is_calm is_fresh (codes "(")
open_bracket = piece (codes "(") refl refl refl

close_bracket : Leads is_calm is_fresh (codes ")")
close_bracket = piece (codes ")") refl refl refl

one_blank : Leads is_calm is_fresh (codes " ")
one_blank = piece (codes " ") refl refl refl

nothing_calm : Leads is_calm is_calm []
nothing_calm = record { leads = λ seen e. e }

spaced_leads : (sign : ℕ) (text : List ℕ) → Leads is_fresh is_calm text → Leads is_fresh is_calm (spaced sign text)
spaced_leads sign text h = by (begins_with_sign sign text)
  where
    by : (b : Bool) → Leads is_fresh is_calm (if b then codes " " ++ text else text)
    by true = joined (codes " ") text (begins_fresh (codes " ") one_blank) h
    by false = h

round_leads : (text : List ℕ) → Leads is_fresh is_calm text → Leads is_calm is_fresh (round text)
round_leads text h =
    three (codes "(") (spaced 42 text) (codes ")") open_bracket (spaced_leads 42 text h) close_bracket

bracketed_leads : (needed : Bool) (text : List ℕ) → Leads is_fresh is_calm text → Leads is_fresh is_calm (bracketed needed text)
bracketed_leads true text h = begins_fresh (round text) (ends_calm (round text) (round_leads text h))
bracketed_leads false text h = h

abbrev AreLine : List (List ℕ) → Type 0
AreLine texts = Every (Leads is_fresh is_calm) texts

after_commas_lead : (texts : List (List ℕ)) → AreLine texts → Leads is_calm is_calm (after_commas texts)
after_commas_lead [] h = nothing_calm
after_commas_lead (text ∷ texts) h =
    three (codes ", ") text (after_commas texts) (piece (codes ", ") refl refl refl) h.0 (after_commas_lead texts h.1)

pub commas_lead : (texts : List (List ℕ)) → AreLine texts → Leads is_fresh is_calm (commas texts)
commas_lead [] h = ends_calm [] nothing_fresh
commas_lead (text ∷ texts) h = joined text (after_commas texts) h.0 (after_commas_lead texts h.1)

-- ---- Terms

module _ (signature : Signature) (sorts : Every (λ (s : Sort). IsPlainName s.name) signature.sorts)
    (operations : Every (λ (o : Operation). IsPlainName o.name) signature.operations) where
  at_place : {X : Type 0} (P : X → Type 0) (xs : List X) (place : ℕ) (x : X) → Every P xs → slice_get xs place ≡ Some x → P x
  at_place P [] place x h e = absurd (cc e)
  at_place P (y ∷ xs) zero x h e = subst P (some_value e) h.0
  at_place P (y ∷ xs) (suc place) x h e = at_place P xs place x h.1 e

  sort_leads : (number : ℕ) → Leads is_fresh is_calm (sort_text signature number)
  sort_leads number = by (slice_get signature.sorts number) refl
    where
      by : (found : Option Sort) → slice_get signature.sorts number ≡ found → Leads is_fresh is_calm (sort_name found)
      by None e = ends_calm [] nothing_fresh
      by (Some sort) e =
          name_leads sort.name (at_place (λ (s : Sort). IsPlainName s.name) signature.sorts number sort sorts e)

  of_leads : (operation : Operation) → Leads is_calm is_calm (of_text signature operation)
  of_leads operation = by (has_twin signature operation)
    where
      by : (b : Bool) → Leads is_calm is_calm (if b then codes " of " ++ sort_text signature operation.result else [])
      by true = joined (codes " of ") (sort_text signature operation.result) (piece (codes " of ") refl refl refl)
          (sort_leads operation.result)
      by false = nothing_calm

  abbrev IsLinePhrase : Phrase → Type 0
  IsLinePhrase phrase = Leads is_fresh is_calm phrase.text

  phrase_texts : (phrases : List Phrase) → Every IsLinePhrase phrases → AreLine (map phrase_text phrases)
  phrase_texts [] h = tt
  phrase_texts (phrase ∷ phrases) h = (h.0, phrase_texts phrases h.1)

  arguments_lead : (phrases : List Phrase) → Every IsLinePhrase phrases → Leads is_calm is_calm (arguments_text phrases)
  arguments_lead [] h = nothing_calm
  arguments_lead (phrase ∷ phrases) h =
      ends_calm (round (commas (map phrase_text (phrase ∷ phrases)))) (round_leads (commas (map phrase_text (phrase ∷ phrases)))
      (commas_lead (map phrase_text (phrase ∷ phrases)) (phrase_texts (phrase ∷ phrases) h)))

  prefix_leads : (operation : Operation) (phrases : List Phrase) → IsPlainName operation.name → Every IsLinePhrase phrases
      → IsLinePhrase (prefix_phrase signature operation phrases)
  prefix_leads operation phrases plain h =
      three operation.name (arguments_text phrases) (of_text signature operation) (name_leads operation.name plain)
      (arguments_lead phrases h) (of_leads operation)

  operator_leads : (name : List ℕ) → IsPlainName name → Leads is_calm is_fresh (operator_text name)
  operator_leads name plain =
      three (codes " ") name (codes " ") one_blank (name_leads name plain) one_blank

  operand_leads : (phrase : Phrase) → IsLinePhrase phrase → Leads is_fresh is_calm (operand_text phrase)
  operand_leads phrase h = bracketed_leads phrase.is_infix phrase.text h

  between_leads : (operation : Operation) (left right : Phrase) → IsPlainName operation.name → IsLinePhrase left → IsLinePhrase right
      → Leads is_fresh is_calm (between_text operation left right)
  between_leads operation left right plain l r =
      three (operand_text left) (operator_text operation.name) (operand_text right) (operand_leads left l)
      (operator_leads operation.name plain) (operand_leads right r)

  infix_leads : (operation : Operation) (left right : Phrase) → IsPlainName operation.name → IsLinePhrase left → IsLinePhrase right
      → IsLinePhrase (infix_phrase signature operation left right)
  infix_leads operation left right plain l r =
      joined (bracketed (has_twin signature operation) (between_text operation left right)) (of_text signature operation)
      (bracketed_leads (has_twin signature operation) (between_text operation left right)
      (between_leads operation left right plain l r)) (of_leads operation)

  application_leads : (operation : Operation) (form : Form) (phrases : List Phrase) → IsPlainName operation.name
      → Every IsLinePhrase phrases → IsLinePhrase (application_phrase signature operation form phrases)
  application_leads operation prefix_form phrases plain h = prefix_leads operation phrases plain h
  application_leads operation infix_form [] plain h = prefix_leads operation [] plain h
  application_leads operation infix_form (left ∷ []) plain h = prefix_leads operation (left ∷ []) plain h
  application_leads operation infix_form (left ∷ right ∷ []) plain h = infix_leads operation left right plain h.0 h.1.0
  application_leads operation infix_form (left ∷ right ∷ third ∷ phrases) plain h =
      prefix_leads operation (left ∷ right ∷ third ∷ phrases) plain h

  node_leads : (number : ℕ) (phrases : List Phrase) → Every IsLinePhrase phrases
      → IsLinePhrase (node_phrase signature (slice_get signature.operations number) phrases)
  node_leads number phrases h = by (slice_get signature.operations number) refl
    where
      by : (found : Option Operation) → slice_get signature.operations number ≡ found → IsLinePhrase (node_phrase signature found phrases)
      by None e = ends_calm [] nothing_fresh
      by (Some operation) e = application_leads operation operation.form phrases
          (at_place (λ (o : Operation). IsPlainName o.name) signature.operations number operation operations e) h

  numbered_leads : (number : ℕ) → Leads is_fresh is_calm (numbered_text number)
  numbered_leads number =
      ends_calm (numbered_text number) (joined (codes "$") (decimal (number + 1))
      (begins_fresh (codes "$") (piece (codes "$") refl refl refl)) (decimal_leads (number + 1)))

  mutual
    term_leads : (term : Term) → IsLinePhrase (phrase_of signature [] term)
    term_leads (variable number sort) = numbered_leads number
    term_leads (node number terms) = node_leads number (phrases_of signature [] terms) (terms_lead terms)

    terms_lead : (terms : Terms) → Every IsLinePhrase (phrases_of signature [] terms)
    terms_lead no_terms = tt
    terms_lead (term_then term terms) = (term_leads term, terms_lead terms)

  pub texts_lead : (terms : List Term) → AreLine (term_texts signature terms)
  texts_lead [] = tt
  texts_lead (term ∷ terms) = (term_leads term, texts_lead terms)

  -- ---- Labels

  values_lead : (values : List Term) → Leads is_calm is_calm (values_text signature values)
  values_lead [] = nothing_calm
  values_lead (value ∷ values) =
      three (codes " !") (entry_term_text signature value) (values_text signature values) (piece (codes " !") refl refl refl)
      (term_leads value) (values_lead values)

  exit_values_lead : (values : List Term) → Leads is_calm is_calm (exit_values_text signature values)
  exit_values_lead [] = nothing_calm
  exit_values_lead (value ∷ values) =
      ends_calm (round (commas (term_texts signature (value ∷ values))))
      (round_leads (commas (term_texts signature (value ∷ values)))
      (commas_lead (term_texts signature (value ∷ values)) (texts_lead (value ∷ values))))

  module _ (gates : List (List ℕ)) (plain : Every IsPlainName gates) where
    gate_leads : (gate : ℕ) → Leads is_fresh is_calm (name_text (slice_get gates gate))
    gate_leads gate = by (slice_get gates gate) refl
      where
        by : (found : Option (List ℕ)) → slice_get gates gate ≡ found → Leads is_fresh is_calm (name_text found)
        by None e = ends_calm [] nothing_fresh
        by (Some name) e = name_leads name (at_place IsPlainName gates gate name plain e)

    pub label_leads : (label : Label) → Leads is_fresh is_calm (label_text signature gates label)
    label_leads inner_event = ends_calm (codes "i") (begins_fresh (codes "i") (piece (codes "i") refl refl refl))
    label_leads (gate_event gate values) =
        joined (name_text (slice_get gates gate)) (values_text signature values) (gate_leads gate) (values_lead values)
    label_leads (exit_event values) =
        joined (codes "exit") (exit_values_text signature values)
        (ends_calm (codes "exit") (begins_fresh (codes "exit") (piece (codes "exit") refl refl refl))) (exit_values_lead values)
