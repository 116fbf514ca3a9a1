-- A session whose trace has the limits of a text is one whose trace can be read.
use Rattle.std.proofs.Common.{◌≡◌, ◌≢◌, ℕ, ◌≤◌, true, false, ◌||◌, nat_eq, List, [], ◌∷◌, refl, ap, sym, ◌∙◌, inl}
use Rattle.std.specs.Char.{is_ascii_alphabetic}
use Rattle.std.specs.List.{list_any}
use Rattle.std.proofs.lemmas.Bool.{or_parts, or_from}
use Rattle.std.specs.Prelude.{◌==◌}
use Rattle.lotos_base.specs.WrittenTerm.{WrittenTerm}
use Rattle.lotos_base.specs.Signature.{Signature, Sort, Operation, IsWellFormedSignature}
use Rattle.lotos_base.specs.Term.{Term}
use Rattle.lotos_lexer.specs.Bytes.{first_is, is_blank}
use Rattle.behaviour_semantics.specs.Behaviour.{Behaviour, Process}
use Rattle.behaviour_semantics.specs.Rule.{AreValues}
use Rattle.behaviour_semantics.specs.WellFormed.{Every}
use Rattle.behaviour_semantics.proofs.EveryLemmas.{every_map, every_from}
use Rattle.behaviour_semantics.proofs.InstanceLemmas.{every_at}
use Rattle.session_histories.specs.HandedOn.{node_limit, commas, term_texts}
use Rattle.session_laws.specs.TextNames.{IsWordSpelling, IsOperationSpelling, HasTextNames}
use Rattle.session_laws.specs.TermDepth.{term_depth}
use Rattle.session_laws.specs.TermsReadBack.{AreReadBackAt, AreReadBack}
use Rattle.session_laws.specs.ReadBackLaws.{IsPlainSpelling}
use Rattle.session_laws.proofs.PlainNames.{names_are_plain}
use Rattle.session_laws.proofs.TermsReadBackLemmas.{term_lists_read_back}
use Rattle.session_histories.specs.Session.{SessionBasis, Situation, PastStep, items_of}
use Rattle.session_histories.specs.Replay.{AreRead}
use Rattle.session_histories.specs.TraceLaws.{IsPlainName, HavePlainNames, ReadBack, IsReadable, IsTraceable, HaveLineNames}
use Rattle.session_histories.specs.BoundNames.{bound_names, names_in_bodies}
use Rattle.session_histories.specs.TextBytes.{IsOnOneLine}
use Rattle.session_laws.specs.TraceReadings.{HasNamesOfText, IsWithinLine, HasTextTrace}

plain_name : (name : List ℕ) → IsOperationSpelling name → IsPlainName name
plain_name name is = let plain : IsPlainSpelling name = names_are_plain name is in record
    { no_blank = plain.no_blank; no_arrow = plain.no_arrow }

plain_names : (basis : SessionBasis) (first : Behaviour) → HasNamesOfText basis first → HavePlainNames basis
plain_names basis first names = record {
  sorts =
      every_from (λ (s : Sort). IsPlainName s.name) basis.data_.signature.sorts
      (λ i s found. plain_name s.name (inl (names.signature.sorts i s found)));
  operations =
      every_from (λ (o : Operation). IsPlainName o.name) basis.data_.signature.operations
      (λ i o found. plain_name o.name (names.signature.operations i o found));
  gates = every_map IsWordSpelling IsPlainName (λ name is. plain_name name (inl is)) basis.specification.gate_names names.gates;
}

-- ---- Names on one line

without_break : (name : List ℕ) → list_any is_blank name ≡ false → IsOnOneLine name
without_break [] none = record { no_line_feed = refl; no_return = refl }
without_break (byte ∷ bytes) none =
    let parts = or_parts (is_blank byte) (list_any is_blank bytes) none in
    let others = or_parts (32 == byte) ((9 == byte) || ((10 == byte) || ((13 == byte) || false))) parts.0 in
    let later = or_parts (9 == byte) ((10 == byte) || ((13 == byte) || false)) others.1 in
    let last = or_parts (10 == byte) ((13 == byte) || false) later.1 in
    let end_ = or_parts (13 == byte) false last.1 in
    let rest = without_break bytes parts.1 in
    record {
      no_line_feed = or_from (10 == byte) (list_any (nat_eq 10) bytes) last.0 rest.no_line_feed;
      no_return = or_from (13 == byte) (list_any (nat_eq 13) bytes) end_.0 rest.no_return;
    }

on_one_line : (name : List ℕ) → IsOperationSpelling name → IsOnOneLine name
on_one_line name is = without_break name (plain_name name is).no_blank

word_on_line : (name : List ℕ) → IsWordSpelling name → IsOnOneLine name
word_on_line name is = on_one_line name (inl is)

word_some : (name : List ℕ) → IsWordSpelling name → name ≢ []
word_some name is empty = let never : false ≡ true = sym (ap (first_is is_ascii_alphabetic) empty) ∙ is.begins in cc never

pub line_names : (basis : SessionBasis) (first : Behaviour) → HasNamesOfText basis first → HaveLineNames basis first
line_names basis first names = record {
  name = word_on_line basis.specification.name names.name;
  named = word_some basis.specification.name names.name;
  states = record {
    sorts =
        every_from (λ (s : Sort). IsOnOneLine s.name) basis.data_.signature.sorts
        (λ i s found. word_on_line s.name (names.signature.sorts i s found));
    operations =
        every_from (λ (o : Operation). IsOnOneLine o.name) basis.data_.signature.operations
        (λ i o found. on_one_line o.name (names.signature.operations i o found));
    gates = every_map IsWordSpelling IsOnOneLine word_on_line basis.specification.gate_names names.gates;
    processes =
        every_map (λ (p : Process). IsWordSpelling p.name) (λ (p : Process). IsOnOneLine p.name) (λ p is. word_on_line p.name is)
        basis.specification.processes names.processes;
    variables = every_map IsWordSpelling IsOnOneLine word_on_line (bound_names first) names.start;
  };
  bodies = every_map IsWordSpelling IsOnOneLine word_on_line (names_in_bodies basis.specification.processes) names.bodies;
}

-- terms that are read one by one, in the words of replay
are_read : (signature : Signature) (sorts : List ℕ) (terms : List WrittenTerm) (values : List Term)
    → AreReadBackAt signature sorts terms values
    → AreRead signature sorts terms values
are_read signature [] [] [] read = tt
are_read signature [] [] (t ∷ ts) read = absurd read
are_read signature [] (w ∷ ws) values read = absurd read
are_read signature (s ∷ ss) [] values read = absurd read
are_read signature (s ∷ ss) (w ∷ ws) [] read = absurd read
are_read signature (s ∷ ss) (w ∷ ws) (t ∷ ts) read = (read.0, are_read signature ss ws ts read.1)

values_back : (signature : Signature) → IsWellFormedSignature signature → HasTextNames signature → (values : List Term)
    → Every (λ (t : Term). term_depth t ≤ node_limit) values → (sorts : List ℕ) → AreValues signature sorts values
    → ReadBack signature sorts values
values_back signature well names values within sorts are =
    (back.written, back.is_text, are_read signature sorts back.written values back.are_read)
  where
    back : AreReadBack signature 0 (commas (term_texts signature values)) sorts values
    back =
        term_lists_read_back signature well names 0 sorts values are
        (λ k t. every_at (λ (t : Term). term_depth t ≤ node_limit) values k t within)

pub is_traceable : (basis : SessionBasis) (first last : Situation) (steps : List PastStep) → HasTextTrace basis first last steps
    → IsTraceable basis first last steps
is_traceable basis first last steps h = record {
  start = h.start;
  lead = h.lead;
  names = plain_names basis first.state h.names;
  items =
      every_map IsWithinLine (IsReadable basis)
      (λ item is. record {
        number = is.number;
        values = values_back basis.data_.signature h.over.signature h.names.signature item.values is.values;
      }) (items_of steps) h.items;
}
