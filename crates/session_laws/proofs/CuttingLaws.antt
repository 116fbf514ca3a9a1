-- Each text has one cutting, and the lexer's tokens are those of it.
use Rattle.std.proofs.Common.{◌≡◌, ◌≢◌, ℕ, zero, suc, ◌+◌, ◌≤◌, ◌<◌, Bool, true, false, not, cond, if◌then◌else◌, List, [], ◌∷◌, ◌++◌, take, drop, length, codes, refl, ap, sym, ◌∙◌, subst, arith}
use Rattle.std.specs.Prelude.{◌==◌}
use Rattle.std.specs.Char.{is_ascii_alphabetic, is_ascii_digit}
use Rattle.std.specs.List.{prefix_len}
use Rattle.std.proofs.lemmas.List.{append_assoc, append-nil, length-append, reverse-append}
use Rattle.std.proofs.Math.Seq.{take-append_seam, drop-append_seam}
use Rattle.lotos_lexer.specs.declared.kinds.TheConstants.{GATES_CLOSE}
use Rattle.lotos_lexer.specs.declared.pieces.Piece.TheVariants as piece
use Rattle.lotos_lexer.specs.declared.positions.Position.{Position}
use Rattle.lotos_lexer.specs.Bytes.{first_is, begins_with, is_sign, IsSpan}
use Rattle.lotos_lexer.specs.Spellings.{Spelling}
use Rattle.lotos_lexer.specs.Lexemes.{lexeme_of}
use Rattle.lotos_lexer.specs.Pieces.{piece_at}
use Rattle.lotos_lexer.specs.Tokens.{Lexed, Tokens, BadByte, OpenComment, with_token, behind, behind_all, token_at, list_open_behind, cut}
use Rattle.lotos_lexer.proofs.CuttingLemmas.{cut-blank, cut-comment, cut-token, cut-unclosed, cut-nothing}
use Rattle.session_laws.specs.LongestTokens.{IsToken, a_word, a_digit_name, a_run, a_fixed, closing_gates}
use Rattle.session_laws.specs.Cuttings.{TextPart, a_blank, a_comment, a_token, part_bytes, all_bytes, TellsOpen, HasOpenGates, Stands, Ending, at_the_end, at_a_bad_byte, at_an_open_comment, TextEnds, IsCutting, TextsHaveOneCutting, line_feeds, on_line, place_behind, tokens_behind, lexed_as, TokensAreOfCuttings, ClosingSignsClose}
use Rattle.session_laws.proofs.LongestLemmas.{fails, all_fixed, later_row, begins_so}
use Rattle.session_laws.proofs.CommentLemmas.{rest_of}
use Rattle.session_laws.proofs.PartLemmas.{piece_of, stands_piece, bad_piece, open_piece, Begins, with_part, with_fault, begins, stands_long, same_part}
use Rattle.session_laws.proofs.OpenLemmas.{open_after, told_behind}

-- ---- Cuttings from a place on

-- what stands behind some parts is cut into these
record IsCutFrom (before : List TextPart) (text : List ℕ) (parts : List TextPart) (rest : List ℕ) (ending : Ending) : Type 0 where
  pub made_up : text ≡ all_bytes parts ++ rest
  pub each : (inner : List TextPart) (part : TextPart) (after : List TextPart) → parts ≡ inner ++ (part ∷ after)
      → Stands (before ++ inner) part (all_bytes after ++ rest)
  pub ends : TextEnds (before ++ parts) rest ending

whole_cutting : (text : List ℕ) (parts : List TextPart) (rest : List ℕ) (ending : Ending) → IsCutting text parts rest ending
    → IsCutFrom [] text parts rest ending
whole_cutting text parts rest ending is = record { made_up = is.made_up; each = is.each; ends = is.ends }

cutting_whole : (text : List ℕ) (parts : List TextPart) (rest : List ℕ) (ending : Ending) → IsCutFrom [] text parts rest ending
    → IsCutting text parts rest ending
cutting_whole text parts rest ending is = record { made_up = is.made_up; each = is.each; ends = is.ends }

module _ (before : List TextPart) (text : List ℕ) (part : TextPart) (parts : List TextPart) (rest : List ℕ) (ending : Ending) where
  first_stands : IsCutFrom before text (part ∷ parts) rest ending → Stands before part (all_bytes parts ++ rest)
  first_stands is =
      subst (λ (ps : List TextPart). Stands ps part (all_bytes parts ++ rest)) (append-nil before) (is.each [] part parts refl)

  first_made : IsCutFrom before text (part ∷ parts) rest ending → text ≡ part_bytes part ++ (all_bytes parts ++ rest)
  first_made is = is.made_up ∙ append_assoc (part_bytes part) (all_bytes parts) rest

  later_cut : IsCutFrom before text (part ∷ parts) rest ending
      → IsCutFrom (before ++ (part ∷ [])) (all_bytes parts ++ rest) parts rest ending
  later_cut is = record {
    made_up = refl;
    each = λ inner one after same. subst (λ (ps : List TextPart). Stands ps one (all_bytes after ++ rest))
        (sym (append_assoc before (part ∷ []) inner)) (is.each (part ∷ inner) one after (ap (λ (ps : List TextPart). part ∷ ps) same));
    ends = subst (λ (ps : List TextPart). TextEnds ps rest ending) (sym (append_assoc before (part ∷ []) parts)) is.ends;
  }

  cut_more : text ≡ part_bytes part ++ (all_bytes parts ++ rest) → Stands before part (all_bytes parts ++ rest)
      → IsCutFrom (before ++ (part ∷ [])) (all_bytes parts ++ rest) parts rest ending
      → IsCutFrom before text (part ∷ parts) rest ending
  cut_more made stands later = record {
    made_up = made ∙ sym (append_assoc (part_bytes part) (all_bytes parts) rest);
    each = each;
    ends = subst (λ (ps : List TextPart). TextEnds ps rest ending) (append_assoc before (part ∷ []) parts) later.ends;
  }
    where
      rest_same : (one other : TextPart) (ours others : List TextPart) → one ∷ ours ≡ other ∷ others → ours ≡ others
      rest_same one other ours others same = cc same

      first_same : (one other : TextPart) (ours others : List TextPart) → one ∷ ours ≡ other ∷ others → one ≡ other
      first_same one other ours others same = cc same

      each : (inner : List TextPart) (one : TextPart) (after : List TextPart) → part ∷ parts ≡ inner ++ (one ∷ after)
          → Stands (before ++ inner) one (all_bytes after ++ rest)
      each [] one after same =
          subst (λ (ps : List TextPart). Stands ps one (all_bytes after ++ rest)) (sym (append-nil before))
          (subst (λ (ps : List TextPart). Stands before one (all_bytes ps ++ rest)) (rest_same part one parts after same)
          (subst (λ (p : TextPart). Stands before p (all_bytes parts ++ rest)) (first_same part one parts after same) stands))
      each (i ∷ inner) one after same =
          let tail = rest_same part i parts (inner ++ (one ∷ after)) same in
          let head = first_same part i parts (inner ++ (one ∷ after)) same in
          subst (λ (ps : List TextPart). Stands ps one (all_bytes after ++ rest)) (append_assoc before (part ∷ []) inner
          ∙ ap (λ (p : TextPart). before ++ (p ∷ inner)) head)
          (later.each inner one after tail)

-- ---- Each text has a cutting

record HasCutting (before : List TextPart) (text : List ℕ) : Type 0 where
  pub parts : List TextPart
  pub rest : List ℕ
  pub ending : Ending
  pub cutting : IsCutFrom before text parts rest ending

never_in : (part : TextPart) (inner after : List TextPart) → [] ≡ inner ++ (part ∷ after) → ⊥
never_in part [] after same = cc same
never_in part (i ∷ inner) after same = cc same

has_cutting : (most : ℕ) (open_list : Bool) (before : List TextPart) (text : List ℕ) → length text ≤ most → TellsOpen open_list before
    → HasCutting before text
has_cutting zero open_list before [] few told = record {
  parts = [];
  rest = [];
  ending = at_the_end;
  cutting = record { made_up = refl; each = λ inner part after same. absurd (never_in part inner after same); ends = refl };
}
has_cutting zero open_list before (byte ∷ text) few told = absurd (omega (arith, few))
has_cutting (suc most) open_list before text few told =
    by (begins open_list before text told) (λ opened parts bytes less is. has_cutting most opened parts bytes less is)
  where
    by : Begins open_list before text
        → ((opened : Bool) (parts : List TextPart) (bytes : List ℕ) → length bytes ≤ most → TellsOpen opened parts → HasCutting parts bytes)
        → HasCutting before text
    by (with_fault ending ends) below = record {
      parts = [];
      rest = text;
      ending = ending;
      cutting = record {
        made_up = refl;
        each = λ inner part after same. absurd (never_in part inner after same);
        ends = subst (λ (ps : List TextPart). TextEnds ps text ending) (sym (append-nil before)) ends;
      };
    }
    by (with_part part bytes made stands) below =
        let long = stands_long before part bytes stands in
        let all = length-append (part_bytes part) bytes in
        let same = ap (λ (bs : List ℕ). length bs) made in
        let later = below (open_after part open_list) (before ++ (part ∷ [])) bytes (omega (arith, few, long.0, all, same))
        (told_behind open_list before part bytes told stands) in
        record {
          parts = part ∷ later.parts;
          rest = later.rest;
          ending = later.ending;
          cutting = cut_more before text part later.parts later.rest later.ending
              (made ∙ ap (λ (bs : List ℕ). part_bytes part ++ bs) later.cutting.made_up)
              (subst (Stands before part) later.cutting.made_up stands)
              (subst (λ (bs : List ℕ). IsCutFrom (before ++ (part ∷ [])) bs later.parts later.rest later.ending)
              later.cutting.made_up later.cutting);
        }

-- ---- And no other

part_not_end : (part : TextPart) → piece_of part ≡ piece.Nothing → ⊥
part_not_end (a_blank byte) is = cc is
part_not_end (a_comment bytes) is = cc is
part_not_end (a_token kind bytes) is = cc is

part_not_open : (part : TextPart) → piece_of part ≡ piece.Unclosed → ⊥
part_not_open (a_blank byte) is = cc is
part_not_open (a_comment bytes) is = cc is
part_not_open (a_token kind bytes) is = cc is

-- where a part stands, the text has not ended
not_ended : (open_list : Bool) (before : List TextPart) (part : TextPart) (rest : List ℕ) (ending : Ending) → TellsOpen open_list before
    → Stands before part rest → TextEnds before (part_bytes part ++ rest) ending → ⊥
not_ended open_list before part rest at_the_end told stands ends =
    let long = stands_long before part rest stands in
    let same = ap (λ (bs : List ℕ). length bs) ends in
    omega (arith, long.0, long.1, same)
not_ended open_list before part rest at_a_bad_byte told stands ends =
    part_not_end part
    (sym (stands_piece open_list before part rest told stands) ∙ bad_piece open_list before (part_bytes part ++ rest) told ends)
not_ended open_list before part rest at_an_open_comment told stands ends =
    part_not_open part
    (sym (stands_piece open_list before part rest told stands) ∙ open_piece open_list (part_bytes part ++ rest) ends)

-- a text ends in one way
one_end : (open_list : Bool) (before : List TextPart) (text : List ℕ) (ending end : Ending) → TellsOpen open_list before
    → TextEnds before text ending
    → TextEnds before text end → end ≡ ending
one_end open_list before text at_the_end at_the_end told ends also = refl
one_end open_list before text at_the_end at_a_bad_byte told ends also = absurd (also.some ends)
one_end open_list before text at_the_end at_an_open_comment told ends also = absurd (let e = also.made_up in cc (e, ends))
one_end open_list before text at_a_bad_byte at_the_end told ends also = absurd (ends.some also)
one_end open_list before text at_a_bad_byte at_a_bad_byte told ends also = refl
one_end open_list before text at_a_bad_byte at_an_open_comment told ends also =
    absurd (let one = bad_piece open_list before text told ends in let other = open_piece open_list text also in cc (one, other))
one_end open_list before text at_an_open_comment at_the_end told ends also = absurd (let e = ends.made_up in cc (e, also))
one_end open_list before text at_an_open_comment at_a_bad_byte told ends also =
    absurd (let one = bad_piece open_list before text told also in let other = open_piece open_list text ends in cc (one, other))
one_end open_list before text at_an_open_comment at_an_open_comment told ends also = refl

abbrev AreSame : List TextPart → List ℕ → Ending → List TextPart → List ℕ → Ending → Type 0
AreSame parts rest ending others left end = (others ≡ parts) × (left ≡ rest) × (end ≡ ending)

one_cutting : (open_list : Bool) (before : List TextPart) (text : List ℕ) (parts : List TextPart) (rest : List ℕ) (ending : Ending)
    (others : List TextPart) (left : List ℕ) (end : Ending) → TellsOpen open_list before → IsCutFrom before text parts rest ending
    → IsCutFrom before text others left end → AreSame parts rest ending others left end
one_cutting open_list before text [] rest ending [] left end told is also =
    let nil = append-nil before in
    let same : left ≡ rest = sym also.made_up ∙ is.made_up in (
      refl,
      same,
      one_end open_list before rest ending end told (subst (λ (ps : List TextPart). TextEnds ps rest ending) nil is.ends)
          (subst (λ (bs : List ℕ). TextEnds before bs end) same (subst (λ (ps : List TextPart). TextEnds ps left end) nil also.ends)),
    )
one_cutting open_list before text [] rest ending (other ∷ others) left end told is also =
    absurd (not_ended open_list before other (all_bytes others ++ left) ending told (first_stands before text other others left end also)
    (subst (λ (bs : List ℕ). TextEnds before bs ending) (sym is.made_up ∙ first_made before text other others left end also)
    (subst (λ (ps : List TextPart). TextEnds ps rest ending) (append-nil before) is.ends)))
one_cutting open_list before text (part ∷ parts) rest ending [] left end told is also =
    absurd (not_ended open_list before part (all_bytes parts ++ rest) end told (first_stands before text part parts rest ending is)
    (subst (λ (bs : List ℕ). TextEnds before bs end) (sym also.made_up ∙ first_made before text part parts rest ending is)
    (subst (λ (ps : List TextPart). TextEnds ps left end) (append-nil before) also.ends)))
one_cutting open_list before text (part ∷ parts) rest ending (other ∷ others) left end told is also =
    let stands = first_stands before text part parts rest ending is in
    let made = first_made before text part parts rest ending is in
    let made' = first_made before text other others left end also in
    let piece' =
    stands_piece open_list before other (all_bytes others ++ left) told (first_stands before text other others left end also) in
    let alike : piece_of other ≡ piece_of part =
    sym piece' ∙ (ap (piece_at open_list) (sym made' ∙ made) ∙ stands_piece open_list before part (all_bytes parts ++ rest) told stands) in
    let same = same_part other part (all_bytes others ++ left) (all_bytes parts ++ rest) alike (sym made' ∙ made) in
    let later = later_cut before text part parts rest ending is in
    let later' = later_cut before text other others left end also in
    let moved : IsCutFrom (before ++ (part ∷ [])) (all_bytes parts ++ rest) others left end =
    subst (λ (bs : List ℕ). IsCutFrom (before ++ (part ∷ [])) bs others left end) same.1
    (subst (λ (p : TextPart). IsCutFrom (before ++ (p ∷ [])) (all_bytes others ++ left) others left end) same.0 later') in
    let more = one_cutting (open_after part open_list) (before ++ (part ∷ [])) (all_bytes parts ++ rest) parts rest ending others left end
    (told_behind open_list before part (all_bytes parts ++ rest) told stands) later moved in
    (ap (λ (p : TextPart). p ∷ others) same.0 ∙ ap (λ (ps : List TextPart). part ∷ ps) more.0, more.1, more.2)

nothing_open : TellsOpen false []
nothing_open opened = never_in _ opened.before opened.after opened.opened

pub texts_have_one_cutting : TextsHaveOneCutting
texts_have_one_cutting text =
    let found = has_cutting (length text) false [] text (omega arith) nothing_open in
    record {
      parts = found.parts;
      rest = found.rest;
      ending = found.ending;
      cutting = cutting_whole text found.parts found.rest found.ending found.cutting;
      alone = λ others left end is. one_cutting false [] text found.parts found.rest found.ending others left end nothing_open
          found.cutting (whole_cutting text others left end is);
    }

-- ---- Places

abbrev position_behind : List ℕ → Position
position_behind bytes = record { offset = length bytes; line = suc (line_feeds bytes); column = suc (on_line bytes) }

feeds_more : (bytes : List ℕ) (byte : ℕ)
    → line_feeds (bytes ++ byte ∷ []) ≡ (if byte == 10 then suc (line_feeds bytes) else line_feeds bytes)
feeds_more [] byte = by (byte == 10)
  where
    by : (feed : Bool) → (if feed then suc 0 else 0) ≡ (if feed then suc 0 else 0)
    by feed = refl
feeds_more (first ∷ bytes) byte = by (first == 10) (byte == 10) (feeds_more bytes byte)
  where
    by : (feed last : Bool) → line_feeds (bytes ++ byte ∷ []) ≡ (if last then suc (line_feeds bytes) else line_feeds bytes)
        → (if feed then suc (line_feeds (bytes ++ byte ∷ [])) else line_feeds (bytes ++ byte ∷ []))
        ≡ (if last
        then suc (if feed then suc (line_feeds bytes) else line_feeds bytes)
        else (if feed then suc (line_feeds bytes) else line_feeds bytes))
    by true true is = ap suc is
    by true false is = ap suc is
    by false true is = is
    by false false is = is

on_line_more : (bytes : List ℕ) (byte : ℕ) → on_line (bytes ++ byte ∷ []) ≡ (if byte == 10 then 0 else 1 + on_line bytes)
on_line_more bytes byte =
    ap (prefix_len (λ b. not (b == 10))) (reverse-append bytes (byte ∷ [])) ∙ by (byte == 10)
  where
    by : (feed : Bool) → cond (not feed) (1 + on_line bytes) 0 ≡ (if feed then 0 else 1 + on_line bytes)
    by true = refl
    by false = refl

abbrev a_position : (offset line column : ℕ) → Position
a_position offset line column = record { offset = offset; line = line; column = column }

one_behind : (bytes : List ℕ) (byte : ℕ) → behind byte (position_behind bytes) ≡ position_behind (bytes ++ byte ∷ [])
one_behind bytes byte = by (byte == 10) (feeds_more bytes byte) (on_line_more bytes byte)
  where
    longer : length bytes + 1 ≡ length (bytes ++ byte ∷ [])
    longer = sym (length-append bytes (byte ∷ []))

    by : (feed : Bool) → line_feeds (bytes ++ byte ∷ []) ≡ (if feed then suc (line_feeds bytes) else line_feeds bytes)
        → on_line (bytes ++ byte ∷ []) ≡ (if feed then 0 else 1 + on_line bytes)
        → (if feed
        then a_position (length bytes + 1) (suc (line_feeds bytes) + 1) 1
        else a_position (length bytes + 1) (suc (line_feeds bytes)) (suc (on_line bytes) + 1))
        ≡ position_behind (bytes ++ byte ∷ [])
    by true feeds on =
        let line : suc (line_feeds bytes) + 1 ≡ suc (line_feeds (bytes ++ byte ∷ [])) = omega (arith, feeds) in
        let column : 1 ≡ suc (on_line (bytes ++ byte ∷ [])) = omega (arith, on) in
        ap (λ (n : ℕ). a_position n (suc (line_feeds bytes) + 1) 1) longer
        ∙ (ap (λ (n : ℕ). a_position (length (bytes ++ byte ∷ [])) n 1) line
        ∙ ap (λ (n : ℕ). a_position (length (bytes ++ byte ∷ [])) (suc (line_feeds (bytes ++ byte ∷ []))) n) column)
    by false feeds on =
        let line : suc (line_feeds bytes) ≡ suc (line_feeds (bytes ++ byte ∷ [])) = omega (arith, feeds) in
        let column : suc (on_line bytes) + 1 ≡ suc (on_line (bytes ++ byte ∷ [])) = omega (arith, on) in
        ap (λ (n : ℕ). a_position n (suc (line_feeds bytes)) (suc (on_line bytes) + 1)) longer
        ∙ (ap (λ (n : ℕ). a_position (length (bytes ++ byte ∷ [])) n (suc (on_line bytes) + 1)) line
        ∙ ap (λ (n : ℕ). a_position (length (bytes ++ byte ∷ [])) (suc (line_feeds (bytes ++ byte ∷ []))) n) column)

more_behind : (bytes more : List ℕ) → behind_all more (position_behind bytes) ≡ position_behind (bytes ++ more)
more_behind bytes [] = ap position_behind (sym (append-nil bytes))
more_behind bytes (byte ∷ more) =
    ap (behind_all more) (one_behind bytes byte)
    ∙ (more_behind (bytes ++ byte ∷ []) more ∙ ap position_behind (append_assoc bytes (byte ∷ []) more))

-- ---- The tokens are those of the cutting

-- the tokens of parts that stand behind these bytes, or the fault behind them
abbrev lexed_from : ℕ → List ℕ → List TextPart → Ending → Lexed
lexed_from number bytes parts at_the_end = Tokens (tokens_behind number bytes parts)
lexed_from number bytes parts at_a_bad_byte = BadByte (place_behind number (bytes ++ all_bytes parts))
lexed_from number bytes parts at_an_open_comment = OpenComment (place_behind number (bytes ++ all_bytes parts))

module _ (number : ℕ) (bytes : List ℕ) where
  from_blank : (byte : ℕ) (parts : List TextPart) (ending : Ending)
      → lexed_from number (bytes ++ byte ∷ []) parts ending ≡ lexed_from number bytes (a_blank byte ∷ parts) ending
  from_blank byte parts at_the_end = refl
  from_blank byte parts at_a_bad_byte =
      ap (λ (bs : List ℕ). BadByte (place_behind number bs)) (append_assoc bytes (byte ∷ []) (all_bytes parts))
  from_blank byte parts at_an_open_comment =
      ap (λ (bs : List ℕ). OpenComment (place_behind number bs)) (append_assoc bytes (byte ∷ []) (all_bytes parts))

  from_comment : (inside : List ℕ) (parts : List TextPart) (ending : Ending)
      → lexed_from number (bytes ++ inside) parts ending ≡ lexed_from number bytes (a_comment inside ∷ parts) ending
  from_comment inside parts at_the_end = refl
  from_comment inside parts at_a_bad_byte =
      ap (λ (bs : List ℕ). BadByte (place_behind number bs)) (append_assoc bytes inside (all_bytes parts))
  from_comment inside parts at_an_open_comment =
      ap (λ (bs : List ℕ). OpenComment (place_behind number bs)) (append_assoc bytes inside (all_bytes parts))

  from_token : (kind : ℕ) (spelled : List ℕ) (parts : List TextPart) (ending : Ending)
      → with_token (token_at number (position_behind bytes) (lexeme_of kind (length spelled)))
      (lexed_from number (bytes ++ spelled) parts ending)
      ≡ lexed_from number bytes (a_token kind spelled ∷ parts) ending
  from_token kind spelled parts at_the_end = refl
  from_token kind spelled parts at_a_bad_byte =
      ap (λ (bs : List ℕ). BadByte (place_behind number bs)) (append_assoc bytes spelled (all_bytes parts))
  from_token kind spelled parts at_an_open_comment =
      ap (λ (bs : List ℕ). OpenComment (place_behind number bs)) (append_assoc bytes spelled (all_bytes parts))

  -- where the parts end, so does the lexer
  end_cut : (open_list : Bool) (before : List TextPart) (rest : List ℕ) (ending : Ending) → TellsOpen open_list before
      → TextEnds before rest ending
      → cut number 0 open_list (position_behind bytes) rest ≡ lexed_from number bytes [] ending
  end_cut open_list before rest at_the_end told ends = ap (cut number 0 open_list (position_behind bytes)) ends
  end_cut open_list before rest at_a_bad_byte told ends =
      cut-nothing number open_list (position_behind bytes) rest (some rest ends.some) (bad_piece open_list before rest told ends)
      ∙ ap (λ (bs : List ℕ). BadByte (place_behind number bs)) (sym (append-nil bytes))
    where
      some : (rest : List ℕ) → rest ≢ [] → 0 < length rest
      some [] not_so = absurd (not_so refl)
      some (byte ∷ rest) not_so = omega arith
  end_cut open_list before rest at_an_open_comment told ends =
      cut-unclosed number open_list (position_behind bytes) rest some (open_piece open_list rest ends)
      ∙ ap (λ (bs : List ℕ). OpenComment (place_behind number bs)) (sym (append-nil bytes))
    where
      some : 0 < length rest
      some =
          let same = ap (λ (bs : List ℕ). length bs) ends.made_up in
          let all = length-append (codes "(*") ends.inner in omega (arith, same, all)

  -- the lexer goes on behind a part
  part_cut : (open_list : Bool) (before : List TextPart) (part : TextPart) (rest : List ℕ) (parts : List TextPart) (ending : Ending)
      → TellsOpen open_list before → Stands before part rest
      → cut number 0 (open_after part open_list) (position_behind (bytes ++ part_bytes part)) rest
      ≡ lexed_from number (bytes ++ part_bytes part) parts ending
      → cut number 0 open_list (position_behind bytes) (part_bytes part ++ rest) ≡ lexed_from number bytes (part ∷ parts) ending
  part_cut open_list before part rest parts ending told stands later =
      by part stands (stands_long before part rest stands) (stands_piece open_list before part rest told stands) later
    where
      moved : (opened : Bool) (front : List ℕ)
          → cut number 0 opened (behind_all (take (length front) (front ++ rest)) (position_behind bytes))
          (drop (length front) (front ++ rest))
          ≡ cut number 0 opened (position_behind (bytes ++ front)) rest
      moved opened front =
          ap (λ (bs : List ℕ). cut number 0 opened (behind_all bs (position_behind bytes)) (drop (length front) (front ++ rest)))
          (take-append_seam front rest)
          ∙ (ap (cut number 0 opened (behind_all front (position_behind bytes))) (drop-append_seam front rest)
          ∙ ap (λ (p : Position). cut number 0 opened p rest) (more_behind bytes front))

      by : (part : TextPart) → Stands before part rest → IsSpan (length (part_bytes part)) (part_bytes part ++ rest)
          → piece_at open_list (part_bytes part ++ rest) ≡ piece_of part
          → cut number 0 (open_after part open_list) (position_behind (bytes ++ part_bytes part)) rest
          ≡ lexed_from number (bytes ++ part_bytes part) parts ending
          → cut number 0 open_list (position_behind bytes) (part_bytes part ++ rest) ≡ lexed_from number bytes (part ∷ parts) ending
      by (a_blank byte) stands span is later =
          cut-blank number open_list (position_behind bytes) (byte ∷ rest) span is
          ∙ (moved open_list (byte ∷ []) ∙ (later ∙ from_blank byte parts ending))
      by (a_comment inside) stands span is later =
          cut-comment number (length inside) open_list (position_behind bytes) (inside ++ rest) span is
          ∙ (moved open_list inside ∙ (later ∙ from_comment inside parts ending))
      by (a_token kind spelled) stands span is later =
          cut-token number (lexeme_of kind (length spelled)) open_list (position_behind bytes) (spelled ++ rest) span is
          ∙ (ap (with_token (token_at number (position_behind bytes) (lexeme_of kind (length spelled))))
          (moved (list_open_behind kind open_list) spelled ∙ later)
          ∙ from_token kind spelled parts ending)

cut_from : (number : ℕ) (bytes : List ℕ) (open_list : Bool) (before : List TextPart) (text : List ℕ) (parts : List TextPart) (rest : List ℕ)
    (ending : Ending) → TellsOpen open_list before → IsCutFrom before text parts rest ending
    → cut number 0 open_list (position_behind bytes) text ≡ lexed_from number bytes parts ending
cut_from number bytes open_list before text [] rest ending told is =
    ap (cut number 0 open_list (position_behind bytes)) is.made_up
    ∙ end_cut number bytes open_list before rest ending told
    (subst (λ (ps : List TextPart). TextEnds ps rest ending) (append-nil before) is.ends)
cut_from number bytes open_list before text (part ∷ parts) rest ending told is =
    let stands = first_stands before text part parts rest ending is in
    let later = later_cut before text part parts rest ending is in
    ap (cut number 0 open_list (position_behind bytes)) (first_made before text part parts rest ending is)
    ∙ part_cut number bytes open_list before part (all_bytes parts ++ rest) parts ending told stands
    (cut_from number (bytes ++ part_bytes part) (open_after part open_list) (before ++ (part ∷ []))
    (all_bytes parts ++ rest) parts rest ending
    (told_behind open_list before part (all_bytes parts ++ rest) told stands) later)

pub tokens_are_of_cuttings : TokensAreOfCuttings
tokens_are_of_cuttings number text parts rest ending is =
    cut_from number [] false [] text parts rest ending nothing_open (whole_cutting text parts rest ending is) ∙ by ending
  where
    by : (ending : Ending) → lexed_from number [] parts ending ≡ lexed_as number parts ending
    by at_the_end = refl
    by at_a_bad_byte = refl
    by at_an_open_comment = refl

-- ---- The sign that closes a list of gates

closing_only : (open_list : Bool) (kind : ℕ) (bytes : List ℕ) → kind ≡ GATES_CLOSE → bytes ≡ codes "]|" → IsToken open_list kind bytes
    → open_list ≡ true
closing_only open_list kind bytes kind_is same (a_word starts whole is) =
    absurd (fails (first_is is_ascii_alphabetic bytes) starts (ap (first_is is_ascii_alphabetic) same))
closing_only open_list kind bytes kind_is same (a_digit_name starts whole is) =
    absurd (fails (first_is is_ascii_digit bytes) starts (ap (first_is is_ascii_digit) same))
closing_only open_list kind bytes kind_is same (a_run starts whole is) =
    absurd (fails (first_is is_sign bytes) starts (ap (first_is is_sign) same))
closing_only open_list kind bytes kind_is same (a_fixed row found) =
    let never : not (kind == GATES_CLOSE) ≡ true =
    later_row (λ (r : Spelling). not (r.1 == GATES_CLOSE)) all_fixed row (bytes, kind) refl found in
    absurd (fails (not (kind == GATES_CLOSE)) never (ap (λ (k : ℕ). not (k == GATES_CLOSE)) kind_is))
closing_only open_list kind bytes kind_is same (closing_gates opened is also) = opened

pub closing_signs_close : ClosingSignsClose
closing_signs_close text parts rest ending is before part after same = record { only = only; always = always }
  where
    bytes : List ℕ
    bytes = all_bytes after ++ rest

    stands : Stands before part bytes
    stands = is.each before part after same

    only : part ≡ a_token GATES_CLOSE (codes "]|") → HasOpenGates before
    only closes =
        let here = subst (λ (p : TextPart). Stands before p bytes) closes stands in
        subst (λ (o : Bool). TellsOpen o before)
        (closing_only here.open_list GATES_CLOSE (codes "]|") refl refl here.longest.token) here.told

    always : begins_with (codes "]|") (part_bytes part ++ bytes) ≡ true → HasOpenGates before → part ≡ a_token GATES_CLOSE (codes "]|")
    always starts opened =
        let parted = rest_of (codes "]|") (part_bytes part ++ bytes) (begins_so (codes "]|") (part_bytes part ++ bytes) starts) in
        let is_it : piece_at true (part_bytes part ++ bytes) ≡ piece.Token (lexeme_of GATES_CLOSE 2) = ap (piece_at true) parted in
        (same_part part (a_token GATES_CLOSE (codes "]|")) bytes (drop 2 (part_bytes part ++ bytes))
        (sym (stands_piece true before part bytes opened stands) ∙ is_it) parted).0
