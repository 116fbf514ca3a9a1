-- Whether a list of gates is open behind one more part.
use Rattle.std.proofs.Common.{◌≡◌, ℕ, Bool, true, false, ◌&&◌, if◌then◌else◌, List, [], ◌∷◌, ◌++◌, codes, refl, ap, sym, ◌∙◌, subst}
use Rattle.std.specs.Prelude.{◌==◌}
use Rattle.std.specs.List.{list_all}
use Rattle.std.proofs.lemmas.Bool.{and_parts, not-true, and_from}
use Rattle.std.proofs.lemmas.Bool.Decides.{Decides-eqb}
use Rattle.std.proofs.lemmas.List.{append_assoc}
use Rattle.std.proofs.lemmas.List.Folds.{list_all-append}
use Rattle.std.proofs.lemmas.Slice.Eq.{bytes_eq-Decides}
use Rattle.std.proofs.Math.Seq.{take-append_seam}
use Rattle.lotos_lexer.specs.declared.kinds.TheConstants.{GATES_OPEN}
use Rattle.lotos_lexer.specs.Tokens.{list_open_behind}
use Rattle.session_laws.specs.LongestTokens.{IsToken}
use Rattle.session_laws.specs.Cuttings.{TextPart, a_blank, a_comment, a_token, has_no_bracket, HasOpenGates, TellsOpen, Stands}
use Rattle.session_laws.proofs.LongestLemmas.{fails}
use Rattle.session_laws.proofs.BracketLemmas.{is_no_bracket, closes, fits, token_fits}

-- ---- A list with one more at its end, parted at one of its members

data EndParted (before : List TextPart) (last : TextPart) (front : List TextPart) (one : TextPart) (back : List TextPart) : Type 0 where
  at_last : last ≡ one → EndParted before last front one back
  earlier : (inner : List TextPart) → back ≡ inner ++ (last ∷ []) → before ≡ front ++ (one ∷ inner) → EndParted before last front one back

first_same : (one other : TextPart) (ours others : List TextPart) → one ∷ ours ≡ other ∷ others → one ≡ other
first_same one other ours others same = cc same

rest_same : (one other : TextPart) (ours others : List TextPart) → one ∷ ours ≡ other ∷ others → ours ≡ others
rest_same one other ours others same = cc same

end_parted : (before : List TextPart) (last : TextPart) (front : List TextPart) (one : TextPart) (back : List TextPart)
    → before ++ (last ∷ []) ≡ front ++ (one ∷ back) → EndParted before last front one back
end_parted [] last [] one back same = at_last (first_same last one [] back same)
end_parted [] last (f ∷ front) one back same = absurd (never front (rest_same last f [] (front ++ (one ∷ back)) same))
  where
    never : (front : List TextPart) → [] ≡ front ++ (one ∷ back) → ⊥
    never [] h = cc h
    never (f ∷ front) h = cc h
end_parted (b ∷ before) last [] one back same =
    earlier before (sym (rest_same b one (before ++ (last ∷ [])) back same))
    (ap (λ (p : TextPart). p ∷ before) (first_same b one (before ++ (last ∷ [])) back same))
end_parted (b ∷ before) last (f ∷ front) one back same =
    by (end_parted before last front one back (rest_same b f (before ++ (last ∷ [])) (front ++ (one ∷ back)) same))
  where
    by : EndParted before last front one back → EndParted (b ∷ before) last (f ∷ front) one back
    by (at_last is) = at_last is
    by (earlier inner ends is) =
        earlier inner ends
        (ap (λ (p : TextPart). p ∷ before) (first_same b f (before ++ (last ∷ [])) (front ++ (one ∷ back)) same)
        ∙ ap (λ (ps : List TextPart). f ∷ ps) is)

-- ---- One more part

-- a part that opens no list and closes none
abbrev Leaves : TextPart → Type 0
Leaves part = (has_no_bracket part ≡ true) × ((bytes : List ℕ) → part ≡ a_token GATES_OPEN bytes → ⊥)

still_open : (before : List TextPart) (part : TextPart) → Leaves part → HasOpenGates before → HasOpenGates (before ++ (part ∷ []))
still_open before part leaves opened = record {
  before = opened.before;
  after = opened.after ++ (part ∷ []);
  opened = ap (λ (ps : List TextPart). ps ++ (part ∷ [])) opened.opened
      ∙ append_assoc opened.before (a_token GATES_OPEN (codes "|[") ∷ opened.after) (part ∷ []);
  still = list_all-append has_no_bracket opened.after (part ∷ [])
      ∙ and_from (list_all has_no_bracket opened.after) (has_no_bracket part && true) opened.still
      (and_from (has_no_bracket part) true leaves.0 refl);
}

open_before : (before : List TextPart) (part : TextPart) → Leaves part → HasOpenGates (before ++ (part ∷ [])) → HasOpenGates before
open_before before part leaves opened =
    by (end_parted before part opened.before (a_token GATES_OPEN (codes "|[")) opened.after opened.opened)
  where
    by : EndParted before part opened.before (a_token GATES_OPEN (codes "|[")) opened.after → HasOpenGates before
    by (at_last is) = absurd (leaves.1 (codes "|[") is)
    by (earlier inner ends is) = record {
      before = opened.before;
      after = inner;
      opened = is;
      still =
          (and_parts (list_all has_no_bracket inner) (list_all has_no_bracket (part ∷ []))
          (sym (list_all-append has_no_bracket inner (part ∷ []))
          ∙ (ap (list_all has_no_bracket) (sym ends) ∙ opened.still))).0;
    }

left_so : (open_list : Bool) (before : List TextPart) (part : TextPart) → Leaves part → TellsOpen open_list before
    → TellsOpen open_list (before ++ (part ∷ []))
left_so true before part leaves told = still_open before part leaves told
left_so false before part leaves told = λ opened. told (open_before before part leaves opened)

opened_now : (before : List TextPart) → HasOpenGates (before ++ (a_token GATES_OPEN (codes "|[") ∷ []))
opened_now before = record { before = before; after = []; opened = refl; still = refl }

closed_now : (before : List TextPart) (part : TextPart) → has_no_bracket part ≡ false → HasOpenGates (before ++ (part ∷ [])) → ⊥
closed_now before part bracket opened =
    by (end_parted before part opened.before (a_token GATES_OPEN (codes "|[")) opened.after opened.opened)
  where
    by : EndParted before part opened.before (a_token GATES_OPEN (codes "|[")) opened.after → ⊥
    by (at_last is) = fails (has_no_bracket part) (ap has_no_bracket is) bracket
    by (earlier inner ends is) =
        let all = and_parts (list_all has_no_bracket inner) (list_all has_no_bracket (part ∷ []))
        (sym (list_all-append has_no_bracket inner (part ∷ [])) ∙ (ap (list_all has_no_bracket) (sym ends) ∙ opened.still)) in
        fails (has_no_bracket part) (and_parts (has_no_bracket part) true all.1).0 bracket

-- whether a list is open behind a part, by its kind
abbrev pub open_after : TextPart → Bool → Bool
open_after (a_blank byte) open_list = open_list
open_after (a_comment bytes) open_list = open_list
open_after (a_token kind bytes) open_list = list_open_behind kind open_list

token_tells : (open_list : Bool) (before : List TextPart) (kind : ℕ) (bytes : List ℕ) → TellsOpen open_list before
    → fits (kind == GATES_OPEN) (closes kind) bytes ≡ true
    → TellsOpen (list_open_behind kind open_list) (before ++ (a_token kind bytes ∷ []))
token_tells open_list before kind bytes told fit = by (kind == GATES_OPEN) refl (closes kind) refl fit
  where
    by : (opening : Bool) → (kind == GATES_OPEN) ≡ opening → (closing : Bool) → closes kind ≡ closing → fits opening closing bytes ≡ true
        → TellsOpen (if opening then true else if closing then false else open_list) (before ++ (a_token kind bytes ∷ []))
    by true is closing is_closing fit =
        let same : kind ≡ GATES_OPEN = (Decides-eqb kind GATES_OPEN).0 is in
        let spelled : bytes ≡ codes "|[" = (bytes_eq-Decides bytes (codes "|[")).0 fit in
        subst (λ (k : ℕ). HasOpenGates (before ++ (a_token k bytes ∷ []))) (sym same)
        (subst (λ (bs : List ℕ). HasOpenGates (before ++ (a_token GATES_OPEN bs ∷ []))) (sym spelled) (opened_now before))
    by false is true is_closing fit =
        λ opened. closed_now before (a_token kind bytes) (not-true (list_all is_no_bracket bytes) fit) opened
    by false is false is_closing fit =
        left_so open_list before (a_token kind bytes) (fit, λ others same. other_kind others same) told
      where
        kind_of : TextPart → ℕ
        kind_of (a_token k bs) = k
        kind_of (a_comment bs) = 0
        kind_of (a_blank byte) = 0

        other_kind : (others : List ℕ) → a_token kind bytes ≡ a_token GATES_OPEN others → ⊥
        other_kind others same = fails (kind == GATES_OPEN) (ap (λ (k : ℕ). k == GATES_OPEN) (ap kind_of same)) is

pub told_behind : (open_list : Bool) (before : List TextPart) (part : TextPart) (rest : List ℕ) → TellsOpen open_list before
    → Stands before part rest
    → TellsOpen (open_after part open_list) (before ++ (part ∷ []))
told_behind open_list before (a_blank byte) rest told stands =
    left_so open_list before (a_blank byte) (refl, λ bytes same. cc same) told
told_behind open_list before (a_comment inside) rest told stands =
    left_so open_list before (a_comment inside) (refl, λ bytes same. cc same) told
told_behind open_list before (a_token kind bytes) rest told stands =
    token_tells open_list before kind bytes told
    (token_fits stands.open_list kind bytes
    (subst (IsToken stands.open_list kind) (take-append_seam bytes rest) stands.longest.token))
