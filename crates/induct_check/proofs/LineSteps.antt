-- Lines of a text, read one after another.
use Rattle.std.proofs.Common.{◌≡◌, ◌<◌, ◌≤◌, ◌+◌, true, false, ℕ, List, [], ◌∷◌, Some, None, slice_get, length, drop, refl, ap, sym, ◌∙◌, subst, arith, add-one}
use Rattle.std.proofs.Math.ListN.{drop_of_length-le}
use Rattle.lotos_base.proofs.Members.{member_at}
use Rattle.lotos_base.proofs.Pieces.{next_member}
use Rattle.std.proofs.lemmas.Option.{get_or_from_slice_get}
use Rattle.lotos_base.specs.Signature.{Signature}
use Rattle.induct_check.specs.CertificateReading.{ReadSoFar, Piece, FailsWithLeft, with_piece}
use Rattle.induct_check.specs.TextFaults.{LineGives, task_behind, ReadText, stopped_reading, stopped_at, may_end, LinesReadTo, ends, lacks_a_line, lacks_line_feed, goes_on, stops, stops_at_left}

module _ (parts : List (List ℕ)) where
  -- a line behind which something stands
  pub record IsLineAt (k : ℕ) (line : List ℕ) : Type 0 where
    pub next : List ℕ
    pub more : List (List ℕ)
    pub here : drop k parts ≡ line ∷ next ∷ more
    pub there : drop (k + 1) parts ≡ next ∷ more

  from_here : (k : ℕ) (part : List ℕ) → k < length parts → slice_get parts k ≡ Some part → drop k parts ≡ part ∷ drop (k + 1) parts
  from_here k part within at = next_member parts k part within (sym (get_or_from_slice_get parts k part part at))

  pub line_at : (k : ℕ) (line : List ℕ) → k + 1 < length parts → slice_get parts k ≡ Some line → IsLineAt k line
  line_at k line within at =
      let other = member_at parts (k + 1) within in
      let behind : drop (k + 1) parts ≡ other.0 ∷ drop (k + 1 + 1) parts = from_here (k + 1) other.0 within other.1 in
      record {
        next = other.0;
        more = drop (k + 1 + 1) parts;
        here = from_here k line (omega (arith, within)) at ∙ ap (λ xs. line ∷ xs) behind;
        there = behind;
      }

  module _ (signature : Signature) where
    pub line_read : (k : ℕ) (line : List ℕ) (reading behind : ReadSoFar) (piece : Piece) (text : ReadText) → k + 1 < length parts
        → slice_get parts k ≡ Some line → LineGives signature reading line piece → behind ≡ with_piece reading piece
        → LinesReadTo signature (k + 1 + 1) behind (drop (k + 1) parts) text
        → LinesReadTo signature (k + 1) reading (drop k parts) text
    line_read k line reading behind piece text within is gives made rest =
        let at = line_at k line within is in
        subst (λ ls. LinesReadTo signature (k + 1) reading ls text) (sym at.here)
        (goes_on piece gives
        (subst (λ (n : ℕ). LinesReadTo signature n (with_piece reading piece) (at.next ∷ at.more) text) (add-one (k + 1))
        (subst (λ (r : ReadSoFar). LinesReadTo signature (k + 1 + 1) r (at.next ∷ at.more) text) made
        (subst (λ ls. LinesReadTo signature (k + 1 + 1) behind ls text) at.there rest))))

    pub line_stops : (k : ℕ) (line : List ℕ) (reading : ReadSoFar) → k + 1 < length parts → slice_get parts k ≡ Some line
        → ((piece : Piece) → ¬ LineGives signature reading line piece)
        → ¬ FailsWithLeft signature (task_behind signature reading line)
        → LinesReadTo signature (k + 1) reading (drop k parts) (stopped_at reading (k + 1) line)
    line_stops k line reading within is none not_left =
        let at = line_at k line within is in
        subst (λ ls. LinesReadTo signature (k + 1) reading ls (stopped_at reading (k + 1) line)) (sym at.here) (stops none not_left)

    pub line_fails : (k : ℕ) (line : List ℕ) (reading : ReadSoFar) → k + 1 < length parts → slice_get parts k ≡ Some line
        → FailsWithLeft signature (task_behind signature reading line)
        → LinesReadTo signature (k + 1) reading (drop k parts) (stopped_at reading k line)
    line_fails k line reading within is fails =
        let at = line_at k line within is in
        subst (λ ls. LinesReadTo signature (k + 1) reading ls (stopped_at reading k line)) (sym at.here)
        (subst (λ (n : ℕ). LinesReadTo signature n reading (line ∷ at.next ∷ at.more) (stopped_at reading k line)) (sym (add-one k))
        (stops_at_left fails))

    -- what stands behind the last line
    pub rest_read : (k last : ℕ) (rest : List ℕ) (reading : ReadSoFar) (text : ReadText) → k ≤ last → last ≤ k → last + 1 ≡ length parts
        → slice_get parts last ≡ Some rest → LinesReadTo signature (last + 1) reading (rest ∷ []) text
        → LinesReadTo signature (k + 1) reading (drop k parts) text
    rest_read k last rest reading text low high long at comes =
        let same : last ≡ k = omega (arith, low, high) in
        let only : drop last parts ≡ rest ∷ [] =
        from_here last rest (omega (arith, long)) at ∙ ap (λ xs. rest ∷ xs) (drop_of_length-le parts (omega (arith, long))) in
        subst (λ (n : ℕ). LinesReadTo signature (n + 1) reading (drop n parts) text) same
        (subst (λ ls. LinesReadTo signature (last + 1) reading ls text) (sym only) comes)

-- what stands behind the last line feed
pub lacks_feed : (signature : Signature) (number : ℕ) (reading : ReadSoFar) (rest : List ℕ) (text : ReadText) → (rest ≡ [] → ⊥)
    → text ≡ stopped_at reading number rest → LinesReadTo signature number reading (rest ∷ []) text
lacks_feed signature number reading [] text some is = absurd (some refl)
lacks_feed signature number reading (byte ∷ bytes) text some is =
    subst (λ (t : ReadText). LinesReadTo signature number reading ((byte ∷ bytes) ∷ []) t) (sym is) lacks_line_feed

pub comes_to_end : (signature : Signature) (number : ℕ) (reading : ReadSoFar) (rest : List ℕ) → rest ≡ [] → may_end reading.part ≡ true
    → LinesReadTo signature number reading (rest ∷ []) (record { certificate = reading.certificate; stop = None })
comes_to_end signature number reading rest none end =
    subst (λ (r : List ℕ). LinesReadTo signature number reading (r ∷ []) (record { certificate = reading.certificate; stop = None }))
    (sym none)
    (ends end)

pub lacks_line : (signature : Signature) (number : ℕ) (reading : ReadSoFar) (rest : List ℕ) → rest ≡ [] → may_end reading.part ≡ false
    → LinesReadTo signature number reading (rest ∷ []) (stopped_reading reading number false)
lacks_line signature number reading rest none open_ =
    subst (λ (r : List ℕ). LinesReadTo signature number reading (r ∷ []) (stopped_reading reading number false)) (sym none)
    (lacks_a_line open_)
