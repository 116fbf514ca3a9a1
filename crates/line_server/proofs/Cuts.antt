-- The lines of bytes behind bytes.
use Rattle.std.proofs.Common.{◌≡◌, ◌≢◌, ℕ, nat_eq, Bool, true, false, List, [], ◌∷◌, ◌++◌, refl, ap, arith}
use Rattle.line_server.specs.Cutting.{complete, unfinished}

pub is_no_feed : (byte : ℕ) → byte ≢ 10 → nat_eq byte 10 ≡ false
is_no_feed byte plain = grind arith

pub complete-append : (line bytes more : List ℕ) → complete line (bytes ++ more) ≡ complete line bytes ++ complete
    (unfinished line bytes) more
complete-append line [] more = refl
complete-append line (byte ∷ bytes) more =
    by (nat_eq byte 10) refl (complete-append [] bytes more) (complete-append (line ++ byte ∷ []) bytes more)
  where
    by : (feed : Bool) → nat_eq byte 10 ≡ feed
        → complete [] (bytes ++ more) ≡ complete [] bytes ++ complete (unfinished [] bytes) more
        → complete (line ++ byte ∷ []) (bytes ++ more)
        ≡ complete (line ++ byte ∷ []) bytes ++ complete (unfinished (line ++ byte ∷ []) bytes) more
        → complete line (byte ∷ bytes ++ more) ≡ complete line (byte ∷ bytes) ++ complete (unfinished line (byte ∷ bytes)) more
    by true is there here = rw (is, complete, unfinished) (ap (λ (ls : List (List ℕ)). line ∷ ls) there)
    by false is there here = rw (is, complete, unfinished) here

pub unfinished-append : (line bytes more : List ℕ) → unfinished line (bytes ++ more) ≡ unfinished (unfinished line bytes) more
unfinished-append line [] more = refl
unfinished-append line (byte ∷ bytes) more =
    by (nat_eq byte 10) refl (unfinished-append [] bytes more) (unfinished-append (line ++ byte ∷ []) bytes more)
  where
    by : (feed : Bool) → nat_eq byte 10 ≡ feed
        → unfinished [] (bytes ++ more) ≡ unfinished (unfinished [] bytes) more
        → unfinished (line ++ byte ∷ []) (bytes ++ more) ≡ unfinished (unfinished (line ++ byte ∷ []) bytes) more
        → unfinished line (byte ∷ bytes ++ more) ≡ unfinished (unfinished line (byte ∷ bytes)) more
    by true is there here = rw (is, unfinished) there
    by false is there here = rw (is, unfinished) here

-- a byte that is no line feed joins the line
pub joins : (line : List ℕ) (byte : ℕ) → byte ≢ 10 → unfinished line (byte ∷ []) ≡ line ++ byte ∷ []
joins line byte plain = let no : nat_eq byte 10 ≡ false = is_no_feed byte plain in rw (no, unfinished) refl

pub completes_none : (line : List ℕ) (byte : ℕ) → byte ≢ 10 → complete line (byte ∷ []) ≡ []
completes_none line byte plain = let no : nat_eq byte 10 ≡ false = is_no_feed byte plain in rw (no, complete) refl
