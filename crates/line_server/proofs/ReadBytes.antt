-- What the calls of an input come to.
use Rattle.std.proofs.Common.{◌≡◌, ◌⊎◌, inl, inr, ℕ, ◌+◌, ◌<◌, ◌≤◌, nat_lt, if◌then◌else◌, Bool, true, false, List, [], ◌∷◌, ◌++◌, length, Option, Some, None, IfSome, refl, sym, ap, subst, ◌∙◌, append_assoc, arith, length-append}
use Rattle.std.proofs.lemmas.Bool.{ltb-false, lt-ltb, le-ltb, cases_lt}
use Rattle.lotos_base.specs.Counts.{last_count, raised_count}
use Rattle.lotos_base.specs.Outside.{Stream, Stands, FindsEnd, Fails, IsCall}
use Rattle.lotos_base.proofs.Streams.{stands_still, stands_then, end_then, fails_then}
use Rattle.line_server.specs.Turn.{IsReadOfInput, IsAtEnd, Gives, GivesNone, GivesFault}
use Rattle.line_server.specs.Session.{Reads, no_call, one_call, ReadsAll, ReadsUpToFault, ReadsPastLimit}

-- ---- The bytes

read_nothing : (before after : Option (List ℕ)) → after ≡ before → IsReadOfInput before [] after
read_nothing None after same = tt
read_nothing (Some bytes) after same = (bytes, refl, same)

read_then : (before between after : Option (List ℕ)) (bytes more : List ℕ) → IsReadOfInput before bytes between
    → IsReadOfInput between more after
    → IsReadOfInput before (bytes ++ more) after
read_then None between after bytes more first second = tt
read_then (Some left) between after bytes more first second =
    let next : (rest : List ℕ) × (first.0 ≡ more ++ rest) × (after ≡ Some rest) = rw first.2 at second in (
      next.0,
      first.1 ∙ (ap (λ (it : List ℕ). bytes ++ it) next.1 ∙ sym (append_assoc bytes more next.0)),
      next.2,
    )

-- nothing was left behind the bytes
read_all : (before between after : Option (List ℕ)) (bytes : List ℕ) → IsReadOfInput before bytes between → IsAtEnd between after
    → IsReadOfInput before bytes after × IfSome before (λ _. after ≡ Some [])
read_all None between after bytes first end = (tt, tt)
read_all (Some left) between after bytes first end =
    let none : (first.0 ≡ []) × (after ≡ Some []) = rw first.2 at end in
    ((first.0, first.1, none.1 ∙ ap (λ (it : List ℕ). Some it) (sym none.0)), none.1)

pub reads_left : (before : Stream) (seen : List ℕ) (after : Stream) → Reads before seen after → IsReadOfInput before.bytes seen after.bytes
reads_left before seen after (no_call _ _ none same) =
    subst (λ (it : List ℕ). IsReadOfInput before.bytes it after.bytes) (sym none)
    (read_nothing before.bytes after.bytes (ap (λ (it : Stream). it.bytes) same))
reads_left before seen after (one_call earlier bytes _ between _ reads gives is) =
    subst (λ (it : List ℕ). IsReadOfInput before.bytes it after.bytes) (sym is)
    (read_then before.bytes between.bytes after.bytes earlier bytes (reads_left before earlier between reads) gives.read)

pub all_left : (before : Stream) (seen : List ℕ) (after : Stream) → ReadsAll before seen after → IsReadOfInput before.bytes seen after.bytes
all_left before seen after all =
    (read_all before.bytes all.between.bytes after.bytes seen (reads_left before seen all.between all.reads) all.none.none).0

pub all_gone : (before : Stream) (seen : List ℕ) (after : Stream) → ReadsAll before seen after → IfSome before.bytes (λ _. after.bytes ≡ Some [])
all_gone before seen after all =
    (read_all before.bytes all.between.bytes after.bytes seen (reads_left before seen all.between all.reads) all.none.none).1

pub past_left : (before : Stream) (seen : List ℕ) (after : Stream) (past : ReadsPastLimit before seen after)
    → IsReadOfInput before.bytes (seen ++ past.byte ∷ []) after.bytes
past_left before seen after past =
    read_then before.bytes past.between.bytes after.bytes seen (past.byte ∷ []) (reads_left before seen past.between past.reads) past.more.read

-- ---- The calls

pub reads_stand : (before : Stream) (seen : List ℕ) (after : Stream) → Reads before seen after → Stands before after
reads_stand before seen after (no_call _ _ none same) = subst (λ (it : Stream). Stands before it) (sym same) (stands_still before)
reads_stand before seen after (one_call earlier bytes _ between _ reads gives is) =
    stands_then before between after (reads_stand before earlier between reads) gives.stands

pub all_ends : (before : Stream) (seen : List ℕ) (after : Stream) → ReadsAll before seen after → FindsEnd before after
all_ends before seen after all = end_then before all.between after (reads_stand before seen all.between all.reads) all.none.ends

pub fault_fails : (before : Stream) (seen : List ℕ) (after : Stream) → ReadsUpToFault before seen after → Fails before after
fault_fails before seen after up_to =
    fails_then before up_to.between after (reads_stand before seen up_to.between up_to.reads) up_to.fault.fails.fails

pub past_stands : (before : Stream) (seen : List ℕ) (after : Stream) → ReadsPastLimit before seen after → Stands before after
past_stands before seen after past =
    stands_then before past.between after (reads_stand before seen past.between past.reads) past.more.stands

-- ---- How many bytes

either_within : (test : Bool) (one other bound : ℕ) → one ≤ bound → (test ≡ false → other ≤ bound)
    → (if test then one else other) ≤ bound
either_within true one other bound first second = first
either_within false one other bound first second = second refl

raised_below : (count more : ℕ) → count + more < last_count → raised_count count more ≡ count + more
raised_below count more below =
    ap (λ (test : Bool). if test then count + more else last_count) (lt-ltb (count + more) last_count below)

raised_above : (count more : ℕ) → last_count ≤ count + more → raised_count count more ≡ last_count
raised_above count more above =
    ap (λ (test : Bool). if test then count + more else last_count) (le-ltb (count + more) last_count above)

raised_within : (count more : ℕ) → raised_count count more ≤ count + more
raised_within count more =
    either_within (nat_lt (count + more) last_count) (count + more) last_count (count + more) (omega arith)
    (λ no. ltb-false (count + more) last_count no)

call_moved : (before after : Stream) (count : ℕ) → IsCall before after count → after.moved ≤ before.moved + count
call_moved before after count call = omega (arith, call.moved, raised_within before.moved count)

pub reads_moved : (before : Stream) (seen : List ℕ) (after : Stream) → Reads before seen after
    → after.moved ≤ before.moved + length seen
reads_moved before seen after (no_call _ _ none same) = omega (arith, ap (λ (it : Stream). it.moved) same)
reads_moved before seen after (one_call earlier bytes _ between _ reads gives is) =
    omega (
      arith,
      reads_moved before earlier between reads,
      call_moved between after (length bytes) gives.call,
      ap (λ (it : List ℕ). length it) is,
      length-append earlier bytes,
    )

pub all_moved : (before : Stream) (seen : List ℕ) (after : Stream) → ReadsAll before seen after → after.moved ≤ before.moved + length seen
all_moved before seen after all =
    omega (arith, reads_moved before seen all.between all.reads, call_moved all.between after 0 all.none.call)

pub fault_moved : (before : Stream) (seen : List ℕ) (after : Stream) → ReadsUpToFault before seen after
    → after.moved ≤ before.moved + length seen
fault_moved before seen after up_to = omega (arith, reads_moved before seen up_to.between up_to.reads, up_to.fault.fails.moved)

pub past_moved : (before : Stream) (seen : List ℕ) (after : Stream) → ReadsPastLimit before seen after
    → after.moved ≤ before.moved + (length seen + 1)
past_moved before seen after past =
    omega (arith, reads_moved before seen past.between past.reads, call_moved past.between after 1 past.more.call)

-- how far a count was raised, by all calls together
raised_then : (count more later : ℕ) → raised_count (raised_count count more) later ≡ raised_count count (more + later)
raised_then count more later = by (cases_lt (count + more) last_count)
  where
    same : count + more + later ≡ count + (more + later)
    same = omega arith

    by : (count + more < last_count) ⊎ (last_count ≤ count + more)
        → raised_count (raised_count count more) later ≡ raised_count count (more + later)
    by (inl below) =
        ap (λ (n : ℕ). raised_count n later) (raised_below count more below)
        ∙ ap (λ (n : ℕ). if nat_lt n last_count then n else last_count) same
    by (inr above) =
        ap (λ (n : ℕ). raised_count n later) (raised_above count more above)
        ∙ (raised_above last_count later (omega arith) ∙ sym (raised_above count (more + later) (omega (arith, above))))

-- no call was made, or they raised the count of the bytes by all that was read
reads_raised : (before : Stream) (seen : List ℕ) (after : Stream) → Reads before seen after
    → (seen ≡ [] × (after ≡ before)) ⊎ (after.moved ≡ raised_count before.moved (length seen))
reads_raised before seen after (no_call _ _ none same) = inl (none, same)
reads_raised before seen after (one_call earlier bytes _ between _ reads gives is) = inr (by (reads_raised before earlier between reads))
  where
    length_is : length seen ≡ length earlier + length bytes
    length_is = ap (λ (it : List ℕ). length it) is ∙ length-append earlier bytes

    by : (earlier ≡ [] × (between ≡ before)) ⊎ (between.moved ≡ raised_count before.moved (length earlier))
        → after.moved ≡ raised_count before.moved (length seen)
    by (inl none) =
        let same : length bytes ≡ length seen = omega (arith, length_is, ap (λ (it : List ℕ). length it) none.0) in
        gives.call.moved
        ∙ (ap (λ (it : Stream). raised_count it.moved (length bytes)) none.1
        ∙ ap (λ (n : ℕ). raised_count before.moved n) same)
    by (inr raised) =
        gives.call.moved
        ∙ (ap (λ (n : ℕ). raised_count n (length bytes)) raised
        ∙ (raised_then before.moved (length earlier) (length bytes) ∙ ap (λ (n : ℕ). raised_count before.moved n) (sym length_is)))

pub past_raised : (before : Stream) (seen : List ℕ) (after : Stream) → ReadsPastLimit before seen after
    → after.moved ≡ raised_count before.moved (length seen + 1)
past_raised before seen after past = by (reads_raised before seen past.between past.reads)
  where
    by : (seen ≡ [] × (past.between ≡ before)) ⊎ (past.between.moved ≡ raised_count before.moved (length seen))
        → after.moved ≡ raised_count before.moved (length seen + 1)
    by (inl none) =
        past.more.call.moved
        ∙ (ap (λ (it : Stream). raised_count it.moved 1) none.1
        ∙ ap (λ (it : List ℕ). raised_count before.moved (length it + 1)) (sym none.0))
    by (inr raised) =
        past.more.call.moved ∙ (ap (λ (n : ℕ). raised_count n 1) raised ∙ raised_then before.moved (length seen) 1)
