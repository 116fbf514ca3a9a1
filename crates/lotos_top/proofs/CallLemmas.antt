-- How a session calls its input and its output.
use Rattle.std.proofs.Common.{◌≡◌, ◌⊎◌, inl, inr, ℕ, ◌+◌, ◌≤◌, List, length, sym, ap, subst, arith}
use Rattle.lotos_base.specs.Outside.{Stream, Stands, FindsEnd, Fails}
use Rattle.lotos_base.proofs.Streams.{stands_still}
use Rattle.line_server.specs.Limits.{input_limit}
use Rattle.line_server.specs.Session.{Reads, one_call, ReadsAll, ReadsUpToFault, ReadsPastLimit, Brings, gave, found_none}
use Rattle.line_server.proofs.ReadBytes.{reads_stand, reads_moved, all_ends, all_moved, fault_fails, fault_moved, past_stands, past_moved}
use Rattle.lotos_top.specs.Causes.{TakesPast, CallsEnd}
use Rattle.lotos_top.specs.Run.{Streams}

pub kept_stands : (before after : Stream) → after ≡ before → Stands before after
kept_stands before after same = subst (λ (it : Stream). Stands before it) (sym same) (stands_still before)

-- an input was called so, and gave at most so many bytes
pub record Took (before after : Stream) (most : ℕ) : Type 0 where
  pub calls : Stands before after ⊎ FindsEnd before after ⊎ Fails before after
  pub taken : ℕ
  pub within : taken ≤ most
  pub bytes : after.moved ≤ before.moved + taken

pub took_none : (before after : Stream) → after ≡ before → Took before after input_limit
took_none before after same = record {
  calls = inl (kept_stands before after same);
  taken = 0;
  within = omega arith;
  bytes = omega (arith, ap (λ (it : Stream). it.moved) same);
}

pub took_some : (before : Stream) (seen : List ℕ) (after : Stream) → length seen ≤ input_limit → Reads before seen after
    → Took before after input_limit
took_some before seen after within reads = record {
  calls = inl (reads_stand before seen after reads);
  taken = length seen;
  within = within;
  bytes = reads_moved before seen after reads;
}

pub took_all : (before : Stream) (seen : List ℕ) (after : Stream) → length seen ≤ input_limit → ReadsAll before seen after
    → Took before after input_limit
took_all before seen after within reads = record {
  calls = inr (inl (all_ends before seen after reads));
  taken = length seen;
  within = within;
  bytes = all_moved before seen after reads;
}

pub took_up_to : (before : Stream) (seen : List ℕ) (after : Stream) → length seen ≤ input_limit → ReadsUpToFault before seen after
    → Took before after input_limit
took_up_to before seen after within reads = record {
  calls = inr (inr (fault_fails before seen after reads));
  taken = length seen;
  within = within;
  bytes = fault_moved before seen after reads;
}

pub took_past : (before : Stream) (seen : List ℕ) (after : Stream) → ReadsPastLimit before seen after
    → Took before after (input_limit + 1)
took_past before seen after past = record {
  calls = inl (past_stands before seen after past);
  taken = length seen + 1;
  within = omega (arith, past.whole);
  bytes = past_moved before seen after past;
}

-- what serving stopped at was brought by the last call
pub took_brought : (before after : Stream) (earlier seen : List ℕ) (lines : List (List ℕ)) → length seen ≤ input_limit
    → Brings before after earlier seen lines → Took before after input_limit
took_brought before after earlier seen lines within (gave between piece reads gives is are) =
    took_some before seen after within (one_call earlier piece seen between after reads gives is)
took_brought before after earlier seen lines within (found_none all is are) =
    took_all before earlier after (omega (arith, within, ap length is)) all

pub brought_counts : (before after : Stream) (earlier seen : List ℕ) (lines : List (List ℕ)) → Brings before after earlier seen lines
    → after.faults ≡ before.faults
brought_counts before after earlier seen lines (gave between piece reads gives is are) =
    (reads_stand before seen after (one_call earlier piece seen between after reads gives is)).faults
brought_counts before after earlier seen lines (found_none all is are) = (all_ends before earlier after all).faults

pub not_past : (before after : Stream) → Took before after input_limit → TakesPast before after → ⊥
not_past before after took past = omega (arith, took.within, took.bytes, past.1, past.2)

pub calls_end : (before after : Streams) (most : ℕ) → most ≤ input_limit + 1 → Took before.input after.input most
    → Stands before.output after.output ⊎ Fails before.output after.output → CallsEnd before after
calls_end before after most within took output = record {
  input = took.calls;
  output = output;
  taken = took.taken;
  within = omega (arith, within, took.within);
  bytes = took.bytes;
}
