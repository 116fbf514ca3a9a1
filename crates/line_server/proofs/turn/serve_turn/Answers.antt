use Rattle.std.proofs.Common.{◌≡◌, ◌≢◌, ◌+◌, ◌≤◌, ℕ, List, take, get_or, length, refl, subst, arith}
use Rattle.std.proofs.lemmas.List.{length-take-le}
use Rattle.lotos_base.specs.Outside.{Stream}
use Rattle.line_server.specs.Turn.{Gives, at_end, input_failed, past_limit, in_piece, by_line, by_stop}
use Rattle.line_server.specs.declared.ends.Stop.TheVariants as stop
use Rattle.line_server.proofs.TurnLemmas.{gives_taken, gives_none, gives_fault, one_taken, some_within}
use Rattle.line_server.proofs.turn.serve_turn.Goals as goal

pub returns-in-Err-clause-turned : goal.returns-in-Err-clause-turned
returns-in-Err-clause-turned g c =
    input_failed (gives_fault _ _ c.in-Err.ensures.kept c.in-Err.ensures.counted) refl c.close.ensures

pub returns-in-Ok-eq0-clause-turned : goal.returns-in-Ok-eq0-clause-turned
returns-in-Ok-eq0-clause-turned g c =
    at_end (gives_none _ _ _ _ c.in-Ok-eq0.field-0-test c.in-Ok-eq0.ensures.moved c.in-Ok-eq0.ensures.counted)
    (rw c.as_slice.ensures.value at c.finish.ensures.served)

pub returns-then-total-eq-INPUT_LIMIT-clause-turned : goal.returns-then-total-eq-INPUT_LIMIT-clause-turned
returns-then-total-eq-INPUT_LIMIT-clause-turned g c =
    let one : c.in-Ok.count ≡ 1 =
    omega (arith, c.in-Ok.ensures.within, c.room_at-room.ensures.alone c.if-total-eq-INPUT_LIMIT.true, c.in-Ok.count-test.1) in
    past_limit (get_or c.read_piece.new.piece 0 0) c.if-total-eq-INPUT_LIMIT.true
    (subst (λ (it : List ℕ). Gives (g.S.Source.state c.args.input.now) (g.S.Source.state c.read_piece.new.input) it)
    (one_taken c.read_piece.new.piece c.in-Ok.count one (omega (arith, c.in-Ok.ensures.length, c.requires.piece)))
    (gives_taken _ _ c.read_piece.new.piece c.in-Ok.count c.in-Ok.count-test.1
    (omega (arith, one, c.in-Ok.ensures.length, c.requires.piece)) (omega (arith, one)) c.in-Ok.ensures.moved c.in-Ok.ensures.counted))
    refl c.close-then-total-eq-INPUT_LIMIT.ensures

pub returns-in-Ok-true-clause-turned : goal.returns-in-Ok-true-clause-turned
returns-in-Ok-true-clause-turned g c =
    let within = some_within c.read_piece.new.piece _ c.in-Ok.count _ _ c.in-Ok.ensures.within c.room_at-room.ensures.fits
    c.room_at-room.ensures.within c.in-Ok.ensures.length c.requires.piece c.requires.within c.if-total-eq-INPUT_LIMIT.false in
    in_piece (take c.in-Ok.count c.read_piece.new.piece)
    (gives_taken _ _ c.read_piece.new.piece c.in-Ok.count c.in-Ok.count-test.1 within.0 within.1 c.in-Ok.ensures.moved
    c.in-Ok.ensures.counted) within.2 (by_line (rw c.in-Ok-true.field-0-test at c.in-Ok-true.ensures.served))

pub returns-in-Err-OutputFailed-clause-turned : goal.returns-in-Err-OutputFailed-clause-turned
returns-in-Err-OutputFailed-clause-turned g c =
    let within = some_within c.read_piece.new.piece _ c.in-Ok.count _ _ c.in-Ok.ensures.within c.room_at-room.ensures.fits
    c.room_at-room.ensures.within c.in-Ok.ensures.length c.requires.piece c.requires.within c.if-total-eq-INPUT_LIMIT.false in
    in_piece (take c.in-Ok.count c.read_piece.new.piece)
    (gives_taken _ _ c.read_piece.new.piece c.in-Ok.count c.in-Ok.count-test.1 within.0 within.1 c.in-Ok.ensures.moved
    c.in-Ok.ensures.counted) within.2
    (by_stop stop.OutputFailed (rw c.in-Err-OutputFailed.field-0-is at c.in-Err-OutputFailed.ensures.served))

pub returns-in-Err-NoMemory-clause-turned : goal.returns-in-Err-NoMemory-clause-turned
returns-in-Err-NoMemory-clause-turned g c =
    let within = some_within c.read_piece.new.piece _ c.in-Ok.count _ _ c.in-Ok.ensures.within c.room_at-room.ensures.fits
    c.room_at-room.ensures.within c.in-Ok.ensures.length c.requires.piece c.requires.within c.if-total-eq-INPUT_LIMIT.false in
    in_piece (take c.in-Ok.count c.read_piece.new.piece)
    (gives_taken _ _ c.read_piece.new.piece c.in-Ok.count c.in-Ok.count-test.1 within.0 within.1 c.in-Ok.ensures.moved
    c.in-Ok.ensures.counted) within.2
    (by_stop stop.NoMemory (rw c.in-Err-NoMemory.field-0-is at c.in-Err-NoMemory.ensures.served))

pub returns-in-Ok-false-clause-turned : goal.returns-in-Ok-false-clause-turned
returns-in-Ok-false-clause-turned g c =
    let within = some_within c.read_piece.new.piece _ c.in-Ok.count _ _ c.in-Ok.ensures.within c.room_at-room.ensures.fits
    c.room_at-room.ensures.within c.in-Ok.ensures.length c.requires.piece c.requires.within c.if-total-eq-INPUT_LIMIT.false in record {
      bytes = take c.in-Ok.count c.read_piece.new.piece;
      gives = gives_taken _ _ c.read_piece.new.piece c.in-Ok.count c.in-Ok.count-test.1 within.0 within.1 c.in-Ok.ensures.moved
          c.in-Ok.ensures.counted;
      total = omega (arith, length-take-le c.in-Ok.count c.read_piece.new.piece within.0);
      within = omega (
        arith,
        c.in-Ok.ensures.within,
        c.room_at-room.ensures.within,
        c.requires.within,
        c.if-total-eq-INPUT_LIMIT.false,
      );
      served = rw c.in-Ok-false.field-0-test at c.in-Ok-false.ensures.served;
      line = rw c.in-Ok-false.field-0-test at c.in-Ok-false.ensures.begins;
    }
