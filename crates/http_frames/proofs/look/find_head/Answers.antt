use Rattle.std.proofs.Common.{◌≡◌, ◌∙◌, ap, subst, take, length, arith}
use Rattle.std.proofs.lemmas.List.{take_min}
use Rattle.httparse.specs.Grammar.{HasNoRequest}
use Rattle.httparse.specs.Spans.{RequestOverflows}
use Rattle.http_frames.proofs.FrameLemmas.{head_found, bad_full, bad_overflowing, overflows_window}
use Rattle.http_frames.proofs.look.find_head.Goals as goal

pub returns-in-Ok-Complete : goal.returns-in-Ok-Complete
returns-in-Ok-Complete c =
    let window = c.args.window.now in
    let front = ap (λ n. take n window) c.min.ensures ∙ take_min 8192 window in
    let found = rw c.in-Ok-Complete.field-0-is at c.in-Ok-Complete.ensures.complete in
    let within = rw c.in-Ok-Complete.field-0-is at c.in-Ok-Complete.ensures.within in
    let full : length c.parse_request.new.headers ≡ 64 = omega arith in
    (found.0, head_found window c.parse_request.new.headers c.in-Ok-Complete.head found.0 _ front full within found.1)

pub returns-else-window-lt-HEAD_LIMIT : goal.returns-else-window-lt-HEAD_LIMIT
returns-else-window-lt-HEAD_LIMIT c =
    let window = c.args.window.now in
    let front = ap (λ n. take n window) c.min.ensures ∙ take_min 8192 window in
    let none = rw c.in-Ok-Partial.field-0-is at c.in-Ok-Partial.ensures.partial in
    bad_full window c.if-window-lt-HEAD_LIMIT.false (subst HasNoRequest front none)

pub returns-in-Err : goal.returns-in-Err
returns-in-Err c =
    let window = c.args.window.now in
    let front = ap (λ n. take n window) c.min.ensures ∙ take_min 8192 window in
    let over = rw c.requires at c.in-Err.ensures.no_room in
    bad_overflowing window (overflows_window 8192 window (subst (RequestOverflows 64) front over))
