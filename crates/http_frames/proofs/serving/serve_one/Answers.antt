use Rattle.std.proofs.Common.{◌∙◌, arith, ap, sym, subst, refl, drop, List, ℕ, [], ◌∷◌, true}
use Rattle.http_frames.specs.Prelude.{unread}
use Rattle.http_frames.specs.Prelude.{Sending, ending_of_sent, answered, refused, ServesBytes}
use Rattle.http_replies.specs.Prelude.{answer_of}
use Rattle.http_frames.proofs.StreamLemmas.{cycle_cut, cycle_fault, cycle_limit, cycle_refused, cycle_answered, is_one_exchange, reply_same}
use Rattle.http_frames.proofs.serving.serve_one.Goals as goal

pub returns-in-Cut-clause-served_one : goal.returns-in-Cut-clause-served_one
returns-in-Cut-clause-served_one g c = (
  [],
  omega arith,
  cycle_cut (unread c.args.buffer.now) c.read_request.new.buffer.window (unread c.read_request.new.buffer) (g.R.Source.left c.args.reader.now)
      (g.R.Source.left c.read_request.new.reader)
      (g.W.Drain.written c.args.writer.now) c.in-Cut.ensures.bytes c.in-Cut.ensures.framed,
  refl {a = c.args.state.now},
)

pub returns-in-ReadFault-clause-served_one : goal.returns-in-ReadFault-clause-served_one
returns-in-ReadFault-clause-served_one g c = (
  [],
  omega arith,
  cycle_fault (unread c.args.buffer.now) c.read_request.new.buffer.window (unread c.read_request.new.buffer) (g.R.Source.left c.args.reader.now)
      (g.R.Source.left c.read_request.new.reader)
      (g.W.Drain.written c.args.writer.now) c.in-ReadFault.ensures.bytes c.in-ReadFault.ensures.framed,
  refl {a = c.args.state.now},
)

pub returns-in-TurnLimit-clause-served_one : goal.returns-in-TurnLimit-clause-served_one
returns-in-TurnLimit-clause-served_one g c = (
  [],
  omega arith,
  cycle_limit (unread c.args.buffer.now) c.read_request.new.buffer.window (unread c.read_request.new.buffer) (g.R.Source.left c.args.reader.now)
      (g.R.Source.left c.read_request.new.reader)
      (g.W.Drain.written c.args.writer.now) c.in-TurnLimit.ensures.bytes c.in-TurnLimit.ensures.framed.0,
  refl {a = c.args.state.now},
)

pub returns-in-Refused-clause-served_one : goal.returns-in-Refused-clause-served_one
returns-in-Refused-clause-served_one g c =
    let text = reply_same _ _ c.in-Refused.is_head _ true _ c.refusal_reply-reply.ensures refl refl in
    let sends =
    subst (λ (s : List ℕ). Sending (g.W.Drain.written c.args.writer.now) (g.W.Drain.written c.write_reply.new.writer) s c.write_reply.result) text
    c.write_reply.ensures.sent
    in
    let exchange = refused c.in-Refused.refusal c.in-Refused.is_head in
    rw c.outcome.ensures (
      exchange ∷ [],
      is_one_exchange c.write_reply.result true exchange,
      cycle_refused (unread c.args.buffer.now) c.read_request.new.buffer.window (unread c.write_reply.new.buffer) (g.R.Source.left c.args.reader.now)
          (g.R.Source.left c.read_request.new.reader)
          (g.W.Drain.written c.args.writer.now) (g.W.Drain.written c.write_reply.new.writer) c.in-Refused.refusal c.in-Refused.is_head c.write_reply.result
          c.in-Refused.ensures.bytes
          c.in-Refused.ensures.framed sends,
      refl {a = c.args.state.now},
    )

pub returns-in-Request-clause-served_one : goal.returns-in-Request-clause-served_one
returns-in-Request-clause-served_one g c =
    let window = c.read_request.new.buffer.window in
    let framed = c.in-Request.ensures.framed in
    let next = ap unread c.write_reply-in-Request.ensures.counted.same_window ∙ ap (λ n. drop n window) framed.2 in
    let reply = c.answer-reply.result in
    let text = reply_same (answer_of reply) (answer_of reply) _ _ _ _ refl framed.1.is_head framed.1.is_last in
    let sends =
    subst (λ (s : List ℕ). Sending (g.W.Drain.written c.args.writer.now)
    (g.W.Drain.written c.write_reply-in-Request.new.writer) s c.write_reply-in-Request.result) text
    c.write_reply-in-Request.ensures.sent
    in
    let exchange = answered framed.0 (answer_of reply) in
    let serves =
    cycle_answered (unread c.args.buffer.now) window (drop c.in-Request.frame.end window) (g.R.Source.left c.args.reader.now)
    (g.R.Source.left c.read_request.new.reader)
    (g.W.Drain.written c.args.writer.now) (g.W.Drain.written c.write_reply-in-Request.new.writer) framed.0 (answer_of reply) c.in-Request.frame.is_last
    c.write_reply-in-Request.result c.in-Request.ensures.bytes framed.1.whole framed.1.is_last sends
    in
    rw c.outcome-in-Request.ensures (
      exchange ∷ [],
      is_one_exchange c.write_reply-in-Request.result c.in-Request.frame.is_last exchange,
      subst (λ (s : List ℕ). ServesBytes (unread c.args.buffer.now) (g.R.Source.left c.args.reader.now) s (g.R.Source.left c.read_request.new.reader)
          (g.W.Drain.written c.args.writer.now)
          (g.W.Drain.written c.write_reply-in-Request.new.writer) (ending_of_sent c.write_reply-in-Request.result c.in-Request.frame.is_last) (exchange ∷ []))
          (sym next) serves,
      (c.answer-reply.new.state, c.answer-reply.ensures framed.0 framed.1, refl {a = c.answer-reply.new.state}),
    )
