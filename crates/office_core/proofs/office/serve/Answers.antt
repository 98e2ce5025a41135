use Rattle.std.proofs.Common.{inl, rules}
use Rattle.office_core.proofs.CarriedOut.{shows}
use Rattle.office_core.proofs.office.serve.Goals as goal

pub returns-in-Show : goal.returns-in-Show
returns-in-Show g c = record {
  was_open = search rules;
  was_honest = search rules;
  stays_open = search rules;
  change = λ is.
      shows c.args.customer.now c.args.seat.now (g.K.Keep.tables c.args.keep.now) _
      c.args.request.now c.in-Show.asked c.show.result c.in-Show.is
      (c.show.ensures.read_only.same is) (c.show.ensures.answer is);
  crash = search rules;
  text = c.show.ensures.read_only.text;
  commits = inl c.show.ensures.read_only.uncommitted;
}
