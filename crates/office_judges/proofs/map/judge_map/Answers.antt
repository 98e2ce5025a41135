use Rattle.std.proofs.Common.{◌≡◌, ◌∙◌, true, false, None, Some, inl, subst, sym, rules}
use Rattle.sha2.specs.Sha256.{sha256}
use Rattle.office_tables.specs.Prelude.{Tables, link_at, map_at}
use Rattle.office_tables.proofs.Reading.{reads_more}
use Rattle.office_commands.specs.declared.command.Change.TheVariants.{ImportMap}
use Rattle.office_rules.specs.Prelude.{map_fault}
use Rattle.office_judges.specs.Prelude.{has_text, IsJudged}
use Rattle.office_judges.proofs.Links.{known_ruled, other_refused}
use Rattle.office_judges.proofs.map.judge_map.Goals as goal

pub returns-in-Some-link : goal.returns-in-Some-link
returns-in-Some-link g c = record {
  read_only = search rules;
  stays_open = search rules;
  answer = λ is seat.
      let s = c.args.customer.now in
      let t = g.K.Keep.tables c.args.keep.now in
      let text = c.args.text.now in
      let link = c.in-Some-link.link in
      let before = c.has_text.ensures.read_only.was_open is in
      let sound : map_fault text ≡ None = sym c.in_ok-fault.ensures ∙ c.in_default.is in
      let known : link_at s.name (sha256 text) t ≡ Some link =
      rw (c.name.ensures, c.of-digest.ensures, c.as_bytes.ensures.value, c.as_str.ensures)
      at (sym (c.in_ok-link.ensures.answer before) ∙ c.in-Some-link.is) in
      let same : has_text text (map_at link.row.map t) ≡ true =
      sym (rw (c.link.ensures.read_only.same before) at (c.in_ok-has_text.ensures.answer is)) ∙ c.if-branch.true in
      known_ruled s seat t text sound link known
      (record { body = c.in_ok-body.body; writes = c.new-writes.result }) same c.new-writes.ensures.items
      (rw (c.of-digest.ensures, c.as_bytes.ensures.value, c.as_str.ensures) at c.in_ok-body.ensures);
}

pub returns-in-Some-2 : goal.returns-in-Some-2
returns-in-Some-2 g c = record {
  read_only = search rules;
  stays_open = search rules;
  answer = λ is seat.
      let s = c.args.customer.now in
      let t = g.K.Keep.tables c.args.keep.now in
      let text = c.args.text.now in
      let link = c.in-Some-link.link in
      let before = c.has_text.ensures.read_only.was_open is in
      let sound : map_fault text ≡ None = sym c.in_ok-fault.ensures ∙ c.in_default.is in
      let known : link_at s.name (sha256 text) t ≡ Some link =
      rw (c.name.ensures, c.of-digest.ensures, c.as_bytes.ensures.value, c.as_str.ensures)
      at (sym (c.in_ok-link.ensures.answer before) ∙ c.in-Some-link.is) in
      let other : has_text text (map_at link.row.map t) ≡ false =
      sym (rw (c.link.ensures.read_only.same before) at (c.in_ok-has_text.ensures.answer is)) ∙ c.if-branch.false in
      inl (other_refused s seat t text sound link known other);
}

pub returns-in-None : goal.returns-in-None
returns-in-None g c = record {
  read_only = reads_more c.link.ensures.read_only c.judge_new.ensures.read_only;
  stays_open = c.judge_new.ensures.stays_open;
  answer = λ is seat. subst (λ (u : Tables). IsJudged c.args.customer.now seat u (ImportMap c.args.text.now) c.judge_new.result)
      (c.link.ensures.read_only.same (c.judge_new.ensures.read_only.was_open is)) (c.judge_new.ensures.answer is seat);
}
