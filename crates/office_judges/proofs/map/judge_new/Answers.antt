use Rattle.std.proofs.Common.{◌≡◌, ◌<◌, ◌∷◌, [], ◌∙◌, ap, arith, rules}
use Rattle.office_tables.specs.Prelude.{Tables, map_with}
use Rattle.office_rules.specs.Prelude.{map_limit, map_writes}
use Rattle.office_judges.proofs.Links.{new_ruled}
use Rattle.office_judges.proofs.map.judge_new.Goals as goal

pub returns : goal.returns
returns g c = record {
  read_only = search rules;
  stays_open = search rules;
  answer = λ is seat.
      let s = c.args.customer.now in
      let t = g.K.Keep.tables c.args.keep.now in
      let text = c.args.text.now in
      let counted = c.link_write.ensures.read_only.was_open is in
      let before = c.count_links.ensures.read_only.was_open counted in
      let write : c.in_ok-write.write ∷ [] ≡ map_writes s text (map_with text t) =
      c.in_ok-write.ensures.answer is
      ∙ ap (λ (u : Tables). map_writes s text (map_with text u))
      (c.count_links.ensures.read_only.same counted) in
      let room : c.in_ok-count_links.field-0 < map_limit = omega (arith, c.if-branch-ge-MAP_LIMIT.false) in
      new_ruled s seat t text c.requires.sound c.in_ok-count_links.field-0 (c.requires.new before)
      (rw c.name.ensures at (c.in_ok-count_links.ensures.answer counted))
      (record { body = c.args.body; writes = c.in_ok-writes.writes }) room
      (c.in_ok-writes.ensures.items ∙ write) c.requires.body;
}
