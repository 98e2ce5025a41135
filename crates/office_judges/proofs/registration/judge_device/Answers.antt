use Rattle.std.proofs.Common.{◌≡◌, ◌∙◌, None, inl, refl, sym, rules}
use Rattle.office_rules.specs.Prelude.{office_sight, map_in_sight}
use Rattle.office_rules.proofs.Sights.{map_same}
use Rattle.office_judges.proofs.registration.judge_device.Goals as goal

pub returns-in-None : goal.returns-in-None
returns-in-None g c = record {
  read_only = search rules;
  stays_open = search rules;
  answer = λ is.
      let s = c.args.customer.now in
      let seat = c.args.seat.now in
      let d = c.args.device.now in
      let t = g.K.Keep.tables c.args.keep.now in
      let unknown : map_in_sight (office_sight s seat t) d.map ≡ None =
      sym (map_same s seat t d.map)
      ∙ rw c.name.ensures at (sym (c.in_ok-map.ensures.answer is) ∙ c.in-None.is) in
      inl (rw unknown refl);
}
