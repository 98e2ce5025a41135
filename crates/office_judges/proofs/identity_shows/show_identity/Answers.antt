use Rattle.std.proofs.Common.{◌≡◌, ◌∙◌, ℕ, List, Some, sym, ap, rules}
use Rattle.office_commands.specs.Prelude.{idevid_in, identity_body}
use Rattle.office_judges.proofs.Types.{Given}
use Rattle.office_commands.specs.declared.refusal.Refusal.TheVariants.{WrongState}
use Rattle.office_tables.specs.Prelude.{Tables, device_at}
use Rattle.office_rules.specs.Prelude.{found_or, identity_in_sight, office_sight}
use Rattle.office_judges.proofs.identity_shows.show_identity.Goals as goal

pub returns : goal.returns
returns g c = record {
  read_only = search rules;
  stays_open = search rules;
  answer = λ is seat.
      let s = c.args.customer.now in
      let chip = c.args.chip.now in
      let t = g.K.Keep.tables c.args.keep.now in
      let d = c.in-Some.device in
      let before = c.find_identity.ensures.read_only.was_open is in
      let there : device_at s.name chip t ≡ Some d =
      sym (rw c.name.ensures at (c.in_ok-device.ensures.answer before)) ∙ c.in-Some.is in
      let seen : c.in_ok-found.found ≡ identity_in_sight (office_sight s seat t) d.row =
      c.in_ok-found.ensures.answer is seat
      ∙ ap (λ (u : Tables). identity_in_sight (office_sight s seat u) d.row)
      (c.device.ensures.read_only.same before) in
      let body : Given → List ℕ = λ given. identity_body chip (idevid_in given) in
      rw there (c.in_ok-identity_reply.ensures ∙ ap (found_or WrongState body) seen);
}
