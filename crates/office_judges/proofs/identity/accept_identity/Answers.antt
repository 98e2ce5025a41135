use Rattle.std.proofs.Common.{◌∙◌, ap, rules}
use Rattle.office_commands.specs.Prelude.{idevid_in, identity_body}
use Rattle.office_judges.proofs.Types.{Given}
use Rattle.office_judges.proofs.identity.accept_identity.Goals as goal

pub returns : goal.returns
returns g c = record {
  read_only = search rules;
  stays_open = search rules;
  answer = λ is.
      let accepted = c.in_ok-body-2.ensures.answer is in (
        accepted.0
            ∙ (c.in_ok-body.ensures
            ∙ ap (λ (row : Given). identity_body c.args.device.now.chip (idevid_in row))
            c.row_of-row.ensures),
        search rules,
      );
}
