use Rattle.std.proofs.Common.{◌≡◌, List, ℕ, Option, IfErr, IfOk, rules, sym, subst}
use Rattle.station_cli.proofs.Outcomes.{check_fails, check_told, growth_fails, growth_told}
use Rattle.station_cli.specs.Prelude.{IsOfCheck, IsToldOf}
use Rattle.station_cli.proofs.running.checked_site.Goals as goal

pub returns-in-Some : goal.returns-in-Some
returns-in-Some c =
    let ends = c.check_files.ensures in
    let site = c.args.site.now in
    let result = c.check_files.result in
    record {
      told = subst (λ (o : Option (List ℕ)). IfOk result (IsToldOf site o)) (sym c.in-Some.is)
          (growth_told (λ b. b.items) _ _ site c.in-Some.old _ _ result (search rules) (search rules) ends.unread ends.unread_old ends.read);
      failed = subst (λ (o : Option (List ℕ)). IfErr result (IsOfCheck site o)) (sym c.in-Some.is)
          (growth_fails (λ b. b.items) _ _ site c.in-Some.old _ _ result (search rules) (search rules) ends.unread ends.unread_old ends.read);
    }

pub returns-in-None : goal.returns-in-None
returns-in-None c =
    let ends = c.check_file.ensures in
    let site = c.args.site.now in
    let result = c.check_file.result in
    record {
      told = subst (λ (o : Option (List ℕ)). IfOk result (IsToldOf site o)) (sym c.in-None.is)
          (check_told (λ b. b.items) _ site _ result (search rules) ends.unread ends.read);
      failed = subst (λ (o : Option (List ℕ)). IfErr result (IsOfCheck site o)) (sym c.in-None.is)
          (check_fails (λ b. b.items) _ site _ result (search rules) ends.unread ends.read);
    }
