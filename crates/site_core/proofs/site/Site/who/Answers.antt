use Rattle.std.proofs.Common.{◌≡◌, ◌∙◌, Some, is_some, ap, rules}
use Rattle.sha2.specs.Sha256.{sha256}
use Rattle.site_core.specs.Prelude.{caller_of, seat_caller_with}
use Rattle.site_core.specs.declared.site.Caller.TheVariants.{Seat}
use Rattle.site_core.proofs.Callers.{seat_caller_with-holder, caller_of-known}
use Rattle.site_core.proofs.site.Site.who.Goals as goal

pub returns-in-Some-clause-holder : goal.returns-in-Some-clause-holder
returns-in-Some-clause-holder c =
    let digest = sha256 c.args.token.now in
    let value : seat_caller_with digest c.args.self.now.customers ≡ Some c.in-Some.caller = search rules in
    rw value at (seat_caller_with-holder digest c.args.self.now)

pub returns-in-Some-clause-known : goal.returns-in-Some-clause-known
returns-in-Some-clause-known c =
    let value : Some (Seat c.in-Some.caller) ≡ caller_of c.args.self.now c.args.token.now = search rules in
    ap is_some value ∙ caller_of-known c.args.self.now c.args.token.now

pub returns-in-None-clause-known : goal.returns-in-None-clause-known
returns-in-None-clause-known c =
    let value : c.manager_with.result ≡ caller_of c.args.self.now c.args.token.now = search rules in
    ap is_some value ∙ caller_of-known c.args.self.now c.args.token.now
