use Rattle.std.proofs.Common.{◌∙◌, ap, inl, Some, sym}
use Rattle.http_frames.specs.Prelude.{path_of, query_of}
use Rattle.station_requests.specs.declared.parse.Route.TheVariants.{Asks}
use Rattle.station_requests.specs.Prelude.{of_manager}
use Rattle.station_requests.proofs.Routes.{asked_read, led_to}
use Rattle.station_requests.proofs.parse.parse_command.Goals as goal

pub returns-in-Asks-Seat-clause-asked : goal.returns-in-Asks-Seat-clause-asked
returns-in-Asks-Seat-clause-asked c = λ request framed.
    let target = c.target.ensures request framed in
    rw c.in-Asks-Seat.is-1
    (asked_read request c.in-Asks-Seat.operation _ _ _ _ _ (c.method-method.ensures request framed) (c.split_target.ensures.path ∙ ap path_of target)
    (c.split_target.ensures.query ∙ ap query_of target) (c.body.ensures request framed)
    (sym c.find_route.ensures ∙ (c.in_ok-route.ensures.ok_part ∙ ap Some c.in-Asks-Seat.is-0)) c.read_request.ensures.asked)

pub returns-in-Asks-Manager-clause-asked : goal.returns-in-Asks-Manager-clause-asked
returns-in-Asks-Manager-clause-asked c = λ request framed.
    rw c.in-Asks-Manager.is-1
    (inl (sym (led_to request of_manager (Asks c.in-Asks-Manager.field-0-0) _ _ (c.method-method.ensures request framed)
    (c.split_target.ensures.path ∙ ap path_of (c.target.ensures request framed))
    (sym c.find_route.ensures ∙ (c.in_ok-route.ensures.ok_part ∙ ap Some c.in-Asks-Manager.is-0)))))
