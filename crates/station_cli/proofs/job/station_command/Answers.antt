use Rattle.clap.specs.Words.{with_subcommand}
use Rattle.station_cli.specs.Prelude.{check_map_app, check_site_app, replay_app, serve_app, top_app}
use Rattle.station_cli.proofs.Options.{subcommand_added, subcommand_added_last}
use Rattle.station_cli.proofs.job.station_command.Goals as goal

pub returns : goal.returns
returns c =
    let serve = c.in_ok-serve.ensures in
    let replay = c.in_ok-replay.ensures in
    let check_map = c.in_ok-check_map.ensures in
    let check_site = c.in_ok-check_site.ensures in
    let one = subcommand_added c.top_command.result c.in_ok-serve.serve c.in_ok-subcommand.field-0 top_app serve_app
    c.in_ok-subcommand.ensures serve.local c.top_command.ensures serve.shape in
    let two = subcommand_added c.in_ok-subcommand.field-0 c.in_ok-replay.replay c.in_ok-subcommand-2.field-0 (with_subcommand top_app serve_app.top) replay_app
    c.in_ok-subcommand-2.ensures replay.local one replay.shape in
    let three = subcommand_added c.in_ok-subcommand-2.field-0 c.in_ok-check_map.check_map c.in_ok-subcommand-3.field-0
    (with_subcommand (with_subcommand top_app serve_app.top) replay_app.top) check_map_app c.in_ok-subcommand-3.ensures check_map.local two check_map.shape in
    subcommand_added_last c.in_ok-subcommand-3.field-0 c.in_ok-check_site.check_site c.subcommand-4.result
    (with_subcommand (with_subcommand (with_subcommand top_app serve_app.top) replay_app.top) check_map_app.top) check_site_app c.subcommand-4.ensures
    check_site.local three check_site.shape
