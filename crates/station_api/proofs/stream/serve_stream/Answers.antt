use Rattle.http_frames.specs.Prelude.{requests_with_answers}
use Rattle.station_api.specs.Prelude.{Says, AnswersHttp, exchange_in}
use Rattle.station_api.proofs.KeptRuns.{led}
use Rattle.station_api.proofs.Streaming.{runs_honest, runs_said, runs_tables, runs_text}
use Rattle.station_api.proofs.stream.serve_stream.Goals as goal

pub returns-clause-was_honest : goal.returns-clause-was_honest
returns-clause-was_honest g c = λ honest.
    let site = c.args.site.now in
    let made = c.serve_stream.ensures.run in
    runs_honest g.K.Keep (Says site) (exchange_in site) (AnswersHttp site) (requests_with_answers made.0) c.args.keep.now c.serve_stream.new.state made.2 honest

pub returns-clause-run : goal.returns-clause-run
returns-clause-run g c =
    let k = g.K.Keep in
    let site = c.args.site.now in
    let made = c.serve_stream.ensures.run in
    let exchanges = requests_with_answers made.0 in
    let old = c.args.keep.now in
    let new = c.serve_stream.new.state in (
      made.0,
      made.1,
      runs_said k (Says site) (exchange_in site) (AnswersHttp site) exchanges old new made.2,
      (λ honest t stands.
          let over = runs_tables k (Says site) (exchange_in site) (AnswersHttp site) exchanges old new made.2 honest t stands in (
            over.0,
            led k site old new c.fact_rules.ensures exchanges t over.0 over.1 over.2
                (runs_text k (Says site) (exchange_in site) (AnswersHttp site) exchanges old new made.2) over.3,
          )),
    )
