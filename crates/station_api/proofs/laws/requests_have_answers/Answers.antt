use Rattle.station_api.proofs.AlwaysAnswers.{always_answers}
use Rattle.station_api.proofs.laws.requests_have_answers.Goals as goal

pub returns : goal.returns
returns c = λ site t r w sound. always_answers site t sound r
