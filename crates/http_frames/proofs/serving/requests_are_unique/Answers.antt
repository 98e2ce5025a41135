use Rattle.http_frames.proofs.StreamLemmas.{one_request}
use Rattle.http_frames.proofs.serving.requests_are_unique.Goals as goal

pub returns : goal.returns
returns c = one_request
