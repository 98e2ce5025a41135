use Rattle.http_frames.proofs.CutLemmas.{one_stream}
use Rattle.http_frames.proofs.serving.streams_are_determined.Goals as goal

pub returns : goal.returns
returns c = one_stream
