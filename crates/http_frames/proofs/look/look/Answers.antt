use Rattle.std.proofs.Common.{sym, ◌∙◌}
use Rattle.http_frames.proofs.FrameLemmas.{frame_found}
use Rattle.http_frames.proofs.look.look.Goals as goal

pub returns : goal.returns
returns c =
    let found = c.in-Whole.ensures in (
      _,
      frame_found c.args.window.now c.find_head.new.spans c.in-Whole.head found.0 c.in-Ok.size _ _ found.1
          (sym c.read_body_size.ensures ∙ c.in-Ok.is) c.if-window-head.false c.has_head_method-is_head.ensures c.is_last_request.ensures,
    )
