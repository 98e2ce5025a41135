use Rattle.std.proofs.Common.{◌≡◌, true, refl}
use Rattle.text_core.specs.Prelude.{is_serial}
use Rattle.text_core.proofs.Kit.{IsOk-from_cases}
use Rattle.id_ranges.proofs.Texts.{serial_is_text}
use Rattle.id_ranges.proofs.serial_range.SerialRange.text.Goals as goal

pub unwrap-requires : goal.unwrap-requires
unwrap-requires c =
    let one : is_serial c.as_bytes.result.now ≡ true = rw (c.as_bytes.ensures.same) c.bytes-bytes.ensures.is_one in
    IsOk-from_cases _ _ _ c.from_utf8.ensures.cases (λ e q. q.0 (serial_is_text _ one))

pub unwrap-requires-2 : goal.unwrap-requires-2
unwrap-requires-2 c =
    let cases = rw c.unwrap.ensures at c.from_utf8.ensures.cases in
    let one : is_serial c.unwrap.result.now ≡ true = rw (cases.0, c.as_bytes.ensures.same) c.bytes-bytes.ensures.is_one in
    rw (c.parse.ensures, one) refl
