use Rattle.std.proofs.Common.{length, ap, arith}
use Rattle.http_replies.proofs.head.put_number.Goals as goal

pub put-requires : goal.put-requires
put-requires c =
    let same = ap length c.as_bytes.ensures.value in
    omega (arith, c.format.ensures.fits)

pub returns-clause-short : goal.returns-clause-short
returns-clause-short c =
    let same = ap length c.as_bytes.ensures.value in
    (omega arith, omega (arith, c.format.ensures.fits))
