use Rattle.std.proofs.Common.{◌≡◌, length, None, Some, arith, refl}
use Rattle.csv.specs.Records.{field_at, fields_of}
use Rattle.id_ranges.proofs.Tables.{two_fields_at}
use Rattle.id_ranges.proofs.read.two_fields.Goals as goal

pub returns-in_err-get : goal.returns-in_err-get
returns-in_err-get c =
    let two : length (fields_of c.args.row.now) ≡ 2 = omega (arith, c.len.ensures) in
    let none : None ≡ field_at (fields_of c.args.row.now) 0 = rw c.in_err-get.was at c.get.ensures.value in
    rw (c.from_residual.ensures, two_fields_at (fields_of c.args.row.now) two, ← none) refl

pub returns-in_err-get-2 : goal.returns-in_err-get-2
returns-in_err-get-2 c =
    let two : length (fields_of c.args.row.now) ≡ 2 = omega (arith, c.len.ensures) in
    let some : Some c.in_ok-get.field-0.now ≡ field_at (fields_of c.args.row.now) 0 = rw c.in_ok-get.was at c.get.ensures.value in
    let none : None ≡ field_at (fields_of c.args.row.now) 1 = rw c.in_err-get-2.was at c.get-2.ensures.value in
    rw (c.from_residual-in_err-get-2.ensures, two_fields_at (fields_of c.args.row.now) two, ← some, ← none) refl

pub returns : goal.returns
returns c =
    let two : length (fields_of c.args.row.now) ≡ 2 = omega (arith, c.len.ensures) in
    let first : Some c.in_ok-get.field-0.now ≡ field_at (fields_of c.args.row.now) 0 = rw c.in_ok-get.was at c.get.ensures.value in
    let second : Some c.in_ok-get-2.field-0.now ≡ field_at (fields_of c.args.row.now) 1 = rw c.in_ok-get-2.was at c.get-2.ensures.value in
    rw (two_fields_at (fields_of c.args.row.now) two, ← first, ← second) refl
