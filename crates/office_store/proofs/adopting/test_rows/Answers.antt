use Rattle.std.proofs.Common.{◌≡◌, ◌↔◌, [], None, Bool, Result, Ok, IsTrue, inl, inr}
use Rattle.site_core.specs.Prelude.{TextOfSite}
use Rattle.office_sql.proofs.Kit.{Database, Error, HasCleanDisk, Held, state}
use Rattle.sqlite.specs.Store.{Ghosts}
use Rattle.office_store.proofs.Types.{OpenFault, Version}
use Rattle.office_store.specs.Prelude.{CanPrepareTables, Examines, result_of_test}
use Rattle.store_inspection.specs.Prelude.{HasApartAddresses, HasWhole, IsFound, Tests, schema_of}
use Rattle.office_store.proofs.ReadAnswers.{clean_at}
use Rattle.office_store.proofs.Refusals.{answered, examines_then, found_after, says_nothing}
use Rattle.office_store.proofs.adopting.test_rows.Goals as goal

-- what was tested is so whatever the site
anybody : TextOfSite
anybody = record { text = []; site = record { customers = []; manager = None }; digest = [] }

-- the numbers were asked for
numbers_asked : {S : Type 0} (g : Ghosts S) (site : TextOfSite) (old new : Held S) → (IsTrue (state g new).is_open → HasCleanDisk (state g new))
    → (version : Version) → CanPrepareTables (state g old) → (state g old).now.schema ≡ schema_of version
    → (r : Result Bool Error) → Tests g old new r (λ db whole. IsTrue whole ↔ HasWhole db)
    → (told : Result (Unit {0}) OpenFault) → told ≡ result_of_test r → Examines g site old new told (IsFound version)
numbers_asked g site old new calm version can has = answered g site old new calm version can.mode can.shows_committed (λ _. has) HasWhole (IsFound version)
    (λ clean whole. can.found clean version has whole) (λ clean low. inl low)

pub has_apart_addresses-requires : goal.has_apart_addresses-requires
has_apart_addresses-requires g c =
    let v = c.args.version in
    let mid = c.has_whole_numbers.new.conn in
    let calm = clean_at g.S.Store g.met.S.Store.shut_if_dirty mid in
    let one = numbers_asked g.S.Store anybody c.args.conn.now mid calm v c.requires.can c.requires.has _ c.has_whole_numbers.ensures
    (Ok tt) c.in_ok-judge_answer.ensures in
    (v, λ up. (found_after g.S.Store anybody v one c.requires.can.shows_committed (λ clean found. found)).found (calm up))

pub returns : goal.returns
returns g c site =
    let v = c.args.version in
    let mid = c.has_whole_numbers.new.conn in
    let new = c.has_apart_addresses.new.conn in
    let shuts = g.met.S.Store.shut_if_dirty in
    let one = numbers_asked g.S.Store site c.args.conn.now mid (clean_at g.S.Store shuts mid) v
    c.requires.can c.requires.has _ c.has_whole_numbers.ensures (Ok tt) c.in_ok-judge_answer.ensures in
    let found = found_after g.S.Store site v one c.requires.can.shows_committed (λ clean found. found) in
    examines_then g.S.Store site one
    (answered g.S.Store site mid new (clean_at g.S.Store shuts new) v found.mode found.shows_committed (λ clean. (found.found clean).schema)
    HasApartAddresses (λ (db : Database). HasApartAddresses db.trees)
    (λ clean apart. apart) (λ clean meets. inr (inr (inr (inr meets)))) _ c.has_apart_addresses.ensures _ c.judge_answer-2.ensures)
    (λ clean found apart. (found, apart))

pub returns-in_err-judge_answer : goal.returns-in_err-judge_answer
returns-in_err-judge_answer g c site =
    let new = c.has_whole_numbers.new.conn in
    says_nothing g.S.Store site _ c.from_residual.ensures.1
    (numbers_asked g.S.Store site c.args.conn.now new (clean_at g.S.Store g.met.S.Store.shut_if_dirty new) c.args.version
    c.requires.can c.requires.has _ c.has_whole_numbers.ensures _ c.in_err-judge_answer.ensures)
