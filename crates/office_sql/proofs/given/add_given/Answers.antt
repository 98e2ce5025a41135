use Rattle.std.proofs.Common.{sym, subst}
use Rattle.office_sql.proofs.Kit.{state, clean_if_open}
use Rattle.office_tables.specs.Prelude.{IsFree, IsAddressFree}
use Rattle.office_tables.specs.declared.rows.Write.TheVariants.{AddGiven}
use Rattle.office_sql.specs.Prelude.{IsOffice, tables_in}
use Rattle.office_sql.proofs.given.add_given.Goals as goal

pub insert_record-requires-clause-office : goal.insert_record-requires-clause-office
insert_record-requires-clause-office g c up =
    let store = c.find_address_free.new.tx.conn.now.store in
    let stands = c.in_ok-find_address_free.ensures.looks.stands (clean_if_open (g.S.Store.view store) (g.met.S.Store.shut_if_dirty store) up) in
    subst IsOffice (sym stands.now) (c.requires.office (stands.was_open up))

pub insert_record-requires-clause-free : goal.insert_record-requires-clause-free
insert_record-requires-clause-free g c up =
    let store = c.find_address_free.new.tx.conn.now.store in
    let stands = c.in_ok-find_address_free.ensures.looks.stands (clean_if_open (g.S.Store.view store) (g.met.S.Store.shut_if_dirty store) up) in
    subst (λ d. IsFree (AddGiven c.args.given.now) (tables_in d.trees)) (sym stands.now) (c.requires.free (stands.was_open up))

pub insert_record-requires-clause-address_free : goal.insert_record-requires-clause-address_free
insert_record-requires-clause-address_free g c up =
    let store = c.find_address_free.new.tx.conn.now.store in
    let looks = c.in_ok-find_address_free.ensures.looks in
    let clean = clean_if_open (g.S.Store.view store) (g.met.S.Store.shut_if_dirty store) up in
    let free = looks.answer clean in
    subst (λ d. IsAddressFree c.args.given.now.row.mac (tables_in d.trees).given) (sym (looks.stands clean).now)
    (subst (λ o. IsAddressFree o (tables_in (state g.S.Store c.args.tx.now.conn.now).now.trees).given) c.in_ok-address.ensures.back free)
