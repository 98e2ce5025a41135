use Rattle.office_store.proofs.closing.connection_of.Goals as goal

pub returns-clause-may : goal.returns-clause-may
returns-clause-may g c = λ up. g.met.S.Store.stays c.args.keep.conn.store up
