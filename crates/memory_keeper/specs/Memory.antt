-- What a keeper in memory keeps.
use Rattle.office_tables.specs.Prelude.{Tables}
use Rattle.memory_keeper.specs.declared.memory.MemKeep.{MemKeep}

-- the tables
abbrev pub tables_of : MemKeep → Tables
tables_of k = record { seats = k.seats; orders = k.orders; devices = k.devices; given = k.given; maps = k.maps; links = k.links; ledger = k.ledger }
