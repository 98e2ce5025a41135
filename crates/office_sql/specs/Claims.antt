-- What an order has taken, as a query shows it.
use Rattle.sqlite.specs.Order.{Row, column, bytes}
use Rattle.office_tables.specs.declared.rows.OrderClaim.{OrderClaim}
use Rattle.office_sql.specs.Values.{mac_if, number_in_cell}

-- the issuer, the range and the addresses of an order, as a row of seven columns shows them
abbrev pub claim_in : Row → OrderClaim
claim_in r = record {
  issuer = bytes (column r 0);
  range = record {
    prefix = bytes (column r 1);
    width = number_in_cell (column r 2);
    first = number_in_cell (column r 3);
    quantity = number_in_cell (column r 4);
  };
  macs = number_in_cell (column r 5);
  mac = mac_if (column r 6);
}
