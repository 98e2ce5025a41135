-- Rows of each table are in a total order, by their keys.
use Rattle.text_core.proofs.Kit.{IsTotalOrder, on_total, then_total, nat_cmp_total, nat_list_cmp_total}
use Rattle.office_tables.specs.Prelude.{device_cmp, entry_cmp, given_cmp, link_cmp, map_cmp, order_cmp, seat_cmp}

pub seat_total : IsTotalOrder seat_cmp
seat_total = on_total (λ s. s.row.name) nat_list_cmp_total

pub order_total : IsTotalOrder order_cmp
order_total = then_total (on_total (λ o. o.customer) nat_list_cmp_total) (on_total (λ o. o.row.name) nat_list_cmp_total)

pub map_total : IsTotalOrder map_cmp
map_total = on_total (λ m. m.id) nat_cmp_total

pub link_total : IsTotalOrder link_cmp
link_total = then_total (on_total (λ l. l.customer) nat_list_cmp_total) (on_total (λ l. l.row.digest) nat_list_cmp_total)

pub device_total : IsTotalOrder device_cmp
device_total = then_total (on_total (λ d. d.customer) nat_list_cmp_total) (on_total (λ d. d.row.chip) nat_list_cmp_total)

pub given_total : IsTotalOrder given_cmp
given_total = then_total (on_total (λ g. g.row.issuer) nat_list_cmp_total) (on_total (λ g. g.row.serial) nat_list_cmp_total)

pub entry_total : IsTotalOrder entry_cmp
entry_total =
    then_total (then_total (on_total (λ e. e.customer) nat_list_cmp_total) (on_total (λ e. e.row.chip) nat_list_cmp_total))
    (on_total (λ e. e.row.number) nat_cmp_total)
