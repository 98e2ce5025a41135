-- The words of this crate, passed on from one place. Declares nothing.
pub use Rattle.site_faults.specs.Breaches.{breach_at, breach_words, broken_unless, customer_at, customer_breach, customer_lost}
pub use Rattle.site_faults.specs.Breaches.{customers_breach, customers_lost, document_breach, first_again, first_lost, gone, is_over}
pub use Rattle.site_faults.specs.Breaches.{item_breach, item_count, item_rule, items_breach, kind_breach, limit_breach, lost_at, members_breach}
pub use Rattle.site_faults.specs.Breaches.{of_whole, over_at, over_item, part_at, part_lost, parts_breach, parts_in, pool_changed}
pub use Rattle.site_faults.specs.Breaches.{repeat_breach, section_lost, site_breach, site_told, text_breach, told_if_faulty, told_of}
pub use Rattle.site_faults.specs.Breaches.{fault_words, IsToldGrowth, tokens_in_order, too_long}
pub use Rattle.site_faults.specs.Words.{item_limit, item_word, place_words, rule_words, title_words}
