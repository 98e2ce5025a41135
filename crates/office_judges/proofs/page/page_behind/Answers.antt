use Rattle.std.proofs.Common.{◌≤◌, ◌∙◌, ap, ap₂, length, rules, lit≤, refl, if◌then◌else◌, is_some, None}
use Rattle.text_core.proofs.Kit.{nat_lt, take}
use Rattle.office_rules.specs.Prelude.{last_chip, page_limit}
use Rattle.office_judges.proofs.Pages.{met, page_left, page_shown}
use Rattle.office_judges.proofs.page.page_behind.Goals as goal

pub returns-in-None : goal.returns-in-None
returns-in-None g c = record {
  read_only = search rules;
  stays_open = search rules;
  answer = λ is.
      let rows = (g.K.Keep.tables c.args.keep.now).devices in
      let visits = c.in_ok-fill_page.ensures.answer is in
      let from = met c.args.customer.now c.args.after rows in
      let room : length c.new.result.items ≤ page_limit = rw c.new.ensures.items (lit≤ tt) in
      let held = rw c.new.ensures.items at (page_shown _ _ _ visits (ap is_some c.in-None.is) room) in
      let left = rw c.new.ensures.items at (page_left _ _ _ visits (ap is_some c.in-None.is) room refl) in
      let shown = held ∙ ap (take page_limit) from in
      record {
        shown = shown;
        next = c.next_of-next.ensures
            ∙ ap₂ (λ b devices. if b then last_chip devices else None)
            (left ∙ ap (λ l. nat_lt page_limit (length l)) from) shown;
      };
}
