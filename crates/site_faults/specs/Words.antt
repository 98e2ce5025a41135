-- The words that places and rules show as.
use Rattle.std.specs.Prelude.{ℕ, ◌++◌, List, [], codes, decimal}
use Rattle.site_faults.specs.declared.item.Item.{Item}
use Rattle.site_faults.specs.declared.item.Item.TheVariants.{Issuer, Pool, Seat}
use Rattle.site_faults.specs.declared.place.Title.{Title}
use Rattle.site_faults.specs.declared.place.Title.TheVariants.{Named, Numbered}
use Rattle.site_faults.specs.declared.place.SitePlace.{SitePlace}
use Rattle.site_faults.specs.declared.place.SitePlace.TheVariants.{Whole, Customers, Manager, Customer, Part}
use Rattle.site_faults.specs.declared.rule.SiteRule.{SiteRule}
use Rattle.site_faults.specs.declared.rule.SiteRule.TheVariants as rule

-- the name of a kind's member
abbrev pub item_word : Item → List ℕ
item_word Issuer = codes "issuer"
item_word Pool = codes "pool"
item_word Seat = codes "seat"

-- how many parts of a kind a customer may have
abbrev pub item_limit : Item → ℕ
item_limit Issuer = 8
item_limit Pool = 16
item_limit Seat = 64

-- a customer
abbrev pub title_words : Title → List ℕ
title_words (Named name) = name
title_words (Numbered number) = decimal number

-- a place, in front of a rule
abbrev pub place_words : SitePlace → List ℕ
place_words Whole = []
place_words Customers = codes "customer: "
place_words Manager = codes "manager: "
place_words (Customer title) = codes "customer " ++ title_words title ++ codes ": "
place_words (Part title item number) =
    codes "customer " ++ title_words title ++ codes ", " ++ item_word item ++ codes " " ++ decimal number ++ codes ": "

-- a rule
abbrev pub rule_words : SiteRule → List ℕ
rule_words rule.Document = codes "the text is no TOML document"
rule_words rule.Length = codes "the text has more than 1048576 bytes"
rule_words rule.CustomerArray = codes "it has to be an array of tables"
rule_words rule.Name = codes "a name has to be 1 to 32 of A-Z a-z 0-9 . _ -"
rule_words (rule.ItemArray item) = item_word item ++ codes " has to be an array"
rule_words rule.First = codes "first has to be twelve digits 0-9 a-f"
rule_words rule.Count = codes "count has to be 1 to 16777216"
rule_words rule.Token = codes "token has to be a SHA-256, 64 hexadecimal digits"
rule_words rule.OnceNamed = codes "the name is there already"
rule_words rule.OnceHeld = codes "the token is there already"
rule_words rule.Apart = codes "an address lies in a pool before it too"
rule_words rule.Individual = codes "an address is a group address, or has more than 48 bits"
rule_words rule.CustomerLimit = codes "there are more than 64"
rule_words (rule.ItemLimit item) = codes "it has more than " ++ decimal (item_limit item) ++ codes " of " ++ item_word item
rule_words rule.Kept = codes "it is gone, or has changed"
