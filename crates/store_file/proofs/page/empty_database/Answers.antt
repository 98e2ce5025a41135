use Rattle.std.proofs.Common.{◌≡◌, ◌∙◌, inr, refl, rules, drop_at, take_at}
use Rattle.std.proofs.lemmas.List.Elements.{All-replicate, All-same}
use Rattle.store_file.proofs.page.empty_database.Goals as goal

pub returns-clause-page : goal.returns-clause-page
returns-clause-page c = record {
  head = take_at c.copy_from_slice.new.self _ 108 (search rules) ∙ c.copy_from_slice.ensures.after;
  zeros =
      All-same (λ byte. byte ≡ 0) _ _ (drop_at c.copy_from_slice.new.self _ 108 (search rules)) (All-replicate (λ byte. byte ≡ 0) 916 0 refl);
}

pub returns-clause-header : goal.returns-clause-header
returns-clause-header c = (
  record { magic = refl; size = refl; versions = inr refl },
  record { fractions = refl; format = inr refl; encoding = inr refl; no_vacuum = (refl, refl); counted = refl },
)
