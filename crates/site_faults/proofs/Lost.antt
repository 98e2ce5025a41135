-- What is lost of a customer, by the place of its name.
use Rattle.std.proofs.Common.{◌≡◌, ◌∙◌, ap, bytes_eq, ℕ, List, Option, Some, position}
use Rattle.std.specs.Option.{option_map_or}
use Rattle.site_core.specs.Prelude.{Section}
use Rattle.site_faults.specs.Prelude.{customer_lost, gone, lost_at}
use Rattle.site_faults.specs.declared.breach.SiteBreach.{SiteBreach}

pub lost_by_name : (new : List Section) (old : Section) (name : List ℕ) (found : Option ℕ) (result : Option SiteBreach) → name ≡ old.name
    → found ≡ position (λ s. bytes_eq name s.name) new → result ≡ option_map_or (lost_at new old) found (Some (gone old)) → result ≡ customer_lost new old
lost_by_name new old name found result same is e =
    e ∙ ap (λ (f : Option ℕ). option_map_or (lost_at new old) f (Some (gone old)))
    (is ∙ ap (λ (n : List ℕ). position (λ (s : Section). bytes_eq n s.name) new) same)
