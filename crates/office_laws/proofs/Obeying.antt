-- A step acts on the customer's view as the customer's own machine does, leaves each other view,
-- keeps the tables sound, and forgets nothing.
use Rattle.std.proofs.Common.{◌≡◌, ℕ, false, List, Some, sym, ap, bytes_eq}
use Rattle.std.specs.Option.{unwrap_or}
use Rattle.http_replies.specs.Prelude.{Answer}
use Rattle.site_core.specs.Prelude.{PoolsDisjoint, IsSection, Ownership, Section}
use Rattle.office_tables.specs.Prelude.{Tables}
use Rattle.office_commands.specs.Prelude.{IsAsked, refusal}
use Rattle.office_laws.proofs.Types.{Request, unkept}
use Rattle.office_rules.specs.Prelude.{Step}
use Rattle.office_laws.specs.Prelude.{alone, call_by, Grows, SoloState, IsSound, view}
use Rattle.office_laws.proofs.Machine.{step_own}
use Rattle.office_laws.proofs.StepLasts.{step_lasts}

-- a reply and tables after it are those of the customer's own machine; another view stays
pub record Obeys (owners : Ownership) (c : List ℕ) (t : Tables) (reply : Answer) (t2 : Tables)
    (said : Answer × SoloState) : Type 0 where
  pub sound : IsSound owners t2
  pub grows : Grows t t2
  pub own : (reply, view c t2) ≡ said
  pub other : (d : List ℕ) → bytes_eq d c ≡ false → view d t2 ≡ view d t

module _ {owners : Ownership} {t : Tables} (sound : IsSound owners t) (s : Section) (seat : List ℕ) where
  pub step_obeys : PoolsDisjoint owners → IsSection owners s → (r : Request) (reply : Answer)
      (t2 : Tables) → IsAsked r → owners.seat seat ≡ Some s.name → Step s seat t r reply t2
      → Obeys owners s.name t reply t2 (alone (call_by s seat r) (view s.name t))
  step_obeys apart section r reply t2 asked mine step =
      let views = step_own sound s section seat mine r reply t2 step in
      let lasts = step_lasts sound apart s section seat mine r t2 reply asked step in
      record {
        sound = lasts.sound;
        grows = lasts.grows;
        own = sym (ap (λ made. unwrap_or made (refusal unkept, view s.name t)) views.0);
        other = views.1;
      }
