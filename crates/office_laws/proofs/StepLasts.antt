-- Each step keeps the tables sound, and forgets nothing.
use Rattle.std.proofs.Common.{◌≡◌, ◌++◌, ℕ, List, [], ◌∷◌, Option, Some, None, refl, sym, subst, option_map}
use Rattle.text_core.specs.Prelude.{first_that_holds}
use Rattle.text_core.proofs.Kit.{mapped, same_Some}
use Rattle.http_replies.specs.Prelude.{Answer}
use Rattle.site_core.specs.Prelude.{PoolsDisjoint, IsSection, Ownership, Section}
use Rattle.office_laws.proofs.Types.{OfCustomer, SeatState, MakeOrder, ImportMap, RegisterDevice, Act, Identify, Import, Request, Change as Changing}
use Rattle.office_tables.specs.Prelude.{Tables, with_seat}
use Rattle.office_tables.proofs.TotalOrders.{seat_total}
use Rattle.office_commands.specs.Prelude.{IsAsked, IsChange, IsCommand}
use Rattle.office_rules.specs.Prelude.{Effect, Put, seat_put, Response, accept, effect, refusals, MakesPut, MakesPuts, Step, its, office_sight, kept_of, Sight}
use Rattle.office_laws.specs.Prelude.{IsSound}
use Rattle.office_laws.proofs.Growing.{seat_grows}
use Rattle.office_laws.proofs.IdentityKept.{identity_kept}
use Rattle.office_laws.proofs.ImportKept.{import_kept}
use Rattle.office_laws.proofs.Lasting.{Lasts, lasts_itself, lasts_named}
use Rattle.office_laws.proofs.Looking.{puts_of}
use Rattle.office_laws.proofs.MapKept.{map_kept}
use Rattle.office_laws.proofs.OrderKept.{order_kept}
use Rattle.office_laws.proofs.RegistrationKept.{registration_kept}
use Rattle.office_laws.proofs.SoundRows.{owned_placed}
use Rattle.office_laws.proofs.Responses.{of_command}
use Rattle.office_laws.proofs.StepKept.{action_kept}

-- a seat's row
seat_sound : {owners : Ownership} {t : Tables} → IsSound owners t → (r : OfCustomer SeatState)
    → owners.seat r.row.name ≡ Some r.customer → IsSound owners (with_seat r t)
seat_sound sound r mine = record {
  seats = owned_placed sound.seats r mine seat_total;
  orders = sound.orders;
  given = sound.given;
  maps = sound.maps;
  devices = sound.devices;
  origins = sound.origins;
  cursors = sound.cursors;
  references = sound.references;
  ledgers = sound.ledgers;
}

-- the puts before the last one, and the last one
pub first_puts : (s : Section) (ps : List Put) (p : Put) (t t2 : Tables)
    → MakesPuts s (ps ++ p ∷ []) t t2
    → (mid : Tables) × MakesPuts s ps t mid × MakesPut s p mid t2
first_puts s [] p t t2 (mid, put, last) = (t, refl, subst (MakesPut s p t) (sym last) put)
first_puts s (q ∷ qs) p t t2 (next, put, later) =
    let rest = first_puts s qs p next t2 later in (rest.0, (next, put, rest.1), rest.2)

module _ {owners : Ownership} {t : Tables} (sound : IsSound owners t) (apart : PoolsDisjoint owners)
    (s : Section) (section : IsSection owners s) (seat : List ℕ)
    (mine : owners.seat seat ≡ Some s.name) where
  abbrev v : Sight
  v = office_sight s seat t

  -- the puts of a command
  pub command_kept : (c : Changing) (e : Effect) (mid : Tables) → IsChange c
      → first_that_holds (refusals s v c) ≡ None → effect s seat v c ≡ Some e → MakesPuts s e.puts t mid
      → Lasts owners t mid
  command_kept (MakeOrder n) e mid asked free is puts =
      order_kept sound apart s section seat n e mid asked free is puts
  command_kept (ImportMap text) e mid asked free is puts =
      map_kept sound s section seat text mid free (puts_of s t mid is puts)
  command_kept (RegisterDevice n) e mid asked free is puts =
      registration_kept sound s section seat mine n e mid free is puts
  command_kept (Act chip action) e mid asked free is puts =
      action_kept sound s section seat mine chip action e mid asked free is puts
  command_kept (Identify n) e mid asked free is puts =
      identity_kept sound s section seat mine n e mid free is puts
  command_kept (Import n) e mid asked free is puts =
      import_kept sound s section seat n e mid is puts

  module _ (r : Request) (t2 : Tables) where
    -- the puts of a response keep the tables sound, and forget nothing
    abbrev AreKept : Option Response → Type 0
    AreKept made = (p : Response) → made ≡ Some p → MakesPuts s p.puts t t2 → Lasts owners t t2

    puts_of_response : {made p : Response} → made ≡ p → MakesPuts s p.puts t t2 → MakesPuts s made.puts t t2
    puts_of_response is puts = subst (λ (x : Response). MakesPuts s x.puts t t2) (sym is) puts

    pub step_lasts : (reply : Answer) → IsAsked r → Step s seat t r reply t2 → Lasts owners t t2
    step_lasts reply asked (puts, is, made) =
        of_command s seat v r AreKept
        (λ other p is puts. lasts_named (puts_of_response (same_Some _ _ is) puts) (lasts_itself sound))
        (λ c its _ free p is puts. accepted c (subst IsCommand its asked) free p is puts)
        (record { reply = reply; puts = puts }) is made
      where
        accepted : (c : Changing) → IsChange c → first_that_holds (refusals s v c) ≡ None
            → AreKept (option_map (accept seat r) (effect s seat v c))
        accepted c asked free p is puts =
            let o = mapped (effect s seat v c) (accept seat r) p is in
            let row : SeatState = kept_of seat r o.0.body in
            let parts = first_puts s o.0.puts (seat_put row) t t2 (puts_of_response o.2 puts) in
            let made = command_kept c o.0 parts.0 asked free o.1 parts.1 in
            lasts_named parts.2 (record {
              sound = seat_sound made.sound (its s row) mine;
              grows = seat_grows t parts.0 (its s row) made.grows;
            })
