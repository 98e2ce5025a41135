-- The import of a fuse map keeps the tables sound, and forgets nothing.
use Rattle.std.proofs.Common.{◌≡◌, ◌∙◌, ◌++◌, ℕ, List, [], ◌∷◌, Option, Some, None, refl, sym, ap, if◌then◌else◌, is_some, option_map}
use Rattle.sha2.specs.Sha256.{sha256}
use Rattle.text_core.specs.Prelude.{first_that_holds}
use Rattle.site_core.specs.Prelude.{IsSection, Ownership, Section}
use Rattle.office_laws.proofs.Types.{Link, MapRow, OfCustomer, BadMap}
use Rattle.office_tables.specs.Prelude.{Tables, link_at, map_at, map_with, with_link, with_map}
use Rattle.office_rules.specs.Prelude.{map_put, map_effect, map_fault, map_refusals, text_refusals, Links, MakesPuts, its, office_sight, body_of_map, Refusals}
use Rattle.office_rules.specs.Prelude.{Sight, refused_for}
use Rattle.office_laws.specs.Prelude.{Grows, IsLinked, IsSound}
use Rattle.office_laws.proofs.Growing.{grows_itself, link_grows, map_grows}
use Rattle.office_laws.proofs.Lasting.{Lasts, lasts_itself, lasts_named}
use Rattle.office_laws.proofs.MapLaws.{link_sound, map_sound}
use Rattle.office_laws.proofs.MapRows.{map_of_text, new_map_found}

-- a text that nothing refuses has no fault
no_fault_of : (text : List ℕ) (fault : Option ℕ) (later : Refusals) → map_fault text ≡ fault
    → first_that_holds (refused_for BadMap fault ++ later) ≡ None → map_fault text ≡ None
no_fault_of text None later e free = e
no_fault_of text (Some fault) later e free = cc

module _ {owners : Ownership} {t : Tables} (sound : IsSound owners t) (s : Section)
    (section : IsSection owners s) where
  -- a link to a map that is there, or was just made
  link_kept : (text : List ℕ) (mapped : Tables) (l : Link) (m : MapRow) → IsSound owners mapped
      → Grows t mapped → map_at l.map mapped ≡ Some m → l.digest ≡ sha256 text → text ≡ m.body
      → map_fault text ≡ None → link_at s.name l.digest mapped ≡ None
      → Lasts owners t (with_link (its s l) mapped)
  link_kept text mapped l m sound_mapped grown there is_digest is_text no_fault none =
      let linked : IsLinked mapped.maps (its s l) =
      rw there (is_digest ∙ ap sha256 is_text, ap map_fault (sym is_text) ∙ no_fault) in
      record {
        sound = link_sound sound_mapped (its s l) section.customer linked none;
        grows = link_grows t mapped (its s l) none grown;
      }

  links_kept : (text : List ℕ) (found : Option MapRow) (mid : Tables) → map_with text t ≡ found
      → map_fault text ≡ None → link_at s.name (sha256 text) t ≡ None → Links s t text found mid
      → Lasts owners t mid
  links_kept text (Some m) mid e no_fault none is =
      let at = map_of_text text t.maps m sound.maps.maps_ascending e in
      lasts_named is (link_kept text t (record { digest = sha256 text; map = m.id }) m sound
      (grows_itself t) at.0 refl at.1 no_fault none)
  links_kept text None mid e no_fault none (id, fresh, is) =
      let m : MapRow = record { id = id; body = text } in
      lasts_named is (link_kept text (with_map m t) (record { digest = sha256 text; map = id }) m
      (map_sound sound id text fresh e) (map_grows t id text fresh sound.maps.linked)
      (new_map_found t id text fresh) refl refl no_fault none)

  module _ (seat : List ℕ) where
    abbrev v : Sight
    v = office_sight s seat t

    pub map_kept : (text : List ℕ) (mid : Tables) → first_that_holds (map_refusals v text) ≡ None
        → MakesPuts s (map_effect v text).puts t mid → Lasts owners t mid
    map_kept text mid free puts = by (link_at s.name (sha256 text) t) refl puts
      where
        by : (found : Option (OfCustomer Link)) → link_at s.name (sha256 text) t ≡ found
            → MakesPuts s (if is_some (option_map (λ l. body_of_map (map_at l.row.map t)) found) then []
            else map_put text ∷ []) t mid → Lasts owners t mid
        by (Some l) there puts = lasts_named puts (lasts_itself sound)
        by None there (next, put, last) =
            let no_fault = no_fault_of text (map_fault text)
            (text_refusals text (v.text (sha256 text)) v.maps) refl free in
            lasts_named last (links_kept text (map_with text t) next refl no_fault there put)
