-- The map that a text is, by its definition and by its relation.
use Rattle.std.proofs.Common.{◌≡◌, ◌≢◌, ◌∙◌, ℕ, List, Some, Result, Ok, IfOk, IfErr, sym}
use Rattle.toml.specs.Data.{Data}
use Rattle.text_core.specs.Prelude.{GivesUnless}
use Rattle.members.proofs.Reading as reading
use Rattle.fusemap_core.specs.declared.fault.MapFault.{MapFault}
use Rattle.fusemap_core.specs.declared.fault.MapFault.TheVariants.{NotToml, BadMember, OutOfMemory}
use Rattle.fusemap_core.specs.Prelude.{Map, IsMap, map_or_fault, IsLowestMapFault, HasMapMembers, IsMapText, map_of_document, map_read, map_text_limit}
use Rattle.fusemap_core.proofs.Judged.{IsMap-from_judged, same-from_judged, map_or_fault-from_IsMap, IsLowestMapFault-from_judged}
use Rattle.fusemap_core.proofs.Ranges.{IsInRange-from_map_of}

read_of_members : (text : List ℕ) (m : Map) → HasMapMembers text m → map_read text ≡ map_or_fault m
read_of_members text m has =
    reading.judged_of_members map_of_document map_or_fault NotToml BadMember BadMember map_text_limit text m
    has.within has.members

-- what is read is the text's map
pub IsMapText-from_read : (text : List ℕ) (m : Map) → map_read text ≡ Ok m → IsMapText text m
IsMapText-from_read text m e =
    let known =
    reading.text_is map_of_document map_or_fault NotToml BadMember BadMember map_text_limit IsMap good text m e in
    record { within = known.0; members = known.1; is_map = known.2 }
  where
    good : (d : Data) (found m : Map) → map_of_document d ≡ Some found → map_or_fault found ≡ Ok m
        → (found ≡ m) × IsMap m
    good d found m is e =
        (same-from_judged found m e, IsMap-from_judged found m (IsInRange-from_map_of d found is) e)

-- the text's map is read
pub read-from_IsMapText : (text : List ℕ) (m : Map) → IsMapText text m → map_read text ≡ Ok m
read-from_IsMapText text m is =
    read_of_members text m (record { within = is.within; members = is.members })
    ∙ map_or_fault-from_IsMap m is.is_map

module _ (text : List ℕ) (answer : Result Map MapFault)
    (exact : GivesUnless OutOfMemory answer (map_read text)) where
  -- an answer is the text's map
  pub valid_from_exact : IfOk answer (IsMapText text)
  valid_from_exact = reading.valid_from_exact OutOfMemory (map_read text) answer exact
      (IsMapText text) (IsMapText-from_read text)

  -- where a fault is answered the text has no map
  pub refused_from_exact : IfErr answer (λ fault.
      fault ≢ OutOfMemory → (m : Map) → ¬ IsMapText text m)
  refused_from_exact = reading.refused_from_exact OutOfMemory (map_read text) answer exact
      (IsMapText text) (read-from_IsMapText text)

  -- a fault that is answered is that of a broken rule, and no lower rule is broken
  pub lowest_from_exact : IfErr answer (λ fault.
      fault ≢ OutOfMemory → (m : Map) → HasMapMembers text m → IsLowestMapFault fault m)
  lowest_from_exact = reading.lowest_from_exact OutOfMemory (map_read text) answer exact
      (HasMapMembers text) IsLowestMapFault (λ m has fault e.
      IsLowestMapFault-from_judged m fault (sym (read_of_members text m has) ∙ e))
