-- What is told of a text, by what reading it gives.
use Rattle.std.proofs.Common.{◌≡◌, ◌⊎◌, ◌≤◌, ◌∙◌, ap, sym, refl, inl, inr, ℕ, List, length, Some, Result, Ok, Err, IfOk, le-ltb}
use Rattle.toml.specs.Data.{Data}
use Rattle.text_core.specs.Prelude.{GivesUnless}
use Rattle.members.specs.Prelude.{document_of}
use Rattle.site_core.specs.Prelude.{SiteValue, site_text_limit}
use Rattle.site_core.specs.declared.fault.SiteFault.{SiteFault}
use Rattle.site_core.specs.declared.fault.SiteFault.TheVariants.{OutOfMemory}
use Rattle.site_faults.specs.Prelude.{document_breach, text_breach, told_if_faulty, told_of}
use Rattle.site_faults.specs.declared.breach.SiteBreach.{SiteBreach}
use Rattle.site_faults.specs.declared.told.ToldFault.{ToldFault}
use Rattle.site_faults.specs.declared.told.ToldFault.TheVariants.{NoMemory}

-- the breach of a text within the limit is that of its document
pub text_from_document : {E : Type 0} (fault : SiteFault) (text : List ℕ) (d : Data) (found : Result SiteBreach E) → length text ≤ site_text_limit
    → document_of text ≡ Some d → IfOk found (λ breach. breach ≡ document_breach fault d) → IfOk found (λ breach. breach ≡ text_breach fault text)
text_from_document fault text d (Ok breach) within is e =
    let same : text_breach fault text ≡ document_breach fault d = rw (le-ltb site_text_limit (length text) within, is) refl in
    e ∙ sym same
text_from_document fault text d (Err error) within is e = tt

-- a fault that was read is told with its place, or memory ran out
pub told_from_read : (text : List ℕ) (read : Result SiteValue SiteFault) (fault : SiteFault) (told : ToldFault)
    → GivesUnless {T = SiteValue} OutOfMemory (Err fault) read → (told ≡ told_of text fault) ⊎ (told ≡ NoMemory)
    → GivesUnless {T = SiteValue} NoMemory (Err told) (told_if_faulty text read)
told_from_read text read fault told given (inr is) = inr (ap Err is)
told_from_read text (Ok site) fault told (inl e) (inl is) = cc
told_from_read text (Err other) fault told (inl e) (inl is) = let same : fault ≡ other = cc in inl (ap Err (is ∙ ap (told_of text) same))
told_from_read text read fault told (inr e) (inl is) = let out : fault ≡ OutOfMemory = cc in inr (ap Err (is ∙ ap (told_of text) out))
