-- The named members of a request for an identity and of an import have no float.
use Rattle.std.proofs.Common.{◌≡◌, false, Some, refl, codes}
use Rattle.serde_json.specs.Data.{Data, object, no_members}
use Rattle.serde_json.specs.Written.{has_float}
use Rattle.text_core.specs.Prelude.{chip_of_text, name_of_text}
use Rattle.station_requests.proofs.Types.{NewIdentity, NewImport}
use Rattle.station_requests.specs.Prelude.{LacksFloat, named_members, identity_members, new_identity_of, import_members, new_import_of}
use Rattle.station_requests.proofs.Members.{all_no_float, lacks_first, read_member_lacks, text_member_lacks}

pub identity_lacks_float : (d : Data) (i : NewIdentity) → new_identity_of d ≡ Some i → LacksFloat d (codes "nr")
    → has_float (object (named_members identity_members d)) ≡ false
unfolding new_identity_of
identity_lacks_float d i identity nr =
    let chip = lacks_first _ (read_member_lacks chip_of_text (codes "chip") d) identity in
    let text = lacks_first _ (text_member_lacks (codes "public_key") d) chip.1.1 in
    all_no_float identity_members d no_members (chip.0, (nr, (text.0, tt))) refl

-- the members of an import hold no number with a fraction
pub import_lacks_float : (d : Data) (i : NewImport) → new_import_of d ≡ Some i → LacksFloat d (codes "nr")
    → has_float (object (named_members import_members d)) ≡ false
unfolding new_import_of
import_lacks_float d i import nr =
    let issuer = lacks_first _ (read_member_lacks name_of_text (codes "issuer") d) import in
    let text = lacks_first _ (text_member_lacks (codes "csv") d) issuer.1.1 in
    all_no_float import_members d no_members (text.0, (issuer.0, (nr, tt))) refl
