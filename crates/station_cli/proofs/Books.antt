-- What is said of a store's books by the bytes of the site's file.
use Rattle.std.proofs.Common.{◌≡◌, ℕ, List, Result, Ok, Err, inl, inr, subst, IfErr, IfOk}
use Rattle.std.specs.Borrow.{Bor}
use Rattle.sqlite.specs.Recovery.{Image}
use Rattle.sqlite_disk.specs.declared.Disk.{Ghosts}
use Rattle.sqlite_store.specs.declared.store.FileStore.{FileStore}
use Rattle.site_core.specs.Prelude.{SiteValue, TextOfSite}
use Rattle.text_core.specs.Prelude.{GivesUnless}
use Rattle.office_store.specs.Prelude.{Kept}
use Rattle.office_store.specs.declared.opening.Absent.{Absent}
use Rattle.station_cli.specs.Prelude.{IsSiteOfFile, Leaves, site_in, text_of_site}
use Rattle.station_cli.specs.declared.stored.LeftFiles.{LeftFiles}
use Rattle.station_cli.specs.declared.failure.Failure.{Failure}

-- what was said of the text that was read is said of the bytes and of the site that they describe
said_of_site : (wanted : Result SiteValue Failure) (t : TextOfSite) (bytes : List ℕ) (Says : TextOfSite → Type 0)
    → GivesUnless Failure.NoMemory (Ok t.site) wanted → t ≡ text_of_site bytes t.site → Says t
    → IfOk wanted (λ site. Says (text_of_site bytes site))
said_of_site (Ok site) t bytes Says given is says = elim given [
  | inl same ↦
      let found : t.site ≡ site = cc in
      subst (λ (s : SiteValue). Says (text_of_site bytes s)) found (subst Says is says)
  | inr none ↦ cc
]
said_of_site (Err failure) t bytes Says given is says = tt

-- where none was read, memory ran out or no site is described
said_of_none : (wanted : Result SiteValue Failure) (failure : Failure) (Says : SiteValue → Type 0)
    → GivesUnless Failure.NoMemory (Err failure) wanted → (failure ≡ Failure.NoMemory → (site : SiteValue) → Says site)
    → IfOk wanted Says
said_of_none (Ok site) failure Says given all = elim given [
  | inl same ↦ cc
  | inr none ↦
      let memory : failure ≡ Failure.NoMemory = cc in
      all memory site
]
said_of_none (Err other) failure Says given all = tt

-- what is said by a site is said by the file whose bytes were read to it
pub books_read : {B E : Type 0} (name : Bor (List ℕ)) (items : B → List ℕ) (file : Result B E) (t : TextOfSite) (Says : TextOfSite → Type 0)
    → IfOk file (λ b. IsSiteOfFile name (items b) (Ok t)) → Says t
    → IfOk file (λ b. IfOk (site_in name (items b)) (λ site. Says (text_of_site (items b) site)))
books_read name items (Ok b) t Says read says =
    said_of_site (site_in name (items b)) t (items b) Says read.described read.text says
books_read name items (Err error) t Says read says = tt

-- what a job over a store leaves of its files is said by the file that the site was read from
pub books_left : {B E A S D : Type 0} {g : Ghosts D} (name : Bor (List ℕ)) (items : B → List ℕ) (file : Result B E) (t : TextOfSite)
    (image : Image) (path : List ℕ) (absent : Absent) (Led : SiteValue → Kept (FileStore D g) → Kept (FileStore D g) → Type 0)
    (result : Result A Failure) (files : LeftFiles S D g)
    → IfOk file (λ b. IsSiteOfFile name (items b) (Ok t)) → Leaves t image path absent (Led t.site) result files
    → IfOk file (λ b. IfOk (site_in name (items b)) (λ site. Leaves (text_of_site (items b) site) image path absent (Led site) result files))
books_left name items file t image path absent Led result files =
    books_read name items file t (λ t. Leaves t image path absent (Led t.site) result files)

pub books_unread : {B E : Type 0} (name : Bor (List ℕ)) (items : B → List ℕ) (file : Result B E) (failure : Failure)
    (Says : List ℕ → SiteValue → Type 0)
    → IfOk file (λ b. IsSiteOfFile name (items b) (Err failure))
    → (failure ≡ Failure.NoMemory → (bytes : List ℕ) (site : SiteValue) → Says bytes site)
    → IfOk file (λ b. IfOk (site_in name (items b)) (Says (items b)))
books_unread name items (Ok b) failure Says read all =
    said_of_none (site_in name (items b)) failure (Says (items b)) read.described (λ memory. all memory (items b))
books_unread name items (Err error) failure Says read all = tt

-- what holds whatever the file describes
pub of_any_site : {B E : Type 0} (name : Bor (List ℕ)) (items : B → List ℕ) (file : Result B E) (P : Type 0) → P
    → IfOk file (λ b. IfOk (site_in name (items b)) (λ _. P))
of_any_site name items (Ok b) P holds = by (site_in name (items b))
  where
    by : (wanted : Result SiteValue Failure) → IfOk wanted (λ _. P)
    by (Ok site) = holds
    by (Err failure) = tt
of_any_site name items (Err error) P holds = tt

-- what holds of each failure of this kind
pub failing : {A : Type 0} (result : Result A Failure) (P Q : Failure → Type 0)
    → ((failure : Failure) → P failure → Q failure) → IfErr result P → IfErr result Q
failing (Ok done) P Q all holds = tt
failing (Err failure) P Q all holds = all failure holds
