-- How a job may end, by what its parts say of their failures.
use Rattle.std.proofs.Common.{◌≡◌, ◌⊎◌, ◌++◌, ◌∷◌, [], ℕ, List, Bool, true, false, Option, Some, None, Result, Ok, Err, inl, inr, refl, sym, subst, ◌∙◌}
use Rattle.std.proofs.Common.{IfErr, IfOk, if◌then◌else◌, length, nat_lt, arith, ◌≤◌}
use Rattle.std.specs.Prelude.{IsErrAnd, MatchResult, OnOk}
use Rattle.std.specs.Borrow.{Bor}
use Rattle.std.specs.Io.KnownBytes.{Appends, Keeps}
use Rattle.std.specs.Str.{is_utf8}
use Rattle.std.specs.declared.io.Error.{Error}
use Rattle.fusemap_core.specs.Prelude.{Map, map_read, map_text_limit}
use Rattle.fusemap_core.specs.declared.fault.MapFault.{MapFault}
use Rattle.http_frames.specs.declared.serving.Served.{Served}
use Rattle.site_core.specs.Prelude.{site_read, site_text_limit, SiteValue}
use Rattle.site_faults.specs.Prelude.{site_told, too_long}
use Rattle.site_faults.specs.declared.told.ToldFault.{ToldFault}
use Rattle.site_core.specs.declared.fault.SiteFault.{SiteFault}
use Rattle.station_cli.specs.Prelude.{checked_in, ChecksTo, ComesTo, EndsAs, EndsStream, IsAnswered, IsBeforeStream, IsOfCheck, IsOfFile, IsOfJob}
use Rattle.station_cli.specs.Prelude.{IsCheckedFrom, IsOfSite, IsTold, IsToldFault, IsToldOf, IsUnread, site_line}
use Rattle.station_cli.specs.Prelude.{map_failure, map_line, map_of_file, Traffic}
use Rattle.station_cli.specs.Prelude.{or_failure, result_of_ending, site_failure, site_in, status_of, text_of_file}
use Rattle.station_cli.specs.declared.failure.Failure.{Failure}
use Rattle.station_cli.specs.declared.failure.Failure.TheVariants.{CannotRead, NoMemory, WriteFailed}
use Rattle.station_cli.specs.declared.job.Job.{Job}
use Rattle.station_cli.specs.declared.job.Job.TheVariants.{CheckMap, CheckSite, Replay, Serve}
use Rattle.station_cli.specs.declared.job.StoreName.{StoreName}
use Rattle.text_core.specs.Prelude.{result_and_then}

-- what a job that reads nothing of its input finds, and leaves
abbrev pub unread : (input output_old output_new : Option (List ℕ)) → Traffic
unread input output_old output_new = record { input_old = input; input_new = input; output_old = output_old; output_new = output_new }

-- ---- the file that a job reads first

-- the file can't be read, or its text has a fault
abbrev pub IsOfText : {Fault : Type 0} → (Fault → Failure) → List ℕ → Failure → Type 0
IsOfText {Fault} failure_of file failure = IsOfFile file failure ⊎ ((fault : Fault) × (failure ≡ failure_of fault))

text_fails : {Fault : Type 0} (failure_of : Fault → Failure) (over : Fault) (name : Bor (List ℕ)) (bytes : List ℕ) (long utf8 : Bool)
    → IfErr (if long then Err (failure_of over) else if utf8 then Ok bytes else Err (CannotRead name)) (IsOfText failure_of name.now)
text_fails failure_of over name bytes true utf8 = inr (over, refl)
text_fails failure_of over name bytes false true = tt
text_fails failure_of over name bytes false false = inl (name, refl, refl)

or_fails : {A Fault : Type 0} (failure_of : Fault → Failure) (file : List ℕ) (read : Result A Fault)
    → IfErr (or_failure failure_of read) (IsOfText failure_of file)
or_fails failure_of file (Ok value) = tt
or_fails failure_of file (Err fault) = inr (fault, refl)

read_fails : {A Fault : Type 0} (failure_of : Fault → Failure) (file : List ℕ) (read : List ℕ → Result A Fault)
    (text : Result (List ℕ) Failure) → IfErr text (IsOfText failure_of file)
    → IfErr (result_and_then (λ t. or_failure failure_of (read t)) text) (IsOfText failure_of file)
read_fails failure_of file read (Ok text) fails = or_fails failure_of file (read text)
read_fails failure_of file read (Err failure) fails = fails

pub site_fails : (name : Bor (List ℕ)) (bytes : List ℕ) → IfErr (site_in name bytes) (IsOfText site_failure name.now)
site_fails name bytes =
    read_fails site_failure name.now site_read (text_of_file name bytes site_text_limit (site_failure SiteFault.OverLimit))
    (text_fails site_failure SiteFault.OverLimit name bytes (nat_lt site_text_limit (length bytes)) (is_utf8 bytes))

pub map_fails : (name : Bor (List ℕ)) (bytes : List ℕ) → IfErr (map_of_file name bytes) (IsOfText map_failure name.now)
map_fails name bytes =
    read_fails map_failure name.now map_read (text_of_file name bytes map_text_limit (map_failure MapFault.BadMember))
    (text_fails map_failure MapFault.BadMember name bytes (nat_lt map_text_limit (length bytes)) (is_utf8 bytes))

described_fails : {A V Fault : Type 0} (failure_of : Fault → Failure) (memory : Fault) (file : List ℕ) (wanted : Result V Failure) (result : Result A Failure)
    (Behind Q : Failure → Type 0) → NoMemory ≡ failure_of memory
    → ((failure : Failure) → IsOfText failure_of file failure → Q failure) → ((failure : Failure) → Behind failure → Q failure)
    → IfErr wanted (IsOfText failure_of file)
    → IfErr wanted (λ failure. (result ≡ Err failure) ⊎ (result ≡ Err NoMemory)) → IfOk wanted (λ _. IfErr result Behind)
    → IfErr result Q
described_fails failure_of memory file wanted (Ok done) Behind Q none first next of_text undescribed behind = tt
described_fails failure_of memory file (Ok value) (Err failure) Behind Q none first next of_text undescribed behind = next failure behind
described_fails failure_of memory file (Err fault) (Err failure) Behind Q none first next of_text undescribed behind = elim undescribed [
  | inl same ↦
      let is : fault ≡ failure = cc in
      first failure (subst (IsOfText failure_of file) is of_text)
  | inr lacks ↦
      let is : failure ≡ NoMemory = cc in
      first failure (inr (memory, is ∙ none))
]

-- a job that reads a file first fails by it, or by what comes behind
pub file_fails : {A B V Fault : Type 0} (failure_of : Fault → Failure) (memory : Fault) (name : Bor (List ℕ)) (describes : B → Result V Failure)
    (file : Result B Error) (result : Result A Failure) (Behind Q : Failure → Type 0)
    → NoMemory ≡ failure_of memory → ((bytes : B) → IfErr (describes bytes) (IsOfText failure_of name.now))
    → ((failure : Failure) → IsOfText failure_of name.now failure → Q failure) → ((failure : Failure) → Behind failure → Q failure)
    → IfErr file (λ error. IsErrAnd result (IsUnread name error))
    → IfOk file (λ bytes. IfErr (describes bytes) (λ failure. (result ≡ Err failure) ⊎ (result ≡ Err NoMemory)))
    → IfOk file (λ bytes. IfOk (describes bytes) (λ _. IfErr result Behind))
    → IfErr result Q
file_fails failure_of memory name describes file (Ok done) Behind Q none of_text first next unread undescribed behind = tt
file_fails failure_of memory name describes (Err error) (Err failure) Behind Q none of_text first next unread undescribed behind = elim unread [
  | inl is ↦ first failure (inr (memory, is.1 ∙ none))
  | inr is ↦ first failure (inl (name, refl, is.1))
]
file_fails failure_of memory name describes (Ok bytes) (Err failure) Behind Q none of_text first next unread undescribed behind =
    described_fails failure_of memory name.now (describes bytes) (Err failure) Behind Q none first next (of_text bytes) undescribed behind

-- ---- each job

-- a job that reads a site first
pub site_job_fails : {A B : Type 0} (items : B → List ℕ) (name : Bor (List ℕ)) (site : List ℕ) (file : Result B Error) (result : Result A Failure)
    (Behind Q : Failure → Type 0) → name.now ≡ site
    → ((failure : Failure) → IsOfSite site failure → Q failure) → ((failure : Failure) → Behind failure → Q failure)
    → IfErr file (λ error. IsErrAnd result (IsUnread name error))
    → IfOk file (λ bytes. IfErr (site_in name (items bytes)) (λ failure. (result ≡ Err failure) ⊎ (result ≡ Err NoMemory)))
    → IfOk file (λ bytes. IfOk (site_in name (items bytes)) (λ _. IfErr result Behind))
    → IfErr result Q
site_job_fails items name site file result Behind Q named first =
    file_fails site_failure SiteFault.OutOfMemory name (λ bytes. site_in name (items bytes)) file result Behind Q refl (λ bytes. site_fails name (items bytes))
    (λ failure of_site. first failure (subst (λ (s : List ℕ). IsOfSite s failure) named of_site))

-- what serving connections says, of a job that serves them
pub served_comes : {A : Type 0} (served : Result A Failure) (result : Result Unit Failure) (Done : Type 0) (P : Failure → Type 0)
    → MatchResult served (λ _. result ≡ Ok tt) (λ failure. result ≡ Err failure) → OnOk served Done → IfErr served P
    → MatchResult result (λ _. Done) P
served_comes (Ok count) result Done P is done fails = subst (λ (r : Result Unit Failure). MatchResult r (λ _. Done) P) (sym is) done
served_comes (Err failure) result Done P is done fails = subst (λ (r : Result Unit Failure). MatchResult r (λ _. Done) P) (sym is) fails

-- want of memory is a failure of the site's file
pub no_memory_of_site : (site : List ℕ) (failure : Failure) → failure ≡ NoMemory → IsOfSite site failure
no_memory_of_site site failure is = inr (SiteFault.OutOfMemory, is)

-- a job that serves a stream fails by what comes before, or comes to the stream's end
pub stream_comes : (traffic : Traffic) (served : Result Served Failure) (result : Result Unit Failure) (Before : Failure → Type 0)
    → result ≡ result_and_then result_of_ending served → IfErr served Before → IfOk served (IsAnswered traffic)
    → MatchResult result (λ _. EndsStream traffic (Ok tt)) (λ failure. Before failure ⊎ EndsStream traffic (Err failure))
stream_comes traffic (Err failure) result Before is before answered =
    subst (λ (r : Result Unit Failure). MatchResult r (λ _. EndsStream traffic (Ok tt)) (λ failure. Before failure ⊎ EndsStream traffic (Err failure)))
    (sym is) (inl before)
stream_comes traffic (Ok ended) result Before is before answered = by result (sym is)
  where
    by : (r : Result Unit Failure) → result_of_ending ended ≡ r
        → MatchResult r (λ _. EndsStream traffic (Ok tt)) (λ failure. Before failure ⊎ EndsStream traffic (Err failure))
    by (Ok done) ends = (ended, answered, ends)
    by (Err failure) ends = inr (ended, answered, ends)

of_value : {V : Type 0} (wanted : Result V Failure) (P : V → Type 0) (Q : Type 0) → ((value : V) → P value → Q)
    → IfOk wanted P → IfOk wanted (λ _. Q)
of_value (Ok value) P Q all holds = all value holds
of_value (Err failure) P Q all holds = tt

-- what follows of a value in a file
in_file : {B V : Type 0} (file : Result B Error) (describes : B → Result V Failure) (P : V → Type 0) (Q : Type 0)
    → ((value : V) → P value → Q)
    → IfOk file (λ bytes. IfOk (describes bytes) P) → IfOk file (λ bytes. IfOk (describes bytes) (λ _. Q))
in_file {B} {V} (Ok bytes) describes P Q all holds = of_value (describes bytes) P Q all holds
in_file (Err error) describes P Q all holds = tt

match_fails : {A : Type 0} (result : Result A Failure) (Q : A → Type 0) (P : Failure → Type 0) → MatchResult result Q P → IfErr result P
match_fails (Ok done) Q P holds = tt
match_fails (Err failure) Q P holds = holds

-- a value was written where the job is done
value_written : {V : Type 0} (wanted : Result V Failure) (result : Result Unit Failure) (Written : V → Type 0) (P : Failure → Type 0)
    → IfErr wanted (λ failure. (result ≡ Err failure) ⊎ (result ≡ Err NoMemory))
    → IfOk wanted (λ value. MatchResult result (λ _. Written value) P) → OnOk result ((value : V) × Written value)
value_written (Ok value) (Ok done) Written P none written = (value, written)
value_written (Err failure) (Ok done) Written P none written = elim none [ inl is ↦ absurd (cc) | inr is ↦ absurd (cc) ]
value_written wanted (Err failure) Written P none written = tt

pub check_comes : {B : Type 0} (items : B → List ℕ) (name : Bor (List ℕ)) (map : List ℕ) (traffic : Traffic) (file : Result B Error)
    (result : Result Unit Failure) → name.now ≡ map
    → IfErr file (λ error. IsErrAnd result (IsUnread name error))
    → IfOk file (λ bytes. IfErr (map_of_file name (items bytes)) (λ failure. (result ≡ Err failure) ⊎ (result ≡ Err NoMemory)))
    → IfOk file (λ bytes. IfOk (map_of_file name (items bytes)) (λ value. MatchResult result
    (λ _. Appends traffic.output_old traffic.output_new (map_line value ++ 10 ∷ [])) (λ failure. (failure ≡ WriteFailed) ⊎ (failure ≡ NoMemory))))
    → ComesTo (CheckMap map) traffic result
check_comes items name map traffic (Err error) (Ok done) named unread no_map written = absurd unread
check_comes items name map traffic (Ok bytes) (Ok done) named unread no_map written =
    value_written (map_of_file name (items bytes)) (Ok done) (λ value. Appends traffic.output_old traffic.output_new (map_line value ++ 10 ∷ []))
    (λ failure. (failure ≡ WriteFailed) ⊎ (failure ≡ NoMemory)) no_map written
check_comes items name map traffic file (Err other) named unread no_map written =
    let result : Result Unit Failure = Err other in
    let P : Failure → Type 0 = λ failure. (failure ≡ WriteFailed) ⊎ (failure ≡ NoMemory) in
    let Written : Map → Type 0 = λ value. Appends traffic.output_old traffic.output_new (map_line value ++ 10 ∷ []) in
    let behind = in_file file (λ bytes. map_of_file name (items bytes)) (λ value. MatchResult result (λ _. Written value) P)
    (IfErr result P) (λ value holds. match_fails result (λ _. Written value) P holds) written in
    let fails = file_fails map_failure MapFault.OutOfMemory name (λ bytes. map_of_file name (items bytes)) file result P
    (IsOfJob (CheckMap name.now) traffic) refl (λ bytes. map_fails name (items bytes)) (λ failure of_map. inl of_map)
    (λ failure next. elim next [ inl failed ↦ inr failed | inr memory ↦ inl (inr (MapFault.OutOfMemory, memory)) ]) unread no_map behind in
    subst (λ (m : List ℕ). IsOfJob (CheckMap m) traffic other) named fails

-- ---- the status, and what is told

-- what comes before a stream of a site may be want of memory
pub memory_before : (site : List ℕ) (store : Option StoreName) → IsBeforeStream site store NoMemory
memory_before site (Some store) = inl (inr (SiteFault.OutOfMemory, refl))
memory_before site None = inr (SiteFault.OutOfMemory, refl)

-- checking a site may fail for want of memory
memory_of_check : (site : List ℕ) (old : Option (List ℕ)) → IsOfCheck site old NoMemory
memory_of_check site (Some old) = inr (inr (SiteFault.OutOfMemory, refl))
memory_of_check site None = inr refl

memory_of_job : (job : Job) (traffic : Traffic) → IsOfJob job traffic NoMemory
memory_of_job (Serve site store port connections) traffic = inl (inr (SiteFault.OutOfMemory, refl))
memory_of_job (Replay site store) traffic = inl (memory_before site store)
memory_of_job (CheckMap map) traffic = inl (inr (MapFault.OutOfMemory, refl))
memory_of_job (CheckSite site old) traffic = inl (memory_of_check site old)

pub ends : (job : Job) (traffic : Traffic) (done : Result Unit Failure) (status : ℕ) (old new : Option (List ℕ)) → ComesTo job traffic done
    → status ≡ status_of done → OnOk done (Keeps old new) → IfErr done (λ failure. IsTold failure old new ⊎ IsTold NoMemory old new)
    → EndsAs job traffic status old new
ends job traffic (Ok done) status old new comes is kept told = inl (is, comes, kept)
ends job traffic (Err failure) status old new comes is kept told = elim told [
  | inl line ↦ inr (inl (is, failure, comes, line))
  | inr line ↦ inr (inl (is, NoMemory, memory_of_job job traffic, line))
]

-- ---- a site that is checked

-- a job's status is 0 or 1, and with 0 nothing is told
pub low_status : (job : Job) (traffic : Traffic) (status : ℕ) (old new : Option (List ℕ)) → EndsAs job traffic status old new → status ≤ 1
low_status job traffic status old new ends = elim ends [
  | inl done ↦ let is = done.0 in omega (arith, is)
  | inr failed ↦ elim failed [ inl told ↦ let is = told.0 in omega (arith, is) | inr told ↦ let is = told.0 in omega (arith, is) ]
]

pub quiet : (job : Job) (traffic : Traffic) (status : ℕ) (old new : Option (List ℕ)) → EndsAs job traffic status old new → status ≡ 0 → Keeps old new
quiet job traffic status old new ends zero = elim ends [
  | inl done ↦ done.2
  | inr failed ↦ elim failed [
    | inl told ↦ let is = told.0 in absurd (omega (arith, is, zero))
    | inr told ↦ let is = told.0 in absurd (omega (arith, is, zero))
  ]
]

-- what is checked, by whether the bytes are over the limit and whether they are UTF-8
abbrev checked_by : Bor (List ℕ) → List ℕ → Bool → Bool → Result (Result SiteValue ToldFault) Failure
checked_by name bytes long utf8 = if long then Ok (Err too_long) else if utf8 then Ok (site_told bytes) else Err (CannotRead name)

-- bytes that are checked can fail as no text alone
checked_fails : (name : Bor (List ℕ)) (bytes : List ℕ) → IfErr (checked_in name bytes) (λ failure. failure ≡ CannotRead name)
checked_fails name bytes = by (nat_lt site_text_limit (length bytes)) (is_utf8 bytes)
  where
    by : (long utf8 : Bool) → IfErr (checked_by name bytes long utf8) (λ failure. failure ≡ CannotRead name)
    by true utf8 = tt
    by false true = tt
    by false false = refl

of_file : (name : Bor (List ℕ)) (failure : Failure) → failure ≡ CannotRead name → IsOfFile name.now failure
of_file name failure is = (name, refl, is)

-- a check that fails as it would, or not for want of memory
check_failed : (name : Bor (List ℕ)) (wanted : Result (Result SiteValue ToldFault) Failure) (failure : Failure)
    → ChecksTo wanted (Err failure) → IfErr wanted (λ f. f ≡ CannotRead name) → IsOfFile name.now failure
check_failed name (Ok told) failure checks fails = absurd (elim checks [ inl e ↦ cc e | inr e ↦ cc e ])
check_failed name (Err other) failure checks fails = elim checks [
  | inl e ↦ let is : failure ≡ other = cc in of_file name failure (is ∙ fails)
  | inr e ↦ absurd (cc e)
]

check_fails_so : {B : Type 0} (items : B → List ℕ) (name : Bor (List ℕ)) (file : Result B Error) (result : Result (Result SiteValue ToldFault) Failure)
    → IfErr file (λ error. IsErrAnd result (IsUnread name error)) → IfOk file (λ bytes. ChecksTo (checked_in name (items bytes)) result)
    → IfErr result (IsOfCheck name.now None)
check_fails_so items name file (Ok told) unread read = tt
check_fails_so items name (Err error) (Err failure) unread read = elim unread [ inl is ↦ inr is.1 | inr is ↦ inl (of_file name failure is.1) ]
check_fails_so items name (Ok bytes) (Err failure) unread read =
    inl (check_failed name (checked_in name (items bytes)) failure read (checked_fails name (items bytes)))

from_fails : (site old : List ℕ) (old_read : Result SiteValue Failure) (new_read : Result (Result SiteValue ToldFault) Failure) (failure : Failure)
    → IfErr new_read (IsOfFile site) → IfErr old_read (IsOfSite old) → IsCheckedFrom old_read new_read (Err failure) → IsOfCheck site (Some old) failure
from_fails site old old_read (Err other) failure of_new of_old from = let is : other ≡ failure = cc in inl (subst (IsOfFile site) is of_new)
from_fails site old old_read (Ok (Err fault)) failure of_new of_old from = absurd (cc from)
from_fails site old (Err other) (Ok (Ok new)) failure of_new of_old from = let is : other ≡ failure = cc in inr (subst (IsOfSite old) is of_old)
from_fails site old (Ok value) (Ok (Ok new)) failure of_new of_old from = absurd (cc from.2)

of_files : (name : Bor (List ℕ)) (read : Result (Result SiteValue ToldFault) Failure) → IfErr read (λ failure. failure ≡ CannotRead name)
    → IfErr read (IsOfFile name.now)
of_files name (Ok told) fails = tt
of_files name (Err failure) fails = of_file name failure fails

growth_fails_so : {B : Type 0} (items : B → List ℕ) (name old_name : Bor (List ℕ)) (file old_file : Result B Error)
    (result : Result (Result SiteValue ToldFault) Failure)
    → IfErr file (λ error. IsErrAnd result (IsUnread name error)) → IfOk file (λ _. IfErr old_file (λ error. IsErrAnd result (IsUnread old_name error)))
    → IfOk file (λ bytes. IfOk old_file (λ old_bytes. (result ≡ Ok (Err ToldFault.NoMemory)) ⊎ (result ≡ Err NoMemory)
    ⊎ IsCheckedFrom (site_in old_name (items old_bytes)) (checked_in name (items bytes)) result))
    → IfErr result (IsOfCheck name.now (Some old_name.now))
growth_fails_so items name old_name file old_file (Ok told) unread unread_old read = tt
growth_fails_so items name old_name (Err error) old_file (Err failure) unread unread_old read = elim unread [
  | inl is ↦ inr (inr (SiteFault.OutOfMemory, is.1))
  | inr is ↦ inl (of_file name failure is.1)
]
growth_fails_so items name old_name (Ok bytes) (Err error) (Err failure) unread unread_old read = elim unread_old [
  | inl is ↦ inr (inr (SiteFault.OutOfMemory, is.1))
  | inr is ↦ inr (inl (of_file old_name failure is.1))
]
growth_fails_so items name old_name (Ok bytes) (Ok old_bytes) (Err failure) unread unread_old read = elim read [
  | inl e ↦ absurd (cc e)
  | inr some ↦ elim some [
    | inl e ↦ let is : failure ≡ NoMemory = cc in inr (inr (SiteFault.OutOfMemory, is))
    | inr from ↦ from_fails name.now old_name.now (site_in old_name (items old_bytes)) (checked_in name (items bytes)) failure
        (of_files name (checked_in name (items bytes)) (checked_fails name (items bytes))) (site_fails old_name (items old_bytes)) from
  ]
]

-- a site that is checked alone
pub check_fails : {B : Type 0} (items : B → List ℕ) (name : Bor (List ℕ)) (site : List ℕ) (file : Result B Error)
    (result : Result (Result SiteValue ToldFault) Failure) → name.now ≡ site
    → IfErr file (λ error. IsErrAnd result (IsUnread name error)) → IfOk file (λ bytes. ChecksTo (checked_in name (items bytes)) result)
    → IfErr result (IsOfCheck site None)
check_fails items name site file result named unread read =
    subst (λ (s : List ℕ). IfErr result (IsOfCheck s None)) named (check_fails_so items name file result unread read)

-- a site that is checked from an old one
pub growth_fails : {B : Type 0} (items : B → List ℕ) (name old_name : Bor (List ℕ)) (site old : List ℕ) (file old_file : Result B Error)
    (result : Result (Result SiteValue ToldFault) Failure) → name.now ≡ site → old_name.now ≡ old
    → IfErr file (λ error. IsErrAnd result (IsUnread name error)) → IfOk file (λ _. IfErr old_file (λ error. IsErrAnd result (IsUnread old_name error)))
    → IfOk file (λ bytes. IfOk old_file (λ old_bytes. (result ≡ Ok (Err ToldFault.NoMemory)) ⊎ (result ≡ Err NoMemory)
    ⊎ IsCheckedFrom (site_in old_name (items old_bytes)) (checked_in name (items bytes)) result))
    → IfErr result (IsOfCheck site (Some old))
growth_fails items name old_name site old file old_file result named old_named unread unread_old read =
    subst (λ (s : List ℕ). IfErr result (IsOfCheck s (Some old))) named
    (subst (λ (o : List ℕ). IfErr result (IsOfCheck name.now (Some o))) old_named
    (growth_fails_so items name old_name file old_file result unread unread_old read))

-- what a site that is checked alone is told by
pub check_told : {B : Type 0} (items : B → List ℕ) (name : Bor (List ℕ)) (site : List ℕ) (file : Result B Error)
    (result : Result (Result SiteValue ToldFault) Failure) → name.now ≡ site
    → IfErr file (λ error. IsErrAnd result (IsUnread name error)) → IfOk file (λ bytes. ChecksTo (checked_in name (items bytes)) result)
    → IfOk result (IsToldOf site None)
check_told items name site (Ok bytes) (Ok told) named unread read = (name, items bytes, named, read)
check_told items name site (Err error) (Ok told) named unread read = absurd unread
check_told items name site file (Err failure) named unread read = tt

-- what a site that is checked from an old one is told by
pub growth_told : {B : Type 0} (items : B → List ℕ) (name old_name : Bor (List ℕ)) (site old : List ℕ) (file old_file : Result B Error)
    (result : Result (Result SiteValue ToldFault) Failure) → name.now ≡ site → old_name.now ≡ old
    → IfErr file (λ error. IsErrAnd result (IsUnread name error)) → IfOk file (λ _. IfErr old_file (λ error. IsErrAnd result (IsUnread old_name error)))
    → IfOk file (λ bytes. IfOk old_file (λ old_bytes. (result ≡ Ok (Err ToldFault.NoMemory)) ⊎ (result ≡ Err NoMemory)
    ⊎ IsCheckedFrom (site_in old_name (items old_bytes)) (checked_in name (items bytes)) result))
    → IfOk result (IsToldOf site (Some old))
growth_told items name old_name site old (Ok bytes) (Ok old_bytes) (Ok told) named old_named unread unread_old read = (
  name,
  items bytes,
  old_name,
  items old_bytes,
  named,
  old_named,
  elim read [
    | inl e ↦ let is : told ≡ Err ToldFault.NoMemory = cc in inl is
    | inr some ↦ elim some [ inl e ↦ absurd (cc e) | inr from ↦ inr from ]
  ],
)
growth_told items name old_name site old (Ok bytes) (Err error) (Ok told) named old_named unread unread_old read = absurd unread_old
growth_told items name old_name site old (Err error) old_file (Ok told) named old_named unread unread_old read = absurd unread
growth_told items name old_name site old file old_file (Err failure) named old_named unread unread_old read = tt

-- what holds of the value that a result is
pub value_holds : {A F : Type 0} (result : Result A F) (x : A) (P : A → Type 0) → result ≡ Ok x → P x → IfOk result P
value_holds result x P is holds = subst (λ r. IfOk r P) (sym is) holds

-- the line of a site that was to be written
pub line_ended : (done : Result Unit Failure) (status : ℕ) (Written : Type 0) (old new : Option (List ℕ))
    → MatchResult done (λ _. Written) (λ failure. failure ≡ WriteFailed) → status ≡ status_of done → OnOk done (Keeps old new)
    → IfErr done (λ failure. IsTold failure old new ⊎ IsTold NoMemory old new)
    → ((status ≡ 0) × Written × Keeps old new) ⊎ ((status ≡ 1) × (IsTold WriteFailed old new ⊎ IsTold NoMemory old new))
line_ended (Ok done) status Written old new written is kept told = inl (is, written, kept)
line_ended (Err failure) status Written old new written is kept told =
    inr (is, subst (λ (f : Failure). IsTold f old new ⊎ IsTold NoMemory old new) written told)

-- a site that was checked, and what was told of it
pub checked_ends : (site : List ℕ) (before : Option (List ℕ)) (traffic : Traffic) (checked : Result SiteValue ToldFault) (status : ℕ)
    (old new : Option (List ℕ)) → IsToldOf site before checked
    → IfOk checked (λ value. ((status ≡ 0) × Appends traffic.output_old traffic.output_new (site_line value ++ 10 ∷ []) × Keeps old new)
    ⊎ ((status ≡ 1) × (IsTold WriteFailed old new ⊎ IsTold NoMemory old new)))
    → IfErr checked (λ fault. (status ≡ 1) × (IsToldFault fault old new ⊎ IsTold NoMemory old new))
    → EndsAs (CheckSite site before) traffic status old new
checked_ends site before traffic (Ok value) status old new of_file found fault = elim found [
  | inl done ↦ inl (done.0, (value, of_file, done.1), done.2)
  | inr failed ↦ elim failed.1 [
    | inl told ↦ inr (inl (failed.0, WriteFailed, inr refl, told))
    | inr told ↦ inr (inl (failed.0, NoMemory, inl (memory_of_check site before), told))
  ]
]
checked_ends site before traffic (Err objected) status old new of_file found fault = elim fault.1 [
  | inl told ↦ inr (inr (fault.0, objected, of_file, told))
  | inr told ↦ inr (inl (fault.0, NoMemory, inl (memory_of_check site before), told))
]

-- a check that failed
pub failed_ends : (site : List ℕ) (before : Option (List ℕ)) (traffic : Traffic) (failure : Failure) (status : ℕ) (old new : Option (List ℕ))
    → status ≡ 1 → IsOfCheck site before failure → IsTold failure old new ⊎ IsTold NoMemory old new
    → EndsAs (CheckSite site before) traffic status old new
failed_ends site before traffic failure status old new is fails told = elim told [
  | inl line ↦ inr (inl (is, failure, inl fails, line))
  | inr line ↦ inr (inl (is, NoMemory, inl (memory_of_check site before), line))
]
