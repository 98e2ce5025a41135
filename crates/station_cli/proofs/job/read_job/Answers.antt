use Rattle.std.proofs.Common.{◌≡◌, ◌≢◌, ◌⊎◌, true, None, List, [], ◌∷◌, Option, option_and_then, inl, inr, refl, sym, ap, subst, ◌∙◌}
use Rattle.clap.specs.Words.{App, IsAmong, Row, Text, Kinds, HasKind, kind_of, app_of, is_simple, is_simple_and_free, fault_of, subcommand_of}
use Rattle.clap.specs.declared.error.Error.{Error}
use Rattle.clap.specs.declared.error.kind.ErrorKind.{ErrorKind}
use Rattle.clap.specs.declared.error.kind.ErrorKind.TheVariants.{DisplayHelp, DisplayVersion, OutOfMemory}
use Rattle.clap.proofs.OnLiterals.{clap_on_literals}
use Rattle.station_cli.specs.declared.job.Job.{Job}
use Rattle.station_cli.specs.declared.job.TheConstants.{VERSION}
use Rattle.station_cli.specs.declared.job.WordsFault.{WordsFault}
use Rattle.station_cli.specs.declared.job.WordsFault.TheVariants.{Help, Refused, NoMemory}
use Rattle.station_cli.specs.Prelude.{CanGive, IsFaultOfKind, RefusesWith, job_by, job_of, station_app, texts, job_unless_faulty}
use Rattle.station_cli.proofs.job.read_job.Goals as goal

simple : is_simple station_app ≡ true
unfolding clap_on_literals
simple = refl

free : is_simple_and_free station_app ≡ true
unfolding clap_on_literals
free = refl

-- an error whose kind is the only one
is_only : (kind : ErrorKind) (kinds : Kinds) (e : Error) → kinds ≡ kind ∷ [] → HasKind kinds e → (kind_of e ≢ OutOfMemory) → kind_of e ≡ kind
is_only kind kinds e only h some = elim h [
  | inl memory ↦ absurd (some memory)
  | inr among ↦
      let one : IsAmong (kind_of e) (kind ∷ []) = rw only at among in
      elim one [ inl is ↦ is | inr none ↦ absurd none ]
]

-- an error of clap's kinds gives one of the faults that those kinds can give
can_give : (number : Text) (kinds : Kinds) (e : Error) (fault : WordsFault) → HasKind kinds e → IsFaultOfKind number (kind_of e) fault
    → CanGive number kinds fault
can_give number kinds e (Help text) h given = elim h [
  | inl memory ↦ absurd (elim given [
    | inl help ↦ let bad : DisplayHelp ≡ OutOfMemory = sym help ∙ memory in cc
    | inr version ↦ let bad : DisplayVersion ≡ OutOfMemory = sym version.0 ∙ memory in cc
  ])
  | inr among ↦ elim given [
    | inl help ↦ inl (rw help at among)
    | inr version ↦ inr (rw version.0 at among, version.1)
  ]
]
can_give number kinds e (Refused text) h given =
    ((λ only. given.0 (is_only DisplayHelp kinds e only h given.2)), (λ only. given.1 (is_only DisplayVersion kinds e only h given.2)))
can_give number kinds e NoMemory h given = tt

only_memory : (number : Text) (e : Error) (fault : WordsFault) → kind_of e ≡ OutOfMemory → IsFaultOfKind number (kind_of e) fault → fault ≡ NoMemory
only_memory number e (Help text) memory given = absurd (elim given [
  | inl help ↦ let bad : DisplayHelp ≡ OutOfMemory = sym help ∙ memory in cc
  | inr version ↦ let bad : DisplayVersion ≡ OutOfMemory = sym version.0 ∙ memory in cc
])
only_memory number e (Refused text) memory given = absurd (given.2 memory)
only_memory number e NoMemory memory given = refl

-- a fault other than of memory means that the words have a fault
faulty : (number : Text) (kinds : Kinds) (job : Option Job) (e : Error) (fault : WordsFault) → HasKind kinds e → IsFaultOfKind number (kind_of e) fault
    → (fault ≡ NoMemory) ⊎ (job_unless_faulty kinds job ≡ None)
faulty number [] job e fault h given = elim h [ inl memory ↦ inl (only_memory number e fault memory given) | inr among ↦ absurd among ]
faulty number (kind ∷ kinds) job e fault h given = inr refl

-- a refusal of words that have no fault
refusal : (number : Text) (kinds : Kinds) (fault : WordsFault) (text : Text) → kinds ≡ [] → RefusesWith text fault → CanGive number kinds fault
refusal number kinds (Help given) text none is = absurd is
refusal number kinds (Refused given) text none is =
    ((λ only. let bad : [] ≡ DisplayHelp ∷ [] = sym none ∙ only in cc), (λ only. let bad : [] ≡ DisplayVersion ∷ [] = sym none ∙ only in cc))
refusal number kinds NoMemory text none is = tt

-- what holds of the kinds of fault of the command that was made
of_made : (P : Kinds → Type 0) (made app : App) (words : List Text) → made ≡ app → P (fault_of made words) → P (fault_of app words)
of_made P made app words same = subst (λ (a : App). P (fault_of a words)) same

-- what the words give, by what the matches of the command give
read : (made app : App) (words : List Text) (rows : Option (Text × List Row)) (job : Option Job) → made ≡ app
    → fault_of made words ≡ [] → rows ≡ subcommand_of made words → job ≡ option_and_then job_by rows
    → job_unless_faulty (fault_of app words) (option_and_then job_by (subcommand_of app words)) ≡ job
read made app words rows job same none found is =
    let clear : fault_of app words ≡ [] = ap (λ (a : App). fault_of a words) (sym same) ∙ none in
    let entered : subcommand_of app words ≡ rows = ap (λ (a : App). subcommand_of a words) (sym same) ∙ sym found in
    rw (clear, entered) (sym is)

pub returns-in-Err-clause-err : goal.returns-in-Err-clause-err
returns-in-Err-clause-err c =
    let made = c.in_ok-command.ensures in
    let kinds = of_made (λ (k : Kinds). HasKind k c.in-Err.error) (app_of c.in_ok-command.command) station_app (texts c.args.words) made
    (c.in-Err.ensures.kinds (ap is_simple_and_free made ∙ free)) in
    faulty VERSION.now (fault_of station_app (texts c.args.words)) (job_of (texts c.args.words)) c.in-Err.error c.words_fault.result kinds c.words_fault.ensures

pub returns-in-Err-clause-fault : goal.returns-in-Err-clause-fault
returns-in-Err-clause-fault c =
    let made = c.in_ok-command.ensures in
    let kinds = of_made (λ (k : Kinds). HasKind k c.in-Err.error) (app_of c.in_ok-command.command) station_app (texts c.args.words) made
    (c.in-Err.ensures.kinds (ap is_simple_and_free made ∙ free)) in
    can_give VERSION.now (fault_of station_app (texts c.args.words)) c.in-Err.error c.words_fault.result kinds c.words_fault.ensures

pub returns-in-Some-clause-ok : goal.returns-in-Some-clause-ok
returns-in-Some-clause-ok c =
    let made = c.in_ok-command.ensures in
    read (app_of c.in_ok-command.command) station_app (texts c.args.words) _ _ made
    (c.in-Ok.ensures.kinds (ap is_simple_and_free made ∙ free)) (c.in-Ok.ensures.matches (ap is_simple made ∙ simple)).1 c.in_ok-job.ensures
    ∙ c.in-Some.is

pub returns-clause-err : goal.returns-clause-err
returns-clause-err c =
    let made = c.in_ok-command.ensures in
    inr (read (app_of c.in_ok-command.command) station_app (texts c.args.words) _ _ made
    (c.in-Ok.ensures.kinds (ap is_simple_and_free made ∙ free)) (c.in-Ok.ensures.matches (ap is_simple made ∙ simple)).1 c.in_ok-job.ensures
    ∙ c.in-None.is)

pub returns-clause-fault : goal.returns-clause-fault
returns-clause-fault c =
    let made = c.in_ok-command.ensures in
    let none = of_made (λ (k : Kinds). k ≡ []) (app_of c.in_ok-command.command) station_app (texts c.args.words) made
    (c.in-Ok.ensures.kinds (ap is_simple_and_free made ∙ free)) in
    refusal VERSION.now (fault_of station_app (texts c.args.words)) c.refused.result _ none c.refused.ensures
