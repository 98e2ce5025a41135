-- A text with no RETURNING commits nothing as a query, whatever the schema is.
use Rattle.std.proofs.Common.{◌≡◌, ℕ, ◌+◌, List, Bool, true, false, cond, Option, None, Ok, Err, IfOk, sym, ap}
use Rattle.office_sql.proofs.Kit.{Schema, Row, Command, Compiled, with_command, small, Checked, and_then, NoSuchTable, Returning, Parsed, reads_listing}
use Rattle.office_sql.proofs.Kit.{if_select, is_select, State, Survives, survives_weaker}
use Rattle.sqlite_resolve.specs.Compile.{first, returning, compiled, planned, meaning, timed, command}
use Rattle.office_sql.proofs.Stepping.{same_value}
use Rattle.sqlite.specs.Listing.{understood, listing_schema}
use Rattle.sqlite.specs.State.{CommitsShowing}

abbrev pub IsBare : List ℕ → Type 0
IsBare text = IfOk (first text) (λ p. (schema : Schema) (base : ℕ) → returning schema base p.statement ≡ Ok None)

tail : (M : Checked Command) (formats : List (List ℕ)) (p : Parsed) (c : Compiled)
    → and_then (and_then (and_then (Ok None) (λ (shown : Option Returning).
    and_then M (λ k. Ok (k, shown)))) (λ found. Ok (formats, found))) (λ plan.
    Ok (with_command p plan)) ≡ Ok c → c.returning ≡ None
tail (Ok k) formats p c h = sym (ap (λ (d : Compiled). d.returning) (same_value h))
tail (Err e) formats p c h = absurd (let f = h in cc)

after : (p : Parsed) (schema : Schema) (c : Compiled) → ((base : ℕ) → returning schema base p.statement ≡ Ok None)
    → and_then (planned schema p) (λ plan. Ok (with_command p plan)) ≡ Ok c → c.returning ≡ None
unfolding planned meaning
after p schema c none h =
    let base = small p.names + small (timed schema p.formats p.statement) in
    tail (command schema p.formats base p.statement) (timed schema p.formats p.statement) p c (rw (none base) at h)

bare : (text : List ℕ) → IsBare text → (schema : Schema) (c : Compiled) → compiled schema text ≡ Ok c → c.returning ≡ None
unfolding compiled
bare text = elim (first text) as (λ P.
    IfOk P (λ p. (schema : Schema) (base : ℕ) → returning schema base p.statement ≡ Ok None)
    → (schema : Schema) (c : Compiled)
    → and_then P (λ p. and_then (planned schema p) (λ plan. Ok (with_command p plan))) ≡ Ok c → c.returning ≡ None) [
      | Ok p ↦ λ none schema c h. after p schema c (none schema) h
      | Err e ↦ λ none schema c h. absurd (let f = h in cc)
    ]

selected : (r : Checked Compiled) (c : Compiled) → if_select r ≡ Ok c → r ≡ Ok c
selected (Ok d) c = picked d c (is_select d.command)
  where
    picked : (d c : Compiled) (b : Bool) → ◌≡◌ {A = Checked Compiled} (cond b (Ok d) (Err NoSuchTable)) (Ok c) → ◌≡◌ {A = Checked Compiled} (Ok d) (Ok c)
    picked d c true h = h
    picked d c false h = absurd (let f = h in cc)
selected (Err e) c = λ h. absurd (let f = h in cc)

pub bare_understood : (text : List ℕ) → IsBare text → (schema : Schema) (c : Compiled) → understood schema text ≡ Ok c → c.returning ≡ None
unfolding understood
bare_understood text is schema c =
    elim (reads_listing schema text) as (λ b. cond b (if_select (compiled listing_schema text)) (compiled schema text) ≡ Ok c → c.returning ≡ None)
    [ true ↦ λ h. bare text is listing_schema c (selected _ c h) | false ↦ λ h. bare text is schema c h ]

pub bare_commits_nothing : (text : List ℕ) (params : Row) (old new : State) → IsBare text
    → Survives old new (CommitsShowing text params old) → Survives old new (λ _. ⊥)
unfolding CommitsShowing
bare_commits_nothing text params old new is s = survives_weaker old new _ _ (λ clean db h.
    absurd (let some = rw (bare_understood text is old.now.schema h.0 h.1.is) at h.2 in cc)) s
