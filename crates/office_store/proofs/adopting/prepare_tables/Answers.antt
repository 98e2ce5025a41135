-- A schema of no version is refused, and nothing is done.
use Rattle.std.proofs.Common.{◌≡◌, ◌≢◌, false, true≢false, Err, inl, refl, sym, subst, ◌∙◌}
use Rattle.site_core.specs.Prelude.{TextOfSite}
use Rattle.office_sql.proofs.Kit.{Held, state}
use Rattle.sqlite.specs.Store.{Ghosts}
use Rattle.office_sql.specs.Prelude.{no_schema}
use Rattle.office_store.specs.Prelude.{IsPreparedFor, PreparesTables}
use Rattle.store_inspection.specs.Prelude.{IsOfNoVersion}
use Rattle.office_store.proofs.Types.{OtherTables}
use Rattle.office_store.proofs.Changing.{stays}
use Rattle.office_store.proofs.Preparing.{unprepared}
use Rattle.office_store.proofs.adopting.prepare_tables.Goals as goal

refused : {S : Type 0} (g : Ghosts S) (site : TextOfSite) (conn : Held S)
    → conn.in_transaction ≡ false → (state g conn).now.schema ≢ no_schema
    → IsOfNoVersion (state g conn).now.schema
    → PreparesTables g site conn conn (Err OtherTables)
refused g site conn mode some none = unprepared g site conn conn OtherTables mode
    (record {
      other_site = λ clean told. absurd (let e = told in cc);
      other_tables = λ clean told. inl (some, none);
      other_schema = λ up other. refl;
    })
    (λ clean. record { was_open = λ up. up; committed = λ up. refl })
    (λ other. record { same = λ clean. refl; crash = stays (state g conn) (λ _. ⊥) })
    (stays (state g conn) (IsPreparedFor site (state g conn)))

pub returns-in-None-clause-prepares : goal.returns-in-None-clause-prepares
returns-in-None-clause-prepares g c =
    refused g.S.Store c.args.site.now c.args.conn.now c.requires.mode
    (λ e. true≢false (sym (c.is_empty_schema.ensures.1 (c.schema.ensures.value ∙ e)) ∙ c.if-is_empty_schema.false))
    (subst IsOfNoVersion c.schema-2.ensures.value c.in-None.ensures.none)

pub settle-requires-clause-can : goal.settle-requires-clause-can
settle-requires-clause-can g c clean =
    let bare = sym c.schema.ensures.value ∙ c.is_empty_schema.ensures.0 c.if-is_empty_schema.true in
    (bare, c.requires.bare clean bare)

pub returns-then-is_empty_schema-clause-other_schema : goal.returns-then-is_empty_schema-clause-other_schema
returns-then-is_empty_schema-clause-other_schema g c other =
    absurd (other.0 (sym c.schema.ensures.value ∙ c.is_empty_schema.ensures.0 c.if-is_empty_schema.true))

pub returns-in-Some-clause-other_schema : goal.returns-in-Some-clause-other_schema
returns-in-Some-clause-other_schema g c other =
    absurd (other.1 c.in-Some.version (sym c.schema-2.ensures.value ∙ c.in-Some.ensures.some))
