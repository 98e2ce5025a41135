-- A run from sound tables keeps what is promised.
use Rattle.std.proofs.Common.{List}
use Rattle.site_core.specs.Prelude.{Ownership}
use Rattle.office_tables.specs.Prelude.{Tables}
use Rattle.office_laws.specs.Prelude.{IsSound, Exchange, IsRun, calls_of, AreSeats, Promises}
use Rattle.office_laws.proofs.Acting.{acts_once}
use Rattle.office_laws.proofs.Giving.{gives_once}
use Rattle.office_laws.proofs.RunLaws.{isolated, run_alone, run_grows, run_sound}

pub promises : (first : Ownership) (xs : List Exchange) (last : Ownership) (t t2 : Tables)
    → IsSound first t → AreSeats first (calls_of xs) last → IsRun xs t t2 → Promises last xs t t2
promises first xs last t t2 sound seats run = record {
  sound = run_sound first xs last t t2 sound seats run;
  isolated = λ customer. isolated customer first xs last t t2 sound seats run;
  grows = run_grows first xs last t t2 sound seats run;
  given = gives_once first xs last t t2 sound seats run;
  once = λ customer. acts_once customer xs t t2
      (run_alone customer first xs last t t2 sound seats run);
}
