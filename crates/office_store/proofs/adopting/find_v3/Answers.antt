use Rattle.store_inspection.specs.declared.version.Version.TheVariants.{V3}
use Rattle.office_store.proofs.Refusals.{found_after, says_of}
use Rattle.office_store.proofs.Preparing.{refused, prepared_after}
use Rattle.office_store.proofs.adopting.find_v3.Goals as goal

pub hold_text-requires : goal.hold_text-requires
hold_text-requires g c =
    let site = c.args.site.now in
    let test = c.in_ok-test_v3.ensures in
    record {
      found = found_after g.S.Store site V3 test c.requires.can.shows_committed (λ calm both. both.0.0);
      apart = λ calm. (says_of g.S.Store site test calm).0.1;
      can = λ calm. (says_of g.S.Store site test calm).1;
    }

pub returns : goal.returns
returns g c = prepared_after g.S.Store c.args.site.now c.in_ok-test_v3.ensures c.hold_text.ensures

pub returns-in_err-test_v3 : goal.returns-in_err-test_v3
returns-in_err-test_v3 g c = refused g.S.Store c.args.site.now _ c.from_residual.ensures.1 c.in_err-test_v3.ensures
