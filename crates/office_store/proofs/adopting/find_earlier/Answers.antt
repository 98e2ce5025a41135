use Rattle.office_store.proofs.Refusals.{found_after, says_of}
use Rattle.office_store.proofs.Preparing.{prepared_after, refused}
use Rattle.office_store.proofs.adopting.find_earlier.Goals as goal

pub settle-requires : goal.settle-requires
settle-requires g c =
    let site = c.args.site.now in
    let test = c.in_ok-test_earlier.ensures in
    record {
      mode = test.mode;
      shows_committed = (found_after g.S.Store site c.args.version test c.requires.can.shows_committed (λ clean whole. whole.0.0)).shows_committed;
      can = λ clean. (c.requires.earlier, says_of g.S.Store site test clean);
    }

pub returns : goal.returns
returns g c = prepared_after g.S.Store c.args.site.now c.in_ok-test_earlier.ensures c.settle.ensures

pub returns-in_err-test_earlier : goal.returns-in_err-test_earlier
returns-in_err-test_earlier g c = refused g.S.Store c.args.site.now _ c.from_residual.ensures.1 c.in_err-test_earlier.ensures
