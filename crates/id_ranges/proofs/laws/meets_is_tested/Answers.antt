use Rattle.id_ranges.proofs.Meeting.{meets_from_test, test_from_meets}
use Rattle.id_ranges.proofs.laws.meets_is_tested.Goals as goal

pub returns : goal.returns
returns c a b = (meets_from_test a b, test_from_meets a b)
