use Rattle.std.proofs.Common.{◌≡◌, ◌++◌, map, take}
use Rattle.yield_report.specs.Prelude.{number_names}
use Rattle.yield_report.proofs.rows.append_header.Given as goal

-- the fields so far are those in front and the names so far, of the names of the numbers
abbrev pub invariant-loop-name : goal.invariant-loop-name
invariant-loop-name l = record {
  names : map (λ n. n.now) l.name-items ≡ number_names;
  fields : map (λ f. f.now) l.fields.items ≡ map (λ f. f.now) l.front ++ map (λ n. n.now) (take l.name-index l.name-items);
}
