use Rattle.std.proofs.Common.{◌++◌, ◌∙◌, ap, sym, subst, append_assoc, List, ℕ}
use Rattle.http_frames.specs.Prelude.{IsCut, IsOccurrence, parameters_named, piece_values}
use Rattle.http_frames.proofs.FieldsLemmas.{parameters_at, parameters_whole}
use Rattle.http_frames.proofs.fields.only_parameter.Goals as goal

pub loop-piece-preserved : goal.loop-piece-preserved
loop-piece-preserved c =
    let rest = c.loop-piece.rest.now in
    let name = c.args.name.now in
    let piece = c.in-Some.piece.now in
    let after = c.in-Some.after.now in
    let cut = subst (IsCut 38 rest) c.in-Some.is c.cut_at.ensures in
    let seen = c.loop-piece.invariant in (
      seen.0 ++ piece_values name piece,
      rw c.value_of_piece.ensures at (c.found_more-found.ensures seen.0 seen.1),
      append_assoc seen.0 (piece_values name piece) (parameters_named name after)
          ∙ ap (λ (t : List (List ℕ)). seen.0 ++ t) (sym (parameters_at name rest piece after cut.0 cut.1)) ∙ seen.2,
    )

pub returns : goal.returns
returns c =
    let rest = c.loop-piece.rest.now in
    let name = c.args.name.now in
    let none = subst (IsCut 38 rest) c.in_default.is c.cut_at.ensures in
    let seen = c.loop-piece.invariant in
    let all = ap (λ (t : List (List ℕ)). seen.0 ++ t) (sym (parameters_whole name rest none)) ∙ seen.2 in
    subst (λ (values : List (List ℕ)). IsOccurrence values c.found_more.result) all (rw c.value_of_piece-2.ensures at (c.found_more.ensures seen.0 seen.1))
