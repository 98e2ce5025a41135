use Rattle.std.proofs.Common.{◌≡◌, ℕ, List, [], ◌∷◌, get_or, ap, ◌∙◌, arith, Option, Some, None, ◌==◌, if◌then◌else◌}
use Rattle.std.specs.FinMap as map
use Rattle.std.proofs.lemmas.List.{get_or_default}
use Rattle.fuse_image.specs.Prelude.{KeyTable, table}
use Rattle.fuse_image.proofs.Tables.{table-insert}
use Rattle.fuse_image.proofs.keys.Keys.with.Goals as goal

pub returns : goal.returns
returns c =
    let digests = c.self.inside.digests in
    let four = c.self.invariant in
    let at : Option (List ℕ) → ℕ → Option (List ℕ) = λ own b. if c.args.block == b then Some c.args.digest else own in
    let first : c.replaced.result ≡ at (get_or digests 0 None) 0 =
    c.replaced.ensures ∙ ap (λ own. at own 0) (get_or_default digests 0 c.index-self-0.result None (omega (arith, four))) in
    let second : c.replaced-2.result ≡ at (get_or digests 1 None) 1 =
    c.replaced-2.ensures ∙ ap (λ own. at own 1) (get_or_default digests 1 c.index-self-1.result None (omega (arith, four))) in
    let third : c.replaced-3.result ≡ at (get_or digests 2 None) 2 =
    c.replaced-3.ensures ∙ ap (λ own. at own 2) (get_or_default digests 2 c.index-self-2.result None (omega (arith, four))) in
    let fourth : c.replaced-4.result ≡ at (get_or digests 3 None) 3 =
    c.replaced-4.ensures ∙ ap (λ own. at own 3) (get_or_default digests 3 c.index-self-3.result None (omega (arith, four))) in
    (λ i. table (first i ∷ second i ∷ third i ∷ fourth i ∷ []))
    ∙ (table-insert digests c.args.block c.args.digest c.requires ∙ ap (λ (t : KeyTable). map.insert t c.args.block c.args.digest) c.self.view_is)
