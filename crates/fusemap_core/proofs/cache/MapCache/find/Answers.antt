-- Why `MapCache::find` meets its contract, where that has to be said: the map of the text stands at the text's place.
use Rattle.std.proofs.Common.{◌≡◌, List, ℕ, Some, sym, ap, ◌∙◌, bytes_eq, position, remove}
use Rattle.fusemap_core.specs.Recent.{with_first}
use Rattle.fusemap_core.proofs.Places.{at_found, text_at_place}
use Rattle.fusemap_core.proofs.cache.MapCache.find.Goals as goal

pub returns-in_err-map-clause-again : goal.returns-in_err-map-clause-again
returns-in_err-map-clause-again c =
    let text = c.args.text.now in
    let items = c.self.inside.kept.items in
    let place = c.in-Some.place in
    let found = ap (λ (texts : List (List ℕ)). position (bytes_eq text) texts) (sym c.as_slice.ensures.value) ∙ sym c.in-Some.ensures in
    rw (← c.self.view_is) (at_found _ _ place found (c.bring_first.ensures text
    ∙ ap (λ (first : List ℕ). with_first first (remove items place)) (text_at_place text items place text found)))

pub returns-in-Some-clause-map : goal.returns-in-Some-clause-map
returns-in-Some-clause-map c =
    let text = c.args.text.now in
    let items = c.self.inside.kept.items in
    let place = c.in-Some.place in
    let found = ap (λ (texts : List (List ℕ)). position (bytes_eq text) texts) (sym c.as_slice.ensures.value) ∙ sym c.in-Some.ensures in
    let is : c.index.result.now ≡ text = c.index.ensures ∙ text_at_place text items place c.index.result.now found in
    sym (rw is at c.in_ok-map.ensures)

pub returns-in-Some-clause-again : goal.returns-in-Some-clause-again
returns-in-Some-clause-again c =
    let text = c.args.text.now in
    let items = c.self.inside.kept.items in
    let place = c.in-Some.place in
    let found = ap (λ (texts : List (List ℕ)). position (bytes_eq text) texts) (sym c.as_slice.ensures.value) ∙ sym c.in-Some.ensures in
    rw (← c.self.view_is) (at_found _ _ place found (c.bring_first.ensures text
    ∙ ap (λ (first : List ℕ). with_first first (remove items place)) (text_at_place text items place text found)))
