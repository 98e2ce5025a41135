-- Why `NumberCache::find` meets its contract, where that has to be said: the map of the number stands at the number's place.
use Rattle.std.proofs.Common.{◌≡◌, List, Some, None, nat_eq, get_or, map, sym, ap, subst, ◌∙◌, remove}
use Rattle.fusemap_core.specs.Numbers.{IsMapOfNumber}
use Rattle.fusemap_core.specs.Recent.{with_first}
use Rattle.fusemap_core.specs.declared.numbered.NumberedMap.{NumberedMap}
use Rattle.std.proofs.lemmas.List.Elements.{All-same}
use Rattle.fusemap_core.proofs.Brought.{All-brought, map-brought, position-map}
use Rattle.fusemap_core.proofs.NumberedMaps.{copy_is, number_at_place, place_of_kept, right_at_place}
use Rattle.fusemap_core.proofs.Places.{at_found, at_none, not_none}
use Rattle.fusemap_core.proofs.numbered.NumberCache.find.Goals as goal

pub returns-in_err-place-clause-again : goal.returns-in_err-place-clause-again
returns-in_err-place-clause-again c =
    let kept = c.args.self.now.kept.items in
    let none = place_of_kept c.args.id kept c.as_slice.result.now None c.as_slice.ensures.value c.in_err-place.ensures in
    at_none _ _ (position-map (λ (one : NumberedMap). one.id) (nat_eq c.args.id) kept ∙ none)

pub returns-clause-found : goal.returns-clause-found
returns-clause-found c = λ map_of right.
    let id = c.args.id in
    let kept = c.args.self.now.kept.items in
    let place = c.in_ok-place.place in
    let one = c.index.result.now in
    let found = place_of_kept id kept c.as_slice.result.now (Some place) c.as_slice.ensures.value c.in_ok-place.ensures in
    let number : one.id ≡ id = ap (λ (one : NumberedMap). one.id) c.index.ensures ∙ number_at_place id kept place one found in
    let is : IsMapOfNumber map_of one = subst (IsMapOfNumber map_of) (sym c.index.ensures) (right_at_place map_of id kept place one found right) in
    rw c.ok.ensures.value (copy_is map_of id one c.copy-map.result number is c.copy-map.ensures)

pub returns-clause-right : goal.returns-clause-right
returns-clause-right c = λ map_of right.
    let id = c.args.id in
    let kept = c.args.self.now.kept.items in
    let place = c.in_ok-place.place in
    let one = c.index.result.now in
    let found = place_of_kept id kept c.as_slice.result.now (Some place) c.as_slice.ensures.value c.in_ok-place.ensures in
    let here = right_at_place map_of id kept place one found right in
    All-same (IsMapOfNumber map_of) c.bring_first.new.kept.items _ (c.bring_first.ensures one)
    (All-brought (IsMapOfNumber map_of) (get_or kept place one) kept place here right)

pub returns-clause-again : goal.returns-clause-again
returns-clause-again c =
    let id = c.args.id in
    let kept = c.args.self.now.kept.items in
    let place = c.in_ok-place.place in
    let one = c.index.result.now in
    let number = λ (one : NumberedMap). one.id in
    let found = place_of_kept id kept c.as_slice.result.now (Some place) c.as_slice.ensures.value c.in_ok-place.ensures in
    at_found _ _ place (position-map number (nat_eq id) kept ∙ found)
    (ap (λ (ones : List NumberedMap). map number ones) (c.bring_first.ensures one)
    ∙ (map-brought number (get_or kept place one) kept place
    ∙ ap (λ n. with_first n (remove (map number kept) place)) (number_at_place id kept place one found)))

pub returns-clause-other : goal.returns-clause-other
returns-clause-other c =
    let id = c.args.id in
    let kept = c.args.self.now.kept.items in
    let place = c.in_ok-place.place in
    let found = place_of_kept id kept c.as_slice.result.now (Some place) c.as_slice.ensures.value c.in_ok-place.ensures in
    not_none _ _ place (position-map (λ (one : NumberedMap). one.id) (nat_eq id) kept ∙ found)
