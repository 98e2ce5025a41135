use Rattle.office_store.proofs.opening.open_or_hand_back.Goals as goal

-- such a path was refused
pub returns-in-Ok-clause-unnamed : goal.returns-in-Ok-clause-unnamed
returns-in-Ok-clause-unnamed g c = λ named. absurd (let refused = c.in-Ok.ensures.unnamed named in cc)
