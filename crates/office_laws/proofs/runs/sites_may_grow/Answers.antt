use Rattle.site_core.specs.Prelude.{ownership_of}
use Rattle.site_core.proofs.Kept.{owners_grown}
use Rattle.office_laws.proofs.Grown.{growth_itself, growth_more, sound_grown}
use Rattle.office_laws.proofs.runs.sites_may_grow.Goals as goal

pub returns-clause-sound : goal.returns-clause-sound
returns-clause-sound c = λ old new t w growth sound.
    sound_grown (ownership_of old) (ownership_of new) t (owners_grown old new w growth) sound

pub returns-clause-owners : goal.returns-clause-owners
returns-clause-owners c = sound_grown

pub returns-clause-itself : goal.returns-clause-itself
returns-clause-itself c = growth_itself

pub returns-clause-again : goal.returns-clause-again
returns-clause-again c = growth_more
