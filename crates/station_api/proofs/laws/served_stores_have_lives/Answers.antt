use Rattle.station_api.proofs.Living.{kept_text, open_life, stopped_life}
use Rattle.station_api.proofs.laws.served_stores_have_lives.Goals as goal

pub returns-clause-stopped : goal.returns-clause-stopped
returns-clause-stopped g c = λ s left honest may.
    stopped_life g.K.Keep s (λ up. s.fresh (g.K.Keep.tables s.opened) (g.met.K.Keep.stands s.opened up)) honest left may

pub returns-clause-ended_properly : goal.returns-clause-ended_properly
returns-clause-ended_properly g c = λ s up.
    open_life g.K.Keep s (λ begun. s.fresh (g.K.Keep.tables s.opened) (g.met.K.Keep.stands s.opened begun)) (g.met.K.Keep.clean s.ended up) up

pub returns-clause-text : goal.returns-clause-text
returns-clause-text g c = λ s.
    kept_text g.K.Keep s (λ up. s.fresh (g.K.Keep.tables s.opened) (g.met.K.Keep.stands s.opened up))
