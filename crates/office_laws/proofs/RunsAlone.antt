-- A run of a customer's own machine, as a relation.
use Rattle.std.proofs.Common.{◌≡◌, ◌∙◌, List, [], ◌∷◌, refl, ap}
use Rattle.http_replies.specs.Prelude.{Answer}
use Rattle.text_core.specs.Prelude.{Machine, Runs}
use Rattle.office_laws.specs.Prelude.{SoloState, Call, Exchange, calls_of, replies_of, alone, solo_replies, solo_state}

-- a step of the own machine
abbrev pub Own : Machine SoloState Call Answer
Own s c reply s2 = ◌≡◌ {A = Answer × SoloState} (reply, s2) (alone c s)

-- the own machine gives these replies, one after another
abbrev pub RunsAlone : List Exchange → SoloState → SoloState → Type 0
RunsAlone xs s s2 = Runs Own s xs s2

pub alone_replies : (xs : List Exchange) (s s2 : SoloState) → RunsAlone xs s s2
    → replies_of xs ≡ solo_replies (calls_of xs) s
alone_replies [] s s2 run = refl
alone_replies (x ∷ xs) s s2 run =
    λ i. (run.1 i).0 ∷ (alone_replies xs run.0 s2 run.2
    ∙ ap (λ (p : Answer × SoloState). solo_replies (calls_of xs) p.1) run.1) i

pub alone_state : (xs : List Exchange) (s s2 : SoloState) → RunsAlone xs s s2
    → s2 ≡ solo_state (calls_of xs) s
alone_state [] s s2 run = run
alone_state (x ∷ xs) s s2 run =
    alone_state xs run.0 s2 run.2 ∙ ap (λ (p : Answer × SoloState). solo_state (calls_of xs) p.1) run.1
