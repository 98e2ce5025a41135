-- Calls and their replies, one more at a time.
use Rattle.std.proofs.Common.{◌≡◌, List, [], ◌∷◌, ◌++◌, length, map, refl, ap, suc, zip}
use Rattle.http_replies.specs.Prelude.{answer_of}
use Rattle.http_replies.specs.declared.Reply.{Reply}
use Rattle.office_laws.specs.Prelude.{Call, Exchange, calls_of}

pub exchanges_more : (cs : List Call) (replies : List Reply) (c : Call) (reply : Reply)
    → length replies ≡ length cs
    → zip (cs ++ c ∷ []) (map answer_of (replies ++ reply ∷ []))
    ≡ zip cs (map answer_of replies) ++ (c, answer_of reply) ∷ []
exchanges_more [] [] c reply same = refl
exchanges_more [] (r ∷ rs) c reply same = cc
exchanges_more (d ∷ ds) [] c reply same = cc
exchanges_more (d ∷ ds) (r ∷ rs) c reply same =
    ap (λ (xs : List Exchange). (d, answer_of r) ∷ xs) (exchanges_more ds rs c reply (cc))

-- each call has its exchange
pub exchanges_calls : (cs : List Call) (replies : List Reply) → length replies ≡ length cs
    → calls_of (zip cs (map answer_of replies)) ≡ cs
exchanges_calls [] replies same = refl
exchanges_calls (c ∷ cs) [] same = cc
exchanges_calls (c ∷ cs) (r ∷ rs) same =
    ap (λ (ds : List Call). c ∷ ds) (exchanges_calls cs rs (cc))

pub lengths_more : {A B : Type 0} (cs : List A) (rs : List B) (c : A) (r : B)
    → length rs ≡ length cs → length (rs ++ r ∷ []) ≡ length (cs ++ c ∷ [])
lengths_more [] [] c r same = refl
lengths_more [] (s ∷ rs) c r same = cc
lengths_more (d ∷ cs) [] c r same = cc
lengths_more (d ∷ cs) (s ∷ rs) c r same = ap suc (lengths_more cs rs c r (cc))
