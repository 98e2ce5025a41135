-- What a crash may leave after one exchange more.
use Rattle.std.proofs.Common.{◌≡◌, ◌⊎◌, ◌∷◌, ◌++◌}
use Rattle.text_core.proofs.Kit.{inl, inr, true, false, List, [], append_assoc, refl, sym, ap, subst, MatchBool, not, and_right, append-nil, AllByRecursion}
use Rattle.http_replies.specs.Prelude.{Answer, is_unavailable}
use Rattle.office_tables.specs.Prelude.{Tables}
use Rattle.office_laws.proofs.Types.{Request, unkept}
use Rattle.office_commands.specs.Prelude.{refusal}
use Rattle.office_rules.specs.Prelude.{Step}
use Rattle.office_laws.specs.Prelude.{Call, Exchange, FulfilsWanted, Passes, asks, IsInDoubt, IsLeft, StaysInDoubt, Leaves, LeavesAfter, Session}
use Rattle.office_laws.specs.Prelude.{WasUnavailable, is_request, is_served}

-- the exchange answers nothing
abbrev pub AnswersNothing : Exchange → Type 0
AnswersNothing later = is_served later ≡ false

all_more : (xs ys : List Exchange) → AllByRecursion AnswersNothing xs → AllByRecursion AnswersNothing ys
    → AllByRecursion AnswersNothing (xs ++ ys)
all_more [] ys all more = more
all_more (x ∷ xs) ys all more = (all.0, all_more xs ys all.1 more)

-- a 503 answers nothing
pub answers_nothing : (x : Exchange) → is_unavailable x.1.status ≡ true → is_served x ≡ false
answers_nothing x is = and_right (is_request x.0.wanted) (not (is_unavailable x.1.status)) (ap not is)

-- more that answer nothing
doubt_more : (xs ys : List Exchange) (c : Call) → AllByRecursion AnswersNothing ys
    → StaysInDoubt xs c → StaysInDoubt (xs ++ ys) c
doubt_more [] ys c more doubt = absurd doubt
doubt_more (x ∷ xs) ys c more (inl here) = inl (here.0, here.1, all_more xs ys here.2 more)
doubt_more (x ∷ xs) ys c more (inr later) = inr (doubt_more xs ys c more later)

doubt_last : (xs : List Exchange) (x : Exchange) → is_unavailable x.1.status ≡ true
    → StaysInDoubt (xs ++ x ∷ []) x.0
doubt_last [] x is = inl (refl, is, tt)
doubt_last (y ∷ ys) x is = inr (doubt_last ys x is)

left_more : (xs ys : List Exchange) (t : Tables) (more : List Exchange) (left : Tables)
    → AllByRecursion AnswersNothing ys → IsLeft (StaysInDoubt xs) t more left
    → IsLeft (StaysInDoubt (xs ++ ys)) t more left
left_more xs ys t [] left all before = before
left_more xs ys t (x ∷ []) left all before =
    (doubt_more xs ys x.0 all before.0, before.1, before.2)
left_more xs ys t (x ∷ z ∷ zs) left all before = absurd before

-- the step of a request that was answered 503
made_left : (xs : List Exchange) (x : Exchange) (r : Request) (t left : Tables)
    → x.0.wanted ≡ asks r → is_unavailable x.1.status ≡ true → (reply : Answer)
    → Step x.0.section x.0.seat t r reply left → Leaves (xs ++ x ∷ []) t left
made_left xs x r t left asked is reply step =
    ((x.0, reply) ∷ [], (doubt_last xs x is, rw asked refl, rw asked step))

-- one exchange more after some
one_more : (xs : List Exchange) (x : Exchange) (r : Request) (t t2 : Tables)
    (Before After : Tables → Type 0) (Opened : Type 0)
    → x.0.wanted ≡ asks r
    → Passes t x.0 x.1 t2
    → ((left : Tables) → Before left → Leaves xs t left)
    → MatchBool (is_unavailable x.1.status) (Unit {0}) Opened
    → (Opened → (left : Tables) → After left → left ≡ t2)
    → ((left : Tables) → After left → Before left
    ⊎ ((reply : Answer) × Step x.0.section x.0.seat t r reply left))
    → (left : Tables) → After left → Leaves (xs ++ x ∷ []) t2 left
one_more xs x r t t2 Before After Opened asked passes before opened answered crash left leaves =
    elim (is_unavailable x.1.status) as
    (λ b. is_unavailable x.1.status ≡ b
    → MatchBool b ((x.1 ≡ refusal unkept) × (t2 ≡ t)) (FulfilsWanted x.0 x.0.wanted t x.1 t2)
    → MatchBool b (Unit {0}) Opened → Leaves (xs ++ x ∷ []) t2 left) [
      | true ↦ λ is same _. subst (λ (m : Tables). Leaves (xs ++ x ∷ []) m left) (sym same.1)
          (by is (crash left leaves))
      | false ↦ λ _ _ is. ([], answered is left leaves)
    ] refl passes opened
  where
    by : is_unavailable x.1.status ≡ true
        → Before left ⊎ ((reply : Answer) × Step x.0.section x.0.seat t r reply left)
        → Leaves (xs ++ x ∷ []) t left
    by is (inl old) = let then_left = before left old in (
      then_left.0,
      left_more xs (x ∷ []) t then_left.0 left (answers_nothing x is, tt) then_left.1,
    )
    by is (inr made) = made_left xs x r t left asked is made.0 made.1

-- a crash after one exchange more leaves what a stop leaves
pub leaves_more : (xs : List Exchange) (x : Exchange) (r : Request) (t mid t2 : Tables)
    (First Before After : Tables → Type 0) (Opened : Type 0)
    → x.0.wanted ≡ asks r
    → Passes mid x.0 x.1 t2
    → LeavesAfter xs First t Before mid
    → MatchBool (is_unavailable x.1.status) (Unit {0}) Opened
    → (Opened → (left : Tables) → After left → left ≡ t2)
    → ((left : Tables) → After left → Before left
    ⊎ ((reply : Answer) × Step x.0.section x.0.seat mid r reply left))
    → LeavesAfter (xs ++ x ∷ []) First t After t2
leaves_more xs x r t mid t2 First Before After Opened asked passes before opened answered crash front
    starts left leaves =
    subst (λ (all : List Exchange). Leaves all t2 left) (append_assoc front xs (x ∷ []))
    (one_more (front ++ xs) x r mid t2 Before After Opened asked passes
    (before front starts) opened answered crash left leaves)

-- exchanges that answer nothing, leave the tables and let a crash leave no more than before
pub leaves_unanswered : (xs : List Exchange) (t t2 : Tables) (Before After : Tables → Type 0)
    → AllByRecursion AnswersNothing xs → t2 ≡ t → ((left : Tables) → After left → Before left)
    → LeavesAfter xs Before t After t2
leaves_unanswered xs t t2 Before After all same fewer front starts left leaves =
    let before = starts left (fewer left leaves) in
    subst (λ (m : Tables). Leaves (front ++ xs) m left) (sym same)
    (before.0, left_more front xs t before.0 left all before.1)

-- a crash after no exchange leaves what was left before
pub leaves_none : (First : Tables → Type 0) (t : Tables) → LeavesAfter [] First t First t
leaves_none First t front starts left leaves =
    subst (λ (all : List Exchange). Leaves all t left) (sym (append-nil front)) (starts left leaves)

-- a crash after two parts of exchanges leaves what a stop leaves after both
pub leaves_joined : (xs ys : List Exchange) (First Before After : Tables → Type 0)
    (t mid t2 : Tables)
    → LeavesAfter xs First t Before mid → LeavesAfter ys Before mid After t2
    → LeavesAfter (xs ++ ys) First t After t2
leaves_joined xs ys First Before After t mid t2 one two front starts left leaves =
    subst (λ (all : List Exchange). Leaves all t2 left) (append_assoc front xs ys)
    (two (front ++ xs) (one front starts) left leaves)

-- a call that stays in doubt got a 503
doubt_unavailable : (xs : List Exchange) (c : Call) → StaysInDoubt xs c → WasUnavailable xs c
doubt_unavailable [] c is = absurd is
doubt_unavailable (x ∷ xs) c (inl here) = inl (here.0, here.1)
doubt_unavailable (x ∷ xs) c (inr later) = inr (doubt_unavailable xs c later)

-- what a crash may leave after a session is what a stop may leave
pub stop_leaves : (s : Session) (t : Tables) (more : List Exchange) (left : Tables)
    → IsLeft (StaysInDoubt s.exchanges) t more left → IsLeft (IsInDoubt s) t more left
stop_leaves s t [] left is = is
stop_leaves s t (x ∷ []) left is = (inr (doubt_unavailable s.exchanges x.0 is.0), is.1, is.2)
stop_leaves s t (x ∷ y ∷ others) left is = absurd is
