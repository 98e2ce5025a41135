-- What is asked, made from what was found.
use Rattle.std.proofs.Common.{◌≡◌, ap, ◌∙◌, Result, Ok, Err, IfOk, IsOkAnd}
use Rattle.std.proofs.lemmas.Result.{IfOk-at_ok}
use Rattle.sqlite.specs.Store.{Ghosts}
use Rattle.sqlite.specs.Held.{Held, state}
use Rattle.office_tables.specs.Prelude.{Tables}
use Rattle.office_sql.specs.Prelude.{SqlReads, tables_in}

-- an answer that is made from what was found, and may be an error where that was none, is asked too
pub asks_made : {S A B E F : Type 0} (g : Ghosts S) (old new : Held S) (f : A → B) (found : Tables → A) (r : Result A E) (q : Result B F)
    → IfOk q (λ b. IsOkAnd r (λ a. b ≡ f a)) → SqlReads g old new r (λ t a. a ≡ found t) → SqlReads g old new q (λ t b. b ≡ f (found t))
asks_made g old new f found (Ok a) (Ok b) is it = record {
  answer = λ clean. is
      ∙ ap f (it.answer clean);
  same = it.same;
  rests = it.rests;
  mode = it.mode;
  crash = it.crash;
}
asks_made g old new f found (Err e) (Ok b) is it = absurd is
asks_made g old new f found r (Err e) is it = record { answer = λ _. tt; same = λ _. tt; rests = it.rests; mode = it.mode; crash = it.crash }

-- an answer that is made from another answers too
pub asks_of : {S A B E : Type 0} (g : Ghosts S) (old new : Held S) (r : Result A E) (x : A) (a : B)
    (P : Tables → A → Type 0) (Q : Tables → B → Type 0) → r ≡ Ok x → SqlReads g old new r P
    → ((t : Tables) → P t x → Q t a) → SqlReads {E = E} g old new (Ok a) Q
asks_of g old new (Ok y) x a P Q is it answer = record {
  answer = λ clean. answer (tables_in (state g old).now.trees) (IfOk-at_ok (P (tables_in (state g old).now.trees)) is (it.answer clean));
  same = it.same;
  rests = it.rests;
  mode = it.mode;
  crash = it.crash;
}
asks_of g old new (Err e) x a P Q is it answer = absurd (let f = is in cc)
