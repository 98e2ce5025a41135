use Rattle.std.proofs.Common.{◌≡◌, ◌++◌, ◌∙◌, ap, length, List, ℕ, codes, decimal}
use Rattle.http_replies.specs.Prelude.{head_text, line_if, media_type_of}
use Rattle.http_replies.proofs.head.reply_head.Goals as goal

-- one text behind another
behind : (a b c d : List ℕ) → a ≡ b ++ c → b ≡ d → a ≡ d ++ c
behind a b c d e f = e ∙ ap (λ s. s ++ c) f

behind_as : (a b c d e : List ℕ) → a ≡ b ++ c → c ≡ e → b ≡ d → a ≡ d ++ e
behind_as a b c d e f g h = f ∙ (λ i. h i ++ g i)

pub returns-clause-text : goal.returns-clause-text
unfolding head_text
returns-clause-text c =
    let kind = c.as_bytes.ensures.value ∙ c.media_type.ensures.name ∙ ap media_type_of c.kind.ensures in
    let mark = c.asks_token.ensures in
    let size = ap (λ (s : List ℕ). decimal (length s)) c.as_bytes-2.ensures in
    let s1 = behind _ _ _ _ c.put-at.ensures.text c.put_status-at.ensures.text in
    let s2 = behind_as _ _ _ _ _ c.put-at-2.ensures.text kind s1 in
    let s3 = behind _ _ _ _ c.put-at-3.ensures.text s2 in
    let s4 = behind_as _ _ _ _ _ c.put_number-at.ensures.text size s3 in
    let s5 = behind _ _ _ _ c.put-at-4.ensures.text s4 in
    let s6 = behind_as _ _ _ _ _ c.put_if-at.ensures.text (ap (λ b. line_if b (codes "WWW-Authenticate: Bearer\r\n")) mark) s5 in
    let s7 = behind _ _ _ _ c.put_if-at-2.ensures.text s6 in
    behind _ _ _ _ c.put.ensures.text s7
