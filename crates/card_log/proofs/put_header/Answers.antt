-- `put_header` meets its contract: the homes are put one after the other, then the length before them. Assumes nothing.
use mathlib.Core.Path.{◌≡◌, ◌∙◌, sym, ap, refl}
use Prim.Native.Nat.{ℕ, ◌+◌, ◌*◌}
use native.Mathlib.Omega.{arith}
use Rattle.base.specs.Bytes.{Bytes, bytes, put}
use Rattle.base.specs.Number.{digit}
use Rattle.card_log.specs.Words.{put_words, words_more, words_cons, words-none}
use Rattle.card_log.specs.Journal.{words, header}
use Rattle.card_log.specs.Headers.{words_suc}
use Rattle.card_log.proofs.put_header.Goals as goal

-- a turn, and the end, over plain memories: what the call ensures, then the invariant
turn : {e' e : Bytes} (d : Bytes) (a i : ℕ) (w : ℕ → ℕ) → e' ≡ put e (a + 4 * i) 4 (digit (w i)) → e ≡ put_words d a i w → e' ≡ put_words d a (i + 1) w
turn d a i w p q = p ∙ ap (λ m. put m (a + 4 * i) 4 (digit (w i))) q ∙ words_more d a i w

end : {e' e : Bytes} (d : Bytes) (i n v : ℕ) (h : ℕ → ℕ) → i ≡ n → v ≡ n → e' ≡ put e header 4 (digit v) → e ≡ put_words d 2052 i h → e' ≡ put_words d header (n + 1) (words n h)
unfolding words
end d i n v h m z p q =
    p ∙ ap (λ m. put m header 4 (digit v)) (q ∙ ap (λ z. put_words d 2052 z h) m)
    ∙ words_cons d header 2052 n v h (words n h) refl (sym z) (words_suc n h)

pub loop-i-init : goal.loop-i-init
loop-i-init c = (refl, sym (words-none _ _ _))

pub loop-i-preserved : goal.loop-i-preserved
loop-i-preserved c = (omega (arith, c.put_u32.auto.dst), turn (bytes c.args.image.now) 2052 c.loop-i.i (bytes c.args.homes.now) c.put_u32.ensures c.loop-i.invariant.1)

pub returns : goal.returns
returns c = end (bytes c.args.image.now) c.loop-i.i c.args.n c.args.n (bytes c.args.homes.now) (omega arith) refl c.put_u32-2.ensures c.loop-i.invariant.1
