-- A block as a part of a slice: what `block_in` hands out. Assumes nothing.
use Rattle.std.specs.Prelude.{◌≡◌, List, [], ℕ, ◌+◌, ◌-◌, ◌*◌, ◌≤◌, ◌<◌, length, take, drop}
use Rattle.std.proofs.Common.{sym, ap, ◌∙◌, arith, length-take, length-drop}
use Rattle.base.specs.Bytes.{bytes, bytes_from, bytes-none, bytes_part}
use Rattle.bio.specs.Seen.{buffer_of, seen, seen_in, seen_out}

-- r is the 1,024 bytes of s from i on: zeros past the end of s, and exactly so long where s has them all
pub record IsPart (r s : List ℕ) (i : ℕ) : Type 0 where
  pub byte : (k : ℕ) → k < 1024 → bytes r k ≡ bytes s (i + k)
  pub full : i + 1024 ≤ length s → length r ≡ 1024

-- r is block b as it is seen, in any state; and exactly 1,024 bytes where the cache has its 30 buffers and the image has the block
pub record IsBlock (r blocks counts cache image : List ℕ) (b : ℕ) : Type 0 where
  pub byte : (i : ℕ) → i < 1024 → bytes r i ≡ seen blocks counts (bytes cache) (bytes image) (b * 1024 + i)
  pub full : length cache ≡ 30720 → b * 1024 + 1024 ≤ length image → length r ≡ 1024

module _ (s : List ℕ) (i : ℕ) where
  pub part_none : length s < i → IsPart [] s i
  part_none h = record { byte = λ k l. bytes-none s i k h; full = λ f. absurd (omega arith) }

  pub part_rest : length s - i < 1024 → IsPart (take (length s - i) (drop i s)) s i
  part_rest h = record { byte = λ k l. bytes_from s i k (length s - i) (omega arith); full = λ f. absurd (omega arith) }

  pub part_whole : (n : ℕ) → n ≡ 1024 → i + 1024 ≤ length s → IsPart (take n (drop i s)) s i
  part_whole n e h = record {
    byte = λ k l. bytes_part s i n k (omega arith);
    full = λ f. omega (arith, length-take n (drop i s), length-drop i s);
  }

module _ (r blocks counts cache image : List ℕ) (b : ℕ) where
  pub block_held : (j : ℕ) → j ≡ buffer_of blocks counts b → j < 30 → IsPart r cache (j * 1024) → IsBlock r blocks counts cache image b
  block_held j e h p = record {
    byte = λ i l. p.byte i l ∙ ap (λ (x : ℕ). bytes cache (x * 1024 + i)) e ∙ sym (seen_in blocks counts (bytes cache) (bytes image) b i l (omega arith));
    full = λ c f. p.full (omega arith);
  }

  pub block-card : (j : ℕ) → j ≡ buffer_of blocks counts b → 30 ≤ j → IsPart r image (b * 1024) → IsBlock r blocks counts cache image b
  block-card j e h p = record {
    byte = λ i l. p.byte i l ∙ sym (seen_out blocks counts (bytes cache) (bytes image) b i l (omega arith));
    full = λ c f. p.full f;
  }
