-- Fitness as a test: what a pass over the addresses and the entries decides.
-- Assumes nothing.
use Rattle.std.specs.Prelude.{◌≡◌, refl, Bool, true, false, ◌⊎◌, ℕ, zero, suc, length, get_or, ◌+◌, ◌-◌, ◌*◌, ◌/◌, ◌%◌, ◌≤◌, ◌<◌}
use Rattle.std.proofs.Common.{sym, ap, subst, ◌∙◌, inl, inr, arith, lt-ltb}
use Rattle.std.specs.Bool.{MatchBool}
use Rattle.std.specs.List.{AllWithin, HoldsAt, range_with_len}
use Rattle.std.proofs.Math.Decide.{dec_lt}
use Rattle.base.specs.Bytes.{Bytes}
use Rattle.base.specs.Number.{get, get_moved}
use Rattle.base.specs.Bit.{bit_at}
use Rattle.base.specs.Decide.{Decides, so, not_so, alike}
use Rattle.superblock.specs.declared.Super.{Super}
use Rattle.superblock.specs.Geometry.{GoodNumbers, bits, data_start, bit_addr}
use Rattle.superblock.specs.Node.{Node}
use Rattle.superblock.specs.Disk.{disk, mem_of, bit_of}
use Rattle.rules.specs.Fit.{Shape, Taken, Fit, blocks, slots, entry, slot}
use Rattle.inode.specs.Slots.{TakenBy, SlotGood, slot_direct, slot-entry, entry-none, entry-some, entry_mem}

-- ---- the library's test of all numbers below n

range_at : (a n k d : ℕ) → k < n → get_or (range_with_len a n) k d ≡ a + k
range_at a zero k d h = absurd (omega arith)
range_at a (suc n) zero d h = omega arith
range_at a (suc n) (suc k) d h = range_at (a + 1) n k d (omega arith) ∙ omega arith

range_length : (a n : ℕ) → length (range_with_len a n) ≡ n
range_length a zero = refl
range_length a (suc n) = ap suc (range_length (a + 1) n)

pub all_decides : (P : ℕ → Type 0) (n : ℕ) (r : Bool)
    → MatchBool r (AllWithin P (range_with_len 0 n) 0 (length (range_with_len 0 n))) ((k : ℕ) × (k < length (range_with_len 0 n)) × HoldsAt (λ x. P x → ⊥) (range_with_len 0 n) k)
    → Decides r ((k : ℕ) → k < n → P k)
all_decides P n true h = so (λ k l. let z : 0 + k ≡ k = omega arith in subst P (range_at 0 n k 0 l ∙ z) (h k 0 (omega arith) (omega (arith, range_length 0 n))))
all_decides P n false h =
    let l : h.0 < n = omega (arith, h.1, range_length 0 n) in
    not_so λ f. h.2 0 (subst P (sym (range_at 0 n h.0 0 l)) (let z : 0 + h.0 ≡ h.0 = omega arith in rw z (f h.0 l)))

-- ---- all addresses: m is the bitmap of d, as the block that holds it

module _ (s : Super) (good : GoodNumbers s) (d m : Bytes) (map : (i : ℕ) → i < 1024 → m i ≡ d (s.bmapstart * 1024 + i)) where
  bit_is : (b : ℕ) → b < s.size → bit_of s d b ≡ bit_at (m (b / 8)) (b % 8)
  unfolding bit_of
  bit_is b h = let z : m (b / 8) ≡ d (bit_addr s b) = map (b / 8) (omega (arith, good.size_most)) in rw (lt-ltb b (bits s) (omega arith), z)

  pub taken_to : (b : ℕ) → TakenBy s m b → Taken s (disk s d) b
  taken_to b t = record { low = t.low; high = t.high; is_set = bit_is b t.high ∙ t.is_set }

  pub taken_from : (b : ℕ) → Taken s (disk s d) b → TakenBy s m b
  taken_from b t = record { low = t.low; high = t.high; is_set = sym (bit_is b t.high) ∙ t.is_set }

  module _ (r : Node) (n : ℕ) (count : n ≡ blocks r.size) where
    -- what a fit inode's addresses are
    pub fit_address : Fit s (disk s d) r → (p : ℕ) → p < 13 → SlotGood s m n p (r.addr p)
    fit_address f p l = record {
      first = λ h. taken_from (r.addr p) (rw (slot_direct r (mem_of s d) p l) at (f.first p (omega arith)));
      rest = λ h. sym (slot_direct r (mem_of s d) p l) ∙ f.rest p (omega arith) (omega arith);
    }

    top : ((p : ℕ) → p < 13 → SlotGood s m n p (r.addr p)) → (r.addr 12 ≡ 0) ⊎ (data_start s ≤ r.addr 12)
    top a = elim (dec_lt 12 n) [ yes h ↦ inr ((a 12 (omega arith)).first h).low | no h ↦ inl ((a 12 (omega arith)).rest (omega arith)) ]

    pub fit_entry : Fit s (disk s d) r → (k : ℕ) → k < 256 → SlotGood s m n (12 + k) (entry d (r.addr 12) k)
    fit_entry f k l =
        let e : slot (mem_of s d) r (13 + k) ≡ entry d (r.addr 12) k = slot-entry r (mem_of s d) k ∙ sym (entry_mem s d (r.addr 12) k (top (fit_address f))) in
        record {
          first = λ h. taken_from (entry d (r.addr 12) k) (rw e at (f.first (13 + k) (omega arith)));
          rest = λ h. sym e ∙ f.rest (13 + k) (omega arith) (omega arith);
        }

    -- and they are all
    pub fit_whole : Shape r.kind r.size → ((p : ℕ) → p < 13 → SlotGood s m n p (r.addr p)) → ((k : ℕ) → k < 256 → SlotGood s m n (12 + k) (entry d (r.addr 12) k)) → Fit s (disk s d) r
    fit_whole shape a e = record { shape = shape; first = first; rest = rest }
      where
        listed : (p : ℕ) → 13 ≤ p → slot (mem_of s d) r p ≡ entry d (r.addr 12) (p - 13)
        listed p h =
            let z : p ≡ 13 + (p - 13) = omega arith in
            ap (slot (mem_of s d) r) z ∙ slot-entry r (mem_of s d) (p - 13) ∙ sym (entry_mem s d (r.addr 12) (p - 13) (top a))

        first : (p : ℕ) → p < slots r.size → Taken s (disk s d) (slot (mem_of s d) r p)
        first p h = elim (dec_lt p 13) [
          | yes l ↦ rw (slot_direct r (mem_of s d) p l) (taken_to (r.addr p) ((a p l).first (omega arith)))
          | no l ↦ rw (listed p (omega arith)) (taken_to (entry d (r.addr 12) (p - 13)) ((e (p - 13) (omega (arith, shape.small))).first (omega arith)))
        ]

        rest : (p : ℕ) → slots r.size ≤ p → p < 269 → slot (mem_of s d) r p ≡ 0
        rest p h q = elim (dec_lt p 13) [
          | yes l ↦ slot_direct r (mem_of s d) p l ∙ (a p l).rest (omega arith)
          | no l ↦ listed p (omega arith) ∙ (e (p - 13) (omega arith)).rest (omega arith)
        ]

    -- ---- where the code answers

    pub unfit_address : (((p : ℕ) → p < 13 → SlotGood s m n p (r.addr p)) → ⊥) → Decides false (Fit s (disk s d) r)
    unfit_address h = not_so λ f. h (fit_address f)

    module _ (shape : Shape r.kind r.size) (a : (p : ℕ) → p < 13 → SlotGood s m n p (r.addr p)) where
      pub fit_small : n ≤ 12 → Decides true (Fit s (disk s d) r)
      fit_small h = so (fit_whole shape a λ k l.
          let z : entry d (r.addr 12) k ≡ 0 = entry-none d (r.addr 12) k ((a 12 (omega arith)).rest h) in
          record { first = λ q. absurd (omega arith); rest = λ _. z })

      pub fit_large : (t : Bytes) {b : Bool} → 12 < n → ((i : ℕ) → i < 1024 → t i ≡ d (r.addr 12 * 1024 + i))
          → Decides b ((k : ℕ) → k < 256 → SlotGood s m n (12 + k) (get t (4 * k) 4)) → Decides b (Fit s (disk s d) r)
      fit_large t h same dec = alike
          (λ f. fit_whole shape a (λ k l. rw (is k l) (f k l)))
          (λ f k l. rw (is k l) at (fit_entry f k l))
          dec
        where
          is : (k : ℕ) → k < 256 → entry d (r.addr 12) k ≡ get t (4 * k) 4
          is k l =
              let low : data_start s ≤ r.addr 12 = ((a 12 (omega arith)).first h).low in
              entry-some d (r.addr 12) k (λ z. omega arith) ∙ sym (get_moved t d (r.addr 12 * 1024) 1024 same (4 * k) 4 (omega arith))
