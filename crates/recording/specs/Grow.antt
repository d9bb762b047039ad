-- The homes grow by exactly the new ones, in order; and the marked case 7. One call adds its new blocks in ascending number, and at most
-- min(30, nlog) - 2 distinct blocks are recorded. Assumes nothing.
use Rattle.std.specs.Prelude.{◌≡◌, refl, Bool, true, false, cond, List, [], ◌∷◌, ◌++◌, ℕ, zero, suc, ◌≤◌, ◌<◌, get_or, length, take}
use Rattle.std.proofs.Common.{sym, ap, ◌∙◌, append-nil, append_assoc, arith, add-one, take-suc-set}
use Rattle.base.specs.Bytes.{bytes}
use Rattle.bio.specs.Among.{among}
use Rattle.state.specs.declared.Volume.{Volume}
use Rattle.state.specs.Given.{whole_few}
use Rattle.recording.specs.Record.{is_recorded, touched, record_all, news_of, Room, Touches}
use Rattle.recording.specs.All.{touched_old, touched_new, none_recorded, suc_recorded, recorded_all, news-none, news_more}

-- the recorded homes
abbrev pub homes_of : Volume → List ℕ
homes_of v = take v.recorded v.homes

-- those of the first n of a list that are not recorded, in their order
unfoldable pub new_ones : Volume → List ℕ → ℕ → List ℕ
new_ones v l zero = []
new_ones v l (suc n) = new_ones v l n ++ cond (is_recorded v (get_or l n 0)) [] (get_or l n 0 ∷ [])

new_none : (v : Volume) (l : List ℕ) → new_ones v l 0 ≡ []
unfolding new_ones
new_none v l = refl

new_suc : (v : Volume) (l : List ℕ) (n : ℕ) → new_ones v l (suc n) ≡ new_ones v l n ++ cond (is_recorded v (get_or l n 0)) [] (get_or l n 0 ∷ [])
unfolding new_ones
new_suc v l n = refl

-- one block more
grow_one : (w u : Volume) (b : ℕ) → w.recorded < length w.homes → u ≡ touched w b → homes_of u ≡ homes_of w ++ cond (is_recorded w b) [] (b ∷ [])
grow_one w u b h e = go (is_recorded w b) refl
  where
    go : (t : Bool) → is_recorded w b ≡ t → homes_of u ≡ homes_of w ++ cond t [] (b ∷ [])
    go true q = ap homes_of (e ∙ touched_old w b q) ∙ sym (append-nil (homes_of w))
    go false q = ap homes_of (e ∙ touched_new w b q) ∙ rw add-one (take-suc-set w.homes w.recorded b h)

module _ (v : Volume) (l image : List ℕ) (n : ℕ) (g : Touches v l n image) where
  grown_to : (i : ℕ) → i ≤ n → homes_of (record_all v l i) ≡ homes_of v ++ new_ones v l i
  grown_to zero h = ap homes_of (none_recorded v l) ∙ sym (append-nil (homes_of v)) ∙ ap (λ (x : List ℕ). homes_of v ++ x) (sym (new_none v l))
  grown_to (suc i) h =
      let a = recorded_all v l image n (bytes []) g i (omega arith) in
      let was : is_recorded (record_all v l i) (get_or l i 0) ≡ is_recorded v (get_or l i 0) = a.rest (get_or l i 0) (λ j m e. omega (arith, g.up j i m (omega arith))) in
      grow_one (record_all v l i) (record_all v l (suc i)) (get_or l i 0) (omega (arith, a.whole.lengths.homes, whole_few (record_all v l i) image a.whole)) (suc_recorded v l i)
      ∙ ap (λ (x : List ℕ). x ++ cond (is_recorded (record_all v l i) (get_or l i 0)) [] (get_or l i 0 ∷ [])) (grown_to i (omega arith))
      ∙ ap (λ (t : Bool). (homes_of v ++ new_ones v l i) ++ cond t [] (get_or l i 0 ∷ [])) was
      ∙ append_assoc (homes_of v) (new_ones v l i) (cond (is_recorded v (get_or l i 0)) [] (get_or l i 0 ∷ []))
      ∙ ap (λ (x : List ℕ). homes_of v ++ x) (sym (new_suc v l i))

  -- the homes grow by exactly the new ones, in order
  pub grown : homes_of (record_all v l n) ≡ homes_of v ++ new_ones v l n
  grown = grown_to n (omega arith)

-- case 7: with nlog 30 the 28th distinct block is recorded, the 29th gets 14
module _ (homes l : List ℕ) where
  new_block : (r : ℕ) → among homes r (get_or l 0 0) ≡ false → news_of homes r l 1 ≡ 1
  new_block r e = omega (arith, news_more homes r l 0, news-none homes r l, ap (λ (t : Bool). cond {A = ℕ} t 0 1) e)

  pub case_7_recorded : among homes 27 (get_or l 0 0) ≡ false → Room homes 27 30 l 1
  case_7_recorded e = record { fits = omega (arith, new_block 27 e) }

  pub case_7_refused : among homes 28 (get_or l 0 0) ≡ false → Room homes 28 30 l 1 → ⊥
  case_7_refused e r = omega (arith, new_block 28 e, r.fits)
