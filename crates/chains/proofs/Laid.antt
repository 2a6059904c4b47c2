-- Flat numbers that agree with the systems of a list stand for its frames.
use Prim.Native.Nat.{ℕ, min, ◌<◌}
use mathlib.Core.Path.{◌≡◌, sym, ap, ◌∙◌}
use mathlib.Core.List.{List, map}
use native.Mathlib.Omega.{arith}
use lib.IntN.{ℤ, pos}
use lib.ListN.{length, get_or, take, length-map, length-take, get_or-map}
use lib.Seq.{ext_get_or, get_or-take}
use Rattle.model.specs.declared.System.{System as StoredSystem}
use Rattle.model.specs.Memory.{System, blank}
use Rattle.model.specs.Stored.{system_of}
use Rattle.model.proofs.Basics.{length_table, table_at}
use Rattle.chains.specs.Flat.{preds_of}
use Rattle.chains.specs.Frames.{offset_at, turns_at, frame, frame_of, frames_of, framed}
use Rattle.chains.proofs.Copies.{Three, unset}

module _ (xs : List ℤ) (ts ps : List ℕ) where
  pub framed_length : length (framed xs ts ps) ≡ length ps
  unfolding framed
  framed_length = length_table (length ps) (λ i. frame (offset_at xs i) (turns_at ts i) (get_or ps i 0))

  pub framed_at : (i : ℕ) → i < length ps → get_or (framed xs ts ps) i blank ≡ frame (offset_at xs i) (turns_at ts i) (get_or ps i 0)
  unfolding framed
  framed_at i h = table_at (length ps) (λ i. frame (offset_at xs i) (turns_at ts i) (get_or ps i 0)) blank i h

module _ (xs : List ℤ) (ts : List ℕ) where
  -- the three numbers and three turns that are laid for system j are those of a system s
  abbrev pub LaidAs : ℕ → System → Type 0
  LaidAs j s = Three (pos 0) xs j s.offset.x s.offset.y s.offset.z × Three 0 ts j s.turns.u s.turns.v s.turns.w

  pub frames_laid : (l : List System) → ((j : ℕ) → j < length l → LaidAs j (get_or l j blank)) → framed xs ts (preds_of l) ≡ frames_of l
  frames_laid l h =
      let n : length (framed xs ts (preds_of l)) ≡ length l = framed_length xs ts (preds_of l) ∙ length-map l (λ (s : System). s.pred) in
      ext_get_or blank (framed xs ts (preds_of l)) (frames_of l) (n ∙ sym (length-map l frame_of)) (λ i b. at i (omega arith))
    where
      at : (i : ℕ) → i < length l → get_or (framed xs ts (preds_of l)) i blank ≡ get_or (frames_of l) i blank
      at i b =
          let t = h i b in
          let e = get_or-map (λ (s : System). s.pred) l i blank in
          framed_at xs ts (preds_of l) i (rw (length-map l (λ (s : System). s.pred)) b) ∙
          (λ d. frame (record { x = t.0.0 d; y = t.0.1 d; z = t.0.2 d }) (record { u = t.1.0 d; v = t.1.1 d; w = t.1.2 d }) (e d)) ∙
          sym (get_or-map frame_of l i blank)

-- ---- over a stored list

module _ (l : List StoredSystem) (n : ℕ) where
  pub stored_length : length (map system_of (take n l)) ≡ min n (length l)
  stored_length = length-map (take n l) system_of ∙ length-take n l

  pub stored_at : (j : ℕ) → j < n → get_or (map system_of (take n l)) j blank ≡ system_of (get_or l j unset)
  stored_at j h = get_or-map system_of (take n l) j unset ∙ ap system_of (get_or-take n l j unset h)
