-- A block on the way: what was fed up to a place, one line more, and the rest without an LF.
use Prim.Native.Nat.{ℕ, suc, ◌+◌, ◌-◌, ◌≤◌, ◌<◌}
use mathlib.Core.Path.{◌≡◌, sym, ap, ◌∙◌}
use mathlib.Core.List.{List, [], ◌++◌, append-nil}
use native.Mathlib.Omega.{arith}
use lib.ListN.{length, take, drop, length-take, length-drop}
use lib.Seq.{take-add, take_all, take-take}
use Rattle.lines.specs.Before.{before}
use Rattle.lines.specs.Feed.{Machine, Answer, Held, Fed, kept, fed, holding, printing}
use Rattle.lines.specs.Whole.{Clips}
use Rattle.lines.proofs.Feeding.{begun, answered, fed_append, fed_ended, fed_held}

-- the line from a place on
abbrev pub line_at : List ℕ → ℕ → List ℕ
line_at block at = take (before (drop at block)) (drop at block)

module _ {S X : Type 0} (m : Machine S X) (s₀ : S) (l₀ block : List ℕ) (at : ℕ) (s : S) (l : List ℕ) (held : (fed m s₀ l₀ (take at block)).held ≡ holding s l) where
  -- as many bytes more
  fed_more : (n : ℕ) → fed m s₀ l₀ (take (at + n) block) ≡ printing (fed m s₀ l₀ (take at block)).output (fed m s l (take n (drop at block)))
  fed_more n =
      ap (fed m s₀ l₀) (take-add at n block) ∙ fed_append m (take at block) s₀ l₀ (take n (drop at block))
      ∙ ap (λ (h : Held S). printing (fed m s₀ l₀ (take at block)).output (fed m h.state h.line (take n (drop at block)))) held

module _ {S X : Type 0} (m : Machine S X) (s₀ : S) (l₀ block : List ℕ) (at : ℕ) (s : S) (held : (fed m s₀ l₀ (take at block)).held ≡ holding s []) (end : ℕ)
    (e : end ≡ at + before (drop at block)) where
  -- one line more
  pub fed_turn : Clips m → end < length block →
      fed m s₀ l₀ (take (end + 1) block)
      ≡ record { held = holding (m.answer s (line_at block at)).state []; output = (fed m s₀ l₀ (take at block)).output ++ (m.answer s (line_at block at)).text }
  fed_turn clips h =
      let n = before (drop at block) in
      let p : end + 1 ≡ at + suc n = omega arith in
      ap (λ (k : ℕ). fed m s₀ l₀ (take k block)) p ∙ fed_more m s₀ l₀ block at s [] held (suc n)
      ∙ ap (printing (fed m s₀ l₀ (take at block)).output) (fed_ended m (drop at block) s [] (rw (length-drop at block) (omega arith))
      ∙ ap (λ (a : Answer S X). begun m a.state a.text) (clips s (line_at block at)))

  -- the rest has no LF: it is held
  pub fed_rest : at ≤ length block → end ≡ length block →
      fed m s₀ l₀ (take end block) ≡ record { held = holding s (kept m (drop at block)); output = (fed m s₀ l₀ (take at block)).output }
  fed_rest w h =
      let out = (fed m s₀ l₀ (take at block)).output in
      let long : length (drop at block) ≡ length block - at = length-drop at block in
      ap (λ (k : ℕ). fed m s₀ l₀ (take k block)) e ∙ fed_more m s₀ l₀ block at s [] held (before (drop at block))
      ∙ ap (printing out) (ap (fed m s []) (take_all (before (drop at block)) (drop at block) (omega arith)) ∙ fed_held m (drop at block) s [] (omega arith))
      ∙ ap (λ (t : List X). record { held = holding s (kept m (drop at block)); output = t }) (append-nil out)

-- ---- a block that is fed part by part

-- the rest of a block from a place on
abbrev pub rest : List ℕ → ℕ → List ℕ
rest block at = take (length block - at) (drop at block)

module _ (block : List ℕ) (at : ℕ) where
  pub rest_long : length (rest block at) ≡ length block - at
  rest_long = omega (arith, length-take (length block - at) (drop at block), length-drop at block)

  -- what was used of it
  pub rest_used : (used end : ℕ) → used ≤ length (rest block at) → end ≡ at + used → take used (rest block at) ≡ take (end - at) (drop at block)
  rest_used used end h e =
      let n : used ≡ end - at = omega arith in
      take-take used (length block - at) (drop at block) (omega (arith, rest_long)) ∙ ap (λ (k : ℕ). take k (drop at block)) n

module _ {S X : Type 0} (m : Machine S X) (s₀ : S) (l₀ block : List ℕ) (at : ℕ) (s : S) (l : List ℕ) (held : (fed m s₀ l₀ (take at block)).held ≡ holding s l) where
  -- what was fed up to its end is what was fed before it, and then the part
  fed_up_to : (end : ℕ) → at ≤ end → fed m s₀ l₀ (take end block) ≡ printing (fed m s₀ l₀ (take at block)).output (fed m s l (take (end - at) (drop at block)))
  fed_up_to end h =
      let n : end ≡ at + (end - at) = omega arith in
      ap (λ (k : ℕ). fed m s₀ l₀ (take k block)) n ∙ fed_more m s₀ l₀ block at s l held (end - at)

  -- so what is held then is what the part leaves
  pub fed_part : (end : ℕ) → at ≤ end → (fed m s l (take (end - at) (drop at block))).held ≡ (fed m s₀ l₀ (take end block)).held
  fed_part end h = ap (λ (x : Fed S X). x.held) (sym (fed_up_to end h))

  -- and its output comes behind
  pub fed_behind : (end : ℕ) → at ≤ end →
      (fed m s₀ l₀ (take end block)).output ≡ (fed m s₀ l₀ (take at block)).output ++ (fed m s l (take (end - at) (drop at block))).output
  fed_behind end h = ap (λ (x : Fed S X). x.output) (fed_up_to end h)

-- ---- where bytes of the first line are held

module _ {S X : Type 0} (m : Machine S X) (s : S) (l block : List ℕ) (few : length l ≤ suc m.limit) (end : ℕ) (e : end ≡ 0 + before (drop 0 block)) where
  same_kept : kept m l ≡ l
  same_kept = take_all (suc m.limit) l few

  -- it ends in the block
  pub fed_first : end < length block → fed m s l (take (end + 1) block) ≡ answered m s (l ++ take end block)
  fed_first h =
      let p : end ≡ before block = omega arith in
      let q : end + 1 ≡ suc (before block) = omega arith in
      ap (λ (k : ℕ). fed m s l (take k block)) q ∙ ap (λ (t : List ℕ). fed m s t (take (suc (before block)) block)) (sym same_kept) ∙ fed_ended m block s l (omega arith)
      ∙ ap (λ (k : ℕ). answered m s (l ++ take k block)) (sym p)

  -- it goes on
  pub fed_on : end ≡ length block → fed m s l (take end block) ≡ record { held = holding s (kept m (l ++ take end block)); output = [] }
  fed_on h =
      let all : take end block ≡ block = take_all end block (omega arith) in
      ap (fed m s l) all ∙ ap (λ (t : List ℕ). fed m s t block) (sym same_kept) ∙ fed_held m block s l (omega arith)
      ∙ ap (λ (t : List ℕ). record { held = holding s (kept m (l ++ t)); output = [] }) (sym all)
