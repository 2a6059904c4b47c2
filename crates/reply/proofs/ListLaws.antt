-- A list by what follows its first lines, and what its loop keeps.
use Prim.Native.Nat.{ℕ, zero, suc, ◌+◌, ◌-◌, ◌≤◌, ◌<◌}
use mathlib.Core.Path.{◌≡◌, refl, ap, ◌∙◌}
use mathlib.Core.List.{List, [], ◌∷◌, ◌++◌, map, append_assoc, append-nil}
use native.Mathlib.Nat.{add-zero}
use native.Mathlib.Numerals.{one-add}
use native.Mathlib.Omega.{arith}
use lib.ListN.{length, take, drop, length-append}
use borrow.Rule.Slice.PartMut.{put_mid}
use Rattle.model.specs.Lists.{joined, table}
use Rattle.model.specs.Memory.{System, Ref, fixed_ref, user_ref}
use Rattle.model.specs.Reply.{listing, every_system}
use Rattle.model.proofs.Basics.{map_table}
use Rattle.print.specs.Over.{Wrote}
use Rattle.print.proofs.Laws.{length_over, wrote_then, wrote_part, wrote_front, rest_room}
use Rattle.print.proofs.Left.{Left, left_all, left_wrote, left_fits, left_done}
use Rattle.reply.specs.Types.{Operating, Orientational, Levelling}
use Rattle.reply.specs.Lines.{further, further_lines, fixed_lines, Replied}

-- ---- lists

module _ (f : ℕ → List ℕ) where
  further_lines_lem : (n k : ℕ) (g : ℕ → List ℕ) (t : List ℕ) → ((i : ℕ) → g i ≡ f (k + i)) → listing (t ∷ table n g) ≡ t ++ further_lines f n k
  unfolding listing table joined further_lines
  further_lines_lem zero k g t h = refl
  further_lines_lem (suc n) k g t h =
      let e = further_lines_lem n (suc k) (λ i. g (suc i)) (g 0) (λ i. let j : k + suc i ≡ suc k + i = omega arith in h (suc i) ∙ ap f j) in
      let first : g 0 ≡ f k = h 0 ∙ ap f (add-zero k) in
      ap (λ (l : List ℕ). t ++ (32 ∷ 10 ∷ l)) (append-nil _ ∙ e ∙ ap (λ (l : List ℕ). l ++ further_lines f n (suc k)) first)

three : (a b c l rest : List ℕ) → l ≡ c ++ rest → a ++ (32 ∷ 10 ∷ ((b ++ (32 ∷ 10 ∷ (l ++ []))) ++ [])) ≡ (a ++ ((32 ∷ 10 ∷ b) ++ (32 ∷ 10 ∷ c))) ++ rest
three a b c l rest e = rw e (simp (append_assoc, append-nil))

-- every list but KEN?'s: the fixed systems' lines, and a further line for each user system
pub every_list : (line : Ref → List ℕ) (l : List System) → listing (map line (every_system l)) ≡ fixed_lines line ++ further_lines (λ k. line (user_ref l k)) (length l) 1
unfolding every_system listing joined
every_list line l =
    let e : listing (line (fixed_ref Levelling) ∷ map line (table (length l) (λ i. user_ref l (suc i)))) ≡ line (fixed_ref Levelling) ++ further_lines (λ k. line (user_ref l k)) (length l) 1 =
    ap (λ (ts : List (List ℕ)). listing (line (fixed_ref Levelling) ∷ ts)) (map_table line (length l) (λ i. user_ref l (suc i)))
    ∙ further_lines_lem (λ k. line (user_ref l k)) (length l) 1 (λ i. line (user_ref l (suc i))) (line (fixed_ref Levelling)) (λ i. rw (one-add i)) in
    three (line (fixed_ref Operating)) (line (fixed_ref Orientational)) (line (fixed_ref Levelling)) _ _ e

-- of a line whose text for a fixed system is the same in every memory, and n user systems
pub list_of : (line : List System → Ref → List ℕ) (l : List System) (n : ℕ) → fixed_lines (line l) ≡ fixed_lines (line []) → length l ≡ n
    → listing (map (line l) (every_system l)) ≡ fixed_lines (line []) ++ further_lines (λ k. line l (user_ref l k)) n 1
list_of line l n e h = every_list (line l) l ∙ rw (e, h)

-- ---- the loop over the user systems

-- i of count further lines are written, and the others are left
pub record Going (f : ℕ → List ℕ) (count : ℕ) (b₀ : List ℕ) (at₀ : ℕ) (b : List ℕ) (at i : ℕ) : Type 0 where
  pub turns : i ≤ count
  pub left : Left (further_lines f count 1) at₀ b₀ (further_lines f (count - i) (suc i)) at b

pub going_start : (f : ℕ → List ℕ) (count : ℕ) (b : List ℕ) (at : ℕ) → at + length (further_lines f count 1) ≤ length b → Going f count b at b at 0
going_start f count b at h =
    let e : count ≡ count - 0 = omega arith in
    record { turns = omega arith; left = left_all (ap (λ (n : ℕ). further_lines f n 1) e) h }

some_left : (f : ℕ → List ℕ) (n k : ℕ) → 0 < length (further_lines f n k)
unfolding further_lines
some_left f zero k = omega arith
some_left f (suc n) k = omega arith

module _ (f : ℕ → List ℕ) (count i : ℕ) where
  one_turn : i < count → further_lines f (count - i) (suc i) ≡ further (f (suc i)) ++ further_lines f (count - (i + 1)) (suc (i + 1))
  unfolding further_lines
  one_turn h =
      let e : count - i ≡ suc (count - (i + 1)) = omega arith in
      let k : suc (suc i) ≡ suc (i + 1) = omega arith in
      ap (λ (n : ℕ). further_lines f n (suc i)) e ∙ ap (λ (j : ℕ). further (f (suc i)) ++ further_lines f (count - (i + 1)) j) k

  no_turn_lem : count ≤ i → further_lines f (count - i) (suc i) ≡ 10 ∷ []
  unfolding further_lines
  no_turn_lem h = let e : count - i ≡ 0 = omega arith in ap (λ (n : ℕ). further_lines f n (suc i)) e

module _ {f : ℕ → List ℕ} {count : ℕ} {b₀ : List ℕ} {at₀ : ℕ} {b : List ℕ} {at i : ℕ} (g : Going f count b₀ at₀ b at i) where
  -- the next line, before those that are left after it
  next_left : i < count → Left (further_lines f count 1) at₀ b₀ (further (f (suc i)) ++ further_lines f (count - (i + 1)) (suc (i + 1))) at b
  next_left h = rw (one_turn f count i h) at g.left

  going_fits : i < count → at + length (further (f (suc i))) ≤ length b
  going_fits h = left_fits (further (f (suc i))) (further_lines f (count - (i + 1)) (suc (i + 1))) (next_left h)

  -- there is room for another line in the rest of the buffer
  pub going_room : i < count → length (further (f (suc i))) ≤ length (take (length b - at) (drop at b))
  going_room h = rest_room b at _ (going_fits h)

  pub going_on : {n : ℕ} → i < count → n ≡ 0 + length (further (f (suc i))) → at + n ≤ length b
  going_on h e = omega (arith, going_fits h)

  pub going_within : at < length b
  going_within = omega (arith, g.left.room, some_left f (count - i) (suc i))

  pub going_turn : {y : List ℕ} {n : ℕ} → i < count → Wrote (further (f (suc i))) (take (length b - at) (drop at b)) 0 y n → Going f count b₀ at₀ (put_mid at (length b - at) b y) (at + n) (i + 1)
  going_turn h w = record { turns = omega arith; left = left_wrote (next_left h) (wrote_part b at (going_fits h) w) }

  -- after the last line, its end
  pub going_end : {a : List ℕ} {r : ℕ} → count ≤ i → Wrote (10 ∷ []) b at a r → Wrote (further_lines f count 1) b₀ at₀ a r
  going_end h w = left_done (left_wrote (rw (no_turn_lem f count i h) at g.left) w)

-- ---- a whole reply

pub replied : {t before after : List ℕ} {r : ℕ} → length t ≤ length before → Wrote t before 0 after r → Replied t before after r
replied h w = let f = wrote_front h w in record { count_is = f.1; bytes = f.0 }

-- a list that begins with these fixed lines, goes on with count further ones, and fits the buffer b
pub record Plan (all fixed : List ℕ) (f : ℕ → List ℕ) (count : ℕ) (b : List ℕ) : Type 0 where
  pub whole : all ≡ fixed ++ further_lines f count 1
  pub fits : length all ≤ length b

module _ {all fixed : List ℕ} {f : ℕ → List ℕ} {count : ℕ} {b : List ℕ} (p : Plan all fixed f count b) where
  pub plan_room : length fixed + length (further_lines f count 1) ≤ length b
  plan_room = omega (arith, p.fits, ap length p.whole, length-append fixed (further_lines f count 1))

  module _ {b₀ : List ℕ} {at₀ : ℕ} (w : Wrote fixed b 0 b₀ at₀) where
    pub plan_start : Going f count b₀ at₀ b₀ at₀ 0
    plan_start = going_start f count b₀ at₀ (omega (arith, plan_room, w.place, ap length w.bytes, length_over fixed b 0))

    pub plan_end : {b₁ a : List ℕ} {at i r : ℕ} → Going f count b₀ at₀ b₁ at i → count ≤ i → Wrote (10 ∷ []) b₁ at a r → Replied all b a r
    plan_end g h e = replied p.fits (rw p.whole (wrote_then w (going_end g h e)))
