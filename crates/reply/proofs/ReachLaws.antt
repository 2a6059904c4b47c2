-- The walk over a memory laid flat reaches what the line of a place shows.
use Prim.Native.Nat.{ℕ, zero, suc, ◌-◌, ◌<◌}
use mathlib.Core.Path.{◌≡◌, refl, sym, ap, ◌∙◌}
use mathlib.Core.List.{List, []}
use native.Mathlib.Omega.{arith}
use lib.IntN.{ℤ}
use lib.ListN.{get_or}
use Rattle.model.specs.Kinds.{of_kind}
use Rattle.model.specs.Memory.{System, system_at, name_of, fixed_ref, user_ref}
use Rattle.model.specs.Reply.{pose_line, resultant_line}
use Rattle.model.specs.Stored.{bytes_of, systems_of}
use Rattle.model.proofs.Open.{definitions_open}
use Rattle.pose.specs.Poses.{Within, reach}
use Rattle.pose.proofs.Bounds.{within_more}
use Rattle.chains.specs.Frames.{framed}
use Rattle.chains.specs.Walk.{farthest, Walk, walked}
use Rattle.chains.proofs.Flattened.{FlatOf, flat_walk, walk_near}
use Rattle.chains.proofs.Copies.{unset}
use Rattle.reply.specs.Types.{Group, StoredMemory}
use Rattle.reply.specs.Lines.{resultant_text}
use Rattle.reply.specs.Reached.{reached_text, ref_at}
use Rattle.reply.proofs.StoredLaws.{stands_at}

line_at : (l : List System) (i : ℕ) → let s = system_at l (suc i) in resultant_line l (user_ref l (suc i)) ≡ reached_text s.name (of_kind s.kind).group (walked l (suc i))
unfolding resultant_line pose_line name_of resultant_text
line_at l i = refl

-- ---- which system a place is

pub ref_place : (l : List System) (g : Group) (p : ℕ) → (ref_at l g p).place ≡ p
ref_place l g zero = refl
ref_place l g (suc k) = refl

pub ref_fixed : (l : List System) (g : Group) (p : ℕ) → p ≡ 0 → resultant_line l (ref_at l g p) ≡ resultant_line [] (fixed_ref g)
unfolding definitions_open
ref_fixed l g p e = rw e

pub ref_user : (l : List System) (g : Group) (p : ℕ) → (p ≡ 0 → ⊥) → ref_at l g p ≡ user_ref l (suc (p - 1))
ref_user l g zero h = absurd (h refl)
ref_user l g (suc k) h = let e : suc k - 1 ≡ k = omega arith in rw e

-- ---- what is reached from place q, that of the stored system i

module _ {m : StoredMemory} {preds : List ℕ} {offsets : List ℤ} {turns : List ℕ} (flat : FlatOf m preds offsets turns)
    {q i : ℕ} {w : Walk} (e : q ≡ suc i) (h : i < m.count) (is : w ≡ walked (framed offsets turns preds) q) where
  reached : w ≡ walked (systems_of m) (suc i)
  reached = is ∙ flat_walk flat q ∙ ap (walked (systems_of m)) e

  pub reached_within : Within reach w.pose.at
  reached_within = within_more farthest reach w.pose.at (omega arith) (walk_near flat (suc i) (omega arith) reached).at

  pub reached_line : let s = get_or m.systems i unset in resultant_line (systems_of m) (user_ref (systems_of m) (suc i)) ≡ reached_text (bytes_of s.name) (of_kind s.kind).group w
  reached_line =
      let s = get_or m.systems i unset in
      line_at (systems_of m) i
      ∙ ap (λ (t : System). reached_text t.name (of_kind t.kind).group (walked (systems_of m) (suc i))) (stands_at m flat.good.shape flat.long i h)
      ∙ ap (λ (v : Walk). reached_text (bytes_of s.name) (of_kind s.kind).group v) (sym reached)
