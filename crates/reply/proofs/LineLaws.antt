-- Laws of the lines: their lengths, and which of two texts stands at a place.
use Prim.Native.Nat.{ℕ, zero, suc, ◌+◌}
use mathlib.Core.Path.{◌≡◌, refl, ◌∙◌}
use mathlib.Core.List.{List, [], ◌∷◌, ◌++◌, append-nil}
use native.Mathlib.Omega.{arith}
use lib.ListN.{length, length-append}
use Rattle.model.specs.Ascii.{ascii}
use Rattle.model.specs.Lists.{joined}
use Rattle.model.specs.Kinds.{of_kind, of_group}
use Rattle.model.specs.Memory.{System, Ref, fixed_ref}
use Rattle.model.specs.Reply.{decimal, six_values}
use Rattle.reply.specs.Types.{Vec3, Turns, Group, Operating, Orientational, Levelling}
use Rattle.reply.specs.Values.{by_group}
use Rattle.reply.specs.Lines.{system_text, at_fixed, pred_text, link_text, enabled_text, pose_text, resultant_text, fixed_lines}

pub length_system : (s : System) → length (system_text s) ≡ 11 + length s.name + length (of_kind s.kind).shown + length (six_values s.offset s.turns)
unfolding system_text joined
length_system s = simp (length-append, append-nil) (omega arith)

pub length_link : (s : System) (n : List ℕ) → length (link_text s n) ≡ length s.name + 1 + length (pred_text s n)
unfolding link_text joined
length_link s n = simp (length-append, append-nil) (omega arith)

pub length_pose : (t : Vec3) (r : Turns) (k : ℕ) → length (pose_text t r k) ≡ 7 + length (six_values t r) + length (decimal k)
unfolding pose_text joined
length_pose t r k = simp (length-append, append-nil) (omega arith)

pub length_resultant : (n e : List ℕ) (t : Vec3) (r : Turns) (k : ℕ) → length (resultant_text n e t r k) ≡ 26 + length n + length e + length (pose_text t r k)
unfolding resultant_text pose_text joined
length_resultant n e t r k = simp (length-append, append-nil) (omega arith)

pub length_fixed : (f : Ref → List ℕ) → length (fixed_lines f) ≡ 4 + length (f (fixed_ref Operating)) + length (f (fixed_ref Orientational)) + length (f (fixed_ref Levelling))
length_fixed f = simp length-append (omega arith)

-- ---- a place is the fixed system's, or another

pub at_fixed_lem : (p : ℕ) (a b : List ℕ) → p ≡ 0 → at_fixed p a b ≡ a
at_fixed_lem p a b e = rw e

pub at_user : (p : ℕ) (a b : List ℕ) → (p ≡ 0 → ⊥) → at_fixed p a b ≡ b
at_user zero a b h = absurd (h refl)
at_user (suc k) a b h = refl

module _ (g : Group) (p : ℕ) (s : System) where
  pub enabled_fixed_lem : p ≡ 0 → enabled_text g p s ≡ by_group g (ascii "ZERO=ZERO") (ascii "PI_BASE=KSB(PI)") (ascii "PI_LEVELLING=KLD(PI)")
  unfolding enabled_text joined
  enabled_fixed_lem e = at_fixed_lem p _ _ e ∙ by g
    where
      by : (g : Group) → joined ((of_group g).name ∷ ascii "=" ∷ (of_group g).shown ∷ []) ≡ by_group g (ascii "ZERO=ZERO") (ascii "PI_BASE=KSB(PI)") (ascii "PI_LEVELLING=KLD(PI)")
      by Operating = refl
      by Orientational = refl
      by Levelling = refl

  pub enabled_user_lem : (p ≡ 0 → ⊥) → enabled_text g p s ≡ s.name ++ (61 ∷ (of_kind s.kind).shown)
  unfolding enabled_text joined
  enabled_user_lem h = at_user p _ _ h ∙ rw (append-nil (of_kind s.kind).shown)
