-- Enabling keeps a memory well formed: each group has one of its allowed types, and never a pair of two ZEROs.
use Prim.Native.Nat.{ℕ, ◌≤◌, ◌<◌}
use mathlib.Core.Path.{refl}
use mathlib.Core.List.{List}
use mathlib.Core.Logic.{⊎_elim, inl, inr}
use native.Mathlib.Omega.{arith}
use borrow.Author.Tests.{eqb-false}
use lib.Dec.{eqb}
use lib.ListN.{length}
use Rattle.model.specs.Types.{Kind, Ksd, Kst, Ksw, Ksb, Kld, Ksf, Group, Operating, Orientational, Levelling, Enabled, OperatingPart, Single, Pair}
use Rattle.model.specs.Memory.{System, Memory, Ref, system_at, named}
use Rattle.model.specs.Effects.{work_half, tool_half, enabled_user, enabled_fixed, enabling}
use Rattle.model.proofs.Basics.{either}
use Rattle.model.proofs.Memories.Fine.{Placed, PartPlaced, EnabledPlaced, Fine}
use Rattle.model.proofs.Memories.Named.{named_within}

module _ (l : List System) where
  -- the fixed system may stand for every type
  fixed_placed : (k : Kind) → Placed l k 0
  fixed_placed k h = absurd (omega arith)

  -- a half that is there keeps its type, and one that is not is ZERO
  work_placed : (o : OperatingPart) → PartPlaced l o → Placed l Ksw (work_half o)
  work_placed (Single p) f = fixed_placed Ksw
  work_placed (Pair w t) f = f.0

  tool_placed : (o : OperatingPart) → PartPlaced l o → Placed l Kst (tool_half o)
  tool_placed (Single p) f = fixed_placed Kst
  tool_placed (Pair w t) f = f.1

  module _ (e : Enabled) (f : EnabledPlaced l e) where
    user_enabled : (k : Kind) (p : ℕ) → 0 < p → Placed l k p → EnabledPlaced l (enabled_user e k p)
    unfolding enabled_user
    user_enabled Ksd p h g = record { operating = inl g; orientational = f.orientational; levelling = f.levelling }
    user_enabled Kst p h g = record { operating = (work_placed e.operating f.operating, g, omega arith); orientational = f.orientational; levelling = f.levelling }
    user_enabled Ksw p h g = record { operating = (g, tool_placed e.operating f.operating, omega arith); orientational = f.orientational; levelling = f.levelling }
    user_enabled Ksb p h g = record { operating = f.operating; orientational = g; levelling = f.levelling }
    user_enabled Kld p h g = record { operating = f.operating; orientational = f.orientational; levelling = g }
    user_enabled Ksf p h g = record { operating = inr g; orientational = f.orientational; levelling = f.levelling }

    fixed_enabled : (level : ℕ) (g : Group) → EnabledPlaced l (enabled_fixed level e g)
    unfolding enabled_fixed
    fixed_enabled level Operating =
        ⊎_elim (λ one. rw one (record { operating = inl (fixed_placed Ksd); orientational = f.orientational; levelling = fixed_placed Kld }))
        (λ other. rw other (record { operating = inl (fixed_placed Ksd); orientational = f.orientational; levelling = f.levelling }))
        (either (eqb level 1))
    fixed_enabled level Orientational = record { operating = f.operating; orientational = fixed_placed Ksb; levelling = f.levelling }
    fixed_enabled level Levelling = record { operating = f.operating; orientational = f.orientational; levelling = fixed_placed Kld }

module _ (m : Memory) (fine : Fine m) (level : ℕ) where
  pub enabling_placed : (r : Ref) → r.place ≤ length m.systems → EnabledPlaced m.systems (enabling level m r)
  unfolding enabling
  enabling_placed r h =
      let l = m.systems in
      ⊎_elim (λ z. rw z (fixed_enabled l m.enabled fine.enabled level r.group))
      (λ z.
      let n = eqb-false r.place 0 z in
      rw z (user_enabled l m.enabled fine.enabled (system_at l r.place).kind r.place (omega arith) (λ p. (h, refl))))
      (either (eqb r.place 0))

  pub enable_fine : (a : List ℕ) → Fine (record { systems = m.systems; enabled = enabling level m (named m a) })
  enable_fine a =
      record {
        systems = fine.systems;
        ringless = fine.ringless;
        enabled = enabling_placed (named m a) (named_within m a);
      }
