-- The saved image (specs/Image.antt): what a well-formed memory writes is read back, and nothing else is accepted.
use Prim.Native.Nat.{ℕ, zero, suc, ◌+◌, ◌≤◌}
use mathlib.Core.Path.{◌≡◌, refl, sym, ap, ◌∙◌}
use mathlib.Core.Logic.{⊎_elim}
use mathlib.Core.List.{List, [], ◌∷◌, ◌++◌, map, append_assoc, append-nil}
use mathlib.Core.Bool.{true, ◌&&◌}
use mathlib.Core.Option.{Option, none, some}
use native.Mathlib.Omega.{arith}
use lib.Dec.{eqb, leb}
use lib.ListN.{length, get_or}
use borrow.Author.Tests.{le-leb, eqb-true}
use Rattle.model.specs.Types.{Kind, Ksd, Kst, Ksw, Ksb, Kld, Ksf, Enabled, OperatingPart, Single, Pair}
use Rattle.model.specs.Lists.{all, joined, table, none?}
use Rattle.model.specs.Limits.{max_systems}
use Rattle.model.specs.Memory.{System, Memory}
use Rattle.model.specs.WellFormed.{is_kind, system_fine, operating_fine, enabled_fine, memory_fine}
use Rattle.model.specs.Image.{edition, whole, numbers, system_bytes, enabled_bytes, image, give, up_to, several, most_byte, read_system, read_systems, enabled_from, read_enabled, read_contents, read_memory, wholly_read, accepted}
use Rattle.model.specs.ImageClaims.{ReadsBack, AcceptedExactly, OneMemory}
use Rattle.model.proofs.Basics.{true_false, none_some, and_split, or_split}
use Rattle.model.proofs.Image.Readers.{then, gave, one_read, passed, chosen}
use Rattle.model.proofs.Image.Limits.{place_within, parts}
use Rattle.model.proofs.Image.Numbers.{up_to_whole, whole_up_to}
use Rattle.model.proofs.Image.Several.{Taken, repeated_back, repeated_told, TakenNumbers, several_told, numbers_taken, numbers_first, read_two, read_three, read_four, listed}
use Rattle.model.proofs.Image.Systems.{system_read, system_told_lem}

-- ---- the systems

systems_read : (l k : List System) (rest : List ℕ) → length l ≤ max_systems → all (system_fine l) k ≡ true → read_systems (length k) (joined (map system_bytes k) ++ rest) ≡ some (k, rest)
systems_read l k rest h e = repeated_back read_system system_bytes (system_fine l) (λ s rest f. system_read l s rest h f) k rest e

systems_told_lem : (n : ℕ) (bs : List ℕ) (k : List System) (rest : List ℕ) → read_systems n bs ≡ some (k, rest) → Taken system_bytes (λ s. true) n bs k rest
systems_told_lem = repeated_told read_system system_bytes (λ s. true) (λ bs s rest e. (system_told_lem bs s rest e, refl))

-- ---- what is enabled

module _ (l : List System) (h : length l ≤ max_systems) where
  -- a place fits a byte
  small : (k : Kind) (p : ℕ) → is_kind l k p ≡ true → p ≤ most_byte
  small k p e = omega (arith, place_within l k p e)

  part_read : (o : OperatingPart) (r v : ℕ) (rest : List ℕ) → operating_fine l o ≡ true → r ≤ most_byte → v ≤ most_byte
      → read_enabled (enabled_bytes (record { operating = o; orientational = r; levelling = v }) ++ rest) ≡ some (record { operating = o; orientational = r; levelling = v }, rest)
  unfolding read_enabled enabled_bytes enabled_from operating_fine give
  part_read (Single p) r v rest e hr hv =
      rw (numbers_first 0 (p ∷ r ∷ v ∷ []) rest)
      (then (up_to 1) _ _ (up_to_whole 1 0 (numbers (p ∷ r ∷ v ∷ []) ++ rest) (omega arith))
      ∙ then (several 3 most_byte) _ _ (read_three most_byte rest (⊎_elim (small Ksd p) (small Ksf p) (or_split (is_kind l Ksd p) (is_kind l Ksf p) e)) hr hv))
  part_read (Pair w t) r v rest e hr hv =
      let f = and_split (is_kind l Ksw w) (is_kind l Kst t) (and_split _ _ e).0 in
      rw (numbers_first 1 (w ∷ t ∷ r ∷ v ∷ []) rest)
      (then (up_to 1) _ _ (up_to_whole 1 1 (numbers (w ∷ t ∷ r ∷ v ∷ []) ++ rest) (omega arith))
      ∙ then (several 4 most_byte) _ _ (read_four most_byte rest (small Ksw w f.0) (small Kst t f.1) hr hv))

  enabled_read : (e : Enabled) (rest : List ℕ) → enabled_fine l e ≡ true → read_enabled (enabled_bytes e ++ rest) ≡ some (e, rest)
  unfolding enabled_fine
  enabled_read e rest g =
      let r = is_kind l Ksb e.orientational in
      let f = and_split (operating_fine l e.operating && r) (is_kind l Kld e.levelling) g in
      let o = and_split (operating_fine l e.operating) r f.0 in
      part_read e.operating e.orientational e.levelling rest o.0 (small Ksb e.orientational o.1) (small Kld e.levelling f.1)

part_told : (f : ℕ) (l bs mid rest : List ℕ) → f ≤ 1 → bs ≡ whole f ++ mid → TakenNumbers (3 + f) most_byte mid l rest → bs ≡ enabled_bytes (enabled_from f l) ++ rest
unfolding enabled_bytes enabled_from table
part_told zero l bs mid rest h e t =
    e ∙ rw (numbers_taken t) (sym (numbers_first 0 l rest) ∙ ap (λ (k : List ℕ). numbers (0 ∷ k) ++ rest) (listed 3 l t.long))
part_told (suc zero) l bs mid rest h e t =
    e ∙ rw (numbers_taken t) (sym (numbers_first 1 l rest) ∙ ap (λ (k : List ℕ). numbers (1 ∷ k) ++ rest) (listed 4 l t.long))
part_told (suc (suc f)) l bs mid rest h e t = absurd (omega arith)

enabled_told_lem : (bs : List ℕ) (e : Enabled) (rest : List ℕ) → read_enabled bs ≡ some (e, rest) → bs ≡ enabled_bytes e ++ rest
unfolding read_enabled give
enabled_told_lem bs e rest r =
    let f = gave (up_to 1) _ bs r in
    let l = gave (several (3 + f.0) most_byte) _ f.1 f.3 in
    let q = one_read l.3 in
    let w = whole_up_to 1 bs f.0 f.1 f.2 in
    rw (q.0, q.1) at (part_told f.0 l.0 bs f.1 l.1 w.1 w.0 (several_told most_byte (3 + f.0) f.1 l.0 l.1 l.2))

-- ---- a memory

memory_read : (m : Memory) → memory_fine m ≡ true → read_memory (image m) ≡ some (m, [])
unfolding read_memory read_contents image joined give
memory_read m h =
    let p = parts m h in
    let e = enabled_bytes m.enabled ++ [] in
    then (several 2 most_byte) _ _ (read_two most_byte (joined (map system_bytes m.systems) ++ e) (omega arith) (omega (arith, p.few)))
    ∙ rw (le-leb (length m.systems) max_systems p.few)
    (then (read_systems (length m.systems)) _ _ (systems_read m.systems m.systems e p.few p.fine)
    ∙ then read_enabled _ _ (enabled_read m.systems p.few m.enabled [] p.enabled))

head_told : (m : Memory) (bs h after-h mid rest : List ℕ) → TakenNumbers 2 most_byte bs h after-h → get_or h 0 0 ≡ edition → length m.systems ≡ get_or h 1 0 → after-h ≡ joined (map system_bytes m.systems) ++ mid → mid ≡ enabled_bytes m.enabled ++ rest → bs ≡ image m ++ rest
unfolding image joined table
head_told m bs h after-h mid rest t e l s n =
    let eh : numbers h ≡ numbers (edition ∷ length m.systems ∷ []) = ap numbers (listed 2 h t.long ∙ rw (e, l)) in
    numbers_taken t ∙ rw (eh, s, n) (simp (append_assoc, append-nil))

memory_told_lem : (bs : List ℕ) (m : Memory) (rest : List ℕ) → read_memory bs ≡ some (m, rest) → bs ≡ image m ++ rest
unfolding read_memory read_contents give
memory_told_lem bs m rest e =
    let h = gave (several 2 most_byte) _ bs e in
    let t = eqb (get_or h.0 0 0) edition && leb (get_or h.0 1 0) max_systems in
    let c = chosen t (read_contents (get_or h.0 1 0)) h.1 h.3 in
    let l = gave (read_systems (get_or h.0 1 0)) _ h.1 c.1 in
    let n = gave read_enabled _ l.1 l.3 in
    let q = one_read n.3 in
    let f = and_split (eqb (get_or h.0 0 0) edition) (leb (get_or h.0 1 0) max_systems) c.0 in
    let s = systems_told_lem (get_or h.0 1 0) h.1 l.0 l.1 l.2 in
    rw (q.0, q.1) at (head_told (record { systems = l.0; enabled = n.0 }) bs h.0 h.1 l.1 n.1 (several_told most_byte 2 bs h.0 h.1 h.2) (eqb-true (get_or h.0 0 0) edition f.0) s.long s.bytes (enabled_told_lem l.1 n.0 n.1 n.2))

-- ---- accepted

pub reads_back : ReadsBack
unfolding accepted wholly_read none?
reads_back m h = rw (memory_read m h, h)

no_rest : (l : List ℕ) → none? l ≡ true → l ≡ []
unfolding none?
no_rest [] e = refl
no_rest (b ∷ l) e = true_false (sym e)

-- what is accepted as m: m is well formed, and these are its bytes
was_read : (bs : List ℕ) (m : Memory) (o : Option (Memory × List ℕ)) → read_memory bs ≡ o → wholly_read o ≡ some m → (memory_fine m ≡ true) × (image m ≡ bs)
unfolding wholly_read
was_read bs m none r e = none_some e
was_read bs m (some p) r e =
    let g = passed (none? p.1 && memory_fine p.0) p.0 m e in
    let f = and_split (none? p.1) (memory_fine p.0) g.0 in
    let t = memory_told_lem bs p.0 p.1 r in
    (rw g.1 at f.1, rw (← g.1) (sym (t ∙ rw (no_rest p.1 f.0) (append-nil (image p.0)))))

pub accepted_exactly : AcceptedExactly
unfolding accepted
accepted_exactly bs m = (λ e. was_read bs m (read_memory bs) refl e, λ h. rw h.1 at (reads_back m h.0))

pub one_memory : OneMemory
one_memory m n h k e =
    let p = reads_back m h in
    let q = reads_back n k in
    let r = ap accepted e in
    cc
