-- Each decision, carried out on a stored state: for `applied`, and for whoever holds the state in its parts.
use Prim.Native.Nat.{ℕ, ◌≤◌, ◌<◌}
use mathlib.Core.Path.{◌≡◌, refl, sym, ap, ◌∙◌}
use mathlib.Core.Bool.{true}
use lib.ListN.{length}
use Rattle.std.specs.Prelude.{Result, Ok, Err}
use Rattle.model.specs.Limits.{max_systems}
use Rattle.model.specs.declared.Enabled.{Enabled}
use Rattle.model.specs.declared.System.{System as StoredSystem}
use Rattle.model.specs.declared.Memory.{Memory as StoredMemory}
use Rattle.model.specs.declared.State.{State as StoredState}
use Rattle.model.specs.Memory.{Memory, factory}
use Rattle.model.specs.Effects.{with_volatile, removed_at}
use Rattle.model.specs.Stored.{system_of, systems_of, memory_of, state_of, name_shaped, memory_shaped, shaped}
use Rattle.facts.specs.declared.refusals.Refusal.{Refusal}
use Rattle.facts.specs.Refusals.{number_of}
use Rattle.memory.specs.Put.{put_at}
use Rattle.memory.proofs.Shape.{shape_both, shape_parts}
use Rattle.commands.specs.declared.changed.Deed.{Deed}
use Rattle.commands.specs.declared.changed.Deed.TheVariants.{Keep, SetError, Put, Remove, Enable, SetLevel, Save, Restore, Reset}
use Rattle.commands.specs.Done.{done, done_by, Fits, Doable, Applied}

-- the place of a deed that can be done
module _ {m : StoredMemory} {r : Result Deed Refusal} (can : Doable m r) where
  pub put_fits : {k : ℕ} {x : StoredSystem} → r ≡ Ok (Put k x) → (k ≤ max_systems) × (k ≡ 0 → m.count < max_systems) × (name_shaped x ≡ true)
  unfolding Fits
  put_fits e = rw e at can.fits

  pub remove_fits : {k : ℕ} {x : StoredSystem} → r ≡ Ok (Remove k x) → (0 < k) × (k ≤ length (systems_of m))
  unfolding Fits
  remove_fits e = let fits = rw e at can.fits in (fits.0, fits.1)

module _ {s : StoredState} {r : Result Deed Refusal} where
  pub applied_refused : {why : Refusal} → r ≡ Err why → {n : ℕ} → n ≡ number_of why → Applied s r (record { volatile = s.volatile; permanent = s.permanent; position = s.position; level = s.level; error = n })
  unfolding shaped
  applied_refused e told = record { state = rw (e, told) refl; shape = λ h. h }

  pub applied_keep : r ≡ Ok Keep → Applied s r s
  unfolding done
  applied_keep e = record { state = rw (e, done) refl; shape = λ h. h }

  pub applied_error : {n : ℕ} → r ≡ Ok (SetError n) → Applied s r (record { volatile = s.volatile; permanent = s.permanent; position = s.position; level = s.level; error = n })
  unfolding done shaped
  applied_error e = record { state = rw (e, done) refl; shape = λ h. h }

  pub applied_level : {n : ℕ} → r ≡ Ok (SetLevel n) → Applied s r (record { volatile = s.volatile; permanent = s.permanent; position = s.position; level = n; error = s.error })
  unfolding done shaped
  applied_level e = record { state = rw (e, done) refl; shape = λ h. h }

  pub applied_save : r ≡ Ok Save → Applied s r (record { volatile = s.volatile; permanent = s.volatile; position = s.position; level = s.level; error = s.error })
  unfolding done
  applied_save e = record { state = rw (e, done) refl; shape = λ h. let v = (shape_parts s h).0 in shape_both _ v v }

  -- ---- the deeds that give another volatile memory

  -- m stands for the one that is due, and has shape where the old memories have
  applied_memory : (m : StoredMemory) {due : Memory} → memory_of m ≡ due → done_by r (state_of s) ≡ with_volatile (state_of s) due →
      (memory_shaped s.volatile ≡ true → memory_shaped s.permanent ≡ true → memory_shaped m ≡ true) →
      Applied s r (record { volatile = m; permanent = s.permanent; position = s.position; level = s.level; error = s.error })
  applied_memory m is e keeps =
      record {
        state = ap (with_volatile (state_of s)) is ∙ sym e;
        shape = λ h. let p = shape_parts s h in shape_both _ (keeps p.0 p.1) p.1;
      }

  pub applied_put : {k : ℕ} {x : StoredSystem} → r ≡ Ok (Put k x) → Doable s.volatile r → (m : StoredMemory) →
      (memory_of m ≡ put_at (memory_of s.volatile) k (system_of x)) × (memory_shaped s.volatile ≡ true → name_shaped x ≡ true → memory_shaped m ≡ true) →
      Applied s r (record { volatile = m; permanent = s.permanent; position = s.position; level = s.level; error = s.error })
  unfolding done
  applied_put e can m put = applied_memory m put.0 (rw (e, done) refl) (λ v p. put.1 v (put_fits can e).2)

  pub applied_remove : {k : ℕ} {x : StoredSystem} → r ≡ Ok (Remove k x) → (m : StoredMemory) →
      (memory_of m ≡ removed_at (memory_of s.volatile) k) × (memory_shaped s.volatile ≡ true → memory_shaped m ≡ true) →
      Applied s r (record { volatile = m; permanent = s.permanent; position = s.position; level = s.level; error = s.error })
  unfolding done
  applied_remove e m gone = applied_memory m gone.0 (rw (e, done) refl) (λ v p. gone.1 v)

  pub applied_enable : {e : Enabled} → r ≡ Ok (Enable e) →
      Applied s r (record { volatile = record { systems = s.volatile.systems; count = s.volatile.count; enabled = e }; permanent = s.permanent; position = s.position; level = s.level; error = s.error })
  unfolding done memory_shaped
  applied_enable {e} q = applied_memory (record { systems = s.volatile.systems; count = s.volatile.count; enabled = e }) refl (rw (q, done) refl) (λ v p. v)

  pub applied_restore : r ≡ Ok Restore → Applied s r (record { volatile = s.permanent; permanent = s.permanent; position = s.position; level = s.level; error = s.error })
  unfolding done
  applied_restore e = applied_memory s.permanent refl (rw (e, done) refl) (λ v p. p)

  pub applied_reset : r ≡ Ok Reset → (m : StoredMemory) → (memory_of m ≡ factory) × (memory_shaped m ≡ true) →
      Applied s r (record { volatile = m; permanent = s.permanent; position = s.position; level = s.level; error = s.error })
  unfolding done
  applied_reset e m new = applied_memory m new.0 (rw (e, done) refl) (λ v p. new.1)
