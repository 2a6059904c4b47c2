-- A refusal's number is not 0, and what the look at the permanent memory leaves of a decision: all but whether a removal is done.
use mathlib.Core.Path.{◌≡◌, refl}
use mathlib.Core.Bool.{Bool, true, false, cond}
use lib.Dec.{eqb}
use Rattle.std.specs.Prelude.{Result, Ok, Err}
use Rattle.model.specs.declared.Memory.{Memory as StoredMemory}
use Rattle.model.specs.Memory.{Memory}
use Rattle.model.specs.Use.{name_in_use}
use Rattle.model.specs.Stored.{system_of}
use Rattle.facts.specs.declared.refusals.Refusal.{Refusal}
use Rattle.facts.specs.declared.refusals.Refusal.TheVariants.{IllFormed, Needed}
use Rattle.facts.specs.Refusals.{number_of}
use Rattle.commands.specs.declared.changed.Deed.{Deed}
use Rattle.commands.specs.declared.changed.Deed.TheVariants.{Remove}
use Rattle.commands.specs.Done.{saving, settle, Fits, FitsBy, settles, saving_by, Doable}

pub not_zero : (why : Refusal) → eqb (number_of why) 0 ≡ false
not_zero IllFormed = refl
not_zero why = refl

-- ---- over a memory that is saved

module _ (p : Memory) where
  -- a saving is settled before
  saving_settle : (d : Deed) → saving_by (settle p d) ≡ saving d
  unfolding settle saving
  saving_settle (Remove k x) = removal (name_in_use p (system_of x).name)
    where
      removal : (u : Bool) → saving_by (cond u (Err Needed) (Ok (Remove k x))) ≡ false
      removal true = refl
      removal false = refl
  saving_settle d = refl

  pub saving_settled : (r : Result Deed Refusal) → saving_by (settles p r) ≡ saving_by r
  saving_settled (Ok d) = saving_settle d
  saving_settled (Err why) = refl

  -- what is left to do still fits
  fits_settle : (m : StoredMemory) (d : Deed) → Fits d m → FitsBy (settle p d) m
  unfolding settle Fits
  fits_settle m (Remove k x) f = removal (name_in_use p (system_of x).name)
    where
      removal : (u : Bool) → FitsBy (cond u (Err Needed) (Ok (Remove k x))) m
      removal true = tt
      removal false = f
  fits_settle m d f = f

  fits_settles : (m : StoredMemory) (r : Result Deed Refusal) → FitsBy r m → FitsBy (settles p r) m
  fits_settles m (Ok d) f = fits_settle m d f
  fits_settles m (Err why) f = tt

  pub doable_settled : {m : StoredMemory} {r : Result Deed Refusal} → Doable m r → Doable m (settles p r)
  doable_settled {m} {r} can = record { fits = fits_settles m r can.fits }

  -- what passes is left as it was
  pub passes_whole : (d e : Deed) → Ok e ≡ settle p d → settle p d ≡ Ok d
  unfolding settle
  passes_whole (Remove k x) e h = removal (name_in_use p (system_of x).name) h
    where
      removal : (u : Bool) → Ok e ≡ cond u (Err Needed) (Ok (Remove k x)) → cond u (Err Needed) (Ok (Remove k x)) ≡ Ok (Remove k x)
      removal true o = cc
      removal false o = refl
  passes_whole d e h = refl
