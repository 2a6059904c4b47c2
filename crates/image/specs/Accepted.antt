-- What reading an image answers (document 01, "Image" and error 14).
use Rattle.std.specs.Prelude.{◌≡◌, Result, IfOk}
use Rattle.model.specs.Base.{ℕ, List, true}
use Rattle.model.specs.Image.{accepted}
use Rattle.model.specs.Stored.{memory_of, memory_shaped}
use Rattle.model.specs.declared.Memory.{Memory as StoredMemory}
use Rattle.model.specs.Memory.{Memory}
use Rattle.model.specs.Told.{Told, or_number}
use Rattle.facts.specs.Refusals.{told}
use Rattle.facts.specs.declared.refusals.Refusal.{Refusal}

-- [Error 14; Image] the memory, or 14
abbrev pub image_told : Result StoredMemory Refusal → Told Memory
image_told r = told memory_of r

-- the bytes are accepted exactly where the answer says so, and as the memory that it gives
pub record Answers (bs : List ℕ) (r : Result StoredMemory Refusal) : Type 0 where
  pub told : image_told r ≡ or_number 14 (accepted bs)
  pub shaped : IfOk r (λ m. memory_shaped m ≡ true)
