-- What reading a file leaves in the buffer.
use Rattle.std.specs.Prelude.{ℕ, ◌≤◌, ◌≡◌, List, length, drop, Option, Some, None, Result, Ok, Err}
use Rattle.model.specs.ImageClaims.{longest_image}
use Rattle.store.specs.declared.say.Complained.{Complained}

-- some bytes from byte 0 on, no more than an image has, and the later ones as they were; without an image, all are as they were
pub record Image (before after : List ℕ) (n : ℕ) : Type 0 where
  pub few : n ≤ longest_image
  pub within : n ≤ length after
  pub long : length after ≡ length before
  pub later : drop n after ≡ drop n before

-- a file that is there
abbrev pub Opens : List ℕ → List ℕ → Result ℕ Complained → Type 0
Opens before after (Ok n) = Image before after n
Opens before after (Err e) = after ≡ before

-- one that may be there
abbrev pub Loads : List ℕ → List ℕ → Result (Option ℕ) Complained → Type 0
Loads before after (Ok None) = after ≡ before
Loads before after (Ok (Some n)) = Image before after n
Loads before after (Err e) = after ≡ before
