-- What is claimed of the saved image (document 01, "Image" and error 14). The statements only; proofs/Image proves them.
use Rattle.std.specs.Prelude.{◌≤◌, ◌≡◌, ◌↔◌}
use Rattle.model.specs.Base.{ℕ, List, true, some, length}
use Rattle.model.specs.Limits.{buffer_limit}
use Rattle.model.specs.Memory.{Memory}
use Rattle.model.specs.WellFormed.{memory_fine}
use Rattle.model.specs.Image.{image, accepted}

-- [Image] reading what a well-formed memory writes gives that memory
abbrev pub ReadsBack : Type 0
ReadsBack = (m : Memory) → memory_fine m ≡ true → accepted (image m) ≡ some m

-- [Error 14] bytes are accepted exactly where they are the image of a well-formed memory, and as that memory. They are any bytes
abbrev pub AcceptedExactly : Type 0
AcceptedExactly = (bs : List ℕ) (m : Memory) → (accepted bs ≡ some m) ↔ ((memory_fine m ≡ true) × (image m ≡ bs))

-- [Image] no two well-formed memories have one image
abbrev pub OneMemory : Type 0
OneMemory = (m n : Memory) → memory_fine m ≡ true → memory_fine n ≡ true → image m ≡ image n → m ≡ n

-- [Image] the longest image: 16 systems of 37 bytes, edition, count, and a pair enabled
abbrev pub longest_image : ℕ
longest_image = 599

-- [Error 2; Image] the image of a well-formed memory is no longer than that, so a buffer that is not too short holds it
abbrev pub Fits : Type 0
Fits = (m : Memory) → memory_fine m ≡ true → (length (image m) ≤ longest_image) × (longest_image ≤ buffer_limit)
