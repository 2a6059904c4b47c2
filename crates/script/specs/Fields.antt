-- The fields of a line of a script.
use Rattle.std.specs.Prelude.{ℕ, ◌-◌, not, List, take, drop}
use Rattle.model.specs.Lists.{kept, none?, pieces}
use Rattle.text.specs.declared.words.Word.{Word}

-- what stands between spaces, as it is: small letters are not capitals here
unfoldable pub fields : List ℕ → List (List ℕ)
fields text = kept (λ w. not (none? w)) (pieces 32 text)

-- the fields from a place on
abbrev pub fields_from : List ℕ → ℕ → List (List ℕ)
fields_from text at = fields (drop at text)

-- the bytes of a word that the cursor found
abbrev pub bytes_at : List ℕ → Word → List ℕ
bytes_at text w = take (w.end - w.start) (drop w.start text)
