-- What the name of a length at the front of bytes is.
use Prim.Native.Nat.{ℕ, ◌≤◌, ◌<◌}
use mathlib.Core.Path.{◌≡◌}
use mathlib.Core.List.{List, ◌++◌}
use mathlib.Core.Option.{none, some}
use lib.ListN.{length, take, drop}
use lib.Seq.{length-take-le, take-append_seam}
use borrow.Author.Tests.{le-leb, lt-leb}
use Rattle.model.specs.Limits.{name_limit}
use Rattle.model.specs.Image.{fail, read_bytes, read_name}

module _ (bs : List ℕ) (n : ℕ) where
  pub name_long : name_limit < n → read_name n bs ≡ none
  unfolding read_name fail
  name_long h = rw (lt-leb n name_limit h)

  module _ (h : n ≤ name_limit) where
    pub name_beyond : length bs < n → read_name n bs ≡ none
    unfolding read_name read_bytes
    name_beyond g = rw (le-leb n name_limit h, lt-leb n (length bs) g)

    -- the free bytes after the name do not matter
    pub name_there : (free : List ℕ) → n ≤ length bs → read_name n bs ≡ some (take n (take n bs ++ free), drop n bs)
    unfolding read_name read_bytes
    name_there free g =
        let l : length (take n bs) ≡ n = length-take-le n bs g in
        let t : take n (take n bs ++ free) ≡ take n bs = rw l at (take-append_seam (take n bs) free) in
        rw (le-leb n name_limit h, le-leb n (length bs) g, t)
