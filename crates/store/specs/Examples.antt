-- Places and marks by examples. The statements only; proofs/Examples.antt computes them.
use Rattle.std.specs.Prelude.{◌≡◌, Some, None}
use Rattle.model.specs.Ascii.{ascii}
use Rattle.store.specs.Place.{folder_of, target_of}
use Rattle.store.specs.Mark.{shown_as, mark_of}

pub record Examples : Type 0 where
  -- a path and its folder
  pub here : folder_of (ascii "image") ≡ ascii "."
  pub root : folder_of (ascii "/image") ≡ ascii "/"
  pub below : folder_of (ascii "/bench/a/image") ≡ ascii "/bench/a"
  pub ending : folder_of (ascii "bench/") ≡ ascii "bench"
  -- a link and the path that it means
  pub beside : target_of (ascii "bench/link") (ascii "image") ≡ ascii "bench/image"
  pub above : target_of (ascii "bench/link") (ascii "../image") ≡ ascii "bench/../image"
  pub without_folder : target_of (ascii "link") (ascii "image") ≡ ascii "image"
  pub from_root : target_of (ascii "bench/link") (ascii "/image") ≡ ascii "/image"
  -- a descriptor's name, and a lock's mark
  pub shown : shown_as (ascii "4711") (ascii "3") ≡ ascii "/proc/4711/fd/3"
  pub read : mark_of (ascii "4711 3\n") ≡ Some (4, 6)
  pub no_end : mark_of (ascii "4711 3") ≡ None
  pub no_process : mark_of (ascii " 3\n") ≡ None
  pub more_behind : mark_of (ascii "4711 3\n\n") ≡ None
  pub no_number : mark_of (ascii "self 3\n") ≡ None
