-- A block of a script that is fed part by part: what is handed out for a part, and what is held after it.
use Rattle.std.proofs.Common.{◌≡◌, ℕ, ◌+◌, ◌-◌, ◌≤◌, List, [], length, take, drop, sym, ap, ◌∙◌, arith, length-take-le, take_all}
use Rattle.lines.specs.Feed.{Fed, holding}
use Rattle.lines.proofs.Feeding.{fed_nothing}
use Rattle.lines.proofs.Places.{rest, rest_used, fed_part}
use Rattle.print.specs.Over.{Wrote}
use Rattle.script.specs.declared.feed.Script.{Script}
use Rattle.script.specs.declared.feed.Fed.{Fed as StoredFed}
use Rattle.script.specs.Run.{Place, answering, place_of, held_of, given, Feeds}
use Rattle.script.proofs.Cutting.{wrote_first}

-- before the first byte
pub given_nothing : (s : Script) (held : List ℕ) → held_of s held ≡ (given s held []).held
given_nothing s held = ap (λ (x : Fed Place ℕ). x.held) (sym (fed_nothing answering (place_of s) (take s.held held)))

-- the front of one buffer, kept in another that is as long
pub kept_front : (line : List ℕ) (n : ℕ) {held after : List ℕ} {r : ℕ} → n ≤ length line → length held ≡ length line →
    Wrote (take (length held - 0) (take n line)) held 0 after r → take n after ≡ take n line
kept_front line n {held} {after} {r} h same w =
    let long : length (take n line) ≡ n = length-take-le n line h in
    let all : take (length held - 0) (take n line) ≡ take n line = take_all (length held - 0) (take n line) (omega arith) in
    let v : Wrote (take n line) held 0 after r = rw all at w in
    let place : r ≡ n = omega (arith, v.place) in
    ap (λ (k : ℕ). take k after) (sym place) ∙ wrote_first v (omega arith)

-- a script t that holds what s gives for a block up to a place, and what was fed of the rest
module _ (s : Script) (held₀ block : List ℕ) (t : Script) (held : List ℕ) (at : ℕ) (inv : held_of t held ≡ (given s held₀ (take at block)).held)
    (before after line : List ℕ) (f : StoredFed) (feeds : Feeds (place_of t) (take t.held held) (rest block at) before after line f) (end : ℕ) (e : end ≡ at + f.used) where
  abbrev part : List ℕ
  part = take (end - at) (drop at block)

  used : take f.used (rest block at) ≡ part
  used = rest_used block at f.used end feeds.within e

  -- what stands in the buffer is what t gives for the part
  pub part_handed : take f.written after ≡ (given t held part).output
  part_handed = wrote_first feeds.puts feeds.room ∙ ap (λ (p : List ℕ). (given t held p).output) used

  -- and the script after it holds what s gives up to there
  pub part_held : (next : List ℕ) → take f.script.held next ≡ take f.script.held line → held_of f.script next ≡ (given s held₀ (take end block)).held
  part_held next same =
      ap (holding (place_of f.script)) same ∙ feeds.held ∙ ap (λ (p : List ℕ). (given t held p).held) used
      ∙ fed_part answering (place_of s) (take s.held held₀) block at (place_of t) (take t.held held) (sym inv) end (omega arith)
