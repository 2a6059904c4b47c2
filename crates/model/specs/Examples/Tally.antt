-- Document 02 §10 by examples.
use Rattle.std.specs.Prelude.{◌≡◌, ◌∷◌}
use Rattle.model.specs.Base.{[]}
use Rattle.model.specs.Ascii.{ascii}
use Rattle.model.specs.Limits.{most_counted}
use Rattle.model.specs.Tally.{Tally, count_of, counted_all, tallied, tally_text}
use Rattle.model.specs.Trace.{ksrun}

-- two outcomes before it is full: accepted lines but for one refused with 3
abbrev pub almost_full : Tally
almost_full = record { counts = 18446744073709551612 ∷ 0 ∷ 0 ∷ 1 ∷ []; total = 18446744073709551613 }

pub record OfTally : Type 0 where
  -- [02 §10] accepted and total, then the numbers that occurred, ascending, in whatever order they came
  pub counted : tally_text (tallied (0 ∷ 20 ∷ 4 ∷ 0 ∷ 4 ∷ 12 ∷ 0 ∷ [])) ≡ ascii "T 3 7\nR 4 2\nR 12 1\nR 20 1\n"
  pub none_accepted : tally_text (tallied (5 ∷ 5 ∷ [])) ≡ ascii "T 0 2\nR 5 2\n"
  pub none_refused : tally_text (tallied (0 ∷ [])) ≡ ascii "T 1 1\n"
  pub nothing : tally_text (tallied []) ≡ ascii "T 0 0\n"
  pub not_occurred : count_of (tallied (0 ∷ 4 ∷ [])) 9 ≡ 0
  -- [02 §10] the last outcome for which there is room is counted, and none after it, of whatever number
  pub full : tally_text (counted_all almost_full (3 ∷ 0 ∷ [])) ≡ ascii "T 18446744073709551613 18446744073709551615\nR 3 2\n"
  pub stays : counted_all almost_full (3 ∷ 0 ∷ 3 ∷ 0 ∷ 7 ∷ []) ≡ counted_all almost_full (3 ∷ 0 ∷ [])
  pub most : most_counted ≡ 18446744073709551615
  -- [02 §10] behind the answers, whether or not an LF ends the last line; a refusal is counted under the number that is printed
  pub printed : ksrun (ascii "KSD A\nKEN A\nWPA SKS\nKEN ZERO\nKRM A\nKRM B\nKRM A")
      ≡ ascii "E 20\nE 7\nE 20\nT 4 7\nR 7 1\nR 20 2\n"
