-- A query sent in a well-formed state: refused with 2 where the buffer is too short, and otherwise its listing is the reply and nothing changes. In two
-- states it has the same answer where the query has the same ladder and listing.
use Prim.Native.Nat.{ℕ, ◌≤◌, ◌<◌}
use mathlib.Core.Path.{◌≡◌, refl, sym, ap, ◌∙◌}
use mathlib.Core.List.{List}
use mathlib.Core.Bool.{Bool, true, false, cond}
use borrow.Author.Tests.{lt-ltb, le-ltb, eqb-true}
use lib.Dec.{eqb}
use lib.ListN.{length}
use Rattle.model.specs.Limits.{buffer_limit}
use Rattle.model.specs.Memory.{State}
use Rattle.model.specs.WellFormed.{well_formed}
use Rattle.model.specs.Request.{Query, reading, asks, list}
use Rattle.model.specs.Effects.{next}
use Rattle.model.specs.Refusals.{first, short, unreadable, refusal, ladder, query_ladder, request_ladder, reading_ladder}
use Rattle.model.specs.Reply.{listed, reply}
use Rattle.model.specs.Machine.{Outcome, answered, written, carried_out, stepped}
use Rattle.model.specs.Demand.{Replies}
use Rattle.model.proofs.Ladder.Refusing.{step_fine, step_number, step_taken, judged_refused}

module _ (st : State) (w : well_formed st ≡ true) (line : List ℕ) where
  pub too_short : (b : List ℕ) → length b < buffer_limit → (stepped st line b).number ≡ 2
  unfolding refusal ladder first short
  too_short b h = step_number st line b w ∙ rw (lt-ltb (length b) buffer_limit h)

  module _ (q : Query) (asked : reading line ≡ asks (list q)) where
    pub query_refusal : (b : List ℕ) → buffer_limit ≤ length b → unreadable line ≡ false → refusal st line b ≡ first (query_ladder st.volatile q)
    unfolding refusal ladder first short reading_ladder request_ladder
    query_refusal b h r = rw (le-ltb (length b) buffer_limit h, r, asked)

    pub query_taken : (b : List ℕ) → refusal st line b ≡ 0 → stepped st line b ≡ answered st (listed st.volatile q) b
    unfolding carried_out next reply
    query_taken b z = step_taken st w line b (asks (list q)) asked z

    -- a query that nothing but the buffer can refuse
    pub query_replies : unreadable line ≡ false → first (query_ladder st.volatile q) ≡ 0 → Replies st line (listed st.volatile q)
    query_replies r z = record { short = too_short; taken = λ b h. query_taken b (query_refusal b h r ∙ z) }

-- ---- two states in which a query has one ladder and one listing

module _ (line b : List ℕ) (q : Query) (asked : reading line ≡ asks (list q)) where
  -- what is written, by whether it is accepted
  query_parts : (st : State) → well_formed st ≡ true → (t : Bool) → eqb (refusal st line b) 0 ≡ t →
      ((stepped st line b).count ≡ cond t (length (listed st.volatile q)) 0) × ((stepped st line b).buffer ≡ cond t (written (listed st.volatile q) b) b)
  query_parts st w true e =
      let o = query_taken st w line q asked b (eqb-true (refusal st line b) 0 e) in
      (ap (λ (o : Outcome). o.count) o, ap (λ (o : Outcome). o.buffer) o)
  query_parts st w false e =
      let o = step_fine st line b w ∙ judged_refused st (refusal st line b) (reading line) b e in
      (ap (λ (o : Outcome). o.count) o, ap (λ (o : Outcome). o.buffer) o)

  module _ (st st' : State) (w : well_formed st ≡ true) (w' : well_formed st' ≡ true)
      (rungs : query_ladder st'.volatile q ≡ query_ladder st.volatile q) (text : listed st'.volatile q ≡ listed st.volatile q) where
    query_number : refusal st' line b ≡ refusal st line b
    unfolding refusal ladder reading_ladder request_ladder
    query_number = rw (asked, rungs)

    pub query_alike :
        ((stepped st' line b).number ≡ (stepped st line b).number) × ((stepped st' line b).count ≡ (stepped st line b).count)
        × ((stepped st' line b).buffer ≡ (stepped st line b).buffer)
    query_alike =
        let t = eqb (refusal st line b) 0 in
        let p = query_parts st w t refl in
        let p' = query_parts st' w' t (ap (λ n. eqb n 0) query_number) in
        (step_number st' line b w' ∙ query_number ∙ sym (step_number st line b w), p'.0 ∙ rw text (sym p.0), p'.1 ∙ rw text (sym p.1))
