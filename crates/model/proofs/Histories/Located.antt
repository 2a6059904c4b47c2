-- Document 02 §1, proved: `stage_claims` and, of stored states, `stored_locates`. (What becomes of the position is in Positions.)
use Prim.Native.Nat.{ℕ, suc, ◌≤◌}
use mathlib.Core.Path.{◌≡◌, refl, sym, ap, ◌∙◌}
use mathlib.Core.List.{List, [], ◌∷◌}
use mathlib.Core.Bool.{Bool, true, false, ◌&&◌}
use mathlib.Core.Logic.{◌↔◌, ⊎_elim}
use native.Mathlib.Omega.{arith}
use borrow.Author.Tests.{eqb-true, not-false, le-ltb, ne_eqb}
use lib.Dec.{eqb}
use lib.IntN.{ℤ, pos, negsuc, nat_abs}
use lib.ListN.{length}
use Rattle.model.specs.Types.{Vec3, Ksf, Position, OperatingPart, Single, Pair}
use Rattle.model.specs.Ascii.{ascii}
use Rattle.model.specs.Lists.{all, any, same, there?}
use Rattle.model.specs.Limits.{buffer_limit}
use Rattle.model.specs.Pose.{Pose, origin, unturned, plus, placed, followed, rot_of, shown}
use Rattle.model.specs.Memory.{System, Memory, State, zero_position, system_at, is_user, find, ref_or, named, user_named, meant}
use Rattle.model.specs.Chain.{resultant}
use Rattle.model.specs.Words.{words}
use Rattle.model.specs.Stage.{operating_place, aslant, operating_pose, step_to, spot}
use Rattle.model.specs.WellFormed.{well_formed}
use Rattle.model.specs.Request.{Reading, reading, unknown, malformed, beyond, asks, change, list, last_error, define, locate, link, copy, remove, enable, set_level, save, restore, reset, enabled_ones, systems_all, links, resultants, resultant_of, resultant_in, one_name, names?, definitions, edits, settings, queries, commands, read_by, read_words}
use Rattle.model.specs.Refusals.{short, locked, first, unreadable, refusal, ladder, reading_ladder, request_ladder, change_ladder, query_ladder}
use Rattle.model.specs.Effects.{put, fresh, located, enabled_user, enabling, changed, next}
use Rattle.model.specs.Machine.{Outcome, carried_out, stepped}
use Rattle.model.specs.Trace.{after_calls, after_inputs}
use Rattle.model.specs.Demand.{held, held_part, frames, start_state}
use Rattle.model.specs.Claims.{applies, tried_before, before}
use Rattle.model.specs.StageClaims.{work_pose, AsksLocation, AsksWhileTurned, MadeHere, EnabledHere, StageClaims, StoredLocates}
use Rattle.model.specs.Use.{name_in_use}
use Rattle.model.specs.Relative.{resultant_named}
use Rattle.model.proofs.Basics.{and_split, true_false, or_false, or_split}
use Rattle.model.proofs.Chains.Standing.{Unmoved}
use Rattle.model.proofs.Poses.Arithmetic.{named_over}
use Rattle.model.proofs.Poses.Laws.{placed_followed, named_after, named_unturned}
use Rattle.model.proofs.Poses.Showing.{shown_names}
use Rattle.model.proofs.Poses.Turning.{after_unturned, plus_origin}
use Rattle.model.proofs.Memories.Fine.{Fine, fine_of, state_of_lem}
use Rattle.model.proofs.Memories.Named.{find_user, user_place, named_place}
use Rattle.model.proofs.Ladder.First.{clear_of}
use Rattle.model.proofs.Ladder.Refusing.{step_number, step_taken}
use Rattle.model.proofs.Ladder.Exact.{number_exact}
use Rattle.model.proofs.Edits.Put.{named_put, user_put, one_step, own_resultant}
use Rattle.model.proofs.Histories.Kept.{well_formed_kept}
use Rattle.model.proofs.Histories.Positions.{position_kept}
use Rattle.model.proofs.Histories.Still.{still_put}
use Rattle.model.proofs.Histories.Under.{held_fast}
use Rattle.model.proofs.Histories.Stored.{line_state, line_number, begins_held, calls_held}
use Rattle.model.proofs.Views.{view_is}

-- ---- which lines ask for KSF

ksf_words : (args : List (List ℕ)) → read_words (ascii "KSF" ∷ args) ≡ one_name (λ a. asks (change (locate a))) args
unfolding read_words read_by commands definitions edits settings queries same
ksf_words args = refl

asks_location : (bytes : List ℕ) → AsksLocation bytes
unfolding reading one_name names? all
asks_location bytes =
    record {
      one = λ a e p. by e ∙ rw p;
      other = λ args e z. by e ∙ rw z;
    }
  where
    by : {args : List (List ℕ)} → words bytes ≡ ascii "KSF" ∷ args → reading bytes ≡ one_name (λ a. asks (change (locate a))) args
    by {args} e = ap read_words e ∙ ksf_words args

-- ---- number 15

turned_fifteen : (st : State) → aslant st.position ≡ true → (bytes b n : List ℕ) → reading bytes ≡ asks (change (locate n)) → applies 15 (ladder st bytes b) ≡ true
unfolding applies any ladder reading_ladder request_ladder change_ladder
turned_fifteen st t bytes b n r = rw r (rw t refl)

module _ (st : State) (bytes : List ℕ) where
  only_locations : (r : Reading) → reading bytes ≡ r → applies 15 (reading_ladder st r) ≡ true → AsksWhileTurned st bytes
  unfolding applies any reading_ladder request_ladder change_ladder query_ladder
  only_locations unknown e a = true_false (sym a)
  only_locations malformed e a = true_false (sym a)
  only_locations beyond e a = true_false (sym a)
  only_locations (asks (change (define k n t u))) e a = true_false (sym a)
  only_locations (asks (change (locate n))) e a =
      record { name = n; asked = e; turned = ⊎_elim (λ t. t) (λ f. true_false (sym f)) (or_split (aslant st.position) false a) }
  only_locations (asks (change (link x y))) e a = true_false (sym a)
  only_locations (asks (change (copy s d))) e a = true_false (sym a)
  only_locations (asks (change (remove n))) e a = true_false (sym a)
  only_locations (asks (change (enable n))) e a = true_false (sym a)
  only_locations (asks (change (set_level n))) e a = true_false (sym a)
  only_locations (asks (change save)) e a = true_false (sym a)
  only_locations (asks (change restore)) e a = true_false (sym a)
  only_locations (asks (change reset)) e a = true_false (sym a)
  only_locations (asks (list enabled_ones)) e a = true_false (sym a)
  only_locations (asks (list systems_all)) e a = true_false (sym a)
  only_locations (asks (list links)) e a = true_false (sym a)
  only_locations (asks (list resultants)) e a = true_false (sym a)
  only_locations (asks (list (resultant_of n))) e a = true_false (sym a)
  only_locations (asks (list (resultant_in x y))) e a = true_false (sym a)
  only_locations (asks last_error) e a = true_false (sym a)

  asks_while_turned : well_formed st ≡ true → (b : List ℕ) → (stepped st bytes b).number ≡ 15 → AsksWhileTurned st bytes
  unfolding applies any ladder
  asks_while_turned w b e = only_locations (reading bytes) refl (((number_exact st bytes b).others w 15 (omega arith)).0 e).itself

-- ---- the frame that is made

-- the rotation of the spot is that of the enabled system, and some triple names it
spot_rot : (m : Memory) (p : Position) → (spot m p).rot ≡ (operating_pose m).rot
unfolding spot
spot_rot m p = after_unturned (operating_pose m).rot

spot_shown : (m : Memory) (p : Position) → rot_of (shown (spot m p).rot) ≡ (spot m p).rot
unfolding spot resultant
spot_shown m p = shown_names (spot m p).rot (named_after (operating_pose m).rot unturned (named_over m.systems _ _) named_unturned)

module _ (st : State) (w : well_formed st ≡ true) (bytes b n : List ℕ) (r : reading bytes ≡ asks (change (locate n))) (z : (stepped st bytes b).number ≡ 0) where
  abbrev m : Memory
  m = st.volatile

  abbrev p : Position
  p = st.position

  abbrev made : System
  made = located m p n

  abbrev after : State
  after = (stepped st bytes b).state

  fine : Fine m
  fine = fine_of m (state_of_lem st w).volatile

  none_refuses : refusal st bytes b ≡ 0
  none_refuses = sym (step_number st bytes b w) ∙ z

  put_in : after.volatile ≡ put m made
  unfolding carried_out next changed
  put_in = ap (λ (o : Outcome). o.state.volatile) (step_taken st w bytes b (asks (change (locate n))) r none_refuses)

  after_fine : Fine (put m made)
  after_fine = rw put_in at (fine_of after.volatile (state_of_lem after (well_formed_kept.line st bytes b w)).volatile)

  resultant_here : resultant (put m made).systems (named (put m made) n).place ≡ spot m p
  unfolding located fresh
  resultant_here = own_resultant m made after_fine refl ∙ (λ i. record { at = (spot m p).at; rot = spot_shown m p i })

  is : resultant_named after.volatile n ≡ followed (operating_pose m) (step_to p)
  unfolding spot
  is = ap (λ (v : Memory). resultant_named v n) put_in ∙ resultant_here

  at_position : (q : Vec3) → placed (followed (operating_pose m) (step_to p)) q ≡ placed (operating_pose m) (plus p.offset q)
  at_position q = placed_followed (operating_pose m) (step_to p) q

  free : name_in_use m n ≡ false
  unfolding applies any reading_ladder request_ladder change_ladder
  free = (or_false (name_in_use m n) _ (rw r at (clear_of st bytes b none_refuses 11))).0

  pub made_here : MadeHere n st after
  unfolding located fresh
  made_here =
      let e = put_in in
      record {
        there = rw e (user_put m made after_fine);
        kind = rw e (ap (λ (s : System). s.kind) (named_put m made after_fine));
        pred = rw e (ap (λ (s : System). s.pred) (named_put m made after_fine));
        steps = rw e (one_step m made after_fine refl);
        turns = rw e (ap (λ (s : System). s.turns) (named_put m made after_fine) ∙ ap shown (spot_rot m p));
        resultant = is;
        origin = ap (λ (q : Pose). placed q origin) is ∙ at_position origin ∙ ap (placed (operating_pose m)) (plus_origin p.offset);
        points = λ q. ap (λ (t : Pose). placed t q) is ∙ at_position q;
        still = rw e (ap (λ (u : Unmoved). u.frames) (still_put m fine made free));
      }

-- ---- KEN of it, sent next

module _ (st : State) (w : well_formed st ≡ true) (bytes b n : List ℕ) (r : reading bytes ≡ asks (change (enable n))) where
  abbrev v : Memory
  v = st.volatile

  -- a KSF is enabled alone, so its resultant is that of the operating part
  module _ (there : is_user v n ≡ true) (kind : (user_named v n).kind ≡ Ksf) where
    alone : (enabling st.level v (named v n)).operating ≡ Single (named v n).place
    unfolding enabling enabled_user
    alone =
        let e = named_place v n in
        let h = user_place v n there in
        rw (ne_eqb (named v n).place 0 (λ q. omega arith), ap (λ q. (system_at v.systems q).kind) e ∙ kind) refl

    -- seen from the state in which KSF was sent
    enabled_here : (earlier : State) → MadeHere n earlier st → st.position ≡ earlier.position → (stepped st bytes b).number ≡ 0 → EnabledHere n earlier (stepped st bytes b).state
    unfolding carried_out next changed find is_user
    enabled_here earlier made stood z =
        let e = ap (λ (o : Outcome). o.state) (step_taken st w bytes b (asks (change (enable n))) r (sym (step_number st bytes b w) ∙ z)) in
        let now = ap (λ o. resultant v.systems (operating_place o)) alone in
        rw e (record {
          alone = alone;
          pose = now ∙ made.resultant;
          zero = ap (λ (q : Pose). placed q origin) now ∙ made.origin;
          points = λ q. ap (λ (t : Pose). placed t q) now ∙ made.points q;
          stands = stood;
        })

    -- the operating group needs no level
    unlocked : locked st.level (meant v n).group ≡ false
    unfolding ref_or
    unlocked = rw (find_user v n there, kind) (go (eqb st.level 0))
      where
        go : (t : Bool) → t && false ≡ false
        go true = refl
        go false = refl

    accepts : unreadable bytes ≡ false → buffer_limit ≤ length b → (stepped st bytes b).number ≡ 0
    unfolding refusal ladder short reading_ladder request_ladder change_ladder first there?
    accepts readable room =
        step_number st bytes b w ∙ rw (r, readable, le-ltb (length b) buffer_limit room) (rw unlocked (rw (find_user v n there) refl))

-- ---- what KSF goes by

enabled_pose : (m : Memory) → operating_pose m ≡ work_pose (frames m).operating
unfolding frames held_part held
enabled_pose m = go m.enabled.operating
  where
    go : (o : OperatingPart) → resultant m.systems (operating_place o) ≡ work_pose (held_part m o)
    go (Single p) = refl
    go (Pair w t) = refl

no_angle : (z : ℤ) → eqb (nat_abs z) 0 ≡ true → z ≡ pos 0
no_angle (pos n) e = ap pos (eqb-true n 0 e)
no_angle (negsuc n) e = absurd (let q = eqb-true (suc n) 0 e in omega arith)

level_angles : (p : Position) → (aslant p ≡ false) ↔ (p.angles ≡ zero_position.angles)
unfolding aslant
level_angles p = (zero_all, λ e. rw e refl)
  where
    zero_all : aslant p ≡ false → p.angles ≡ zero_position.angles
    zero_all e =
        let a = and_split (eqb (nat_abs p.angles.u) 0 && eqb (nat_abs p.angles.v) 0) (eqb (nat_abs p.angles.w) 0) (not-false _ e) in
        let b = and_split (eqb (nat_abs p.angles.u) 0) (eqb (nat_abs p.angles.v) 0) a.0 in
        λ i. record { u = no_angle p.angles.u b.0 i; v = no_angle p.angles.v b.1 i; w = no_angle p.angles.w a.1 i }

-- ---- all of it

pub stage_claims : StageClaims
unfolding tried_before before any
stage_claims =
    record {
      position = position_kept;
      asked = asks_location;
      goes_by = record { enabled = enabled_pose; level = level_angles };
      order = (refl, refl);
      turned = λ st w t bytes b n r. held_fast 15 st w bytes b (turned_fifteen st t bytes b n r);
      only = λ st w bytes b e. asks_while_turned st bytes w b e;
      locates = λ st w. record {
        made = λ bytes b n r z. made_here st w bytes b n r z;
        accepted = λ bytes b n r z next c e readable room.
            let h = made_here st w bytes b n r z in
            accepts (stepped st bytes b).state (well_formed_kept.line st bytes b w) next c n e h.there h.kind readable room;
        enabled = λ bytes b n r z next c e y.
            let h = made_here st w bytes b n r z in
            enabled_here (stepped st bytes b).state (well_formed_kept.line st bytes b w) next c n e h.there h.kind st h (position_kept.lines st bytes b) y;
      };
    }

pub stored_locates : StoredLocates
unfolding after_calls after_inputs
stored_locates start calls s₀ s begun history =
    let st = after_calls (start_state start) calls in
    let w = well_formed_kept.history start calls [] in
    let h = calls_held (start_state start) (begins_held begun) history in
    let here = stage_claims.locates st w in
    let e = (view_is s st h).1 in
    record {
      stands = ap (λ (t : State). t.position) e ∙ position_kept.calls start calls;
      made = λ bytes b n r promise asked z.
          let after = (view_is r.state (stepped st bytes b).state (line_state s st h bytes b r promise)).1 in
          rw (e, after) (here.made bytes b n asked (sym (line_number s st h bytes b r promise) ∙ z));
      enabled = λ bytes b n r promise asked z next c r' promise' asked' z'.
          let one = (stepped st bytes b).state in
          let held = line_state s st h bytes b r promise in
          let after = (view_is r'.state (stepped one next c).state (line_state r.state one held next c r' promise')).1 in
          rw (e, after)
          (here.enabled bytes b n asked (sym (line_number s st h bytes b r promise) ∙ z) next c asked' (sym (line_number r.state one held next c r' promise') ∙ z'));
    }
