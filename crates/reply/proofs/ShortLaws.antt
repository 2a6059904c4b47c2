-- Every reply of a well-formed memory is shorter than the least lent buffer.
use Prim.Native.Nat.{ℕ, zero, suc, ◌+◌, ◌*◌, ◌≤◌, ◌<◌}
use mathlib.Core.Path.{◌≡◌}
use mathlib.Core.Bool.{true}
use mathlib.Core.List.{List, [], ◌∷◌, ◌++◌, map, append-nil}
use native.Mathlib.Omega.{arith}
use native.Mathlib.Decide.{dec_lt}
use lib.IntN.{ℤ, pos, nat_abs}
use lib.ListN.{length, length-append}
use Rattle.model.specs.Lists.{joined}
use Rattle.model.specs.Limits.{max_systems, quarter_turn, most_turns, offset_limit, buffer_limit}
use Rattle.model.specs.Kinds.{of_kind, of_group}
use Rattle.model.specs.Pose.{Pose, shown}
use Rattle.model.specs.Memory.{System, Ref, fixed_ref, user_ref, system_at, name_of, type_of, pred_name, named}
use Rattle.model.specs.Chain.{steps, resultant, pose_in}
use Rattle.model.specs.WellFormed.{turns_fine}
use Rattle.model.specs.Use.{operating_places, in_group, enabled_refs}
use Rattle.model.specs.Request.{enabled_ones, systems_all, links, resultants, resultant_of, resultant_in}
use Rattle.model.specs.Reply.{value, degrees, six_values, listing, every_system, enabled_line, link_line, system_line, pose_line, resultant_line, relative_line, listed}
use Rattle.model.proofs.Memories.Fine.{Systems, own_of, turns_of_lem, fine_of, blank_beyond}
use Rattle.model.proofs.Memories.Named.{named_within}
use Rattle.model.proofs.Words.{legal_name_short}
use Rattle.pose.specs.Poses.{Within}
use Rattle.pose.proofs.Bounds.{within_more}
use Rattle.model.proofs.Poses.Showing.{shown_fine}
use Rattle.chains.specs.Walk.{farthest, farthest_apart, Walkable}
use Rattle.chains.proofs.Reaching.{few_steps, resultant_far, seen_far}
use Rattle.chains.proofs.Ready.{walkable}
use Rattle.model.proofs.Digits.{decimal_short}
use Rattle.print.proofs.Laws.{value_short}
use Rattle.reply.specs.Types.{Vec3, Turns, Kind, Ksd, Kst, Ksw, Ksb, Kld, Ksf, Group, Operating, Orientational, Levelling, Enabled, OperatingPart, Single, Pair}
use Rattle.reply.specs.Lines.{further_lines}
use Rattle.reply.specs.Fits.{RepliesFit}
use Rattle.reply.proofs.ValueLaws.{length_offsets, length_turns, length_six}
use Rattle.reply.proofs.ListLaws.{every_list}
use Rattle.reply.proofs.StoredLaws.{turns_at}

-- ---- the parts of a line

-- the digits before the point of the longest value: a coordinate, in millimetres, of one system seen from another
abbrev wholes : ℕ
wholes = 5

coordinate_short : (z : ℤ) → nat_abs z ≤ farthest_apart → length (value z) ≤ wholes + 8
coordinate_short z h = value_short wholes z (omega arith) (omega arith)

turn_short : (n : ℕ) → n ≤ most_turns → length (degrees n) ≤ wholes + 8
turn_short n h = value_short wholes (pos (n * quarter_turn)) (omega arith) (omega arith)

six_short : (t : Vec3) (r : Turns) → Within farthest_apart t → turns_fine r ≡ true → length (six_values t r) ≤ 96
six_short t r w f =
    let q = turns_of_lem r f in
    omega (
      arith,
      length_six t r,
      length_offsets t,
      length_turns r,
      coordinate_short t.x w.x_within,
      coordinate_short t.y w.y_within,
      coordinate_short t.z w.z_within,
      turn_short r.u q.u,
      turn_short r.v q.v,
      turn_short r.w q.w,
    )

kind_short : (k : Kind) → length (of_kind k).shown ≤ 9
kind_short Ksd = omega arith
kind_short Kst = omega arith
kind_short Ksw = omega arith
kind_short Ksb = omega arith
kind_short Kld = omega arith
kind_short Ksf = omega arith

group_short : (g : Group) → (length (of_group g).name ≤ 16) × (length (of_group g).shown ≤ 9) × (length (of_group g).end ≤ 7)
group_short Operating = (omega arith, omega arith, omega arith)
group_short Orientational = (omega arith, omega arith, omega arith)
group_short Levelling = (omega arith, omega arith, omega arith)

module _ (l : List System) (fine : Systems l) (w : Walkable l) where
  own_name_short : (k : ℕ) → length (system_at l k).name ≤ 16
  unfolding system_at
  own_name_short zero = omega arith
  own_name_short (suc i) = go (dec_lt (length l) (suc i))
    where
      go : Dec (length l < suc i) → length (system_at l (suc i)).name ≤ 16
      go (yes h) = rw (blank_beyond l (suc i) h) (omega arith)
      go (no h) = legal_name_short (system_at l (suc i)).name (own_of (system_at l (suc i)) (fine.own (suc i) (omega arith, omega arith))).name

  name_short : (g : Group) (p : ℕ) → length (name_of l (record { group = g; place = p })) ≤ 16
  unfolding name_of
  name_short g zero = (group_short g).0
  name_short g (suc i) = own_name_short (suc i)

  type_short : (g : Group) (p : ℕ) → length (type_of l (record { group = g; place = p })) ≤ 9
  unfolding type_of
  type_short g zero = (group_short g).1
  type_short g (suc i) = kind_short (system_at l (suc i)).kind

  pred_short : (g : Group) (p : ℕ) → length (pred_name l (record { group = g; place = p })) ≤ 16
  unfolding pred_name
  pred_short g zero = omega (arith, (group_short g).2)
  pred_short g (suc i) = name_short g (system_at l (suc i)).pred

  -- ---- lines

  enabled_short : (r : Ref) → length (enabled_line l r) ≤ 158
  unfolding enabled_line joined
  enabled_short r = simp (length-append, append-nil) (omega (arith, name_short r.group r.place, type_short r.group r.place))

  link_short : (r : Ref) → length (link_line l r) ≤ 158
  unfolding link_line joined
  link_short r = simp (length-append, append-nil) (omega (arith, name_short r.group r.place, pred_short r.group r.place))

  system_short : (r : Ref) → length (system_line l r) ≤ 158
  unfolding system_line joined
  system_short r =
      let s = system_at l r.place in
      let six = six_short s.offset s.turns (within_more offset_limit farthest_apart s.offset (omega arith) (w.offsets r.place)) (turns_at l fine r.place) in
      simp (length-append, append-nil) (omega (arith, name_short r.group r.place, type_short r.group r.place, six))

  -- a line of KLT?, of a pose that two chains can lead to
  pose_short : (n e : List ℕ) (p : Pose) (k : ℕ) → Within farthest_apart p.at → k ≤ max_systems + max_systems → length (pose_line n e p k) ≤ length n + length e + 131
  unfolding pose_line joined
  pose_short n e p k far few =
      let six = six_short p.at (shown p.rot) far (shown_fine p.rot) in
      let count = decimal_short 2 k (omega arith) (omega (arith, few)) in
      simp (length-append, append-nil) (omega (arith, six, count))

  pub resultant_short : (r : Ref) → r.place ≤ length l → length (resultant_line l r) ≤ 158
  unfolding resultant_line
  resultant_short r h =
      let p = resultant l r.place in
      let far = within_more farthest farthest_apart p.at (omega arith) (resultant_far l w r.place h) in
      omega (
        arith,
        name_short r.group r.place,
        (group_short r.group).2,
        pose_short (name_of l r) (of_group r.group).end p (steps l r.place) far (omega (arith, few_steps l w r.place h)),
      )

  pub relative_short : (r e : Ref) → r.place ≤ length l → e.place ≤ length l → length (relative_line l r e) ≤ 163
  unfolding relative_line
  relative_short r e h k =
      let far = seen_far l w r.place e.place h k in
      let both : steps l r.place + steps l e.place ≤ max_systems + max_systems = omega (arith, few_steps l w r.place h, few_steps l w e.place k) in
      omega (
        arith,
        name_short r.group r.place,
        name_short e.group e.place,
        pose_short (name_of l r) (name_of l e) (pose_in l r.place e.place) (steps l r.place + steps l e.place) far both,
      )

-- ---- lists

further_short : (f : ℕ → List ℕ) (m : ℕ) → ((k : ℕ) → k ≤ m → length (f k) ≤ 158) → (n k : ℕ) → k + n ≤ suc m → length (further_lines f n k) ≤ 160 * n + 1
unfolding further_lines
further_short f m h zero k b = omega arith
further_short f m h (suc n) k b =
    omega (arith, h k (omega arith), further_short f m h n (suc k) (omega arith), length-append (f k) (further_lines f n (suc k)))

every_short : (line : Ref → List ℕ) (l : List System) → length l ≤ 16 → ((r : Ref) → r.place ≤ length l → length (line r) ≤ 158) → length (listing (map line (every_system l))) ≤ buffer_limit
every_short line l few h =
    let users = further_short (λ k. line (user_ref l k)) (length l) (λ k. h (user_ref l k)) (length l) 1 (omega arith) in
    rw (every_list line l) (simp length-append
    (omega (arith, h (fixed_ref Operating) (omega arith), h (fixed_ref Orientational) (omega arith), h (fixed_ref Levelling) (omega arith), users)))

refs_short : (line : Ref → List ℕ) (e : Enabled) → ((r : Ref) → length (line r) ≤ 158) → length (listing (map line (enabled_refs e))) ≤ buffer_limit
unfolding enabled_refs listing joined
refs_short line e h = go e.operating
  where
    o : Ref
    o = in_group Orientational e.orientational

    v : Ref
    v = in_group Levelling e.levelling

    go : (part : OperatingPart) → length (listing (map line (map (in_group Operating) (operating_places part) ++ (o ∷ v ∷ [])))) ≤ buffer_limit
    go (Single p) = simp (length-append, append-nil) (omega (arith, h (in_group Operating p), h o, h v))
    go (Pair w t) = simp (length-append, append-nil) (omega (arith, h (in_group Operating w), h (in_group Operating t), h o, h v))

pub listed_short : RepliesFit
unfolding listed listing
listed_short m f enabled_ones = refs_short (enabled_line m.systems) m.enabled (enabled_short m.systems (fine_of m f).systems (walkable m f))
listed_short m f systems_all =
    let s = (fine_of m f).systems in
    every_short (system_line m.systems) m.systems s.few (λ r h. system_short m.systems s (walkable m f) r)
listed_short m f links =
    let s = (fine_of m f).systems in
    every_short (link_line m.systems) m.systems s.few (λ r h. link_short m.systems s (walkable m f) r)
listed_short m f resultants =
    let s = (fine_of m f).systems in
    every_short (resultant_line m.systems) m.systems s.few (resultant_short m.systems s (walkable m f))
listed_short m f (resultant_of a) =
    let n = resultant_short m.systems (fine_of m f).systems (walkable m f) (named m a) (named_within m a) in
    rw length-append (omega arith)
listed_short m f (resultant_in a b) =
    let n = relative_short m.systems (fine_of m f).systems (walkable m f) (named m a) (named m b) (named_within m a) (named_within m b) in
    rw length-append (omega arith)
