-- Document 01, "Memory and state" and "Poses and chains": chains. One definition, `hop`; all the rest is said with it.
use Rattle.model.specs.Base.{ℕ, zero, suc, List, Bool, eqb, length}
use Rattle.model.specs.Lists.{all, any, table, least}
use Rattle.model.specs.Pose.{Pose, rot_of, neutral, followed, inverse}
use Rattle.model.specs.Memory.{System, system_at}

-- [Memory 2, 3] the place of a system's predecessor; a fixed system's chain ends where it is
unfoldable pub pred_of : List System → ℕ → ℕ
pred_of l zero = zero
pred_of l (suc i) = (system_at l (suc i)).pred

-- [Memory 3] the place after so many links from place q
unfoldable pub hop : List System → ℕ → ℕ → ℕ
hop l zero q = q
hop l (suc i) q = hop l i (pred_of l q)

-- [Poses; Two lists 2] the steps of a chain: the links to the fixed system
unfoldable pub steps : List System → ℕ → ℕ
steps l q = least (suc (length l)) (λ i. eqb (hop l i q) 0)

-- [Memory 3] the chain of the system at place q: its predecessor's place, that one's, and so on to the fixed system's
unfoldable pub chain : List System → ℕ → List ℕ
chain l q = table (steps l q) (λ i. hop l (suc i) q)

-- [Memory 3] place a is on the chain of place q
unfoldable pub on_chain : List System → ℕ → ℕ → Bool
on_chain l a q = any (eqb a) (chain l q)

-- [Memory 4] no chain is a ring: from every place the fixed system is reached, in no more links than there are systems
unfoldable pub no_ring : List System → Bool
no_ring l = all (λ q. eqb (hop l (length l) q) 0) (table (suc (length l)) (λ q. q))

-- [Poses] the own pose of the k-th user system
unfoldable pub own_pose : List System → ℕ → Pose
own_pose l k = record { at = (system_at l k).offset; rot = rot_of (system_at l k).turns }

-- [Poses] the pose over so many links: the predecessor's, followed by the own one
unfoldable pub pose_over : List System → ℕ → ℕ → Pose
pose_over l zero q = neutral
pose_over l (suc i) q = followed (pose_over l i (pred_of l q)) (own_pose l q)

-- [Poses] the resultant of the system at place q
unfoldable pub resultant : List System → ℕ → Pose
resultant l q = pose_over l (steps l q) q

-- [02 §3] the pose of the system at place a in the one at place b: the resultant of b undone, then that of a
unfoldable pub pose_in : List System → ℕ → ℕ → Pose
pose_in l a b = followed (inverse (resultant l b)) (resultant l a)
