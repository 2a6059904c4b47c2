-- Document 02 §2, whole: the test for use stops when the name is found.
use Prim.Native.Nat.{ℕ, ◌+◌, ◌≤◌}
use mathlib.Core.Path.{◌≡◌, refl, sym, ap, ◌∙◌}
use mathlib.Core.List.{List, [], ◌∷◌}
use mathlib.Core.Bool.{true, false}
use mathlib.Core.Logic.{⊎_elim}
use native.Mathlib.Omega.{arith}
use lib.ListN.{length, length-map}
use Rattle.model.specs.Types.{StoredState, Ksw, Pair}
use Rattle.model.specs.Lists.{any, up_to, table, same, one_of, Search}
use Rattle.model.specs.Limits.{max_systems}
use Rattle.model.specs.Pose.{origin}
use Rattle.model.specs.Memory.{Memory, State, factory, name_of, no_turn}
use Rattle.model.specs.Use.{looked_at, names_looked_at, use_test}
use Rattle.model.specs.WellFormed.{memory_fine, well_formed}
use Rattle.model.specs.Machine.{Usage, tells_use}
use Rattle.model.specs.Trace.{after_calls, after_inputs}
use Rattle.model.specs.Demand.{start_state}
use Rattle.model.specs.Stored.{holds, view_of, use_answer}
use Rattle.model.specs.Histories.{UsePromise}
use Rattle.model.specs.Looking.{FirstPlace, StopsThere, most_looked, Costs, StopsWhenFound, AskedAgain}
use Rattle.model.proofs.Open.{definitions_open}
use Rattle.model.proofs.Basics.{either, true_false, same→≡}
use Rattle.model.proofs.Searches.{up_to_few, search_hit, search_past, search_missed}
use Rattle.model.proofs.Chains.Counted.{few_looked}
use Rattle.model.proofs.Memories.Fine.{fine_of}
use Rattle.model.proofs.Ladder.Exact.{use_fine}
use Rattle.model.proofs.Histories.InUse.{says_the_same, frames_looked_at, under_enabled_lem, frames_alike}
use Rattle.model.proofs.Histories.Kept.{well_formed_kept}
use Rattle.model.proofs.Histories.Demand3.{demand_3}
use Rattle.model.proofs.Histories.Stored.{begins_held, calls_held, inputs_held, inputs_steady}

-- ---- how many are looked at

-- a search that finds ends at the first place
first_place_lem : (names : List (List ℕ)) (n : List ℕ) → any (same n) names ≡ true → FirstPlace names n (length (up_to (same n) names))
unfolding any one_of
first_place_lem [] n e = true_false (sym e)
first_place_lem (x ∷ names) n e = ⊎_elim now (λ t. later t (first_place_lem names n (rw t at e))) (either (same n x))
  where
    looked : Search → ℕ
    looked s = s.looked

    now : same n x ≡ true → FirstPlace (x ∷ names) n (length (up_to (same n) (x ∷ names)))
    now t = record { front = []; rest = names; parts = ap (λ y. y ∷ names) (sym (same→≡ n x t)); none_before = refl; counted = ap looked (search_hit (same n) x names t) }

    later : same n x ≡ false → FirstPlace names n (length (up_to (same n) names)) → FirstPlace (x ∷ names) n (length (up_to (same n) (x ∷ names)))
    later t f =
        record {
          front = x ∷ f.front;
          rest = f.rest;
          parts = ap (λ y. x ∷ y) f.parts;
          none_before = rw t f.none_before;
          counted = ap looked (search_past (same n) x names t) ∙ omega (arith, f.counted);
        }

stops_there : (m : Memory) (n : List ℕ) → StopsThere m n
unfolding use_test
stops_there m n =
    record {
      found = first_place_lem (names_looked_at m) n;
      missed = λ e. ap (λ (s : Search). s.looked) (search_missed (same n) (names_looked_at m) e);
    }

few_names : (m : Memory) → memory_fine m ≡ true → (n : List ℕ) → (use_test m n).looked ≤ most_looked
unfolding use_test
few_names m f n =
    omega (arith, up_to_few (same n) (names_looked_at m), length-map (looked_at m) (name_of m.systems), few_looked m (fine_of m f))

-- sixteen KSWs on one another, the last one enabled with the substitute ZERO for a tool, and a name that is not there
longest : Memory
longest =
    record {
      systems = table max_systems (λ i. record { kind = Ksw; name = (65 + i) ∷ []; offset = origin; turns = no_turn; pred = i });
      enabled = record { operating = Pair max_systems 0; orientational = 0; levelling = 0 };
    }

longest_costs : Costs most_looked
unfolding longest definitions_open
longest_costs = record { memory = longest; name = []; fine = refl; looked = refl }

-- three fixed systems
factory_three : (n : List ℕ) → (use_test factory n).found ≡ false → (use_test factory n).looked ≡ 3
unfolding definitions_open
factory_three n e = (stops_there factory n).missed e

pub stops_when_found : StopsWhenFound
stops_when_found =
    record {
      says = λ m f. says_the_same m (fine_of m f);
      stops = stops_there;
      most = few_names;
      reached = longest_costs;
      factory_costs = factory_three;
      order = frames_looked_at;
      under = under_enabled_lem;
      still = frames_alike;
    }

-- ---- the same after a second list

-- what the question promises of a well-formed state
use_promised : (s : StoredState) (st : State) → view_of s ≡ holds st → well_formed st ≡ true → (n : List ℕ) (r : Usage) → UsePromise s n r → r ≡ tells_use (use_test st.volatile n)
unfolding use_answer
use_promised s st h w n r p = p ∙ rw h (use_fine st n w)

pub asked_again : AskedAgain
unfolding after_inputs
asked_again start first second numbers s₀ s s' begun calls lines still n r r' p p' =
    let st = after_calls (start_state start) first in
    let st' = after_inputs st second in
    let h = calls_held (start_state start) (begins_held begun) calls in
    let h' = inputs_held st h lines in
    let d = demand_3 start first second (inputs_steady st h lines still) in
    use_promised s' st' h' (well_formed_kept.history start first second) n r' p'
    ∙ ap tells_use (frames_alike st'.volatile st.volatile d.still n)
    ∙ sym (use_promised s st h (well_formed_kept.history start first []) n r p)
