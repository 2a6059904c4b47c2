-- The checklist's fourth item: what an accepted WPA saved is back after a restart or a start from the image, and every listing with it.
use Prim.Native.Nat.{ℕ, ◌≤◌}
use mathlib.Core.Path.{◌≡◌, refl, ap, ◌∙◌}
use mathlib.Core.List.{List}
use mathlib.Core.Bool.{true}
use borrow.Author.Tests.{le-ltb}
use lib.ListN.{length, take, drop}
use lib.Seq.{take-append_seam}
use Rattle.model.specs.Limits.{buffer_limit}
use Rattle.model.specs.Memory.{State, started}
use Rattle.model.specs.WellFormed.{well_formed}
use Rattle.model.specs.Request.{reading}
use Rattle.model.specs.Refusals.{short, query_ladder}
use Rattle.model.specs.Reply.{listed}
use Rattle.model.specs.Image.{image}
use Rattle.model.specs.Machine.{Begun, began, stepped, restart, write_image, start_image}
use Rattle.model.specs.Trace.{Input, after_inputs}
use Rattle.model.specs.Demand.{none_taken}
use Rattle.model.specs.Checklist.{asks_to_save, ListsAlike, start_from, switched_on, SavedComesBack}
use Rattle.model.proofs.Ladder.Refusing.{restart_fine, image_fine}
use Rattle.model.proofs.Edits.Saving.{permanent_read, line_permanent}
use Rattle.model.proofs.Histories.Untaken.{untaken_inputs}
use Rattle.model.proofs.Ladder.Queries.{query_alike}
use Rattle.model.proofs.Memories.Fine.{state_of_lem}
use Rattle.model.proofs.Ladder.Exact.{start_some}
use Rattle.model.proofs.Image.Exactly.{reads_back}
use Rattle.model.proofs.Histories.Kept.{well_formed_kept}

-- ---- the permanent memory, from one save to the next

pub saved_line : (st : State) (line b : List ℕ) → asks_to_save (reading line) ≡ true → (stepped st line b).number ≡ 0 →
    (stepped st line b).state.permanent ≡ st.volatile
saved_line st line b s z = line_permanent st line b ∙ rw (s, z)

unsaved_inputs : (st : State) (cs : List Input) → none_taken asks_to_save st cs ≡ true → (after_inputs st cs).permanent ≡ st.permanent
unsaved_inputs = untaken_inputs asks_to_save (λ st. st.permanent) (λ st n. refl) (λ st p. refl) (λ st line b w z e. permanent_read st (reading line) b ∙ rw e)

-- ---- listings depend on the volatile memory alone

pub lists_alike : (st st' : State) → well_formed st ≡ true → well_formed st' ≡ true → st'.volatile ≡ st.volatile → ListsAlike st st'
lists_alike st st' w w' e line b q asked = query_alike line b q asked st st' w w' (ap (λ m. query_ladder m q) e) (ap (λ m. listed m q) e)

-- ---- back

-- a start from the image that a well-formed state writes
pub image_back : (st : State) → well_formed st ≡ true → (b : List ℕ) → buffer_limit ≤ length b →
    start_from (write_image st b) ≡ began (started st.permanent) 0
unfolding short
image_back st w b h =
    let m = st.permanent in
    let o = image_fine st b w (le-ltb (length b) buffer_limit h) in
    let t : take (write_image st b).count (write_image st b).buffer ≡ image m = rw o (take-append_seam (image m) (drop (length (image m)) b)) in
    ap start_image t ∙ start_some (image m) m (reads_back m (state_of_lem st w).permanent)

pub saved_comes_back : (st : State) → well_formed st ≡ true → SavedComesBack st
saved_comes_back st w line b s z later none =
    let after = (stepped st line b).state in
    let end = after_inputs after later in
    let w₁ = well_formed_kept.line st line b w in
    let w₂ = well_formed_kept.inputs after later w₁ in
    let kept : end.permanent ≡ st.volatile = unsaved_inputs after later none ∙ saved_line st line b s z in
    let back : (restart end).state.volatile ≡ st.volatile = ap (λ (o : Begun). o.state.volatile) (restart_fine end w₂) ∙ kept in
    let again : (c : List ℕ) → buffer_limit ≤ length c → (switched_on (write_image end c)).volatile ≡ st.volatile =
    λ c h. ap (λ (o : Begun). o.state.volatile) (image_back end w₂ c h) ∙ kept in
    record {
      memory = back;
      lists = lists_alike st (restart end).state w (well_formed_kept.restarting end w₂) back;
      image_memory = again;
      image_lists = λ c h. lists_alike st _ w (well_formed_kept.image _) (again c h);
    }
